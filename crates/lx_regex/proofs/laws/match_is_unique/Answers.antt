use Rattle.lx_regex.proofs.laws.match_is_unique.Goals as goal
use Rattle.lx_regex.proofs.Trees.OneMatch.{match_is_unique}

pub returns : goal.returns
returns c policy enc patterns stream start outcome other is is' = match_is_unique policy enc patterns stream start outcome other is is'
