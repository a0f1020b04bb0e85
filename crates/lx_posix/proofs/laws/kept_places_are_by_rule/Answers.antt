use Rattle.lx_posix.proofs.CodeStarts.RanksByRule.{ranks_by_rule}
use Rattle.lx_posix.proofs.laws.kept_places_are_by_rule.Goals as goal

pub returns : goal.returns
returns c enc patterns tnfa word of fits = ranks_by_rule enc patterns tnfa of fits word
