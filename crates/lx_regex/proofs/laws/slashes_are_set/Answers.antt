use Rattle.lx_regex.proofs.laws.slashes_are_set.Goals as goal
use Rattle.lx_regex.proofs.Trees.SlashEvents.{slash_set}

pub returns : goal.returns
returns c enc pattern slash start part tree regular is = slash_set enc pattern slash start part tree regular is
