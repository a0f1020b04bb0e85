use Rattle.lx_tnfa.proofs.Leaves.LeafChoices.{some_taken}
use Rattle.lx_tnfa.proofs.laws.walks_come_to_their_leaves.Goals as goal

pub returns : goal.returns
returns c enc patterns tnfa rule state walk is fits = some_taken enc patterns tnfa is fits rule walk
