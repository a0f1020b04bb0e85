use Rattle.lx_tnfa.proofs.Searching.TakenWalks.{plain_taken}
use Rattle.lx_tnfa.proofs.laws.plain_walks_are_those_of_closures.Goals as goal

pub returns : goal.returns
returns c enc patterns tnfa places place from before choices to state walk is fits begins goes once takes =
    plain_taken enc patterns tnfa is fits places place from begins before choices to state walk goes once takes
