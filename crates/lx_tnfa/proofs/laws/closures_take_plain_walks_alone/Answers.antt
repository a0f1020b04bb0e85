use Rattle.lx_tnfa.proofs.Searching.FoundWalks.{plain_found}
use Rattle.lx_tnfa.proofs.laws.closures_take_plain_walks_alone.Goals as goal

pub returns : goal.returns
returns c enc patterns tnfa state choices visited events to is later walk once alive =
    plain_found enc patterns tnfa is state choices visited events to later walk once alive
