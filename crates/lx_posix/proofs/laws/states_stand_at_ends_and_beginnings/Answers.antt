use Rattle.lx_posix.proofs.CodeStarts.ClosedPlaces.{place_begins, place_closes}
use Rattle.lx_posix.proofs.laws.states_stand_at_ends_and_beginnings.Goals as goal

pub returns-clause-ends : goal.returns-clause-ends
returns-clause-ends c enc patterns tnfa word deep index ranked of fits some depths at within =
    place_closes enc patterns tnfa of fits word deep some depths index ranked at within

pub returns-clause-beginnings : goal.returns-clause-beginnings
returns-clause-beginnings c enc patterns tnfa deep index ranked of fits depths at within =
    place_begins enc patterns tnfa of fits deep depths index ranked at within
