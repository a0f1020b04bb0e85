use Rattle.lx_posix.proofs.Worked.{a_bcd, ab_c_d, empty_iteration, longer_member, once, once_and_empty}
use Rattle.lx_posix.proofs.examples.examples_hold.Goals as goal

pub returns-clause-members : goal.returns-clause-members
returns-clause-members c = (ab_c_d, a_bcd, longer_member)

pub returns-clause-iterations : goal.returns-clause-iterations
returns-clause-iterations c = (once_and_empty, once, empty_iteration)
