use Rattle.lx_posix.proofs.Course.PosixCourse.{posix_course}
use Rattle.lx_posix.proofs.laws.posix_lists_go_on.Goals as goal

pub returns-clause-places : goal.returns-clause-places
unfolding posix_course
returns-clause-places c enc patterns tnfa word unit of fits = (posix_course enc patterns tnfa of fits).onward word unit

pub returns-clause-none : goal.returns-clause-none
unfolding posix_course
returns-clause-none c enc patterns tnfa word of fits ne = (posix_course enc patterns tnfa of fits).begins word ne
