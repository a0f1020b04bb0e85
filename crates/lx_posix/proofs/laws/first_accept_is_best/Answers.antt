use Rattle.lx_posix.proofs.Ends.FirstAccept.{accept_is_best}
use Rattle.lx_posix.proofs.Kernels.PosixKernels.{from_posix}
use Rattle.lx_posix.proofs.laws.first_accept_is_best.Goals as goal

pub returns : goal.returns
returns c enc rules x w kernel place cut rest e tree is accept at f =
    accept_is_best enc rules x w kernel place cut rest e tree (from_posix enc rules x w kernel is) accept at f
