use Rattle.lx_posix.proofs.Course.PlaceRules.{one_kernel_kept, one_owner, ranked-rule}
use Rattle.lx_posix.proofs.laws.places_tell_rules.Goals as goal

pub returns-clause-kept : goal.returns-clause-kept
returns-clause-kept c enc patterns tnfa word index ranked of fits at = ranked-rule enc patterns tnfa of fits word index ranked at

pub returns-clause-owner : goal.returns-clause-owner
returns-clause-owner c enc patterns tnfa place other of is too same = one_owner enc patterns tnfa of place other is too same

pub returns-clause-kernel : goal.returns-clause-kernel
returns-clause-kernel c enc patterns tnfa kernel other ranks of keeps too =
    one_kernel_kept enc patterns tnfa of kernel other ranks keeps too
