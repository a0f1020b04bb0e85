use Rattle.lx_posix.proofs.Steps.KeptInParts.{kept_in_parts}
use Rattle.lx_posix.proofs.laws.walk_keeps_in_parts.Goals as goal

pub returns : goal.returns
returns c k y z q = kept_in_parts k y z q
