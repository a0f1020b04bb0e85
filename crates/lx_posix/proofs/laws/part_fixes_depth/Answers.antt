use Rattle.lx_posix.proofs.Fronts.PartDepth.{part_depth}
use Rattle.lx_posix.proofs.laws.part_fixes_depth.Goals as goal

pub returns : goal.returns
returns c enc rules j k p q same part ij ik gj gk = part_depth enc rules j k p q same part ij ik gj gk
