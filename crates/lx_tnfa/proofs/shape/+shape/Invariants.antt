use Rattle.std.proofs.Common.{take}
use Rattle.lx_regex.proofs.Trees.NoUnits.{terms_in}
use Rattle.lx_tnfa.specs.Shapes.{HaveShapes}
use Rattle.lx_tnfa.proofs.shape.+shape.Given as goal

abbrev pub invariant-shapes_of-loop-member : goal.invariant-shapes_of-loop-member
invariant-shapes_of-loop-member l = HaveShapes (terms_in l.tags (take l.member-index l.members)) l.shapes.items
