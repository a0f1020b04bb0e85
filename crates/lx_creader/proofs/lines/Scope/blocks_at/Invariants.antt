use Rattle.std.proofs.Common.{◌≡◌, ◌++◌, ◌<◌, length, map}
use Rattle.std.specs.Prelude.{◌||◌}
use Rattle.std.specs.List.{AllByRecursion}
use Rattle.lx_ccode.specs.Reading.{blocks_at}
use Rattle.lx_creader.specs.BlockParts.{manner_of}
use Rattle.lx_creader.specs.Fitted.{fitted_block}
use Rattle.lx_creader.proofs.lines.Scope.blocks_at.Given as goal

abbrev pub invariant-loop-left : goal.invariant-loop-left
invariant-loop-left l =
    (l.blocks.items ++ map fitted_block (blocks_at l.left l.fuel (manner_of l.self) l.bytes).0 ≡ map fitted_block (blocks_at l.fuel l.fuel (manner_of l.self) l.fn.bytes).0)
    × ((l.ctx || (blocks_at l.left l.fuel (manner_of l.self) l.bytes).1) ≡ (blocks_at l.fuel l.fuel (manner_of l.self) l.fn.bytes).1)
    × ((blocks_at l.left l.fuel (manner_of l.self) l.bytes).2 ≡ (blocks_at l.fuel l.fuel (manner_of l.self) l.fn.bytes).2)
    × (AllByRecursion (λ block. 0 < length block.stmts) (blocks_at l.fuel l.fuel (manner_of l.self) l.fn.bytes).0 → AllByRecursion (λ block. 0 < length block.stmts) (blocks_at l.left l.fuel (manner_of l.self) l.bytes).0)

abbrev pub decreases-loop-left : goal.decreases-loop-left
decreases-loop-left l = l.left
