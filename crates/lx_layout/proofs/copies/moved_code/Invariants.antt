use Rattle.std.proofs.Common.{◌≡◌, ◌++◌, drop}
use Rattle.std.specs.Prelude.{map}
use Rattle.lx_layout.specs.Copies.{moved}
use Rattle.lx_layout.proofs.copies.moved_code.Given as goal

abbrev pub invariant-loop-statement : goal.invariant-loop-statement
invariant-loop-statement l =
    l.copy.items ++ map (moved l.by l.stored) (drop l.statement-index l.code) ≡ map (moved l.by l.stored) l.code
