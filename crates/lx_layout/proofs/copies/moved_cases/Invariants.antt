use Rattle.std.proofs.Common.{◌≡◌, ◌++◌, drop}
use Rattle.std.specs.Prelude.{map}
use Rattle.lx_layout.specs.Copies.{moved_case}
use Rattle.lx_layout.proofs.copies.moved_cases.Given as goal

abbrev pub invariant-loop-case : goal.invariant-loop-case
invariant-loop-case l =
    l.copy.items ++ map (moved_case l.by) (drop l.case-index l.cases) ≡ map (moved_case l.by) l.cases
