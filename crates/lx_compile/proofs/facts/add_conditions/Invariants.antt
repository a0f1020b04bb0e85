use Rattle.std.proofs.Common.{◌≡◌, drop}
use Rattle.lx_compile.specs.Facts.{with_conditions}
use Rattle.lx_compile.specs.Making.{seen_conditions}
use Rattle.lx_compile.proofs.facts.add_conditions.Given as goal

abbrev pub invariant-loop-case : goal.invariant-loop-case
invariant-loop-case l =
    with_conditions (seen_conditions l.conds) (drop l.case-index l.cases) ≡ with_conditions (seen_conditions l.initial.conds) l.cases
