use Rattle.std.proofs.Common.{List, ℕ, subst}
use Rattle.std.specs.List.{AllByRecursion}
use Rattle.lx_ccode.specs.Validity.{IsByte}
use Rattle.lx_dispatch.proofs.Tables.{IsTable-same}
use Rattle.lx_dispatch.proofs.unit_sets.mark.Goals as goal

pub returns : goal.returns
returns c =
    IsTable-same c.args.table.now.items c.loop-unit.table.items c.requires.table c.loop-unit.invariant
    (subst (λ (l : List ℕ). AllByRecursion IsByte l) c.as_slice.ensures.value c.see_bytes.ensures)
