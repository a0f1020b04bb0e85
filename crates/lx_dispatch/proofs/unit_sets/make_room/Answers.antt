use Rattle.std.proofs.Common.{List, ℕ, arith, subst}
use Rattle.std.specs.List.{AllByRecursion}
use Rattle.lx_ccode.specs.Validity.{IsByte}
use Rattle.lx_dispatch.proofs.Tables.{IsTable-more}
use Rattle.lx_dispatch.proofs.unit_sets.make_room.Goals as goal

pub returns : goal.returns
returns c =
    IsTable-more c.args.table.now.items c.loop.table.items c.args.number c.requires.few (omega (arith, c.len.ensures, c.args.table.now.ok.0))
    (omega (arith, c.loop.invariant)) (subst (λ (l : List ℕ). AllByRecursion IsByte l) c.as_slice.ensures.value c.see_bytes.ensures)
