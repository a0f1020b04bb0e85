use Rattle.std.proofs.Common.{List, sym, subst}
use Rattle.lx_auto.specs.declared.automaton.Held.{Held}
use Rattle.lx_auto.specs.declared.ops.Op.{Op}
use Rattle.lx_regs.specs.Growth.{Grows, IsDueForSome}
use Rattle.lx_regs.specs.Items.{IsAcceptedBy, IsReadAt}
use Rattle.lx_regs.proofs.items.add_accept.Goals as goal

pub returns-in_ok-add_reads-in-Some : goal.returns-in_ok-add_reads-in-Some
returns-in_ok-add_reads-in-Some c =
    let accept = c.in-Some.accept in
    let old = c.args.found.now in
    let new = c.add_reads.new.found in
    subst (λ a. Grows (IsAcceptedBy c.args.state a) old new) (sym c.in-Some.is)
    (subst (λ (values : List Held). Grows (IsDueForSome values (IsReadAt c.args.state accept.ops)) old new) c.as_slice-in-Some.ensures
    (subst (λ (ops : List Op). Grows (IsDueForSome c.as_slice-in-Some.result.now (IsReadAt c.args.state ops)) old new) c.as_slice.ensures
    c.in_ok-add_reads-in-Some.ensures))
