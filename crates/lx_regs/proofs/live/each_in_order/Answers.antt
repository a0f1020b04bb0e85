use Rattle.std.proofs.Common.{◌++◌, ◌∷◌, [], List, sym, subst}
use Rattle.lx_regs.specs.declared.live.Usage.{Usage}
use Rattle.lx_regs.specs.LiveSets.{AreOrdered}
use Rattle.lx_regs.proofs.LiveRegisters.UsageOrder.{ordered-more}
use Rattle.lx_regs.proofs.live.each_in_order.Goals as goal

pub loop-usages-preserved : goal.loop-usages-preserved
loop-usages-preserved c =
    let lists = c.loop-usages.yielded in
    let ordered = c.loop-usages.ordered.items in
    subst (λ (l : List (List Usage)). AreOrdered (lists ++ c.in-Some.usages ∷ []) l) (sym c.in_ok-push.ensures.items)
    (ordered-more lists ordered c.in-Some.usages c.in_order.result (c.in_order.ensures.same, c.in_order.ensures.order)
    c.loop-usages.invariant)
