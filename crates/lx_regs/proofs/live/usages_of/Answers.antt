use Rattle.std.proofs.Common.{List, length, ap, arith, subst}
use Rattle.std.proofs.lemmas.Result.{IfOk-weaker}
use Rattle.std.specs.Prelude.{Contains}
use Rattle.lx_regs.specs.declared.items.Item.{Item}
use Rattle.lx_regs.specs.Liveness.{AreSorted}
use Rattle.lx_regs.proofs.LiveRegisters.UsageOrder.{sorted-ordered}
use Rattle.lx_regs.proofs.live.usages_of.Goals as goal

pub by_state-requires : goal.by_state-requires
by_state-requires c = λ item has.
    let right = c.in_ok-items.ensures.begun.sound item (subst (λ (l : List Item). Contains l item) c.as_slice-2.ensures has) in
    let l = ap length c.as_slice.ensures in
    omega (arith, right.state, l)

pub returns : goal.returns
returns c =
    let count = ap length c.as_slice.ensures in
    let items = c.in_ok-items.items in
    let lists = c.in_ok-lists.lists.items in
    let sorted : AreSorted (length c.args.auto.now.states) items lists =
    subst (λ n. AreSorted n items lists) count
    (subst (λ (l : List Item). AreSorted (length c.as_slice.result.now) l lists) c.as_slice-2.ensures c.in_ok-lists.ensures) in
    IfOk-weaker c.each_in_order.result _ _
    (λ usages ordered. record {
      items = items;
      live = c.in_ok-items.ensures;
      sorted = sorted-ordered lists usages.items (length c.args.auto.now.states) items ordered sorted;
      order = ordered.order;
    })
    c.each_in_order.ensures
