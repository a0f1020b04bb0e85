use Rattle.std.proofs.Common.{rules, List, sym, subst}
use Rattle.std.proofs.lemmas.List.Sorted.{answers_always}
use Rattle.lx_regs.specs.declared.live.Usage.{Usage}
use Rattle.lx_regs.specs.LiveSets.{AreInOrder}
use Rattle.lx_regs.proofs.LiveRegisters.UsageOrder.{in_order-sorted}
use Rattle.lx_regs.proofs.live.in_order.Goals as goal

pub returns-clause-order : goal.returns-clause-order
returns-clause-order c =
    subst (λ (usages : List Usage). AreInOrder usages) (sym c.from_vec.ensures)
    (in_order-sorted c.sort_unstable_by_key.new.self.items
    (c.sort_unstable_by_key.ensures.sorted (λ (usage : Usage). usage.key) (answers_always _ _ _ (λ f a r g h. search rules))))
