use Rattle.std.proofs.Common.{List, length, subst, sym}
use Rattle.lx_auto.specs.declared.automaton.State.{State}
use Rattle.lx_layout.specs.Plans.{HaveOrder}
use Rattle.lx_layout.proofs.BlockLayouts.BlockLoops.{states_ordered}
use Rattle.lx_layout.proofs.state_plans.part_plans.Goals as goal

pub plans_of-requires : goal.plans_of-requires
plans_of-requires c =
    let auto = c.args.input.now.auto.now in
    subst (λ (l : List State). HaveOrder l) (sym c.as_slice.ensures)
    (states_ordered auto.regs auto.mregs (length auto.states) auto.states c.requires.states)
