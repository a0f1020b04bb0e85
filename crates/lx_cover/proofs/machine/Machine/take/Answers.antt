use Rattle.std.proofs.Common.{length, sym, subst}
use Rattle.lx_auto.specs.Automaton.{AreOps}
use Rattle.lx_cover.proofs.MachineSteps.{leave-fit}
use Rattle.lx_cover.proofs.machine.Machine.take.Goals as goal

pub act-requires : goal.act-requires
act-requires c =
    let registers = c.args.self.now.registers in
    subst (λ l. AreOps (length registers.values.items) (length registers.histories.items) l) (sym c.as_slice.ensures)
    (leave-fit c.args.auto.now registers c.requires.machine.registers c.requires.formed c.args.self.now.state c.state_at-state.result.now
    c.state_at-state.ensures)
