use Rattle.std.proofs.Common.{length, sym, subst}
use Rattle.lx_auto.specs.Automaton.{AreHeld}
use Rattle.lx_cover.proofs.MachineSteps.{accept-fit}
use Rattle.lx_cover.proofs.machine.Machine.taken_left.Goals as goal

pub values-requires : goal.values-requires
values-requires c =
    let registers = c.args.self.now.registers in
    subst (λ l. AreHeld (length registers.values.items) (length registers.histories.items) l) (sym c.as_slice.ensures)
    (accept-fit c.args.auto.now registers c.requires.machine.registers c.requires.formed c.in-Some.left.state c.state_at.result.now
    c.state_at.ensures c.in-Some-accept.accept c.in-Some-accept.is).1
