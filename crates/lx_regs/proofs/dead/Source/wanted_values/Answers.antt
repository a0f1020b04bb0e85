use Rattle.std.proofs.Common.{Contains, sym, subst}
use Rattle.std.specs.Prelude.{◌↔◌}
use Rattle.lx_auto.specs.declared.automaton.Held.{Held}
use Rattle.lx_auto.specs.Live.{AtSomePoint}
use Rattle.lx_regs.specs.KeptLists.{IsListed}
use Rattle.lx_regs.proofs.CutOperations.CutSteps.{values-wanted}
use Rattle.lx_regs.proofs.dead.Source.wanted_values.Goals as goal

pub returns-then-self-state : goal.returns-then-self-state
returns-then-self-state c =
    let auto = c.args.self.now.auto.now in
    let values = c.args.accept.now.values in
    subst (λ wanted. (held : Held) → IsListed wanted held ↔ AtSomePoint auto c.args.state (λ point. Contains values held))
    (sym c.as_slice.ensures)
    (values-wanted auto c.args.state c.args.self.now.met.now values c.requires.source.met c.if-self-state.true)
