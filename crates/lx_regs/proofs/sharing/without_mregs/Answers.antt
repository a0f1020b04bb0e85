use Rattle.std.proofs.Common.{length, subst, sym}
use Rattle.lx_auto.specs.Automaton.{AreStates}
use Rattle.lx_regs.proofs.SharedNames.TightNames.{shared-no_mregs}
use Rattle.lx_regs.proofs.sharing.without_mregs.Goals as goal

pub returns : goal.returns
returns c = λ names counted.
    let auto = c.args.auto.now in
    let counts = c.args.counts in
    record {
      states = subst (λ l. AreStates counts.most_regs 1 (length auto.states) l) c.as_slice.ensures
          (c.states_fit.ensures c.if-not-states_fit.false counts.most_regs counts.most_mregs (length auto.states)
          (subst (λ l. AreStates counts.most_regs counts.most_mregs (length auto.states) l) (sym c.as_slice.ensures) counted.states));
      shared = shared-no_mregs auto names counts.most_regs counts.most_mregs counts.regs counts.mregs counted.shared;
    }
