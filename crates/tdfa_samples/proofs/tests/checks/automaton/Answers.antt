use Rattle.std.proofs.Common.{◌≡◌, ◌+◌, [], length, sym, subst, arith}
use Rattle.std.proofs.lemmas.List.{append-nil}
use Rattle.lx_auto.specs.Automaton.{AreStates}
use Rattle.tdfa_samples.proofs.tests.checks.automaton.Goals as goal

pub returns : goal.returns
returns c =
    let states = c.loop-number.states in
    let count = c.from-count.result + 1 in
    let long : length states ≡ count = omega arith in
    record {
      start = omega arith;
      few = omega arith;
      few_regs = omega arith;
      few_mregs = omega arith;
      states =
          subst (λ n. AreStates 0 0 n states) (sym long)
          (subst (λ l. AreStates 0 0 count l) (append-nil states) (c.loop-number.invariant.formed [] tt));
    }
