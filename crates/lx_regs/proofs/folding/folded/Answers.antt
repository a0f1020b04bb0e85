use Rattle.std.proofs.Common.{List, subst}
use Rattle.lx_auto.specs.declared.automaton.State.{State}
use Rattle.lx_regs.specs.FoldedEdges.{AreFoldedStates}
use Rattle.lx_regs.proofs.FoldedEdges.UnfoldedStates.{IsAuto-folded}
use Rattle.lx_regs.proofs.folding.folded.Goals as goal

pub returns-clause-formed : goal.returns-clause-formed
returns-clause-formed c =
    let folded = c.in_ok-folded.folded in
    IsAuto-folded c.args.auto folded.states folded.lists c.requires
    (subst (λ (l : List State). AreFoldedStates l folded.states folded.lists) c.as_slice.ensures c.in_ok-folded.ensures)

pub returns-clause-folding : goal.returns-clause-folding
returns-clause-folding c =
    let folded = c.in_ok-folded.folded in
    let are : AreFoldedStates c.args.auto.states folded.states folded.lists =
    subst (λ (l : List State). AreFoldedStates l folded.states folded.lists) c.as_slice.ensures c.in_ok-folded.ensures in
    record {
      count = are.count;
      again = λ i. record { states = are.again i; regs = c.args.auto.regs; mregs = c.args.auto.mregs };
      folded = are.folded;
    }
