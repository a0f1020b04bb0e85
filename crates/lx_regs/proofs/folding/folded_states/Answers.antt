use Rattle.std.proofs.Common.{◌≡◌, ◌+◌, ◌++◌, ◌∷◌, [], List, ap, sym, ◌∙◌, subst, take, take_all}
use Rattle.std.proofs.lemmas.List.{take_more}
use Rattle.lx_auto.specs.declared.automaton.State.{State}
use Rattle.lx_regs.specs.declared.folding.Fold.{Fold}
use Rattle.lx_regs.specs.FoldedEdges.{AreFoldedStates}
use Rattle.lx_regs.proofs.FoldedEdges.FoldSteps.{AreFoldedStates-empty, states-pushed}
use Rattle.lx_regs.proofs.folding.folded_states.Goals as goal

pub loop-state-init : goal.loop-state-init
loop-state-init c =
    subst (λ (l : List (List Fold)). AreFoldedStates [] c.new-kept.result l) (sym c.new-lists.ensures)
    (subst (λ (k : List State). AreFoldedStates [] k []) (sym c.new-kept.ensures) AreFoldedStates-empty)

pub loop-state-preserved : goal.loop-state-preserved
loop-state-preserved c =
    let states = c.args.states.now in
    let place = c.loop-state.state-index in
    let state = c.state-item.result in
    let folded = c.in_ok-folded.folded in
    let front : List State = take place states ++ state ∷ [] in
    let more : take (place + 1) states ≡ front =
    take_more states place state c.loop-state-test.true ∙ ap (λ (s : State). take place states ++ s ∷ []) (sym c.state-item.is) in
    subst (λ (l : List State). AreFoldedStates l c.push.new.self c.push-in-loop-state.new.self) (sym more)
    (subst (λ (k : List State). AreFoldedStates front k c.push-in-loop-state.new.self) (sym c.in_ok-push.ensures.pushed)
    (subst (λ (l : List (List Fold)). AreFoldedStates front (c.loop-state.kept ++ folded.state ∷ []) l) (sym c.in_ok-push-2.ensures.pushed)
    (states-pushed (take place states) c.loop-state.kept c.loop-state.lists state folded.state folded.folds c.loop-state.invariant
    c.in_ok-folded.ensures)))

pub returns : goal.returns
returns c =
    subst (λ (l : List State). AreFoldedStates l c.loop-state.kept c.loop-state.lists)
    (take_all c.loop-state.state-index c.args.states.now c.loop-state-test.false) c.loop-state.invariant
