use Rattle.std.proofs.Common.{◌≡◌, ◌<◌, ◌++◌, ◌∷◌, [], List, length, ap, sym, ◌∙◌, subst, take, arith}
use Rattle.std.proofs.lemmas.List.{get_or_default}
use Rattle.lx_auto.specs.declared.automaton.State.{State}
use Rattle.lx_auto.proofs.States.{state_of-read}
use Rattle.lx_regs.specs.declared.folding.Fold.{Fold}
use Rattle.lx_regs.specs.FoldedEdges.{AreFolded, folds_at, unfolded_state, unfolded_states}
use Rattle.lx_regs.proofs.FoldedEdges.FoldSteps.{taken-unfolded}
use Rattle.lx_regs.proofs.folding.unfolded_states.Goals as goal

pub bounds-lists-number : goal.bounds-lists-number
bounds-lists-number c = omega (arith, c.requires.count, c.loop-number-test.true)

pub unfolded_state-requires : goal.unfolded_state-requires
unfolded_state-requires c =
    let states = c.args.states.now in
    let lists = c.args.lists.now in
    let number = c.loop-number.number in
    let within : number < length lists = omega (arith, c.requires.count, c.loop-number-test.true) in
    let read = state_of-read states number c.index-states-number.result c.loop-number-test.true c.index-states-number.is in
    let folds : c.as_slice.result.now ≡ folds_at lists number =
    c.as_slice.ensures ∙ c.index-lists-number.is ∙ get_or_default lists number c.index-lists-number.result [] within in
    subst (λ (l : List Fold). AreFolded c.index-states-number.result.edges l) (sym folds)
    (subst (λ (s : State). AreFolded s.edges (folds_at lists number)) (sym read) (c.requires.folded number))

pub loop-number-preserved : goal.loop-number-preserved
loop-number-preserved c =
    let states = c.args.states.now in
    let lists = c.args.lists.now in
    let number = c.loop-number.number in
    let within : number < length lists = omega (arith, c.requires.count, c.loop-number-test.true) in
    let folds : c.as_slice.result.now ≡ folds_at lists number =
    c.as_slice.ensures ∙ c.index-lists-number.is ∙ get_or_default lists number c.index-lists-number.result [] within in
    let before : c.loop-number.answer ≡ unfolded_states (take number states) (take number lists) = c.loop-number.invariant in
    let one : c.in_ok-unfolded_state.field-0 ≡ unfolded_state c.index-states-number.result c.as_slice.result.now =
    c.in_ok-unfolded_state.ensures in
    let pushed : c.push.new.self ≡ c.loop-number.answer ++ c.in_ok-unfolded_state.field-0 ∷ [] = c.in_ok-push.ensures.pushed in
    pushed ∙ ap (λ (l : List State). l ++ c.in_ok-unfolded_state.field-0 ∷ []) before
    ∙ ap (λ (s : State). unfolded_states (take number states) (take number lists) ++ s ∷ []) one
    ∙ sym (taken-unfolded states lists number c.index-states-number.result c.as_slice.result.now c.requires.count c.loop-number-test.true
    c.index-states-number.is folds)
