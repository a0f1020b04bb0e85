-- What holds of the answer with one edge for each class holds with all edges.
use Rattle.std.proofs.Common.{◌≡◌, ℕ, IfOk, Result, Ok, Err, List, length, ap, sym, ◌∙◌, subst}
use Rattle.std.proofs.lemmas.List.{length-map}
use Rattle.lx_auto.specs.declared.automaton.Auto.{Auto}
use Rattle.lx_auto.specs.Automaton.{IsAuto, state_of}
use Rattle.lx_auto.specs.Live.{AllInterfere, EachTargetIsRead}
use Rattle.lx_auto.specs.SameRun.{HasSameRun}
use Rattle.lx_regs.specs.declared.folding.Fold.{Fold}
use Rattle.lx_regs.specs.FoldedEdges.{AreFolded, IsFolding, folds_at, unfolded_auto}
use Rattle.lx_regs.specs.Shapes.{KeepsShape, shape_of_edge}
use Rattle.lx_regs.proofs.FoldedEdges.UnfoldedRuns.{HasSameRun-unfolded}
use Rattle.lx_regs.proofs.FoldedEdges.UnfoldedShapes.{AreFolded-length, KeepsShape-unfolded}
use Rattle.lx_regs.proofs.FoldedEdges.UnfoldedStates.{IsAuto-unfolded}
use Rattle.lx_regs.proofs.FoldedEdges.UnfoldedWalks.{AllInterfere-unfolded, EachTargetIsRead-unfolded}
use Rattle.lx_regs.proofs.allocation.allocate.Goals as goal

-- what was noted fits the answer, which has as many edges
module _ (given folded answer : Auto) (lists : List (List Fold)) (folding : IsFolding given folded lists)
    (kept : KeepsShape folded answer) where
  counts : length lists ≡ length answer.states
  counts = folding.count ∙ sym kept.count

  folds : (number : ℕ) → AreFolded (state_of answer.states number).edges (folds_at lists number)
  folds number =
      let edges = (state_of folded.states number).edges in
      let others = (state_of answer.states number).edges in
      AreFolded-length edges others (folds_at lists number)
      (sym (length-map others shape_of_edge) ∙ ap length (kept.edges number) ∙ length-map edges shape_of_edge) (folding.folded number)

  module _ (whole : Auto) (is : whole ≡ unfolded_auto answer lists) where
    formed-whole : IsAuto given → IsAuto answer → IsAuto whole
    formed-whole given_formed formed =
        subst (λ auto. IsAuto auto) (sym is)
        (IsAuto-unfolded folded answer lists (subst (λ auto. IsAuto auto) (sym folding.again) given_formed) formed folding.count counts
        folds)

    run-whole : IsAuto folded → IsAuto answer → HasSameRun answer folded → HasSameRun whole given
    run-whole folded_formed formed same =
        subst (λ auto. HasSameRun auto given) (sym is)
        (subst (λ auto. HasSameRun (unfolded_auto answer lists) auto) folding.again
        (HasSameRun-unfolded folded answer lists folded_formed formed folding.count counts folding.folded folds kept same))

    apart-whole : AllInterfere answer → AllInterfere whole
    apart-whole all = subst (λ auto. AllInterfere auto) (sym is) (AllInterfere-unfolded answer lists counts folds all)

    read-whole : EachTargetIsRead answer → EachTargetIsRead whole
    read-whole read = subst (λ auto. EachTargetIsRead auto) (sym is) (EachTargetIsRead-unfolded answer lists counts folds read)

    kept-whole : KeepsShape given whole
    kept-whole =
        subst (λ auto. KeepsShape given auto) (sym is)
        (subst (λ auto. KeepsShape auto (unfolded_auto answer lists)) folding.again
        (KeepsShape-unfolded folded answer lists folding.count counts kept))

-- what follows of the automaton with all edges
whole-then : {E : Type 0} (P : Auto → Type 0) (result : Result Auto E) (answer : Auto) (lists slice : List (List Fold)) → slice ≡ lists
    → IfOk result (λ whole. whole ≡ unfolded_auto answer slice) → ((whole : Auto) → whole ≡ unfolded_auto answer lists → P whole)
    → IfOk result P
whole-then P (Ok whole) answer lists slice same is step = step whole (is ∙ ap (λ l. unfolded_auto answer l) same)
whole-then P (Err error) answer lists slice same is step = tt

pub unfolded-requires-clause-folded : goal.unfolded-requires-clause-folded
unfolded-requires-clause-folded c =
    let few = c.in_ok-folding.folding.auto in
    let lists = c.in_ok-folding.folding.lists in
    let answer = c.in_ok-answer.answer in λ number.
    subst (λ (l : List (List Fold)). AreFolded (state_of answer.states number).edges (folds_at l number)) (sym c.as_slice.ensures)
    (folds c.args.auto few answer lists c.in_ok-folding.ensures.folding c.in_ok-answer.ensures.kept number)

pub returns-clause-formed : goal.returns-clause-formed
returns-clause-formed c =
    let few = c.in_ok-folding.folding.auto in
    let lists = c.in_ok-folding.folding.lists in
    let answer = c.in_ok-answer.answer in
    whole-then IsAuto c.unfolded.result answer lists c.as_slice.result.now c.as_slice.ensures c.unfolded.ensures
    (λ whole is. formed-whole c.args.auto few answer lists c.in_ok-folding.ensures.folding c.in_ok-answer.ensures.kept whole is c.requires
    c.in_ok-answer.ensures.formed)

pub returns-clause-run : goal.returns-clause-run
returns-clause-run c =
    let few = c.in_ok-folding.folding.auto in
    let lists = c.in_ok-folding.folding.lists in
    let answer = c.in_ok-answer.answer in
    whole-then (λ whole. HasSameRun whole c.args.auto) c.unfolded.result answer lists c.as_slice.result.now c.as_slice.ensures
    c.unfolded.ensures
    (λ whole is. run-whole c.args.auto few answer lists c.in_ok-folding.ensures.folding c.in_ok-answer.ensures.kept whole is
    c.in_ok-folding.ensures.formed c.in_ok-answer.ensures.formed c.in_ok-answer.ensures.run)

pub returns-clause-apart : goal.returns-clause-apart
returns-clause-apart c =
    let few = c.in_ok-folding.folding.auto in
    let lists = c.in_ok-folding.folding.lists in
    let answer = c.in_ok-answer.answer in
    whole-then AllInterfere c.unfolded.result answer lists c.as_slice.result.now c.as_slice.ensures c.unfolded.ensures
    (λ whole is. apart-whole c.args.auto few answer lists c.in_ok-folding.ensures.folding c.in_ok-answer.ensures.kept whole is
    c.in_ok-answer.ensures.apart)

pub returns-clause-read : goal.returns-clause-read
returns-clause-read c =
    let few = c.in_ok-folding.folding.auto in
    let lists = c.in_ok-folding.folding.lists in
    let answer = c.in_ok-answer.answer in
    whole-then EachTargetIsRead c.unfolded.result answer lists c.as_slice.result.now c.as_slice.ensures c.unfolded.ensures
    (λ whole is. read-whole c.args.auto few answer lists c.in_ok-folding.ensures.folding c.in_ok-answer.ensures.kept whole is
    c.in_ok-answer.ensures.read)

pub returns-clause-kept : goal.returns-clause-kept
returns-clause-kept c =
    let few = c.in_ok-folding.folding.auto in
    let lists = c.in_ok-folding.folding.lists in
    let answer = c.in_ok-answer.answer in
    whole-then (λ whole. KeepsShape c.args.auto whole) c.unfolded.result answer lists c.as_slice.result.now c.as_slice.ensures
    c.unfolded.ensures
    (λ whole is. kept-whole c.args.auto few answer lists c.in_ok-folding.ensures.folding c.in_ok-answer.ensures.kept whole is)
