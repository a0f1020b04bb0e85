-- Each target adds the cuts of its leaf.
use Rattle.std.proofs.Common.{◌≡◌, ℕ, ◌+◌, ◌++◌, [], ◌∷◌, List, take, Some, slice_get, Vec, Global, ap, sym, subst, ◌∙◌}
use Rattle.std.proofs.lemmas.List.{append-nil, take_all, take_more}
use Rattle.lx_tnfa.specs.declared.closure.Reach.{Reach}
use Rattle.lx_tdfa.specs.Edges.{CutSteps}
use Rattle.lx_tdfa.proofs.WordKernels.CutLists.{CutStep, gathered-push, step-end, step-leaf}
use Rattle.lx_tdfa.proofs.cuts.gathered_cuts.Goals as goal
use Rattle.lx_tdfa.proofs.cuts.gathered_cuts.Goals.{in-Leaf+in_ok-extend_from_slice, in_default}

pub loop-reach-preserved : goal.loop-reach-preserved
loop-reach-preserved c =
    let more : take c.loop-reach.reach-index c.args.reaches.now ++ c.reach-item.result ∷ [] ≡ take (c.loop-reach.reach-index + 1) c.args.reaches.now =
    ap (λ (reach : Reach). take c.loop-reach.reach-index c.args.reaches.now ++ reach ∷ []) c.reach-item.is ∙ sym (take_more c.args.reaches.now c.loop-reach.reach-index c.reach-item.result c.loop-reach-test.true) in
    elim c.match-reach.branch [
      | in-Leaf+in_ok-extend_from_slice w ↦
          let step : CutStep c.args.t.now c.reach-item.result w.unit_cuts.result.now =
          step-leaf c.args.t.now c.reach-item.result w.in-Leaf.place w.unit_cuts.result.now w.in-Leaf.is w.unit_cuts.ensures.separating in
          gathered-push c.args.t.now _ _ c.reach-item.result c.loop-reach.cuts.items w.unit_cuts.result.now c.match-reach.cuts.items more
          (ap (λ (cuts : Vec ℕ Global). cuts.items) w.cuts-is ∙ w.in_ok-extend_from_slice.ensures.items) c.loop-reach.invariant step
      | in_default w ↦
          gathered-push c.args.t.now _ _ c.reach-item.result c.loop-reach.cuts.items [] c.match-reach.cuts.items more
          (ap (λ (cuts : Vec ℕ Global). cuts.items) w.cuts-is ∙ sym (append-nil c.loop-reach.cuts.items)) c.loop-reach.invariant
          (step-end c.args.t.now c.reach-item.result _ w.in_default.is)
    ]

pub returns : goal.returns
returns c =
    subst (λ (reaches : List Reach). CutSteps c.args.t.now reaches c.loop-reach.cuts.items × (slice_get c.loop-reach.cuts.items 0 ≡ Some 0))
    (take_all c.loop-reach.reach-index c.args.reaches.now c.loop-reach-test.false) c.loop-reach.invariant
