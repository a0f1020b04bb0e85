use Rattle.std.proofs.Common.{◌+◌, ◌++◌, ◌∙◌, ap, drop}
use Rattle.std.proofs.lemmas.List.{map-append}
use Rattle.lx_dispatch.specs.Views.{seen_stretch, seen_stretches}
use Rattle.lx_dispatch.specs.TransitionClasses.{split_of}
use Rattle.lx_dispatch.proofs.SplitLoops.{split_of-added, split_of-ended, split_of-reached, split_of-saved}
use Rattle.lx_dispatch.proofs.unit_splits.split_of.Goals as goal
use Rattle.lx_dispatch.proofs.unit_splits.split_of.Goals.{then-not-same_place+in_ok-push, else-not-same_place}

pub loop-index-preserved : goal.loop-index-preserved
loop-index-preserved c =
    elim c.if-not-same_place.branch [
      | then-not-same_place+in_ok-push w ↦
          let added = split_of-added c.args.greatest c.args.stretches.now c.loop-index.index _ c.loop-index-test.true (seen_stretches c.loop-index.tests.items)
          _ _ c.loop-index.invariant.0 c.loop-index.invariant.1 c.if-greatest-stretch.false
          c.class_at.result c.class_at.ensures w.if-not-same_place.ensures in
          rw (w.tests-is) (rw (w.in_ok-push.ensures.items) (
            ap (λ l. l ++ (split_of c.args.greatest (seen_stretches (drop (c.loop-index.index + 1) c.args.stretches.now))).tests)
                (map-append seen_stretch c.loop-index.tests.items _) ∙ added.0,
            added.1,
          ))
      | else-not-same_place w ↦
          rw (w.tests-is)
          (split_of-saved c.args.greatest c.args.stretches.now c.loop-index.index _ c.loop-index-test.true (seen_stretches c.loop-index.tests.items)
          _ _ c.loop-index.invariant.0 c.loop-index.invariant.1 c.if-greatest-stretch.false
          c.class_at.result c.class_at.ensures w.if-not-same_place.ensures)
    ]

pub returns-then-greatest-stretch : goal.returns-then-greatest-stretch
returns-then-greatest-stretch c =
    let same = split_of-reached c.args.greatest c.args.stretches.now c.loop-index.index _ c.loop-index-test.true (seen_stretches c.loop-index.tests.items)
    _ _ c.loop-index.invariant.0 c.loop-index.invariant.1 c.if-greatest-stretch.true in
    λ i. record { tests = same.0 i; last = same.1 i }

pub returns : goal.returns
returns c =
    let same = split_of-ended c.args.greatest c.args.stretches.now c.loop-index.index (seen_stretches c.loop-index.tests.items)
    _ _ c.loop-index-test.false c.loop-index.invariant.0 c.loop-index.invariant.1 in
    λ i. record { tests = same.0 i; last = same.1 i }
