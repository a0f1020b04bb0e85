use Rattle.std.proofs.Common.{◌+◌, ◌++◌, ◌∙◌, ap, drop}
use Rattle.std.proofs.lemmas.List.{map-append}
use Rattle.lx_dispatch.specs.UnitApart.{apart_from}
use Rattle.lx_dispatch.specs.Views.{seen_stretch, seen_stretches}
use Rattle.lx_dispatch.proofs.ApartLoops.{apart_from-greatest, apart_from-last, apart_from-passed}
use Rattle.lx_dispatch.proofs.unit_splits.apart_from.Goals as goal

pub loop-index-preserved : goal.loop-index-preserved
loop-index-preserved c =
    let split = c.args.split.now in
    let held = c.deref-stretch-items.ensures.value in
    let whole = apart_from c.args.greatest c.args.apart c.args.place 0 (seen_stretches split.tests.items) split.last in
    let rest = apart_from c.args.greatest c.args.apart c.args.place (c.from-low.result + 1) (seen_stretches (drop (c.loop-index.index + 1) split.tests.items)) split.last in
    let both = apart_from-passed c.args.greatest c.args.apart c.args.place split.tests.items c.loop-index.index c.loop-index.low split.last
    (seen_stretches c.loop-index.tests.items) whole c.loop-index.invariant.tests c.loop-index.invariant.last _ (rw held at c.loop-index-test.true)
    (rw held at c.if-apart-stretch.false) (c.from-low.result + 1) (ap (λ n. n + 1) (rw held at c.from-low.ensures)) in
    record {
      tests = ap (λ l. seen_stretches l ++ rest.tests) (rw held at c.in_ok-push.ensures.items)
          ∙ ap (λ l. l ++ rest.tests) (map-append seen_stretch c.loop-index.tests.items _) ∙ both.0;
      last = both.1;
    }

pub returns-then-greatest-apart : goal.returns-then-greatest-apart
returns-then-greatest-apart c =
    let split = c.args.split.now in
    let whole = apart_from c.args.greatest c.args.apart c.args.place 0 (seen_stretches split.tests.items) split.last in
    let both = apart_from-greatest c.args.greatest c.args.apart c.args.place split.tests.items c.loop-index.index c.loop-index.low split.last
    (seen_stretches c.loop-index.tests.items) whole c.loop-index.invariant.tests c.loop-index.invariant.last
    (rw c.deref-stretch-items.ensures.value at c.loop-index-test.false) _ c.in_ok-push_before-2.ensures c.if-greatest-apart.true in
    λ i. record { tests = both.0 i; last = both.1 i }

pub returns : goal.returns
returns c =
    let split = c.args.split.now in
    let whole = apart_from c.args.greatest c.args.apart c.args.place 0 (seen_stretches split.tests.items) split.last in
    let both = apart_from-last c.args.greatest c.args.apart c.args.place split.tests.items c.loop-index.index c.loop-index.low split.last
    (seen_stretches c.loop-index.tests.items) whole c.loop-index.invariant.tests c.loop-index.invariant.last
    (rw c.deref-stretch-items.ensures.value at c.loop-index-test.false) _ c.in_ok-push_before-2.ensures c.if-greatest-apart.false _
    (ap seen_stretches c.in_ok-push-2.ensures.items ∙ map-append seen_stretch c.push_before-2.new.tests.items _) in
    λ i. record { tests = both.0 i; last = both.1 i }
