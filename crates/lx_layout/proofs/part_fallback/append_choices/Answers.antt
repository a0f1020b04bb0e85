use Rattle.std.proofs.Common.{◌≡◌, ◌<◌, ◌∙◌, List, arith, inl, inr, length, ap}
use Rattle.lx_layout.specs.declared.accepts.First.{First}
use Rattle.lx_layout.proofs.Laying.FallbackLoops.{choices-more}
use Rattle.lx_layout.proofs.part_fallback.append_choices.Goals as goal
use Rattle.lx_layout.proofs.part_fallback.append_choices.Goals.{else-not-leaves-via-then-not-leaves+else-place-count, else-not-leaves-via-else-not-leaves}

pub loop-place-preserved : goal.loop-place-preserved
loop-place-preserved c =
    let items = c.args.ends.now.saved.list.items in
    let place = c.loop-place.place in
    let same = ap (λ (l : List First). length l) c.deref-first-items.ensures.value in
    let count : c.len-count.result ≡ length items = c.len-count.ensures ∙ c.args.ends.now.saved.list.ok.0 in
    let within : place < length items = omega (arith, same, c.loop-place-test.true) in
    let more = choices-more items place c._first-item.result within c.args.leaves c.loop-place.saved c.loop-place.block c.in_ok-block.block
    c.loop-place.stmts.items c.push-in-loop-place.new.self.items _ c.in_ok-block.ensures in
    record {
      saved = omega (arith, c.loop-place.invariant.saved);
      put = elim c.else-not-leaves.branch [
        | else-not-leaves-via-then-not-leaves+else-place-count w ↦
            more (inr (omega (arith, count, within, w.if-place-count.false))) c.in_ok-push-2.ensures.items c.loop-place.invariant.put
        | else-not-leaves-via-else-not-leaves w ↦ more (inl w.if-not-leaves.false) c.in_ok-push-2.ensures.items c.loop-place.invariant.put
      ];
    }
