use Rattle.std.proofs.Common.{◌≡◌, ◌↔◌, ℕ, ◌+◌, ◌*◌, ◌<◌, ◌≤◌, length, take, sym, ◌∙◌, subst, arith, take_all}
use Rattle.lx_encode.specs.Runs.{LeadsTo, AreSorted}
use Rattle.lx_encode.specs.Layers.{AreParts}
use Rattle.lx_encode.specs.Folding.{IsFolding}
use Rattle.lx_encode.proofs.RunLists.{run_at, sorted_at, before_at, taken_at, leads_within, leads_here}
use Rattle.lx_encode.proofs.BlockLists.{part_at, few_parts, part_to, unit_before, GrowsBy-trans, closed_blocks}
use Rattle.lx_encode.proofs.layers.blocks_of.Goals as goal

pub put-requires-clause-room : goal.put-requires-clause-room
put-requires-clause-room c =
    let few = few_parts c.in_ok-parts.parts.items c.in_ok-parts.ensures.sorted in
    let lt : c.loop-part.part-index < length c.in_ok-parts.parts.items = subst (λ l. c.loop-part.part-index < length l) c.deref-part-items.ensures.value c.loop-part-test.true in
    omega (arith, c.loop-part.invariant.grows.at_most, few)

pub put-requires-clause-ordered : goal.put-requires-clause-ordered
put-requires-clause-ordered c =
    let sorted = subst (λ l. AreSorted l) (sym c.deref-part-items.ensures.value) c.in_ok-parts.ensures.sorted in
    (sorted_at c.deref-part-items.result.now c.loop-part.part-index c.loop-part-test.true sorted).1

pub put-requires-clause-bounded : goal.put-requires-clause-bounded
put-requires-clause-bounded c =
    let sorted = subst (λ l. AreSorted l) (sym c.deref-part-items.ensures.value) c.in_ok-parts.ensures.sorted in
    (sorted_at c.deref-part-items.result.now c.loop-part.part-index c.loop-part-test.true sorted).2

pub put-requires-clause-to : goal.put-requires-clause-to
put-requires-clause-to c =
    let parts = c.deref-part-items.result.now in
    let sorted = subst (λ l. AreSorted l) (sym c.deref-part-items.ensures.value) c.in_ok-parts.ensures.sorted in
    let leads = subst (λ l. (n t : ℕ) → LeadsTo l n t ↔ LeadsTo c.args.runs.now n t) (sym c.deref-part-items.ensures.value) c.in_ok-parts.ensures.leads in
    let lt = part_to c.args.runs.now parts c.loop-part.part-index (length c.args.table.now) c.loop-part-test.true sorted leads c.requires.within in
    omega (arith, lt, c.loop-part.invariant.grows.longer)

pub put-requires-clause-part : goal.put-requires-clause-part
put-requires-clause-part c =
    part_at c.args.layer.radix c.deref-part-items.result.now c.loop-part.part-index c.loop-part-test.true
    (subst (λ l. AreParts c.args.layer.radix l) (sym c.deref-part-items.ensures.value) c.in_ok-parts.ensures.parts)

pub put-requires-clause-later : goal.put-requires-clause-later
put-requires-clause-later c =
    let parts = c.deref-part-items.result.now in
    let sorted = subst (λ l. AreSorted l) (sym c.deref-part-items.ensures.value) c.in_ok-parts.ensures.sorted in
    c.loop-part.invariant.later (run_at parts c.loop-part.part-index).lo (λ n t at. before_at parts c.loop-part.part-index c.loop-part-test.true n t sorted at)

pub put-requires-clause-behind : goal.put-requires-clause-behind
put-requires-clause-behind c =
    let sorted = subst (λ l. AreSorted l) (sym c.deref-part-items.ensures.value) c.in_ok-parts.ensures.sorted in
    unit_before c.args.layer c.requires.radix c.args.runs.now c.deref-part-items.result.now c.loop-part.folding.row.items c.loop-part.part-index c.loop-part.folding.block
    c.loop-part-test.true sorted c.loop-part.invariant.folded.last

pub loop-part-preserved : goal.loop-part-preserved
loop-part-preserved c =
    let parts = c.deref-part-items.result.now in
    let i = c.loop-part.part-index in
    let known = c.loop-part.invariant in
    let now = c.in_ok-put.ensures in
    let sorted = subst (λ l. AreSorted l) (sym c.deref-part-items.ensures.value) c.in_ok-parts.ensures.sorted in
    let filled : (run_at parts i).lo ≤ (run_at parts i).hi = (sorted_at parts i c.loop-part-test.true sorted).1 in
    record {
      in_table = now.in_table;
      grows = GrowsBy-trans c.args.table.now c.loop-part.table c.put.new.table (2 * i) 2 (2 * (i + 1)) (omega arith) known.grows now.grows;
      folded = subst (λ l. IsFolding c.args.layer l c.put.new.self c.put.new.table) (sym (taken_at parts i c.loop-part-test.true))
          (now.folded (take i parts) (λ n t at. before_at parts i c.loop-part-test.true n t sorted at) known.folded);
      later = λ n past. now.later n (past (run_at parts i).hi (run_at parts i).to (leads_here parts i c.loop-part-test.true filled));
    }

pub advance-requires-clause-room : goal.advance-requires-clause-room
advance-requires-clause-room c =
    let few = few_parts c.in_ok-parts.parts.items c.in_ok-parts.ensures.sorted in
    let end : c.loop-part.part-index ≤ length c.in_ok-parts.parts.items = subst (λ l. c.loop-part.part-index ≤ length l) c.deref-part-items.ensures.value c.loop-part.auto.part-index-end in
    omega (arith, c.loop-part.invariant.grows.at_most, few)

pub returns-clause-grows : goal.returns-clause-grows
returns-clause-grows c =
    let few = few_parts c.in_ok-parts.parts.items c.in_ok-parts.ensures.sorted in
    let end : c.loop-part.part-index ≤ length c.in_ok-parts.parts.items = subst (λ l. c.loop-part.part-index ≤ length l) c.deref-part-items.ensures.value c.loop-part.auto.part-index-end in
    GrowsBy-trans c.args.table.now c.loop-part.table c.advance.new.table (2 * c.loop-part.part-index) 1 16777216 (omega (arith, few)) c.loop-part.invariant.grows c.in_ok-advance.ensures.grows

pub returns-clause-blocks : goal.returns-clause-blocks
returns-clause-blocks c =
    let parts = c.deref-part-items.result.now in
    let all : take c.loop-part.part-index parts ≡ c.in_ok-parts.parts.items = take_all c.loop-part.part-index parts c.loop-part-test.false ∙ c.deref-part-items.ensures.value in
    closed_blocks c.args.layer c.requires.radix c.args.runs.now c.in_ok-parts.parts.items c.advance.new.self c.advance.new.table c.in_ok-parts.ensures.leads
    (λ n t at. leads_within 0 c.args.runs.now n t c.requires.sorted at) c.in_ok-advance.ensures.block
    (c.in_ok-advance.ensures.folded c.args.layer c.in_ok-parts.parts.items
    (subst (λ l. IsFolding c.args.layer l c.loop-part.folding c.loop-part.table) all c.loop-part.invariant.folded))
