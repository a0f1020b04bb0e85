use Rattle.std.proofs.Common.{◌⊎◌, ◌↔◌, ℕ, subst, arith}
use Rattle.lx_encode.specs.Runs.{LeadsTo, LeadsShifted}
use Rattle.lx_encode.specs.Layers.{AreBlocks}
use Rattle.lx_encode.specs.Table.{GrowsBy}
use Rattle.lx_encode.proofs.Least.{in_unicode}
use Rattle.lx_encode.proofs.RunLists.{same_sorted}
use Rattle.lx_encode.proofs.BlockLists.{GrowsBy-trans}
use Rattle.lx_encode.proofs.Starts.{AreBlocks-grows, LeadBelow-grows}
use Rattle.lx_encode.proofs.StartRows.{same_kept, same_row}
use Rattle.lx_encode.proofs.Utf8Starts.{IsUtf8Row, later, starts_with_utf8}
use Rattle.lx_encode.proofs.graph.utf8_start.Goals as goal

pub blocks_of-requires-clause-sorted : goal.blocks_of-requires-clause-sorted
blocks_of-requires-clause-sorted c = same_sorted c.in_ok-longer.longer.items c.deref.result.now c.deref.ensures.value c.in_ok-longer.ensures.row

pub kept-requires-2-clause-sorted : goal.kept-requires-2-clause-sorted
kept-requires-2-clause-sorted c = same_sorted c.in_ok-one.one.items c.deref-2.result.now c.deref-2.ensures.value c.in_ok-one.ensures.row

pub blocks_of-requires-2-clause-sorted : goal.blocks_of-requires-2-clause-sorted
blocks_of-requires-2-clause-sorted c = same_sorted c.in_ok-longer_2.longer_2.items c.deref-3.result.now c.deref-3.ensures.value c.in_ok-longer_2.ensures.row

pub kept-requires-3-clause-sorted : goal.kept-requires-3-clause-sorted
kept-requires-3-clause-sorted c = same_sorted c.in_ok-two.two.items c.deref-4.result.now c.deref-4.ensures.value c.in_ok-two.ensures.row

pub blocks_of-requires-3-clause-sorted : goal.blocks_of-requires-3-clause-sorted
blocks_of-requires-3-clause-sorted c = same_sorted c.in_ok-longer_3.longer_3.items c.deref-5.result.now c.deref-5.ensures.value c.in_ok-longer_3.ensures.row

pub append_shifted-requires-2-clause-runs : goal.append_shifted-requires-2-clause-runs
append_shifted-requires-2-clause-runs c = same_sorted c.in_ok-one.one.items c.deref-6.result.now c.deref-6.ensures.value c.in_ok-one.ensures.row

pub append_shifted-requires-3-clause-runs : goal.append_shifted-requires-3-clause-runs
append_shifted-requires-3-clause-runs c = same_sorted c.in_ok-two.two.items c.deref-7.result.now c.deref-7.ensures.value c.in_ok-two.ensures.row

pub append_shifted-requires-4-clause-runs : goal.append_shifted-requires-4-clause-runs
append_shifted-requires-4-clause-runs c = same_sorted c.in_ok-three.three.items c.deref-8.result.now c.deref-8.ensures.value c.in_ok-three.ensures.row

pub returns-clause-starts : goal.returns-clause-starts
returns-clause-starts c = λ set canonical ended.
    let points = c.args.points.now in
    let longer = c.in_ok-longer.longer.items in
    let one = c.in_ok-one.one.items in
    let longer2 = c.in_ok-longer_2.longer_2.items in
    let two = c.in_ok-two.two.items in
    let longer3 = c.in_ok-longer_3.longer_3.items in
    let three = c.in_ok-three.three.items in
    let row1 = c.append_shifted.new.row.items in
    let row2 = c.append_shifted-2.new.row.items in
    let row3 = c.append_shifted-3.new.row.items in
    let row4 = c.append_shifted-4.new.row.items in
    let table1 = c.blocks_of.new.table in
    let table2 = c.blocks_of-2.new.table in
    let table3 = c.blocks_of-3.new.table in
    let rows = c.residual_of.new.self in
    let grows3 : GrowsBy table3 rows 1 = c.in_ok-start.ensures.grows in
    let grows2 : GrowsBy table2 rows 20000000 = GrowsBy-trans table2 table3 rows 16777216 1 20000000 (omega arith) c.in_ok-three.ensures.grows grows3 in
    let grows1 : GrowsBy table1 rows 40000000 = GrowsBy-trans table1 table2 rows 16777216 20000000 40000000 (omega arith) c.in_ok-two.ensures.grows grows2 in
    let made : IsUtf8Row rows points longer one longer2 two longer3 three row1 row2 row3 row4 = record {
      longer_is = c.in_ok-longer.ensures.leads;
      one_is = AreBlocks-grows later longer one table1 rows 40000000 c.in_ok-one.ensures.within grows1
          (subst (λ l. AreBlocks later l one table1) c.deref.ensures.value c.in_ok-one.ensures.blocks);
      one_below = LeadBelow-grows one table1 rows 40000000 grows1 c.in_ok-one.ensures.within;
      longer2_is = same_kept c.deref-2.result.now one longer2 0x20 c.deref-2.ensures.value c.in_ok-longer_2.ensures.leads;
      two_is = AreBlocks-grows later longer2 two table2 rows 20000000 c.in_ok-two.ensures.within grows2
          (subst (λ l. AreBlocks later l two table2) c.deref-3.ensures.value c.in_ok-two.ensures.blocks);
      two_below = LeadBelow-grows two table2 rows 20000000 grows2 c.in_ok-two.ensures.within;
      longer3_is = same_kept c.deref-4.result.now two longer3 0x10 c.deref-4.ensures.value c.in_ok-longer_3.ensures.leads;
      three_is = AreBlocks-grows later longer3 three table3 rows 1 c.in_ok-three.ensures.within grows3
          (subst (λ l. AreBlocks later l three table3) c.deref-5.ensures.value c.in_ok-three.ensures.blocks);
      three_below = LeadBelow-grows three table3 rows 1 grows3 c.in_ok-three.ensures.within;
      row1_is = subst (λ l. (n t : ℕ) → LeadsTo row1 n t ↔ (LeadsTo l n t ⊎ LeadsShifted points 0 0x7F 0 n t)) c.new-row.ensures.items c.in_ok-append_shifted.ensures.leads;
      row2_is = same_row c.deref-6.result.now one row1 row2 0x1F 0xC0 c.deref-6.ensures.value c.in_ok-append_shifted-2.ensures.leads;
      row3_is = same_row c.deref-7.result.now two row2 row3 0x0F 0xE0 c.deref-7.ensures.value c.in_ok-append_shifted-3.ensures.leads;
      row4_is = same_row c.deref-8.result.now three row3 row4 0x07 0xF0 c.deref-8.ensures.value c.in_ok-append_shifted-4.ensures.leads;
    } in
    starts_with_utf8 rows c.in_ok-start.ensures.table set points longer one longer2 two longer3 three row1 row2 row3 row4 ended made
    c.in_ok-start.start (λ p at. in_unicode 0 set p canonical at) c.in_ok-start.ensures.within c.in_ok-start.ensures.row
