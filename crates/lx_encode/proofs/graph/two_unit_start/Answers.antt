use Rattle.std.proofs.Common.{◌⊎◌, ◌↔◌, ℕ, [], subst}
use Rattle.lx_encode.specs.Runs.{LeadsTo, LeadsShifted}
use Rattle.lx_encode.specs.Layers.{AreBlocks}
use Rattle.lx_encode.specs.declared.layers.Layer.{Layer}
use Rattle.lx_encode.proofs.RunLists.{same_sorted}
use Rattle.lx_encode.proofs.Starts.{AreBlocks-grows, LeadBelow-grows}
use Rattle.lx_encode.proofs.StartRows.{starts_with_two}
use Rattle.lx_encode.proofs.graph.two_unit_start.Goals as goal

pub blocks_of-requires-clause-sorted : goal.blocks_of-requires-clause-sorted
blocks_of-requires-clause-sorted c = same_sorted c.in_ok-supplementary.supplementary.items c.deref.result.now c.deref.ensures.value c.in_ok-supplementary.ensures.row

pub append_shifted-requires-clause-runs : goal.append_shifted-requires-clause-runs
append_shifted-requires-clause-runs c = same_sorted c.in_ok-blocks.blocks.items c.deref-2.result.now c.deref-2.ensures.value c.in_ok-blocks.ensures.row

pub returns-clause-starts : goal.returns-clause-starts
returns-clause-starts c = λ set ended.
    let low : Layer = record { radix = 1024; offset = 0xDC00 } in
    let supplementary = c.in_ok-supplementary.supplementary.items in
    let blocks = c.in_ok-blocks.blocks.items in
    let row = c.append_shifted.new.row.items in
    let are = AreBlocks-grows low supplementary blocks c.blocks_of.new.table c.residual_of.new.self 1 c.in_ok-blocks.ensures.within c.in_ok-start.ensures.grows
    (subst (λ l. AreBlocks low l blocks c.blocks_of.new.table) c.deref.ensures.value c.in_ok-blocks.ensures.blocks) in
    starts_with_two c.residual_of.new.self c.in_ok-start.ensures.table set c.args.points.now ended c.in_ok-start.start supplementary blocks row
    c.in_ok-start.ensures.within c.in_ok-start.ensures.row c.in_ok-supplementary.ensures.leads
    (LeadBelow-grows blocks c.blocks_of.new.table c.residual_of.new.self 1 c.in_ok-start.ensures.grows c.in_ok-blocks.ensures.within) are
    (subst (λ l. (n t : ℕ) → LeadsTo row n t ↔ (LeadsTo [] n t ⊎ LeadsShifted l 64 1087 0xD800 n t)) c.deref-2.ensures.value
    (subst (λ l. (n t : ℕ) → LeadsTo row n t ↔ (LeadsTo l n t ⊎ LeadsShifted c.deref-2.result.now 64 1087 0xD800 n t)) c.new-row.ensures.items c.in_ok-append_shifted.ensures.leads))
