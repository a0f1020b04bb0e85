use Rattle.std.proofs.Common.{None, [], drop, ◌+◌, ◌∙◌}
use Rattle.lx_ccode.specs.Text.{blocks_then, code_block_then}
use Rattle.lx_ccode.specs.Wording.{scope_wording}
use Rattle.lx_ccode.proofs.Behind.{behind_next, behind_none, found_as, written}
use Rattle.lx_ccode.proofs.Tails.{blocks_then-drop, code_block_then-append}
use Rattle.lx_ccode.proofs.lines.Scope.behind_blocks.Goals as goal

pub returns-in-None : goal.returns-in-None
returns-in-None c =
    let wording = scope_wording c.args.self.now in
    let blocks = c.args.blocks.now in
    let place = c.loop-place.place in
    let block = c.index-blocks-place.result in
    let one = code_block_then wording c.loop-place.line place block in
    behind_none (blocks_then wording c.args.line 0 blocks) (blocks_then wording c.loop-place.line place (drop place blocks)) one
    (blocks_then wording c.in_ok-line.line (place + 1) (drop (place + 1) blocks)) c.args.bytes.now c.loop-place.rest.now
    (λ tail. blocks_then-drop wording c.loop-place.line c.in_ok-line.line place blocks block tail c.loop-place-test.true c.index-blocks-place.is c.in_ok-line.ensures.1)
    (found_as one c.as_slice.result.now c.loop-place.rest.now None
    (written one _ _ _ (code_block_then-append wording c.loop-place.line place block []) c.as_slice.ensures.value c.in_ok-line.ensures.0 c.clear.ensures.items) c.in-None.ensures)
    c.loop-place.invariant

pub loop-place-preserved : goal.loop-place-preserved
loop-place-preserved c =
    let wording = scope_wording c.args.self.now in
    let blocks = c.args.blocks.now in
    let place = c.loop-place.place in
    let block = c.index-blocks-place.result in
    let one = code_block_then wording c.loop-place.line place block in
    behind_next (blocks_then wording c.args.line 0 blocks) (blocks_then wording c.loop-place.line place (drop place blocks)) one
    (blocks_then wording c.in_ok-line.line (place + 1) (drop (place + 1) blocks)) c.args.bytes.now c.loop-place.rest.now c.in-Some.next.now
    (code_block_then-append wording c.loop-place.line place block [])
    (λ tail. blocks_then-drop wording c.loop-place.line c.in_ok-line.line place blocks block tail c.loop-place-test.true c.index-blocks-place.is c.in_ok-line.ensures.1)
    (c.in-Some.ensures
    ∙ written one _ _ _ (code_block_then-append wording c.loop-place.line place block []) c.as_slice.ensures.value c.in_ok-line.ensures.0 c.clear.ensures.items c.in-Some.next.now)
    c.loop-place.invariant
