use Rattle.std.proofs.Common.{◌∙◌, sym, ap, arith, length}
use Rattle.std.proofs.lemmas.Bool.{eqb-true}
use Rattle.std.proofs.lemmas.List.{length-map}
use Rattle.lx_creader.specs.BlockParts.{manner_of}
use Rattle.lx_creader.proofs.Steps.{blocks_at-step, blocks_at-filled}
use Rattle.lx_creader.proofs.lines.Scope.blocks_at.Goals as goal

pub loop-left-preserved : goal.loop-left-preserved
loop-left-preserved c =
    let read = c.in_ok-block.ensures in
    let next = blocks_at-step c.loop-left.left c.args.fuel (manner_of c.args.self.now) c.loop-left.bytes.now c.in_ok-block.rest.now _ c.push.new.self.items
    c.in_ok-block.block c.loop-left.ctx c.in_ok-block.is_context c.loop-left-test.true (sym c.ends_blocks.ensures ∙ c.if-not-ends_blocks.true)
    read.0 read.1 read.2 c.in_ok-push.ensures.items in
    (next.0 ∙ c.loop-left.invariant.0, next.1 ∙ c.loop-left.invariant.1, next.2 ∙ c.loop-left.invariant.2, λ filled. next.3 (c.loop-left.invariant.3 filled))

pub returns-then-is_empty : goal.returns-then-is_empty
returns-then-is_empty c = λ filled.
    let some = blocks_at-filled c.loop-left.left c.args.fuel (manner_of c.args.self.now) c.loop-left.bytes.now c.loop-left-test.true (sym c.ends_blocks.ensures ∙ c.if-not-ends_blocks.true)
    (c.loop-left.invariant.3 filled) in
    let size = ap length (ap (λ b. b.stmts) c.in_ok-block.ensures.0) ∙ length-map _ _ in
    let none = eqb-true _ 0 (sym c.is_empty.ensures ∙ c.if-is_empty.true) in
    let slice = ap length c.as_slice.ensures in
    absurd (omega (arith, some, size, none, slice))
