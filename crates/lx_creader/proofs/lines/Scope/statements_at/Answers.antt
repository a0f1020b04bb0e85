use Rattle.std.proofs.Common.{◌∙◌, sym}
use Rattle.lx_creader.proofs.Steps.{statements_at-step}
use Rattle.lx_creader.proofs.lines.Scope.statements_at.Goals as goal

pub loop-left-preserved : goal.loop-left-preserved
loop-left-preserved c =
    let read = c.in_ok-statement.ensures in
    let next = statements_at-step c.loop-left.left c.fuel_behind-left.result c.args.self.now.custom c.args.self.now.names.now c.loop-left.bytes.now c.in_ok-statement.rest.now c.loop-left.statements.items c.push.new.self.items
    c.in_ok-statement.statement c.loop-left.ctx c.in_ok-statement.is_context c.loop-left-test.true (sym c.begins_statement.ensures ∙ c.if-begins_statement.true)
    read.0 read.1 read.2 c.in_ok-push.ensures.items c.fuel_behind-left.ensures in
    (next.0 ∙ c.loop-left.invariant.0, next.1 ∙ c.loop-left.invariant.1, next.2 ∙ c.loop-left.invariant.2)
