use Rattle.std.proofs.Common.{◌∙◌, ap}
use Rattle.lx_ccode.specs.Reading.{behind_block, statements_at}
use Rattle.lx_creader.specs.BlockParts.{manner_of}
use Rattle.lx_creader.proofs.Steps.{behind_block-fitted}
use Rattle.lx_creader.proofs.lines.Scope.body_at.Goals as goal

pub returns : goal.returns
returns c =
    let manner = manner_of c.args.self.now in
    let whole = statements_at c.args.fuel manner.custom manner.names c.args.bytes.now in
    let read = c.in_ok-statements.ensures in
    let stmts = c.from_vec.ensures ∙ read.0 in
    let behind = c.behind_block-rest.ensures ∙ ap (λ l. behind_block manner l c.in_ok-statements.rest.now) (c.as_slice.ensures.value ∙ read.0)
    ∙ behind_block-fitted manner whole.0 c.in_ok-statements.rest.now ∙ ap (λ b. behind_block manner whole.0 b) read.2 in
    (λ i. record { cond = c.args.cond; stmts = stmts i }, read.1, behind)
