use Rattle.std.proofs.lemmas.Result.{err_from_is_err_and}
use Rattle.lx_compile.proofs.BlockStops.{StopsAt-items, StopsAt-tokens}
use Rattle.lx_compile.proofs.directives.read.Goals as goal

pub returns-in_err-tokens : goal.returns-in_err-tokens
returns-in_err-tokens c =
    let p = err_from_is_err_and c.from_residual.result c.from_residual.ensures.1 in
    rw (p.1, p.2)
    (λ options environment at.
    StopsAt-tokens options environment c.args.kind c.args.body.now at c.args.start c.in_err-tokens.field-0.0 c.requires.kind c.in_err-tokens.ensures)

pub returns-in_err-tree : goal.returns-in_err-tree
returns-in_err-tree c =
    let p = err_from_is_err_and c.from_residual-in_err-tree.result c.from_residual-in_err-tree.ensures.1 in
    rw (p.1, p.2)
    (λ options environment at.
    StopsAt-items options environment c.args.kind c.args.body.now at c.args.start c.in_ok-tokens.tokens c.in_err-tree.field-0.0
    c.requires.kind c.in_ok-tokens.ensures c.in_err-tree.ensures)

pub returns : goal.returns
returns c = record { tokens_are = c.in_ok-tokens.ensures; items_are = c.in_ok-tree.ensures }
