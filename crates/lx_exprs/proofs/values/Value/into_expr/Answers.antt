use Rattle.lx_exprs.specs.Defined.{is_built}
use Rattle.lx_exprs.proofs.Contents.ValueContents.{kept_fits}
use Rattle.lx_exprs.proofs.Contents.KindContents.{kept_kinds}
use Rattle.lx_exprs.proofs.values.Value.into_expr.Goals as goal

pub returns-clause-built : goal.returns-clause-built
returns-clause-built c room meaning is = c.into_expr.ensures.built (is_built room meaning) meaning is.content

pub returns-clause-kept : goal.returns-clause-kept
returns-clause-kept c is =
    kept_fits c.into_expr.result c.args.self.content c.args.self.size c.args.self.tags is.some is.size is.tags c.into_expr.ensures.size (c.into_expr.ensures.tags c.args.self.tags is.tags)

pub returns-clause-kinds : goal.returns-clause-kinds
returns-clause-kinds c tags are = kept_kinds tags c.into_expr.result c.args.self.content c.into_expr.ensures.kinds are
