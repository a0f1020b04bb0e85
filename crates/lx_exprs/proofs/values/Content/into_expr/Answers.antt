use Rattle.lx_exprs.proofs.Contents.ValueContents.{one_whole, row_whole, choice_whole}
use Rattle.lx_exprs.proofs.values.Content.into_expr.Goals as goal

pub returns-in-One-clause-built : goal.returns-in-One-clause-built
returns-in-One-clause-built c built meaning is = one_whole built meaning c.args.self c.in-One.expr c.in-One.is is

pub returns-in-Row-clause-built : goal.returns-in-Row-clause-built
returns-in-Row-clause-built c built meaning is = row_whole built meaning c.args.self c.in-Row.members c.in-Row.is is

pub returns-in-Choice-clause-built : goal.returns-in-Choice-clause-built
returns-in-Choice-clause-built c built meaning is = choice_whole built meaning c.args.self c.in-Choice.members c.in-Choice.is is
