use Rattle.std.proofs.Common.{ap, sym}
use Rattle.lx_exprs.specs.Defined.{one}
use Rattle.lx_exprs.proofs.Contents.ValueContents.{one_whole, row_whole, choice_whole}
use Rattle.lx_exprs.proofs.values.Content.enclosed.Goals as goal

pub returns-in-One-clause-stands : goal.returns-in-One-clause-stands
returns-in-One-clause-stands c built around meaning is off =
    ap one (sym (one_whole built meaning c.args.self c.in-One.expr c.in-One.is is))

pub returns-in-Row-clause-stands : goal.returns-in-Row-clause-stands
returns-in-Row-clause-stands c built around meaning is off =
    ap one (sym (row_whole built meaning c.args.self c.in-Row.members c.in-Row.is is))

pub returns-in-Choice-clause-stands : goal.returns-in-Choice-clause-stands
returns-in-Choice-clause-stands c built around meaning is off =
    ap one (sym (choice_whole built meaning c.args.self c.in-Choice.members c.in-Choice.is is))
