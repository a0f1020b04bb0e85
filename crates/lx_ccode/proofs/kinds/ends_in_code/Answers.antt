use Rattle.std.proofs.Common.{◌+◌, ◌-◌, ◌<◌, ◌∙◌, ◌≡◌, arith, length}
use Rattle.lx_ccode.proofs.StatementKinds.{ends_in_code-last}
use Rattle.lx_ccode.proofs.kinds.ends_in_code.Goals as goal

pub returns-in-Some : goal.returns-in-Some
returns-in-Some c =
    let statements = c.args.statements.now in
    let some : 0 < length statements = c.in-Some.ensures.item.3.0 in
    let size : length statements - 1 + 1 ≡ length statements = omega arith in
    c.is_code.ensures ∙ ends_in_code-last statements (length statements - 1) c.in-Some.statement.now size c.in-Some.ensures.value
