use Rattle.std.proofs.Common.{◌∙◌, sym, Some, None}
use Rattle.lx_step.proofs.CondNumbers.{entry_block-number, some_conds}
use Rattle.lx_step.proofs.conds.entry_block.Goals as goal

pub returns-in_err-case : goal.returns-in_err-case
returns-in_err-case c =
    c.from_residual.ensures ∙ entry_block-number c.args.conds.now c.args.cond None (some_conds c.args.conds.now (sym c.is_empty.ensures ∙ c.if-is_empty.false)) c.requires (sym c.in_err-case.ensures)

pub returns : goal.returns
returns c = entry_block-number c.args.conds.now c.args.cond (Some c.in_ok-case.case.now) (some_conds c.args.conds.now (sym c.is_empty.ensures ∙ c.if-is_empty.false)) c.requires (sym c.in_ok-case.ensures)
