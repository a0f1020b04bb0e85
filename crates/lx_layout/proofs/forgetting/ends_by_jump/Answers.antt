use Rattle.std.specs.Prelude.{option_copied}
use Rattle.std.proofs.Common.{◌∙◌, ap, sym}
use Rattle.lx_layout.proofs.Jumps.ForgettingCodes.{ends_by_jump-last, jumps_at}
use Rattle.lx_layout.proofs.forgetting.ends_by_jump.Goals as goal

pub returns-in-None : goal.returns-in-None
returns-in-None c =
    ap (λ o. jumps_at (option_copied o)) (sym c.in-None.is) ∙ ends_by_jump-last c.args.stmts.now (option_copied c.last.result) c.last.ensures.value

pub returns-in-Some : goal.returns-in-Some
returns-in-Some c =
    c.is_jump.ensures ∙ ap (λ o. jumps_at (option_copied o)) (sym c.in-Some.is)
    ∙ ends_by_jump-last c.args.stmts.now (option_copied c.last.result) c.last.ensures.value
