use Rattle.std.specs.List.{insert}
use Rattle.std.specs.Prelude.{◌≡◌, ◌-◌, length}
use Rattle.std.specs.Vec.{vec_len}
use Rattle.std.proofs.Common.{◌∙◌, ap, arith}
use Rattle.lx_ccode.specs.declared.piece.Stmt.TheVariants.{Accept}
use Rattle.lx_layout.proofs.Jumps.ForgettingCodes.{forgetting-insert}
use Rattle.lx_layout.proofs.forgetting.forgetting.Goals as goal

pub returns : goal.returns
returns c =
    let stmts = c.into_vec-stmts.result in
    let last : vec_len stmts - 1 ≡ length stmts.items - 1 = omega (arith, stmts.ok.0) in
    c.from_vec.ensures ∙ c.in_ok-insert.ensures.items ∙ ap (λ n. insert stmts.items (n - 1) (Accept 0)) c.len-last.ensures
    ∙ ap (λ n. insert stmts.items n (Accept 0)) last
    ∙ ap (λ l. insert l (length l - 1) (Accept 0)) c.into_vec-stmts.ensures
    ∙ forgetting-insert c.args.stmts c.requires
