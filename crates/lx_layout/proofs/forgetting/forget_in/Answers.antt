use Rattle.std.specs.Prelude.{List}
use Rattle.std.proofs.Common.{◌∙◌, ap, sym}
use Rattle.lx_ccode.specs.declared.piece.CodeBlock.{CodeBlock}
use Rattle.lx_ccode.specs.declared.piece.Stmt.{Stmt}
use Rattle.lx_layout.specs.Forgetting.{ends_by_jump}
use Rattle.lx_layout.proofs.Jumps.ForgettingCodes.{forgetting-none}
use Rattle.lx_layout.proofs.forgetting.forget_in.Goals as goal

pub returns-else-ends_by_jump : goal.returns-else-ends_by_jump
returns-else-ends_by_jump c =
    let block = c.args.block.now in
    ap {B = CodeBlock} (λ (stmts : List Stmt). record { cond = block.cond; stmts = stmts })
    (sym (forgetting-none block.stmts
    (ap ends_by_jump (sym c.as_slice.ensures) ∙ sym c.ends_by_jump.ensures ∙ c.if-ends_by_jump.false)))
