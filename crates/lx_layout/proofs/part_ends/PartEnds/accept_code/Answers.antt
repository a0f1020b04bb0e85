use Rattle.std.proofs.Common.{[], ◌∷◌, ◌++◌, ap, ap₂, sym, ◌∙◌}
use Rattle.lx_ccode.specs.declared.piece.Stmt.TheVariants.{Goto}
use Rattle.lx_layout.specs.Codes.{list_code}
use Rattle.lx_layout.proofs.BlockLayouts.BlockLoops.{list_code-append}
use Rattle.lx_layout.proofs.part_ends.PartEnds.accept_code.Goals as goal

pub returns : goal.returns
returns c =
    let auto = c.args.self.now.plans.input.auto.now in
    let put = c.in_ok-append_list.ensures
    ∙ ap₂ (λ l ops. l ++ list_code auto ops []) c.in_ok-stmts.ensures.items c.as_slice-ops.ensures in
    c.in_ok-push.ensures.items ∙ ap (λ l. l ++ Goto c.in_ok-block.block ∷ []) put
    ∙ sym (list_code-append auto c.args.accept.now.ops (Goto c.in_ok-block.block ∷ []))
    ∙ ap (λ b. list_code auto c.args.accept.now.ops (Goto b ∷ [])) c.in_ok-block.ensures
