use Rattle.std.proofs.Common.{[], ◌∷◌, ◌++◌, ap, ap₂, ◌∙◌}
use Rattle.lx_ccode.specs.declared.piece.Stmt.TheVariants.{Goto, Skip}
use Rattle.lx_layout.specs.Codes.{save_code, list_code}
use Rattle.lx_layout.specs.Marks.{seen_marks}
use Rattle.lx_layout.proofs.Laying.StateBlocks.{edge_code-parts}
use Rattle.lx_layout.proofs.part_states.edge_code.Goals as goal

pub returns : goal.returns
returns c =
    let auto = c.args.auto.now in
    let state = c.args.state.now in
    let edge = c.args.edge.now in
    let saved = c.in_ok-append_save.ensures ∙ ap₂ (λ l k. l ++ save_code k c.args.saved []) c.in_ok-stmts.ensures.items c.saves_on-saves.ensures in
    let left = c.in_ok-append_list.ensures ∙ ap₂ (λ l ops. l ++ list_code auto ops []) saved c.as_slice-leave.ensures in
    let done = c.in_ok-append_list-2.ensures ∙ ap₂ (λ l ops. l ++ list_code auto ops []) left c.as_slice-ops.ensures in
    c.in_ok-push-2.ensures.items
    ∙ ap (λ l. l ++ Goto c.args.block ∷ []) (c.in_ok-push.ensures.items ∙ ap (λ l. l ++ Skip ∷ []) done)
    ∙ edge_code-parts (seen_marks c.args.marks.now) auto state c.args.saved edge c.args.block
