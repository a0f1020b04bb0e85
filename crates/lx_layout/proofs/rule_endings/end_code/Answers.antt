use Rattle.std.proofs.Common.{[], ◌++◌, IfSome, ap, ap₂, subst, sym, ◌∙◌}
use Rattle.lx_auto.specs.Automaton.{IsHeld}
use Rattle.lx_layout.specs.Endings.{back_code, cond_code, tags_code}
use Rattle.lx_layout.specs.RuleEnds.{ending_of}
use Rattle.lx_layout.specs.Rules.{names_of}
use Rattle.lx_layout.proofs.Rules.EndCodes.{ending_code-parts}
use Rattle.lx_layout.proofs.Rules.EndingLoops.{slash_held-held}
use Rattle.lx_layout.proofs.rule_endings.end_code.Goals as goal

pub append_back-requires : goal.append_back-requires
append_back-requires c =
    subst (λ o. IfSome o (IsHeld 1073741824 1073741824)) (sym c.slash_held.ensures)
    (slash_held-held 1073741824 1073741824 c.args.end.now.rule.now.slash c.args.values.now c.requires.held)

pub returns : goal.returns
returns c =
    let end = c.args.end.now in
    let values = c.args.values.now in
    let tags = c.in_ok-append_tags.ensures
    ∙ ap (λ l. l ++ tags_code (ending_of end) 0 (names_of end.rule.now.tags) values []) c.in_ok-stmts.ensures.items in
    let back = c.in_ok-append_back.ensures ∙ ap₂ (λ l o. l ++ back_code o []) tags c.slash_held.ensures in
    let cond = c.in_ok-append_cond.ensures ∙ ap (λ l. l ++ cond_code end.goes.now []) back in
    c.in_ok-push.ensures.items ∙ ap₂ (λ l last. l ++ last) cond c.in_ok-action_code.ensures
    ∙ ending_code-parts (ending_of end) end.rule.now.number values
