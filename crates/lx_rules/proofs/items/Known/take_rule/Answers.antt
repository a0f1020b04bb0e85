use Rattle.std.proofs.Common.{◌≡◌, ◌∙◌, ◌+◌, ◌==◌, ℕ, List, Bor, suc, ap, map, sym, subst, arith, length}
use Rattle.std.proofs.lemmas.Result.{err_from_is_err_and}
use Rattle.lx_exprs.specs.Checks.{Check, Then}
use Rattle.lx_forms.specs.Lexemes.{Lexeme, nth_lexeme, sort_at}
use Rattle.lx_forms.specs.Seen.{lexemes_view}
use Rattle.lx_rules.specs.Conditions.{AreConds, room_under}
use Rattle.lx_rules.specs.Items.{HeadChecks, ListChecks, TargetChecks, act_of, conds_of, head_sort}
use Rattle.lx_rules.specs.Keeping.{IsHeadRead, IsNew, StopsHead}
use Rattle.lx_rules.proofs.Blocks.CheckSteps.{stops_first, stops_second}
use Rattle.lx_rules.proofs.Rules.RuleItems.{rule_taken, taken, taken_new}
use Rattle.lx_rules.proofs.Rules.RuleSteps.{acts_counted}
use Rattle.lx_rules.proofs.Rules.FittingRules.{conds_at-apart}
use Rattle.lx_rules.proofs.items.Known.take_rule.Goals as goal

abbrev names_in : List (Bor (List ℕ)) → List (List ℕ)
names_in conds = map (λ cond. cond.now) conds

pub returns-in_err-read-clause-taken : goal.returns-in_err-read-clause-taken
returns-in_err-read-clause-taken c = λ state holds.
    let options = c.args.block.options.now in
    let lexemes = lexemes_view c.args.block.lexemes in
    let conds = conds_of options lexemes c.args.first c.args.head in
    let Lists : Check = ListChecks options lexemes (c.args.first == c.args.head) (nth_lexeme lexemes c.args.first).at in
    let Heads : Check = HeadChecks options lexemes state (head_sort (sort_at (nth_lexeme lexemes c.args.head))) conds c.args.head c.args.slash c.args.until in
    let Targets : Check = TargetChecks options lexemes c.args.goes in
    let stopped = c.in_err-read.field-0.0 in
    let same : names_in c.deref.result.now ≡ conds = ap names_in c.deref.ensures.value ∙ c.in_ok-conds.ensures in
    let stops = subst (λ l. StopsHead options lexemes state l c.args.head c.args.slash c.args.until stopped) same (c.in_err-read.ensures.read state holds) in
    let p = err_from_is_err_and c.from_residual-in_err-read.result c.from_residual-in_err-read.ensures.1 in
    rw (p.1, p.2) (stops_second Lists (Then Heads Targets) stopped c.in_ok-check_list.ensures (stops_first Heads Targets stopped stops))

pub returns-in_err-check_target-clause-taken : goal.returns-in_err-check_target-clause-taken
returns-in_err-check_target-clause-taken c = λ state holds.
    let options = c.args.block.options.now in
    let lexemes = lexemes_view c.args.block.lexemes in
    let conds = conds_of options lexemes c.args.first c.args.head in
    let Lists : Check = ListChecks options lexemes (c.args.first == c.args.head) (nth_lexeme lexemes c.args.first).at in
    let Heads : Check = HeadChecks options lexemes state (head_sort (sort_at (nth_lexeme lexemes c.args.head))) conds c.args.head c.args.slash c.args.until in
    let Targets : Check = TargetChecks options lexemes c.args.goes in
    let stopped = c.in_err-check_target.field-0.0 in
    let known = c.args.self.now in
    let same : names_in c.deref.result.now ≡ conds = ap names_in c.deref.ensures.value ∙ c.in_ok-conds.ensures in
    let heads = subst (λ l. IsHeadRead options lexemes state l c.args.head c.args.slash c.args.until (room_under known.conds l) c.in_ok-read.read) same
    (c.in_ok-read.ensures.read state holds) in
    let p = err_from_is_err_and c.from_residual-in_err-check_target.result c.from_residual-in_err-check_target.ensures.1 in
    rw (p.1, p.2)
    (stops_second Lists (Then Heads Targets) stopped c.in_ok-check_list.ensures (stops_second Heads Targets stopped heads.0 c.in_err-check_target.ensures))

pub add_rule-requires : goal.add_rule-requires
add_rule-requires c =
    let lexemes = lexemes_view c.args.block.lexemes in
    subst AreConds (sym (ap names_in c.deref-2.ensures.value ∙ c.in_ok-conds.ensures)) (conds_at-apart lexemes c.args.first c.args.head c.requires.conds)

pub returns-clause-taken : goal.returns-clause-taken
returns-clause-taken c = λ state holds.
    let options = c.args.block.options.now in
    let body = c.args.block.lexemes.body.now in
    let tokens = c.args.block.lexemes.tokens.now in
    let lexemes = lexemes_view c.args.block.lexemes in
    let known = c.args.self.now in
    let conds = conds_of options lexemes c.args.first c.args.head in
    let read = c.in_ok-read.read in
    let same : names_in c.deref.result.now ≡ conds = ap names_in c.deref.ensures.value ∙ c.in_ok-conds.ensures in
    let last : names_in c.deref-2.result.now ≡ conds = ap names_in c.deref-2.ensures.value ∙ c.in_ok-conds.ensures in
    let heads = subst (λ l. IsHeadRead options lexemes state l c.args.head c.args.slash c.args.until (room_under known.conds l) read) same
    (c.in_ok-read.ensures.read state holds) in
    let rule = taken options body tokens known state holds c.args.first c.args.head c.args.slash c.args.until c.args.goes c.args.code read heads in
    let is = taken_new options body tokens known state holds c.args.first c.args.head c.args.slash c.args.until c.args.goes c.args.code read heads c.requires.short
    c.in_ok-read.ensures.bounded in
    let at = ap (λ (l : Lexeme). l.at) (sym c.at.ensures) in
    let counted : c.len.result + 1 ≡ suc (length state.rules) = let acts = acts_counted known state holds in omega (arith, acts, c.len.ensures) in
    let act : c.in_ok-act.act ≡ rule.act = c.in_ok-act.ensures ∙ ap (λ n. act_of options lexemes n c.args.goes c.args.code) counted in
    let is' = subst (λ l. IsNew known l read c.at.result.at c.target_place.result c.in_ok-act.act rule) (sym last)
    (subst (λ a. IsNew known conds read c.at.result.at c.target_place.result a rule) (sym act)
    (subst (λ t. IsNew known conds read c.at.result.at t rule.act rule) (sym c.target_place.ensures)
    (subst (λ p. IsNew known conds read p rule.target rule.act rule) at is))) in
    rule_taken options body tokens known state holds c.args.first c.args.head c.args.slash c.args.until c.args.goes c.args.code read heads
    c.add_rule.new.self c.in_ok-check_list.ensures c.in_ok-check_target.ensures (c.in_ok-add_rule.ensures.added state rule holds is')
