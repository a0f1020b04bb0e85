-- What is known behind a rule.
use Rattle.std.proofs.Common.{◌≡◌, ℕ, suc, List, [], ◌∷◌, ◌++◌, length, All, Option, sym, ap, ap₂, ◌∙◌, subst}
use Rattle.std.specs.Prelude.{if◌then◌else◌}
use Rattle.std.proofs.lemmas.List.{length-map, map-append}
use Rattle.std.proofs.lemmas.List.Elements.{All-append}
use Rattle.std.proofs.lemmas.Slice.Zip.{AllZip-long}
use Rattle.lx_base.specs.declared.places.Pos.{Pos}
use Rattle.lx_exprs.proofs.TagLists.DefinitionLists.{All-one}
use Rattle.lx_exprs.specs.Checks.{is_among}
use Rattle.lx_rules.specs.declared.heads.Head.{Head}
use Rattle.lx_rules.specs.declared.heads.Head.TheVariants as head
use Rattle.lx_rules.specs.declared.items.Known.{Known}
use Rattle.lx_rules.specs.declared.kept.KeptRule.{KeptRule}
use Rattle.lx_rules.specs.declared.resolved.Act.{Act}
use Rattle.lx_rules.specs.declared.rule_exprs.RuleExpr.{RuleExpr}
use Rattle.lx_rules.specs.Blocks.{add_conds}
use Rattle.lx_rules.specs.Conditions.{AreNumbers, cond_names, conds_seen, kept_of, room_under, taken}
use Rattle.lx_rules.specs.Items.{State, with_rule}
use Rattle.lx_rules.specs.Keeping.{Holds, IsExprOf, IsHeadKept, IsHeadOf, IsNew, standing_in}
use Rattle.lx_rules.specs.Kept.{AreKept, IsKeptRule}
use Rattle.lx_rules.specs.Rules.{RuleOf}
use Rattle.std.specs.Global.{Global}
use Rattle.std.specs.declared.rc.Rc.{Rc}
use Rattle.lx_rules.specs.Seen.{known_definitions, rules_view, settings_view}
use Rattle.lx_rules.specs.FitScanners.{HasFitDefinitions, IsShort}
use Rattle.lx_rules.proofs.Rules.KeptRules.{rules_kept}
use Rattle.lx_rules.proofs.Rules.TakenRules.{places-taken, standing-taken}

-- there are as many actions as rules
pub acts_counted : (known : Known) (state : State) → Holds known state → length known.acts.items ≡ length state.rules
acts_counted known state holds = ap (λ (l : List Act). length l) holds.acts ∙ length-map state.rules (λ (r : RuleOf). r.act)

-- what is kept of a head is the same with any target
expr-target : (read : RuleExpr) (held : KeptRule) (target : Option Pos) → IsExprOf read held → IsExprOf read (record held { target = target })
expr-target read held target is = record {
  size = is.size;
  nesting = is.nesting;
  tags = is.tags;
  groups = is.groups;
  count = is.count;
  slash = is.slash;
  expr = is.expr;
}

pub headed-target : (read : Head) (held : KeptRule) (target : Option Pos) → IsHeadKept read held → IsHeadKept read (record held { target = target })
headed-target (head.Default reading) held target is = (is.0, expr-target reading held target is.1)
headed-target head.End held target is = (is.0, (is.1.0, is.1.1, is.1.2, expr-target is.1.0 held target is.1.3))
headed-target (head.Plain reading) held target is = (is.0, expr-target reading held target is.1)

module _ (known : Known) (state : State) (holds : Holds known state) (conds : List (List ℕ)) (read : Head) (at : Pos) (target : Option Pos) (act : Act)
    (rule : RuleOf) (new : IsNew known conds read at target act rule) where
  -- the rule is taken up for its conditions
  taken_so : (after : Known)
      → ((cond : List ℕ) → kept_of after.conds cond
      ≡ (if is_among cond conds then taken (length known.rules.items) (standing_in read act.number at) (kept_of known.conds cond) else kept_of known.conds cond))
      → (cond : List ℕ) → kept_of after.conds cond
      ≡ (if is_among cond rule.conds then taken (length state.rules) (standing_in read rule.act.number rule.at) (kept_of known.conds cond) else kept_of known.conds cond)
  taken_so after takes cond =
      takes cond
      ∙ ap (λ l. if is_among cond l then taken (length known.rules.items) (standing_in read act.number at) (kept_of known.conds cond) else kept_of known.conds cond) (sym new.conds_are)
      ∙ ap₂ (λ (n : ℕ) (p : Pos). if is_among cond rule.conds then taken (length known.rules.items) (standing_in read n p) (kept_of known.conds cond) else kept_of known.conds cond)
      (ap (λ (a : Act). a.number) (sym new.act_is)) (sym new.at_is)
      ∙ ap (λ n. if is_among cond rule.conds then taken n (standing_in read rule.act.number rule.at) (kept_of known.conds cond) else kept_of known.conds cond)
      (sym (length-map known.rules.items (λ (held : Rc KeptRule Global). held.value))
      ∙ sym (AllZip-long (IsKeptRule (cond_names known.conds) state.rules) (rules_view known.rules) state.rules holds.rules.each))

  -- what is known behind one rule more
  pub holds_more :
      (after : Known) (one : KeptRule) → known_definitions after ≡ known_definitions known → after.settings ≡ known.settings → HasFitDefinitions after
      → after.acts.items ≡ known.acts.items ++ act ∷ [] → rules_view after.rules ≡ rules_view known.rules ++ one ∷ []
      → cond_names after.conds ≡ add_conds conds (cond_names known.conds) → conds_seen (cond_names after.conds) one.conds ≡ conds
      → AreNumbers (length (cond_names after.conds)) one.conds
      → ((cond : List ℕ) → kept_of after.conds cond
      ≡ (if is_among cond conds then taken (length known.rules.items) (standing_in read act.number at) (kept_of known.conds cond) else kept_of known.conds cond))
      → one.number ≡ act.number → one.at ≡ at → one.target ≡ target → IsHeadKept read one → Holds after (with_rule state rule)
  holds_more after one definitions settings fit acts rules names seen listed takes number at_is targeted headed = record {
    definitions = definitions ∙ holds.definitions;
    settings = ap settings_view settings ∙ holds.settings;
    acts = more ∙ ap (λ l. l ++ rule.act ∷ []) holds.acts ∙ sym (map-append (λ (r : RuleOf). r.act) state.rules (rule ∷ []));
    rules =
        subst (λ l. AreKept (state.rules ++ rule ∷ []) l after.conds) (sym rules)
        (rules_kept state.rules rule (rules_view known.rules) known.conds holds.rules one after.conds read
        (names ∙ ap (λ l. add_conds l (cond_names known.conds)) (sym new.conds_are)) (seen ∙ sym new.conds_are) listed
        (standing-taken known.conds after.conds state.rules rule (standing_in read rule.act.number rule.at) holds.rules.places (taken_so after takes))
        (places-taken known.conds after.conds state.rules rule (standing_in read rule.act.number rule.at) holds.rules.places (taken_so after takes))
        (number ∙ ap (λ (a : Act). a.number) (sym new.act_is))
        (ap (λ (a : Act). a.number) new.act_is ∙ new.number ∙ ap suc (acts_counted known state holds)) (at_is ∙ sym new.at_is) (targeted ∙ sym new.target_is)
        (subst (λ l. IsHeadOf (room_under known.conds l) rule.kind rule.meaning rule.slash read) (sym new.conds_are) new.head_of) headed new.bounded);
    fit = fit;
    short =
        subst (All (λ (a : Act). IsShort a.code)) (sym acts)
        (All-append (λ (a : Act). IsShort a.code) known.acts.items (act ∷ []) holds.short (All-one (λ (a : Act). IsShort a.code) act new.short));
  }
    where
      more : after.acts.items ≡ known.acts.items ++ rule.act ∷ []
      more = acts ∙ ap (λ a. known.acts.items ++ a ∷ []) (sym new.act_is)
