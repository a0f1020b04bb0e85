-- What is known behind the items of a generated source.
use Rattle.std.proofs.Common.{◌≡◌, ◌∙◌, ℕ, zero, suc, ◌+◌, ◌<◌, ◌≤◌, Bool, false, List, [], ◌∷◌, ◌++◌, length, drop, Some, None, Ok, inl, refl, sym, ap, subst, arith, append_assoc, length-append, Option, IsSome, true≢false}
use Rattle.std.proofs.Math.Seq.{get_or-append_seam}
use Rattle.std.proofs.lemmas.Bool.{eq-eqb}
use Rattle.std.proofs.lemmas.List.{drop-drop}
use Rattle.std.specs.List.{AllByRecursion}
use Rattle.std.specs.Prelude.{codes, ◌==◌}
use Rattle.lx_base.specs.Places.{place_after}
use Rattle.lx_base.specs.declared.blocks.BlockKind.TheVariants as block
use Rattle.lx_base.specs.declared.places.Pos.{Pos}
use Rattle.lx_exprs.specs.Defined.{Meaning}
use Rattle.lx_exprs.specs.Expressions.{IsExpression}
use Rattle.lx_forms.specs.Forms.{Form, IsForm}
use Rattle.lx_forms.specs.Lexemes.{Lexeme, nth_lexeme, sort_at}
use Rattle.lx_parse.specs.Expressions.{alt}
use Rattle.lx_parse.specs.declared.items.Item.TheVariants.{Rule}
use Rattle.lx_regex.specs.declared.rules.Kind.{Kind}
use Rattle.lx_regex.specs.declared.rules.Kind.TheVariants.{Plain, Default}
use Rattle.lx_rules.specs.Configurations.{setting_of}
use Rattle.lx_rules.specs.Environments.{first_environment}
use Rattle.lx_rules.specs.Items.{Goes, HeadChecks, IsAfter, IsHead, ItemChecks, ListChecks, State, alone, any_meaning, as_rule, conds_of, ends, first_of, first_state, head_sort, is_default, next, rule_of, twice, with_rule, with_settings}
use Rattle.lx_rules.specs.Rules.{RuleOf}
use Rattle.lx_source.proofs.ReadLexemes.{drop-word}
use Rattle.lx_source.proofs.SourceItems.{rules_items, source_items}
use Rattle.lx_source.proofs.SourceLexemes.{behind_line, behind_string, behind_word, configured, last_lexemes, lexeme, lines_lexemes, rule_lexemes, source_lexemes, word_text}
use Rattle.lx_source.proofs.SourceRules.{AreRules, IsRule, no_refills}
use Rattle.lx_source.proofs.WordExpressions.{word-checks, word-form, word-means, word_form, word_meaning}
use Rattle.lx_source.specs.Sources.{source_options}
use Rattle.lx_token.specs.declared.kinds.TokenKind.TheVariants.{Code, Signs, Str}

-- no rule so far is `*`
abbrev ArePlain : List RuleOf → Type 0
ArePlain rules = AllByRecursion (λ (rule : RuleOf). rule.kind ≡ Plain) rules

plain-more : (rules : List RuleOf) (rule : RuleOf) → ArePlain rules → rule.kind ≡ Plain → ArePlain (rules ++ rule ∷ [])
plain-more [] rule are is = (is, tt)
plain-more (first ∷ rules) rule are is = (are.0, plain-more rules rule are.1 is)

no-default : (conds : List (List ℕ)) (rules : List RuleOf) → ArePlain rules → first_of is_default conds rules ≡ None
no-default conds [] are = refl
no-default conds (rule ∷ rules) are = rw are.0 (no-default conds rules are.1)

-- the rule of an item without conditions, a trailing context and a target is such a rule
module _ (lexemes : List Lexeme) (number from code : ℕ) (sort : Kind) (means : Meaning) where
  abbrev rule_here : RuleOf
  rule_here = rule_of source_options lexemes number from from None (Some code) sort (alone (as_rule false means))

  rule-here : IsRule sort means rule_here
  rule-here = record {
    conds = rw (eq-eqb from from refl) refl;
    kind = refl;
    meaning = refl;
    slash = refl;
    goes = refl;
  }

-- it has no list of conditions, where none are in use
no-list : (from : ℕ) (at : Pos) (lexemes : List Lexeme) → ListChecks source_options lexemes (from == from) at None
no-list from at lexemes = subst (λ (flag : Bool). ListChecks source_options lexemes flag at None) (sym (eq-eqb from from refl)) refl

-- ---- the rule of a word

-- it stands between these tokens
module _ (front rest : List Lexeme) (number : ℕ) (at : Pos) (less : number < 1000) where
  abbrev lexemes_here : List Lexeme
  lexemes_here = front ++ rule_lexemes number at rest

  abbrev from : ℕ
  from = length front

  -- the token of its string, and the one of its action
  abbrev string_here : Lexeme
  string_here = lexeme Str (word_text number) at

  abbrev action_here : Lexeme
  action_here = lexeme Code (codes "{ }") (place_after (behind_word number at) (codes "{1,3} [0-9]+ "))

  string-here : nth_lexeme lexemes_here from ≡ string_here
  string-here = get_or-append_seam front string_here (behind_string (behind_word number at) rest) _

  abbrev form_here : Form
  form_here = word_form number at (behind_word number at)

  word-stands : IsExpression source_options lexemes_here from (from + 4) form_here
  word-stands =
      let text = rule_lexemes number at rest in
      let later : drop (from + 4) lexemes_here ≡ action_here ∷ rest =
      sym (drop-drop 4 from lexemes_here) ∙ ap (drop 4) (drop-word front text) in
      subst (λ (l : List Lexeme). IsForm alt l (drop (from + 4) lexemes_here) form_here) (sym (drop-word front text))
      (subst (λ (l : List Lexeme). IsForm alt text l form_here) (sym later) (word-form number at (behind_word number at) (action_here ∷ rest)))

  module _ (state : State) where
    word-checked : ItemChecks source_options lexemes_here state (Rule from from None (from + 4) None (Some (from + 4))) None
    word-checked = inl (
      no-list from (nth_lexeme lexemes_here from).at lexemes_here,
      inl (
        subst (λ (l : Lexeme). HeadChecks source_options lexemes_here state (head_sort (sort_at l))
            (conds_of source_options lexemes_here from from) from None (from + 4) None)
            (sym string-here)
            (form_here, word-stands, word-checks state.definitions number at (behind_word number at) less),
        refl,
      ),
    )

    word-after : IsAfter source_options lexemes_here state (Rule from from None (from + 4) None (Some (from + 4)))
        (with_rule state (rule_here lexemes_here (suc (length state.rules)) from (from + 4) Plain (word_meaning number)))
    word-after = (
      Plain,
      alone (as_rule false (word_meaning number)),
      subst (λ (l : Lexeme). IsHead source_options lexemes_here state.definitions (head_sort (sort_at l)) from None (from + 4) Plain
          (alone (as_rule false (word_meaning number))))
          (sym string-here)
          (refl, (form_here, word_meaning number, word-stands, word-means state.definitions number at (behind_word number at) less, refl)),
      refl,
    )

-- ---- the last rule

module _ (front : List Lexeme) (at : Pos) (state : State) (plain : ArePlain state.rules) where
  abbrev last_here : List Lexeme
  last_here = front ++ last_lexemes at

  abbrev last_from : ℕ
  last_from = length front

  star-here : nth_lexeme last_here last_from ≡ lexeme Signs (codes "*") at
  star-here = get_or-append_seam front (lexeme Signs (codes "*") at) (lexeme Code (codes "{ }") (place_after at (codes "* ")) ∷ []) _

  last-checked : ItemChecks source_options last_here state (Rule last_from last_from None (last_from + 1) None (Some (last_from + 1))) None
  last-checked =
      let conds = conds_of source_options last_here last_from last_from in
      let place = (nth_lexeme last_here last_from).at in
      inl (
        no-list last_from place last_here,
        inl (
          subst (λ (l : Lexeme). HeadChecks source_options last_here state (head_sort (sort_at l)) conds last_from None
              (last_from + 1) None) (sym star-here)
              (sym (ap (twice place) (no-default conds state.rules plain))),
          refl,
        ),
      )

  last-after : IsAfter source_options last_here state (Rule last_from last_from None (last_from + 1) None (Some (last_from + 1)))
      (with_rule state (rule_here last_here (suc (length state.rules)) last_from (last_from + 1) Default any_meaning))
  last-after = (
    Default,
    alone (as_rule false any_meaning),
    subst (λ (l : Lexeme). IsHead source_options last_here state.definitions (head_sort (sort_at l)) last_from None
        (last_from + 1) Default (alone (as_rule false any_meaning)))
        (sym star-here) (refl, refl),
    refl,
  )

-- ---- all rules

-- the items of so many rules from one on, of which the first begins at a place, leave this known
pub record Leads (lexemes : List Lexeme) (from number count : ℕ) (state : State) : Type 0 where
  pub after : State
  pub goes : Goes source_options lexemes state (rules_items from count) (Ok after)
  pub settings : after.settings ≡ state.settings
  pub more : List RuleOf
  pub rules : after.rules ≡ state.rules ++ more
  pub are : AreRules number count more

last-leads : (front : List Lexeme) (number : ℕ) (at : Pos) (state : State) → ArePlain state.rules
    → Leads (front ++ last_lexemes at) (length front) number 0 state
last-leads front number at state plain =
    let from = length front in
    let lexemes = front ++ last_lexemes at in
    let rule = rule_here lexemes (suc (length state.rules)) from (from + 1) Default any_meaning in record {
      after = with_rule state rule;
      goes = next (with_rule state rule) (last-checked front at state plain) (last-after front at state plain) ends;
      settings = refl;
      more = rule ∷ [];
      rules = refl;
      are = record {
        words = [];
        last = rule;
        all = refl;
        count_is = refl;
        are_words = tt;
        is_last = rule-here lexemes (suc (length state.rules)) from (from + 1) Default any_meaning;
      };
    }

-- the five tokens of a rule
abbrev five : (number : ℕ) → Pos → List Lexeme
five number at = rule_lexemes number at []

rules-lead : (count number : ℕ) (front : List Lexeme) (at : Pos) (state : State) → number + count ≤ 1000 → ArePlain state.rules
    → Leads (front ++ lines_lexemes number count at last_lexemes) (length front) number count state
rules-lead zero number front at state few plain = last-leads front number at state plain
rules-lead (suc count) number front at state few plain =
    let from = length front in
    let rest = lines_lexemes (suc number) count (behind_line number at) last_lexemes in
    let lexemes = front ++ rule_lexemes number at rest in
    let rule = rule_here lexemes (suc (length state.rules)) from (from + 4) Plain (word_meaning number) in
    let later : Leads lexemes (from + 5) (suc number) count (with_rule state rule) =
    subst (λ (n : ℕ). Leads lexemes n (suc number) count (with_rule state rule)) (length-append front (five number at))
    (subst (λ (l : List Lexeme). Leads l (length (front ++ five number at)) (suc number) count (with_rule state rule))
    (append_assoc front (five number at) rest)
    (rules-lead count (suc number) (front ++ five number at) (behind_line number at) (with_rule state rule) (omega arith)
    (plain-more state.rules rule plain refl))) in
    record {
      after = later.after;
      goes = next (with_rule state rule) (word-checked front rest number at (omega arith) state)
          (word-after front rest number at (omega arith) state) later.goes;
      settings = later.settings;
      more = rule ∷ later.more;
      rules = later.rules ∙ append_assoc state.rules (rule ∷ []) later.more;
      are = record {
        words = rule ∷ later.are.words;
        last = later.are.last;
        all = ap (λ (l : List RuleOf). rule ∷ l) later.are.all;
        count_is = ap suc later.are.count_is;
        are_words = (rule-here lexemes (suc (length state.rules)) from (from + 4) Plain (word_meaning number), later.are.are_words);
        is_last = later.are.is_last;
      };
    }

-- ---- the whole block

-- what an option has
some_of : {A : Type 0} (found : Option A) → IsSome found → A
some_of (Some value) is = value
some_of None is = absurd (true≢false (sym is))

-- the items of a source leave this known
pub record Ends (rules : ℕ) (start : Pos) : Type 0 where
  pub after : State
  pub goes : Goes source_options (source_lexemes rules start) (first_state block.Code first_environment) (source_items rules) (Ok after)
  pub settings : after.settings ≡ no_refills
  pub are : AreRules 1 rules after.rules

pub source-ends : (rules : ℕ) (start : Pos) → rules < 1000 → Ends rules start
unfolding some_of
source-ends rules start few =
    let at = place_after start (codes "\nre2c:yyfill:enable = 0;\n") in
    let first = first_state block.Code first_environment in
    let state = with_settings first no_refills in
    let lexemes = source_lexemes rules start in
    let found = some_of (setting_of source_options.enc (nth_lexeme lexemes 0).text (nth_lexeme lexemes 2)) refl in
    let leads : Leads (source_lexemes rules start) 4 1 rules state = rules-lead rules 1 (configured start []) at state (omega arith) tt in
    record {
      after = leads.after;
      goes = next state refl (found, refl, refl) leads.goes;
      settings = leads.settings;
      are = subst (AreRules 1 rules) (sym leads.rules) leads.are;
    }
