-- The heads of rules.
use Rattle.std.proofs.Common.{◌≡◌, ℕ, zero, suc, inl, inr, ⊎_elim, true, List, [], ◌∷◌, drop, Option, None, Some, Result, Ok, Err, refl, sym, ap, ◌∙◌, subst}
use Rattle.std.specs.Prelude.{MatchResult}
use Rattle.std.specs.Option.{unwrap_or}
use Rattle.lx_base.specs.declared.faults.Stop.{Stop}
use Rattle.lx_base.specs.declared.faults.Stop.TheVariants as stop
use Rattle.lx_base.specs.declared.places.Pos.{Pos}
use Rattle.lx_base.specs.declared.settings.Options.{Options}
use Rattle.lx_parse.specs.declared.items.Item.TheVariants as item
use Rattle.lx_parse.specs.declared.sorts.Sort.{Sort}
use Rattle.lx_parse.specs.declared.sorts.Sort.TheVariants as sort
use Rattle.lx_parse.specs.Expressions.{alt}
use Rattle.lx_parse.specs.Ranges.{HasExpressions, IsPart}
use Rattle.lx_regex.specs.declared.rules.Kind.TheVariants as kind
use Rattle.lx_exprs.specs.declared.expressions.Reading.{Reading}
use Rattle.lx_rules.specs.declared.heads.Head.{Head}
use Rattle.lx_rules.specs.declared.heads.Head.TheVariants as head
use Rattle.lx_rules.specs.declared.items.Known.{Known}
use Rattle.lx_rules.specs.declared.rule_exprs.RuleExpr.{RuleExpr}
use Rattle.lx_exprs.specs.declared.values.Room.{Room}
use Rattle.lx_forms.specs.Lexemes.{Lexeme, nth_lexeme, sort_at, sorts_at}
use Rattle.lx_exprs.specs.Checks.{Check, StopsAt, are_groups}
use Rattle.lx_exprs.specs.Expressions.{ContextChecks, ExpressionChecks}
use Rattle.lx_regex.specs.Pattern.{is_end}
use Rattle.lx_rules.specs.Items.{State, HeadChecks, IsHead, alone, any_meaning, as_rule, end_meaning, expression, head_sort, first_of, is_default, twice}
use Rattle.lx_exprs.specs.Expressions.{IsRead, IsReadAs}
use Rattle.lx_exprs.specs.Defined.{Meaning, is_built}
use Rattle.lx_rules.specs.Keeping.{Holds, IsContextRead, IsHeadRead, IsRuleExpr, StopsHead}
use Rattle.lx_exprs.specs.Seen.{IsStop}
use Rattle.lx_rules.specs.Seen.{known_definitions}
use Rattle.lx_exprs.proofs.Forms.ExpressionRanges.{part_form}
use Rattle.lx_rules.specs.declared.conditions.FirstRule.{FirstRule}
use Rattle.lx_rules.specs.Conditions.{earliest_default, earliest_end, standing_of}
use Rattle.lx_rules.specs.Kept.{first_from}
use Rattle.lx_rules.proofs.Rules.FirstRules.{earliest-same, first_of-earliest, place}
use Rattle.lx_rules.proofs.Blocks.ItemSteps.{read_checked, read_known}

-- the sort of the first lexeme from a place on
sort_from : (all : List Lexeme) (from : ℕ) (sort : Sort) (rest : List Sort) → drop from (sorts_at all) ≡ sort ∷ rest
    → sort_at (nth_lexeme all from) ≡ sort
sort_from [] zero sort rest same = cc
sort_from [] (suc from) sort rest same = cc
sort_from (first ∷ all) zero sort rest same = cc
sort_from (first ∷ all) (suc from) sort rest same = sort_from all from sort rest same

-- the expression of a rule that begins with neither `*` nor `$` stands before its trailing context, if it has one
pub head_part : (lexemes : List Lexeme) (from : ℕ) (slash : Option ℕ) (until : ℕ) → (sort_at (nth_lexeme lexemes from) ≡ sort.Star → ⊥)
    → (sort_at (nth_lexeme lexemes from) ≡ sort.Dollar → ⊥) → HasExpressions (sorts_at lexemes) (item.Rule from from slash until None None)
    → IsPart (sorts_at lexemes) alt from (unwrap_or slash until)
head_part lexemes from None until no_star no_dollar (inl part) = part
head_part lexemes from None until no_star no_dollar (inr bare) =
    absurd (⊎_elim
    (λ star. no_star (sort_from lexemes from sort.Star star.rest star.is))
    (λ dollar. no_dollar (sort_from lexemes from sort.Dollar dollar.rest dollar.is)) bare.stands)
head_part lexemes from (Some slash) until no_star no_dollar has = has.0

-- a terminal that is neither `*` nor `$` begins an expression
other_head : (s : Sort) → (s ≡ sort.Star → ⊥) → (s ≡ sort.Dollar → ⊥) → head_sort s ≡ expression
other_head sort.Name no_star no_dollar = refl
other_head sort.Format no_star no_dollar = refl
other_head sort.Separator no_star no_dollar = refl
other_head sort.Config no_star no_dollar = refl
other_head sort.Number no_star no_dollar = refl
other_head sort.Str no_star no_dollar = refl
other_head sort.IStr no_star no_dollar = refl
other_head sort.Class no_star no_dollar = refl
other_head sort.STag no_star no_dollar = refl
other_head sort.MTag no_star no_dollar = refl
other_head sort.Bounds no_star no_dollar = refl
other_head sort.Code no_star no_dollar = refl
other_head sort.Equals no_star no_dollar = refl
other_head sort.Semicolon no_star no_dollar = refl
other_head sort.Bar no_star no_dollar = refl
other_head sort.Backslash no_star no_dollar = refl
other_head sort.Slash no_star no_dollar = refl
other_head sort.Open no_star no_dollar = refl
other_head sort.Close no_star no_dollar = refl
other_head sort.Star no_star no_dollar = absurd (no_star refl)
other_head sort.Plus no_star no_dollar = refl
other_head sort.Question no_star no_dollar = refl
other_head sort.Dot no_star no_dollar = refl
other_head sort.Dollar no_star no_dollar = absurd (no_dollar refl)
other_head sort.Less no_star no_dollar = refl
other_head sort.Greater no_star no_dollar = refl
other_head sort.Comma no_star no_dollar = refl
other_head sort.Arrow no_star no_dollar = refl
other_head sort.Jump no_star no_dollar = refl

-- the first rule `*` of conditions, and the first rule `$`
module _ (known : Known) (state : State) (holds : Holds known state) (conds : List (List ℕ)) where
  pub default_first : (found : Option FirstRule) → found ≡ earliest_default known.conds conds → place found ≡ first_of is_default conds state.rules
  default_first found is =
      ap place (is ∙ earliest-same (λ cond. (standing_of known.conds cond).first_default) (λ cond. first_from is_default 1 state.rules cond) holds.rules.defaults None conds)
      ∙ first_of-earliest is_default 1 state.rules conds

  pub end_first : (found : Option FirstRule) → found ≡ earliest_end known.conds conds → place found ≡ first_of is_end conds state.rules
  end_first found is =
      ap place (is ∙ earliest-same (λ cond. (standing_of known.conds cond).first_end) (λ cond. first_from is_end 1 state.rules cond) holds.rules.ends None conds)
      ∙ first_of-earliest is_end 1 state.rules conds

module _ (options : Options) (lexemes : List Lexeme) (known : Known) (state : State) (holds : Holds known state) (conds : List (List ℕ)) where
  module _ (from : ℕ) (slash : Option ℕ) (until : ℕ) where
    abbrev start : Lexeme
    start = nth_lexeme lexemes from

    abbrev Heads : Sort → Check
    Heads s = HeadChecks options lexemes state (head_sort s) conds from slash until

    -- a head that is read once: a first one at this place refuses it
    abbrev pub IsOnce : (first : Option Pos) → Head → Result Head Stop → Type 0
    IsOnce first read result = MatchResult result (λ given. (first ≡ None) × (given ≡ read)) (IsStop (twice start.at first))

    abbrev pub IsReadAt : Room → Result Head Stop → Type 0
    IsReadAt room result =
        MatchResult result (IsHeadRead options lexemes state conds from slash until room) (StopsHead options lexemes state conds from slash until)

    -- `*` is read, or refused as a second one
    pub star_read : (room : Room) (any : RuleExpr) (result : Result Head Stop) → sort_at start ≡ sort.Star
        → IsRuleExpr true (as_rule (are_groups options state.definitions) any_meaning) None any
        → IsOnce (first_of is_default conds state.rules) (head.Default any) result → IsReadAt room result
    star_read room any (Ok read) star given once =
        let meaning = alone (as_rule (are_groups options state.definitions) any_meaning) in
        subst (IsHeadRead options lexemes state conds from slash until room) (sym once.1) (
          subst (λ s. Heads s None) (sym star) (ap (twice start.at) (sym once.0)),
          (kind.Default, meaning, subst (λ s. IsHead options lexemes state.definitions (head_sort s) from slash until kind.Default meaning) (sym star) (refl, refl), (refl, given)),
        )
    star_read room any (Err stop.Memory) star given once = tt
    star_read room any (Err (stop.Fault fault)) star given once = subst (λ s. Heads s (Some fault)) (sym star) (sym once)

    -- and so is `$`
    pub end_read : (room : Room) (result : Result Head Stop) → sort_at start ≡ sort.Dollar → IsOnce (first_of is_end conds state.rules) head.End result
        → IsReadAt room result
    end_read room (Ok read) dollar once =
        let meaning = alone end_meaning in
        subst (IsHeadRead options lexemes state conds from slash until room) (sym once.1) (
          subst (λ s. Heads s None) (sym dollar) (ap (twice start.at) (sym once.0)),
          (kind.Eof, meaning, subst (λ s. IsHead options lexemes state.definitions (head_sort s) from slash until kind.Eof meaning) (sym dollar) (refl, refl), (refl, refl, refl)),
        )
    end_read room (Err stop.Memory) dollar once = tt
    end_read room (Err (stop.Fault fault)) dollar once = subst (λ s. Heads s (Some fault)) (sym dollar) (sym once)

    module _ (no_star : sort_at start ≡ sort.Star → ⊥) (no_dollar : sort_at start ≡ sort.Dollar → ⊥) where
      is_other : head_sort (sort_at start) ≡ expression
      is_other = other_head (sort_at start) no_star no_dollar

  -- the expression of a rule is read
  pub plain_read :
      (from until : ℕ) (room : Room) (reading : Reading) (no_star : sort_at (nth_lexeme lexemes from) ≡ sort.Star → ⊥) (no_dollar : sort_at (nth_lexeme lexemes from) ≡ sort.Dollar → ⊥)
      → IsRead options lexemes (known_definitions known) room from until reading → (expr : RuleExpr)
      → ((meaning : Meaning) → IsReadAs room meaning reading → IsRuleExpr (is_built room meaning) (as_rule (are_groups options []) meaning) None expr)
      → IsHeadRead options lexemes state conds from None until room (head.Plain expr)
  plain_read from until room reading no_star no_dollar given expr stands =
      let read = read_known options lexemes known state holds room from until reading given in
      let meaning = alone (as_rule (are_groups options state.definitions) read.meaning) in
      let other = sym (is_other from None until no_star no_dollar) in (
        subst (λ s. HeadChecks options lexemes state s conds from None until None) other
            (read_checked options lexemes state.definitions room from until reading read),
        (
          kind.Plain,
          meaning,
          subst (λ s. IsHead options lexemes state.definitions s from None until kind.Plain meaning) other
              (refl, (read.form, read.meaning, read.stands_there, read.means, refl)),
          (refl, stands read.meaning read.stands),
        ),
      )

  -- what an expression that is refused stops with
  abbrev pub StopsIn : (from until : ℕ) → Stop → Type 0
  StopsIn from until stopped = StopsAt (ExpressionChecks options lexemes (known_definitions known) from until) stopped

  -- or it is refused
  pub plain_refused :
      (from until : ℕ) (stopped : Stop) (no_star : sort_at (nth_lexeme lexemes from) ≡ sort.Star → ⊥) (no_dollar : sort_at (nth_lexeme lexemes from) ≡ sort.Dollar → ⊥)
      → StopsIn from until stopped → StopsHead options lexemes state conds from None until stopped
  plain_refused from until stop.Memory no_star no_dollar stops = tt
  plain_refused from until (stop.Fault fault) no_star no_dollar stops =
      subst (λ s. HeadChecks options lexemes state s conds from None until (Some fault)) (sym (is_other from None until no_star no_dollar))
      (subst (λ definitions. ExpressionChecks options lexemes definitions from until (Some fault)) holds.definitions stops)

  -- the checks of an expression before a trailing context
  pub context_refused :
      (from slash until : ℕ) (stopped : Stop) (no_star : sort_at (nth_lexeme lexemes from) ≡ sort.Star → ⊥) (no_dollar : sort_at (nth_lexeme lexemes from) ≡ sort.Dollar → ⊥)
      → HasExpressions (sorts_at lexemes) (item.Rule from from (Some slash) until None None) → StopsIn from slash stopped
      → StopsHead options lexemes state conds from (Some slash) until stopped
  context_refused from slash until stop.Memory no_star no_dollar has stops = tt
  context_refused from slash until (stop.Fault fault) no_star no_dollar has stops =
      let front = subst (λ definitions. ExpressionChecks options lexemes definitions from slash (Some fault)) holds.definitions stops in
      let back = part_form options lexemes (suc slash) until has.1 in
      subst (λ s. HeadChecks options lexemes state s conds from (Some slash) until (Some fault)) (sym (is_other from (Some slash) until no_star no_dollar))
      (front.0, back.0, front.1, back.1, inr (fault, front.2, refl))

  -- the checks of what stands behind the slash
  pub behind_refused :
      (from slash until : ℕ) (stopped : Stop) (no_star : sort_at (nth_lexeme lexemes from) ≡ sort.Star → ⊥) (no_dollar : sort_at (nth_lexeme lexemes from) ≡ sort.Dollar → ⊥)
      → StopsAt (ContextChecks options lexemes (known_definitions known) from slash until) stopped
      → StopsHead options lexemes state conds from (Some slash) until stopped
  behind_refused from slash until stop.Memory no_star no_dollar stops = tt
  behind_refused from slash until (stop.Fault fault) no_star no_dollar stops =
      subst (λ s. HeadChecks options lexemes state s conds from (Some slash) until (Some fault)) (sym (is_other from (Some slash) until no_star no_dollar))
      (subst (λ definitions. ContextChecks options lexemes definitions from slash until (Some fault)) holds.definitions stops)

  -- both are read
  pub context_read :
      (from slash until : ℕ) (room : Room) (read : RuleExpr) (no_star : sort_at (nth_lexeme lexemes from) ≡ sort.Star → ⊥) (no_dollar : sort_at (nth_lexeme lexemes from) ≡ sort.Dollar → ⊥)
      → IsContextRead options lexemes (known_definitions known) room from slash until read
      → IsHeadRead options lexemes state conds from (Some slash) until room (head.Plain read)
  context_read from slash until room read no_star no_dollar given =
      let is = subst (λ definitions. IsContextRead options lexemes definitions room from slash until read) holds.definitions given in
      let other = sym (is_other from (Some slash) until no_star no_dollar) in (
        subst (λ s. HeadChecks options lexemes state s conds from (Some slash) until None) other is.checked,
        (
          kind.Plain,
          is.meaning,
          subst (λ s. IsHead options lexemes state.definitions s from (Some slash) until kind.Plain is.meaning) other is.is_head,
          (refl, is.stands),
        ),
      )

  -- whether a trailing context stands there or not
  pub head_refused :
      (from : ℕ) (slash : Option ℕ) (until : ℕ) (stopped : Stop) (no_star : sort_at (nth_lexeme lexemes from) ≡ sort.Star → ⊥) (no_dollar : sort_at (nth_lexeme lexemes from) ≡ sort.Dollar → ⊥)
      → HasExpressions (sorts_at lexemes) (item.Rule from from slash until None None) → StopsIn from (unwrap_or slash until) stopped
      → StopsHead options lexemes state conds from slash until stopped
  head_refused from None until stopped no_star no_dollar has stops = plain_refused from until stopped no_star no_dollar stops
  head_refused from (Some slash) until stopped no_star no_dollar has stops = context_refused from slash until stopped no_star no_dollar has stops
