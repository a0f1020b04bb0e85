-- What is asked of definitions and rules holds behind each item.
use Rattle.std.proofs.Common.{◌≡◌, ℕ, suc, ◌+◌, ◌*◌, ◌≤◌, Bool, true, false, List, [], ◌∷◌, ◌++◌, length, Option, None, Some, Ok, refl, sym, ap, ap₂, ◌∙◌, subst, arith, length-append}
use Rattle.std.specs.List.{AllByRecursion}
use Rattle.std.specs.Option.{option_and_then, option_map}
use Rattle.std.specs.Prelude.{◌==◌, ◌&&◌, drop, is_some, nat_le}
use Rattle.lx_base.specs.Spelling.{greatest_point}
use Rattle.lx_base.specs.declared.places.Pos.{Pos}
use Rattle.lx_base.specs.declared.settings.Enc.{Enc}
use Rattle.lx_base.specs.declared.settings.Options.{Options}
use Rattle.lx_parse.specs.declared.items.Item.{Item}
use Rattle.lx_parse.specs.declared.items.Item.TheVariants.{Define, Configure, Rule, Text}
use Rattle.lx_regex.specs.Term.{Term}
use Rattle.lx_regex.specs.declared.rules.Kind.{Kind}
use Rattle.lx_regex.specs.declared.rules.Tag.{Tag}
use Rattle.lx_exprs.specs.Checks.{Check, Checks, Finds, IsIn, Then, are_groups, tags_of}
use Rattle.lx_exprs.specs.Defined.{Definition, IsClassKept, IsDefined, IsTermKept, Meaning, class_in, definition_of, fits, is_built, meant_class, nothing, slash_tag, whole, whole_room}
use Rattle.lx_forms.specs.Forms.{Form}
use Rattle.lx_exprs.specs.Expressions.{ExpressionChecks, IsExpression}
use Rattle.lx_regex.specs.Pattern.{is_end}
use Rattle.lx_rules.specs.Items.{Goes, HeadChecks, HeadSort, IsAfter, IsHead, ItemChecks, ListChecks, State, TargetChecks, act_of, RuleMeaning, any, any_meaning, behind_slash, conds_of, ends, end, end_meaning, expression, first_of, head_sort, next, twice, rule_of, with_rule}
use Rattle.lx_rules.specs.Rules.{RuleOf}
use Rattle.lx_forms.specs.Lexemes.{Lexeme, nth_lexeme, sort_at}
use Rattle.lx_exprs.specs.Meanings.{IsMeaning, term_or_empty}
use Rattle.lx_exprs.specs.Within.{AreDefinedWithin, IsDefinedWithin, IsGrouped, IsPlain}
use Rattle.lx_exprs.proofs.Classes.ClassFits.{plain_class}
use Rattle.lx_exprs.proofs.Forms.ClassForms.{in_ranges_of, then-none}
use Rattle.lx_exprs.proofs.Forms.FormFits.{form_ready}
use Rattle.lx_exprs.proofs.Forms.MeaningFits.{IsMeantWithin}
use Rattle.lx_exprs.proofs.Forms.NoGroups.{groups_of-none}
use Rattle.lx_forms.proofs.OneForm.{one_form}
use Rattle.lx_rules.proofs.Rules.EndRules.{AreOnce, IsEndRule, once_more, twice-none}
use Rattle.lx_rules.proofs.Rules.RuleFits.{IsRuleMeant, any_within, as_rule_meant, end_meant, trailing_meant}
use Rattle.lx_rules.proofs.Rules.RuleNumbers.{Differ, all_both, differ_snoc}
use Rattle.lx_exprs.proofs.Contents.ValueLimits.{le_kept}

no_way : {A : Type 0} → false ≡ true → A
no_way held = absurd (let h : false ≡ true = held in cc)

-- what is kept of an expression past a limit is its class
class_kept_plain : (enc : Enc) (ranges : Option (List (ℕ × ℕ))) (term : Option Term) → IsClassKept ranges term
    → ((point : ℕ) → IsIn ranges point → point ≤ greatest_point enc) → IsPlain enc (term_or_empty term)
class_kept_plain enc ranges None is fit = tt
class_kept_plain enc None (Some term) is fit = absurd is.1
class_kept_plain enc (Some ranges) (Some term) is fit =
    subst (IsPlain enc) (sym is.2) (λ point inside. fit point ((is.1.1 point).0 ((in_ranges_of is.0 point).0 inside)))

class_kept_some : (ranges : Option (List (ℕ × ℕ))) (term : Option Term) → IsClassKept ranges term → is_some (option_and_then class_in term) ≡ true
    → is_some ranges ≡ true
class_kept_some ranges None is held = no_way held
class_kept_some None (Some term) is held = absurd is.1
class_kept_some (Some ranges) (Some term) is held = refl

module _ (enc : Enc) where
  -- a definition is ready for copies where its meaning is as is asked
  defined_within : (name : List ℕ) (at : Pos) (meaning : Meaning) (definition : Definition) → IsDefined name at meaning definition
      → IsMeantWithin enc nothing meaning → IsDefinedWithin enc definition
  defined_within name place meaning definition is within = at (is_built whole_room meaning) refl is.term
    where
      built_is : fits whole_room definition.size definition.nesting (length definition.tags + 2 * definition.groups) ≡ is_built whole_room meaning
      built_is =
          let tags : nat_le (length definition.tags + 2 * definition.groups) 128 ≡ nat_le meaning.count 128 =
          let same = ap (λ (l : List Tag). length l) is.tags in let groups = is.groups in let all = within.count in search (arith, same, groups, all) in
          ap₂ (λ a b. a && b) (ap (λ s. nat_le s 4096) is.size ∙ le_kept meaning.size 4096 (omega arith))
          (ap₂ (λ a b. a && b) (ap (λ n. nat_le n 256) is.nesting ∙ le_kept meaning.nesting 256 (omega arith)) tags)

      at : (b : Bool) → is_built whole_room meaning ≡ b → IsTermKept b meaning definition.term → IsDefinedWithin enc definition
      at true e term = record {
        plain = rw (term) within.plain;
        untagged = λ held.
            let none = within.untagged (ap (λ t. is_some (option_and_then class_in t)) (sym term) ∙ held) in
            (is.tags ∙ none.0, is.groups ∙ none.1);
        numbered = λ fit. rw (term, is.tags, is.groups) (within.numbered e);
      }
      at false e term = record {
        plain = class_kept_plain enc (meant_class meaning) definition.term term (plain_class enc (whole meaning.shape) within.plain);
        untagged = λ held.
            let none = within.untagged (class_kept_some (meant_class meaning) definition.term term held) in
            (is.tags ∙ none.0, is.groups ∙ none.1);
        numbered = λ fit. no_way (sym e ∙ sym built_is ∙ fit);
      }

defined_snoc : (options : Options) (definitions : List Definition) (definition : Definition) → AreDefinedWithin options definitions
    → IsDefinedWithin options.enc definition → IsGrouped options definition → AreDefinedWithin options (definitions ++ definition ∷ [])
defined_snoc options [] definition are is grouped = ((is, grouped), tt)
defined_snoc options (first ∷ definitions) definition are is grouped =
    (are.0, defined_snoc options definitions definition are.1 is grouped)

-- what is asked of what is known behind items; the rules have numbers in order
pub record IsStateWithin (options : Options) (state : State) : Type 0 where
  pub definitions : AreDefinedWithin options state.definitions
  pub rules : AllByRecursion (λ (rule : RuleOf). IsRuleMeant options.enc rule.meaning rule.slash) state.rules
  pub numbers : AllByRecursion (λ (rule : RuleOf). rule.act.number ≤ length state.rules) state.rules
  pub differ : Differ state.rules
  pub ends : AllByRecursion IsEndRule state.rules
  pub once : AreOnce state.rules

-- what is known before the first rule
pub no_rules_within : (options : Options) (state : State) → AreDefinedWithin options state.definitions → state.rules ≡ [] → IsStateWithin options state
no_rules_within options state ready none = record {
  definitions = ready;
  rules = subst (AllByRecursion (λ (rule : RuleOf). IsRuleMeant options.enc rule.meaning rule.slash)) (sym none) tt;
  numbers = subst (AllByRecursion (λ (rule : RuleOf). rule.act.number ≤ length state.rules)) (sym none) tt;
  differ = subst Differ (sym none) tt;
  ends = subst (AllByRecursion IsEndRule) (sym none) tt;
  once = subst AreOnce (sym none) (λ cond. omega arith);
}

numbers_more : (rules : List RuleOf) (less more : ℕ) → less ≤ more → AllByRecursion (λ (rule : RuleOf). rule.act.number ≤ less) rules
    → AllByRecursion (λ (rule : RuleOf). rule.act.number ≤ more) rules
numbers_more [] less more le all = tt
numbers_more (rule ∷ rules) less more le all = let one = all.0 in (omega (arith, le, one), numbers_more rules less more le all.1)

module _ (options : Options) (lexemes : List Lexeme) where
  -- the action of a rule has its number
  pub act_number : (number : ℕ) (goes code : Option ℕ) → (act_of options lexemes number goes code).number ≡ number
  act_number number goes (Some code) = refl
  act_number number (Some goes) None = refl
  act_number number None None = refl

  -- an expression whose checks find nothing
  record PassesChecks (definitions : List Definition) (meaning : Meaning) : Type 0 where
    within : IsMeantWithin options.enc nothing meaning
    grouped : are_groups options definitions ≡ false → meaning.groups ≡ 0

  expression_within : (definitions : List Definition) → AreDefinedWithin options definitions → (from until : ℕ) (form : Form) (meaning : Meaning)
      → ExpressionChecks options lexemes definitions from until None → IsExpression options lexemes from until form
      → IsMeaning options definitions false nothing form meaning → PassesChecks definitions meaning
  expression_within definitions ready from until form meaning checked stands means =
      let same = one_form (drop from lexemes) (drop until lexemes) checked.0 form checked.1 stands in
      let found = subst (λ f. Checks options definitions false [] f None) same checked.2 in
      let meant = form_ready options definitions ready false nothing form meaning found means in record {
        within = meant.within;
        grouped = λ none. meant.groups_are ∙ groups_of-none options definitions ready none form;
      }

  head_within : (state : State) → AreDefinedWithin options state.definitions → (sort : HeadSort) (conds : List (List ℕ)) (head : ℕ)
      (slash : Option ℕ) (until : ℕ) (kind : Kind) (meaning : RuleMeaning) → HeadChecks options lexemes state sort conds head slash until None
      → IsHead options lexemes state.definitions sort head slash until kind meaning → IsRuleMeant options.enc meaning.means meaning.slash
  head_within state ready any conds head slash until kind meaning checked is =
      subst (λ (m : RuleMeaning). IsRuleMeant options.enc m.means m.slash) (sym is.1)
      (as_rule_meant options.enc (are_groups options state.definitions) any_meaning (any_within options.enc) (λ none. refl))
  head_within state ready end conds head slash until kind meaning checked is =
      subst (λ (m : RuleMeaning). IsRuleMeant options.enc m.means m.slash) (sym is.1) (end_meant options.enc)
  head_within state ready expression conds head None until kind meaning checked is =
      let meant = expression_within state.definitions ready head until is.1.0 is.1.1 checked is.1.2 is.1.3 in
      subst (λ (m : RuleMeaning). IsRuleMeant options.enc m.means m.slash) (sym is.1.4)
      (as_rule_meant options.enc (are_groups options state.definitions) is.1.1 meant.within meant.grouped)
  head_within state ready expression conds head (Some slash) until kind meaning checked is =
      let definitions = state.definitions in
      let same = one_form (drop head lexemes) (drop slash lexemes) checked.0 is.1.0 checked.2 is.1.4 in
      let same_behind = one_form (drop (suc slash) lexemes) (drop until lexemes) checked.1 is.1.1 checked.3 is.1.5 in
      let found =
      then-none (Checks options definitions false [] checked.0)
      (Checks options definitions false (tags_of options definitions checked.0 ++ slash_tag ∷ []) checked.1) checked.4 in
      let front = subst (λ f. Checks options definitions false [] f None) same found.0 in
      let one = form_ready options definitions ready false nothing is.1.0 is.1.2 front is.1.6 in
      let seen : tags_of options definitions checked.0 ≡ is.1.2.tags = ap (tags_of options definitions) same ∙ sym one.tags_are in
      let back =
      subst (λ tags. Checks options definitions false (tags ++ slash_tag ∷ []) is.1.1 None) seen
      (subst (λ f. Checks options definitions false (tags_of options definitions checked.0 ++ slash_tag ∷ []) f None) same_behind found.1) in
      let two = form_ready options definitions ready false (behind_slash is.1.2) is.1.1 is.1.3 back is.1.7 in
      subst (λ (m : RuleMeaning). IsRuleMeant options.enc m.means m.slash) (sym is.1.8)
      (trailing_meant options.enc (are_groups options definitions) is.1.2 is.1.3 one.within two.within
      (λ none. (one.groups_are ∙ groups_of-none options definitions ready none is.1.0, two.groups_are ∙ groups_of-none options definitions ready none is.1.1)))

  -- `$` has the meaning that it has to have
  pub head_end : (state : State) (sort : HeadSort) (head : ℕ) (slash : Option ℕ) (until : ℕ) (k : Kind) (meaning : RuleMeaning)
      → IsHead options lexemes state.definitions sort head slash until k meaning → is_end k ≡ true → meaning.means ≡ end_meaning
  head_end state any head slash until k meaning is found = absurd (let h : false ≡ true = sym (ap is_end is.0) ∙ found in cc)
  head_end state end head slash until k meaning is found = ap (λ (m : RuleMeaning). m.means) is.1
  head_end state expression head None until k meaning is found = absurd (let h : false ≡ true = sym (ap is_end is.0) ∙ found in cc)
  head_end state expression head (Some slash) until k meaning is found = absurd (let h : false ≡ true = sym (ap is_end is.0) ∙ found in cc)

  -- and its conditions have no other
  head_once : (state : State) (sort : HeadSort) (conds : List (List ℕ)) (head : ℕ) (slash : Option ℕ) (until : ℕ) (k : Kind) (meaning : RuleMeaning)
      → HeadChecks options lexemes state sort conds head slash until None → IsHead options lexemes state.definitions sort head slash until k meaning
      → is_end k ≡ true → first_of is_end conds state.rules ≡ None
  head_once state any conds head slash until k meaning checked is found = absurd (let h : false ≡ true = sym (ap is_end is.0) ∙ found in cc)
  head_once state end conds head slash until k meaning checked is found =
      twice-none (nth_lexeme lexemes head).at (first_of is_end conds state.rules) checked
  head_once state expression conds head None until k meaning checked is found = absurd (let h : false ≡ true = sym (ap is_end is.0) ∙ found in cc)
  head_once state expression conds head (Some slash) until k meaning checked is found = absurd (let h : false ≡ true = sym (ap is_end is.0) ∙ found in cc)

  rule_within : (state after : State) (rule : RuleOf) → IsStateWithin options state → IsRuleMeant options.enc rule.meaning rule.slash
      → rule.act.number ≡ suc (length state.rules) → IsEndRule rule
      → (is_end rule.kind ≡ true → first_of is_end rule.conds state.rules ≡ None) → after ≡ with_rule state rule → IsStateWithin options after
  rule_within state after rule within meant number bare free is =
      let longer : length (state.rules ++ rule ∷ []) ≡ suc (length state.rules) = let l = length-append state.rules (rule ∷ []) in omega (arith, l) in
      let more : length state.rules ≤ length (state.rules ++ rule ∷ []) = omega (arith, longer) in
      subst (IsStateWithin options) (sym is) (record {
        definitions = within.definitions;
        rules = all_both (λ (r : RuleOf). IsRuleMeant options.enc r.meaning r.slash) state.rules (rule ∷ []) within.rules (meant, tt);
        numbers =
            all_both (λ (r : RuleOf). r.act.number ≤ length (state.rules ++ rule ∷ [])) state.rules (rule ∷ [])
            (numbers_more state.rules (length state.rules) (length (state.rules ++ rule ∷ [])) more within.numbers)
            (omega (arith, number, longer), tt);
        differ = differ_snoc state.rules rule (length state.rules) within.numbers within.differ number;
        ends = all_both IsEndRule state.rules (rule ∷ []) within.ends (bare, tt);
        once = once_more state.rules rule within.once free;
      })

  item_within : (state after : State) (item : Item) → IsStateWithin options state → ItemChecks options lexemes state item None
      → IsAfter options lexemes state item after → IsStateWithin options after
  item_within state after (Define name from until) within checked is =
      let found =
      then-none
      (Finds (twice (nth_lexeme lexemes name).at (option_map (λ (d : Definition). d.at) (definition_of state.definitions (nth_lexeme lexemes name).text))))
      (ExpressionChecks options lexemes state.definitions from until) checked in
      let meant = expression_within state.definitions within.definitions from until is.0 is.1 found.1 is.3 is.4 in
      subst (IsStateWithin options) (sym is.6) (record {
        definitions =
            defined_snoc options state.definitions is.2 within.definitions
            (defined_within options.enc (nth_lexeme lexemes name).text (nth_lexeme lexemes name).at is.1 is.2 is.5 meant.within)
            (λ none. is.5.groups ∙ meant.grouped none);
        rules = within.rules;
        numbers = within.numbers;
        differ = within.differ;
        ends = within.ends;
        once = within.once;
      })
  item_within state after (Configure name value) within checked is =
      subst (IsStateWithin options) (sym is.2)
      (record {
        definitions = within.definitions;
        rules = within.rules;
        numbers = within.numbers;
        differ = within.differ;
        ends = within.ends;
        once = within.once;
      })
  item_within state after (Rule first head slash until goes code) within checked is =
      let sort = head_sort (sort_at (nth_lexeme lexemes head)) in
      let Head : Check = HeadChecks options lexemes state sort (conds_of options lexemes first head) head slash until in
      let found =
      then-none (ListChecks options lexemes (first == head) (nth_lexeme lexemes first).at)
      (λ fault. Then Head (TargetChecks options lexemes goes) fault) checked in
      let later = then-none Head (TargetChecks options lexemes goes) found.1 in
      let meant = head_within state within.definitions sort (conds_of options lexemes first head) head slash until is.0 is.1 later.0 is.2 in
      rule_within state after (rule_of options lexemes (suc (length state.rules)) first head goes code is.0 is.1) within meant (act_number (suc (length state.rules)) goes code)
      (head_end state sort head slash until is.0 is.1 is.2)
      (head_once state sort (conds_of options lexemes first head) head slash until is.0 is.1 later.0 is.2) is.3
  item_within state after (Text value) within checked is = subst (IsStateWithin options) (sym is) within

  -- and behind all items
  pub goes_within : (state after : State) (items : List Item) → IsStateWithin options state → Goes options lexemes state items (Ok after)
      → IsStateWithin options after
  goes_within state after [] within ends = within
  goes_within state after (item ∷ items) within (next middle checked is rest) =
      goes_within middle after items (item_within state middle item within checked is) rest
