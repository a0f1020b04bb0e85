-- The items of a block are surely refused, or taken to their end.
use Rattle.std.proofs.Common.{◌≡◌, ℕ, suc, ◌-◌, ◌≤◌, Bool, true, false, not, List, [], ◌∷◌, ◌++◌, length, Option, None, Some, Result, Ok, Err, refl, sym, ap, subst, arith}
use Rattle.std.specs.List.{AllByRecursion}
use Rattle.std.specs.Option.{option_map}
use Rattle.std.specs.Prelude.{◌==◌}
use Rattle.lx_base.specs.declared.faults.Fault.{Fault}
use Rattle.lx_base.specs.declared.faults.Fault.TheVariants.{BadValue, UnknownConfig}
use Rattle.lx_base.specs.declared.places.Pos.{Pos}
use Rattle.lx_base.specs.declared.settings.Options.{Options}
use Rattle.lx_parse.specs.declared.items.Item.{Item}
use Rattle.lx_parse.specs.declared.items.Item.TheVariants.{Define, Configure, Rule, Text}
use Rattle.lx_parse.specs.Expressions.{alt}
use Rattle.lx_parse.specs.Ranges.{EachHasExpressions, HasExpressions, IsPart}
use Rattle.lx_regex.specs.Term.{IsInRanges, Term}
use Rattle.lx_regex.specs.declared.rules.Kind.{Kind}
use Rattle.lx_regex.specs.declared.rules.Kind.TheVariants as kind
use Rattle.lx_rules.specs.Buildable.{IsBuildable}
use Rattle.lx_exprs.specs.Checks.{Check, Checks, Finds, IsIn, Then, are_groups, tags_of}
use Rattle.lx_rules.specs.Configurations.{config_fault, config_kind, kind_fault, set_by, setting_in, setting_of, value_fault}
use Rattle.lx_rules.specs.declared.configurations.ConfigKind.{ConfigKind}
use Rattle.lx_rules.specs.declared.environment.Setting.{Setting}
use Rattle.lx_base.specs.declared.settings.Enc.{Enc}
use Rattle.lx_exprs.specs.Defined.{Definition, IsClassKept, IsDefined, IsTermKept, Meaning, definition_of, is_built, kept, nothing, slash_tag, meant_class, term_of_meaning, whole, whole_room}
use Rattle.lx_exprs.specs.Expressions.{ContextChecks, ExpressionChecks}
use Rattle.lx_regex.specs.Pattern.{is_end}
use Rattle.lx_rules.specs.Items.{Goes, HeadChecks, HeadSort, IsAfter, IsHead, ItemChecks, ListChecks, State, TargetChecks, RuleMeaning, alone, any, any_meaning, as_rule, behind_slash, trailing, conds_of, ends, end, end_meaning, expression, first_of, head_sort, is_default, next, refused, twice, unless, rule_of}
use Rattle.lx_forms.specs.Lexemes.{Lexeme, nth_lexeme, sort_at, sorts_at}
use Rattle.lx_exprs.specs.Meanings.{set_term}
use Rattle.lx_exprs.specs.Within.{AreDefinedWithin}
use Rattle.lx_exprs.proofs.Classes.BoundedSets.{set_exists}
use Rattle.lx_rules.proofs.ScannerSets.BuildableMeanings.{IsMeantBuildable, IsRuleBuildable, any_buildable, as_rule_buildable, defined_buildable, end_buildable, form_buildable, trailing_buildable}
use Rattle.lx_exprs.proofs.Classes.ClassFits.{plain_class}
use Rattle.lx_exprs.proofs.Forms.ClassForms.{then-none}
use Rattle.lx_exprs.proofs.Classical.{Surely, surely, and_then}
use Rattle.lx_exprs.proofs.Forms.ExpressionRanges.{part_form}
use Rattle.lx_exprs.proofs.Forms.FormFits.{form_ready}
use Rattle.lx_exprs.proofs.Forms.FormVerdicts.{Decides, finds_decides, form_decides, form_means, then_decides}
use Rattle.lx_rules.proofs.Rules.HeadSteps.{head_part}
use Rattle.lx_rules.proofs.Blocks.ItemFits.{IsStateWithin, goes_within, head_end}
use Rattle.lx_exprs.proofs.Classes.PointSets.{le_greatest}
use Rattle.lx_rules.proofs.Rules.RuleNumbers.{all_both}

-- the class of what is kept of an expression
class_kept : (ranges : Option (List (ℕ × ℕ))) → ((point : ℕ) → IsIn ranges point → point ≤ 0x10FFFF)
    → Surely ((term : Option Term) × IsClassKept ranges term)
class_kept None fit = surely (None, refl)
class_kept (Some ranges) fit =
    and_then (set_exists (IsInRanges ranges) fit)
    (λ found. surely (Some (set_term found.0), (found.0, (found.1.canonical, found.1.points), refl)))

-- a name has a definition for each meaning whose classes fit the encoding
defined : (name : List ℕ) (at : Pos) (meaning : Meaning) → ((point : ℕ) → IsIn (meant_class meaning) point → point ≤ 0x10FFFF)
    → Surely ((definition : Definition) × IsDefined name at meaning definition)
defined name place meaning fit =
    and_then (at (is_built whole_room meaning))
    (λ term. surely (
      record { name = name; at = place; size = kept meaning.size; nesting = kept meaning.nesting; tags = meaning.tags; groups = meaning.groups; term = term.0 },
      record { name_is = refl; at_is = refl; size = refl; nesting = refl; tags = refl; groups = refl; term = term.1 },
    ))
  where
    at : (b : Bool) → Surely ((term : Option Term) × IsTermKept b meaning term)
    at true = surely (Some (term_of_meaning meaning), refl)
    at false = class_kept (meant_class meaning) fit

-- a configuration whose checks find nothing sets something
sets : (enc : Enc) (name value : Lexeme) → None ≡ config_fault enc name value → (setting : Setting) × (setting_of enc name.text value ≡ Some setting)
sets enc name value none = by (config_kind name.text) none
  where
    of : (found : Option Setting) → None ≡ value_fault value found → (setting : Setting) × (found ≡ Some setting)
    of None none = absurd (let h : None ≡ Some (BadValue value.at) = none in cc)
    of (Some setting) none = (setting, refl)

    by : (found : Option ConfigKind) → None ≡ kind_fault enc name value found → (setting : Setting) × (setting_in enc found value ≡ Some setting)
    by None none = absurd (let h : None ≡ Some (UnknownConfig name.at name.text) = none in cc)
    by (Some kind) none = of (set_by enc kind value) none

module _ (options : Options) (lexemes : List Lexeme) where
  expression_decides : (definitions : List Definition) (from until : ℕ) → IsPart (sorts_at lexemes) alt from until
      → Decides (ExpressionChecks options lexemes definitions from until)
  expression_decides definitions from until part =
      let form = part_form options lexemes from until part in
      and_then (form_decides options definitions false [] form.0) (λ found. surely (found.0, (form.0, form.1, found.1)))

  context_decides : (definitions : List Definition) (from slash until : ℕ) → IsPart (sorts_at lexemes) alt from slash
      → IsPart (sorts_at lexemes) alt (suc slash) until → Decides (ContextChecks options lexemes definitions from slash until)
  context_decides definitions from slash until part later =
      let form = part_form options lexemes from slash part in
      let behind = part_form options lexemes (suc slash) until later in
      let First : Check = Checks options definitions false [] form.0 in
      let seen = tags_of options definitions form.0 ++ slash_tag ∷ [] in
      and_then
      (then_decides First (Checks options definitions false seen behind.0) (form_decides options definitions false [] form.0)
      (form_decides options definitions false seen behind.0))
      (λ found. surely (found.0, (form.0, behind.0, form.1, behind.1, found.1)))

  list_decides : (is_absent : Bool) (at : Pos) → Decides (ListChecks options lexemes is_absent at)
  list_decides true at = finds_decides (unless (not options.conds) at)
  list_decides false at = finds_decides (unless options.conds at)

  target_decides : (goes : Option ℕ) → Decides (TargetChecks options lexemes goes)
  target_decides None = finds_decides None
  target_decides (Some goes) = finds_decides (unless options.conds (nth_lexeme lexemes (goes - 1)).at)

  head_decides : (state : State) (sort : HeadSort) (conds : List (List ℕ)) (head : ℕ) (slash : Option ℕ) (until : ℕ)
      → head_sort (sort_at (nth_lexeme lexemes head)) ≡ sort → HasExpressions (sorts_at lexemes) (Rule head head slash until None None)
      → Decides (HeadChecks options lexemes state sort conds head slash until)
  head_decides state any conds head slash until is has =
      finds_decides (twice (nth_lexeme lexemes head).at (first_of is_default conds state.rules))
  head_decides state end conds head slash until is has =
      finds_decides (twice (nth_lexeme lexemes head).at (first_of is_end conds state.rules))
  head_decides state expression conds head None until is has =
      expression_decides state.definitions head until
      (head_part lexemes head None until
      (λ star. let h : any ≡ expression = subst (λ s. head_sort s ≡ expression) star is in cc)
      (λ dollar. let h : end ≡ expression = subst (λ s. head_sort s ≡ expression) dollar is in cc) has)
  head_decides state expression conds head (Some slash) until is has = context_decides state.definitions head slash until has.0 has.1

  -- the expressions of a rule stand in its head
  pub head_has : (first head : ℕ) (slash : Option ℕ) (until : ℕ) (goes code : Option ℕ)
      → HasExpressions (sorts_at lexemes) (Rule first head slash until goes code)
      → HasExpressions (sorts_at lexemes) (Rule head head slash until None None)
  head_has first head None until goes code has = has
  head_has first head (Some slash) until goes code has = has

  item_decides : (state : State) (item : Item) → HasExpressions (sorts_at lexemes) item → Decides (ItemChecks options lexemes state item)
  item_decides state (Define name from until) part =
      let first = twice (nth_lexeme lexemes name).at
      (option_map (λ (definition : Definition). definition.at) (definition_of state.definitions (nth_lexeme lexemes name).text)) in
      then_decides (Finds first) (ExpressionChecks options lexemes state.definitions from until) (finds_decides first)
      (expression_decides state.definitions from until part)
  item_decides state (Configure name value) has = finds_decides (config_fault options.enc (nth_lexeme lexemes name) (nth_lexeme lexemes value))
  item_decides state (Rule first head slash until goes code) has =
      let sort = head_sort (sort_at (nth_lexeme lexemes head)) in
      let Head : Check = HeadChecks options lexemes state sort (conds_of options lexemes first head) head slash until in
      then_decides (ListChecks options lexemes (first == head) (nth_lexeme lexemes first).at)
      (λ fault. Then Head (TargetChecks options lexemes goes) fault)
      (list_decides (first == head) (nth_lexeme lexemes first).at)
      (then_decides Head (TargetChecks options lexemes goes)
      (head_decides state sort (conds_of options lexemes first head) head slash until refl (head_has first head slash until goes code has))
      (target_decides goes))
  item_decides state (Text value) has = finds_decides None

  head_means : (state : State) → AreDefinedWithin options state.definitions → (sort : HeadSort) (conds : List (List ℕ)) (head : ℕ)
      (slash : Option ℕ) (until : ℕ) → HeadChecks options lexemes state sort conds head slash until None
      → Surely ((sort_is : Kind) × (meaning : RuleMeaning) × IsHead options lexemes state.definitions sort head slash until sort_is meaning)
  head_means state ready any conds head slash until checked =
      surely (kind.Default, alone (as_rule (are_groups options state.definitions) any_meaning), (refl, refl))
  head_means state ready end conds head slash until checked = surely (kind.Eof, alone end_meaning, (refl, refl))
  head_means state ready expression conds head None until checked =
      and_then (form_means options state.definitions ready false nothing checked.0 checked.2)
      (λ means.
      surely (
        kind.Plain,
        alone (as_rule (are_groups options state.definitions) means.0),
        (refl, (checked.0, means.0, checked.1, means.1, refl)),
      ))
  head_means state ready expression conds head (Some slash) until checked =
      let definitions = state.definitions in
      let First : Check = Checks options definitions false [] checked.0 in
      let seen = tags_of options definitions checked.0 ++ slash_tag ∷ [] in
      let found = then-none First (Checks options definitions false seen checked.1) checked.4 in
      and_then (form_means options definitions ready false nothing checked.0 found.0)
      (λ one.
      let tags = (form_ready options definitions ready false nothing checked.0 one.0 found.0 one.1).tags_are in
      let back =
      subst (λ tags. Checks options definitions false (tags ++ slash_tag ∷ []) checked.1 None) (sym tags) found.1 in
      and_then (form_means options definitions ready false (behind_slash one.0) checked.1 back)
      (λ two.
      surely (
        kind.Plain,
        trailing (are_groups options definitions) one.0 two.0,
        (refl, (checked.0, checked.1, one.0, two.0, checked.2, checked.3, one.1, two.1, refl)),
      )))

  -- behind an item whose checks find nothing something is known
  item_after : (state : State) → AreDefinedWithin options state.definitions → (item : Item) → ItemChecks options lexemes state item None
      → Surely ((after : State) × IsAfter options lexemes state item after)
  item_after state ready (Define name from until) checked =
      let found =
      then-none
      (Finds (twice (nth_lexeme lexemes name).at (option_map (λ (d : Definition). d.at) (definition_of state.definitions (nth_lexeme lexemes name).text))))
      (ExpressionChecks options lexemes state.definitions from until) checked in
      and_then (form_means options state.definitions ready false nothing found.1.0 found.1.2)
      (λ means.
      let plain = (form_ready options state.definitions ready false nothing found.1.0 means.0 found.1.2 means.1).within.plain in
      and_then
      (defined (nth_lexeme lexemes name).text (nth_lexeme lexemes name).at means.0
      (λ point is. le_greatest options.enc point (plain_class options.enc (whole means.0.shape) plain point is)))
      (λ definition. surely (_, (found.1.0, means.0, definition.0, found.1.1, means.1, definition.1, refl))))
  item_after state ready (Configure name value) checked =
      let set = sets options.enc (nth_lexeme lexemes name) (nth_lexeme lexemes value) checked in surely (_, (set.0, set.1, refl))
  item_after state ready (Rule first head slash until goes code) checked =
      let sort = head_sort (sort_at (nth_lexeme lexemes head)) in
      let Head : Check = HeadChecks options lexemes state sort (conds_of options lexemes first head) head slash until in
      let found =
      then-none (ListChecks options lexemes (first == head) (nth_lexeme lexemes first).at)
      (λ fault. Then Head (TargetChecks options lexemes goes) fault) checked in
      let later = then-none Head (TargetChecks options lexemes goes) found.1 in
      and_then (head_means state ready sort (conds_of options lexemes first head) head slash until later.0)
      (λ means. surely (_, (means.0, means.1, means.2, refl)))
  item_after state ready (Text value) checked = surely (state, refl)

-- what is known behind items can be built
pub record IsStateBuildable (state : State) : Type 0 where
  pub definitions : AllByRecursion IsBuildable state.definitions
  pub rules : AllByRecursion IsRuleBuildable state.rules

module _ (options : Options) (lexemes : List Lexeme) where
  head_buildable : (state : State) → AllByRecursion IsBuildable state.definitions → (sort : HeadSort) (head : ℕ) (slash : Option ℕ) (until : ℕ)
      (sort_is : Kind) (meaning : RuleMeaning) → IsHead options lexemes state.definitions sort head slash until sort_is meaning
      → IsMeantBuildable meaning.means
  head_buildable state ready any head slash until sort_is meaning is =
      subst (λ (m : RuleMeaning). IsMeantBuildable m.means) (sym is.1) (as_rule_buildable (are_groups options state.definitions) any_meaning any_buildable)
  head_buildable state ready end head slash until sort_is meaning is =
      subst (λ (m : RuleMeaning). IsMeantBuildable m.means) (sym is.1) end_buildable
  head_buildable state ready expression head None until sort_is meaning is =
      subst (λ (m : RuleMeaning). IsMeantBuildable m.means) (sym is.1.4)
      (as_rule_buildable (are_groups options state.definitions) is.1.1 (form_buildable options state.definitions ready false nothing is.1.0 is.1.1 is.1.3))
  head_buildable state ready expression head (Some slash) until sort_is meaning is =
      subst (λ (m : RuleMeaning). IsMeantBuildable m.means) (sym is.1.8)
      (trailing_buildable (are_groups options state.definitions) is.1.2 is.1.3
      (form_buildable options state.definitions ready false nothing is.1.0 is.1.2 is.1.6)
      (form_buildable options state.definitions ready false (behind_slash is.1.2) is.1.1 is.1.3 is.1.7))

  item_buildable : (state after : State) (item : Item) → IsStateBuildable state → IsAfter options lexemes state item after → IsStateBuildable after
  item_buildable state after (Define name from until) buildable is =
      subst IsStateBuildable (sym is.6) (record {
        definitions =
            all_both IsBuildable state.definitions (is.2 ∷ []) buildable.definitions (
              defined_buildable (nth_lexeme lexemes name).text (nth_lexeme lexemes name).at is.1 is.2 is.5
                  (form_buildable options state.definitions buildable.definitions false nothing is.0 is.1 is.4),
              tt,
            );
        rules = buildable.rules;
      })
  item_buildable state after (Configure name value) buildable is =
      subst IsStateBuildable (sym is.2) (record { definitions = buildable.definitions; rules = buildable.rules })
  item_buildable state after (Rule first head slash until goes code) buildable is =
      subst IsStateBuildable (sym is.3) (record {
        definitions = buildable.definitions;
        rules =
            all_both IsRuleBuildable state.rules (rule_of options lexemes (suc (length state.rules)) first head goes code is.0 is.1 ∷ []) buildable.rules (
              record {
                meaning = head_buildable state buildable.definitions (head_sort (sort_at (nth_lexeme lexemes head))) head slash until is.0 is.1 is.2;
                small = λ found.
                    let means = head_end options lexemes state (head_sort (sort_at (nth_lexeme lexemes head))) head slash until is.0 is.1 is.2 found in
                    let size = ap (λ (meaning : Meaning). meaning.size) means in omega (arith, size);
              },
              tt,
            );
      })
  item_buildable state after (Text value) buildable is = subst IsStateBuildable (sym is) buildable

  pub goes_buildable : (state after : State) (items : List Item) → IsStateBuildable state → Goes options lexemes state items (Ok after)
      → IsStateBuildable after
  goes_buildable state after [] buildable ends = buildable
  goes_buildable state after (item ∷ items) buildable (next middle checked is rest) =
      goes_buildable middle after items (item_buildable state middle item buildable is) rest

  -- an item is refused, or those behind it are taken or refused
  item_goes : (state : State) (item : Item) (items : List Item) (fault : Option Fault) → IsStateWithin options state → IsStateBuildable state
      → ItemChecks options lexemes state item fault
      → ((after : State) → IsStateWithin options after → IsStateBuildable after
      → Surely ((result : Result State Fault) × Goes options lexemes after items result))
      → Surely ((result : Result State Fault) × Goes options lexemes state (item ∷ items) result)
  item_goes state item items (Some fault) within buildable checked later = surely (Err fault, refused fault checked)
  item_goes state item items None within buildable checked later =
      and_then (item_after options lexemes state within.definitions item checked)
      (λ after.
      and_then
      (later after.0 (goes_within options lexemes state after.0 (item ∷ []) within (next after.0 checked after.1 ends))
      (item_buildable state after.0 item buildable after.1))
      (λ rest. surely (rest.0, next after.0 checked after.1 rest.1)))

  -- the items are taken, or one is refused
  pub goes_decides : (items : List Item) (state : State) → EachHasExpressions (sorts_at lexemes) items → IsStateWithin options state
      → IsStateBuildable state → Surely ((result : Result State Fault) × Goes options lexemes state items result)
  goes_decides [] state has within buildable = surely (Ok state, ends)
  goes_decides (item ∷ items) state has within buildable =
      and_then (item_decides options lexemes state item has.0)
      (λ found.
      item_goes state item items found.0 within buildable found.1
      (λ after within_after buildable_after. goes_decides items after has.1 within_after buildable_after))
