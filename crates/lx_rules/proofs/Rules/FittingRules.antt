-- The conditions, the targets and the actions of rules.
use Rattle.std.proofs.Common.{◌≡◌, ℕ, suc, ◌-◌, Bool, true, false, inl, inr, List, [], ◌∷◌, length, Option, None, Some, Ok, refl, sym, ap, ◌∙◌, subst, eq-eqb}
use Rattle.std.specs.Prelude.{◌==◌, ◌||◌, not, if◌then◌else◌}
use Rattle.std.specs.List.{AllByRecursion}
use Rattle.std.specs.Option.{option_map}
use Rattle.std.specs.Str.{bytes_eq}
use Rattle.std.proofs.lemmas.Bool.{false≢true}
use Rattle.std.proofs.lemmas.Slice.Eq.{bytes_eq-Decides}
use Rattle.lx_base.specs.Letters.{IsIdentifier}
use Rattle.lx_base.specs.declared.faults.Fault.TheVariants.{Condition}
use Rattle.lx_base.specs.declared.places.Pos.{Pos}
use Rattle.lx_base.specs.declared.settings.Options.{Options}
use Rattle.lx_parse.specs.declared.items.Item.{Item}
use Rattle.lx_parse.specs.declared.items.Item.TheVariants.{Define, Configure, Rule, Text}
use Rattle.lx_regex.specs.declared.rules.Kind.{Kind}
use Rattle.lx_exprs.specs.Checks.{Check, Then, is_among}
use Rattle.lx_exprs.proofs.Forms.ClassForms.{then-none}
use Rattle.lx_forms.specs.Lexemes.{Lexeme, nth_lexeme, sort_at}
use Rattle.lx_rules.specs.Blocks.{every}
use Rattle.lx_rules.specs.Conditions.{AreConds, AreListed, EachHasConds, HasConds, IsListed}
use Rattle.lx_rules.specs.Items.{Goes, HeadChecks, IsAfter, ItemChecks, ListChecks, RuleMeaning, State, TargetChecks, act_of, conds_of, ends, head_sort, next, rule_of, unless}
use Rattle.lx_rules.specs.Lists.{conds_at, listed_words}
use Rattle.lx_rules.specs.Rules.{RuleOf}
use Rattle.lx_rules.proofs.CondSets.ListForms.{HasAct}
use Rattle.lx_rules.proofs.Rules.RuleNumbers.{all_both}

-- what conditions in use, or none, leave to a rule; and it has an action or a target
pub record FitsConditions (conds : Bool) (rule : RuleOf) : Type 0 where
  pub listed : conds ≡ true → AreListed rule.conds
  pub alone : conds ≡ false → rule.conds ≡ [] ∷ []
  pub stays : conds ≡ false → rule.act.goes ≡ None
  pub acts : rule.act.goes ≡ None → rule.act.code ≡ None → ⊥
  pub targeted : rule.target ≡ None → rule.act.goes ≡ None

abbrev pub AllFitConditions : (conds : Bool) → List RuleOf → Type 0
AllFitConditions conds rules = AllByRecursion (FitsConditions conds) rules

-- identifiers are other words than that of `<*>`
identifiers_others : (names : List (List ℕ)) → AllByRecursion IsIdentifier names → is_among every names ≡ false
identifiers_others [] are = refl
identifiers_others (name ∷ names) are = at (bytes_eq every name) refl (identifiers_others names are.1)
  where
    at : (b : Bool) → bytes_eq every name ≡ b → is_among every names ≡ false → (b || is_among every names) ≡ false
    at true e later =
        let same : every ≡ name = (bytes_eq-Decides every name).0 e in
        absurd (false≢true (subst IsIdentifier (sym same) are.0).0)
    at false e later = later

listed_apart : (conds : List (List ℕ)) → AreListed conds → AreConds conds
listed_apart conds (inl star) = inl star
listed_apart conds (inr names) = inr (identifiers_others conds names)

-- a rule has the condition of `<*>` alone, or others
pub sound_apart : (conds : Bool) (rule : RuleOf) → FitsConditions conds rule → AreConds rule.conds
sound_apart true rule is = listed_apart rule.conds (is.listed refl)
sound_apart false rule is = subst AreConds (sym (is.alone refl)) (inr refl)

pub all_apart : (conds : Bool) (rules : List RuleOf) → AllFitConditions conds rules → AllByRecursion (λ (rule : RuleOf). AreConds rule.conds) rules
all_apart conds [] are = tt
all_apart conds (rule ∷ rules) are = (sound_apart conds rule are.0, all_apart conds rules are.1)

-- the list of a rule, or that it has none
conds_cases : (lexemes : List Lexeme) (first head : ℕ) → IsListed lexemes first head → (b : Bool) → (first == head) ≡ b
    → AreConds (if b then [] ∷ [] else listed_words lexemes first head)
conds_cases lexemes first head is true e = inr refl
conds_cases lexemes first head (inl same) false e = absurd (let h : true ≡ false = sym (eq-eqb first head same) ∙ e in cc)
conds_cases lexemes first head (inr listed) false e = listed_apart (listed_words lexemes first head) listed

pub conds_at-apart : (lexemes : List Lexeme) (first head : ℕ) → IsListed lexemes first head → AreConds (conds_at lexemes first head)
conds_at-apart lexemes first head is = conds_cases lexemes first head is (first == head) refl

-- a check that finds no wrong use
unless_holds : (holds : Bool) (at : Pos) → None ≡ unless holds at → holds ≡ true
unless_holds true at none = refl
unless_holds false at none = absurd (let h : None ≡ Some (Condition at) = none in cc)

module _ (options : Options) (lexemes : List Lexeme) where
  -- a list is absent exactly where conditions are not in use
  list_absent : (is_absent : Bool) (at : Pos) → ListChecks options lexemes is_absent at None → is_absent ≡ not options.conds
  list_absent true at none = sym (unless_holds (not options.conds) at none)
  list_absent false at none = sym (ap not (unless_holds options.conds at none))

  -- a target stands where conditions are in use
  target_used : (goes : Option ℕ) → TargetChecks options lexemes goes None → options.conds ≡ false → goes ≡ None
  target_used None none unused = refl
  target_used (Some goes) none unused =
      absurd (let h : true ≡ false = sym (unless_holds options.conds (nth_lexeme lexemes (goes - 1)).at none) ∙ unused in cc)

  no_target : (number : ℕ) (goes code : Option ℕ) → goes ≡ None → (act_of options lexemes number goes code).goes ≡ None
  no_target number None None none = refl
  no_target number None (Some code) none = refl
  no_target number (Some goes) code none = absurd (let h = none in cc)

  has_act : (number : ℕ) (goes code : Option ℕ) → (goes ≡ None → code ≡ None → ⊥) → (act_of options lexemes number goes code).goes ≡ None
      → (act_of options lexemes number goes code).code ≡ None → ⊥
  has_act number goes (Some code) has none bare = let h = bare in cc
  has_act number (Some goes) None has none bare = let h = none in cc
  has_act number None None has none bare = has refl refl

  targeted : (number : ℕ) (goes code : Option ℕ) → option_map (λ place. (nth_lexeme lexemes place).at) goes ≡ None
      → (act_of options lexemes number goes code).goes ≡ None
  targeted number None code none = no_target number None code refl
  targeted number (Some goes) code none = absurd (let h = none in cc)

  rule_sound : (number first head : ℕ) (slash : Option ℕ) (until : ℕ) (goes code : Option ℕ) (kind : Kind) (meaning : RuleMeaning)
      → ListChecks options lexemes (first == head) (nth_lexeme lexemes first).at None → TargetChecks options lexemes goes None
      → IsListed lexemes first head → (goes ≡ None → code ≡ None → ⊥)
      → FitsConditions options.conds (rule_of options lexemes number first head goes code kind meaning)
  rule_sound number first head slash until goes code kind meaning list target conds acts = record {
    listed = λ used. listed_by conds (absent ∙ ap not used);
    alone = λ unused. ap (λ (b : Bool). if b then [] ∷ [] else listed_words lexemes first head) (absent ∙ ap not unused);
    stays = λ unused. no_target number goes code (target_used goes target unused);
    acts = has_act number goes code acts;
    targeted = targeted number goes code;
  }
    where
      absent : (first == head) ≡ not options.conds
      absent = list_absent (first == head) (nth_lexeme lexemes first).at list

      listed_by : IsListed lexemes first head → (first == head) ≡ false → AreListed (conds_at lexemes first head)
      listed_by (inl same) apart = absurd (let h : true ≡ false = sym (eq-eqb first head same) ∙ apart in cc)
      listed_by (inr listed) apart = subst AreListed (sym (ap (λ (b : Bool). if b then [] ∷ [] else listed_words lexemes first head) apart)) listed

  item_sound : (state after : State) (item : Item) → AllFitConditions options.conds state.rules → HasConds lexemes item → HasAct item
      → ItemChecks options lexemes state item None → IsAfter options lexemes state item after → AllFitConditions options.conds after.rules
  item_sound state after (Define name from until) sound conds acts checked is =
      subst (λ (s : State). AllFitConditions options.conds s.rules) (sym is.6) sound
  item_sound state after (Configure name value) sound conds acts checked is =
      subst (λ (s : State). AllFitConditions options.conds s.rules) (sym is.2) sound
  item_sound state after (Rule first head slash until goes code) sound conds acts checked is =
      let Head : Check = HeadChecks options lexemes state (head_sort (sort_at (nth_lexeme lexemes head))) (conds_of options lexemes first head) head slash until in
      let found =
      then-none (ListChecks options lexemes (first == head) (nth_lexeme lexemes first).at) (λ fault. Then Head (TargetChecks options lexemes goes) fault) checked in
      let later = then-none Head (TargetChecks options lexemes goes) found.1 in
      subst (λ (s : State). AllFitConditions options.conds s.rules) (sym is.3)
      (all_both (FitsConditions options.conds) state.rules _ sound
      (rule_sound (suc (length state.rules)) first head slash until goes code is.0 is.1 found.0 later.1 conds acts, tt))
  item_sound state after (Text value) sound conds acts checked is = subst (λ (s : State). AllFitConditions options.conds s.rules) (sym is) sound

  -- behind all items each rule is so
  pub goes_sound : (state after : State) (items : List Item) → AllFitConditions options.conds state.rules → EachHasConds lexemes items → AllByRecursion HasAct items
      → Goes options lexemes state items (Ok after) → AllFitConditions options.conds after.rules
  goes_sound state after [] sound conds acts ends = sound
  goes_sound state after (item ∷ items) sound conds acts (next middle checked is rest) =
      goes_sound middle after items (item_sound state middle item sound conds.0 acts.0 checked is) conds.1 acts.1 rest
