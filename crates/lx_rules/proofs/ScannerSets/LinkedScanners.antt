-- The scanners of a block and the actions of its rules belong together.
use Rattle.std.proofs.Common.{◌≡◌, ◌≢◌, ℕ, suc, ◌+◌, ◌<◌, ◌≤◌, ◌⊎◌, inl, inr, Bool, true, false, List, [], ◌∷◌, ◌++◌, map, length, Option, None, Some, Ok, refl, sym, ap, ap₂, ◌∙◌, subst, arith, Contains}
use Rattle.std.specs.Prelude.{◌==◌, ◌||◌, IfSome, IsSome, count_by, is_some, if◌then◌else◌}
use Rattle.std.specs.List.{AllByRecursion, range_with_len}
use Rattle.std.specs.Str.{bytes_eq}
use Rattle.std.proofs.lemmas.List.{length-map}
use Rattle.std.proofs.lemmas.List.Recursion.{is_count_by}
use Rattle.std.proofs.lemmas.Slice.Eq.{bytes_eq-Decides}
use Rattle.lx_base.specs.Letters.{IsIdentifier}
use Rattle.lx_base.specs.declared.blocks.BlockKind.{BlockKind}
use Rattle.lx_base.specs.declared.faults.Fault.TheVariants.{Condition}
use Rattle.lx_base.specs.declared.places.Pos.{Pos}
use Rattle.lx_base.specs.declared.settings.Options.{Options}
use Rattle.lx_parse.specs.Blocks.{IsBody, form_of}
use Rattle.lx_parse.specs.Sorts.{sorts_of}
use Rattle.lx_parse.specs.declared.items.Item.{Item}
use Rattle.lx_parse.specs.declared.items.Item.TheVariants.{Define, Configure, Rule as RuleItem, Text}
use Rattle.lx_regex.specs.Pattern as regex
use Rattle.lx_regex.specs.Pattern.{Pattern}
use Rattle.lx_regex.specs.declared.rules.Rule.{Rule}
use Rattle.lx_token.specs.Tokens.{tokens_of}
use Rattle.lx_token.specs.declared.list.Token.{Token}
use Rattle.lx_exprs.specs.Checks.{Check, Finds, Then, is_among}
use Rattle.lx_exprs.proofs.Forms.ClassForms.{then-none}
use Rattle.lx_forms.specs.Lexemes.{Lexeme, lexemes_of}
use Rattle.lx_rules.specs.declared.resolved.Act.{Act}
use Rattle.lx_rules.specs.declared.resolved.Resolved.{Resolved}
use Rattle.lx_rules.specs.declared.resolved.Scanner.{Scanner}
use Rattle.lx_rules.specs.Blocks as blocks
use Rattle.lx_base.specs.declared.settings.Format.{Format}
use Rattle.lx_rules.specs.Blocks.{AreScanners, BlockChecks, ClashCheck, HasRules, IsResolvedAs, Resolves, ScannerChecks, StandsUnder, add_conds, before_all, behind_block, cond_name, conditions_behind, conditions_of, environment_behind, every, lonely_fault, of_scanners, of_use, rules_of, scanners_fault, target_fault, targets_fault, to_keep}
use Rattle.lx_rules.specs.Conditions.{AreListed}
use Rattle.lx_rules.specs.Environments.{Environment, KeptBlock, config_of}
use Rattle.lx_rules.specs.Items.{Goes, IsAfter, State, ends, first_state, next, state_behind}
use Rattle.lx_rules.specs.Linked.{AreLinked, HasOneAct, HaveDifferentConditions}
use Rattle.lx_rules.specs.Rules.{RuleOf}
use Rattle.lx_rules.proofs.ScannerSets.BuiltScanners.{all_of_scanner}
use Rattle.lx_rules.proofs.CondSets.CondNames.{is_among-here}
use Rattle.lx_rules.proofs.Blocks.ItemFits.{act_number}
use Rattle.lx_rules.proofs.CondSets.ListForms.{body_lists}
use Rattle.lx_rules.proofs.Blocks.ItemRuns.{body-alike}
use Rattle.lx_rules.proofs.Blocks.Readiness.{first_sound, stands_ready}
use Rattle.lx_rules.proofs.Rules.RuleNumbers.{all_both, all_so}
use Rattle.lx_rules.proofs.ScannerSets.ScannerLimits.{or_none}
use Rattle.lx_rules.proofs.Rules.FittingRules.{AllFitConditions, goes_sound}

-- ---- the names of conditions

abbrev AreDistinct : List (List ℕ) → Type 0
AreDistinct [] = Unit {0}
AreDistinct (name ∷ names) = AllByRecursion (λ (other : List ℕ). other ≢ name) names × AreDistinct names

-- a name that is among none of others
apart : (name other : List ℕ) (names : List (List ℕ)) → is_among name (other ∷ names) ≡ false → (name ≢ other) × (is_among name names ≡ false)
apart name other names none = at (bytes_eq name other) refl none
  where
    at : (b : Bool) → bytes_eq name other ≡ b → (b || is_among name names) ≡ false → (name ≢ other) × (is_among name names ≡ false)
    at true e found = absurd (let h : true ≡ false = found in cc)
    at false e found = ((λ same. let h : true ≡ false = sym ((bytes_eq-Decides name other).1 same) ∙ e in cc), found)

distinct_snoc : (names : List (List ℕ)) (name : List ℕ) → AreDistinct names → is_among name names ≡ false → AreDistinct (names ++ name ∷ [])
distinct_snoc [] name distinct none = (tt, tt)
distinct_snoc (first ∷ names) name distinct none =
    let other = apart name first names none in (
      all_both (λ (o : List ℕ). o ≢ first) names (name ∷ []) distinct.0 (other.0, tt),
      distinct_snoc names name distinct.1 other.1,
    )

-- the condition of `<*>`, or an identifier
abbrev IsWordOf : List ℕ → Type 0
IsWordOf cond = (cond ≡ every) ⊎ IsIdentifier cond

listed_words : (conds : List (List ℕ)) → AreListed conds → AllByRecursion IsWordOf conds
listed_words conds (inl star) = subst (AllByRecursion IsWordOf) (sym star) (inl refl, tt)
listed_words conds (inr names) = all_so IsIdentifier IsWordOf (λ cond is. inr is) conds names

-- conditions that are new are appended, and they are identifiers
add_conds-names : (conds seen : List (List ℕ)) → AllByRecursion IsWordOf conds → AllByRecursion IsIdentifier seen
    → AllByRecursion IsIdentifier (add_conds conds seen)
add_conds-names [] seen words names = names
add_conds-names (cond ∷ conds) seen words names =
    at (is_among cond (every ∷ seen)) refl words.0 (add_conds-names conds seen words.1 names)
    (λ is. add_conds-names conds (seen ++ cond ∷ []) words.1 (all_both IsIdentifier seen (cond ∷ []) names (is, tt)))
  where
    at : (b : Bool) → is_among cond (every ∷ seen) ≡ b → IsWordOf cond → AllByRecursion IsIdentifier (add_conds conds seen)
        → (IsIdentifier cond → AllByRecursion IsIdentifier (add_conds conds (seen ++ cond ∷ [])))
        → AllByRecursion IsIdentifier (if b then add_conds conds seen else add_conds conds (seen ++ cond ∷ []))
    at true e word here there = here
    at false e (inl same) here there =
        absurd (let h : true ≡ false = sym (is_among-here every seen) ∙ ap (λ c. is_among c (every ∷ seen)) (sym same) ∙ e in cc)
    at false e (inr is) here there = there is

add_conds-distinct : (conds seen : List (List ℕ)) → AreDistinct seen → AreDistinct (add_conds conds seen)
add_conds-distinct [] seen distinct = distinct
add_conds-distinct (cond ∷ conds) seen distinct =
    at (is_among cond (every ∷ seen)) refl (add_conds-distinct conds seen distinct) (add_conds-distinct conds (seen ++ cond ∷ []))
  where
    at : (b : Bool) → is_among cond (every ∷ seen) ≡ b → AreDistinct (add_conds conds seen)
        → (AreDistinct (seen ++ cond ∷ []) → AreDistinct (add_conds conds (seen ++ cond ∷ [])))
        → AreDistinct (if b then add_conds conds seen else add_conds conds (seen ++ cond ∷ []))
    at true e here there = here
    at false e here there = there (distinct_snoc seen cond distinct (apart cond every seen e).1)

conditions_behind-distinct : (seen : List (List ℕ)) (rules : List RuleOf) → AreDistinct seen → AreDistinct (conditions_behind seen rules)
conditions_behind-distinct seen [] distinct = distinct
conditions_behind-distinct seen (rule ∷ rules) distinct =
    conditions_behind-distinct (add_conds rule.conds seen) rules (add_conds-distinct rule.conds seen distinct)

conditions_behind-names : (seen : List (List ℕ)) (rules : List RuleOf) → AllFitConditions true rules → AllByRecursion IsIdentifier seen
    → AllByRecursion IsIdentifier (conditions_behind seen rules)
conditions_behind-names seen [] sound names = names
conditions_behind-names seen (rule ∷ rules) sound names =
    conditions_behind-names (add_conds rule.conds seen) rules sound.1 (add_conds-names rule.conds seen (listed_words rule.conds (sound.0.listed refl)) names)

-- where conditions are not in used there is one without a name
conditions_behind-alone : (rules : List RuleOf) → AllFitConditions false rules → conditions_behind ([] ∷ []) rules ≡ [] ∷ []
conditions_behind-alone [] sound = refl
conditions_behind-alone (rule ∷ rules) sound = let conds = sound.0.alone refl in rw (conds) (conditions_behind-alone rules sound.1)

conditions_of-few : (rules : List RuleOf) → AllFitConditions false rules → length (conditions_of rules) ≤ 1
conditions_of-few [] sound = omega arith
conditions_of-few (rule ∷ rules) sound =
    let conds = sound.0.alone refl in
    let one : conditions_of (rule ∷ rules) ≡ [] ∷ [] = rw (conds) (conditions_behind-alone rules sound.1) in
    let count = ap (λ (l : List (List ℕ)). length l) one in omega (arith, count)

-- ---- the conditions of scanners

module _ (rules : List RuleOf) where
  named : (used : Bool) (conds : List (List ℕ)) (scanners : List Scanner) → AreScanners used rules conds scanners
      → AllByRecursion (λ (scanner : Scanner). is_some scanner.cond ≡ used) scanners
  named used [] [] are = tt
  named used [] (scanner ∷ scanners) are = absurd are
  named used (cond ∷ conds) [] are = absurd are
  named used (cond ∷ conds) (scanner ∷ scanners) are = (ap is_some are.0.name ∙ of used, named used conds scanners are.1)
    where
      of : (b : Bool) → is_some (cond_name b cond) ≡ b
      of true = refl
      of false = refl

  identified : (conds : List (List ℕ)) (scanners : List Scanner) → AllByRecursion IsIdentifier conds → AreScanners true rules conds scanners
      → AllByRecursion (λ (scanner : Scanner). IfSome scanner.cond IsIdentifier) scanners
  identified [] [] names are = tt
  identified [] (scanner ∷ scanners) names are = absurd are
  identified (cond ∷ conds) [] names are = absurd are
  identified (cond ∷ conds) (scanner ∷ scanners) names are =
      (subst (λ (c : Option (List ℕ)). IfSome c IsIdentifier) (sym are.0.name) names.0, identified conds scanners names.1 are.1)

  unidentified : (conds : List (List ℕ)) (scanners : List Scanner) → AreScanners false rules conds scanners
      → AllByRecursion (λ (scanner : Scanner). IfSome scanner.cond IsIdentifier) scanners
  unidentified [] [] are = tt
  unidentified [] (scanner ∷ scanners) are = absurd are
  unidentified (cond ∷ conds) [] are = absurd are
  unidentified (cond ∷ conds) (scanner ∷ scanners) are =
      (subst (λ (c : Option (List ℕ)). IfSome c IsIdentifier) (sym are.0.name) tt, unidentified conds scanners are.1)

  others_differ : (cond : List ℕ) (conds : List (List ℕ)) (name : Option (List ℕ)) (scanners : List Scanner) → name ≡ Some cond
      → AllByRecursion (λ (other : List ℕ). other ≢ cond) conds → AreScanners true rules conds scanners
      → AllByRecursion (λ (other : Scanner). other.cond ≢ name) scanners
  others_differ cond [] name [] is other are = tt
  others_differ cond [] name (scanner ∷ scanners) is other are = absurd are
  others_differ cond (first ∷ conds) name [] is other are = absurd are
  others_differ cond (first ∷ conds) name (scanner ∷ scanners) is other are = (
    (λ same. other.0 (let h : Some first ≡ Some cond = sym are.0.name ∙ same ∙ is in cc)),
    others_differ cond conds name scanners is other.1 are.1,
  )

  differ : (conds : List (List ℕ)) (scanners : List Scanner) → AreDistinct conds → AreScanners true rules conds scanners → HaveDifferentConditions scanners
  differ [] [] distinct are = tt
  differ [] (scanner ∷ scanners) distinct are = absurd are
  differ (cond ∷ conds) [] distinct are = absurd are
  differ (cond ∷ conds) (scanner ∷ scanners) distinct are =
      (others_differ cond conds scanner.cond scanners are.0.name distinct.0 are.1, differ conds scanners distinct.1 are.1)

  few_differ : (used : Bool) (conds : List (List ℕ)) (scanners : List Scanner) → length conds ≤ 1 → AreScanners used rules conds scanners
      → HaveDifferentConditions scanners
  few_differ used [] [] few are = tt
  few_differ used [] (scanner ∷ scanners) few are = absurd are
  few_differ used (cond ∷ conds) [] few are = absurd are
  few_differ used (cond ∷ []) (scanner ∷ []) few are = (tt, tt)
  few_differ used (cond ∷ []) (scanner ∷ other ∷ scanners) few are = absurd are.1
  few_differ used (cond ∷ second ∷ conds) (scanner ∷ scanners) few are = absurd (omega (arith, few))

  -- a condition that rules have is that of a scanner
  in_scanners : (name : List ℕ) (conds : List (List ℕ)) (scanners : List Scanner) → is_among name conds ≡ true → AreScanners true rules conds scanners
      → Contains (map (λ (scanner : Scanner). scanner.cond) scanners) (Some name)
  in_scanners name [] scanners among are = absurd (let h : false ≡ true = among in cc)
  in_scanners name (cond ∷ conds) [] among are = absurd are
  in_scanners name (cond ∷ conds) (scanner ∷ scanners) among are =
      at (bytes_eq name cond) refl among (λ found. in_scanners name conds scanners found are.1)
    where
      at : (b : Bool) → bytes_eq name cond ≡ b → (b || is_among name conds) ≡ true
          → (is_among name conds ≡ true → Contains (map (λ (scanner : Scanner). scanner.cond) scanners) (Some name))
          → Contains (map (λ (scanner : Scanner). scanner.cond) (scanner ∷ scanners)) (Some name)
      at true e found later = (0, omega arith, are.0.name ∙ ap Some (sym ((bytes_eq-Decides name cond).0 e)))
      at false e found later = let behind = later found in let lt = behind.1 in (suc behind.0, omega (arith, lt), behind.2)

-- ---- the numbers of actions

abbrev AreNumbered : (from : ℕ) → List RuleOf → Type 0
AreNumbered from [] = Unit {0}
AreNumbered from (rule ∷ rules) = (rule.act.number ≡ from) × AreNumbered (from + 1) rules

numbered-snoc : (from : ℕ) (rules : List RuleOf) (rule : RuleOf) → AreNumbered from rules → rule.act.number ≡ from + length rules
    → AreNumbered from (rules ++ rule ∷ [])
numbered-snoc from [] rule are is = (is ∙ omega arith, tt)
numbered-snoc from (first ∷ rules) rule are is = (are.0, numbered-snoc (from + 1) rules rule are.1 (omega (arith, is)))

numbers_are : (from : ℕ) (rules : List RuleOf) → AreNumbered from rules
    → map (λ (act : Act). act.number) (map (λ (rule : RuleOf). rule.act) rules) ≡ range_with_len from (length rules)
numbers_are from [] are = refl
numbers_are from (rule ∷ rules) are = ap₂ (λ (n : ℕ) (l : List ℕ). n ∷ l) are.0 (numbers_are (from + 1) rules are.1)

abbrev acts_of : List RuleOf → List Act
acts_of rules = map (λ (rule : RuleOf). rule.act) rules

-- how many of them have a number
abbrev count_in : (number : ℕ) → List Act → ℕ
count_in number [] = 0
count_in number (act ∷ acts) = if act.number == number then 1 + count_in number acts else count_in number acts

count_in-is : (number : ℕ) (acts : List Act) → count_in number acts ≡ count_by (λ (act : Act). act.number == number) acts
count_in-is number acts = is_count_by (count_in number) (λ (act : Act). act.number == number) refl (λ act acts. refl) acts

abbrev count_of : (number : ℕ) → List RuleOf → ℕ
count_of number rules = count_in number (acts_of rules)

-- a rule in front of others is counted, or not
count-here : (number : ℕ) (rule : RuleOf) (rules : List RuleOf) → rule.act.number ≡ number → count_of number (rule ∷ rules) ≡ 1 + count_of number rules
count-here number rule rules is =
    let yes : (rule.act.number == number) ≡ true = search (arith, is) in
    ap (λ (b : Bool). if b then 1 + count_of number rules else count_of number rules) yes

count-other : (number : ℕ) (rule : RuleOf) (rules : List RuleOf) → (rule.act.number ≡ number → ⊥) → count_of number (rule ∷ rules) ≡ count_of number rules
count-other number rule rules other =
    at (rule.act.number == number) refl
  where
    at : (b : Bool) → (rule.act.number == number) ≡ b → (if b then 1 + count_of number rules else count_of number rules) ≡ count_of number rules
    at true e = absurd (other (search (arith, e)))
    at false e = refl

none_counted : (number from : ℕ) (rules : List RuleOf) → number < from → AreNumbered from rules → count_of number rules ≡ 0
none_counted number from [] less are = refl
none_counted number from (rule ∷ rules) less are =
    let is = are.0 in
    count-other number rule rules (λ same. omega (arith, same, is, less)) ∙ none_counted number (from + 1) rules (omega (arith, less)) are.1

-- each number is that of one
abbrev IsOnce : (from : ℕ) → List RuleOf → RuleOf → Type 0
IsOnce from rules rule = (from ≤ rule.act.number) × (count_of rule.act.number rules ≡ 1)

one_counted : (from : ℕ) (rules : List RuleOf) → AreNumbered from rules → AllByRecursion (IsOnce from rules) rules
one_counted from [] are = tt
one_counted from (rule ∷ rules) are =
    let is = are.0 in
    let none = none_counted rule.act.number (from + 1) rules (omega (arith, is)) are.1 in
    let here = count-here rule.act.number rule rules refl in (
      (omega (arith, is), omega (arith, here, none)),
      all_so (IsOnce (from + 1) rules) (IsOnce from (rule ∷ rules))
          (λ other once. let late = once.0 in (
            omega (arith, late),
            count-other other.act.number rule rules (λ same. omega (arith, same, is, late)) ∙ once.1,
          )) rules (one_counted (from + 1) rules are.1),
    )

-- so each rule of a scanner has one action
rules_once : (acts : List Act) (built : List Rule) (rules : List RuleOf) → map regex.pattern_of built ≡ map blocks.pattern_of rules
    → AllByRecursion (λ (rule : RuleOf). HasOneAct acts rule.act.number) rules → AllByRecursion (λ (rule : Rule). HasOneAct acts rule.number) built
rules_once acts [] rules same once = tt
rules_once acts (one ∷ built) [] same once = absurd (let h = same in cc)
rules_once acts (one ∷ built) (rule ∷ rules) same once =
    let first : regex.pattern_of one ≡ blocks.pattern_of rule = let h = same in cc in
    let rest : map regex.pattern_of built ≡ map blocks.pattern_of rules = let h = same in cc in
    (subst (HasOneAct acts) (sym (ap (λ (p : Pattern). p.number) first)) once.0, rules_once acts built rules rest once.1)

scanners_once : (used : Bool) (acts : List Act) (rules : List RuleOf) (conds : List (List ℕ)) (scanners : List Scanner)
    → AllByRecursion (λ (rule : RuleOf). HasOneAct acts rule.act.number) rules → AreScanners used rules conds scanners
    → AllByRecursion (λ (scanner : Scanner). AllByRecursion (λ (rule : Rule). HasOneAct acts rule.number) scanner.set.rules) scanners
scanners_once used acts rules [] [] once are = tt
scanners_once used acts rules [] (scanner ∷ scanners) once are = absurd are
scanners_once used acts rules (cond ∷ conds) [] once are = absurd are
scanners_once used acts rules (cond ∷ conds) (scanner ∷ scanners) once are = (
  rules_once acts scanner.set.rules (rules_of cond rules) are.0.patterns
      (all_of_scanner (λ (rule : RuleOf). HasOneAct acts rule.act.number) cond rules once),
  scanners_once used acts rules conds scanners once are.1,
)

-- ---- the items of a block

module _ (options : Options) (lexemes : List Lexeme) where
  item_numbered : (state after : State) (item : Item) → AreNumbered 1 state.rules → IsAfter options lexemes state item after → AreNumbered 1 after.rules
  item_numbered state after (Define name from until) are is = subst (λ (s : State). AreNumbered 1 s.rules) (sym is.6) are
  item_numbered state after (Configure name value) are is = subst (λ (s : State). AreNumbered 1 s.rules) (sym is.2) are
  item_numbered state after (RuleItem first head slash until goes code) are is =
      let number = act_number options lexemes (suc (length state.rules)) goes code in
      subst (λ (s : State). AreNumbered 1 s.rules) (sym is.3) (numbered-snoc 1 state.rules _ are (omega (arith, number)))
  item_numbered state after (Text value) are is = subst (λ (s : State). AreNumbered 1 s.rules) (sym is) are

  goes_numbered : (state after : State) (items : List Item) → AreNumbered 1 state.rules → Goes options lexemes state items (Ok after)
      → AreNumbered 1 after.rules
  goes_numbered state after [] are ends = are
  goes_numbered state after (item ∷ items) are (next middle checked is rest) =
      goes_numbered middle after items (item_numbered state middle item are is) rest

-- ---- what a block resolves to

-- a rule without an action has a target
complete : (conds : Bool) (rules : List RuleOf) → AllFitConditions conds rules
    → AllByRecursion (λ (act : Act). act.code ≡ None → IsSome act.goes) (acts_of rules)
complete conds [] sound = tt
complete conds (rule ∷ rules) sound = (of rule.act.goes refl, complete conds rules sound.1)
  where
    of : (goes : Option (List ℕ)) → rule.act.goes ≡ goes → rule.act.code ≡ None → IsSome goes
    of None none bare = absurd (sound.0.acts none bare)
    of (Some name) is bare = refl

-- each target is the condition of a scanner
module _ (all : List RuleOf) (conds : List (List ℕ)) (scanners : List Scanner) where
  abbrev IsIn : Act → Type 0
  IsIn act = IfSome act.goes (λ cond. Contains (map (λ (scanner : Scanner). scanner.cond) scanners) (Some cond))

  target_in : (used : Bool) → AreScanners used all conds scanners → (goes : Option (List ℕ)) (target : Option Pos) → (used ≡ false → goes ≡ None)
      → (target ≡ None → goes ≡ None) → target_fault goes target conds ≡ None
      → IfSome goes (λ cond. Contains (map (λ (scanner : Scanner). scanner.cond) scanners) (Some cond))
  target_in used are None target stays targeted none = tt
  target_in used are (Some name) None stays targeted none = absurd (let h = targeted refl in cc)
  target_in false are (Some name) (Some place) stays targeted none = absurd (let h = stays refl in cc)
  target_in true are (Some name) (Some place) stays targeted none = at (is_among name conds) refl none
    where
      at : (b : Bool) → is_among name conds ≡ b → (if b then None else Some (Condition place)) ≡ None
          → Contains (map (λ (scanner : Scanner). scanner.cond) scanners) (Some name)
      at true e found = in_scanners all name conds scanners e are
      at false e found = absurd (let h : Some (Condition place) ≡ None = found in cc)

  targets_in : (used : Bool) (rules : List RuleOf) → AreScanners used all conds scanners → AllFitConditions used rules → targets_fault rules conds ≡ None
      → AllByRecursion IsIn (acts_of rules)
  targets_in used [] are sound none = tt
  targets_in used (rule ∷ rules) are sound none =
      let both = or_none (target_fault rule.act.goes rule.target conds) (targets_fault rules conds) none in (
        target_in used are rule.act.goes rule.target sound.0.stays sound.0.targeted both.0,
        targets_in used rules are sound.1 both.1,
      )

module _ (resolved : Resolved) (rules : List RuleOf) where
  conds_identified : (used : Bool) → AllFitConditions used rules → AreScanners used rules (conditions_of rules) resolved.scanners
      → AllByRecursion (λ (scanner : Scanner). IfSome scanner.cond IsIdentifier) resolved.scanners
  conds_identified true sound are = identified rules (conditions_of rules) resolved.scanners (conditions_behind-names [] rules sound tt) are
  conds_identified false sound are = unidentified rules (conditions_of rules) resolved.scanners are

  conds_differ : (used : Bool) → AllFitConditions used rules → AreScanners used rules (conditions_of rules) resolved.scanners
      → HaveDifferentConditions resolved.scanners
  conds_differ true sound are = differ rules (conditions_of rules) resolved.scanners (conditions_behind-distinct [] rules tt) are
  conds_differ false sound are = few_differ rules false (conditions_of rules) resolved.scanners (conditions_of-few rules sound) are

  linked : (used : Bool) → AllFitConditions used rules → AreNumbered 1 rules → resolved.acts ≡ acts_of rules
      → AreScanners used rules (conditions_of rules) resolved.scanners → targets_fault rules (conditions_of rules) ≡ None → AreLinked used resolved
  linked used sound numbers acts are targets =
      let once = all_so (IsOnce 1 rules) (λ (rule : RuleOf). HasOneAct resolved.acts rule.act.number)
      (λ rule is. subst (λ l. HasOneAct l rule.act.number) (sym acts) (sym (count_in-is rule.act.number (acts_of rules)) ∙ is.1)) rules (one_counted 1 rules numbers) in
      let count = ap (λ (l : List Act). length l) acts ∙ length-map rules (λ (rule : RuleOf). rule.act) in record {
        named = named rules used (conditions_of rules) resolved.scanners are;
        identifiers = conds_identified used sound are;
        different = conds_differ used sound are;
        numbered = ap (map (λ (act : Act). act.number)) acts ∙ numbers_are 1 rules numbers ∙ ap (range_with_len 1) (sym count);
        acts = scanners_once used resolved.acts rules (conditions_of rules) resolved.scanners once are;
        complete = subst (AllByRecursion (λ (act : Act). act.code ≡ None → IsSome act.goes)) (sym acts) (complete used rules sound);
        targets =
            subst (AllByRecursion (IsIn rules (conditions_of rules) resolved.scanners)) (sym acts)
            (targets_in rules (conditions_of rules) resolved.scanners used rules are sound targets);
      }

-- the checks of targets find nothing where all checks do
targets_checked : (custom : Bool) (format : Format) (at : Pos) (state : State) → ScannerChecks custom format at state None → targets_fault state.rules (conditions_of state.rules) ≡ None
targets_checked custom format at state checked =
    let Scanners : Check = Finds (scanners_fault at (config_of state.settings).eof state.rules (conditions_of state.rules)) in
    let Targets : Check = Finds (targets_fault state.rules (conditions_of state.rules)) in
    let Lonely : Check = Finds (lonely_fault at state.rules (conditions_of state.rules)) in
    let one = then-none (ClashCheck custom format at (config_of state.settings).names state.rules) (Then Lonely (Then Targets Scanners)) checked in
    let two = then-none Lonely (Then Targets Scanners) one.1 in
    sym (then-none Targets Scanners two.1).0

-- those of a rules block are none
none_linked : (used : Bool) (resolved : Resolved) → resolved.scanners ≡ [] → resolved.acts ≡ [] → AreLinked used resolved
none_linked used resolved scanners acts = record {
  named = subst (AllByRecursion (λ (scanner : Scanner). is_some scanner.cond ≡ used)) (sym scanners) tt;
  identifiers = subst (AllByRecursion (λ (scanner : Scanner). IfSome scanner.cond IsIdentifier)) (sym scanners) tt;
  different = subst HaveDifferentConditions (sym scanners) tt;
  numbered = subst (λ (l : List Act). map (λ (act : Act). act.number) l ≡ range_with_len 1 (length l)) (sym acts) refl;
  acts =
      subst (AllByRecursion (λ (scanner : Scanner). AllByRecursion (λ (rule : Rule). HasOneAct resolved.acts rule.number) scanner.set.rules)) (sym scanners) tt;
  complete = subst (AllByRecursion (λ (act : Act). act.code ≡ None → IsSome act.goes)) (sym acts) tt;
  targets =
      subst (AllByRecursion (λ (act : Act). IfSome act.goes (λ cond. Contains (map (λ (scanner : Scanner). scanner.cond) resolved.scanners) (Some cond)))) (sym acts) tt;
}

kind_linked : (options : Options) (kind : BlockKind) → HasRules kind → (at : Pos) (state : State) (resolved : Resolved) → AllFitConditions options.conds state.rules
    → AreNumbered 1 state.rules → BlockChecks options.custom options.format kind at state None → IsResolvedAs kind options.conds state resolved → AreLinked options.conds resolved
kind_linked options kind of_scanners at state resolved sound numbers checked is =
    linked resolved state.rules options.conds sound numbers is.acts is.scanners (targets_checked options.custom options.format at state checked)
kind_linked options kind to_keep at state resolved sound numbers checked is = none_linked options.conds resolved is.0 is.1
kind_linked options kind of_use at state resolved sound numbers checked is =
    linked resolved state.rules options.conds sound numbers is.acts is.scanners (targets_checked options.custom options.format at state checked)

-- ---- the rules block that is kept

abbrev KeptNumbered : Option KeptBlock → Type 0
KeptNumbered None = Unit {0}
KeptNumbered (Some kept) = AreNumbered 1 kept.rules

module _ (environment : Environment) (numbered : KeptNumbered environment.kept) where
  used_numbered : (kept : Option KeptBlock) → KeptNumbered kept → AreNumbered 1 (state_behind kept environment).rules
  used_numbered None are = tt
  used_numbered (Some kept) are = are

  first_numbered : (kind : BlockKind) → HasRules kind → AreNumbered 1 (first_state kind environment).rules
  first_numbered kind of_scanners = tt
  first_numbered kind to_keep = tt
  first_numbered kind of_use = used_numbered environment.kept numbered

  numbered_behind : (kind : BlockKind) → HasRules kind → (state : State) → AreNumbered 1 state.rules → KeptNumbered (environment_behind kind environment state).kept
  numbered_behind kind of_scanners state are = numbered
  numbered_behind kind to_keep state are = are
  numbered_behind kind of_use state are = numbered

stands_numbered : (options : Options) (environment : Environment) → StandsUnder options environment → KeptNumbered environment.kept
stands_numbered options environment before_all = tt
stands_numbered options environment (behind_block {environment = before} stands kind at start body tokens items after resolved has short tokens_are items_are is) =
    let numbered = stands_numbered options before stands in
    subst (λ (e : Environment). KeptNumbered e.kept) (sym is.after_is)
    (numbered_behind before numbered kind has is.state
    (goes_numbered options (lexemes_of body tokens) (first_state kind before) is.state items (first_numbered before numbered kind has) is.goes))

-- the scanners of a block and the actions of its rules belong together
pub block_linked : (options : Options) (kind : BlockKind) (at start : Pos) (environment after : Environment) (body : List ℕ) (tokens : List Token)
    (items : List Item) (resolved : Resolved) → HasRules kind → StandsUnder options environment → tokens_of body start ≡ Ok tokens
    → IsBody (form_of kind) (sorts_of kind body tokens) items → Resolves options kind at environment (lexemes_of body tokens) items after resolved
    → AreLinked options.conds resolved
block_linked options kind at start environment after body tokens items resolved has stands are read is =
    let lexemes = lexemes_of body tokens in
    let first = first_state kind environment in
    let lists = body_lists body start tokens items are (body-alike kind has body tokens items read) in
    kind_linked options kind has at is.state resolved
    (goes_sound options lexemes first is.state items (first_sound options environment (stands_ready options environment stands) kind has) lists.0 lists.1 is.goes)
    (goes_numbered options lexemes first is.state items (first_numbered environment (stands_numbered options environment stands) kind has) is.goes) is.checked is.ends
