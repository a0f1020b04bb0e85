-- The rules of a generated source: the checks behind them, and their terms.
use Rattle.std.proofs.Common.{◌≡◌, ◌∙◌, ℕ, suc, ◌+◌, ◌*◌, ◌<◌, ◌≤◌, Bool, true, false, List, [], ◌∷◌, ◌++◌, length, map, Option, Some, None, inl, inr, refl, sym, ap, ap₂, subst, arith, append-nil, length-append}
use Rattle.std.proofs.lemmas.Bool.{false≢true, le-ltb}
use Rattle.std.specs.List.{AllByRecursion, filter, list_any}
use Rattle.std.specs.Option.{option_or}
use Rattle.std.specs.Prelude.{if◌then◌else◌, is_some, not, ◌||◌}
use Rattle.lx_base.specs.Names.{Spellings, usual_names}
use Rattle.lx_base.specs.declared.faults.Fault.{Fault}
use Rattle.lx_base.specs.declared.faults.Fault.TheVariants.{NoRules}
use Rattle.lx_base.specs.declared.limits.TheConstants.{NESTING_LIMIT, SIZE_LIMIT, TAG_LIMIT}
use Rattle.lx_base.specs.declared.places.Pos.{Pos}
use Rattle.lx_base.specs.declared.settings.Format.TheVariants.{Three, Two}
use Rattle.lx_ccode.proofs.UsualNames.{DoNotClash-usual}
use Rattle.lx_exprs.specs.Checks.{Check, Finds, Then, is_among}
use Rattle.lx_exprs.specs.Defined.{Meaning, term_of_meaning}
use Rattle.lx_exprs.specs.Meanings.{behind}
use Rattle.lx_regex.specs.Pattern.{is_end, terms_of}
use Rattle.lx_regex.specs.Term.{Term}
use Rattle.lx_regex.specs.declared.rules.Kind.{Kind}
use Rattle.lx_regex.specs.declared.rules.Kind.TheVariants.{Plain, Default}
use Rattle.lx_regex.specs.declared.rules.Tag.{Tag}
use Rattle.lx_rules.specs.Blocks.{ClashCheck, MayBeTag, NoClash, ScannerChecks, conditions_behind, conditions_of, every, is_bare, limits_fault, lonely_fault, nesting_of, not_of_kind, of_kind, own_or, pair_fault, pattern_of, rules_of, rules_under, scanner_fault, scanner_rules, scanners_fault, shared_beside, size_of, tags_of, targets_fault}
use Rattle.lx_rules.specs.Environments.{Settings, no_settings}
use Rattle.lx_rules.specs.Items.{State, any_meaning, as_rule, is_default}
use Rattle.lx_rules.specs.Rules.{RuleOf}
use Rattle.lx_source.proofs.WordExpressions.{word-size, word-term, word_meaning}
use Rattle.lx_source.specs.GeneratedRules.{terms_from}

-- a rule of this kind and with this expression, whose action goes nowhere
pub record IsRule (sort : Kind) (means : Meaning) (rule : RuleOf) : Type 0 where
  pub conds : rule.conds ≡ [] ∷ []
  pub kind : rule.kind ≡ sort
  pub meaning : rule.meaning ≡ as_rule false means
  pub slash : rule.slash ≡ None
  pub goes : rule.act.goes ≡ None

-- the rules of words, numbered from this one on
abbrev pub AreWords : (number : ℕ) → List RuleOf → Type 0
AreWords number [] = Unit {0}
AreWords number (rule ∷ rules) = IsRule Plain (word_meaning number) rule × AreWords (suc number) rules

-- the rules of so many words, numbered from this one on, and the rule `*`
pub record AreRules (number count : ℕ) (rules : List RuleOf) : Type 0 where
  pub words : List RuleOf
  pub last : RuleOf
  pub all : rules ≡ words ++ last ∷ []
  pub count_is : length words ≡ count
  pub are_words : AreWords number words
  pub is_last : IsRule Default any_meaning last

-- ---- what holds of each of them

record IsFair (rule : RuleOf) : Type 0 where
  conds : rule.conds ≡ [] ∷ []
  goes : rule.act.goes ≡ None
  no_end : is_end rule.kind ≡ false
  tags : rule.meaning.tags ≡ []
  count : rule.meaning.count ≡ 0
  nesting : rule.meaning.nesting ≤ 1
  size : rule.meaning.size ≤ 18

abbrev AreFair : List RuleOf → Type 0
AreFair rules = AllByRecursion IsFair rules

word-fair : (number : ℕ) (rule : RuleOf) → number < 1000 → IsRule Plain (word_meaning number) rule → IsFair rule
word-fair number rule less is = record {
  conds = is.conds;
  goes = is.goes;
  no_end = ap is_end is.kind;
  tags = ap (λ (m : Meaning). m.tags) is.meaning;
  count = ap (λ (m : Meaning). m.count) is.meaning;
  nesting = let same = ap (λ (m : Meaning). m.nesting) is.meaning in omega arith;
  size = let same = ap (λ (m : Meaning). m.size) is.meaning in let few = word-size number less in omega arith;
}

last-fair : (rule : RuleOf) → IsRule Default any_meaning rule → IsFair rule
last-fair rule is = record {
  conds = is.conds;
  goes = is.goes;
  no_end = ap is_end is.kind;
  tags = ap (λ (m : Meaning). m.tags) is.meaning;
  count = ap (λ (m : Meaning). m.count) is.meaning;
  nesting = let same = ap (λ (m : Meaning). m.nesting) is.meaning in omega arith;
  size = let same = ap (λ (m : Meaning). m.size) is.meaning in omega arith;
}

rules-fair : (number : ℕ) (words : List RuleOf) (last : RuleOf) → number + length words ≤ 1000 → AreWords number words
    → IsRule Default any_meaning last → AreFair (words ++ last ∷ [])
rules-fair number [] last few are is = (last-fair last is, tt)
rules-fair number (rule ∷ words) last few are is =
    (word-fair number rule (omega arith) are.0, rules-fair (suc number) words last (omega arith) are.1 is)

-- ---- their conditions and targets

seen-once : (rules : List RuleOf) → AreFair rules → conditions_behind ([] ∷ []) rules ≡ [] ∷ []
seen-once [] are = refl
seen-once (rule ∷ rules) are = rw are.0.conds (seen-once rules are.1)

conditions-one : (rules : List RuleOf) → 0 < length rules → AreFair rules → conditions_of rules ≡ [] ∷ []
conditions-one [] some are = absurd (omega arith)
conditions-one (rule ∷ rules) some are = rw are.0.conds (seen-once rules are.1)

not-lonely : (at : Pos) (rules : List RuleOf) → lonely_fault at rules ([] ∷ []) ≡ None
not-lonely at [] = refl
not-lonely at (rule ∷ rules) = refl

no-targets : (rules : List RuleOf) (conds : List (List ℕ)) → AreFair rules → targets_fault rules conds ≡ None
no-targets [] conds are = refl
no-targets (rule ∷ rules) conds are = rw are.0.goes (no-targets rules conds are.1)

-- ---- the rules of the one scanner

-- a rule that is taken, and one that is not
filter-takes : (test : RuleOf → Bool) (rule : RuleOf) (rules : List RuleOf) → test rule ≡ true → filter test (rule ∷ rules)
    ≡ rule ∷ filter test rules
filter-takes test rule rules is = ap (λ (b : Bool). if b then rule ∷ filter test rules else filter test rules) is

filter-passes : (test : RuleOf → Bool) (rule : RuleOf) (rules : List RuleOf) → test rule ≡ false → filter test (rule ∷ rules) ≡ filter test rules
filter-passes test rule rules is = ap (λ (b : Bool). if b then rule ∷ filter test rules else filter test rules) is

all-taken : (test : RuleOf → Bool) (rules : List RuleOf) → AllByRecursion (λ (rule : RuleOf). test rule ≡ true) rules → filter test rules ≡ rules
all-taken test [] are = refl
all-taken test (rule ∷ rules) are = filter-takes test rule rules are.0 ∙ ap (λ (l : List RuleOf). rule ∷ l) (all-taken test rules are.1)

none-taken : (test : RuleOf → Bool) (rules : List RuleOf) → AllByRecursion (λ (rule : RuleOf). test rule ≡ false) rules → filter test rules ≡ []
none-taken test [] are = refl
none-taken test (rule ∷ rules) are = filter-passes test rule rules are.0 ∙ none-taken test rules are.1

AllFair : (P : RuleOf → Type 0) → ((rule : RuleOf) → IsFair rule → P rule) → (rules : List RuleOf) → AreFair rules → AllByRecursion P rules
AllFair P holds [] are = tt
AllFair P holds (rule ∷ rules) are = (holds rule are.0, AllFair P holds rules are.1)

all-under : (rules : List RuleOf) → AreFair rules → rules_under [] rules ≡ rules
all-under rules are =
    let test = λ (rule : RuleOf). is_among [] rule.conds in
    all-taken test rules (AllFair (λ (rule : RuleOf). test rule ≡ true) (λ rule fair. ap (is_among []) fair.conds) rules are)

none-under : (rules : List RuleOf) → AreFair rules → rules_under every rules ≡ []
none-under rules are =
    let test = λ (rule : RuleOf). is_among every rule.conds in
    none-taken test rules (AllFair (λ (rule : RuleOf). test rule ≡ false) (λ rule fair. ap (is_among every) fair.conds) rules are)

words-first : (number : ℕ) (words : List RuleOf) (last : RuleOf) → AreWords number words → IsRule Default any_meaning last
    → not_of_kind is_default (words ++ last ∷ []) ≡ words
words-first number [] last are is = filter-passes (λ (rule : RuleOf). not (is_default rule.kind)) last []
    (ap (λ (k : Kind). not (is_default k)) is.kind)
words-first number (rule ∷ words) last are is =
    filter-takes (λ (rule : RuleOf). not (is_default rule.kind)) rule (words ++ last ∷ []) (ap (λ (k : Kind). not (is_default k)) are.0.kind)
    ∙ ap (λ (l : List RuleOf). rule ∷ l) (words-first (suc number) words last are.1 is)

last-behind : (number : ℕ) (words : List RuleOf) (last : RuleOf) → AreWords number words → IsRule Default any_meaning last
    → of_kind is_default (words ++ last ∷ []) ≡ last ∷ []
last-behind number [] last are is = filter-takes (λ (rule : RuleOf). is_default rule.kind) last [] (ap is_default is.kind)
last-behind number (rule ∷ words) last are is =
    filter-passes (λ (rule : RuleOf). is_default rule.kind) rule (words ++ last ∷ []) (ap is_default are.0.kind)
    ∙ last-behind (suc number) words last are.1 is

no-shared : (own : List RuleOf) → shared_beside own [] ≡ []
no-shared own = by (list_any (λ (rule : RuleOf). is_end rule.kind) own)
  where
    by : (flag : Bool) → (if flag then not_of_kind is_end [] else []) ≡ []
    by true = refl
    by false = refl

in_order : (number : ℕ) (words : List RuleOf) (last : RuleOf) → number + length words ≤ 1000 → AreWords number words
    → IsRule Default any_meaning last
    → rules_of [] (words ++ last ∷ []) ≡ words ++ last ∷ []
in_order number words last few are is =
    let all = words ++ last ∷ [] in
    let fair = rules-fair number words last few are is in
    ap₂ scanner_rules (all-under all fair) (none-under all fair)
    ∙ ap₂ (λ (l : List RuleOf) (m : List RuleOf). l ++ not_of_kind is_default (shared_beside all []) ++ own_or m [])
    (words-first number words last are is) (last-behind number words last are is)
    ∙ ap (λ (l : List RuleOf). words ++ not_of_kind is_default l ++ last ∷ []) (no-shared all)
    ∙ ap (λ (l : List RuleOf). l ++ last ∷ []) (append-nil words)

-- ---- the checks of the scanner

no-end : (rules : List RuleOf) → AreFair rules → list_any (λ (rule : RuleOf). is_end rule.kind) rules ≡ false
no-end [] are = refl
no-end (rule ∷ rules) are = rw are.0.no_end (no-end rules are.1)

all-counted : (rules : List RuleOf) → AreFair rules → not_of_kind is_end rules ≡ rules
all-counted rules are =
    let test = λ (rule : RuleOf). not (is_end rule.kind) in
    all-taken test rules (AllFair (λ (rule : RuleOf). test rule ≡ true) (λ rule fair. ap not fair.no_end) rules are)

size-few : (rules : List RuleOf) → AreFair rules → size_of rules ≤ 18 * length rules
size-few [] are = omega arith
size-few (rule ∷ rules) are = let here = are.0.size in let later = size-few rules are.1 in omega arith

nesting-few : (rules : List RuleOf) → AreFair rules → nesting_of rules ≤ 1
nesting-few [] are = omega arith
nesting-few (rule ∷ rules) are = let here = are.0.nesting in let later = nesting-few rules are.1 in omega arith

tags-none : (rules : List RuleOf) → AreFair rules → tags_of rules ≡ 0
tags-none [] are = refl
tags-none (rule ∷ rules) are = let here = are.0.count in let later = tags-none rules are.1 in omega arith

within-limits : (at : Pos) (rules : List RuleOf) → length rules ≤ 201 → AreFair rules
    → limits_fault at (size_of rules) (nesting_of rules) (tags_of rules) ≡ None
within-limits at rules few are =
    let size = size-few rules are in
    let nesting = nesting-few rules are in
    let tags = tags-none rules are in
    rw (
      le-ltb SIZE_LIMIT (size_of rules) (omega arith),
      le-ltb NESTING_LIMIT (nesting_of rules) (omega arith),
      le-ltb TAG_LIMIT (tags_of rules) (omega arith),
    ) refl

scanner-fair : (at : Pos) (rules : List RuleOf) → 0 < length rules → length rules ≤ 201 → AreFair rules → scanner_fault at None rules ≡ None
scanner-fair at [] some few are = absurd (omega arith)
scanner-fair at (rule ∷ more) some few are =
    let all = rule ∷ more in
    let bare : is_bare all ≡ false = ap (λ (b : Bool). not (not b || list_any (λ (rule : RuleOf). not (is_end rule.kind)) more)) are.0.no_end in
    ap₂ (λ (none : Bool) (end : Bool). option_or (if none then Some (NoRules at) else None)
    (option_or (pair_fault at None end) (limits_fault at (size_of (not_of_kind is_end all)) (nesting_of (not_of_kind is_end all))
    (tags_of (not_of_kind is_end all)))))
    bare (no-end all are)
    ∙ ap (λ (l : List RuleOf). limits_fault at (size_of l) (nesting_of l) (tags_of l)) (all-counted all are) ∙ within-limits at all few are

-- ---- no tag has a name that clashes

may-be-named : (rules : List RuleOf) → AreFair rules
    → AllByRecursion (λ (rule : RuleOf). AllByRecursion (MayBeTag Two usual_names (is_some rule.slash)) rule.meaning.tags) rules
may-be-named [] are = tt
may-be-named (rule ∷ rules) are = (
  subst (λ (l : List Tag). AllByRecursion (MayBeTag Two usual_names (is_some rule.slash)) l) (sym are.0.tags) tt,
  may-be-named rules are.1,
)

-- the format is not 3
not-three : {A : Type 0} → Two ≡ Three → A
not-three three = absurd (let h = three in cc)

no-clash : (rules : List RuleOf) → AreFair rules → NoClash false Two usual_names rules
no-clash rules are = (
  (DoNotClash-usual, (λ is. absurd (false≢true is)), not-three),
  may-be-named rules are,
  not-three,
)

-- ---- their terms

words-terms : (number : ℕ) (words : List RuleOf) (last : RuleOf) → AreWords number words → IsRule Default any_meaning last
    → terms_of (map pattern_of (words ++ last ∷ [])) ≡ terms_from number (length words)
words-terms number [] last are is =
    rw is.kind (ap (λ (m : Meaning). behind (length m.tags) (term_of_meaning m) ∷ []) is.meaning)
words-terms number (rule ∷ words) last are is =
    rw are.0.kind
    (ap₂ (λ (t : Term) (l : List Term). t ∷ l)
    (ap (λ (m : Meaning). behind (length m.tags) (term_of_meaning m)) are.0.meaning ∙ word-term number)
    (words-terms (suc number) words last are.1 is))

-- ---- checks that find no fault

abbrev pub IsClear : Check → Type 0
IsClear Found = (fault : Fault) → Found (Some fault) → ⊥

clear-Finds : (found : Option Fault) → found ≡ None → IsClear (Finds found)
clear-Finds found none fault is = let same = is ∙ none in cc

clear-Then : (First Second : Check) → IsClear First → IsClear Second → IsClear (Then First Second)
clear-Then First Second first second fault (inl found) = second fault found.1
clear-Then First Second first second fault (inr found) = first found.0 found.1

clear-clash : (at : Pos) (names : Spellings) (rules : List RuleOf) → NoClash false Two names rules → IsClear (ClashCheck false Two at names rules)
clear-clash at names rules holds fault (inl found) = let same : Some fault ≡ None = found.1 in cc
clear-clash at names rules holds fault (inr found) = found.0 holds

-- refills are not enabled, and nothing else is set
abbrev pub no_refills : Settings
no_refills = record { names = no_settings.names; eof = no_settings.eof; fill = Some false }

module _ (count : ℕ) (few : count ≤ 200) (rules : List RuleOf) (are : AreRules 1 count rules) where
  rules_size : length rules ≡ count + 1
  rules_size =
      let size = ap length are.all ∙ length-append are.words (are.last ∷ []) in
      let words = are.count_is in omega arith

  fair : AreFair rules
  fair =
      let words = are.count_is in
      subst AreFair (sym are.all) (rules-fair 1 are.words are.last (omega arith) are.are_words are.is_last)

  -- they have one condition, and are the rules of its scanner
  pub one_condition : conditions_of rules ≡ [] ∷ []
  one_condition = let size = rules_size in conditions-one rules (omega arith) fair

  own_rules : rules_of [] rules ≡ rules
  own_rules =
      let words = are.count_is in
      ap (rules_of []) are.all ∙ in_order 1 are.words are.last (omega arith) are.are_words are.is_last ∙ sym are.all

  pub scanner_terms : terms_of (map pattern_of (rules_of [] rules)) ≡ terms_from 1 count
  scanner_terms =
      ap (λ (l : List RuleOf). terms_of (map pattern_of l)) (own_rules ∙ are.all)
      ∙ words-terms 1 are.words are.last are.are_words are.is_last
      ∙ ap (terms_from 1) are.count_is

  no_scanner_fault : (at : Pos) → scanners_fault at None rules (conditions_of rules) ≡ None
  no_scanner_fault at =
      let size = rules_size in
      ap (scanners_fault at None rules) one_condition
      ∙ ap (λ (o : Option Fault). option_or o None) (ap (scanner_fault at None) own_rules
      ∙ scanner-fair at rules (omega arith) (omega arith) fair)

  -- the checks behind the items find no fault
  pub checks_clear : (at : Pos) (state : State) → state.rules ≡ rules → state.settings ≡ no_refills
      → IsClear (ScannerChecks false Two at state)
  checks_clear at state rules_are settings_are =
      let settings = no_refills in
      let conds = conditions_of rules in
      let Clash = ClashCheck false Two at usual_names rules in
      let Lonely = Finds (lonely_fault at rules conds) in
      let Targets = Finds (targets_fault rules conds) in
      let Scanners = Finds (scanners_fault at None rules conds) in
      let known : State = record { definitions = state.definitions; settings = settings; rules = rules } in
      let clear : IsClear (ScannerChecks false Two at known) =
      clear-Then Clash (Then Lonely (Then Targets Scanners)) (clear-clash at usual_names rules (no-clash rules fair))
      (clear-Then Lonely (Then Targets Scanners)
      (clear-Finds (lonely_fault at rules conds) (ap (lonely_fault at rules) one_condition ∙ not-lonely at rules))
      (clear-Then Targets Scanners (clear-Finds (targets_fault rules conds) (no-targets rules conds fair))
      (clear-Finds (scanners_fault at None rules conds) (no_scanner_fault at)))) in
      subst (λ (s : State). IsClear (ScannerChecks false Two at s))
      (ap₂ (λ (s : Settings) (l : List RuleOf). record { definitions = state.definitions; settings = s; rules = l }) (sym settings_are)
      (sym rules_are)) clear
