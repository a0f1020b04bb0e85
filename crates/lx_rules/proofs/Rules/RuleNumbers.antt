-- Rules with different numbers, in the order of their scanner.
use Rattle.std.proofs.Common.{◌≡◌, ◌≢◌, ℕ, zero, suc, ◌<◌, ◌≤◌, Bool, true, false, not, List, [], ◌∷◌, ◌++◌, drop, get_or, length, refl, sym, subst, arith}
use Rattle.std.specs.Prelude.{if◌then◌else◌}
use Rattle.std.specs.List.{AllByRecursion, filter, list_any}
use Rattle.lx_exprs.specs.Checks.{is_among}
use Rattle.lx_rules.specs.Blocks.{every, not_of_kind, of_kind, own_or, rules_of, rules_under, shared_beside}
use Rattle.lx_rules.specs.Conditions.{AreConds}
use Rattle.lx_regex.specs.Pattern.{is_end}
use Rattle.lx_rules.specs.Items.{is_default}
use Rattle.lx_rules.specs.Rules.{RuleOf}
use Rattle.lx_rules.proofs.CondSets.CondNames.{conds_apart}
use Rattle.lx_rules.proofs.ScannerSets.ScannerLimits.{plain-either_way}

-- no two of the rules have the same number
abbrev pub Differ : List RuleOf → Type 0
Differ [] = Unit {0}
Differ (rule ∷ rules) = AllByRecursion (λ (other : RuleOf). other.act.number ≢ rule.act.number) rules × Differ rules

-- no rule has the number of one of others
abbrev AreApart : (rules others : List RuleOf) → Type 0
AreApart rules others = AllByRecursion (λ (rule : RuleOf). AllByRecursion (λ (other : RuleOf). other.act.number ≢ rule.act.number) others) rules

-- what holds of all
module _ {A : Type 0} (P : A → Type 0) where
  pub all_both : (front back : List A) → AllByRecursion P front → AllByRecursion P back → AllByRecursion P (front ++ back)
  all_both [] back here there = there
  all_both (item ∷ front) back here there = (here.0, all_both front back here.1 there)

  pub all_at : (items : List A) (place : ℕ) (default : A) → AllByRecursion P items → place < length items → P (get_or items place default)
  all_at [] place default all lt = absurd (omega (arith, lt))
  all_at (item ∷ items) zero default all lt = all.0
  all_at (item ∷ items) (suc place) default all lt = all_at items place default all.1 (omega (arith, lt))

  pub all_drop : (count : ℕ) (items : List A) → AllByRecursion P items → AllByRecursion P (drop count items)
  all_drop zero items all = all
  all_drop (suc count) [] all = tt
  all_drop (suc count) (item ∷ items) all = all_drop count items all.1

  pub all_filtered : (test : A → Bool) (items : List A) → AllByRecursion P items → AllByRecursion P (filter test items)
  all_filtered test [] all = tt
  all_filtered test (item ∷ items) all = at (test item) (all_filtered test items all.1)
    where
      at : (b : Bool) → AllByRecursion P (filter test items) → AllByRecursion P (if b then item ∷ filter test items else filter test items)
      at true later = (all.0, later)
      at false later = later

pub all_so : {A : Type 0} (P Q : A → Type 0) → ((item : A) → P item → Q item) → (items : List A) → AllByRecursion P items → AllByRecursion Q items
all_so P Q so [] all = tt
all_so P Q so (item ∷ items) all = (so item all.0, all_so P Q so items all.1)

-- one rule more, with a greater number
pub differ_snoc : (rules : List RuleOf) (rule : RuleOf) (most : ℕ) → AllByRecursion (λ (other : RuleOf). other.act.number ≤ most) rules
    → Differ rules → rule.act.number ≡ suc most → Differ (rules ++ rule ∷ [])
differ_snoc [] rule most small differ is = (tt, tt)
differ_snoc (first ∷ rules) rule most small differ is =
    let less = small.0 in (
      all_both (λ (other : RuleOf). other.act.number ≢ first.act.number) rules (rule ∷ []) differ.0 ((λ same. omega (arith, same, is, less)), tt),
      differ_snoc rules rule most small.1 differ.1 is,
    )

-- those that pass a test
differ_filtered : (test : RuleOf → Bool) (rules : List RuleOf) → Differ rules → Differ (filter test rules)
differ_filtered test [] differ = tt
differ_filtered test (rule ∷ rules) differ =
    at (test rule) (differ_filtered test rules differ.1) (all_filtered (λ (other : RuleOf). other.act.number ≢ rule.act.number) test rules differ.0)
  where
    at : (b : Bool) → Differ (filter test rules) → AllByRecursion (λ (other : RuleOf). other.act.number ≢ rule.act.number) (filter test rules)
        → Differ (if b then rule ∷ filter test rules else filter test rules)
    at true later others = (others, later)
    at false later others = later

-- rules in front, and others behind
differ_both : (front back : List RuleOf) → Differ front → Differ back → AreApart front back → Differ (front ++ back)
differ_both [] back one two apart = two
differ_both (rule ∷ front) back one two apart =
    (all_both (λ (other : RuleOf). other.act.number ≢ rule.act.number) front back one.0 apart.0, differ_both front back one.1 two apart.1)

apart_both : (front back others : List RuleOf) → AreApart front others → AreApart back others → AreApart (front ++ back) others
apart_both front back others one two =
    all_both (λ (rule : RuleOf). AllByRecursion (λ (other : RuleOf). other.act.number ≢ rule.act.number) others) front back one two

-- those of the rules, or of the others, that pass a test
apart_first : (test : RuleOf → Bool) (rules others : List RuleOf) → AreApart rules others → AreApart (filter test rules) others
apart_first test rules others apart =
    all_filtered (λ (rule : RuleOf). AllByRecursion (λ (other : RuleOf). other.act.number ≢ rule.act.number) others) test rules apart

apart_second : (test : RuleOf → Bool) (rules others : List RuleOf) → AreApart rules others → AreApart rules (filter test others)
apart_second test rules others apart =
    all_so (λ (rule : RuleOf). AllByRecursion (λ (other : RuleOf). other.act.number ≢ rule.act.number) others)
    (λ (rule : RuleOf). AllByRecursion (λ (other : RuleOf). other.act.number ≢ rule.act.number) (filter test others))
    (λ rule all. all_filtered (λ (other : RuleOf). other.act.number ≢ rule.act.number) test others all) rules apart

apart_cons : (rule : RuleOf) (rules others : List RuleOf) → AllByRecursion (λ (other : RuleOf). rule.act.number ≢ other.act.number) rules → AreApart rules others
    → AreApart rules (rule ∷ others)
apart_cons rule [] others none apart = tt
apart_cons rule (first ∷ rules) others none apart = ((none.0, apart.0), apart_cons rule rules others none.1 apart.1)

-- rules that pass one of two tests, of which no rule passes both
module _ (test other_test : RuleOf → Bool) where
  abbrev IsOnce : RuleOf → Type 0
  IsOnce rule = test rule ≡ true → other_test rule ≡ true → ⊥

  apart_once : (rules : List RuleOf) → Differ rules → AllByRecursion IsOnce rules → AreApart (filter test rules) (filter other_test rules)
  apart_once [] differ once = tt
  apart_once (rule ∷ rules) differ once =
      at (test rule) (other_test rule) refl refl (apart_once rules differ.1 once.1)
      (all_filtered (λ (other : RuleOf). other.act.number ≢ rule.act.number) other_test rules differ.0)
      (all_filtered (λ (other : RuleOf). rule.act.number ≢ other.act.number) test rules
      (all_so (λ (other : RuleOf). other.act.number ≢ rule.act.number) (λ (other : RuleOf). rule.act.number ≢ other.act.number)
      (λ other apart same. apart (sym same)) rules differ.0))
    where
      at : (t o : Bool) → test rule ≡ t → other_test rule ≡ o → AreApart (filter test rules) (filter other_test rules)
          → AllByRecursion (λ (other : RuleOf). other.act.number ≢ rule.act.number) (filter other_test rules)
          → AllByRecursion (λ (other : RuleOf). rule.act.number ≢ other.act.number) (filter test rules)
          → AreApart (if t then rule ∷ filter test rules else filter test rules) (if o then rule ∷ filter other_test rules else filter other_test rules)
      at true true e f later here there = absurd (once.0 e f)
      at true false e f later here there = (here, later)
      at false true e f later here there = apart_cons rule (filter test rules) (filter other_test rules) there later
      at false false e f later here there = later

-- `*` and the other rules
star_once : (rules : List RuleOf) → AllByRecursion (IsOnce (λ (rule : RuleOf). not (is_default rule.kind)) (λ (rule : RuleOf). is_default rule.kind)) rules
star_once [] = tt
star_once (rule ∷ rules) = (at (is_default rule.kind), star_once rules)
  where
    at : (b : Bool) → not b ≡ true → b ≡ true → ⊥
    at true one two = let h : false ≡ true = one in cc
    at false one two = let h : false ≡ true = two in cc

-- rules of a condition and those of `<*>`, one way and the other
module _ (cond : List ℕ) (other : cond ≢ every) where
  own_once : (rules : List RuleOf) → AllByRecursion (λ (rule : RuleOf). AreConds rule.conds) rules
      → AllByRecursion (IsOnce (λ (rule : RuleOf). is_among cond rule.conds) (λ (rule : RuleOf). is_among every rule.conds)) rules
  own_once [] are = tt
  own_once (rule ∷ rules) are = ((λ here shared. conds_apart rule.conds cond are.0 other here shared), own_once rules are.1)

  shared_once : (rules : List RuleOf) → AllByRecursion (λ (rule : RuleOf). AreConds rule.conds) rules
      → AllByRecursion (IsOnce (λ (rule : RuleOf). is_among every rule.conds) (λ (rule : RuleOf). is_among cond rule.conds)) rules
  shared_once [] are = tt
  shared_once (rule ∷ rules) are = ((λ shared here. conds_apart rule.conds cond are.0 other here shared), shared_once rules are.1)

pub own_or-either : (P : List RuleOf → Type 0) (own shared : List RuleOf) → P own → P shared → P (own_or own shared)
own_or-either P [] shared here there = there
own_or-either P (rule ∷ own) shared here there = here

module _ (own shared : List RuleOf) (own_differ : Differ own) (shared_differ : Differ shared) (apart : AreApart own shared) (apart_back : AreApart shared own) where
  abbrev beside : List RuleOf
  beside = shared_beside own shared

  abbrev own_part : List RuleOf
  own_part = not_of_kind is_default own

  abbrev shared_part : List RuleOf
  shared_part = not_of_kind is_default beside

  beside_differ : Differ beside
  beside_differ = at (list_any (λ (rule : RuleOf). is_end rule.kind) own)
    where
      at : (b : Bool) → Differ (if b then not_of_kind is_end shared else shared)
      at true = differ_filtered (λ (rule : RuleOf). not (is_end rule.kind)) shared shared_differ
      at false = shared_differ

  own_beside : AreApart own beside
  own_beside = at (list_any (λ (rule : RuleOf). is_end rule.kind) own)
    where
      at : (b : Bool) → AreApart own (if b then not_of_kind is_end shared else shared)
      at true = apart_second (λ (rule : RuleOf). not (is_end rule.kind)) own shared apart
      at false = apart

  beside_own : AreApart beside own
  beside_own = at (list_any (λ (rule : RuleOf). is_end rule.kind) own)
    where
      at : (b : Bool) → AreApart (if b then not_of_kind is_end shared else shared) own
      at true = apart_first (λ (rule : RuleOf). not (is_end rule.kind)) shared own apart_back
      at false = apart_back

  shared_stars : AreApart shared_part (of_kind is_default shared)
  shared_stars = at (list_any (λ (rule : RuleOf). is_end rule.kind) own)
    where
      once : AreApart (not_of_kind is_default shared) (of_kind is_default shared)
      once = apart_once (λ (rule : RuleOf). not (is_default rule.kind)) (λ (rule : RuleOf). is_default rule.kind) shared shared_differ (star_once shared)

      at : (b : Bool) → AreApart (not_of_kind is_default (if b then not_of_kind is_end shared else shared)) (of_kind is_default shared)
      at true =
          subst (λ l. AreApart l (of_kind is_default shared)) (plain-either_way shared)
          (apart_first (λ (rule : RuleOf). not (is_end rule.kind)) (not_of_kind is_default shared) (of_kind is_default shared) once)
      at false = once

  with_last : (last : List RuleOf) → Differ last → AreApart own_part last → AreApart shared_part last → Differ (own_part ++ shared_part ++ last)
  with_last last differ here there =
      differ_both (own_part ++ shared_part) last
      (differ_both own_part shared_part (differ_filtered (λ (rule : RuleOf). not (is_default rule.kind)) own own_differ)
      (differ_filtered (λ (rule : RuleOf). not (is_default rule.kind)) beside beside_differ)
      (apart_first (λ (rule : RuleOf). not (is_default rule.kind)) own shared_part
      (apart_second (λ (rule : RuleOf). not (is_default rule.kind)) own beside own_beside)))
      differ (apart_both own_part shared_part last here there)

  differ_in_order : Differ (own_part ++ shared_part ++ own_or (of_kind is_default own) (of_kind is_default shared))
  differ_in_order =
      own_or-either (λ last. Differ (own_part ++ shared_part ++ last)) (of_kind is_default own) (of_kind is_default shared)
      (with_last (of_kind is_default own) (differ_filtered (λ (rule : RuleOf). is_default rule.kind) own own_differ)
      (apart_once (λ (rule : RuleOf). not (is_default rule.kind)) (λ (rule : RuleOf). is_default rule.kind) own own_differ (star_once own))
      (apart_first (λ (rule : RuleOf). not (is_default rule.kind)) beside (of_kind is_default own)
      (apart_second (λ (rule : RuleOf). is_default rule.kind) beside own beside_own)))
      (with_last (of_kind is_default shared) (differ_filtered (λ (rule : RuleOf). is_default rule.kind) shared shared_differ)
      (apart_first (λ (rule : RuleOf). not (is_default rule.kind)) own (of_kind is_default shared)
      (apart_second (λ (rule : RuleOf). is_default rule.kind) own shared apart)) shared_stars)

-- the rules of a scanner have different numbers
pub differ_of_scanner : (cond : List ℕ) (rules : List RuleOf) → cond ≢ every → AllByRecursion (λ (rule : RuleOf). AreConds rule.conds) rules → Differ rules
    → Differ (rules_of cond rules)
differ_of_scanner cond rules other conds differ =
    differ_in_order (rules_under cond rules) (rules_under every rules) (differ_filtered (λ (rule : RuleOf). is_among cond rule.conds) rules differ)
    (differ_filtered (λ (rule : RuleOf). is_among every rule.conds) rules differ)
    (apart_once (λ (rule : RuleOf). is_among cond rule.conds) (λ (rule : RuleOf). is_among every rule.conds) rules differ (own_once cond other rules conds))
    (apart_once (λ (rule : RuleOf). is_among every rule.conds) (λ (rule : RuleOf). is_among cond rule.conds) rules differ (shared_once cond other rules conds))
