-- What is given of scanners, where some have the automaton of the first one.
use Rattle.std.specs.Prelude.{◌≡◌, ℕ, zero, suc, ◌<◌, Bool, true, false, List, [], ◌∷◌, ◌++◌, map, length, Option, Some, None, IfSome, is_some, refl, slice_get, unwrap_or, if◌then◌else◌}
use Rattle.std.proofs.Common.{sym, ap, ap₂, ◌+◌, ◌∙◌, subst, drop, get_or, arith}
use Rattle.std.specs.List.{AllByRecursion}
use Rattle.lx_auto.specs.declared.automaton.Auto.{Auto}
use Rattle.lx_layout.specs.LikeScanners.{AreLike, IsLike}
use Rattle.lx_layout.specs.declared.pieces.ScannerInput.{ScannerInput}
use Rattle.lx_regex.specs.Pattern.{Pattern, end_rule, is_end, patterns_of}
use Rattle.lx_renumber.specs.Renumbered.{based, renumbered_pattern}
use Rattle.lx_rules.specs.declared.resolved.Scanner.{Scanner}
use Rattle.lx_gen.specs.Automata.{AreAlike, AreAlikeAmong, IsAlike, auto_by, by_of, checks_by, seen_autos, seen_checks}
use Rattle.lx_gen.specs.declared.automata.ScannerAuto.{ScannerAuto}
use Rattle.lx_gen.specs.declared.automata.ScannerAuto.TheVariants.{Own, AsFirst}
use Rattle.lx_gen.proofs.SourceLists.{each-more}

-- ---- automata and checks by their places

at-map : {A B : Type 0} (f : A → B) (xs : List A) (k : ℕ) (x : A) (y : B) → k < length xs → x ≡ get_or xs k x → f x ≡ get_or (map f xs) k y
at-map f [] k x y lt is = absurd (omega (arith, lt))
at-map f (first ∷ xs) zero x y lt is = ap f is
at-map f (first ∷ xs) (suc k) x y lt is = at-map f xs k x y (omega (arith, lt)) is

module _ (auto : Auto) (checks : List ℕ) (rest items : List ScannerAuto) (begins : items ≡ Own auto checks ∷ rest) (k : ℕ) (item : ScannerAuto) where
  pub auto-at : k < length items → item ≡ get_or items k item → (one : Auto) → one ≡ auto_by auto item → one ≡ get_or (seen_autos items) k one
  auto-at lt is one same =
      subst (λ list. k < length list → item ≡ get_or list k item → one ≡ get_or (seen_autos list) k one) (sym begins)
      (λ within at. same ∙ at-map (auto_by auto) (Own auto checks ∷ rest) k item one within at) lt is

  pub checks-at : k < length items → item ≡ get_or items k item → (one : List ℕ) → one ≡ checks_by checks item → one ≡ get_or (seen_checks items) k one
  checks-at lt is one same =
      subst (λ list. k < length list → item ≡ get_or list k item → one ≡ get_or (seen_checks list) k one) (sym begins)
      (λ within at. same ∙ at-map (checks_by checks) (Own auto checks ∷ rest) k item one within at) lt is

-- a list and its first item
pub begins-with : {A : Type 0} (items : List A) (one : A) → slice_get items 0 ≡ Some one → items ≡ one ∷ drop 1 items
begins-with [] one is = absurd (let h = is in cc)
begins-with {A = A} (first ∷ items) one is = ap (λ (o : Option A). unwrap_or o one ∷ items) is

length-map : {A B : Type 0} (f : A → B) (xs : List A) → length (map f xs) ≡ length xs
length-map f [] = refl
length-map f (x ∷ xs) = ap suc (length-map f xs)

pub autos-count : (auto : Auto) (checks : List ℕ) (rest items : List ScannerAuto) → items ≡ Own auto checks ∷ rest
    → (length (seen_autos items) ≡ length items) × (length (seen_checks items) ≡ length items)
autos-count auto checks rest items begins =
    subst (λ list. (length (seen_autos list) ≡ length list) × (length (seen_checks list) ≡ length list)) (sym begins)
    (ap suc (length-map (auto_by auto) rest), ap suc (length-map (checks_by checks) rest))

-- ---- the rule at the end of the input

end_rule-renumbered : (by : ℕ) (patterns : List Pattern) → is_some (end_rule (map (renumbered_pattern by) patterns)) ≡ is_some (end_rule patterns)
end_rule-renumbered by [] = refl
end_rule-renumbered by (pattern ∷ patterns) = either (is_end pattern.kind) (end_rule-renumbered by patterns)
  where
    either : (t : Bool) → is_some (end_rule (map (renumbered_pattern by) patterns)) ≡ is_some (end_rule patterns)
        → is_some (if t then Some (pattern.number + by) else end_rule (map (renumbered_pattern by) patterns))
        ≡ is_some (if t then Some pattern.number else end_rule patterns)
    either true again = refl
    either false again = again

abbrev end_first : List Scanner → Option ℕ
end_first [] = None
end_first (scanner ∷ scanners) = end_rule (patterns_of scanner.set.rules)

end-first : (scanners : List Scanner) (scanner : Scanner) → 0 < length scanners → scanner ≡ get_or scanners 0 scanner
    → end_rule (patterns_of scanner.set.rules) ≡ end_first scanners
end-first [] scanner lt is = absurd (omega (arith, lt))
end-first (first ∷ scanners) scanner lt is = ap (λ (one : Scanner). end_rule (patterns_of one.set.rules)) is

-- where the rules of a scanner are those of the first one but for their numbers, both have one or neither
alike_end : (all : List Scanner) (scanner : Scanner) (by : ℕ) → IsAlike all scanner (AsFirst by)
    → is_some (end_rule (patterns_of scanner.set.rules)) ≡ is_some (end_first all)
alike_end [] scanner by alike = absurd alike
alike_end (first ∷ all) scanner by alike =
    ap (λ patterns. is_some (end_rule patterns)) alike ∙ end_rule-renumbered by (patterns_of first.set.rules)

alike-at : (all scanners : List Scanner) (items : List ScannerAuto) (k : ℕ) (scanner : Scanner) (item : ScannerAuto) → AreAlikeAmong all scanners items
    → k < length scanners → k < length items → scanner ≡ get_or scanners k scanner → item ≡ get_or items k item → IsAlike all scanner item
alike-at all [] items k scanner item alike lt lt_items is is_item = absurd (omega (arith, lt))
alike-at all (one ∷ scanners) [] k scanner item alike lt lt_items is is_item = absurd (omega (arith, lt_items))
alike-at all (one ∷ scanners) (own ∷ items) zero scanner item alike lt lt_items is is_item =
    subst (λ (s : Scanner). IsAlike all s item) (sym is) (subst (λ (i : ScannerAuto). IsAlike all one i) (sym is_item) alike.0)
alike-at all (one ∷ scanners) (own ∷ items) (suc k) scanner item alike lt lt_items is is_item =
    alike-at all scanners items k scanner item alike.1 (omega (arith, lt)) (omega (arith, lt_items)) is is_item

-- ---- the inputs are like the first one

module _ (scanners : List Scanner) (auto : Auto) (checks : List ℕ) where
  -- the input has the first automaton and its checks, and a rule at the end of the input where the first scanner has one
  abbrev IsAs : ScannerInput → Type 0
  IsAs input = (input.auto.now ≡ auto) × (input.checks.now ≡ checks) × (is_some input.end_rule ≡ is_some (end_first scanners))

  -- so has the first one of them, and each that says by how much its numbers are greater
  abbrev pub HaveLike : List ScannerInput → Type 0
  HaveLike [] = Unit {0}
  HaveLike (first ∷ inputs) = (first.by ≡ None) × IsAs first × AllByRecursion (λ (input : ScannerInput). IfSome input.by (λ by. IsAs input)) inputs

  pub AreLike-have : (inputs : List ScannerInput) → HaveLike inputs → AreLike inputs
  AreLike-have [] have = tt
  AreLike-have (first ∷ inputs) have = (have.0, each inputs have.2)
    where
      like : (input : ScannerInput) (by : Option ℕ) → IfSome by (λ one. IsAs input) → IfSome by (λ one. IsLike first input)
      like input None same = tt
      like input (Some by) same = record { auto = same.0 ∙ sym have.1.0; checks = same.1 ∙ sym have.1.1; end_rule = same.2 ∙ sym have.1.2 }

      each : (inputs : List ScannerInput) → AllByRecursion (λ (input : ScannerInput). IfSome input.by (λ by. IsAs input)) inputs
          → AllByRecursion (λ (scanner : ScannerInput). IfSome scanner.by (λ by. IsLike first scanner)) inputs
      each [] same = tt
      each (input ∷ inputs) same = (like input input.by same.0, each inputs same.1)

  have-more : (inputs all : List ScannerInput) (input : ScannerInput) → HaveLike inputs → (inputs ≡ [] → (input.by ≡ None) × IsAs input)
      → IfSome input.by (λ by. IsAs input) → all ≡ inputs ++ input ∷ [] → HaveLike all
  have-more [] all input have first same more = subst HaveLike (sym more) ((first refl).0, (first refl).1, tt)
  have-more (one ∷ inputs) all input have first same more =
      subst HaveLike (sym more)
      (have.0, have.1, each-more (λ (other : ScannerInput). IfSome other.by (λ by. IsAs other)) inputs (inputs ++ input ∷ []) input have.2 same refl)

  module _ (input : ScannerInput) (scanner : Scanner) (item : ScannerAuto) (by_is : input.by ≡ by_of item)
      (auto_is : based input.by input.auto.now ≡ auto_by auto item) (checks_are : input.checks.now ≡ checks_by checks item)
      (end_is : input.end_rule ≡ end_rule (patterns_of scanner.set.rules)) where
    as_first : item ≡ Own auto checks → end_rule (patterns_of scanner.set.rules) ≡ end_first scanners → (input.by ≡ None) × IsAs input
    as_first own end =
        let none : input.by ≡ None = by_is ∙ ap by_of own in (
          none,
          (
            subst (λ (by : Option ℕ). based by input.auto.now ≡ auto) none (auto_is ∙ ap (auto_by auto) own),
            checks_are ∙ ap (checks_by checks) own,
            ap (λ (rule : Option ℕ). is_some rule) (end_is ∙ end),
          ),
        )

    as_alike : (one : ScannerAuto) → IsAlike scanners scanner one → input.by ≡ by_of one → input.checks.now ≡ checks_by checks one
        → IfSome input.by (λ by. input.auto.now ≡ auto) → IfSome input.by (λ by. IsAs input)
    as_alike (Own other list) alike by_one checks_one first = subst (λ (by : Option ℕ). IfSome by (λ _. IsAs input)) (sym by_one) tt
    as_alike (AsFirst by) alike by_one checks_one first =
        subst (λ (by : Option ℕ). IfSome by (λ _. IsAs input)) (sym by_one) (
          subst (λ (by : Option ℕ). IfSome by (λ _. input.auto.now ≡ auto)) by_one first,
          checks_one,
          ap (λ (rule : Option ℕ). is_some rule) end_is ∙ alike_end scanners scanner by alike,
        )

    -- one input more
    pub HaveLike-more : (rest items : List ScannerAuto) (inputs all : List ScannerInput) (k : ℕ) → items ≡ Own auto checks ∷ rest → AreAlike scanners items
        → k < length scanners → k < length items → scanner ≡ get_or scanners k scanner → item ≡ get_or items k item → length inputs ≡ k
        → IfSome input.by (λ by. input.auto.now ≡ auto) → HaveLike inputs → all ≡ inputs ++ input ∷ [] → HaveLike all
    HaveLike-more rest items inputs all k begins alike lt lt_items is is_item count first have more =
        have-more inputs all input have begin
        (as_alike item (alike-at scanners scanners items k scanner item alike lt lt_items is is_item) by_is checks_are first) more
      where
        begin : inputs ≡ [] → (input.by ≡ None) × IsAs input
        begin none =
            let start : k ≡ 0 = sym count ∙ ap (λ (list : List ScannerInput). length list) none in
            as_first (is_item ∙ ap₂ (λ (list : List ScannerAuto) (place : ℕ). get_or list place item) begins start)
            (end-first scanners scanner (subst (λ place. place < length scanners) start lt) (is ∙ ap (λ place. get_or scanners place scanner) start))
