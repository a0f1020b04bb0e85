-- The names of conditions.
use Rattle.std.proofs.Common.{◌≡◌, ◌≢◌, ℕ, Bool, true, false, inl, inr, List, [], ◌∷◌, ◌++◌, refl, sym, ap, ◌∙◌, append-nil, append_assoc}
use Rattle.std.specs.Prelude.{◌||◌, if◌then◌else◌}
use Rattle.std.specs.List.{AllByRecursion, list_any}
use Rattle.std.specs.Str.{bytes_eq}
use Rattle.std.proofs.lemmas.Slice.Eq.{bytes_eq-Decides}
use Rattle.lx_exprs.specs.Checks.{is_among}
use Rattle.lx_rules.specs.Blocks.{add_conds, conditions_behind, conditions_of, every}
use Rattle.lx_rules.specs.Conditions.{AreConds}
use Rattle.lx_rules.specs.Rules.{RuleOf}

pub bytes_eq-refl : (name : List ℕ) → bytes_eq name name ≡ true
bytes_eq-refl name = (bytes_eq-Decides name name).1 refl

-- equality of names goes both ways
pub bytes_eq-sym : (name other : List ℕ) → bytes_eq name other ≡ bytes_eq other name
bytes_eq-sym name other = at (bytes_eq name other) (bytes_eq other name) refl refl
  where
    at : (one two : Bool) → bytes_eq name other ≡ one → bytes_eq other name ≡ two → one ≡ two
    at true true e f = refl
    at false false e f = refl
    at true false e f =
        let same : name ≡ other = (bytes_eq-Decides name other).0 e in sym (sym f ∙ ap (bytes_eq other) same ∙ bytes_eq-refl other)
    at false true e f =
        let same : other ≡ name = (bytes_eq-Decides other name).0 f in sym e ∙ ap (bytes_eq name) same ∙ bytes_eq-refl name

-- names that are not the same
pub bytes_eq-apart : (name other : List ℕ) → name ≢ other → bytes_eq name other ≡ false
bytes_eq-apart name other apart = at (bytes_eq name other) refl
  where
    at : (test : Bool) → bytes_eq name other ≡ test → test ≡ false
    at true e = absurd (apart ((bytes_eq-Decides name other).0 e))
    at false e = refl

-- a name among two lists of names
pub is_among-append : (name : List ℕ) (front back : List (List ℕ)) → is_among name (front ++ back) ≡ (is_among name front || is_among name back)
is_among-append name [] back = refl
is_among-append name (other ∷ front) back = at (bytes_eq name other) (is_among-append name front back)
  where
    at : (test : Bool) → is_among name (front ++ back) ≡ (is_among name front || is_among name back)
        → (test || is_among name (front ++ back)) ≡ ((test || is_among name front) || is_among name back)
    at true later = refl
    at false later = later

-- the first of some names is among them
pub is_among-here : (name : List ℕ) (names : List (List ℕ)) → is_among name (name ∷ names) ≡ true
is_among-here name names = ap (λ b. b || is_among name names) (bytes_eq-refl name)

pub is_among-there : (name other : List ℕ) (names : List (List ℕ)) → is_among name names ≡ true → is_among name (other ∷ names) ≡ true
is_among-there name other names is = at (bytes_eq name other)
  where
    at : (test : Bool) → (test || is_among name names) ≡ true
    at true = refl
    at false = is

-- one of some names is the name that one of them is
pub list_any-one : (name : List ℕ) (names : List (List ℕ)) → list_any (λ other. is_among other (name ∷ [])) names ≡ is_among name names
list_any-one name [] = refl
list_any-one name (other ∷ names) = at (bytes_eq other name) (bytes_eq name other) (bytes_eq-sym other name) (list_any-one name names)
  where
    at : (one two : Bool) → one ≡ two → list_any (λ other. is_among other (name ∷ [])) names ≡ is_among name names
        → ((one || false) || list_any (λ other. is_among other (name ∷ [])) names) ≡ (two || is_among name names)
    at true true e later = refl
    at false false e later = later
    at true false e later = absurd (let h : true ≡ false = e in cc)
    at false true e later = absurd (let h : false ≡ true = e in cc)

-- what holds of a name among others holds of one of them
pub list_any-among : (test : List ℕ → Bool) (name : List ℕ) (names : List (List ℕ)) → is_among name names ≡ true → test name ≡ true → list_any test names ≡ true
list_any-among test name [] among is = absurd (let h : false ≡ true = among in cc)
list_any-among test name (other ∷ names) among is =
    at (bytes_eq name other) refl (test other) refl among (λ later. list_any-among test name names later is)
  where
    at : (b : Bool) → bytes_eq name other ≡ b → (t : Bool) → test other ≡ t → (b || is_among name names) ≡ true
        → (is_among name names ≡ true → list_any test names ≡ true) → (t || list_any test names) ≡ true
    at b e true f found later = refl
    at true e false f found later =
        let h : false ≡ true = sym f ∙ ap test (sym ((bytes_eq-Decides name other).0 e)) ∙ is in absurd (cc)
    at false e false f found later = later found

-- names are appended to those that are there
pub add_conds-front : (conds seen : List (List ℕ)) → (more : List (List ℕ)) × (add_conds conds seen ≡ seen ++ more)
add_conds-front [] seen = ([], sym (append-nil seen))
add_conds-front (cond ∷ conds) seen = at (is_among cond (every ∷ seen)) (add_conds-front conds seen) (add_conds-front conds (seen ++ cond ∷ []))
  where
    at : (test : Bool) → (more : List (List ℕ)) × (add_conds conds seen ≡ seen ++ more)
        → (more : List (List ℕ)) × (add_conds conds (seen ++ cond ∷ []) ≡ (seen ++ cond ∷ []) ++ more)
        → (more : List (List ℕ)) × ((if test then add_conds conds seen else add_conds conds (seen ++ cond ∷ [])) ≡ seen ++ more)
    at true here there = here
    at false here there = (cond ∷ there.0, there.1 ∙ append_assoc seen (cond ∷ []) there.0)

-- those of two lists, one behind the other
pub add_conds-append : (front back seen : List (List ℕ)) → add_conds (front ++ back) seen ≡ add_conds back (add_conds front seen)
add_conds-append [] back seen = refl
add_conds-append (cond ∷ front) back seen =
    at (is_among cond (every ∷ seen)) (add_conds-append front back seen) (add_conds-append front back (seen ++ cond ∷ []))
  where
    at : (test : Bool) → add_conds (front ++ back) seen ≡ add_conds back (add_conds front seen)
        → add_conds (front ++ back) (seen ++ cond ∷ []) ≡ add_conds back (add_conds front (seen ++ cond ∷ []))
        → (if test then add_conds (front ++ back) seen else add_conds (front ++ back) (seen ++ cond ∷ []))
        ≡ add_conds back (if test then add_conds front seen else add_conds front (seen ++ cond ∷ []))
    at true here there = here
    at false here there = there

conditions_behind-snoc : (seen : List (List ℕ)) (rules : List RuleOf) (rule : RuleOf)
    → conditions_behind seen (rules ++ rule ∷ []) ≡ add_conds rule.conds (conditions_behind seen rules)
conditions_behind-snoc seen [] rule = refl
conditions_behind-snoc seen (first ∷ rules) rule = conditions_behind-snoc (add_conds first.conds seen) rules rule

-- one rule more
pub conditions_of-snoc : (rules : List RuleOf) (rule : RuleOf) → conditions_of (rules ++ rule ∷ []) ≡ add_conds rule.conds (conditions_of rules)
conditions_of-snoc rules rule = conditions_behind-snoc [] rules rule

-- no condition has the name of `<*>`
abbrev pub AreOthers : List (List ℕ) → Type 0
AreOthers conds = AllByRecursion (λ cond. cond ≢ every) conds

others-snoc : (seen : List (List ℕ)) (cond : List ℕ) → AreOthers seen → cond ≢ every → AreOthers (seen ++ cond ∷ [])
others-snoc [] cond are is = (is, tt)
others-snoc (first ∷ seen) cond are is = (are.0, others-snoc seen cond are.1 is)

not_every : (cond : List ℕ) (seen : List (List ℕ)) → is_among cond (every ∷ seen) ≡ false → cond ≢ every
not_every cond seen none same = let h : true ≡ false = sym (is_among-here every seen) ∙ ap (λ c. is_among c (every ∷ seen)) (sym same) ∙ none in cc

add_conds-others : (conds seen : List (List ℕ)) → AreOthers seen → AreOthers (add_conds conds seen)
add_conds-others [] seen are = are
add_conds-others (cond ∷ conds) seen are =
    at (is_among cond (every ∷ seen)) refl (add_conds-others conds seen are) (add_conds-others conds (seen ++ cond ∷ []))
  where
    at : (test : Bool) → is_among cond (every ∷ seen) ≡ test → AreOthers (add_conds conds seen)
        → (AreOthers (seen ++ cond ∷ []) → AreOthers (add_conds conds (seen ++ cond ∷ [])))
        → AreOthers (if test then add_conds conds seen else add_conds conds (seen ++ cond ∷ []))
    at true e here there = here
    at false e here there = there (others-snoc seen cond are (not_every cond seen e))

conditions_behind-others : (seen : List (List ℕ)) (rules : List RuleOf) → AreOthers seen → AreOthers (conditions_behind seen rules)
conditions_behind-others seen [] are = are
conditions_behind-others seen (rule ∷ rules) are = conditions_behind-others (add_conds rule.conds seen) rules (add_conds-others rule.conds seen are)

pub conditions_of-others : (rules : List RuleOf) → AreOthers (conditions_of rules)
conditions_of-others rules = conditions_behind-others [] rules tt

-- a rule has not both a condition and that of `<*>`
pub conds_apart : (conds : List (List ℕ)) (cond : List ℕ) → AreConds conds → cond ≢ every → is_among cond conds ≡ true → is_among every conds ≡ true → ⊥
conds_apart conds cond (inl alone) other here shared =
    let found : is_among cond (every ∷ []) ≡ true = ap (is_among cond) (sym alone) ∙ here in
    let none : is_among cond (every ∷ []) ≡ false = ap (λ b. b || false) (bytes_eq-apart cond every other) in
    let h : false ≡ true = sym none ∙ found in cc
conds_apart conds cond (inr none) other here shared = let h : false ≡ true = sym none ∙ shared in cc
