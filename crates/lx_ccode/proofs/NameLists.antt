-- Lists of names.
use Rattle.std.proofs.Common.{◌≡◌, ◌∙◌, sym, ap, refl, ℕ, zero, suc, ◌<◌, Bool, true, false, ◌||◌, List, [], ◌∷◌, ◌++◌, map, length, get_or, Option, Some, None, position, is_some, not, if◌then◌else◌, arith}
use Rattle.std.specs.Bool.{MatchBool}
use Rattle.std.specs.Option.{option_map}
use Rattle.std.specs.List.{list_any}
use Rattle.std.specs.Str.{bytes_eq}
use Rattle.std.proofs.lemmas.Bool.{false≢true}
use Rattle.std.proofs.lemmas.List.{map-append}
use Rattle.std.proofs.lemmas.List.Quantifiers.{position-Some}
use Rattle.std.proofs.lemmas.Slice.Eq.{bytes_eq-Decides}
use Rattle.lx_base.specs.Letters.{equal_words}
use Rattle.lx_ccode.proofs.Words.{equal_words-self, equal_words-true}
use Rattle.lx_ccode.specs.NameSets.{first_place}

-- ---- equal words, and one name more

equal_words-bytes_eq : (word other : List ℕ) → bytes_eq word other ≡ equal_words word other
equal_words-bytes_eq word other = by (bytes_eq word other) (equal_words word other) refl refl where
  by : (a b : Bool) → bytes_eq word other ≡ a → equal_words word other ≡ b → a ≡ b
  by true true p q = refl
  by true false p q = let same : word ≡ other = (bytes_eq-Decides word other).0 p in sym (sym (ap (equal_words word) same) ∙ equal_words-self word) ∙ q
  by false true p q = sym p ∙ (bytes_eq-Decides word other).1 (equal_words-true word other q)
  by false false p q = refl

pub list_any-bytes_eq : {K : Type 0} (items : K → List ℕ) (word : List ℕ) (keys : List K)
    → list_any (λ key. bytes_eq word (items key)) keys ≡ list_any (equal_words word) (map items keys)
list_any-bytes_eq items word [] = refl
list_any-bytes_eq items word (key ∷ keys) =
    ap (λ (test : Bool). test || list_any (λ key. bytes_eq word (items key)) keys) (equal_words-bytes_eq word (items key))
    ∙ ap (λ (rest : Bool). equal_words word (items key) || rest) (list_any-bytes_eq items word keys)

-- a name that was added, or not
pub name_added : {K : Type 0} (items : K → List ℕ) (keys after : List K) (name : K) (word : List ℕ) (new : Bool) → items name ≡ word
    → new ≡ not (list_any (λ key. bytes_eq (items name) (items key)) keys)
    → after ≡ (if list_any (λ key. bytes_eq (items name) (items key)) keys then keys else keys ++ name ∷ [])
    → MatchBool new
    ((list_any (equal_words word) (map items keys) ≡ false) × (map items after ≡ map items keys ++ word ∷ []))
    ((list_any (equal_words word) (map items keys) ≡ true) × (map items after ≡ map items keys))
name_added items keys after name word new named is put = by (list_any (λ key. bytes_eq (items name) (items key)) keys) refl is put where
  same : list_any (λ key. bytes_eq (items name) (items key)) keys ≡ list_any (equal_words word) (map items keys)
  same = list_any-bytes_eq items (items name) keys ∙ ap (λ one. list_any (equal_words one) (map items keys)) named

  by : (test : Bool) → list_any (λ key. bytes_eq (items name) (items key)) keys ≡ test → new ≡ not test → after ≡ (if test then keys else keys ++ name ∷ [])
      → MatchBool new
      ((list_any (equal_words word) (map items keys) ≡ false) × (map items after ≡ map items keys ++ word ∷ []))
      ((list_any (equal_words word) (map items keys) ≡ true) × (map items after ≡ map items keys))
  by true test new put = rw new (sym same ∙ test, ap (map items) put)
  by false test new put = rw new (sym same ∙ test, ap (map items) put ∙ map-append items keys (name ∷ []) ∙ ap (λ one. map items keys ++ one ∷ []) named)

-- ---- the first place of a name

equal_words-turned : (word other : List ℕ) → bytes_eq other word ≡ equal_words word other
equal_words-turned word other = by (bytes_eq other word) (equal_words word other) refl refl where
  by : (a b : Bool) → bytes_eq other word ≡ a → equal_words word other ≡ b → a ≡ b
  by true true p q = refl
  by true false p q = let same : other ≡ word = (bytes_eq-Decides other word).0 p in sym (ap (equal_words word) same ∙ equal_words-self word) ∙ q
  by false true p q = sym p ∙ (bytes_eq-Decides other word).1 (sym (equal_words-true word other q))
  by false false p q = refl

first_place-none : {K : Type 0} (items : K → List ℕ) (tag : List ℕ) (keys : List K) → list_any (λ key. bytes_eq tag (items key)) keys ≡ false → first_place (map items keys) tag ≡ None
first_place-none items tag [] e = refl
first_place-none items tag (key ∷ keys) e = by (bytes_eq tag (items key)) refl e (first_place-none items tag keys) where
  by : (test : Bool) → bytes_eq tag (items key) ≡ test → (list_any (λ key. bytes_eq tag (items key)) (key ∷ keys)) ≡ false
      → (list_any (λ key. bytes_eq tag (items key)) keys ≡ false → first_place (map items keys) tag ≡ None) → first_place (map items (key ∷ keys)) tag ≡ None
  by true is e later = absurd (false≢true (sym (rw is at e)))
  by false is e later = rw (sym (equal_words-turned (items key) tag) ∙ is) (ap (option_map suc) (later (rw is at e)))

place-from : {K : Type 0} (items : K → List ℕ) (tag : List ℕ) (keys : List K) (i : ℕ) (none : K) → i < length keys → bytes_eq tag (items (get_or keys i none)) ≡ true
    → ((k : ℕ) → k < i → bytes_eq tag (items (get_or keys k none)) ≡ false) → first_place (map items keys) tag ≡ Some i
place-from items tag [] i none h here before = absurd (omega (arith, h))
place-from items tag (key ∷ keys) zero none h here before = rw (sym (equal_words-turned (items key) tag) ∙ here) refl
place-from items tag (key ∷ keys) (suc i) none h here before =
    rw (sym (equal_words-turned (items key) tag) ∙ before 0 (omega arith))
    (ap (option_map suc) (place-from items tag keys i none (omega (arith, h)) here (λ k lt. before (suc k) (omega (arith, lt)))))

pub place_is : {K : Type 0} (items : K → List ℕ) (tag : List ℕ) (keys : List K) (found : Option ℕ) → found ≡ position (λ key. bytes_eq tag (items key)) keys
    → is_some found ≡ list_any (λ key. bytes_eq tag (items key)) keys → found ≡ first_place (map items keys) tag
place_is items tag keys None e some = sym (first_place-none items tag keys (sym some))
place_is items tag [] (Some i) e some = absurd cc
place_is items tag (key ∷ keys) (Some i) e some =
    let facts = position-Some (λ key. bytes_eq tag (items key)) (key ∷ keys) i key (sym e) in
    sym (place-from items tag (key ∷ keys) i key facts.0 facts.1 facts.2)

later-none : (found : Option ℕ) → option_map suc found ≡ None → found ≡ None
later-none None e = refl
later-none (Some i) e = absurd cc

list_any-none : {K : Type 0} (items : K → List ℕ) (tag : List ℕ) (keys : List K) → first_place (map items keys) tag ≡ None → list_any (λ key. bytes_eq tag (items key)) keys ≡ false
list_any-none items tag [] e = refl
list_any-none items tag (key ∷ keys) e = by (equal_words (items key) tag) refl e (list_any-none items tag keys) where
  by : (test : Bool) → equal_words (items key) tag ≡ test → first_place (map items (key ∷ keys)) tag ≡ None
      → (first_place (map items keys) tag ≡ None → list_any (λ key. bytes_eq tag (items key)) keys ≡ false) → list_any (λ key. bytes_eq tag (items key)) (key ∷ keys) ≡ false
  by true is e later = let clash : Some 0 ≡ None = rw is at e in absurd cc
  by false is e later = rw (equal_words-turned (items key) tag ∙ is) (later (later-none (first_place (map items keys) tag) (rw is at e)))

-- a name that is none of the others was put behind them
pub name_put : {K : Type 0} (items : K → List ℕ) (keys after : List K) (name : K) (tag : List ℕ) → items name ≡ tag
    → after ≡ (if list_any (λ key. bytes_eq (items name) (items key)) keys then keys else keys ++ name ∷ []) → first_place (map items keys) tag ≡ None
    → map items after ≡ map items keys ++ tag ∷ []
name_put items keys after name tag named put none =
    let absent : list_any (λ key. bytes_eq (items name) (items key)) keys ≡ false =
    ap (λ word. list_any (λ key. bytes_eq word (items key)) keys) named ∙ list_any-none items tag keys none in
    ap (map items) (put ∙ ap (λ (test : Bool). if test then keys else keys ++ name ∷ []) absent) ∙ map-append items keys (name ∷ []) ∙ ap (λ word. map items keys ++ word ∷ []) named
