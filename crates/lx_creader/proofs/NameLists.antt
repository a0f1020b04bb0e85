-- Lists of different names.
use Rattle.std.proofs.Common.{◌≡◌, ◌∙◌, sym, ap, subst, refl, ℕ, zero, suc, ◌+◌, ◌<◌, Bool, true, false, ◌||◌, List, [], ◌∷◌, ◌++◌, map, length, take, drop, get_or, arith}
use Rattle.std.specs.Bool.{MatchBool}
use Rattle.std.specs.List.{list_any}
use Rattle.std.proofs.lemmas.Bool.{false≢true}
use Rattle.lx_base.specs.Names.{AreDistinct, IsNoneOf}
use Rattle.lx_base.specs.Letters.{equal_words}
use Rattle.lx_ccode.proofs.Words.{equal_words-self, equal_words-true}

-- ---- different names

or-false : (a b : Bool) → (a || b) ≡ false → (a ≡ false) × (b ≡ false)
or-false true b e = absurd cc
or-false false b e = (refl, e)

IsNoneOf-more : (first word : List ℕ) (words : List (List ℕ)) → IsNoneOf first words → equal_words word first ≡ false → IsNoneOf first (words ++ word ∷ [])
IsNoneOf-more first word [] none e = (λ same. false≢true (sym e ∙ ap (equal_words word) same ∙ equal_words-self word), tt)
IsNoneOf-more first word (other ∷ words) none e = (none.0, IsNoneOf-more first word words none.1 e)

-- one more, which is none of the others
pub AreDistinct-more : (words : List (List ℕ)) (word : List ℕ) → AreDistinct words → list_any (equal_words word) words ≡ false → AreDistinct (words ++ word ∷ [])
AreDistinct-more [] word distinct e = (tt, tt)
AreDistinct-more (first ∷ words) word distinct e =
    let tests : (equal_words word first ≡ false) × (list_any (equal_words word) words ≡ false) = or-false (equal_words word first) (list_any (equal_words word) words) e in
    (IsNoneOf-more first word words distinct.0 tests.0, AreDistinct-more words word distinct.1 tests.1)

IsNoneOf-among : (first word : List ℕ) (words others : List (List ℕ)) → IsNoneOf first (words ++ word ∷ others) → first ≡ word → ⊥
IsNoneOf-among first word [] others none = none.0
IsNoneOf-among first word (other ∷ words) others none = IsNoneOf-among first word words others none.1

-- none of them is among those before it
pub AreDistinct-once : (words others : List (List ℕ)) (word : List ℕ) → AreDistinct (words ++ word ∷ others) → list_any (equal_words word) words ≡ true → ⊥
AreDistinct-once [] others word distinct e = false≢true e
AreDistinct-once (first ∷ words) others word distinct e = by (equal_words word first) refl e (AreDistinct-once words others word distinct.1) where
  by : (test : Bool) → equal_words word first ≡ test → (test || list_any (equal_words word) words) ≡ true → (list_any (equal_words word) words ≡ true → ⊥) → ⊥
  by true is e later = IsNoneOf-among first word words others distinct.0 (sym (equal_words-true word first is))
  by false is e later = later e

-- ---- the conditions of cases, one by one

split-at : {A B : Type 0} (f : A → B) (items : List A) (place : ℕ) (item : A) → place < length items → item ≡ get_or items place item
    → map f items ≡ map f (take place items) ++ f item ∷ map f (drop (suc place) items)
split-at f [] place item h is = absurd (omega (arith, h))
split-at f (first ∷ items) zero item h is = ap (λ one. f one ∷ map f items) (sym is)
split-at f (first ∷ items) (suc place) item h is = ap (λ rest. f first ∷ rest) (split-at f items place item (omega (arith, h)) is)

more-at : {A B : Type 0} (f : A → B) (items : List A) (place : ℕ) (item : A) → place < length items → item ≡ get_or items place item
    → map f (take (suc place) items) ≡ map f (take place items) ++ f item ∷ []
more-at f [] place item h is = absurd (omega (arith, h))
more-at f (first ∷ items) zero item h is = ap (λ one. f one ∷ []) (sym is)
more-at f (first ∷ items) (suc place) item h is = ap (λ rest. f first ∷ rest) (more-at f items place item (omega (arith, h)) is)

-- the name at a place was put to those before it, or was one of them
abbrev WasAdded : (words after : List (List ℕ)) → (word : List ℕ) → (new : Bool) → Type 0
WasAdded words after word new = MatchBool new
    ((list_any (equal_words word) words ≡ false) × (after ≡ words ++ word ∷ []))
    ((list_any (equal_words word) words ≡ true) × (after ≡ words))

pub AreDistinct-refused : {A : Type 0} (f : A → List ℕ) (items : List A) (place : ℕ) (item : A) (words after : List (List ℕ)) (word : List ℕ) (new : Bool)
    → place < length items → item ≡ get_or items place item → word ≡ f item → words ≡ map f (take place items) → new ≡ false → WasAdded words after word new
    → AreDistinct (map f items) → ⊥
AreDistinct-refused f items place item words after word true h is named all e added distinct = absurd cc
AreDistinct-refused f items place item words after word false h is named all e added distinct =
    AreDistinct-once (map f (take place items)) (map f (drop (suc place) items)) (f item) (subst (λ (list : List (List ℕ)). AreDistinct list) (split-at f items place item h is) distinct)
    (subst (λ (list : List (List ℕ)). list_any (equal_words (f item)) list ≡ true) all (subst (λ (one : List ℕ). list_any (equal_words one) words ≡ true) named added.0))

pub AreDistinct-added : {A : Type 0} (f : A → List ℕ) (items : List A) (place : ℕ) (item : A) (words after : List (List ℕ)) (word : List ℕ) (new : Bool)
    → place < length items → item ≡ get_or items place item → word ≡ f item → words ≡ map f (take place items) → new ≡ true → WasAdded words after word new
    → AreDistinct words → (after ≡ map f (take (place + 1) items)) × AreDistinct after
AreDistinct-added f items place item words after word false h is named all e added distinct = absurd cc
AreDistinct-added f items place item words after word true h is named all e added distinct =
    let next : suc place ≡ place + 1 = omega arith in (
      added.1 ∙ ap (λ list. list ++ word ∷ []) all ∙ ap (λ one. map f (take place items) ++ one ∷ []) named ∙ sym (more-at f items place item h is)
          ∙ ap (λ n. map f (take n items)) next,
      subst (λ (list : List (List ℕ)). AreDistinct list) (sym added.1) (AreDistinct-more words word distinct added.0),
    )
