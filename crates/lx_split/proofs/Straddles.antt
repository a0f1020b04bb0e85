-- Where nothing stands across the edge of two texts.
use Rattle.std.proofs.Common.{◌≡◌, ℕ, Bool, true, false, cond, List, [], ◌∷◌, ◌++◌, codes, refl, sym, ◌∙◌, ap, subst, append_assoc, ◌==◌, ◌||◌}
use Rattle.std.specs.List.{AllByRecursion, list_any}
use Rattle.lx_base.specs.Letters.{begins_with}
use Rattle.lx_split.specs.Marks.{begins_mark}

-- the test holds nowhere in the bytes
abbrev pub HasNone : (test : List ℕ → Bool) → List ℕ → Type 0
HasNone test bytes = (front tail : List ℕ) → bytes ≡ front ++ tail → test tail ≡ false

-- whether it holds is told by the bytes before a `/` that does not stand first, and it holds of no such `/` alone
pub record StopsAtSlash (test : List ℕ → Bool) : Type 0 where
  pub never : test [] ≡ false
  pub before_slash : (letter : ℕ) (front back : List ℕ) → test (letter ∷ front ++ 47 ∷ back) ≡ test (letter ∷ front)
  pub longer : (front back : List ℕ) → test front ≡ true → test (front ++ back) ≡ true

begins-before_slash : (needle front back : List ℕ) → list_any (λ letter. letter == 47) needle ≡ false →
    begins_with needle (front ++ 47 ∷ back) ≡ begins_with needle front
begins-before_slash [] front back none = refl
begins-before_slash (letter ∷ needle) [] back none = at (letter == 47) none
  where
    at : (b : Bool) → (b || list_any (λ letter. letter == 47) needle) ≡ false → cond b (begins_with needle back) false ≡ false
    at true none = absurd (cc)
    at false none = refl
begins-before_slash (letter ∷ needle) (other ∷ front) back none =
    at (letter == 47) none (letter == other) (begins-before_slash needle front back)
  where
    at : (b : Bool) → (b || list_any (λ letter. letter == 47) needle) ≡ false → (same : Bool) →
        (list_any (λ letter. letter == 47) needle ≡ false → begins_with needle (front ++ 47 ∷ back) ≡ begins_with needle front) →
        cond same (begins_with needle (front ++ 47 ∷ back)) false ≡ cond same (begins_with needle front) false
    at true none same later = absurd (cc)
    at false none true later = later none
    at false none false later = refl

begins-further : (needle front back : List ℕ) → begins_with needle front ≡ true → begins_with needle (front ++ back) ≡ true
begins-further [] front back begins = refl
begins-further (letter ∷ needle) [] back begins = absurd (cc)
begins-further (letter ∷ needle) (other ∷ front) back begins = at (letter == other) begins (begins-further needle front back)
  where
    at : (same : Bool) → cond same (begins_with needle front) false ≡ true →
        (begins_with needle front ≡ true → begins_with needle (front ++ back) ≡ true) → cond same (begins_with needle (front ++ back)) false ≡ true
    at true begins later = later begins
    at false begins later = absurd (cc)

-- a word behind a `/` has none itself
StopsAtSlash-word : (needle : List ℕ) → list_any (λ letter. letter == 47) needle ≡ false → StopsAtSlash (begins_with (47 ∷ needle))
StopsAtSlash-word needle none = record {
  never = refl;
  before_slash = λ letter front back. at front back (47 == letter);
  longer = begins-further (47 ∷ needle);
}
  where
    at : (front back : List ℕ) (same : Bool) →
        cond same (begins_with needle (front ++ 47 ∷ back)) false ≡ cond same (begins_with needle front) false
    at front back true = begins-before_slash needle front back none
    at front back false = refl

-- one of two tests
StopsAtSlash-or : (one two : List ℕ → Bool) → StopsAtSlash one → StopsAtSlash two → StopsAtSlash (λ text. one text || two text)
StopsAtSlash-or one two first second = record {
  never = rw (first.never, second.never);
  before_slash = λ letter front back. rw (first.before_slash letter front back, second.before_slash letter front back);
  longer = λ front back. at front back (one front) refl;
}
  where
    or-true : (b : Bool) → (b || true) ≡ true
    or-true true = refl
    or-true false = refl

    at : (front back : List ℕ) (b : Bool) → one front ≡ b → (b || two front) ≡ true → (one (front ++ back) || two (front ++ back)) ≡ true
    at front back true is either = rw (first.longer front back is)
    at front back false is either = rw (second.longer front back either) (or-true (one (front ++ back)))

-- one more word, and so on
abbrev or_words : (List ℕ → Bool) → (needles : List (List ℕ)) → List ℕ → Bool
or_words test [] = test
or_words test (needle ∷ needles) = or_words (λ text. test text || begins_with (47 ∷ needle) text) needles

StopsAtSlash-or_words : (test : List ℕ → Bool) (needles : List (List ℕ)) → StopsAtSlash test →
    AllByRecursion (λ needle. list_any (λ letter. letter == 47) needle ≡ false) needles → StopsAtSlash (or_words test needles)
StopsAtSlash-or_words test [] stops none = stops
StopsAtSlash-or_words test (needle ∷ needles) stops none =
    StopsAtSlash-or_words (λ text. test text || begins_with (47 ∷ needle) text) needles
    (StopsAtSlash-or test (begins_with (47 ∷ needle)) stops (StopsAtSlash-word needle none.0)) none.1

pub StopsAtSlash-opening : StopsAtSlash (begins_with (codes "/*!"))
StopsAtSlash-opening = StopsAtSlash-word (codes "*!") refl

pub StopsAtSlash-mark : StopsAtSlash begins_mark
StopsAtSlash-mark =
    StopsAtSlash-or_words (begins_with (codes "/*!begin:re2c"))
    (codes "*!end:re2c" ∷ codes "*!code:re2c" ∷ codes "*!names:re2c" ∷ codes "*!head:re2c" ∷ [])
    (StopsAtSlash-word (codes "*!begin:re2c") refl) (refl, (refl, (refl, (refl, tt))))

module _ (test : List ℕ → Bool) where
  pub HasNone-behind : (front back : List ℕ) → HasNone test (front ++ back) → HasNone test back
  HasNone-behind front back none before tail is =
      none (front ++ before) tail (ap (λ (l : List ℕ). front ++ l) is ∙ sym (append_assoc front before tail))

  -- the bytes behind one at which it does not hold
  pub HasNone-cons : (letter : ℕ) (bytes : List ℕ) → test (letter ∷ bytes) ≡ false → HasNone test bytes → HasNone test (letter ∷ bytes)
  HasNone-cons letter bytes here none [] tail is = subst (λ l. test l ≡ false) is here
  HasNone-cons letter bytes here none (other ∷ front) tail is = none front tail (cc)

  module _ (stops : StopsAtSlash test) where
    pub HasNone-nil : HasNone test []
    HasNone-nil [] tail is = subst (λ l. test l ≡ false) is stops.never
    HasNone-nil (letter ∷ front) tail is = absurd (cc)

    pub HasNone-front : (front back : List ℕ) → HasNone test (front ++ back) → HasNone test front
    HasNone-front front back none before tail is = at (test tail) refl
      where
        at : (b : Bool) → test tail ≡ b → test tail ≡ false
        at false holds = holds
        at true holds =
            let whole = ap (λ (l : List ℕ). l ++ back) is ∙ append_assoc before tail back in
            absurd (let fails = none before (tail ++ back) whole in let held = stops.longer tail back holds in cc)

    -- two texts, of which the second begins with a `/`
    pub HasNone-append : (front back : List ℕ) → HasNone test front → HasNone test (47 ∷ back) → HasNone test (front ++ 47 ∷ back)
    HasNone-append [] back one two = two
    HasNone-append (letter ∷ front) back one two =
        HasNone-cons letter (front ++ 47 ∷ back) (stops.before_slash letter front back ∙ one [] (letter ∷ front) refl)
        (HasNone-append front back (HasNone-behind (letter ∷ []) front one) two)
