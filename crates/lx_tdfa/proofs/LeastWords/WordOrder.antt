-- The order of words.
use Rattle.std.proofs.Common.{◌≡◌, ◌⊎◌, inl, inr, ℕ, ◌<◌, ◌≤◌, List, [], ◌∷◌, ◌++◌, length, refl, sym, ap, ◌∙◌, subst, arith}
use Rattle.std.proofs.lemmas.Bool.{cases_order}
use Rattle.std.proofs.lemmas.List.{length_push}
use Rattle.lx_regex.specs.Dictionary.{IsBefore}
use Rattle.lx_tdfa.specs.Words.{ComesBefore, IsNoLater}

-- ---- words of one length

before-push : (word other : List ℕ) (unit last : ℕ) → length word ≡ length other → IsBefore word other
    → IsBefore (word ++ unit ∷ []) (other ++ last ∷ [])
before-push [] [] unit last same before = absurd before
before-push [] (first ∷ other) unit last same before = absurd (omega arith)
before-push (first ∷ word) [] unit last same before = absurd (omega arith)
before-push (first ∷ word) (second ∷ other) unit last same (inl less) = inl less
before-push (first ∷ word) (second ∷ other) unit last same (inr (equal, later)) =
    inr (equal, before-push word other unit last (omega arith) later)

before-last : (word : List ℕ) (unit last : ℕ) → unit < last → IsBefore (word ++ unit ∷ []) (word ++ last ∷ [])
before-last [] unit last less = inl less
before-last (first ∷ word) unit last less = inr (refl, before-last word unit last less)

before-trans : (word middle other : List ℕ) → IsBefore word middle → IsBefore middle other → IsBefore word other
before-trans [] [] other one two = absurd one
before-trans [] (m ∷ middle) [] one two = absurd two
before-trans [] (m ∷ middle) (o ∷ other) one two = tt
before-trans (w ∷ word) [] other one two = absurd one
before-trans (w ∷ word) (m ∷ middle) [] one two = absurd two
before-trans (w ∷ word) (m ∷ middle) (o ∷ other) (inl one) (inl two) = inl (omega arith)
before-trans (w ∷ word) (m ∷ middle) (o ∷ other) (inl one) (inr (same, two)) = inl (omega arith)
before-trans (w ∷ word) (m ∷ middle) (o ∷ other) (inr (same, one)) (inl two) = inl (omega arith)
before-trans (w ∷ word) (m ∷ middle) (o ∷ other) (inr (same, one)) (inr (equal, two)) =
    inr (same ∙ equal, before-trans word middle other one two)

before-itself : (word : List ℕ) → IsBefore word word → ⊥
before-itself [] before = before
before-itself (first ∷ word) (inl less) = omega arith
before-itself (first ∷ word) (inr (same, before)) = before-itself word before

before-or : (word other : List ℕ) → length word ≡ length other → IsBefore word other ⊎ ((word ≡ other) ⊎ IsBefore other word)
before-or [] [] same = inr (inl refl)
before-or [] (o ∷ other) same = absurd (omega arith)
before-or (w ∷ word) [] same = absurd (omega arith)
before-or (w ∷ word) (o ∷ other) same = at (cases_order w o) (before-or word other (omega arith))
  where
    at : (w ≡ o) ⊎ ((w < o) ⊎ (o < w)) → IsBefore word other ⊎ ((word ≡ other) ⊎ IsBefore other word)
        → IsBefore (w ∷ word) (o ∷ other) ⊎ ((w ∷ word ≡ o ∷ other) ⊎ IsBefore (o ∷ other) (w ∷ word))
    at (inl equal) (inl before) = inl (inr (equal, before))
    at (inl equal) (inr (inl rest)) = inr (inl (cc))
    at (inl equal) (inr (inr behind)) = inr (inr (inr (sym equal, behind)))
    at (inr (inl less)) rest = inl (inl less)
    at (inr (inr more)) rest = inr (inr (inl more))

-- ---- all words

pub comes-push : (word other : List ℕ) (unit last : ℕ) → ComesBefore word other → ComesBefore (word ++ unit ∷ []) (other ++ last ∷ [])
comes-push word other unit last (inl less) =
    let one = length_push word unit in let two = length_push other last in inl (omega (arith, one, two))
comes-push word other unit last (inr (same, before)) =
    let one = length_push word unit in
    let two = length_push other last in
    inr (omega (arith, one, two), before-push word other unit last same before)

pub comes-last : (word : List ℕ) (unit last : ℕ) → unit < last → ComesBefore (word ++ unit ∷ []) (word ++ last ∷ [])
comes-last word unit last less =
    let one = length_push word unit in
    let two = length_push word last in
    inr (omega (arith, one, two), before-last word unit last less)

pub comes-trans : (word middle other : List ℕ) → ComesBefore word middle → ComesBefore middle other → ComesBefore word other
comes-trans word middle other (inl one) (inl two) = inl (omega arith)
comes-trans word middle other (inl one) (inr (same, two)) = inl (omega arith)
comes-trans word middle other (inr (same, one)) (inl two) = inl (omega arith)
comes-trans word middle other (inr (same, one)) (inr (equal, two)) = inr (same ∙ equal, before-trans word middle other one two)

pub comes-itself : (word : List ℕ) → ComesBefore word word → ⊥
comes-itself word (inl less) = omega arith
comes-itself word (inr (same, before)) = before-itself word before

pub comes-or : (word other : List ℕ) → ComesBefore word other ⊎ IsNoLater other word
comes-or word other = at (cases_order (length word) (length other))
  where
    equal : length word ≡ length other → IsBefore word other ⊎ ((word ≡ other) ⊎ IsBefore other word) → ComesBefore word other ⊎ IsNoLater other word
    equal same (inl before) = inl (inr (same, before))
    equal same (inr (inl alike)) = inr (inr (sym alike))
    equal same (inr (inr behind)) = inr (inl (inr (sym same, behind)))

    at : (length word ≡ length other) ⊎ ((length word < length other) ⊎ (length other < length word))
        → ComesBefore word other ⊎ IsNoLater other word
    at (inl same) = equal same (before-or word other same)
    at (inr (inl less)) = inl (inl less)
    at (inr (inr more)) = inr (inl (inl more))

pub no_later-before : (word middle other : List ℕ) → IsNoLater word middle → ComesBefore middle other → ComesBefore word other
no_later-before word middle other (inl one) two = comes-trans word middle other one two
no_later-before word middle other (inr same) two = subst (λ w. ComesBefore w other) (sym same) two

pub no_later-trans : (word middle other : List ℕ) → IsNoLater word middle → IsNoLater middle other → IsNoLater word other
no_later-trans word middle other one (inl two) = inl (no_later-before word middle other one two)
no_later-trans word middle other one (inr same) = subst (λ w. IsNoLater word w) same one

pub no_later-push : (word other : List ℕ) (unit : ℕ) → IsNoLater word other → IsNoLater (word ++ unit ∷ []) (other ++ unit ∷ [])
no_later-push word other unit (inl before) = inl (comes-push word other unit unit before)
no_later-push word other unit (inr same) = inr (ap (λ w. w ++ unit ∷ []) same)

-- the same word, followed by no greater a unit
pub no_later-last : (word : List ℕ) (unit last : ℕ) → unit ≤ last → IsNoLater (word ++ unit ∷ []) (word ++ last ∷ [])
no_later-last word unit last most = at (cases_order unit last)
  where
    at : (unit ≡ last) ⊎ ((unit < last) ⊎ (last < unit)) → IsNoLater (word ++ unit ∷ []) (word ++ last ∷ [])
    at (inl same) = inr (ap (λ u. word ++ u ∷ []) same)
    at (inr (inl less)) = inl (comes-last word unit last less)
    at (inr (inr more)) = absurd (omega arith)

pub no_later-never : (word other : List ℕ) → IsNoLater word other → ComesBefore other word → ⊥
no_later-never word other least before = comes-itself word (no_later-before word other word least before)

-- the empty word is no later than any
pub empty-no_later : (word : List ℕ) → IsNoLater [] word
empty-no_later [] = inr refl
empty-no_later (unit ∷ word) = inl (inl (omega arith))
