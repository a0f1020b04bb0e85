-- Rules have one cover, and one first sum that is over a limit; and not both, where the cover is within it.
use Rattle.std.proofs.Common.{◌≡◌, ◌⊎◌, inl, inr, ℕ, zero, suc, ◌+◌, ◌<◌, ◌≤◌, List, [], ◌∷◌, ◌++◌, length, get_or, sym, ap, ◌∙◌, subst, arith}
use Rattle.std.proofs.lemmas.Bool.{cases_lt, cases_order}
use Rattle.std.proofs.lemmas.List.{get_or_append_left, get_or_default, length_push}
use Rattle.std.proofs.lemmas.List.Elements.{Contains-get_or}
use Rattle.std.proofs.lemmas.List.Sums.{sum_by-cons}
use Rattle.std.specs.Prelude.{Contains, sum_by}
use Rattle.lx_base.specs.declared.settings.Enc.{Enc}
use Rattle.lx_regex.specs.Term.{Term}
use Rattle.lx_tdfa.proofs.LeastWords.WordOrder.{comes-itself, comes-or, comes-trans}
use Rattle.lx_tdfa.specs.Words.{ComesBefore}
use Rattle.lx_cover.specs.Cover.{AreFirst, IsCover, IsFirstSumOver}

abbrev Words : Type 0
Words = List (List ℕ)

-- the word at a place
abbrev at : Words → ℕ → List ℕ
at words place = get_or words place []

-- ---- sums

-- the second list has the words of the first at their places
abbrev IsFrontOf : Words → Words → Type 0
IsFrontOf words others = (length words ≤ length others) × ((place : ℕ) → place < length words → at words place ≡ at others place)

sum-front : (words others : Words) → IsFrontOf words others → sum_by length words ≤ sum_by length others
sum-front [] others front = omega arith
sum-front (word ∷ words) [] front = absurd (omega (arith, front.0))
sum-front (word ∷ words) (other ∷ others) front =
    let same : word ≡ other = front.1 0 (omega arith) in
    let equal : length word ≡ length other = ap length same in
    let rest : sum_by length words ≤ sum_by length others =
    sum-front words others (omega (arith, front.0), λ place lt. front.1 (suc place) (omega (arith, lt))) in
    let one : sum_by length (word ∷ words) ≡ length word + sum_by length words = sum_by-cons (λ w. length w) word words in
    let two : sum_by length (other ∷ others) ≡ length other + sum_by length others = sum_by-cons (λ w. length w) other others in
    omega (arith, equal, rest, one, two)

module _ (enc : Enc) (rules : List Term) where
  -- ---- lists of first words

  -- a covering word that comes before a word of the list stands in it
  standing : (words : Words) → AreFirst enc rules words → (word : List ℕ) (place : ℕ) → Contains words word → place < length words
      → ComesBefore word (at words place) → (own : ℕ) × (own < place) × (at words own ≡ word)
  standing words are word place has lt before = by (cases_order own place)
    where
      own : ℕ
      own = has.0

      is : at words own ≡ word
      is = get_or_default words own [] word has.1 ∙ has.2

      by : (own ≡ place) ⊎ ((own < place) ⊎ (place < own)) → (own : ℕ) × (own < place) × (at words own ≡ word)
      by (inl same) = absurd (comes-itself word (subst (ComesBefore word) (sym (ap (at words) same) ∙ is) before))
      by (inr (inl less)) = (own, less, is)
      by (inr (inr more)) =
          absurd (comes-itself word (comes-trans word (at words place) word before
          (subst (ComesBefore (at words place)) is (are.order place own [] more has.1))))

  module _ (words others : Words) (are : AreFirst enc rules words) (are_other : AreFirst enc rules others) where
    -- where two of them have the same words before a place, they have so there
    agree-at : (place : ℕ) → place < length words → place < length others → ((own : ℕ) → own < place → at words own ≡ at others own)
        → at words place ≡ at others place
    agree-at place lt lt_other earlier = by (comes-or (at words place) (at others place))
      where
        has : Contains words (at words place)
        has = Contains-get_or words place [] lt

        has_other : Contains others (at others place)
        has_other = Contains-get_or others place [] lt_other

        here : ComesBefore (at words place) (at others place) → ⊥
        here before =
            let stands = are_other.closed (at words place) (at others place) (are.sound (at words place) has) has_other before in
            let found = standing others are_other (at words place) place stands lt_other before in
            comes-itself (at words place)
            (subst (λ w. ComesBefore w (at words place)) (earlier found.0 found.1 ∙ found.2) (are.order found.0 place [] found.1 lt))

        there : ComesBefore (at others place) (at words place) → ⊥
        there before =
            let stands = are.closed (at others place) (at words place) (are_other.sound (at others place) has_other) has before in
            let found = standing words are (at others place) place stands lt before in
            comes-itself (at others place)
            (subst (λ w. ComesBefore w (at others place)) (sym (earlier found.0 found.1) ∙ found.2) (are_other.order found.0 place [] found.1 lt_other))

        by : ComesBefore (at words place) (at others place) ⊎ (ComesBefore (at others place) (at words place) ⊎ (at others place ≡ at words place))
            → at words place ≡ at others place
        by (inl before) = absurd (here before)
        by (inr (inl before)) = absurd (there before)
        by (inr (inr same)) = sym same

    -- up to the end of the shorter one they have the same words
    agree-below : (bound place : ℕ) → place < bound → place < length words → place < length others → at words place ≡ at others place
    agree-below zero place small lt lt_other = absurd (omega (arith, small))
    agree-below (suc bound) place small lt lt_other =
        agree-at place lt lt_other
        (λ own less. agree-below bound own (omega (arith, small, less)) (omega (arith, lt, less)) (omega (arith, lt_other, less)))

    front : length words ≤ length others → IsFrontOf words others
    front short = (short, λ place lt. agree-below (suc place) place (omega arith) lt (omega (arith, short, lt)))

  -- a cover is such a list
  first-cover : (words : Words) → IsCover enc rules words → AreFirst enc rules words
  first-cover words is = record { sound = is.sound; order = is.order; closed = λ word last covering has before. is.complete word covering }

  -- and no other one is longer
  cover-longest : (words others : Words) → IsCover enc rules words → AreFirst enc rules others → length others ≤ length words
  cover-longest words others is are = by (cases_lt (length words) (length others))
    where
      by : (length words < length others) ⊎ (length others ≤ length words) → length others ≤ length words
      by (inr short) = short
      by (inl long) =
          let count = length words in
          let last = at others count in
          let has = is.complete last (are.sound last (Contains-get_or others count [] long)) in
          let same : at words has.0 ≡ at others has.0 =
          agree-below words others (first-cover words is) are (suc has.0) has.0 (omega arith) has.1 (omega (arith, long, has.1)) in
          absurd (comes-itself last
          (subst (λ w. ComesBefore w last) (sym same ∙ get_or_default words has.0 [] last has.1 ∙ has.2) (are.order has.0 count [] has.1 long)))

  -- ---- first sums

  -- where the cover is within the limit, no sum is over it
  pub IsCover-sum : (words : Words) (limit sum : ℕ) → IsCover enc rules words → sum_by length words ≤ limit → IsFirstSumOver enc rules limit sum → ⊥
  IsCover-sum words limit sum is within over =
      let others = over.words ++ over.last ∷ [] in
      let less = sum-front others words (front others words over.first (first-cover words is) (cover-longest words others is over.first)) in
      omega (arith, less, within, over.over, over.is)

  -- a list whose sum is within the limit is no longer than the words before one that passes it
  short : (limit sum other : ℕ) (one : IsFirstSumOver enc rules limit sum) (two : IsFirstSumOver enc rules limit other)
      → length (two.words ++ two.last ∷ []) ≤ length (one.words ++ one.last ∷ [])
  short limit sum other one two = by (cases_lt (length (one.words ++ one.last ∷ [])) (length (two.words ++ two.last ∷ [])))
    where
      by : (length (one.words ++ one.last ∷ []) < length (two.words ++ two.last ∷ []))
          ⊎ (length (two.words ++ two.last ∷ []) ≤ length (one.words ++ one.last ∷ []))
          → length (two.words ++ two.last ∷ []) ≤ length (one.words ++ one.last ∷ [])
      by (inr less) = less
      by (inl more) =
          let all = one.words ++ one.last ∷ [] in
          let long = length_push two.words two.last in
          let fits = front all (two.words ++ two.last ∷ []) one.first two.first (omega (arith, more)) in
          let within : IsFrontOf all two.words = (
            omega (arith, more, long),
            λ place lt. fits.1 place lt
                ∙ get_or_append_left two.words (two.last ∷ []) [] place (omega (arith, more, long, lt)),
          ) in
          let less = sum-front all two.words within in
          absurd (omega (arith, less, two.within, one.over, one.is))

  -- there is one first sum
  pub IsFirstSumOver-one : (limit sum other : ℕ) → IsFirstSumOver enc rules limit sum → IsFirstSumOver enc rules limit other → sum ≡ other
  IsFirstSumOver-one limit sum other one two =
      let all = one.words ++ one.last ∷ [] in
      let others = two.words ++ two.last ∷ [] in
      let less = sum-front all others (front all others one.first two.first (short limit other sum two one)) in
      let more = sum-front others all (front others all two.first one.first (short limit sum other one two)) in
      omega (arith, less, more, one.is, two.is)
