-- The number of two places in a list, which goes by rules, is the least of the numbers behind the first up to the other.
use Rattle.std.proofs.Common.{inl, inr, ap, ap₂, ◌∙◌, subst, arith, eq-eqb, ⊎_elim}
use Rattle.std.proofs.lemmas.Bool.{eqb-true}
use Rattle.std.specs.Prelude.{◌≡◌, ℕ, zero, suc, ◌+◌, ◌-◌, ◌<◌, ◌⊎◌, Bool, true, false, if◌then◌else◌, max, min, nat_eq, List, [], ◌∷◌, length, take, drop, Some, slice_get, slice_index_or, refl}
use Rattle.lx_tnfa.specs.Tnfa.{Tnfa}
use Rattle.lx_posix.specs.Beginnings.{AreBeginnings, AreByRule, IsBeginning}
use Rattle.lx_posix.specs.Comparing.{Ranked, least_number, number_between, ranked_at}
use Rattle.lx_posix.specs.Finding.{beginning_at}
use Rattle.lx_posix.specs.WayNumbers.{least_of, lowest_to, number_of_fork, number_of_ways, numbers_between, state_number}
use Rattle.lx_posix.specs.declared.points.Beginning.{Beginning}
use Rattle.lx_posix.specs.declared.search.Found.{Found}

module _ (tnfa : Tnfa) (deep : ℕ → ℕ) where
  abbrev Are : List Beginning → List Ranked → Type 0
  Are beginnings ranks = AreBeginnings tnfa deep beginnings ranks

  pub beginnings-length : (beginnings : List Beginning) (ranks : List Ranked) → Are beginnings ranks → length beginnings ≡ length ranks
  beginnings-length [] [] are = refl
  beginnings-length [] (ranked ∷ ranks) are = absurd are
  beginnings-length (beginning ∷ beginnings) [] are = absurd are
  beginnings-length (beginning ∷ beginnings) (ranked ∷ ranks) are = ap suc (beginnings-length beginnings ranks are.1)

  pub beginning-at : (beginnings : List Beginning) (ranks : List Ranked) (index : ℕ) (beginning : Beginning) → Are beginnings ranks
      → slice_get beginnings index ≡ Some beginning → IsBeginning tnfa deep beginning (ranked_at ranks index)
  beginning-at [] ranks index beginning are at = cc
  beginning-at (first ∷ beginnings) [] index beginning are at = absurd are
  beginning-at (first ∷ beginnings) (ranked ∷ ranks) zero beginning are at =
      let same : first ≡ beginning = cc in subst (λ b. IsBeginning tnfa deep b ranked) same are.0
  beginning-at (first ∷ beginnings) (ranked ∷ ranks) (suc index) beginning are at =
      beginning-at beginnings ranks index beginning are.1 at

-- of two places the second is of the rule of the first, or of a later one, and then they have the number 0
one_rule_or_none : (ranked : Ranked) (ranks : List Ranked) (others : ℕ) → AreByRule (ranked ∷ ranks) → others < length ranks
    → (ranked.rule ≡ (ranked_at ranks others).rule) ⊎ ((ranked.rule < (ranked_at ranks others).rule) × (least_number ranks others ≡ 0))
one_rule_or_none ranked [] others by lt = absurd (omega arith)
one_rule_or_none ranked (next ∷ ranks) zero by lt = by.0
one_rule_or_none ranked (next ∷ ranks) (suc others) by lt =
    let rest : (next.rule ≡ (ranked_at ranks others).rule)
    ⊎ ((next.rule < (ranked_at ranks others).rule) × (least_number ranks others ≡ 0)) =
    one_rule_or_none next ranks others by.1 (omega arith) in
    ⊎_elim
    (λ same.
    ⊎_elim (λ q. inl (same ∙ q)) (λ q. let l = q.0 in let z = q.1 in inr (omega arith, omega arith)) rest)
    (λ later.
    ⊎_elim
    (λ q. let l = later.0 in let z = later.1 in inr (omega arith, omega arith))
    (λ q. let l = later.0 in let m = q.0 in let z = later.1 in inr (omega arith, omega arith)) rest)
    by.0

by_rule-tail : (ranked : Ranked) (ranks : List Ranked) → AreByRule (ranked ∷ ranks) → AreByRule ranks
by_rule-tail ranked [] by = tt
by_rule-tail ranked (next ∷ ranks) by = by.1

pub number_between-rules : (ranks : List Ranked) (index other : ℕ) → AreByRule ranks → index < other → other < length ranks
    → ((ranked_at ranks index).rule ≡ (ranked_at ranks other).rule)
    ⊎ (((ranked_at ranks index).rule < (ranked_at ranks other).rule) × (number_between ranks index other ≡ 0))
number_between-rules [] index other by lt within = absurd (omega arith)
number_between-rules (ranked ∷ ranks) index zero by lt within = absurd (omega arith)
number_between-rules (ranked ∷ ranks) zero (suc other) by lt within = one_rule_or_none ranked ranks other by (omega arith)
number_between-rules (ranked ∷ ranks) (suc index) (suc other) by lt within =
    number_between-rules ranks index other (by_rule-tail ranked ranks by) (omega arith) (omega arith)

-- the least of numbers goes on
least_of-min : (beginnings : List Beginning) (least other : ℕ)
    → least_of (min least other) beginnings ≡ min least (least_of other beginnings)
least_of-min [] least other = refl
least_of-min (beginning ∷ beginnings) least other =
    let e : min (min least other) beginning.number ≡ min least (min other beginning.number) = omega arith in
    ap (λ n. least_of n beginnings) e ∙ least_of-min beginnings least (min other beginning.number)

module _ (tnfa : Tnfa) (deep : ℕ → ℕ) (other : Beginning) where
  -- the least of the numbers up to a place
  least_up_to : (beginnings : List Beginning) (ranks : List Ranked) (last : ℕ) → AreBeginnings tnfa deep beginnings ranks
      → last < length beginnings
      → least_of (slice_index_or beginnings last other).number (take last beginnings) ≡ least_number ranks last
  least_up_to [] ranks last are lt = absurd (omega arith)
  least_up_to (beginning ∷ beginnings) [] last are lt = absurd are
  least_up_to (beginning ∷ beginnings) (ranked ∷ ranks) zero are lt = are.0.number
  least_up_to (beginning ∷ beginnings) (ranked ∷ ranks) (suc last) are lt =
      let n : ℕ = (slice_index_or beginnings last other).number in
      let turn : min n beginning.number ≡ min beginning.number n = omega arith in
      ap (λ m. least_of m (take last beginnings)) turn ∙ least_of-min (take last beginnings) beginning.number n
      ∙ ap₂ (λ a b. min a b) are.0.number (least_up_to beginnings ranks last are.1 (omega arith))

  least_behind : (beginnings : List Beginning) (ranks : List Ranked) (first last : ℕ) → AreBeginnings tnfa deep beginnings ranks
      → first < last → last < length beginnings
      → least_of (slice_index_or beginnings last other).number (take (last - suc first) (drop (suc first) beginnings))
      ≡ number_between ranks first last
  least_behind [] ranks first last are lt within = absurd (omega arith)
  least_behind (beginning ∷ beginnings) [] first last are lt within = absurd are
  least_behind (beginning ∷ beginnings) (ranked ∷ ranks) first zero are lt within = absurd (omega arith)
  least_behind (beginning ∷ beginnings) (ranked ∷ ranks) zero (suc last) are lt within =
      let e : suc last - suc zero ≡ last = omega arith in
      ap (λ n. least_of (slice_index_or beginnings last other).number (take n beginnings)) e
      ∙ least_up_to beginnings ranks last are.1 (omega arith)
  least_behind (beginning ∷ beginnings) (ranked ∷ ranks) (suc first) (suc last) are lt within =
      let e : suc last - suc (suc first) ≡ last - suc first = omega arith in
      ap (λ n. least_of (slice_index_or beginnings last other).number (take n (drop (suc first) beginnings))) e
      ∙ least_behind beginnings ranks first last are.1 (omega arith) (omega arith)

  pub number_between-beginnings : (beginnings : List Beginning) (ranks : List Ranked) (first last : ℕ)
      → AreBeginnings tnfa deep beginnings ranks → first < last → last < length beginnings
      → least_of (slice_index_or beginnings last other).number (take (last - (first + 1)) (drop (first + 1) beginnings))
      ≡ number_between ranks first last
  number_between-beginnings beginnings ranks first last are lt within =
      let e : first + 1 ≡ suc first = omega arith in
      ap (λ n. least_of (slice_index_or beginnings last other).number (take (last - n) (drop n beginnings))) e
      ∙ least_behind beginnings ranks first last are lt within

-- two ways from one beginning, and from two
module _ (tnfa : Tnfa) (beginnings : List Beginning) (found other : Found) where
  abbrev one : ℕ
  one =
      number_of_fork tnfa (state_number (beginning_at beginnings found.from).at) (beginning_at beginnings found.from).depth found.way other.way

  abbrev two : ℕ
  two =
      min (min (numbers_between beginnings (min found.from other.from) (max found.from other.from)) (lowest_to tnfa beginnings found))
      (lowest_to tnfa beginnings other)

  pub number_of_ways-one : found.from ≡ other.from
      → number_of_ways tnfa beginnings found other
      ≡ number_of_fork tnfa (state_number (beginning_at beginnings found.from).at) (beginning_at beginnings found.from).depth found.way other.way
  number_of_ways-one same = ap (λ b. if b then one else two) (eq-eqb found.from other.from same)

  pub number_of_ways-two : (found.from ≡ other.from → ⊥)
      → number_of_ways tnfa beginnings found other
      ≡ min (min (numbers_between beginnings (min found.from other.from) (max found.from other.from)) (lowest_to tnfa beginnings found))
      (lowest_to tnfa beginnings other)
  number_of_ways-two apart = at (nat_eq found.from other.from) refl
    where
      at : (b : Bool) → nat_eq found.from other.from ≡ b → (if b then one else two) ≡ two
      at true same = absurd (apart (eqb-true found.from other.from same))
      at false same = refl
