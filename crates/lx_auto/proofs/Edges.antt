-- Which edge of a list is on a unit, by the parts of the list.
use Rattle.std.proofs.Common.{◌≡◌, ℕ, ◌+◌, ◌<◌, ◌≤◌, List, [], ◌∷◌, ◌++◌, length, get_or, take, drop, Some, None, Bool, true, false, refl, nat_le, ◌&&◌, if◌then◌else◌, sym, ap, ◌∙◌, subst, arith}
use Rattle.std.proofs.Math.Bool.{and-false}
use Rattle.std.proofs.lemmas.Bool.{le-leb, lt-leb}
use Rattle.std.proofs.lemmas.List.{take-append-drop, drop_more, take_more}
use Rattle.lx_auto.specs.declared.automaton.Edge.{Edge}
use Rattle.lx_auto.specs.Automaton.{AreApart, AreApartFrom, edge_on, has_unit}

pub edge_on-here : (edge : Edge) (edges : List Edge) (unit : ℕ) → edge.lo ≤ unit → unit ≤ edge.hi → edge_on (edge ∷ edges) unit ≡ Some edge
edge_on-here edge edges unit from to =
    let within : has_unit edge unit ≡ true = ap (λ b. b && nat_le unit edge.hi) (le-leb edge.lo unit from) ∙ le-leb unit edge.hi to in
    ap (λ b. if b then Some edge else edge_on edges unit) within

pub edge_on-below : (edge : Edge) (edges : List Edge) (unit : ℕ) → unit < edge.lo → edge_on (edge ∷ edges) unit ≡ edge_on edges unit
edge_on-below edge edges unit below =
    let outside : has_unit edge unit ≡ false = ap (λ b. b && nat_le unit edge.hi) (lt-leb edge.lo unit below) in
    ap (λ b. if b then Some edge else edge_on edges unit) outside

pub edge_on-past : (edge : Edge) (edges : List Edge) (unit : ℕ) → edge.hi < unit → edge_on (edge ∷ edges) unit ≡ edge_on edges unit
edge_on-past edge edges unit past =
    let outside : has_unit edge unit ≡ false = ap (λ b. nat_le edge.lo unit && b) (lt-leb unit edge.hi past) ∙ and-false (nat_le edge.lo unit) in
    ap (λ b. if b then Some edge else edge_on edges unit) outside

-- where no edge of a front is on the unit, the rest decides
pub edge_on-append : (xs ys : List Edge) (unit : ℕ) → edge_on xs unit ≡ None → edge_on (xs ++ ys) unit ≡ edge_on ys unit
edge_on-append [] ys unit none = refl
edge_on-append (x ∷ xs) ys unit none = at (has_unit x unit) none (edge_on-append xs ys unit)
  where
    at : (b : Bool) → (if b then Some x else edge_on xs unit) ≡ None → (edge_on xs unit ≡ None → edge_on (xs ++ ys) unit ≡ edge_on ys unit)
        → (if b then Some x else edge_on (xs ++ ys) unit) ≡ edge_on ys unit
    at true none rest = absurd (cc none)
    at false none rest = rest none

pub AreApartFrom-earlier : (m n : ℕ) (edges : List Edge) → n ≤ m → AreApartFrom m edges → AreApartFrom n edges
AreApartFrom-earlier m n [] le apart = tt
AreApartFrom-earlier m n (edge ∷ edges) le apart = (omega arith, apart.1, apart.2)

pub AreApartFrom-back : (n : ℕ) (xs ys : List Edge) → AreApartFrom n (xs ++ ys) → AreApartFrom n ys
AreApartFrom-back n [] ys apart = apart
AreApartFrom-back n (x ∷ xs) ys apart =
    AreApartFrom-back n xs ys (AreApartFrom-earlier (x.hi + 1) n (xs ++ ys) (omega arith) apart.2)

-- no edge is on a unit below the first
pub edge_on-before : (low : ℕ) (edges : List Edge) (unit : ℕ) → AreApartFrom low edges → unit < low → edge_on edges unit ≡ None
edge_on-before low [] unit apart below = refl
edge_on-before low (edge ∷ edges) unit apart below =
    edge_on-below edge edges unit (omega arith) ∙ edge_on-before (edge.hi + 1) edges unit apart.2 (omega arith)

-- no edge of a front is on a unit of an edge behind it, or on a later one
pub edge_on-behind : (low : ℕ) (xs : List Edge) (edge : Edge) (ys : List Edge) (unit : ℕ) → AreApartFrom low (xs ++ edge ∷ ys) → edge.lo ≤ unit
    → edge_on xs unit ≡ None
edge_on-behind low [] edge ys unit apart from = refl
edge_on-behind low (x ∷ xs) edge ys unit apart from =
    let later : x.hi + 1 ≤ edge.lo = (AreApartFrom-back (x.hi + 1) xs (edge ∷ ys) apart.2).0 in
    edge_on-past x xs unit (omega arith) ∙ edge_on-behind (x.hi + 1) xs edge ys unit apart.2 from

-- the edge at a place among edges that are apart
pub edge_on-middle : (low : ℕ) (xs : List Edge) (edge : Edge) (ys : List Edge) (unit : ℕ) → AreApartFrom low (xs ++ edge ∷ ys)
    → edge.lo ≤ unit → unit ≤ edge.hi → edge_on (xs ++ edge ∷ ys) unit ≡ Some edge
edge_on-middle low xs edge ys unit apart from to =
    edge_on-append xs (edge ∷ ys) unit (edge_on-behind low xs edge ys unit apart from) ∙ edge_on-here edge ys unit from to

-- an edge that code reads at a place
module _ (xs : List Edge) (place : ℕ) (edge : Edge) (within : place < length xs) (is : edge ≡ get_or xs place edge) where
  rest_at : drop place xs ≡ edge ∷ drop (place + 1) xs
  rest_at = drop_more xs place edge within ∙ ap (λ e. e ∷ drop (place + 1) xs) (sym is)

  parts_at : xs ≡ take place xs ++ edge ∷ drop (place + 1) xs
  parts_at = sym (take-append-drop place xs) ∙ ap (λ back. take place xs ++ back) rest_at

  front_at : take (place + 1) xs ≡ take place xs ++ edge ∷ []
  front_at = take_more xs place edge within ∙ ap (λ e. take place xs ++ e ∷ []) (sym is)

  apart_at : AreApart xs → AreApart (take place xs ++ edge ∷ drop (place + 1) xs)
  apart_at apart = subst (λ l. AreApart l) parts_at apart

  pub edge_on-found : (unit : ℕ) → AreApart xs → edge.lo ≤ unit → unit ≤ edge.hi → edge_on xs unit ≡ Some edge
  edge_on-found unit apart from to =
      ap (λ l. edge_on l unit) parts_at ∙ edge_on-middle 0 (take place xs) edge (drop (place + 1) xs) unit (apart_at apart) from to

  -- below the edge neither it nor a later one is on the unit
  pub edge_on-from : (unit : ℕ) → AreApart xs → unit < edge.lo → edge_on (drop place xs) unit ≡ None
  edge_on-from unit apart below =
      let back = AreApartFrom-back 0 (take place xs) (edge ∷ drop (place + 1) xs) (apart_at apart) in
      let from : AreApartFrom edge.lo (edge ∷ drop (place + 1) xs) = (omega arith, back.1, back.2) in
      ap (λ l. edge_on l unit) rest_at ∙ edge_on-before edge.lo (edge ∷ drop (place + 1) xs) unit from below

  -- past the edge neither it nor an earlier one is on the unit
  pub edge_on-through : (unit : ℕ) → AreApart xs → edge.hi < unit → edge_on (take (place + 1) xs) unit ≡ None
  edge_on-through unit apart past =
      let back = AreApartFrom-back 0 (take place xs) (edge ∷ drop (place + 1) xs) (apart_at apart) in
      let ordered : edge.lo ≤ edge.hi = back.1 in
      let front = edge_on-behind 0 (take place xs) edge (drop (place + 1) xs) unit (apart_at apart) (omega arith) in
      ap (λ l. edge_on l unit) front_at ∙ edge_on-append (take place xs) (edge ∷ []) unit front ∙ edge_on-past edge [] unit past

-- where no edge is on the unit in a front and in the rest, none is in the whole
pub edge_on-nowhere : (xs : List Edge) (place unit : ℕ) → edge_on (take place xs) unit ≡ None → edge_on (drop place xs) unit ≡ None
    → edge_on xs unit ≡ None
edge_on-nowhere xs place unit front back =
    ap (λ l. edge_on l unit) (sym (take-append-drop place xs)) ∙ edge_on-append (take place xs) (drop place xs) unit front ∙ back
