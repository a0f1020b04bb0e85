-- The edges of a state, range by range.
use Rattle.std.proofs.Common.{◌≡◌, ℕ, zero, suc, ◌+◌, ◌<◌, ◌≤◌, ◌⊎◌, inl, inr, arith, Bool, true, false, if◌then◌else◌, List, [], ◌∷◌, ◌++◌, Option, Some, None, refl, sym, ap, ◌∙◌, subst, subst₂}
use Rattle.std.specs.Option.{option_map}
use Rattle.std.specs.Prelude.{slice_get}
use Rattle.lx_auto.specs.Automaton.{AreApart, AreApartFrom, edge_on, has_unit}
use Rattle.lx_auto.specs.declared.automaton.Edge.{Edge}
use Rattle.lx_auto.specs.declared.ops.Op.{Op}
use Rattle.lx_auto.proofs.Edges.{edge_on-append, edge_on-below, edge_on-here, edge_on-past}
use Rattle.lx_encode.specs.Graph.{NoneBetween}
use Rattle.lx_tnfa.specs.Tnfa.{Tnfa}
use Rattle.lx_tdfa.specs.Edges.{AreEdgesBefore, AreSameEdges, EndBy, GoesOnAlike, IsAscending, IsRangeEmpty, IsRangeEnd, StandsBefore, StartBelow}
use Rattle.lx_tdfa.specs.Steps.{Step}
use Rattle.lx_tdfa.specs.Table.{IsEdgeOf, Onward}
use Rattle.lx_tdfa.proofs.Walks.ListReads.{slice_get-front}

-- edges that end below a bound

StartBelow-more : (bound more : ℕ) (edges : List Edge) → bound ≤ more → StartBelow bound edges → StartBelow more edges
StartBelow-more bound more [] le below = tt
StartBelow-more bound more (edge ∷ edges) le below = (omega arith, StartBelow-more bound more edges le below.1)

StartBelow-end : (bound : ℕ) (edges : List Edge) → EndBy bound edges → StartBelow (suc bound) edges
StartBelow-end bound [] ends = tt
StartBelow-end bound (edge ∷ edges) ends = (omega arith, StartBelow-end bound edges ends.1)

EndBy-start : (bound : ℕ) (edges : List Edge) → StartBelow (suc bound) edges → EndBy bound edges
EndBy-start bound [] below = tt
EndBy-start bound (edge ∷ edges) below = (omega arith, EndBy-start bound edges below.1)

EndBy-behind : (bound : ℕ) (edges : List Edge) (edge : Edge) → EndBy bound edges → edge.hi ≤ bound → EndBy bound (edges ++ edge ∷ [])
EndBy-behind bound [] edge ends le = (le, tt)
EndBy-behind bound (other ∷ edges) edge ends le = (ends.0, EndBy-behind bound edges edge ends.1 le)

edge_on-above : (bound : ℕ) (edges : List Edge) (unit : ℕ) → StartBelow bound edges → bound ≤ unit → edge_on edges unit ≡ None
edge_on-above bound [] unit below le = refl
edge_on-above bound (edge ∷ edges) unit below le = edge_on-past edge edges unit (omega arith) ∙ edge_on-above bound edges unit below.1 le

edge_on-front : (xs ys : List Edge) (unit : ℕ) (edge : Edge) → edge_on xs unit ≡ Some edge → edge_on (xs ++ ys) unit ≡ Some edge
edge_on-front [] ys unit edge some = cc
edge_on-front (x ∷ xs) ys unit edge some = at (has_unit x unit) some (edge_on-front xs ys unit edge)
  where
    at : (b : Bool) → (if b then Some x else edge_on xs unit) ≡ Some edge → (edge_on xs unit ≡ Some edge → edge_on (xs ++ ys) unit ≡ Some edge)
        → (if b then Some x else edge_on (xs ++ ys) unit) ≡ Some edge
    at true some rest = some
    at false some rest = rest some

AreApart-behind : (low : ℕ) (edges : List Edge) (edge : Edge) → AreApartFrom low edges → StartBelow edge.lo edges → low ≤ edge.lo → edge.lo ≤ edge.hi
    → AreApartFrom low (edges ++ edge ∷ [])
AreApart-behind low [] edge apart below le some = (le, some, tt)
AreApart-behind low (other ∷ edges) edge apart below le some =
    (apart.0, apart.1, AreApart-behind (other.hi + 1) edges edge apart.2 below.1 (omega (arith, below.0)) some)

-- an edge is judged by its effect
IsEdgeOf-effect : {K : Type 0} (tnfa : Tnfa) (lists : List K) (first : Bool) (steps : List Step) (next : K) (edge other : Option Edge)
    → option_map {U = ℕ × List Op} (λ (e : Edge). (e.to, e.ops)) other ≡ option_map {U = ℕ × List Op} (λ (e : Edge). (e.to, e.ops)) edge
    → IsEdgeOf tnfa lists first steps next edge → IsEdgeOf tnfa lists first steps next other
IsEdgeOf-effect tnfa lists first [] next None None same is = is
IsEdgeOf-effect tnfa lists first [] next None (Some other) same is = cc
IsEdgeOf-effect tnfa lists first [] next (Some edge) other same is = absurd is
IsEdgeOf-effect tnfa lists first (step ∷ steps) next None other same is = absurd is
IsEdgeOf-effect tnfa lists first (step ∷ steps) next (Some edge) None same is = cc
IsEdgeOf-effect tnfa lists first (step ∷ steps) next (Some edge) (Some other) same is =
    let pair : Path (ℕ × List Op) (other.to, other.ops) (edge.to, edge.ops) = cc same in
    (ap (λ (p : ℕ × List Op). slice_get lists p.0) pair ∙ is.0, ap (λ (p : ℕ × List Op). p.1) pair ∙ is.1)

-- it stays where lists come behind
pub IsEdgeOf-more : {K : Type 0} (tnfa : Tnfa) (lists later : List K) (first : Bool) (steps : List Step) (next : K) (edge : Option Edge)
    → IsEdgeOf tnfa lists first steps next edge → IsEdgeOf tnfa (lists ++ later) first steps next edge
IsEdgeOf-more tnfa lists later first [] next None is = is
IsEdgeOf-more tnfa lists later first [] next (Some edge) is = absurd is
IsEdgeOf-more tnfa lists later first (step ∷ steps) next None is = absurd is
IsEdgeOf-more tnfa lists later first (step ∷ steps) next (Some edge) is =
    (slice_get-front lists later edge.to next is.0, is.1)

module _ {K : Type 0} (tnfa : Tnfa) (lists : List K) (first : Bool) (steps other : List Step) (next to : K) (same : (other ≡ steps) × (to ≡ next)) where
  -- an edge is judged by steps and by what they lead to
  IsEdgeOf-same : (edge : Option Edge) → IsEdgeOf tnfa lists first steps next edge → IsEdgeOf tnfa lists first other to edge
  IsEdgeOf-same edge is =
      subst₂ (λ (l : List Step) (k : K). IsEdgeOf tnfa lists first l k edge) (sym same.0) (sym same.1) is

  no_edge-no_step : IsEdgeOf tnfa lists first steps next None → (o : Option Edge) → o ≡ None → IsEdgeOf tnfa lists first other to o
  no_edge-no_step is o none = IsEdgeOf-same o (subst (λ e. IsEdgeOf tnfa lists first steps next e) (sym none) is)

none_between : (cuts : List ℕ) (first second : ℕ) → ((index cut : ℕ) → slice_get cuts index ≡ Some cut → (cut ≤ first) ⊎ (second < cut))
    → NoneBetween first second cuts
none_between [] first second each = tt
none_between (cut ∷ cuts) first second each =
    (each 0 cut refl, none_between cuts first second (λ index other e. each (suc index) other e))

-- no cut stands between that of a range and a unit before the next one
pub range-none : (cuts : List ℕ) (index greatest last : ℕ) → IsAscending cuts → (range : IsRangeEnd cuts index greatest last) → (unit : ℕ)
    → range.cut ≤ unit → StandsBefore (slice_get cuts (suc index)) unit → NoneBetween range.cut unit cuts
range-none cuts index greatest last ascending range unit le before = none_between cuts range.cut unit each
  where
    each : (other cut : ℕ) → slice_get cuts other ≡ Some cut → (cut ≤ range.cut) ⊎ (unit < cut)
    each other cut e = elim (le_or other index) [
      | inl early ↦ inl (ascending other index cut range.cut early e range.first)
      | inr later ↦ inr (past (slice_get cuts (suc index)) refl later)
    ]
      where
        le_or : (a b : ℕ) → (a ≤ b) ⊎ (suc b ≤ a)
        le_or zero b = inl (omega arith)
        le_or (suc a) zero = inr (omega arith)
        le_or (suc a) (suc b) = elim (le_or a b) [ inl x ↦ inl (omega (arith, x)) | inr y ↦ inr (omega (arith, y)) ]

        past : (o : Option ℕ) → slice_get cuts (suc index) ≡ o → suc index ≤ other → unit < cut
        past None none later = absurd (gone cuts (suc index) other cut later none e)
          where
            gone : (xs : List ℕ) (k m x : ℕ) → k ≤ m → slice_get xs k ≡ None → slice_get xs m ≡ Some x → ⊥
            gone [] k m x le none some = cc
            gone (y ∷ xs) zero m x le none some = cc
            gone (y ∷ xs) (suc k) zero x le none some = omega arith
            gone (y ∷ xs) (suc k) (suc m) x le none some = gone xs k m x (omega arith) none some
        past (Some next) some later =
            let lt : unit < next = subst (λ o. StandsBefore o unit) some before in
            let up : next ≤ cut = ascending (suc index) other next cut later some e in omega (arith, lt, up)

module _ {K : Type 0} (tnfa : Tnfa) (greatest : ℕ) (first : Bool) (onward : Onward K) (cuts : List ℕ) (separate : GoesOnAlike onward cuts)
    (ascending : IsAscending cuts) where
  pub edges-start : (lists : List K) → slice_get cuts 0 ≡ Some 0 → AreEdgesBefore tnfa greatest lists first onward (slice_get cuts 0) []
  edges-start lists zero_first = record {
    apart = tt;
    before = λ bound e. tt;
    units = tt;
    right = λ unit le before. absurd (none unit (subst (λ o. StandsBefore o unit) zero_first before));
  }
    where
      none : (unit : ℕ) → unit < 0 → ⊥
      none unit lt = omega arith

  pub edges-more : (lists later : List K) (cut : Option ℕ) (edges : List Edge) → AreEdgesBefore tnfa greatest lists first onward cut edges
      → AreEdgesBefore tnfa greatest (lists ++ later) first onward cut edges
  edges-more lists later cut edges are = record {
    apart = are.apart;
    before = are.before;
    units = are.units;
    right = λ unit le before.
        IsEdgeOf-more tnfa lists later first (onward.steps unit) (onward.next unit) (edge_on edges unit) (are.right unit le before);
  }

  -- the cut before the next one
  cut_before : (index bound : ℕ) → slice_get cuts (suc index) ≡ Some bound → (cut : ℕ) × (slice_get cuts index ≡ Some cut) × (cut ≤ bound)
  cut_before index bound e = at (slice_get cuts index) refl
    where
      there : (xs : List ℕ) (k x : ℕ) → slice_get xs (suc k) ≡ Some x → slice_get xs k ≡ None → ⊥
      there [] k x some none = cc
      there (y ∷ xs) zero x some none = cc
      there (y ∷ xs) (suc k) x some none = there xs k x some none

      at : (o : Option ℕ) → slice_get cuts index ≡ o → (cut : ℕ) × (slice_get cuts index ≡ Some cut) × (cut ≤ bound)
      at None none = absurd (there cuts index bound e none)
      at (Some cut) some = (cut, some, ascending index (suc index) cut bound (omega arith) some e)

  start_below-next : (lists : List K) (index : ℕ) (edges : List Edge)
      → AreEdgesBefore tnfa greatest lists first onward (slice_get cuts index) edges
      → (bound : ℕ) → slice_get cuts (suc index) ≡ Some bound → StartBelow bound edges
  start_below-next lists index edges are bound e =
      let before = cut_before index bound e in StartBelow-more before.0 bound edges before.2 (are.before before.0 before.1)

  pub edges-empty : (lists : List K) (index : ℕ) (edges : List Edge)
      → AreEdgesBefore tnfa greatest lists first onward (slice_get cuts index) edges → IsRangeEmpty cuts index greatest
      → AreEdgesBefore tnfa greatest lists first onward (slice_get cuts (suc index)) edges
  edges-empty lists index edges are empty = record {
    apart = are.apart;
    before = start_below-next lists index edges are;
    units = are.units;
    right = λ unit le before. are.right unit le (empty unit le before);
  }

  -- in a range the steps are the same
  module _ (lists : List K) (index last : ℕ) (edges : List Edge)
      (are : AreEdgesBefore tnfa greatest lists first onward (slice_get cuts index) edges) (range : IsRangeEnd cuts index greatest last) where
    same_steps : (unit : ℕ) → range.cut ≤ unit → StandsBefore (slice_get cuts (suc index)) unit
        → (onward.steps unit ≡ onward.steps range.cut) × (onward.next unit ≡ onward.next range.cut)
    same_steps unit le before =
        let same = separate range.cut unit le (range-none cuts index greatest last ascending range unit le before) in
        (sym same.0, sym same.1)

    below_cut : StartBelow range.cut edges
    below_cut = are.before range.cut range.first

    pub edges-none : IsEdgeOf tnfa lists first (onward.steps range.cut) (onward.next range.cut) None
        → AreEdgesBefore tnfa greatest lists first onward (slice_get cuts (suc index)) edges
    edges-none none = record {
      apart = are.apart;
      before = start_below-next lists index edges are;
      units = are.units;
      right = λ unit le before. at unit le before (lt_or unit range.cut);
    }
      where
        lt_or : (a b : ℕ) → (a < b) ⊎ (b ≤ a)
        lt_or a zero = inr (omega arith)
        lt_or zero (suc b) = inl (omega arith)
        lt_or (suc a) (suc b) = elim (lt_or a b) [ inl x ↦ inl (omega (arith, x)) | inr y ↦ inr (omega (arith, y)) ]

        at : (unit : ℕ) → unit ≤ greatest → StandsBefore (slice_get cuts (suc index)) unit → (unit < range.cut) ⊎ (range.cut ≤ unit)
            → IsEdgeOf tnfa lists first (onward.steps unit) (onward.next unit) (edge_on edges unit)
        at unit le before (inl early) = are.right unit le (subst (λ o. StandsBefore o unit) (sym range.first) early)
        at unit le before (inr later) =
            no_edge-no_step tnfa lists first (onward.steps range.cut) (onward.steps unit) (onward.next range.cut) (onward.next unit)
            (same_steps unit later before) none (edge_on edges unit) (edge_on-above range.cut edges unit below_cut later)

    module _ (edge : Edge) (lo : edge.lo ≡ range.cut) (hi : edge.hi ≡ last) where
      pub edges-apart : AreApart (edges ++ edge ∷ [])
      edges-apart =
          AreApart-behind 0 edges edge are.apart (subst (λ n. StartBelow n edges) (sym lo) below_cut) (omega arith) (omega (arith, lo, hi, range.some))

      pub edges-behind : (new : List Edge) → IsEdgeOf tnfa lists first (onward.steps range.cut) (onward.next range.cut) (Some edge)
          → AreSameEdges (edges ++ edge ∷ []) new → AreEdgesBefore tnfa greatest lists first onward (slice_get cuts (suc index)) new
      edges-behind new is same = record {
        apart = same.apart;
        before = λ bound e. before_next bound e (subst (λ o. StandsBefore o last) e range.before);
        units = same.ends greatest (EndBy-behind greatest edges edge are.units (omega (arith, hi, range.within)));
        right = λ unit le before.
            IsEdgeOf-effect tnfa lists first (onward.steps unit) (onward.next unit) (edge_on (edges ++ edge ∷ []) unit) (edge_on new unit) (same.effects unit)
            (at unit le before (lt_or unit range.cut));
      }
        where
          lt_or : (a b : ℕ) → (a < b) ⊎ (b ≤ a)
          lt_or a zero = inr (omega arith)
          lt_or zero (suc b) = inl (omega arith)
          lt_or (suc a) (suc b) = elim (lt_or a b) [ inl x ↦ inl (omega (arith, x)) | inr y ↦ inr (omega (arith, y)) ]

          before_next : (bound : ℕ) → slice_get cuts (suc index) ≡ Some bound → last < bound → StartBelow bound new
          before_next zero e lt = absurd (omega (arith, lt))
          before_next (suc bound) e lt =
              StartBelow-end bound new (same.ends bound
              (EndBy-behind bound edges edge (EndBy-start bound edges (start_below-next lists index edges are (suc bound) e)) (omega (arith, hi, lt))))

          front : (unit : ℕ) → unit < range.cut → (o : Option Edge) → edge_on edges unit ≡ o → edge_on (edges ++ edge ∷ []) unit ≡ o
          front unit early None none = edge_on-append edges (edge ∷ []) unit none ∙ edge_on-below edge [] unit (omega (arith, lo, early))
          front unit early (Some other) some = found edges some
            where
              found : (xs : List Edge) → edge_on xs unit ≡ Some other → edge_on (xs ++ edge ∷ []) unit ≡ Some other
              found xs some = edge_on-front xs (edge ∷ []) unit other some

          at : (unit : ℕ) → unit ≤ greatest → StandsBefore (slice_get cuts (suc index)) unit → (unit < range.cut) ⊎ (range.cut ≤ unit)
              → IsEdgeOf tnfa lists first (onward.steps unit) (onward.next unit) (edge_on (edges ++ edge ∷ []) unit)
          at unit le before (inl early) =
              subst (λ o. IsEdgeOf tnfa lists first (onward.steps unit) (onward.next unit) o) (sym (front unit early (edge_on edges unit) refl))
              (are.right unit le (subst (λ o. StandsBefore o unit) (sym range.first) early))
          at unit le before (inr later) =
              let here : edge_on (edges ++ edge ∷ []) unit ≡ Some edge =
              edge_on-append edges (edge ∷ []) unit (edge_on-above range.cut edges unit below_cut later)
              ∙ edge_on-here edge [] unit (omega (arith, lo, later)) (omega (arith, hi, range.all unit le before)) in
              subst (λ o. IsEdgeOf tnfa lists first (onward.steps unit) (onward.next unit) o) (sym here)
              (IsEdgeOf-same tnfa lists first (onward.steps range.cut) (onward.steps unit) (onward.next range.cut) (onward.next unit)
              (same_steps unit later before) (Some edge) is)
