-- What is read in a leaf, from its beginning to its end, is the choice of a start, and units that finish the start's residual.
use Rattle.std.proofs.Common.{◌≡◌, ℕ, zero, suc, ◌<◌, inl, inr, arith, false, List, [], ◌∷◌, refl, sym, ap, ap₂, ◌∙◌, subst, ⊎_elim, eq-eqb, ne_eqb}
use Rattle.std.proofs.lemmas.Bool.{false≢true}
use Rattle.std.specs.Prelude.{nat_eq, slice_index, if◌then◌else◌}
use Rattle.lx_base.specs.Spelling.{spell}
use Rattle.lx_base.specs.declared.settings.Enc.{Enc}
use Rattle.lx_class.specs.Ranges.{InRanges}
use Rattle.lx_class.specs.declared.ranges.Range.{Range}
use Rattle.lx_encode.specs.Graph.{Graph, IsGraphOf, parts}
use Rattle.lx_encode.specs.Policy.{FitsEncoding}
use Rattle.lx_regex.specs.Automaton as spec
use Rattle.lx_regex.specs.Automaton.{leaf, moves, unit_leaf}
use Rattle.lx_regex.specs.Expr.{ranges_of}
use Rattle.lx_regex.specs.PartList.{set_of}
use Rattle.lx_regex.specs.Reading.{IsReading, of_point, of_unit}
use Rattle.lx_regex.specs.Script.{Symbol, choices, leaf_choice}
use Rattle.lx_regex.specs.Term.{IsInRanges}
use Rattle.lx_regex.proofs.Walks.Readings.{code_row}
use Rattle.lx_tnfa.specs.Classes.{AreClasses, HasClass}
use Rattle.lx_tnfa.specs.LeafReadings.{IsNth}
use Rattle.lx_tnfa.specs.Live.{starts_at}
use Rattle.lx_tnfa.specs.PlaceNumbers.{class_starts, leaf_starts, set_at, start_picked}
use Rattle.lx_tnfa.specs.Rows.{Represents}
use Rattle.lx_tnfa.specs.Tnfa.{Tnfa, rows_at}
use Rattle.lx_tnfa.specs.declared.classes.ClassGraph.{ClassGraph}
use Rattle.lx_tnfa.specs.declared.states.State.{State}
use Rattle.lx_tnfa.specs.declared.states.State.TheVariants.{Moves, Class, AnyUnit}
use Rattle.lx_tnfa.proofs.Leaves.ClassStarts.{Rise, part_begins, part_choice, point_part, start_stands, starts_rise}
use Rattle.lx_tnfa.proofs.Leaves.LeafGraphs.{EndsBy, ends_finishes, finished_only, finishes_ends}

-- in a class a point is read
abbrev PointReading : Enc → List (ℕ × ℕ) → List Symbol → List ℕ → Type 0
PointReading enc ranges choice units =
    (point : ℕ) × IsInRanges ranges point × (choice ≡ leaf_choice enc ranges point) × (units ≡ spell enc point)

reading_point : (enc : Enc) {row : spec.State} {choice : List Symbol} {units : List ℕ} → IsReading enc row choice units
    → (ranges : List (ℕ × ℕ)) → row ≡ leaf ranges → PointReading enc ranges choice units
reading_point enc (of_point {ranges} point within) others e =
    let same : ranges ≡ others = cc in
    subst (λ r. PointReading enc r (leaf_choice enc ranges point) (spell enc point)) same (point, within, refl, refl)
reading_point enc (of_unit unit) others e = cc

reading_unit : (enc : Enc) {row : spec.State} {choice : List Symbol} {units : List ℕ} → IsReading enc row choice units → row ≡ unit_leaf
    → (unit : ℕ) × ([] ≡ choice) × (units ≡ unit ∷ [])
reading_unit enc (of_point point within) e = cc
reading_unit enc (of_unit unit) e = (unit, refl, refl)

pub in_set : (ranges : List (ℕ × ℕ)) (point : ℕ) → IsInRanges ranges point → InRanges (set_of ranges) point
in_set [] point within = within
in_set (range ∷ ranges) point within = ⊎_elim (λ here. inl here) (λ later. inr (in_set ranges point later)) within

pub set_in : (ranges : List (ℕ × ℕ)) (point : ℕ) → InRanges (set_of ranges) point → IsInRanges ranges point
set_in [] point within = within
set_in (range ∷ ranges) point within = ⊎_elim (λ here. inl here) (λ later. inr (set_in ranges point later)) within

ranges_of-set_of : (ranges : List (ℕ × ℕ)) → ranges_of (set_of ranges) ≡ ranges
ranges_of-set_of [] = refl
ranges_of-set_of (range ∷ ranges) = ap (λ l. range ∷ l) (ranges_of-set_of ranges)

-- the graph of the class with this number
abbrev pub graph_at : List ClassGraph → ℕ → Graph
graph_at classes number = record { starts = starts_at classes number; rows = rows_at classes number }

pub class_graph : (enc : Enc) (classes : List ClassGraph) (number : ℕ) (set : List Range) → AreClasses enc classes → HasClass classes number set
    → (set_at classes number ≡ set) × IsGraphOf enc set (graph_at classes number)
class_graph enc [] number set are has = let e = has.1 in cc
class_graph enc (class ∷ classes) zero set are has =
    let same : class ≡ has.0 = cc in
    let is : class.set ≡ set = ap (λ (c : ClassGraph). c.set) same ∙ has.2 in
    (is, subst (λ s. IsGraphOf enc s (graph_at (class ∷ classes) zero)) is are.0)
class_graph enc (class ∷ classes) (suc number) set are has = class_graph enc classes number set are.1 has

-- the points of a class are in the encoding
abbrev pub RowFits : Enc → spec.State → Type 0
RowFits enc (moves ways) = Unit {0}
RowFits enc (leaf ranges) = FitsEncoding enc (set_of ranges)
RowFits enc unit_leaf = Unit {0}

-- a start with this choice, from which the units finish the leaf
pub record Starts (tnfa : Tnfa) (state : State) (choice : List Symbol) (units : List ℕ) : Type 0 where
  pub index : ℕ
  pub rest : ℕ
  pub nth : IsNth (leaf_starts tnfa state) index (choice, rest)
  pub ends : EndsBy tnfa.classes state rest units

module _ (tnfa : Tnfa) (are : AreClasses tnfa.enc tnfa.classes) where
  class_reads : (ranges : List (ℕ × ℕ)) (number : ℕ) (choice : List Symbol) (units : List ℕ) → HasClass tnfa.classes number (set_of ranges)
      → FitsEncoding tnfa.enc (set_of ranges) → PointReading tnfa.enc ranges choice units → Starts tnfa (Class number) choice units
  class_reads ranges number choice units has fits p =
      let graph = class_graph tnfa.enc tnfa.classes number (set_of ranges) are has in
      let within = in_set ranges p.0 p.1 in
      let part = point_part tnfa.enc p.0 (fits p.0 within) in
      let begin =
      part_begins (rows_at tnfa.classes number) tnfa.enc (set_of ranges) graph.1.live (parts tnfa.enc) (starts_at tnfa.classes number) part.0
      graph.1.starts part.1 (record { point = p.0; within = within; low = part.2; high = part.3 }) in
      let same : leaf_choice tnfa.enc (ranges_of (set_of ranges)) part.0.lo ≡ choice =
      ap (λ r. leaf_choice tnfa.enc r part.0.lo) (ranges_of-set_of ranges)
      ∙ part_choice tnfa.enc ranges part.0 p.0 part.1 part.2 part.3 ∙ sym p.2 in
      record {
        index = begin.index;
        rest = begin.rest;
        nth =
            subst (λ s. IsNth (class_starts_of s) begin.index (choice, begin.rest)) (sym graph.0)
            (subst (λ c. IsNth (class_starts_of (set_of ranges)) begin.index (c, begin.rest)) same begin.nth);
        ends =
            finishes_ends tnfa.classes number begin.rest units
            ((begin.is.1 units).1 (p.0, within, part.2, part.3, p.3));
      }
    where
      class_starts_of : List Range → List (List Symbol × ℕ)
      class_starts_of set = class_starts tnfa.enc set (parts tnfa.enc) (starts_at tnfa.classes number)

  -- what is read in a leaf begins with a start
  pub starts_have : (row : spec.State) (state : State) (choice : List Symbol) (units : List ℕ) → Represents tnfa.classes row state
      → RowFits tnfa.enc row → IsReading tnfa.enc row choice units → Starts tnfa state choice units
  starts_have (moves ways) state choice units held fits reading = absurd (code_row tnfa.enc reading ways refl)
  starts_have (leaf ranges) (Moves ways) choice units held fits reading = absurd held
  starts_have (leaf ranges) (Class number) choice units held fits reading =
      class_reads ranges number choice units held fits (reading_point tnfa.enc reading ranges refl)
  starts_have (leaf ranges) AnyUnit choice units held fits reading = absurd held
  starts_have unit_leaf (Moves ways) choice units held fits reading = absurd held
  starts_have unit_leaf (Class number) choice units held fits reading = absurd held
  starts_have unit_leaf AnyUnit choice units held fits reading =
      let u = reading_unit tnfa.enc reading refl in record {
        index = 0;
        rest = 1;
        nth = ap (λ c. (c, 1)) u.1;
        ends = subst (EndsBy tnfa.classes AnyUnit 1) (sym u.2) refl;
      }

  class_read : (ranges : List (ℕ × ℕ)) (number index : ℕ) (choice : List Symbol) (rest : ℕ) (units : List ℕ)
      → HasClass tnfa.classes number (set_of ranges) → IsNth (leaf_starts tnfa (Class number)) index (choice, rest)
      → EndsBy tnfa.classes (Class number) rest units → IsReading tnfa.enc (leaf ranges) choice units
  class_read ranges number index choice rest units has nth ends =
      let graph = class_graph tnfa.enc tnfa.classes number (set_of ranges) are has in
      let start =
      start_stands (rows_at tnfa.classes number) tnfa.enc (set_of ranges) graph.1.live (parts tnfa.enc) (starts_at tnfa.classes number) index
      (choice, rest) graph.1.starts
      (subst (λ s. IsNth (class_starts tnfa.enc s (parts tnfa.enc) (starts_at tnfa.classes number)) index (choice, rest)) graph.0 nth) in
      let point = (start.is.1 units).0 (ends_finishes tnfa.classes number rest units ends) in
      let same : leaf_choice tnfa.enc ranges point.0 ≡ choice =
      sym (part_choice tnfa.enc ranges start.part point.0 start.among point.2 point.3)
      ∙ sym (ap (λ r. leaf_choice tnfa.enc r start.part.lo) (ranges_of-set_of ranges)) ∙ sym start.choice in
      subst (λ c. IsReading tnfa.enc (leaf ranges) c units) same
      (subst (IsReading tnfa.enc (leaf ranges) (leaf_choice tnfa.enc ranges point.0)) (sym point.4)
      (of_point point.0 (set_in ranges point.0 point.1)))

  any_read : (index : ℕ) (choice : List Symbol) (rest : ℕ) (units : List ℕ) → IsNth (leaf_starts tnfa AnyUnit) index (choice, rest)
      → EndsBy tnfa.classes AnyUnit rest units → IsReading tnfa.enc unit_leaf choice units
  any_read zero choice rest [] nth ends =
      let same : 1 ≡ rest = ap (λ (s : List Symbol × ℕ). s.1) nth in
      absurd (false≢true (sym (ap (λ n. nat_eq n 0) (sym same)) ∙ ends))
  any_read zero choice rest (unit ∷ units) nth ends =
      let same : 1 ≡ rest = ap (λ (s : List Symbol × ℕ). s.1) nth in
      let none : [] ≡ choice = ap (λ (s : List Symbol × ℕ). s.0) nth in
      let last : units ≡ [] = finished_only tnfa.classes AnyUnit 0 units refl (subst (λ n. EndsBy tnfa.classes AnyUnit n (unit ∷ units)) (sym same) ends) in
      subst (λ c. IsReading tnfa.enc unit_leaf c (unit ∷ units)) none
      (subst (λ l. IsReading tnfa.enc unit_leaf [] (unit ∷ l)) (sym last) (of_unit unit))
  any_read (suc index) choice rest units nth ends = absurd nth

  -- and a start with units that finish it can be read
  pub starts_read : (row : spec.State) (state : State) (index : ℕ) (choice : List Symbol) (rest : ℕ) (units : List ℕ)
      → Represents tnfa.classes row state → IsNth (leaf_starts tnfa state) index (choice, rest) → EndsBy tnfa.classes state rest units
      → IsReading tnfa.enc row choice units
  starts_read (moves ways) (Moves others) index choice rest units held nth ends = absurd nth
  starts_read (moves ways) (Class number) index choice rest units held nth ends = absurd held
  starts_read (moves ways) AnyUnit index choice rest units held nth ends = absurd held
  starts_read (leaf ranges) (Moves ways) index choice rest units held nth ends = absurd held
  starts_read (leaf ranges) (Class number) index choice rest units held nth ends =
      class_read ranges number index choice rest units held nth ends
  starts_read (leaf ranges) AnyUnit index choice rest units held nth ends = absurd held
  starts_read unit_leaf (Moves ways) index choice rest units held nth ends = absurd held
  starts_read unit_leaf (Class number) index choice rest units held nth ends = absurd held
  starts_read unit_leaf AnyUnit index choice rest units held nth ends = any_read index choice rest units nth ends

  -- the choices of the starts rise
  pub leaf_rise : (state : State) (index later : ℕ) (start second : List Symbol × ℕ) → IsNth (leaf_starts tnfa state) index start
      → IsNth (leaf_starts tnfa state) later second → index < later → Rise start second
  leaf_rise (Moves ways) index later start second nth nth' lt = absurd nth
  leaf_rise (Class number) index later start second nth nth' lt =
      starts_rise tnfa.enc (set_at tnfa.classes number) (starts_at tnfa.classes number) index later start second nth nth' lt
  leaf_rise AnyUnit index zero start second nth nth' lt = absurd (omega arith)
  leaf_rise AnyUnit index (suc later) start second nth nth' lt = absurd nth'

-- so the choices tell the start
pub start_found : (starts : List (List Symbol × ℕ)) (index : ℕ) (start : List Symbol × ℕ)
    → ((index later : ℕ) (start second : List Symbol × ℕ) → IsNth starts index start → IsNth starts later second → index < later → Rise start second)
    → IsNth starts index start → start_picked starts (choices start.0) ≡ start.1
start_found [] index start rise nth = absurd nth
start_found (first ∷ starts) zero start rise nth =
    subst (λ (s : List Symbol × ℕ). start_picked (first ∷ starts) (choices s.0) ≡ s.1) nth
    (ap (λ b. if b then first.1 else start_picked starts (choices first.0))
    (eq-eqb (slice_index (choices first.0) 0) (slice_index (choices first.0) 0) refl))
start_found (first ∷ starts) (suc index) start rise nth =
    let r = rise 0 (suc index) first start refl nth (omega arith) in
    let differ : nat_eq (slice_index (choices first.0) 0) (slice_index (choices start.0) 0) ≡ false =
    ap₂ (λ a b. nat_eq (slice_index a 0) (slice_index b 0)) r.is r.others
    ∙ ne_eqb r.choice r.other (λ e. omega (arith, r.less, e)) in
    ap (λ b. if b then first.1 else start_picked starts (choices start.0)) differ
    ∙ start_found starts index start (λ i j s t h k lt. rise (suc i) (suc j) s t h k (omega arith)) nth
