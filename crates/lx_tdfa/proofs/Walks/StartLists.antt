-- The starts of a leaf are listed in their order, and those that a unit leads on from keep their order.
use Rattle.std.proofs.Common.{◌≡◌, ℕ, zero, suc, ◌<◌, arith, Bool, true, false, List, [], ◌∷◌, length, refl, sym, ap, ◌∙◌, subst, Some, None, ⊎_elim}
use Rattle.std.proofs.lemmas.Bool.{false≢true}
use Rattle.std.specs.List.{cons_option}
use Rattle.std.specs.Prelude.{Option, filter_map, if◌then◌else◌}
use Rattle.lx_base.specs.declared.settings.Enc.{Enc}
use Rattle.lx_class.specs.declared.ranges.Range.{Range}
use Rattle.lx_encode.specs.Graph.{AreStarts}
use Rattle.lx_encode.specs.Table.{Finishes, Rows}
use Rattle.lx_encode.specs.declared.graph.Residual.{Residual}
use Rattle.lx_regex.specs.Expr.{ranges_of}
use Rattle.lx_regex.specs.Script.{Symbol, leaf_choice}
use Rattle.lx_tnfa.specs.LeafReadings.{IsNth}
use Rattle.lx_tnfa.specs.PlaceNumbers.{class_starts, has_point}
use Rattle.lx_tnfa.proofs.Leaves.ClassStarts.{has_start, point_found}

-- a start with a choice is a start
pub start_listed : (enc : Enc) (set : List Range) (all : List Range) (starts : List Residual) (index : ℕ) (start : List Symbol × ℕ)
    → IsNth (class_starts enc set all starts) index start → (rest : Residual) × IsNth starts index rest × (rest.0 ≡ start.1)
start_listed enc set [] starts index start nth = absurd nth
start_listed enc set (part ∷ others) [] index start nth = absurd nth
start_listed enc set (part ∷ others) (first ∷ starts) index start nth =
    at (has_point set part) index nth (λ more. start_listed enc set others (first ∷ starts) index start more)
    (λ index more. start_listed enc set others starts index start more)
  where
    at : (b : Bool) (index : ℕ)
        → IsNth {X = List Symbol × ℕ} (if b then (leaf_choice enc (ranges_of set) part.lo, first.0) ∷ class_starts enc set others starts else class_starts enc set others (first ∷ starts)) index start
        → (IsNth (class_starts enc set others (first ∷ starts)) index start → (rest : Residual) × IsNth (first ∷ starts) index rest × (rest.0 ≡ start.1))
        → ((index : ℕ) → IsNth (class_starts enc set others starts) index start → (rest : Residual) × IsNth starts index rest × (rest.0 ≡ start.1))
        → (rest : Residual) × IsNth (first ∷ starts) index rest × (rest.0 ≡ start.1)
    at true zero nth without with = (first, refl, ap (λ (s : List Symbol × ℕ). s.1) nth)
    at true (suc index) nth without with = with index nth
    at false index nth without with = without nth

module _ (rows : Rows) (enc : Enc) (set : List Range) (live : (rest : ℕ) → rest < length rows → (units : List ℕ) × Finishes rows rest units) where
  -- a start has a choice
  pub start_chosen : (all : List Range) (starts : List Residual) (index : ℕ) (rest : Residual) → AreStarts rows enc set all starts
      → IsNth starts index rest → (choice : List Symbol) × IsNth (class_starts enc set all starts) index (choice, rest.0)
  start_chosen [] starts index rest are nth = absurd (subst (λ l. IsNth l index rest) are nth)
  start_chosen (part ∷ others) [] index rest are nth = absurd nth
  start_chosen (part ∷ others) (first ∷ starts) index rest are nth =
      at (has_point set part) refl index nth (λ more. start_chosen others (first ∷ starts) index rest more nth)
      (λ index more nth. start_chosen others starts index rest more nth)
    where
      at : (b : Bool) → has_point set part ≡ b → (index : ℕ) → IsNth (first ∷ starts) index rest
          → (AreStarts rows enc set others (first ∷ starts) → (choice : List Symbol) × IsNth (class_starts enc set others (first ∷ starts)) index (choice, rest.0))
          → ((index : ℕ) → AreStarts rows enc set others starts → IsNth starts index rest → (choice : List Symbol) × IsNth (class_starts enc set others starts) index (choice, rest.0))
          → (choice : List Symbol)
          × IsNth {X = List Symbol × ℕ} (if b then (leaf_choice enc (ranges_of set) part.lo, first.0) ∷ class_starts enc set others starts else class_starts enc set others (first ∷ starts)) index (choice, rest.0)
      at true e index nth without with =
          ⊎_elim
          (λ none. let p = point_found set part e in absurd (none.0 p.point p.within p.low p.high))
          (λ some.
          let same : some.1 ≡ starts = cc in
          one index nth (subst (AreStarts rows enc set others) same some.4))
          are
        where
          one : (index : ℕ) → IsNth (first ∷ starts) index rest → AreStarts rows enc set others starts
              → (choice : List Symbol) × IsNth {X = List Symbol × ℕ} ((leaf_choice enc (ranges_of set) part.lo, first.0) ∷ class_starts enc set others starts) index (choice, rest.0)
          one zero nth more = (leaf_choice enc (ranges_of set) part.lo, ap (λ (r : Residual). (leaf_choice enc (ranges_of set) part.lo, r.0)) nth)
          one (suc index) nth more = with index more nth
      at false e index nth without with =
          ⊎_elim (λ none. without none.1) (λ some. absurd (false≢true (sym e ∙ has_start rows enc set live part some.0 some.3))) are

-- how many elements before an index are kept
module _ {X Y : Type 0} (h : X → Option Y) where
  abbrev pub rank_after : Option Y → ℕ → ℕ
  rank_after None number = number
  rank_after (Some y) number = suc number

  abbrev pub rank : List X → (index : ℕ) → ℕ
  rank [] index = 0
  rank (x ∷ xs) zero = 0
  rank (x ∷ xs) (suc index) = rank_after (h x) (rank xs index)

  pub rank_nth : (xs : List X) (index : ℕ) (x : X) (y : Y) → IsNth xs index x → h x ≡ Some y → IsNth (filter_map h xs) (rank xs index) y
  rank_nth [] index x y nth e = absurd nth
  rank_nth (z ∷ xs) zero x y nth e = subst (λ o. IsNth (cons_option o (filter_map h xs)) 0 y) (sym (ap h nth ∙ e)) refl
  rank_nth (z ∷ xs) (suc index) x y nth e = at (h z) (rank_nth xs index x y nth e)
    where
      at : (o : Option Y) → IsNth (filter_map h xs) (rank xs index) y → IsNth (cons_option o (filter_map h xs)) (rank_after o (rank xs index)) y
      at None r = r
      at (Some w) r = r

  -- the element from which one came that was kept
  pub record Ranked (xs : List X) (pick : ℕ) (y : Y) : Type 0 where
    pub index : ℕ
    pub x : X
    pub nth : IsNth xs index x
    pub is : h x ≡ Some y
    pub at : pick ≡ rank xs index

  pub nth_ranked : (xs : List X) (pick : ℕ) (y : Y) → IsNth (filter_map h xs) pick y → Ranked xs pick y
  nth_ranked [] pick y nth = absurd nth
  nth_ranked (x ∷ xs) pick y nth = at (h x) refl pick nth (λ pick more. nth_ranked xs pick y more)
    where
      later : (o : Option Y) (pick : ℕ) → h x ≡ o → Ranked xs pick y → Ranked (x ∷ xs) (rank_after o pick) y
      later o pick e r = record {
        index = suc r.index;
        x = r.x;
        nth = r.nth;
        is = r.is;
        at = ap (rank_after o) r.at ∙ ap (λ p. rank_after p (rank xs r.index)) (sym e);
      }

      at : (o : Option Y) → h x ≡ o → (pick : ℕ) → IsNth (cons_option o (filter_map h xs)) pick y
          → ((pick : ℕ) → IsNth (filter_map h xs) pick y → Ranked xs pick y) → Ranked (x ∷ xs) pick y
      at None e pick nth more = later None pick e (more pick nth)
      at (Some z) e zero nth more = record { index = 0; x = x; nth = refl; is = e ∙ ap Some nth; at = refl }
      at (Some z) e (suc pick) nth more = later (Some z) pick e (more pick nth)

  pub rank_less : (xs : List X) (index later : ℕ) (x : X) (y : Y) → IsNth xs index x → h x ≡ Some y → index < later
      → rank xs index < rank xs later
  rank_less [] index later x y nth e lt = absurd nth
  rank_less (z ∷ xs) index zero x y nth e lt = absurd (omega arith)
  rank_less (z ∷ xs) zero (suc later) x y nth e lt = at (h z) (ap h nth ∙ e)
    where
      at : (o : Option Y) → o ≡ Some y → 0 < rank_after o (rank xs later)
      at None e = cc
      at (Some w) e = omega arith
  rank_less (z ∷ xs) (suc index) (suc later) x y nth e lt = at (h z) (rank_less xs index later x y nth e (omega arith))
    where
      at : (o : Option Y) → rank xs index < rank xs later → rank_after o (rank xs index) < rank_after o (rank xs later)
      at None r = r
      at (Some w) r = omega arith
