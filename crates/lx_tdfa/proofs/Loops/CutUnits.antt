-- How far the ranges between cuts have come.
use Rattle.std.proofs.Common.{◌≡◌, inl, inr, ℕ, zero, suc, ◌+◌, ◌<◌, ◌≤◌, List, [], ◌∷◌, length, Option, Some, None, refl, sym, subst, arith}
use Rattle.std.proofs.lemmas.Bool.{cases_lt}
use Rattle.std.proofs.lemmas.Option.{slice_get_past}
use Rattle.std.specs.Prelude.{slice_get}
use Rattle.lx_tnfa.specs.Tnfa.{Tnfa}
use Rattle.lx_tnfa.specs.declared.closure.Reach.{Reach}
use Rattle.lx_tdfa.specs.Edges.{CutSteps, IsAscending, IsRangeEmpty, IsRangeEnd, StandsBefore}
use Rattle.lx_tdfa.specs.Steps.{next_steps}
use Rattle.lx_tdfa.proofs.Loops.EdgeLoops.{range-none}
use Rattle.lx_tdfa.proofs.Loops.EdgeSteps.{next_steps-alike}

-- the units that stand before a cut, up to the greatest, are those below a bound
pub record IsAtCut (cut : Option ℕ) (greatest bound : ℕ) : Type 0 where
  pub before : (unit : ℕ) → unit ≤ greatest → StandsBefore cut unit → unit < bound
  pub behind : (unit : ℕ) → unit ≤ greatest → unit < bound → StandsBefore cut unit
  pub most : bound ≤ greatest + 1

pub cuts-start : (cuts : List ℕ) (greatest : ℕ) → slice_get cuts 0 ≡ Some 0 → IsAtCut (slice_get cuts 0) greatest 0
cuts-start cuts greatest first = record {
  before = λ unit low stands. subst (λ o. StandsBefore o unit) first stands;
  behind = λ unit low less. absurd (omega arith);
  most = omega arith;
}

-- where no cut is left all units are passed
pub cuts-all : (cuts : List ℕ) (index greatest bound : ℕ) → length cuts ≤ index → IsAtCut (slice_get cuts index) greatest bound
    → bound ≡ greatest + 1
cuts-all cuts index greatest bound all at =
    let passed : greatest < bound =
    at.before greatest (omega arith) (subst (λ o. StandsBefore o greatest) (sym (slice_get_past cuts index all)) tt) in
    let most : bound ≤ greatest + 1 = at.most in omega arith

module _ (cuts : List ℕ) (ascending : IsAscending cuts) (index greatest bound : ℕ) (at : IsAtCut (slice_get cuts index) greatest bound) where
  -- what stands before a cut stands before the next one
  stands-next : (unit : ℕ) → StandsBefore (slice_get cuts index) unit → StandsBefore (slice_get cuts (suc index)) unit
  stands-next unit stands = by (slice_get cuts index) (slice_get cuts (suc index)) refl refl stands
    where
      gone : (xs : List ℕ) (k x : ℕ) → slice_get xs k ≡ None → slice_get xs (suc k) ≡ Some x → ⊥
      gone [] k x none some = cc
      gone (y ∷ xs) zero x none some = cc
      gone (y ∷ xs) (suc k) x none some = gone xs k x none some

      by : (one next : Option ℕ) → slice_get cuts index ≡ one → slice_get cuts (suc index) ≡ next → StandsBefore one unit → StandsBefore next unit
      by one None is also stands = tt
      by None (Some cut) is also stands = absurd (gone cuts index cut is also)
      by (Some own) (Some cut) is also stands =
          let up : own ≤ cut = ascending index (suc index) own cut (omega arith) is also in omega arith

  -- a range without units
  pub cuts-empty : IsRangeEmpty cuts index greatest → IsAtCut (slice_get cuts (suc index)) greatest bound
  cuts-empty empty = record {
    before = λ unit low stands. at.before unit low (empty unit low stands);
    behind = λ unit low less. stands-next unit (at.behind unit low less);
    most = at.most;
  }

  module _ (last : ℕ) (range : IsRangeEnd cuts index greatest last) where
    -- it begins at the bound
    pub cut-bound : range.cut ≡ bound
    cut-bound =
        let low : range.cut ≤ last = range.some in
        let high : last ≤ greatest = range.within in
        let least : bound ≤ range.cut = elim (cases_lt range.cut bound) [
          | inl less ↦
              let stands : range.cut < range.cut =
              subst (λ o. StandsBefore o range.cut) range.first (at.behind range.cut (omega arith) less) in absurd (omega arith)
          | inr ge ↦ ge
        ] in
        let most : range.cut ≤ bound = elim (cases_lt bound range.cut) [
          | inl less ↦
              let passed : bound < bound =
              at.before bound (omega arith) (subst (λ o. StandsBefore o bound) (sym range.first) less) in absurd (omega arith)
          | inr ge ↦ ge
        ] in
        omega arith

    stands-last : (unit : ℕ) → unit ≤ last → StandsBefore (slice_get cuts (suc index)) unit
    stands-last unit low = by (slice_get cuts (suc index)) range.before
      where
        by : (o : Option ℕ) → StandsBefore o last → StandsBefore o unit
        by None stands = tt
        by (Some cut) stands = omega arith

    -- and ends before the next one
    pub cuts-next : IsAtCut (slice_get cuts (suc index)) greatest (last + 1)
    cuts-next =
        let high : last ≤ greatest = range.within in
        record {
          before = λ unit low stands. let below : unit ≤ last = range.all unit low stands in omega arith;
          behind = λ unit low less. stands-last unit (omega arith);
          most = omega arith;
        }

    -- its units lead alike
    pub cut-steps : (tnfa : Tnfa) (reaches : List Reach) → CutSteps tnfa reaches cuts → (unit : ℕ) → range.cut ≤ unit → unit ≤ last
        → next_steps tnfa unit reaches ≡ next_steps tnfa range.cut reaches
    cut-steps tnfa reaches separate unit from below =
        sym (next_steps-alike tnfa reaches cuts separate range.cut unit from
        (range-none cuts index greatest last ascending range unit from (stands-last unit below)))
