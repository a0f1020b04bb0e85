-- One more than the number of the tests is that of the longest runs of units that go one way.
use Rattle.std.specs.Prelude.{◌≡◌, ◌≢◌, ℕ, zero, suc, ◌+◌, ◌-◌, ◌<◌, ◌≤◌, not, Bool, true, false, List, [], ◌∷◌, length, Option, if◌then◌else◌, refl}
use Rattle.std.proofs.Common.{sym, ap, ap₂, ◌∙◌, arith, le-leb, true≢false}
use Rattle.std.proofs.lemmas.Bool.{lt-leb}
use Rattle.lx_auto.specs.Automaton.{AreApart}
use Rattle.lx_auto.specs.declared.automaton.Edge.{Edge}
use Rattle.lx_dispatch.specs.Dispatch.{top_of}
use Rattle.lx_dispatch.specs.LeftUnits.{left_split}
use Rattle.lx_dispatch.specs.Runs.{AreDifferent, AreLongestRuns, EachHasUnit, changes, is_read, reader_way, run_count, runs_up_to, ways_from}
use Rattle.lx_dispatch.specs.TestTrees.{class_on, split_class}
use Rattle.lx_dispatch.specs.TransitionClasses.{Split, Stretch, first_class, same_place}
use Rattle.lx_dispatch.specs.UnitApart.{reader_split}
use Rattle.lx_dispatch.proofs.LeftRuns.{longest-left_split, split_class-left}
use Rattle.lx_dispatch.proofs.LongestRuns.{RiseTo-within, longest-reader_split, rise-each, same_place-itself, split_class-reader_split}
use Rattle.lx_dispatch.proofs.SplitLoops.{same_place-same}

-- a row of ways begins with a way
abbrev Begins : Option ℕ → List (Option ℕ) → Type 0
Begins way [] = ⊥
Begins way (first ∷ ways) = first ≡ way

changes-other : (way next : Option ℕ) (row : List (Option ℕ)) → way ≢ next → Begins next row → changes way row ≡ run_count row
changes-other way next [] other begins = absurd begins
changes-other way next (first ∷ row) other begins = by (same_place way first) refl
  where
    by : (t : Bool) → same_place way first ≡ t → (if t then changes first row else suc (changes first row)) ≡ suc (changes first row)
    by true e = absurd (other (same_place-same way first e ∙ begins))
    by false e = refl

changes-same : (way first : Option ℕ) (row : List (Option ℕ)) → first ≡ way → changes way (first ∷ row) ≡ changes way row
changes-same way first row same =
    ap (λ w. changes way (w ∷ row)) same
    ∙ ap (λ (t : Bool). if t then changes way row else suc (changes way row)) (same_place-itself way)

module _ (counts : ℕ → Bool) (way : ℕ → Option ℕ) where
  -- so many units that go one way if they count, and others behind them
  same-run : (class : Option ℕ) (many count total low next : ℕ) → total ≡ many + count → next ≡ low + many
      → ((unit : ℕ) → low ≤ unit → unit < next → counts unit ≡ true → way unit ≡ class)
      → changes class (ways_from counts way low total) ≡ changes class (ways_from counts way next count)
  same-run class zero count total low next sum end each =
      ap₂ (λ n m. changes class (ways_from counts way n m)) (omega (arith, end)) (omega (arith, sum))
  same-run class (suc many) count zero low next sum end each = absurd (omega (arith, sum))
  same-run class (suc many) count (suc total) low next sum end each =
      by (counts low) refl (same-run class many count total (suc low) next (omega (arith, sum)) (omega (arith, end))
      (λ unit from to. each unit (omega (arith, from)) to))
    where
      by : (t : Bool) → counts low ≡ t
          → changes class (ways_from counts way (suc low) total) ≡ changes class (ways_from counts way next count)
          → changes class (if t then way low ∷ ways_from counts way (suc low) total else ways_from counts way (suc low) total)
          ≡ changes class (ways_from counts way next count)
      by true is again =
          changes-same class (way low) (ways_from counts way (suc low) total) (each low (omega arith) (omega (arith, end)) is) ∙ again
      by false is again = again

  -- the first of them that counts begins a run
  first-run : (class : Option ℕ) (many count total low next : ℕ) → total ≡ many + count → next ≡ low + many
      → ((unit : ℕ) → low ≤ unit → unit < next → counts unit ≡ true → way unit ≡ class)
      → (found : ℕ) → low ≤ found → found < next → counts found ≡ true
      → Begins class (ways_from counts way low total)
      × (run_count (ways_from counts way low total) ≡ suc (changes class (ways_from counts way next count)))
  first-run class zero count total low next sum end each found from to is = absurd (omega (arith, end, from, to))
  first-run class (suc many) count zero low next sum end each found from to is = absurd (omega (arith, sum))
  first-run class (suc many) count (suc total) low next sum end each found from to is =
      by (counts low) refl (λ more. first-run class many count total (suc low) next (omega (arith, sum)) (omega (arith, end))
      (λ unit above below. each unit (omega (arith, above)) below) found more to is)
      (same-run class many count total (suc low) next (omega (arith, sum)) (omega (arith, end))
      (λ unit above below. each unit (omega (arith, above)) below))
    where
      by : (t : Bool) → counts low ≡ t
          → (suc low ≤ found → Begins class (ways_from counts way (suc low) total)
          × (run_count (ways_from counts way (suc low) total) ≡ suc (changes class (ways_from counts way next count))))
          → changes class (ways_from counts way (suc low) total) ≡ changes class (ways_from counts way next count)
          → Begins class (if t then way low ∷ ways_from counts way (suc low) total else ways_from counts way (suc low) total)
          × (run_count (if t then way low ∷ ways_from counts way (suc low) total else ways_from counts way (suc low) total)
          ≡ suc (changes class (ways_from counts way next count)))
      by true own again behind =
          let same = each low (omega arith) (omega (arith, end)) own in
          (same, ap (λ w. suc (changes w (ways_from counts way (suc low) total))) same ∙ ap suc behind)
      by false own again behind =
          let other : found ≢ low = λ same. true≢false (sym is ∙ ap counts same ∙ own) in again (omega (arith, from, other))

  number-from : (top low count : ℕ) (list : List Stretch) (last : Option ℕ) → low + count ≡ suc top → EachHasUnit counts top low list
      → AreDifferent list last → ((unit : ℕ) → low ≤ unit → unit ≤ top → counts unit ≡ true → way unit ≡ class_on list last unit)
      → Begins (first_class list last) (ways_from counts way low count) × (run_count (ways_from counts way low count) ≡ suc (length list))
  number-from top low count [] last sum each differ goes =
      first-run last count 0 count low (low + count) (omega arith) refl (λ unit from to is. goes unit from (omega (arith, to, sum)) is)
      each.0 each.1 (omega (arith, each.2, sum)) each.3
  number-from top low count (stretch ∷ list) last sum each differ goes =
      let within = RiseTo-within top (suc stretch.greatest) list (rise-each counts top (suc stretch.greatest) list each.1) in
      let from_low : low ≤ stretch.greatest = omega (arith, each.0.1, each.0.2) in
      let rest = suc top - suc stretch.greatest in
      let more = number-from top (suc stretch.greatest) rest list last (omega (arith, within)) each.1 differ.1
      (λ unit from to is. goes unit (omega (arith, from, from_low)) to is
      ∙ ap (λ (t : Bool). if t then stretch.class else class_on list last unit) (lt-leb unit stretch.greatest from)) in
      let run = first-run stretch.class (suc stretch.greatest - low) rest count low (suc stretch.greatest) (omega (arith, sum, within, from_low))
      (omega (arith, from_low)) (λ unit from to is. goes unit from (omega (arith, to, within)) is
      ∙ ap (λ (t : Bool). if t then stretch.class else class_on list last unit) (le-leb unit stretch.greatest (omega (arith, to))))
      each.0.0 each.0.1 (omega (arith, each.0.2)) each.0.3 in (
        run.0,
        run.1 ∙ ap suc (changes-other stretch.class (first_class list last) (ways_from counts way (suc stretch.greatest) rest) differ.0 more.0 ∙ more.1),
      )

pub number-runs : (counts : ℕ → Bool) (way : ℕ → Option ℕ) (top : ℕ) (split : Split) → AreLongestRuns counts top split
    → ((unit : ℕ) → unit ≤ top → counts unit ≡ true → split_class split unit ≡ way unit) → suc (length split.tests) ≡ runs_up_to counts way top
number-runs counts way top split are goes =
    sym (number-from counts way top 0 (suc top) split.tests split.last (omega arith) are.each are.different (λ unit from to is. sym (goes unit to is))).1

pub number-reader_split : (eof : Option ℕ) (greatest : ℕ) (edges : List Edge) → AreApart edges
    → suc (length (reader_split eof greatest edges).tests) ≡ runs_up_to (is_read eof greatest) (reader_way eof edges) (top_of eof greatest)
number-reader_split eof greatest edges apart =
    number-runs (is_read eof greatest) (reader_way eof edges) (top_of eof greatest) (reader_split eof greatest edges)
    (longest-reader_split eof greatest edges apart) (λ unit le read. split_class-reader_split eof greatest edges unit apart read)

pub number-left_split : (counts decided : ℕ → Bool) (top unit : ℕ) (split : Split) → EachHasUnit counts top 0 split.tests → unit ≤ top
    → decided unit ≡ false
    → suc (length (left_split decided top split).tests) ≡ runs_up_to (λ other. not (decided other)) (split_class split) top
number-left_split counts decided top unit split each le open_ =
    number-runs (λ other. not (decided other)) (split_class split) top (left_split decided top split)
    (longest-left_split counts decided top unit split each le open_)
    (λ other within is. split_class-left counts decided top other split each within (undecided (decided other) is))
  where
    undecided : (t : Bool) → not t ≡ true → t ≡ false
    undecided true is = absurd (true≢false (sym is))
    undecided false is = refl
