-- The stretches that are left, one stretch after another.
use Rattle.std.proofs.Common.{◌≡◌, ℕ, suc, ◌+◌, ◌-◌, ◌<◌, ◌≤◌, Bool, true, false, ◌&&◌, if◌then◌else◌, List, [], ◌∷◌, ◌++◌, length, drop, get_or, Option, Some, None, add-one, refl, sym, ap, ◌∙◌, arith}
use Rattle.std.specs.Prelude.{unwrap_or}
use Rattle.std.proofs.Math.ListN.{drop_of_length-le}
use Rattle.std.proofs.lemmas.List.{append-nil, append_assoc, drop_more}
use Rattle.lx_dispatch.specs.FirstQuestions.{waiting_tests}
use Rattle.lx_dispatch.specs.LeftUnits.{all_between, all_from, left_before, left_from, left_split}
use Rattle.lx_dispatch.specs.TransitionClasses.{Split, Stretch, first_class, same_place}
use Rattle.lx_dispatch.specs.Views.{seen_stretch, seen_stretches}
use Rattle.lx_dispatch.specs.declared.unit_splits.Stretch as held
use Rattle.lx_dispatch.proofs.SplitLoops.{same_place-same}

-- ---- units, one after another

pub all_from-passed : (test : ℕ → Bool) (unit greatest : ℕ) → unit < suc greatest → test unit ≡ true
    → all_from test (unit + 1) (suc greatest - (unit + 1)) ≡ all_from test unit (suc greatest - unit)
all_from-passed test unit greatest within is =
    let next : unit + 1 ≡ suc unit = omega arith in
    let more : suc greatest - unit ≡ suc (suc greatest - suc unit) = omega arith in
    ap (λ n. all_from test n (suc greatest - n)) next
    ∙ ap (λ (t : Bool). t && all_from test (suc unit) (suc greatest - suc unit)) (sym is) ∙ ap (λ n. all_from test unit n) (sym more)

-- ---- stretches

-- tests before others
abbrev pub onto : List Stretch → Option Split → Option Split
onto tests None = None
onto tests (Some split) = Some (record { tests = tests ++ split.tests; last = split.last })

onto-onto : (front middle : List Stretch) (split : Option Split) → onto (front ++ middle) split ≡ onto front (onto middle split)
onto-onto front middle None = refl
onto-onto front middle (Some split) =
    ap (λ (l : List Stretch). Some (record { tests = l; last = split.last })) (append_assoc front middle split.tests)

module _ (decided : ℕ → Bool) (top : ℕ) where
  -- a stretch that waits before others
  abbrev pub joined : Option held.Stretch → Option Split → Option Split
  joined None split = split
  joined (Some stretch) split = Some (left_before decided top (seen_stretch stretch) split)

  pub first_class-left_before : (stretch : Stretch) (split : Option Split)
      → first_class (left_before decided top stretch split).tests (left_before decided top stretch split).last ≡ stretch.class
  first_class-left_before stretch None = refl
  first_class-left_before stretch (Some split) = by (same_place stretch.class (first_class split.tests split.last)) refl
    where
      by : (t : Bool) → same_place stretch.class (first_class split.tests split.last) ≡ t
          → first_class (if t then split else record { tests = stretch ∷ split.tests; last = split.last }).tests
          (if t then split else record { tests = stretch ∷ split.tests; last = split.last }).last ≡ stretch.class
      by true e = sym (same_place-same stretch.class (first_class split.tests split.last) e)
      by false e = refl

  joined-some : (waiting : Option held.Stretch) (split : Split) (class : Option ℕ) → first_class split.tests split.last ≡ class
      → joined waiting (Some split) ≡ onto (waiting_tests waiting class) (Some split)
  joined-some None split class e = refl
  joined-some (Some stretch) split class e =
      ap (λ way. Some (if same_place stretch.class way then split else record { tests = seen_stretch stretch ∷ split.tests; last = split.last })) e
      ∙ by (same_place stretch.class class)
    where
      by : (t : Bool) → Some (if t then split else record { tests = seen_stretch stretch ∷ split.tests; last = split.last })
          ≡ onto (if t then [] else seen_stretch stretch ∷ []) (Some split)
      by true = refl
      by false = refl

  -- what is left so far, and what is still to come of the whole
  module _ (stretches : List held.Stretch) (index low : ℕ) (last : Option ℕ) (front : List Stretch) (waiting : Option held.Stretch) (whole : Option Split)
      (so_far : onto front (joined waiting (left_from decided top low (seen_stretches (drop index stretches)) last)) ≡ whole) where
    module _ (none : held.Stretch) (within : index < length stretches) (next : ℕ) (next_is : next ≡ (get_or stretches index none).greatest + 1) where
      abbrev stretch : held.Stretch
      stretch = get_or stretches index none

      abbrev rest : Option Split
      rest = left_from decided top (suc stretch.greatest) (seen_stretches (drop (index + 1) stretches)) last

      rest_is : left_from decided top next (seen_stretches (drop (index + 1) stretches)) last ≡ rest
      rest_is = ap (λ n. left_from decided top n (seen_stretches (drop (index + 1) stretches)) last) (next_is ∙ add-one stretch.greatest)

      here : (t : Bool) → all_between decided low stretch.greatest ≡ t
          → left_from decided top low (seen_stretches (drop index stretches)) last ≡ (if t then rest else Some (left_before decided top (seen_stretch stretch) rest))
      here t is =
          ap (λ l. left_from decided top low (seen_stretches l) last) (drop_more stretches index none within)
          ∙ ap (λ (b : Bool). if b then rest else Some (left_before decided top (seen_stretch stretch) rest)) is

      pub left-decided : all_between decided low (get_or stretches index none).greatest ≡ true
          → onto front (joined waiting (left_from decided top next (seen_stretches (drop (index + 1) stretches)) last)) ≡ whole
      left-decided is = ap (λ split. onto front (joined waiting split)) (rest_is ∙ sym (here true is)) ∙ so_far

      pub left-open : all_between decided low (get_or stretches index none).greatest ≡ false
          → (middle : List Stretch) → middle ≡ front ++ waiting_tests waiting (get_or stretches index none).class
          → onto middle (joined (Some (get_or stretches index none)) (left_from decided top next (seen_stretches (drop (index + 1) stretches)) last)) ≡ whole
      left-open is middle written =
          let own = left_before decided top (seen_stretch stretch) rest in
          ap (λ split. onto middle (Some (left_before decided top (seen_stretch stretch) split))) rest_is
          ∙ ap (λ (l : List Stretch). onto l (Some own)) written ∙ onto-onto front (waiting_tests waiting stretch.class) (Some own)
          ∙ ap (λ split. onto front split) (sym (joined-some waiting own stretch.class (first_class-left_before (seen_stretch stretch) rest)))
          ∙ ap (λ split. onto front (joined waiting split)) (sym (here false is)) ∙ so_far

    module _ (ended : length stretches ≤ index) where
      behind : (t : Bool) → all_between decided low top ≡ t
          → left_from decided top low (seen_stretches (drop index stretches)) last ≡ (if t then None else Some (record { tests = []; last = last }))
      behind t is =
          ap (λ l. left_from decided top low (seen_stretches l) last) (drop_of_length-le stretches ended)
          ∙ ap (λ (b : Bool). if b then None else Some (record { tests = []; last = last })) is

      pub left-open_last : all_between decided low top ≡ false → (middle : List Stretch) → middle ≡ front ++ waiting_tests waiting last
          → Some (record { tests = middle; last = last }) ≡ whole
      left-open_last is middle written =
          let end : Split = record { tests = []; last = last } in
          ap (λ (l : List Stretch). Some (record { tests = l; last = last })) (sym (append-nil middle))
          ∙ ap (λ (l : List Stretch). onto l (Some end)) written ∙ onto-onto front (waiting_tests waiting last) (Some end)
          ∙ ap (λ split. onto front split) (sym (joined-some waiting end last refl))
          ∙ ap (λ split. onto front (joined waiting split)) (sym (behind false is)) ∙ so_far

      pub left-waiting : all_between decided low top ≡ true → (stretch : held.Stretch) → waiting ≡ Some stretch
          → Some (record { tests = front; last = stretch.class }) ≡ whole
      left-waiting is stretch waits =
          ap (λ (l : List Stretch). Some (record { tests = l; last = stretch.class })) (sym (append-nil front))
          ∙ ap (λ w. onto front (joined w None)) (sym waits) ∙ ap (λ split. onto front (joined waiting split)) (sym (behind true is)) ∙ so_far

      pub left-none : all_between decided low top ≡ true → waiting ≡ None → None ≡ whole
      left-none is waits =
          ap (λ w. onto front (joined w None)) (sym waits) ∙ ap (λ split. onto front (joined waiting split)) (sym (behind true is)) ∙ so_far

-- the whole
pub left_split-some : (decided : ℕ → Bool) (top : ℕ) (split left : Split) → Some left ≡ left_from decided top 0 split.tests split.last
    → left ≡ left_split decided top split
left_split-some decided top split left is = ap (λ found. unwrap_or found (record { tests = []; last = split.last })) is

pub left_split-none : (decided : ℕ → Bool) (top : ℕ) (split : Split) → None ≡ left_from decided top 0 split.tests split.last
    → record { tests = []; last = split.last } ≡ left_split decided top split
left_split-none decided top split is = ap (λ found. unwrap_or found (record { tests = []; last = split.last })) is
