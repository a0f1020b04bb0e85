-- The number of two ways from one state is that of their rests behind the front that they have in common.
use Rattle.std.proofs.Common.{sym, ap, ap₂, ◌∙◌, subst, arith}
use Rattle.std.proofs.Math.Seq.{drop-append_seam}
use Rattle.std.proofs.lemmas.Bool.{eq-eqb}
use Rattle.std.specs.Prelude.{◌≡◌, ℕ, suc, ◌<◌, min, List, [], ◌∷◌, ◌++◌, length, drop, take, get_or, if◌then◌else◌, refl}
use Rattle.lx_tnfa.specs.Tnfa.{Tnfa}
use Rattle.lx_posix.specs.Courses.{shared}
use Rattle.lx_posix.specs.Spots.{spots_on}
use Rattle.lx_posix.specs.WayNumbers.{FitsOnWay, depth_behind, lowest_on_way, next_state, number_of_fork}
use Rattle.lx_posix.specs.declared.spots.Spot.{Spot}
use Rattle.lx_posix.proofs.CodeReaches.WayCourses.{Parted, parted, shared_within}

module _ (tnfa : Tnfa) where
  -- where a way leads
  abbrev spot_behind : (state depth : ℕ) → List ℕ → Spot
  spot_behind state depth [] = record { state = state; depth = depth }
  spot_behind state depth (index ∷ way) =
      spot_behind (next_state tnfa state index) (depth_behind depth (next_state tnfa state index)) way

  spots_length : (state depth : ℕ) (way : List ℕ) → length (spots_on tnfa state depth way) ≡ suc (length way)
  spots_length state depth [] = refl
  spots_length state depth (index ∷ way) =
      let next = next_state tnfa state index in ap suc (spots_length next (depth_behind depth next) way)

  spot_read : (state depth : ℕ) (front rest : List ℕ) (other : Spot)
      → get_or (spots_on tnfa state depth (front ++ rest)) (length front) other ≡ spot_behind state depth front
  spot_read state depth [] [] other = refl
  spot_read state depth [] (index ∷ rest) other = refl
  spot_read state depth (index ∷ front) rest other =
      let next = next_state tnfa state index in spot_read next (depth_behind depth next) front rest other

  spots_split : (state depth : ℕ) (front rest more : List ℕ)
      → take (length front) (spots_on tnfa state depth (front ++ rest))
      ++ spots_on tnfa (spot_behind state depth front).state (spot_behind state depth front).depth more
      ≡ spots_on tnfa state depth (front ++ more)
  spots_split state depth [] rest more = refl
  spots_split state depth (index ∷ front) rest more =
      let next = next_state tnfa state index in
      ap (λ l. record { state = state; depth = depth } ∷ l) (spots_split next (depth_behind depth next) front rest more)

  fits_split : (state depth : ℕ) (front more : List ℕ) → FitsOnWay tnfa state depth (front ++ more)
      → FitsOnWay tnfa (spot_behind state depth front).state (spot_behind state depth front).depth more
  fits_split state depth [] more fits = fits
  fits_split state depth (index ∷ front) more fits =
      let next = next_state tnfa state index in fits_split next (depth_behind depth next) front more fits.2

  fork_split : (state depth : ℕ) (front rest more : List ℕ)
      → number_of_fork tnfa state depth (front ++ rest) (front ++ more)
      ≡ number_of_fork tnfa (spot_behind state depth front).state (spot_behind state depth front).depth rest more
  fork_split state depth [] rest more = refl
  fork_split state depth (index ∷ front) rest more =
      let next = next_state tnfa state index in
      ap
      (λ b. if b then number_of_fork tnfa next (depth_behind depth next) (front ++ rest) (front ++ more)
      else min (lowest_on_way tnfa state depth depth (index ∷ (front ++ rest))) (lowest_on_way tnfa state depth depth (index ∷ (front ++ more))))
      (eq-eqb index index refl)
      ∙ fork_split next (depth_behind depth next) front rest more

  -- Two ways, from the spot behind the moves that they have in common.
  module _ (state depth : ℕ) (before way : List ℕ) (spots : List Spot) (are : spots ≡ spots_on tnfa state depth before)
      (count : ℕ) (same : count ≡ shared before way) where
    both : Parted (shared before way) before way
    both = parted before way

    abbrev last : Spot
    last = spot_behind state depth both.front

    count_is : count ≡ length both.front
    count_is = same ∙ both.count_is

    -- the spot is there
    pub spot_within : count < length spots
    spot_within =
        let size = ap (λ (l : List Spot). length l) are in
        let long = spots_length state depth before in
        let within = (shared_within before way).0 in
        omega (arith, size, long, within, same)

    spots_are : spots ≡ spots_on tnfa state depth (both.front ++ both.rest)
    spots_are = are ∙ ap (λ l. spots_on tnfa state depth l) both.way_is

    before_is : drop count before ≡ both.rest
    before_is = ap₂ (λ n (l : List ℕ). drop n l) count_is both.way_is ∙ drop-append_seam both.front both.rest

    way_is : drop count way ≡ both.more
    way_is = ap₂ (λ n (l : List ℕ). drop n l) count_is both.other_is ∙ drop-append_seam both.front both.more

    module _ (spot other : Spot) (is : spot ≡ get_or spots count other) where
      spot_is : spot ≡ last
      spot_is =
          is ∙ ap₂ (λ (l : List Spot) n. get_or l n other) spots_are count_is
          ∙ spot_read state depth both.front both.rest other

      pub before_fits : FitsOnWay tnfa state depth before → FitsOnWay tnfa spot.state spot.depth (drop count before)
      before_fits fits =
          subst (λ (s : Spot). FitsOnWay tnfa s.state s.depth (drop count before)) (sym spot_is)
          (subst (λ l. FitsOnWay tnfa last.state last.depth l) (sym before_is)
          (fits_split state depth both.front both.rest (subst (λ l. FitsOnWay tnfa state depth l) both.way_is fits)))

      pub way_fits : FitsOnWay tnfa state depth way → FitsOnWay tnfa spot.state spot.depth (drop count way)
      way_fits fits =
          subst (λ (s : Spot). FitsOnWay tnfa s.state s.depth (drop count way)) (sym spot_is)
          (subst (λ l. FitsOnWay tnfa last.state last.depth l) (sym way_is)
          (fits_split state depth both.front both.more (subst (λ l. FitsOnWay tnfa state depth l) both.other_is fits)))

      -- the number is that of the rests
      pub fork_behind : number_of_fork tnfa spot.state spot.depth (drop count before) (drop count way)
          ≡ number_of_fork tnfa state depth before way
      fork_behind =
          ap (λ (s : Spot). number_of_fork tnfa s.state s.depth (drop count before) (drop count way)) spot_is
          ∙ ap₂ (λ l k. number_of_fork tnfa last.state last.depth l k) before_is way_is
          ∙ sym (fork_split state depth both.front both.rest both.more)
          ∙ ap₂ (λ l k. number_of_fork tnfa state depth l k) (sym both.way_is) (sym both.other_is)

      -- the spots of the second way
      pub spots_behind : (kept more : List Spot) → kept ≡ take count spots
          → more ≡ kept ++ spots_on tnfa spot.state spot.depth (drop count way)
          → more ≡ spots_on tnfa state depth way
      spots_behind kept more kept_is more_is =
          more_is
          ∙ ap₂ (λ (a b : List Spot). a ++ b)
          (kept_is ∙ ap₂ (λ n (l : List Spot). take n l) count_is spots_are)
          (ap (λ (s : Spot). spots_on tnfa s.state s.depth (drop count way)) spot_is
          ∙ ap (λ l. spots_on tnfa last.state last.depth l) way_is)
          ∙ spots_split state depth both.front both.rest both.more
          ∙ ap (λ l. spots_on tnfa state depth l) (sym both.other_is)
