-- Two ways from one state: they have a front in common, and behind it each goes on from where the front leads.
use Rattle.std.proofs.Common.{sym, ap, ap₂, ◌∙◌, subst, arith}
use Rattle.std.proofs.Math.Seq.{drop-append_seam, take-append_seam}
use Rattle.std.proofs.lemmas.Bool.{eqb-true}
use Rattle.std.proofs.lemmas.List.{append_assoc, length-append, length-drop, take_all}
use Rattle.std.specs.Prelude.{◌≡◌, ℕ, suc, ◌+◌, ◌-◌, ◌<◌, ◌≤◌, List, [], ◌∷◌, ◌++◌, length, drop, take, Bool, true, false, get_or, nat_eq, if◌then◌else◌, refl}
use Rattle.lx_tnfa.specs.Live.{state_of}
use Rattle.lx_tnfa.specs.Moves.{moves_in}
use Rattle.lx_tnfa.specs.Tnfa.{Tnfa}
use Rattle.lx_tnfa.specs.declared.states.Event.{Event}
use Rattle.lx_tnfa.specs.declared.states.Move.{Move}
use Rattle.lx_tnfa.proofs.Construction.NthLists.{nth_read}
use Rattle.lx_posix.specs.Beginnings.{point_number}
use Rattle.lx_posix.specs.Courses.{IsCourse, marks_on, moves_on, shared}
use Rattle.lx_posix.specs.Finding.{IsWay}
use Rattle.lx_posix.specs.Reaching.{events_from, events_on, move_of}
use Rattle.lx_posix.specs.WayNumbers.{state_number}
use Rattle.lx_posix.specs.declared.courses.Mark.{Mark}
use Rattle.lx_posix.specs.declared.points.Point.{Point}
use Rattle.lx_posix.specs.declared.points.Point.TheVariants.{State, Within}

-- all moves of a way behind so many
pub behind_is : (count : ℕ) (way : List ℕ) → take (length way - count) (drop count way) ≡ drop count way
behind_is count way = let size = length-drop count way in take_all (length way - count) (drop count way) (omega (arith, size))

-- two ways with a front of this length in common
pub record Parted (count : ℕ) (way other : List ℕ) : Type 0 where
  pub front : List ℕ
  pub rest : List ℕ
  pub more : List ℕ
  pub way_is : way ≡ front ++ rest
  pub other_is : other ≡ front ++ more
  pub count_is : count ≡ length front

pub parted : (way other : List ℕ) → Parted (shared way other) way other
parted [] other = record { front = []; rest = []; more = other; way_is = refl; other_is = refl; count_is = refl }
parted (i ∷ way) [] = record { front = []; rest = i ∷ way; more = []; way_is = refl; other_is = refl; count_is = refl }
parted (i ∷ way) (j ∷ other) = by (parted way other) (nat_eq i j) refl
  where
    by : Parted (shared way other) way other → (b : Bool) → nat_eq i j ≡ b
        → Parted (if b then suc (shared way other) else 0) (i ∷ way) (j ∷ other)
    by p true e = record {
      front = i ∷ p.front;
      rest = p.rest;
      more = p.more;
      way_is = ap (λ l. i ∷ l) p.way_is;
      other_is = ap₂ (λ a l. a ∷ l) (sym (eqb-true i j e)) p.other_is;
      count_is = ap suc p.count_is;
    }
    by p false e = record { front = []; rest = i ∷ way; more = j ∷ other; way_is = refl; other_is = refl; count_is = refl }

-- it is no longer than either
pub shared_within : (way other : List ℕ) → (shared way other ≤ length way) × (shared way other ≤ length other)
shared_within way other =
    let p = parted way other in
    let long = ap (λ (l : List ℕ). length l) p.way_is in
    let size = length-append p.front p.rest in
    let long' = ap (λ (l : List ℕ). length l) p.other_is in
    let size' = length-append p.front p.more in
    let count = p.count_is in
    (omega (arith, long, size, count), omega (arith, long', size', count))

module _ (tnfa : Tnfa) where
  -- the state to which a way leads
  abbrev end_of : (state : ℕ) → List ℕ → ℕ
  end_of state [] = state
  end_of state (index ∷ way) = end_of (move_of tnfa state index).to way

  events_split : (state : ℕ) (front rest : List ℕ)
      → events_on tnfa state (front ++ rest) ≡ events_on tnfa state front ++ events_on tnfa (end_of state front) rest
  events_split state [] rest = refl
  events_split state (index ∷ front) rest =
      let move = move_of tnfa state index in
      ap (λ l. move.events ++ l) (events_split move.to front rest)
      ∙ sym (append_assoc move.events (events_on tnfa move.to front) (events_on tnfa (end_of move.to front) rest))

  pub marks_length : (state count : ℕ) (way : List ℕ) → length (marks_on tnfa state count way) ≡ suc (length way)
  marks_length state count [] = refl
  marks_length state count (index ∷ way) =
      let move = move_of tnfa state index in
      ap suc (marks_length move.to (count + length move.events) way)

  -- where the front leads
  abbrev mark_behind : (state count : ℕ) → List ℕ → Mark
  mark_behind state count front = record {
    state = end_of state front;
    count = count + length (events_on tnfa state front);
  }

  -- behind the tag events of a move and of more moves
  counted : (state count index : ℕ) (front : List ℕ)
      → (count + length (move_of tnfa state index).events) + length (events_on tnfa (move_of tnfa state index).to front)
      ≡ count + length (events_on tnfa state (index ∷ front))
  counted state count index front =
      let move = move_of tnfa state index in
      let size = length-append move.events (events_on tnfa move.to front) in
      omega (arith, size)

  mark_read : (state count : ℕ) (front rest : List ℕ) (other : Mark)
      → get_or (marks_on tnfa state count (front ++ rest)) (length front) other ≡ mark_behind state count front
  mark_read state count [] [] other =
      let none : count ≡ count + 0 = omega arith in ap (λ n. record { state = state; count = n }) none
  mark_read state count [] (index ∷ rest) other =
      let none : count ≡ count + 0 = omega arith in ap (λ n. record { state = state; count = n }) none
  mark_read state count (index ∷ front) rest other =
      let move = move_of tnfa state index in
      mark_read move.to (count + length move.events) front rest other
      ∙ ap (λ n. record { state = end_of move.to front; count = n }) (counted state count index front)

  marks_split : (state count : ℕ) (front rest more : List ℕ)
      → take (length front) (marks_on tnfa state count (front ++ rest))
      ++ marks_on tnfa (end_of state front) (count + length (events_on tnfa state front)) more
      ≡ marks_on tnfa state count (front ++ more)
  marks_split state count [] rest more =
      let none : count + 0 ≡ count = omega arith in ap (λ n. marks_on tnfa state n more) none
  marks_split state count (index ∷ front) rest more =
      let move = move_of tnfa state index in
      let before = take (length front) (marks_on tnfa move.to (count + length move.events) (front ++ rest)) in
      ap (λ l. record { state = state; count = count } ∷ l)
      (ap (λ n. before ++ marks_on tnfa (end_of move.to front) n more) (sym (counted state count index front))
      ∙ marks_split move.to (count + length move.events) front rest more)

  way_split : (state to : ℕ) (front more : List ℕ) → IsWay tnfa state (front ++ more) to → IsWay tnfa (end_of state front) more to
  way_split state to [] more w = w
  way_split state to (index ∷ front) more w =
      let same : move_of tnfa state index ≡ w.0 =
      nth_read (moves_in (state_of tnfa.states state)) index w.0 (record { to = 0; events = [] }) w.1 in
      way_split (move_of tnfa state index).to to front more
      (subst (λ (m : Move). IsWay tnfa m.to (front ++ more) to) (sym same) w.2)

  -- One way after another, from the mark behind the moves that they have in common.
  module _ (state : ℕ) (before way : List ℕ) (marks : List Mark) (events : List Event) (course : IsCourse tnfa state before marks events)
      (count : ℕ) (same : count ≡ shared before way) where
    both : Parted (shared before way) before way
    both = parted before way

    count_is : count ≡ length both.front
    count_is = same ∙ both.count_is

    -- the mark is there
    pub mark_within : count < length marks
    mark_within =
        let size = ap (λ (l : List Mark). length l) course.marked in
        let long = marks_length state 0 before in
        let within = (shared_within before way).0 in
        omega (arith, size, long, within, same)

    marks_are : marks ≡ marks_on tnfa state 0 (both.front ++ both.rest)
    marks_are = course.marked ∙ ap (λ l. marks_on tnfa state 0 l) both.way_is

    rest_is : drop count way ≡ both.more
    rest_is = ap₂ (λ n (l : List ℕ). drop n l) count_is both.other_is ∙ drop-append_seam both.front both.more

    from_none : 0 + length (events_on tnfa state both.front) ≡ length (events_on tnfa state both.front)
    from_none = omega arith

    module _ (mark other : Mark) (is : mark ≡ get_or marks count other) where
      mark_is : mark ≡ mark_behind state 0 both.front
      mark_is =
          is ∙ ap₂ (λ (l : List Mark) n. get_or l n other) marks_are count_is
          ∙ mark_read state 0 both.front both.rest other

      -- the way goes on from there
      pub way_behind : (to : ℕ) → IsWay tnfa state way to → IsWay tnfa mark.state (drop count way) to
      way_behind to w =
          subst (λ (m : Mark). IsWay tnfa m.state (drop count way) to) (sym mark_is)
          (subst (λ l. IsWay tnfa (end_of state both.front) l to) (sym rest_is)
          (way_split state to both.front both.more (subst (λ l. IsWay tnfa state l to) both.other_is w)))

      -- the tag events up to there
      events_before : take mark.count events ≡ events_on tnfa state both.front
      events_before =
          ap₂ (λ (m : Mark) (l : List Event). take m.count l) mark_is
          (course.listed ∙ ap (λ l. events_on tnfa state l) both.way_is ∙ events_split state both.front both.rest)
          ∙ ap (λ n. take n (events_on tnfa state both.front ++ events_on tnfa (end_of state both.front) both.rest)) from_none
          ∙ take-append_seam (events_on tnfa state both.front) (events_on tnfa (end_of state both.front) both.rest)

      pub course_behind : (left added : List Event) (kept more : List Mark)
          → kept ≡ take count marks → left ≡ take mark.count events
          → more ≡ kept ++ marks_on tnfa mark.state (length left) (drop count way)
          → added ≡ left ++ events_on tnfa mark.state (drop count way)
          → IsCourse tnfa state way more added
      course_behind left added kept more kept_is left_is more_is added_is =
          let events_are : left ≡ events_on tnfa state both.front = left_is ∙ events_before in
          record {
            marked =
                more_is
                ∙ ap₂ (λ (a b : List Mark). a ++ b)
                (kept_is ∙ ap₂ (λ n (l : List Mark). take n l) count_is marks_are)
                (ap (λ (m : Mark). marks_on tnfa m.state (length left) (drop count way)) mark_is
                ∙ ap₂ (λ (l : List Event) d. marks_on tnfa (end_of state both.front) (length l) d) events_are rest_is
                ∙ ap (λ n. marks_on tnfa (end_of state both.front) n both.more) (sym from_none))
                ∙ marks_split state 0 both.front both.rest both.more
                ∙ ap (λ l. marks_on tnfa state 0 l) (sym both.other_is);
            listed =
                added_is
                ∙ ap₂ (λ (a b : List Event). a ++ b) events_are
                (ap (λ (m : Mark). events_on tnfa m.state (drop count way)) mark_is
                ∙ ap (λ d. events_on tnfa (end_of state both.front) d) rest_is)
                ∙ sym (events_split state both.front both.more)
                ∙ ap (λ l. events_on tnfa state l) (sym both.other_is);
          }

  -- the tag events on a way from a point
  pub events_from-moves : (at : Point) (way : List ℕ) → events_on tnfa (state_number at) (moves_on at way) ≡ events_from tnfa at way
  events_from-moves (State state) way = refl
  events_from-moves (Within place) way = refl

  -- the moves that are made there are a way
  pub way_of_moves : (at : Point) (way : List ℕ) (to : ℕ) → IsWay tnfa (point_number tnfa at) way to
      → (last : ℕ) × IsWay tnfa (state_number at) (moves_on at way) last
  way_of_moves (State state) way to w = (to, w)
  way_of_moves (Within place) way to w = (0, refl)
