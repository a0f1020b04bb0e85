-- The targets of ways, way by way, and the events on a way, move by move.
use Rattle.std.proofs.Common.{sym, ap, ◌∙◌, subst, arith}
use Rattle.std.proofs.lemmas.List.{append_assoc, drop_more, length-append}
use Rattle.std.specs.Prelude.{◌≡◌, ℕ, zero, suc, ◌+◌, ◌-◌, ◌<◌, List, [], ◌∷◌, ◌++◌, length, drop, replicate, Bool, get_or}
use Rattle.lx_tnfa.specs.LeafReadings.{IsNth}
use Rattle.lx_tnfa.specs.Live.{state_of}
use Rattle.lx_tnfa.specs.Moves.{moves_in}
use Rattle.lx_tnfa.specs.Tnfa.{Tnfa}
use Rattle.lx_tnfa.specs.declared.closure.Reach.{Reach}
use Rattle.lx_tnfa.specs.declared.states.Event.{Event}
use Rattle.lx_tnfa.specs.declared.states.Move.{Move}
use Rattle.lx_tnfa.proofs.Construction.NthLists.{nth_read}
use Rattle.lx_posix.specs.Courses.{marks_on}
use Rattle.lx_posix.specs.Finding.{IsWay}
use Rattle.lx_posix.specs.Reaching.{events_on, found_reaches, move_of, origins_of, reaches_of}
use Rattle.lx_posix.specs.declared.courses.Mark.{Mark}
use Rattle.lx_posix.specs.declared.points.Beginning.{Beginning}
use Rattle.lx_posix.specs.declared.search.Found.{Found}

nth_within : {X : Type 0} (xs : List X) (index : ℕ) (x : X) → IsNth xs index x → index < length xs
nth_within [] index x nth = absurd nth
nth_within (y ∷ xs) zero x nth = omega arith
nth_within (y ∷ xs) (suc index) x nth = let below = nth_within xs index x nth in omega arith

-- a move of a way from a state
module _ (tnfa : Tnfa) (at : ℕ) (way : List ℕ) (index : ℕ) (within : index < length way) (known : List Move)
    (are : known ≡ moves_in (state_of tnfa.states at)) where
  -- the move that comes next
  next_move : (to : ℕ) → IsWay tnfa at (drop index way) to
      → (move : Move) × IsNth (moves_in (state_of tnfa.states at)) (get_or way index 0) move × IsWay tnfa move.to (drop (index + 1) way) to
  next_move to w = subst (λ l. IsWay tnfa at l to) (drop_more way index 0 within) w

  pub move_within : (to : ℕ) → IsWay tnfa at (drop index way) to → get_or way index 0 < length known
  move_within to w =
      let next = next_move to w in
      subst (λ l. get_or way index 0 < length l) (sym are)
      (nth_within (moves_in (state_of tnfa.states at)) (get_or way index 0) next.0 next.1)

  module _ (move : Move) (is : move ≡ get_or known (get_or way index 0) move) (to : ℕ) (w : IsWay tnfa at (drop index way) to) where
    move_is : move ≡ (next_move to w).0
    move_is =
        let next = next_move to w in
        is ∙ nth_read known (get_or way index 0) next.0 move (subst (λ l. IsNth l (get_or way index 0) next.0) (sym are) next.1)

    pub way_on : IsWay tnfa move.to (drop (index + 1) way) to
    way_on = subst (λ (m : Move). IsWay tnfa m.to (drop (index + 1) way) to) (sym move_is) (next_move to w).2

    pub events_on-move : (events more whole : List Event) → events ++ events_on tnfa at (drop index way) ≡ whole
        → more ≡ events ++ move.events
        → more ++ events_on tnfa move.to (drop (index + 1) way) ≡ whole
    events_on-move events more whole before added =
        let next = next_move to w in
        let same : move_of tnfa at (get_or way index 0) ≡ move =
        nth_read (moves_in (state_of tnfa.states at)) (get_or way index 0) next.0 (record { to = 0; events = [] }) next.1 ∙ sym move_is in
        ap (λ l. l ++ events_on tnfa move.to (drop (index + 1) way)) added
        ∙ append_assoc events move.events (events_on tnfa move.to (drop (index + 1) way))
        ∙ ap (λ (m : Move). events ++ (m.events ++ events_on tnfa m.to (drop (index + 1) way))) (sym same)
        ∙ ap (λ l. events ++ events_on tnfa at l) (sym (drop_more way index 0 within))
        ∙ before

    pub marks_on-move : (marks more whole : List Mark) (count next : ℕ)
        → marks ++ marks_on tnfa at count (drop index way) ≡ whole
        → more ≡ marks ++ record { state = at; count = count } ∷ []
        → next ≡ count + length move.events
        → more ++ marks_on tnfa move.to next (drop (index + 1) way) ≡ whole
    marks_on-move marks more whole count next before added counted =
        let follow = next_move to w in
        let behind = drop (index + 1) way in
        let mark : Mark = record { state = at; count = count } in
        let same : move_of tnfa at (get_or way index 0) ≡ move =
        nth_read (moves_in (state_of tnfa.states at)) (get_or way index 0) follow.0 (record { to = 0; events = [] }) follow.1 ∙ sym move_is in
        ap (λ l. l ++ marks_on tnfa move.to next behind) added
        ∙ append_assoc marks (mark ∷ []) (marks_on tnfa move.to next behind)
        ∙ ap (λ n. marks ++ (mark ∷ marks_on tnfa move.to n behind)) counted
        ∙ ap (λ (m : Move). marks ++ (mark ∷ marks_on tnfa m.to (count + length m.events) behind)) (sym same)
        ∙ ap (λ l. marks ++ marks_on tnfa at count l) (sym (drop_more way index 0 within))
        ∙ before

-- the targets of one more way
module _ (tnfa : Tnfa) (first : Bool) (beginnings : List Beginning) (founds : List Found) (index : ℕ) (within : index < length founds)
    (found : Found) (is : found ≡ get_or founds index found) where
  rest_is : drop index founds ≡ found ∷ drop (index + 1) founds
  rest_is = drop_more founds index found within ∙ ap (λ (f : Found). f ∷ drop (index + 1) founds) (sym is)

  pub reaches_of-found : (reaches more whole : List Reach) → reaches ++ reaches_of tnfa first beginnings (drop index founds) ≡ whole
      → more ≡ reaches ++ found_reaches tnfa first beginnings found
      → more ++ reaches_of tnfa first beginnings (drop (index + 1) founds) ≡ whole
  reaches_of-found reaches more whole before added =
      ap (λ l. l ++ reaches_of tnfa first beginnings (drop (index + 1) founds)) added
      ∙ append_assoc reaches (found_reaches tnfa first beginnings found) (reaches_of tnfa first beginnings (drop (index + 1) founds))
      ∙ ap (λ l. reaches ++ reaches_of tnfa first beginnings l) (sym rest_is)
      ∙ before

  pub origins_of-found : (origins more whole : List ℕ) (count : ℕ)
      → origins ++ origins_of tnfa first beginnings index (drop index founds) ≡ whole
      → count ≡ length (found_reaches tnfa first beginnings found) → more ≡ origins ++ replicate count index
      → more ++ origins_of tnfa first beginnings (index + 1) (drop (index + 1) founds) ≡ whole
  origins_of-found origins more whole count before counted added =
      let next : index + 1 ≡ suc index = omega arith in
      let rest = origins_of tnfa first beginnings (suc index) (drop (index + 1) founds) in
      ap (λ n. more ++ origins_of tnfa first beginnings n (drop (index + 1) founds)) next
      ∙ ap (λ l. l ++ rest) added
      ∙ append_assoc origins (replicate count index) rest
      ∙ ap (λ n. origins ++ (replicate n index ++ rest)) counted
      ∙ ap (λ l. origins ++ origins_of tnfa first beginnings index l) (sym rest_is)
      ∙ before

-- how many targets came
pub count_added : (reaches more added : List Reach) → more ≡ reaches ++ added → length more - length reaches ≡ length added
count_added reaches more added is = omega (arith, ap (λ (l : List Reach). length l) is, length-append reaches added)
