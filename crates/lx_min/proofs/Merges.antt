-- Walks of an automaton, and what is live on them, in its merge.
use Rattle.std.proofs.Common.{◌≡◌, ℕ, ◌<◌, Option, Some, None, refl, Contains, sym, ap, ◌∙◌, subst}
use Rattle.std.specs.Prelude.{option_map}
use Rattle.lx_auto.specs.declared.automaton.Accept.{Accept}
use Rattle.lx_auto.specs.declared.automaton.Auto.{Auto}
use Rattle.lx_auto.specs.declared.automaton.Edge.{Edge}
use Rattle.lx_auto.specs.declared.automaton.Held.{Held}
use Rattle.lx_auto.specs.declared.automaton.State.{State}
use Rattle.lx_auto.specs.Automaton.{IsAuto, state_of}
use Rattle.lx_auto.specs.Effects.{Reads, effect_of}
use Rattle.lx_auto.specs.Live.{IsLive, IsLiveBehind, IsLiveOnLeaving, by_accept, by_fallback, onward}
use Rattle.lx_auto.specs.Points.{IsMet, IsReached, Point, begins, goes_on, left_behind, left_by, point_behind, state_at, values_left, values_of}
use Rattle.lx_auto.specs.ToldApart.{AcceptTheSame}
use Rattle.lx_auto.proofs.States.{state_formed}
use Rattle.lx_min.specs.Merges.{Classes, IsMerge, moved_state}
use Rattle.lx_min.proofs.MovedEdges.{HasEdgeLike, edge-moved}
use Rattle.lx_min.proofs.SameEffects.{effect_of_both-done}

-- some walk comes to the accepting state left last
pub left-met : (auto : Auto) (point : Point) → IsReached auto point → (state : ℕ) → point.left ≡ Some state → IsMet auto state
left-met auto _ begins state left = absurd (cc left)
left-met auto _ (goes_on point edge reached has) state left =
    at (state_at auto point).accept left (left-met auto point reached state)
  where
    at : (accept : Option Accept) → left_by accept point ≡ Some state → (point.left ≡ Some state → IsMet auto state) → IsMet auto state
    at None left earlier = earlier left
    at (Some accept) left earlier = let same : point.state ≡ state = cc left in subst (IsMet auto) same (point.left, reached)

module _ (given answer : Auto) (classes : Classes) (is : IsMerge given answer classes) (formed : IsAuto given) where
  -- the point with classes in place of states
  abbrev pub image_of : Point → Point
  image_of point = record { state = classes.of point.state; left = option_map classes.of point.left }

  pub state_of-merged : (state : ℕ) → IsMet given state → state_of answer.states (classes.of state)
      ≡ moved_state classes.of (state_of given.states (classes.chosen (classes.of state)))
  state_of-merged state met = is.states (classes.of state) (is.are.within state met)

  pub accept-merged : (state : ℕ) → IsMet given state
      → AcceptTheSame (state_of given.states state).accept (state_of answer.states (classes.of state)).accept
  accept-merged state met =
      subst (λ (s : State). AcceptTheSame (state_of given.states state).accept s.accept) (sym (state_of-merged state met))
      (is.are.alike state met).accepts

  pub edge-merged : (state : ℕ) → IsMet given state → (edge : Edge) → Contains (state_of given.states state).edges edge
      → HasEdgeLike classes.of (state_of given.states state) (state_of answer.states (classes.of state)) edge
  edge-merged state met edge has =
      subst (λ (s : State). HasEdgeLike classes.of (state_of given.states state) s edge) (sym (state_of-merged state met))
      (edge-moved classes.of (state_of given.states state) (state_of given.states (classes.chosen (classes.of state)))
      (state_formed given state formed).apart (is.are.alike state met) edge has)

  -- ---- walks

  left_by-merged : (point : Point) (accept other : Option Accept) → AcceptTheSame accept other
      → left_by other (image_of point) ≡ option_map classes.of (left_by accept point)
  left_by-merged point None None same = refl
  left_by-merged point None (Some other) same = absurd same
  left_by-merged point (Some accept) None same = absurd same
  left_by-merged point (Some accept) (Some other) same = refl

  -- an edge to the class of where another edge leads, at the point of the classes
  pub point_behind-merged : (point : Point) (edge other : Edge) → IsReached given point → other.to ≡ classes.of edge.to
      → point_behind answer (image_of point) other ≡ image_of (point_behind given point edge)
  point_behind-merged point edge other reached target =
      let left : left_behind answer (image_of point) ≡ option_map classes.of (left_behind given point) =
      left_by-merged point (state_at given point).accept (state_at answer (image_of point)).accept
      (accept-merged point.state (point.left, reached)) in
      λ i. record { state = target i; left = left i }

  pub IsReached-merged : (point : Point) → IsReached given point → IsReached answer (image_of point)
  IsReached-merged _ begins =
      subst (λ state. IsReached answer (record { state = state; left = None })) (sym is.are.start) begins
  IsReached-merged _ (goes_on point edge reached has) =
      let found = edge-merged point.state (point.left, reached) edge has in
      subst (IsReached answer) (point_behind-merged point edge found.0 reached found.4)
      (goes_on (image_of point) found.0 (IsReached-merged point reached) found.1)

  -- some walk comes to each state
  pub IsMet-merged : (state : ℕ) → state < classes.count → IsMet answer state
  IsMet-merged state within =
      let chosen = is.are.chosen state within in
      let left : Option ℕ = (chosen.0).0 in
      let reached : IsReached given (record { state = classes.chosen state; left = left }) = (chosen.0).1 in (
        option_map classes.of left,
        subst (λ s. IsReached answer (record { state = s; left = option_map classes.of left })) chosen.1
            (IsReached-merged (record { state = classes.chosen state; left = left }) reached),
      )

  -- ---- what is live

  values_of-same : (accept other : Option Accept) → AcceptTheSame accept other → values_of other ≡ values_of accept
  values_of-same None None same = refl
  values_of-same None (Some other) same = absurd same
  values_of-same (Some accept) None same = absurd same
  values_of-same (Some accept) (Some other) same = sym same.1

  values_left-merged : (left : Option ℕ) → ((state : ℕ) → left ≡ Some state → IsMet given state)
      → values_left answer (option_map classes.of left) ≡ values_left given left
  values_left-merged None met = refl
  values_left-merged (Some state) met =
      values_of-same (state_of given.states state).accept (state_of answer.states (classes.of state)).accept
      (accept-merged state (met state refl))

  none-same : (accept other : Option Accept) → AcceptTheSame accept other → accept ≡ None → other ≡ None
  none-same None None same none = refl
  none-same None (Some other) same none = absurd same
  none-same (Some accept) other same none = absurd (cc none)

  live-by_accept : (point : Point) (held : Held) (accept : Accept) (value : Held) (theirs ours : Option Accept) → theirs ≡ Some accept
      → (state_at answer (image_of point)).accept ≡ ours → AcceptTheSame theirs ours → Contains accept.values value
      → Reads (effect_of accept.ops value) held → IsLive answer (image_of point) held
  live-by_accept point held accept value None ours accepts others same has reads = absurd (cc accepts)
  live-by_accept point held accept value (Some theirs) None accepts others same has reads = absurd same
  live-by_accept point held accept value (Some theirs) (Some ours) accepts others same has reads =
      let one : theirs ≡ accept = cc accepts in
      let values : accept.values ≡ ours.values = ap (λ (a : Accept). a.values) (sym one) ∙ same.1 in
      let effects : effect_of accept.ops value ≡ effect_of ours.ops value =
      ap (λ (a : Accept). effect_of a.ops value) (sym one) ∙ same.2 value in
      by_accept (image_of point) held ours value others (subst (λ held_by. Contains held_by value) values has)
      (subst (λ effect. Reads effect held) effects reads)

  pub IsLive-merged : (point : Point) (held : Held) → IsReached given point → IsLive given point held → IsLive answer (image_of point) held
  IsLive-merged point held reached (by_accept _ _ accept value accepts has reads) =
      live-by_accept point held accept value (state_at given point).accept (state_at answer (image_of point)).accept accepts refl
      (accept-merged point.state (point.left, reached)) has reads
  IsLive-merged point held reached (by_fallback _ _ none has) =
      by_fallback (image_of point) held
      (none-same (state_at given point).accept (state_at answer (image_of point)).accept
      (accept-merged point.state (point.left, reached)) none)
      (subst (λ values. Contains values held) (sym (values_left-merged point.left (left-met given point reached))) has)
  IsLive-merged point held reached (onward _ _ edge next has live reads) =
      let found = edge-merged point.state (point.left, reached) edge has in
      let leave = (state_at given point).leave in
      let other_leave = (state_at answer (image_of point)).leave in
      let behind = IsLive-merged (point_behind given point edge) next (goes_on point edge reached has) live in
      onward (image_of point) held found.0 next found.1
      (subst (λ p. IsLive answer p next) (sym (point_behind-merged point edge found.0 reached found.4)) behind)
      (subst (λ effect. Reads effect held)
      (sym (effect_of_both-done leave edge.ops other_leave found.0.ops found.2 found.3 next)) reads)

  -- behind an edge to the class of where another edge leads
  pub IsLiveBehind-merged : (point : Point) (edge other : Edge) (held : Held) → IsReached given point
      → Contains (state_at given point).edges edge → other.to ≡ classes.of edge.to → IsLiveBehind given point edge held
      → IsLiveBehind answer (image_of point) other held
  IsLiveBehind-merged point edge other held reached has target live =
      subst (λ p. IsLive answer p held) (sym (point_behind-merged point edge other reached target))
      (IsLive-merged (point_behind given point edge) held (goes_on point edge reached has) live)

  pub IsLiveOnLeaving-merged : (point : Point) (held : Held) → IsReached given point → IsLiveOnLeaving given point held
      → IsLiveOnLeaving answer (image_of point) held
  IsLiveOnLeaving-merged point held reached (edge, next, has, live, reads) =
      let found = edge-merged point.state (point.left, reached) edge has in (
        found.0,
        next,
        found.1,
        IsLiveBehind-merged point edge found.0 next reached has found.4 live,
        subst (λ effect. Reads effect held) (found.3 next) reads,
      )
