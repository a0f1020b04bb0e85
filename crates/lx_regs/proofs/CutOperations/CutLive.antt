-- In an automaton without the operations that no walk reads, what each operation does is read.
use Rattle.std.proofs.Common.{◌≡◌, Contains, sym, subst}
use Rattle.lx_auto.specs.declared.automaton.Auto.{Auto}
use Rattle.lx_auto.specs.declared.automaton.Edge.{Edge}
use Rattle.lx_auto.specs.declared.automaton.Held.{Held}
use Rattle.lx_auto.specs.Automaton.{state_of}
use Rattle.lx_auto.specs.Effects.{Reads, effect_of}
use Rattle.lx_auto.specs.Live.{AtSomePoint, EachTargetIsRead, IsLive, IsLiveBehind, IsLiveOnLeaving}
use Rattle.lx_auto.specs.Points.{Point, IsReached, goes_on, point_behind, state_at}
use Rattle.lx_auto.proofs.Effects.{renamed-same}
use Rattle.lx_auto.proofs.TranslatedWalks.{IsLive-translated, IsReached-translated, point_behind-alike}
use Rattle.lx_regs.specs.Dead.{IsCut, IsEdgeCut}
use Rattle.lx_regs.proofs.CutOperations.CutAutomata.{LeadAlike-cut, accept-cut_back, edge-cut, edge-cut_back, own_names, translation-cut}
use Rattle.lx_regs.proofs.CutOperations.KeptOps.{EachIsWanted-kept, effect_of-kept}

module _ (given answer : Auto) (is : IsCut given answer) where
  reached-cut : (point : Point) → IsReached given point → IsReached answer point
  reached-cut point reached = IsReached-translated given answer (own_names given answer is) (translation-cut given answer is) point reached

  -- what is live behind an edge stays live behind it
  live-cut : (point : Point) (edge other : Edge) (held : Held) → IsReached given point → Contains (state_at given point).edges edge
      → IsEdgeCut given point.state edge other → IsLiveBehind given point edge held → IsLiveBehind answer point other held
  live-cut point edge other held reached has cut live =
      let same = translation-cut given answer is in
      let alike = LeadAlike-cut given answer is point reached edge other has cut in
      let behind = IsLive-translated given answer (own_names given answer is) same (point_behind given point edge) held
      (goes_on point edge reached has) live in
      subst (λ p. IsLive answer p held)
      (sym (point_behind-alike given answer (own_names given answer is) same point edge other reached alike))
      (subst (IsLive answer (point_behind given point edge)) (renamed-same held) behind)

  -- what is live where a state is left stays live there
  live_on_leaving-cut : (point : Point) (held : Held) → IsReached given point → IsLiveOnLeaving given point held
      → IsLiveOnLeaving answer point held
  live_on_leaving-cut point held reached (edge, next, has, live, reads) =
      let found = edge-cut given point.state (state_at given point).edges (state_at answer point).edges
      (is.states.each point.state).edges edge has in
      let other = found.0 in
      let same : effect_of other.ops next ≡ effect_of edge.ops next =
      effect_of-kept (λ h. AtSomePoint given point.state (λ at. IsLiveBehind given at edge h)) edge.ops other.ops next found.2.ops
      (point.left, reached, live) in
      (other, next, found.1, live-cut point edge other next reached has found.2 live, subst (λ effect. Reads effect held) (sym same) reads)

  pub EachTargetIsRead-cut : EachTargetIsRead answer
  EachTargetIsRead-cut = record {
    leaves = λ state.
        EachIsWanted-kept (λ held. AtSomePoint given state (λ point. IsLiveOnLeaving given point held)) answer
        (λ held. AtSomePoint answer state (λ point. IsLiveOnLeaving answer point held))
        (λ held (left, reached, live).
        let point : Point = record { state = state; left = left } in
        (left, reached-cut point reached, live_on_leaving-cut point held reached live))
        (state_of given.states state).leave (state_of answer.states state).leave (is.states.each state).leave;
    edges = λ state other has.
        let found = edge-cut_back given state (state_of given.states state).edges (state_of answer.states state).edges
        (is.states.each state).edges other has in
        let edge = found.0 in
        EachIsWanted-kept (λ held. AtSomePoint given state (λ point. IsLiveBehind given point edge held)) answer
        (λ held. AtSomePoint answer state (λ point. IsLiveBehind answer point other held))
        (λ held (left, reached, live).
        let point : Point = record { state = state; left = left } in
        (left, reached-cut point reached, live-cut point edge other held reached found.1 found.2 live))
        edge.ops other.ops found.2.ops;
    accepts = λ state other accepts.
        let found = accept-cut_back given state (state_of given.states state).accept (state_of answer.states state).accept
        (is.states.each state).accept other accepts in
        let accept = found.0 in
        EachIsWanted-kept (λ held. AtSomePoint given state (λ point. Contains accept.values held)) answer
        (λ held. AtSomePoint answer state (λ point. Contains other.values held))
        (λ held (left, reached, has).
        let point : Point = record { state = state; left = left } in
        (left, reached-cut point reached, subst (λ values. Contains values held) (sym found.2.values) has))
        accept.ops other.ops found.2.ops;
  }
