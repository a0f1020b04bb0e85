-- What holds on walks of an automaton holds on those of one with the same accepts and lists, and with an edge for each of its edges.
use Rattle.std.proofs.Common.{◌≡◌, ℕ, zero, suc, ◌<◌, List, [], ◌∷◌, length, get_or, Option, Some, None, Contains, inl, inr, refl, sym, ap, ◌∙◌, subst, arith}
use Rattle.std.proofs.lemmas.List.Elements.{Contains-get_or}
use Rattle.lx_auto.specs.declared.automaton.Accept.{Accept}
use Rattle.lx_auto.specs.declared.automaton.Auto.{Auto}
use Rattle.lx_auto.specs.declared.automaton.Edge.{Edge}
use Rattle.lx_auto.specs.declared.automaton.Held.{Held}
use Rattle.lx_auto.specs.declared.automaton.Held.TheVariants.{Reg, MReg}
use Rattle.lx_auto.specs.declared.automaton.State.{State}
use Rattle.lx_auto.specs.declared.ops.Op.{Op}
use Rattle.lx_auto.specs.Automaton.{state_of}
use Rattle.lx_auto.specs.Effects.{Alters, Reads, effect_of, effect_of_both}
use Rattle.lx_auto.specs.Live.{AllInterfere, AtSomePoint, EachIsWanted, EachTargetIsRead, Interfere, IsAlteredBeside, IsLive, IsLiveBehind, IsLiveOnLeaving, by_accept, by_fallback, on_accept, on_edge, on_leaving, onward}
use Rattle.lx_auto.specs.Points.{IsReached, Point, begins, goes_on, left_by, point_behind, state_at, values_left, values_of}
use Rattle.lx_auto.proofs.SameLists.{Contains-map, map-Contains}
use Rattle.lx_regs.specs.declared.folding.Fold.{Fold}
use Rattle.lx_regs.specs.FoldedEdges.{AreFolded, LeadAsOne, edge_at, folds_at, unfolded_auto, unfolded_edge}
use Rattle.lx_regs.proofs.FoldedEdges.UnfoldedStates.{state_of-unfolded}

-- the other automaton has the accepts of the automaton, the lists of its states, and edges that lead as its edges
record Covers (auto other : Auto) : Type 0 where
  accept : (state : ℕ) → (state_of other.states state).accept ≡ (state_of auto.states state).accept
  leave : (state : ℕ) → (state_of other.states state).leave ≡ (state_of auto.states state).leave
  edges : (state : ℕ) (edge : Edge) → Contains (state_of auto.states state).edges edge
      → (another : Edge) × Contains (state_of other.states state).edges another × LeadAsOne another edge

module _ (auto other : Auto) (covers : Covers auto other) where
  behind-covered : (point : Point) (edge another : Edge) → LeadAsOne another edge
      → point_behind other point another ≡ point_behind auto point edge
  behind-covered point edge another same = λ i. record { state = same.0 i; left = left_by (covers.accept point.state i) point }

  IsReached-covered : (point : Point) → IsReached auto point → IsReached other point
  IsReached-covered _ begins = begins
  IsReached-covered _ (goes_on point edge reached has) =
      let found = covers.edges point.state edge has in
      subst (λ p. IsReached other p) (behind-covered point edge found.0 found.2)
      (goes_on point found.0 (IsReached-covered point reached) found.1)

  values-covered : (left : Option ℕ) → values_left other left ≡ values_left auto left
  values-covered None = refl
  values-covered (Some state) = ap values_of (covers.accept state)

  IsLive-covered : (point : Point) (held : Held) → IsLive auto point held → IsLive other point held
  IsLive-covered _ _ (by_accept point held accept value is has reads) =
      by_accept point held accept value (covers.accept point.state ∙ is) has reads
  IsLive-covered _ _ (by_fallback point held none has) =
      by_fallback point held (covers.accept point.state ∙ none) (subst (λ l. Contains l held) (sym (values-covered point.left)) has)
  IsLive-covered _ _ (onward point held edge next has live reads) =
      let found = covers.edges point.state edge has in
      onward point held found.0 next found.1
      (subst (λ p. IsLive other p next) (sym (behind-covered point edge found.0 found.2))
      (IsLive-covered (point_behind auto point edge) next live))
      (subst (λ ops. Reads (effect_of_both (state_at other point).leave ops next) held) (sym found.2.1)
      (subst (λ leave. Reads (effect_of_both leave edge.ops next) held) (sym (covers.leave point.state)) reads))

  IsLiveBehind-covered : (point : Point) (edge another : Edge) (held : Held) → LeadAsOne another edge → IsLiveBehind auto point edge held
      → IsLiveBehind other point another held
  IsLiveBehind-covered point edge another held same live =
      subst (λ p. IsLive other p held) (sym (behind-covered point edge another same))
      (IsLive-covered (point_behind auto point edge) held live)

  IsLiveOnLeaving-covered : (point : Point) (held : Held) → IsLiveOnLeaving auto point held → IsLiveOnLeaving other point held
  IsLiveOnLeaving-covered point held (edge, next, has, live, reads) =
      let found = covers.edges point.state edge has in (
        found.0,
        next,
        found.1,
        IsLiveBehind-covered point edge found.0 next found.2 live,
        subst (λ ops. Reads (effect_of ops next) held) (sym found.2.1) reads,
      )

  IsAlteredBeside-covered : (held another : Held) → IsAlteredBeside auto held another → IsAlteredBeside other held another
  IsAlteredBeside-covered held another (on_leaving point reached alters live) =
      on_leaving point (IsReached-covered point reached) (subst (λ ops. Alters ops held) (sym (covers.leave point.state)) alters)
      (IsLiveOnLeaving-covered point another live)
  IsAlteredBeside-covered held another (on_edge point edge reached has alters live) =
      let found = covers.edges point.state edge has in
      on_edge point found.0 (IsReached-covered point reached) found.1 (subst (λ ops. Alters ops held) (sym found.2.1) alters)
      (IsLiveBehind-covered point edge found.0 another found.2 live)
  IsAlteredBeside-covered held another (on_accept point accept reached is alters has) =
      on_accept point accept (IsReached-covered point reached) (covers.accept point.state ∙ is) alters has

  Interfere-covered : (held another : Held) → Interfere auto held another → Interfere other held another
  Interfere-covered held another (inl beside) = inl (IsAlteredBeside-covered held another beside)
  Interfere-covered held another (inr beside) = inr (IsAlteredBeside-covered another held beside)

  AtSomePoint-covered : (state : ℕ) (P Q : Point → Type 0) → ((point : Point) → P point → Q point) → AtSomePoint auto state P
      → AtSomePoint other state Q
  AtSomePoint-covered state P Q step (left, reached, holds) =
      (left, IsReached-covered (record { state = state; left = left }) reached, step (record { state = state; left = left }) holds)

  EachIsWanted-covered : (P Q : Held → Type 0) (ops : List Op) → ((held : Held) → P held → Q held) → EachIsWanted auto P ops
      → EachIsWanted other Q ops
  EachIsWanted-covered P Q [] step wanted = tt
  EachIsWanted-covered P Q (op ∷ ops) step wanted = (step _ wanted.0, wanted.1, EachIsWanted-covered P Q ops step wanted.2)

-- ---- with all edges

edge-place : (edges : List Edge) (place : ℕ) (edge : Edge) → place < length edges → get_or edges place edge ≡ edge
    → edge_at edges place ≡ edge
edge-place [] place edge within is = absurd (omega arith)
edge-place (first ∷ edges) zero edge within is = is
edge-place (first ∷ edges) (suc place) edge within is = edge-place edges place edge (omega arith) is

module _ (auto : Auto) (lists : List (List Fold)) (count : length lists ≡ length auto.states)
    (are : (number : ℕ) → AreFolded (state_of auto.states number).edges (folds_at lists number)) where
  abbrev whole : Auto
  whole = unfolded_auto auto lists

  edge-unfolded : (state : ℕ) (edge : Edge) → Contains (state_of auto.states state).edges edge
      → (another : Edge) × Contains (state_of whole.states state).edges another × LeadAsOne another edge
  edge-unfolded state edge (place, within, is) =
      let edges = (state_of auto.states state).edges in
      let noted = (are state).noted place within in
      let same : edge_at edges noted.0.place ≡ edge = ap (edge_at edges) noted.2 ∙ edge-place edges place edge within is in (
        unfolded_edge edges noted.0,
        subst (λ (s : State). Contains s.edges (unfolded_edge edges noted.0)) (sym (state_of-unfolded auto.states lists state count))
            (Contains-map (unfolded_edge edges) (folds_at lists state) noted.0 noted.1),
        (ap (λ (e : Edge). e.to) same, ap (λ (e : Edge). e.ops) same),
      )

  Covers-unfolded : Covers auto whole
  Covers-unfolded = record {
    accept = λ state. ap (λ (s : State). s.accept) (state_of-unfolded auto.states lists state count);
    leave = λ state. ap (λ (s : State). s.leave) (state_of-unfolded auto.states lists state count);
    edges = edge-unfolded;
  }

  pub AllInterfere-unfolded : AllInterfere auto → AllInterfere whole
  AllInterfere-unfolded all = record {
    regs = λ reg another within also apart.
        Interfere-covered auto whole Covers-unfolded (Reg reg) (Reg another) (all.regs reg another within also apart);
    mregs = λ mreg another above within another_above also apart.
        Interfere-covered auto whole Covers-unfolded (MReg mreg) (MReg another)
        (all.mregs mreg another above within another_above also apart);
  }

  -- an edge of the state leads as one that was kept
  edge-kept : (state : ℕ) (another : Edge) → Contains (state_of whole.states state).edges another
      → (edge : Edge) × Contains (state_of auto.states state).edges edge × LeadAsOne another edge
  edge-kept state another has =
      let edges = (state_of auto.states state).edges in
      let found = map-Contains (unfolded_edge edges) (folds_at lists state) another
      (subst (λ (s : State). Contains s.edges another) (state_of-unfolded auto.states lists state count) has) in (
        edge_at edges found.0.place,
        Contains-get_or edges found.0.place (record { lo = 0; hi = 0; ops = []; to = 0 }) ((are state).within found.0 found.1),
        (sym (ap (λ (e : Edge). e.to) found.2), sym (ap (λ (e : Edge). e.ops) found.2)),
      )

  edges-read : EachTargetIsRead auto → (state : ℕ) (another : Edge) → Contains (state_of whole.states state).edges another
      → EachIsWanted whole (λ held. AtSomePoint whole state (λ point. IsLiveBehind whole point another held)) another.ops
  edges-read read state another has =
      let found = edge-kept state another has in
      let edge = found.0 in
      subst (λ ops. EachIsWanted whole (λ held. AtSomePoint whole state (λ point. IsLiveBehind whole point another held)) ops)
      (sym found.2.1)
      (EachIsWanted-covered auto whole Covers-unfolded (λ held. AtSomePoint auto state (λ point. IsLiveBehind auto point edge held))
      (λ held. AtSomePoint whole state (λ point. IsLiveBehind whole point another held)) edge.ops
      (λ held wanted. AtSomePoint-covered auto whole Covers-unfolded state (λ point. IsLiveBehind auto point edge held)
      (λ point. IsLiveBehind whole point another held)
      (λ point live. IsLiveBehind-covered auto whole Covers-unfolded point edge another held found.2 live) wanted)
      (read.edges state edge found.1))

  leaves-read : EachTargetIsRead auto → (state : ℕ)
      → EachIsWanted whole (λ held. AtSomePoint whole state (λ point. IsLiveOnLeaving whole point held)) (state_of whole.states state).leave
  leaves-read read state =
      subst (λ ops. EachIsWanted whole (λ held. AtSomePoint whole state (λ point. IsLiveOnLeaving whole point held)) ops)
      (sym (Covers-unfolded.leave state))
      (EachIsWanted-covered auto whole Covers-unfolded (λ held. AtSomePoint auto state (λ point. IsLiveOnLeaving auto point held))
      (λ held. AtSomePoint whole state (λ point. IsLiveOnLeaving whole point held)) (state_of auto.states state).leave
      (λ held wanted. AtSomePoint-covered auto whole Covers-unfolded state (λ point. IsLiveOnLeaving auto point held)
      (λ point. IsLiveOnLeaving whole point held)
      (λ point live. IsLiveOnLeaving-covered auto whole Covers-unfolded point held live) wanted)
      (read.leaves state))

  accepts-read : EachTargetIsRead auto → (state : ℕ) (accept : Accept) → (state_of whole.states state).accept ≡ Some accept
      → EachIsWanted whole (λ held. AtSomePoint whole state (λ point. Contains accept.values held)) accept.ops
  accepts-read read state accept is =
      EachIsWanted-covered auto whole Covers-unfolded (λ held. AtSomePoint auto state (λ point. Contains accept.values held))
      (λ held. AtSomePoint whole state (λ point. Contains accept.values held)) accept.ops
      (λ held wanted. AtSomePoint-covered auto whole Covers-unfolded state (λ point. Contains accept.values held)
      (λ point. Contains accept.values held) (λ point has. has) wanted)
      (read.accepts state accept (sym (Covers-unfolded.accept state) ∙ is))

  pub EachTargetIsRead-unfolded : EachTargetIsRead auto → EachTargetIsRead whole
  EachTargetIsRead-unfolded read = record { leaves = leaves-read read; edges = edges-read read; accepts = accepts-read read }
