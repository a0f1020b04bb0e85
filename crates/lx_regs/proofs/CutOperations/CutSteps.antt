-- Edges, accepts and states without the operations that no walk reads, as code makes them.
use Rattle.std.proofs.Common.{◌≡◌, ◌⊎◌, inl, inr, ℕ, zero, suc, ◌+◌, ◌<◌, ◌≤◌, List, [], ◌∷◌, ◌++◌, length, None, Bool, true, false, ◌||◌, ◌&&◌, refl, Contains, sym, ap, ◌∙◌, subst, arith}
use Rattle.std.specs.Prelude.{◌↔◌}
use Rattle.std.specs.List.{list_any}
use Rattle.std.proofs.lemmas.Bool.{cases_lt}
use Rattle.std.proofs.Math.Seq.{get_or-append_seam}
use Rattle.std.proofs.lemmas.List.{get_or_append_left, get_or_past}
use Rattle.std.proofs.lemmas.List.Elements.{Contains-append_cases, Contains-append_left, Contains-append_right}
use Rattle.lx_auto.specs.declared.automaton.Auto.{Auto}
use Rattle.lx_auto.specs.declared.automaton.Edge.{Edge}
use Rattle.lx_auto.specs.declared.automaton.Held.{Held}
use Rattle.lx_auto.specs.declared.automaton.State.{State}
use Rattle.lx_auto.specs.declared.ops.Op.{Op}
use Rattle.lx_auto.specs.Automaton.{state_of}
use Rattle.lx_auto.specs.Effects.{Reads, effect_of, target_of}
use Rattle.lx_auto.specs.Live.{AtSomePoint, IsLiveBehind, IsLiveOnLeaving}
use Rattle.lx_regs.specs.declared.held_sets.HeldSet.{HeldSet}
use Rattle.lx_regs.specs.Dead.{AreEdgesCut, AreStatesCut, IsEdgeCut, IsStateCut, KeepsWanted, ends}
use Rattle.lx_regs.specs.HeldSets.{Has, has, is_same}
use Rattle.lx_regs.specs.KeptLists.{IsListed, is_read, writes}
use Rattle.lx_regs.specs.Leaving.{AddsRead, IsReadOnEdge}
use Rattle.lx_regs.specs.LiveSets.{AreLiveBehind}
use Rattle.lx_auto.specs.MetStates.{AreMet, is_marked}
use Rattle.lx_regs.proofs.CutOperations.KeptOps.{KeepsWanted-alike, effect_of-kept}
use Rattle.lx_auto.proofs.Places.{Contains-one}
use Rattle.lx_regs.proofs.CutOperations.ReadLists.{Contains-listed, is_read-complete, is_read-sound, is_same-refl, listed-Contains}

or-cases : (first second : Bool) → (first || second) ≡ true → (first ≡ true) ⊎ (second ≡ true)
or-cases true second is = inl refl
or-cases false second is = inr is

or-either : (first second : Bool) → (first ≡ true) ⊎ (second ≡ true) → (first || second) ≡ true
or-either true second is = refl
or-either false second (inl is) = absurd (cc is)
or-either false second (inr is) = is

-- an operation of a list writes its target
writes-target : (ops : List Op) (op : Op) → Contains ops op → list_any (writes (target_of op)) ops ≡ true
writes-target [] op (place, within, is) = absurd (omega arith)
writes-target (first ∷ ops) op (zero, within, is) =
    or-either (writes (target_of op) first) (list_any (writes (target_of op)) ops)
    (inl (subst (λ (o : Op). is_same (target_of op) (target_of o) ≡ true) (sym is) (is_same-refl (target_of op))))
writes-target (first ∷ ops) op (suc place, within, is) =
    or-either (writes (target_of op) first) (list_any (writes (target_of op)) ops) (inr (writes-target ops op (place, omega arith, is)))

-- what is wanted, of the targets of a list
pub listed-keeps : (ops kept : List Op) (live : List Held) (wanted : HeldSet)
    → ((held : Held) → list_any (writes held) ops ≡ true → has wanted held ≡ list_any (is_same held) live)
    → KeepsWanted (Has wanted) ops kept → KeepsWanted (IsListed live) ops kept
listed-keeps ops kept live wanted same keeps =
    KeepsWanted-alike (Has wanted) (IsListed live) ops kept (λ op has_op is. sym (at op has_op) ∙ is)
    (λ op has_op is. at op has_op ∙ is) keeps
  where
    at : (op : Op) → Contains ops op → has wanted (target_of op) ≡ list_any (is_same (target_of op)) live
    at op has_op = same (target_of op) (writes-target ops op has_op)

module _ (auto : Auto) (state : ℕ) where
  -- ---- one edge

  module _ (edge : Edge) (live : List Held) (are : AreLiveBehind auto state edge live) (kept : List Op)
      (keeps : KeepsWanted (IsListed live) edge.ops kept) where
    pub edge-keeps : KeepsWanted (λ held. AtSomePoint auto state (λ point. IsLiveBehind auto point edge held)) edge.ops kept
    edge-keeps =
        KeepsWanted-alike (IsListed live) (λ held. AtSomePoint auto state (λ point. IsLiveBehind auto point edge held)) edge.ops kept
        (λ op has is. are.sound (target_of op) (listed-Contains live (target_of op) is))
        (λ op has at. Contains-listed live (target_of op) (are.complete (target_of op) at)) keeps

    same-effect : (next : Held) → IsListed live next → effect_of kept next ≡ effect_of edge.ops next
    same-effect next is = effect_of-kept (IsListed live) edge.ops kept next keeps is

    read-to : (held : Held) → is_read live kept held ≡ true → IsReadOnEdge auto state edge held
    read-to held is =
        let found = is_read-sound held live edge.ops kept keeps is in (
          found.0,
          are.sound found.0 (listed-Contains live found.0 found.1),
          subst (λ effect. Reads effect held) (same-effect found.0 found.1) found.2,
        )

    read-back : (held : Held) → IsReadOnEdge auto state edge held → is_read live kept held ≡ true
    read-back held (next, at, reads) =
        let is = Contains-listed live next (are.complete next at) in
        is_read-complete held live kept next is (subst (λ effect. Reads effect held) (sym (same-effect next is)) reads)

    pub edge-reads : (asked before after : HeldSet)
        → ((held : Held) → has after held ≡ (has before held || (has asked held && is_read live kept held)))
        → AddsRead auto state asked (edge ∷ []) before after
    edge-reads asked before after adds held is_asked =
        let same : has after held ≡ (has before held || is_read live kept held) =
        adds held ∙ ap (λ b. has before held || (b && is_read live kept held)) is_asked in (
          λ is. to (or-cases (has before held) (is_read live kept held) (sym same ∙ is)),
          λ is. same ∙ or-either (has before held) (is_read live kept held) (back is),
        )
      where
        to : (Has before held) ⊎ (is_read live kept held ≡ true)
            → Has before held ⊎ ((other : Edge) × Contains (edge ∷ []) other × IsReadOnEdge auto state other held)
        to (inl is) = inl is
        to (inr is) = inr (edge, (0, omega arith, refl), read-to held is)

        back : Has before held ⊎ ((other : Edge) × Contains (edge ∷ []) other × IsReadOnEdge auto state other held)
            → (Has before held) ⊎ (is_read live kept held ≡ true)
        back (inl is) = inl is
        back (inr (other, has_other, reads)) =
            inr (read-back held (subst (λ e. IsReadOnEdge auto state e held) (sym (Contains-one edge other has_other)) reads))

  -- ---- edges, one behind another

  pub edges-more : (edges others : List Edge) (edge other : Edge) → AreEdgesCut auto state edges others → IsEdgeCut auto state edge other
      → AreEdgesCut auto state (edges ++ edge ∷ []) (others ++ other ∷ [])
  edges-more [] [] edge other cut is = (is, tt)
  edges-more (first ∷ edges) [] edge other cut is = absurd cut
  edges-more [] (second ∷ others) edge other cut is = absurd cut
  edges-more (first ∷ edges) (second ∷ others) edge other cut is = (cut.0, edges-more edges others edge other cut.1 is)

  pub reads-more : (asked : HeldSet) (front back : List Edge) (start before after : HeldSet) → AddsRead auto state asked front start before
      → AddsRead auto state asked back before after → AddsRead auto state asked (front ++ back) start after
  reads-more asked front back start before after one other held is_asked = (λ is. to ((other held is_asked).0 is), from)
    where
      earlier : Has start held ⊎ ((edge : Edge) × Contains front edge × IsReadOnEdge auto state edge held)
          → Has start held ⊎ ((edge : Edge) × Contains (front ++ back) edge × IsReadOnEdge auto state edge held)
      earlier (inl is) = inl is
      earlier (inr (edge, has_edge, reads)) = inr (edge, Contains-append_left front back edge has_edge, reads)

      to : Has before held ⊎ ((edge : Edge) × Contains back edge × IsReadOnEdge auto state edge held)
          → Has start held ⊎ ((edge : Edge) × Contains (front ++ back) edge × IsReadOnEdge auto state edge held)
      to (inl is) = earlier ((one held is_asked).0 is)
      to (inr (edge, has_edge, reads)) = inr (edge, Contains-append_right front back edge has_edge, reads)

      at : (edge : Edge) → IsReadOnEdge auto state edge held → Contains front edge ⊎ Contains back edge → Has after held
      at edge reads (inl has_edge) = (other held is_asked).1 (inl ((one held is_asked).1 (inr (edge, has_edge, reads))))
      at edge reads (inr has_edge) = (other held is_asked).1 (inr (edge, has_edge, reads))

      from : Has start held ⊎ ((edge : Edge) × Contains (front ++ back) edge × IsReadOnEdge auto state edge held) → Has after held
      from (inl is) = (other held is_asked).1 (inl ((one held is_asked).1 (inl is)))
      from (inr (edge, has_edge, reads)) = at edge reads (Contains-append_cases front back edge has_edge)

  -- ---- what is wanted of an accept, and where a state is left

  pub values-wanted : (marks : List Bool) (values : List Held) → AreMet auto marks → is_marked marks state ≡ true → (held : Held)
      → IsListed values held ↔ AtSomePoint auto state (λ point. Contains values held)
  values-wanted marks values are marked held =
      let met = are.sound state marked in
      (λ is. (met.0, met.1, listed-Contains values held is), λ at. Contains-listed values held at.2)

  pub leave-keeps : (asked start leaving : HeldSet) (ops kept : List Op) → ((held : Held) → has asked held ≡ list_any (writes held) ops)
      → ((held : Held) → has start held ≡ false) → AddsRead auto state asked (state_of auto.states state).edges start leaving
      → KeepsWanted (Has leaving) ops kept
      → KeepsWanted (λ held. AtSomePoint auto state (λ point. IsLiveOnLeaving auto point held)) ops kept
  leave-keeps asked start leaving ops kept all none adds keeps =
      KeepsWanted-alike (Has leaving) (λ held. AtSomePoint auto state (λ point. IsLiveOnLeaving auto point held)) ops kept
      (λ op has_op is. to (target_of op) ((adds (target_of op) (is_asked op has_op)).0 is))
      (λ op has_op (left, reached, (edge, next, has_edge, live, reads)).
      (adds (target_of op) (is_asked op has_op)).1 (inr (edge, has_edge, (next, (left, reached, live), reads)))) keeps
    where
      is_asked : (op : Op) → Contains ops op → Has asked (target_of op)
      is_asked op has_op = all (target_of op) ∙ writes-target ops op has_op

      to : (held : Held)
          → Has start held ⊎ ((edge : Edge) × Contains (state_of auto.states state).edges edge × IsReadOnEdge auto state edge held)
          → AtSomePoint auto state (λ point. IsLiveOnLeaving auto point held)
      to held (inl is) = let both : true ≡ false = sym is ∙ none held in absurd (cc both)
      to held (inr (edge, has_edge, (next, (left, reached, live), reads))) = (left, reached, (edge, next, has_edge, live, reads))

-- ---- states, one behind another

-- the state that is read where there is none
abbrev no_state : State
no_state = record { edges = []; accept = None; leave = [] }

module _ (auto : Auto) where
  pub states-more : (states : List State) (number : ℕ) (other : State) → length states ≡ number
      → ((earlier : ℕ) → earlier < number → IsStateCut auto earlier (state_of auto.states earlier) (state_of states earlier))
      → IsStateCut auto number (state_of auto.states number) other → (next : List State) → next ≡ states ++ other ∷ []
      → (earlier : ℕ) → earlier < number + 1 → IsStateCut auto earlier (state_of auto.states earlier) (state_of next earlier)
  states-more states number other count cut is next same earlier lt =
      subst (λ l. IsStateCut auto earlier (state_of auto.states earlier) (state_of l earlier)) (sym same) (at (cases_lt earlier number))
    where
      at : (earlier < number) ⊎ (number ≤ earlier)
          → IsStateCut auto earlier (state_of auto.states earlier) (state_of (states ++ other ∷ []) earlier)
      at (inl front) =
          subst (IsStateCut auto earlier (state_of auto.states earlier))
          (sym (get_or_append_left states (other ∷ []) no_state earlier (omega arith)))
          (cut earlier front)
      at (inr ge) =
          let last : length states ≡ earlier = omega arith in
          let is_number : number ≡ earlier = omega arith in
          subst (λ k. IsStateCut auto k (state_of auto.states k) (state_of (states ++ other ∷ []) k)) is_number
          (subst (λ k. IsStateCut auto number (state_of auto.states number) (state_of (states ++ other ∷ []) k)) count
          (subst (IsStateCut auto number (state_of auto.states number)) (sym (get_or-append_seam states other [] no_state)) is))

  pub states-all : (states : List State) (number : ℕ) → length states ≡ number → length auto.states ≡ number
      → ((earlier : ℕ) → earlier < number → IsStateCut auto earlier (state_of auto.states earlier) (state_of states earlier))
      → AreStatesCut auto auto.states states
  states-all states number count all cut = record {
    count = count ∙ sym all;
    each = λ state. at state (cases_lt state number);
  }
    where
      at : (state : ℕ) → (state < number) ⊎ (number ≤ state) → IsStateCut auto state (state_of auto.states state) (state_of states state)
      at state (inl lt) = cut state lt
      at state (inr ge) =
          subst (λ s. IsStateCut auto state s (state_of states state)) (sym (get_or_past auto.states state no_state (omega arith)))
          (subst (IsStateCut auto state no_state) (sym (get_or_past states state no_state (omega arith)))
          (record { edges = tt; accept = tt; leave = ends }))
