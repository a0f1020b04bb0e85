-- Where a run of a well-formed automaton stands: in one of its states, and what it left last is found again where it falls back.
use Rattle.std.specs.Prelude.{◌≡◌, ℕ, zero, suc, ◌<◌, ◌&&◌, Bool, true, false, List, [], ◌∷◌, length, Option, Some, None, is_some, refl}
use Rattle.std.proofs.Common.{sym, subst, arith, true≢false}
use Rattle.lx_auto.specs.Automaton.{IsAuto, edge_on, state_of}
use Rattle.lx_auto.specs.Bank.{Bank}
use Rattle.lx_auto.specs.Run.{Standing, and_then, behind_edge, by_edge, left_after, run, start_with}
use Rattle.lx_auto.specs.declared.automaton.Accept.{Accept}
use Rattle.lx_auto.specs.declared.automaton.Auto.{Auto}
use Rattle.lx_auto.specs.declared.automaton.Edge.{Edge}
use Rattle.lx_auto.specs.declared.automaton.State.{State}
use Rattle.lx_auto.proofs.States.{edge_on-leads, state_formed}
use Rattle.lx_layout.specs.Carries.{HasEdge, IsReached}
use Rattle.lx_layout.specs.Halting.{Halting, is_saved, saves_on}
use Rattle.lx_layout.proofs.Runs.UnitsLeft.{edge_on-one, list_any-edge_on}
use Rattle.lx_layout.proofs.Supplied.SufficientUnits.{IsFresh, IsFresh-edge}
use Rattle.lx_layout.proofs.Supplied.StateRuns.{FallsOnward, IsFoundAgain}

-- only states of the automaton have an edge
edges_within : (states : List State) (number : ℕ) → ((state_of states number).edges ≡ [] → ⊥) → number < length states
edges_within [] number has = absurd (has refl)
edges_within (state ∷ states) zero has = omega arith
edges_within (state ∷ states) (suc number) has = let within = edges_within states number has in omega (arith, within)

pub edge_within : (auto : Auto) (number : ℕ) → HasEdge auto number → number < length auto.states
edge_within auto number has = edges_within auto.states number has

-- it stands in a state, and where a match falls back, what was left last is found again
pub record IsUsual (halting : Halting) (auto : Auto) (standing : Standing) : Type 0 where
  pub state : standing.state < length auto.states
  pub left : halting.falls standing.state ≡ true → IsFoundAgain halting auto standing.left
  pub fresh : IsFresh halting standing

module _ (halting : Halting) (auto : Auto) (formed : IsAuto auto) (onward : FallsOnward halting auto) where
  abbrev Usual : Standing → Type 0
  Usual standing = IsUsual halting auto standing

  -- what is left where an edge leads to a state from which a match falls back
  found_after : (o : Option Accept) (falls : Bool) (standing : Standing) → standing.state < length auto.states
      → (state_of auto.states standing.state).accept ≡ o → (o ≡ None → IsFoundAgain halting auto standing.left)
      → (is_some o && falls ≡ true → is_saved halting (state_of auto.states standing.state) ≡ true) → falls ≡ true
      → IsFoundAgain halting auto (left_after o standing)
  found_after None falls standing lt e left saves is = left refl
  found_after (Some accept) true standing lt e left saves is = (lt, saves refl, e)
  found_after (Some accept) false standing lt e left saves is = absurd (true≢false (sym is))

  usual_behind : (standing : Standing) (unit : ℕ) (edge : Edge) → edge_on (state_of auto.states standing.state).edges unit ≡ Some edge → Usual standing
      → Usual (behind_edge (state_of auto.states standing.state) standing edge)
  usual_behind standing unit edge on usual =
      let state : State = state_of auto.states standing.state in
      let leads = edge_on-leads auto.regs auto.mregs (length auto.states) state.edges unit edge (state_formed auto standing.state formed).lead on in
      record {
        state = leads.0;
        left = λ falls.
            found_after state.accept (halting.falls edge.to) standing usual.state refl
            (λ none. usual.left (onward standing.state edge usual.state none (edge_on-one state.edges unit edge on) falls))
            (λ saves. list_any-edge_on (λ edge. saves_on halting state edge) state.edges unit edge on saves) falls;
        fresh = IsFresh-edge halting auto standing unit edge onward usual.state on usual.fresh;
      }

  usual_run : (word : List ℕ) (standing last : Standing) → Usual standing → run auto standing word ≡ Some last → Usual last
  usual_run [] standing last usual ran =
      let same : standing ≡ last = cc in
      subst (λ (s : Standing). Usual s) same usual
  usual_run (unit ∷ word) standing last usual ran =
      by (edge_on (state_of auto.states standing.state).edges unit) refl ran (λ next usual ran. usual_run word next last usual ran)
    where
      by : (o : Option Edge) → edge_on (state_of auto.states standing.state).edges unit ≡ o
          → and_then (by_edge (state_of auto.states standing.state) standing o) (λ next. run auto next word) ≡ Some last
          → ((next : Standing) → Usual next → run auto next word ≡ Some last → Usual last) → Usual last
      by None on ran again = absurd cc
      by (Some edge) on ran again =
          again (behind_edge (state_of auto.states standing.state) standing edge) (usual_behind standing unit edge on usual) ran

  pub usual_start : (start : ℕ) (bank : Bank) → Usual (start_with start bank)
  usual_start start bank = record { state = formed.start; left = λ falls. tt; fresh = λ none falls. falls }

  pub usual_reached : (standing : Standing) → IsReached auto standing → Usual standing
  usual_reached standing reached =
      usual_run reached.2 (start_with reached.0 reached.1) standing (usual_start reached.0 reached.1) reached.4
