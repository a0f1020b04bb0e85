-- States of an automaton with greater numbers of rules, and words that tell them apart.
use Rattle.std.proofs.Common.{◌≡◌, ℕ, zero, suc, ◌<◌, List, [], ◌∷◌, length, Option, Some, None, refl, sym, ap, ◌∙◌, subst, arith}
use Rattle.std.specs.Prelude.{map, option_map}
use Rattle.std.proofs.lemmas.List.{length-map}
use Rattle.lx_auto.specs.declared.automaton.Accept.{Accept}
use Rattle.lx_auto.specs.declared.automaton.Auto.{Auto}
use Rattle.lx_auto.specs.declared.automaton.Edge.{Edge}
use Rattle.lx_auto.specs.declared.automaton.State.{State}
use Rattle.lx_auto.specs.Automaton.{AreStates, IsAccept, IsAuto, edge_on, state_of}
use Rattle.lx_auto.specs.ToldApart.{AcceptTheSame, AllAreToldApart, AreToldApart, MoveTheSame, by_accepts, by_moves, further_on}
use Rattle.lx_renumber.specs.Renumbered.{renumbered, renumbered_accept, renumbered_state}

module _ (by : ℕ) where
  pub state_of-renumbered : (states : List State) (number : ℕ)
      → state_of (map (renumbered_state by) states) number ≡ renumbered_state by (state_of states number)
  state_of-renumbered [] number = refl
  state_of-renumbered (state ∷ states) zero = refl
  state_of-renumbered (state ∷ states) (suc number) = state_of-renumbered states number

  -- the automaton is well formed
  IsAccept-renumbered : (regs mregs : ℕ) (accept : Option Accept) → IsAccept regs mregs accept
      → IsAccept regs mregs (option_map (renumbered_accept by) accept)
  IsAccept-renumbered regs mregs None is = tt
  IsAccept-renumbered regs mregs (Some accept) is = is

  AreStates-renumbered : (regs mregs count : ℕ) (states : List State) → AreStates regs mregs count states
      → AreStates regs mregs count (map (renumbered_state by) states)
  AreStates-renumbered regs mregs count [] are = tt
  AreStates-renumbered regs mregs count (state ∷ states) are = (
    record {
      apart = are.0.apart;
      lead = are.0.lead;
      accept = IsAccept-renumbered regs mregs state.accept are.0.accept;
      leave = are.0.leave;
    },
    AreStates-renumbered regs mregs count states are.1,
  )

  pub IsAuto-renumbered : (auto : Auto) → IsAuto auto → IsAuto (renumbered by auto)
  IsAuto-renumbered auto is =
      let count : length auto.states ≡ length (map (renumbered_state by) auto.states) = sym (length-map auto.states (renumbered_state by)) in
      record {
        start = subst (λ n. 0 < n) count is.start;
        few = subst (λ n. n < 4294967295) count is.few;
        few_regs = is.few_regs;
        few_mregs = is.few_mregs;
        states =
            subst (λ n. AreStates auto.regs auto.mregs n (map (renumbered_state by) auto.states)) count
            (AreStates-renumbered auto.regs auto.mregs (length auto.states) auto.states is.states);
      }

  -- numbers are equal where greater ones are
  AcceptTheSame-before : (first second : Option Accept)
      → AcceptTheSame (option_map (renumbered_accept by) first) (option_map (renumbered_accept by) second) → AcceptTheSame first second
  AcceptTheSame-before None None same = tt
  AcceptTheSame-before None (Some second) same = same
  AcceptTheSame-before (Some first) None same = same
  AcceptTheSame-before (Some first) (Some second) same = (omega (arith, same.0), same.1, same.2)

  module _ (auto : Auto) where
    abbrev copy : Auto
    copy = renumbered by auto

    -- what a state has in the automaton and in the one with greater numbers
    module _ (state : ℕ) where
      pub edges-renumbered : (state_of copy.states state).edges ≡ (state_of auto.states state).edges
      edges-renumbered = ap (λ (s : State). s.edges) (state_of-renumbered auto.states state)

      pub leave-renumbered : (state_of copy.states state).leave ≡ (state_of auto.states state).leave
      leave-renumbered = ap (λ (s : State). s.leave) (state_of-renumbered auto.states state)

      pub accept-renumbered : (state_of copy.states state).accept ≡ option_map (renumbered_accept by) (state_of auto.states state).accept
      accept-renumbered = ap (λ (s : State). s.accept) (state_of-renumbered auto.states state)

      edge_on-renumbered : (unit : ℕ) → edge_on (state_of copy.states state).edges unit ≡ edge_on (state_of auto.states state).edges unit
      edge_on-renumbered unit = ap (λ edges. edge_on edges unit) edges-renumbered

    MoveTheSame-before : (first second other third : State) (one another : Option Edge) → first.leave ≡ second.leave → other.leave ≡ third.leave
        → MoveTheSame first other one another → MoveTheSame second third one another
    MoveTheSame-before first second other third None None leave also move = tt
    MoveTheSame-before first second other third None (Some edge) leave also move = move
    MoveTheSame-before first second other third (Some edge) None leave also move = move
    MoveTheSame-before first second other third (Some edge) (Some another) leave also move =
        (rw (sym leave, sym also) move.0, move.1)

    AreToldApart-renumbered : (state other : ℕ) (word : List ℕ) → AreToldApart auto state other word → AreToldApart copy state other word
    AreToldApart-renumbered state other _ (by_accepts _ _ differ) =
        by_accepts state other (λ same. differ
        (AcceptTheSame-before (state_of auto.states state).accept (state_of auto.states other).accept
        (rw (sym (accept-renumbered state), sym (accept-renumbered other)) same)))
    AreToldApart-renumbered state other _ (by_moves _ _ unit differ) =
        by_moves state other unit (λ same. differ
        (MoveTheSame-before (state_of copy.states state) (state_of auto.states state) (state_of copy.states other) (state_of auto.states other)
        (edge_on (state_of auto.states state).edges unit) (edge_on (state_of auto.states other).edges unit)
        (leave-renumbered state) (leave-renumbered other)
        (subst (λ one. MoveTheSame (state_of copy.states state) (state_of copy.states other) one (edge_on (state_of auto.states other).edges unit))
        (edge_on-renumbered state unit)
        (subst (MoveTheSame (state_of copy.states state) (state_of copy.states other) (edge_on (state_of copy.states state).edges unit))
        (edge_on-renumbered other unit) same))))
    AreToldApart-renumbered state other _ (further_on _ _ unit first second word on next apart) =
        further_on state other unit first second word (edge_on-renumbered state unit ∙ on) (edge_on-renumbered other unit ∙ next)
        (AreToldApart-renumbered first.to second.to word apart)

    pub AllAreToldApart-renumbered : AllAreToldApart auto → AllAreToldApart copy
    AllAreToldApart-renumbered all state other within also differ =
        let count : length copy.states ≡ length auto.states = length-map auto.states (renumbered_state by) in
        let told = all state other (omega arith) (omega arith) differ in (told.0, AreToldApart-renumbered state other told.0 told.1)
