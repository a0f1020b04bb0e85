-- The states of an automaton with all edges, and that it is well formed.
use Rattle.std.proofs.Common.{◌≡◌, ℕ, zero, suc, ◌+◌, ◌<◌, List, [], ◌∷◌, length, Contains, refl, sym, ap, ◌∙◌, subst, arith}
use Rattle.std.specs.Prelude.{map}
use Rattle.lx_auto.specs.declared.automaton.Auto.{Auto}
use Rattle.lx_auto.specs.declared.automaton.Edge.{Edge}
use Rattle.lx_auto.specs.declared.automaton.State.{State}
use Rattle.lx_auto.specs.Automaton.{AreApart, AreApartFrom, AreOps, AreStates, IsAuto, IsState, LeadWithin, state_of}
use Rattle.lx_auto.proofs.SameLists.{Contains-later, Contains-map}
use Rattle.lx_auto.proofs.States.{state_formed}
use Rattle.lx_regs.specs.declared.folding.Fold.{Fold}
use Rattle.lx_regs.specs.FoldedEdges.{AreFolded, AreFoldedStates, edge_at, folds_at, unfolded_auto, unfolded_edge, unfolded_state, unfolded_states}

-- ---- states

pub state_of-unfolded : (states : List State) (lists : List (List Fold)) (number : ℕ) → length lists ≡ length states
    → state_of (unfolded_states states lists) number ≡ unfolded_state (state_of states number) (folds_at lists number)
state_of-unfolded [] [] number count = refl
state_of-unfolded [] (folds ∷ lists) number count = absurd (omega arith)
state_of-unfolded (state ∷ states) [] number count = absurd (omega arith)
state_of-unfolded (state ∷ states) (folds ∷ lists) zero count = refl
state_of-unfolded (state ∷ states) (folds ∷ lists) (suc number) count = state_of-unfolded states lists number (omega arith)

pub length-unfolded : (states : List State) (lists : List (List Fold)) → length (unfolded_states states lists) ≡ length states
length-unfolded [] lists = refl
length-unfolded (state ∷ states) [] = ap suc (length-unfolded states [])
length-unfolded (state ∷ states) (folds ∷ lists) = ap suc (length-unfolded states lists)

-- ---- edges

pub AreApart-unfolded : (kept others : List Edge) (folds : List Fold) (low : ℕ) → AreApartFrom low (map (unfolded_edge kept) folds)
    → AreApartFrom low (map (unfolded_edge others) folds)
AreApart-unfolded kept others [] low apart = tt
AreApart-unfolded kept others (fold ∷ folds) low apart = (apart.0, apart.1, AreApart-unfolded kept others folds (fold.hi + 1) apart.2)

module _ (regs mregs count : ℕ) where
  abbrev Leads : Edge → Type 0
  Leads edge = (edge.to < count) × AreOps regs mregs edge.ops

  Leads-at : (edges : List Edge) (place : ℕ) → LeadWithin regs mregs count edges → place < length edges → Leads (edge_at edges place)
  Leads-at [] place lead within = absurd (omega arith)
  Leads-at (edge ∷ edges) zero lead within = (lead.0, lead.1)
  Leads-at (edge ∷ edges) (suc place) lead within = Leads-at edges place lead.2 (omega arith)

  Leads-member : (edges : List Edge) (edge : Edge) → LeadWithin regs mregs count edges → Contains edges edge → Leads edge
  Leads-member [] edge lead (place, within, is) = absurd (omega arith)
  Leads-member (first ∷ edges) edge lead (zero, within, is) = subst (λ (e : Edge). Leads e) is (lead.0, lead.1)
  Leads-member (first ∷ edges) edge lead (suc place, within, is) = Leads-member edges edge lead.2 (place, omega arith, is)

  LeadWithin-each : (edges : List Edge) → ((place : ℕ) → place < length edges → Leads (edge_at edges place))
      → LeadWithin regs mregs count edges
  LeadWithin-each [] each = tt
  LeadWithin-each (edge ∷ edges) each =
      let first = each 0 (omega arith) in
      (first.0, first.1, LeadWithin-each edges (λ place within. each (suc place) (omega arith)))

  LeadWithin-unfolded : (kept : List Edge) (folds : List Fold) → LeadWithin regs mregs count kept
      → ((fold : Fold) → Contains folds fold → fold.place < length kept) → LeadWithin regs mregs count (map (unfolded_edge kept) folds)
  LeadWithin-unfolded kept [] lead within = tt
  LeadWithin-unfolded kept (fold ∷ folds) lead within =
      let first = Leads-at kept fold.place lead (within fold (0, omega arith, refl)) in (
        first.0,
        first.1,
        LeadWithin-unfolded kept folds lead (λ other has. within other (Contains-later fold folds other has)),
      )

  LeadWithin-kept : (kept : List Edge) (folds : List Fold) → AreFolded kept folds
      → LeadWithin regs mregs count (map (unfolded_edge kept) folds)
      → LeadWithin regs mregs count kept
  LeadWithin-kept kept folds are lead =
      LeadWithin-each kept (λ place within.
      let found = are.noted place within in
      subst (λ (p : ℕ). Leads (edge_at kept p)) found.2
      (Leads-member (map (unfolded_edge kept) folds) (unfolded_edge kept found.0) lead
      (Contains-map (unfolded_edge kept) folds found.0 found.1)))

  AreStates-each : (states : List State) → ((number : ℕ) → IsState regs mregs count (state_of states number))
      → AreStates regs mregs count states
  AreStates-each [] each = tt
  AreStates-each (state ∷ states) each = (each 0, AreStates-each states (λ number. each (suc number)))

-- ---- automata

-- the automaton of which all edges are given is well formed
pub IsAuto-folded : (given : Auto) (states : List State) (lists : List (List Fold)) → IsAuto given
    → AreFoldedStates given.states states lists → IsAuto (record { states = states; regs = given.regs; mregs = given.mregs })
IsAuto-folded given states lists is are = record {
  start = subst (λ n. 0 < n) (sym many) is.start;
  few = subst (λ n. n < 4294967295) (sym many) is.few;
  few_regs = is.few_regs;
  few_mregs = is.few_mregs;
  states = AreStates-each given.regs given.mregs (length states) states at;
} where
  many : length states ≡ length given.states
  many = sym (length-unfolded states lists) ∙ ap length are.again

  all : (number : ℕ) → state_of given.states number ≡ unfolded_state (state_of states number) (folds_at lists number)
  all number = ap (λ l. state_of l number) (sym are.again) ∙ state_of-unfolded states lists number are.count

  given_at : (number : ℕ) → IsState given.regs given.mregs (length states) (unfolded_state (state_of states number) (folds_at lists number))
  given_at number =
      subst (λ s. IsState given.regs given.mregs (length states) s) (all number)
      (subst (λ n. IsState given.regs given.mregs n (state_of given.states number)) (sym many) (state_formed given number is))

  at : (number : ℕ) → IsState given.regs given.mregs (length states) (state_of states number)
  at number = record {
    apart = are.apart number (state_formed given number is).apart;
    lead = LeadWithin-kept given.regs given.mregs (length states) (state_of states number).edges (folds_at lists number) (are.folded number)
        (given_at number).lead;
    accept = (given_at number).accept;
    leave = (given_at number).leave;
  }

-- with all its edges an automaton is well formed where another is with edges in the same ranges
pub IsAuto-unfolded : (folded answer : Auto) (lists : List (List Fold)) → IsAuto (unfolded_auto folded lists) → IsAuto answer
    → length lists ≡ length folded.states → length lists ≡ length answer.states
    → ((number : ℕ) → AreFolded (state_of answer.states number).edges (folds_at lists number)) → IsAuto (unfolded_auto answer lists)
IsAuto-unfolded folded answer lists given is count also are = record {
  start = subst (λ n. 0 < n) (sym many) is.start;
  few = subst (λ n. n < 4294967295) (sym many) is.few;
  few_regs = is.few_regs;
  few_mregs = is.few_mregs;
  states = AreStates-each answer.regs answer.mregs (length (unfolded_states answer.states lists)) (unfolded_states answer.states lists) at;
} where
  many : length (unfolded_states answer.states lists) ≡ length answer.states
  many = length-unfolded answer.states lists

  apart_at : (number : ℕ) → AreApart (map (unfolded_edge (state_of folded.states number).edges) (folds_at lists number))
  apart_at number =
      subst (λ (s : State). AreApart s.edges) (state_of-unfolded folded.states lists number count)
      (state_formed (unfolded_auto folded lists) number given).apart

  all_at : (number : ℕ)
      → IsState answer.regs answer.mregs (length answer.states) (unfolded_state (state_of answer.states number) (folds_at lists number))
  all_at number =
      let formed = state_formed answer number is in record {
        apart = AreApart-unfolded (state_of folded.states number).edges (state_of answer.states number).edges (folds_at lists number) 0
            (apart_at number);
        lead = LeadWithin-unfolded answer.regs answer.mregs (length answer.states) (state_of answer.states number).edges
            (folds_at lists number) formed.lead (are number).within;
        accept = formed.accept;
        leave = formed.leave;
      }

  at : (number : ℕ)
      → IsState answer.regs answer.mregs (length (unfolded_states answer.states lists)) (state_of (unfolded_states answer.states lists) number)
  at number =
      subst (λ n. IsState answer.regs answer.mregs n (state_of (unfolded_states answer.states lists) number)) (sym many)
      (subst (λ s. IsState answer.regs answer.mregs (length answer.states) s) (sym (state_of-unfolded answer.states lists number also))
      (all_at number))
