-- The chosen states, with edges to classes, are a merge of the automaton, which is well formed.
use Rattle.std.proofs.Common.{◌≡◌, ◌≢◌, ℕ, suc, ◌+◌, ◌<◌, ◌≤◌, List, [], ◌∷◌, length, get_or, set, None, refl, Contains, sym, ap, ◌∙◌, subst, arith}
use Rattle.std.specs.Prelude.{map}
use Rattle.std.proofs.lemmas.List.{get_or-map, get_or-set_other, length-map}
use Rattle.lx_auto.specs.declared.automaton.Auto.{Auto}
use Rattle.lx_auto.specs.declared.automaton.Edge.{Edge}
use Rattle.lx_auto.specs.declared.automaton.State.{State}
use Rattle.lx_auto.specs.Automaton.{AreStates, IsAuto, IsState, LeadWithin, state_of}
use Rattle.lx_auto.specs.Points.{begins}
use Rattle.lx_auto.proofs.MetStates.{met-behind}
use Rattle.lx_auto.proofs.SameLists.{Contains-later}
use Rattle.lx_auto.proofs.States.{state_formed}
use Rattle.lx_min.specs.Merges.{AreClasses, Classes, IsMerge, moved_edge, moved_state}
use Rattle.lx_min.proofs.MovedEdges.{AreApartFrom-moved}

-- ---- the loop over the chosen states

-- chosen states are distinct
pub chosen-apart : (auto : Auto) (classes : Classes) → AreClasses auto classes → (number other : ℕ) → number < classes.count
    → other < classes.count → number ≢ other → classes.chosen number ≢ classes.chosen other
chosen-apart auto classes are number other within also differ same =
    differ (sym (are.chosen number within).1 ∙ ap classes.of same ∙ (are.chosen other also).1)

-- the states of numbers from one on are as they were
abbrev pub AreLeft : (classes : Classes) → (given states : List State) → (bound : ℕ) → Type 0
AreLeft classes given states bound = (number : ℕ) → bound ≤ number → number < classes.count
    → state_of states (classes.chosen number) ≡ state_of given (classes.chosen number)

pub AreLeft-taken : (auto : Auto) (classes : Classes) (states : List State) (bound : ℕ) (state : State) → AreClasses auto classes
    → bound < classes.count → AreLeft classes auto.states states bound
    → AreLeft classes auto.states (set states (classes.chosen bound) state) (bound + 1)
AreLeft-taken auto classes states bound state are within left number from also =
    let differ : number ≢ bound = λ same. absurd (omega arith) in
    get_or-set_other states (classes.chosen bound) (classes.chosen number) state (record { edges = []; accept = None; leave = [] })
    (chosen-apart auto classes are number bound also within differ)
    ∙ left number (omega arith) also

-- ---- the merge

pub IsMerge-listed : (auto : Auto) (classes : Classes) (chosen : List ℕ) (states : List State) → AreClasses auto classes
    → length chosen ≡ classes.count → ((number : ℕ) → get_or chosen number 0 ≡ classes.chosen number)
    → states ≡ map (λ state. moved_state classes.of (state_of auto.states state)) chosen
    → IsMerge auto (record { states = states; regs = auto.regs; mregs = auto.mregs }) classes
IsMerge-listed auto classes chosen states are count numbers is =
    let moved : ℕ → State = λ state. moved_state classes.of (state_of auto.states state) in
    record {
      are = are;
      count = ap length is ∙ length-map chosen moved ∙ count;
      states = λ class within.
          let in_list : class < length chosen = omega arith in
          ap (λ l. state_of l class) is
          ∙ get_or-map moved chosen class 0 (record { edges = []; accept = None; leave = [] }) in_list
          ∙ ap moved (numbers class);
      regs = refl;
      mregs = refl;
    }

-- ---- well formed

module _ (regs mregs count : ℕ) where
  LeadWithin-moved : (class : ℕ → ℕ) (before : ℕ) (edges : List Edge) → LeadWithin regs mregs before edges
      → ((edge : Edge) → Contains edges edge → class edge.to < count) → LeadWithin regs mregs count (map (moved_edge class) edges)
  LeadWithin-moved class before [] lead within = tt
  LeadWithin-moved class before (edge ∷ edges) lead within = (
    within edge (0, omega arith, refl),
    lead.1,
    LeadWithin-moved class before edges lead.2 (λ other has. within other (Contains-later edge edges other has)),
  )

  IsState-moved : (class : ℕ → ℕ) (before : ℕ) (state : State) → IsState regs mregs before state
      → ((edge : Edge) → Contains state.edges edge → class edge.to < count) → IsState regs mregs count (moved_state class state)
  IsState-moved class before state is within = record {
    apart = AreApartFrom-moved class 0 state.edges is.apart;
    lead = LeadWithin-moved class before state.edges is.lead within;
    accept = is.accept;
    leave = is.leave;
  }

  AreStates-each : (states : List State) → ((number : ℕ) → number < length states → IsState regs mregs count (state_of states number))
      → AreStates regs mregs count states
  AreStates-each [] each = tt
  AreStates-each (state ∷ states) each =
      (each 0 (omega arith), AreStates-each states (λ number within. each (suc number) (omega arith)))

module _ (given answer : Auto) (classes : Classes) (is : IsMerge given answer classes) (formed : IsAuto given) where
  state-formed : (number : ℕ) → number < length answer.states
      → IsState given.regs given.mregs (length answer.states) (state_of answer.states number)
  state-formed number within =
      let in_classes : number < classes.count = subst (λ count. number < count) is.count within in
      let chosen = classes.chosen number in
      subst (IsState given.regs given.mregs (length answer.states)) (sym (is.states number in_classes))
      (IsState-moved given.regs given.mregs (length answer.states) classes.of (length given.states) (state_of given.states chosen)
      (state_formed given chosen formed)
      (λ edge has. subst (λ count. classes.of edge.to < count) (sym is.count)
      (is.are.within edge.to (met-behind given chosen edge (is.are.chosen number in_classes).0 has))))

  pub IsAuto-merged : classes.count ≤ length given.states → IsAuto answer
  IsAuto-merged few =
      let count : length answer.states ≡ classes.count = is.count in
      let first : classes.of 0 < classes.count = is.are.within 0 (None, begins) in
      let fewer : length given.states < 4294967295 = formed.few in
      record {
        start = omega arith;
        few = omega arith;
        few_regs = subst (λ regs. regs ≤ 1073741824) (sym is.regs) formed.few_regs;
        few_mregs = subst (λ mregs. mregs ≤ 1073741824) (sym is.mregs) formed.few_mregs;
        states =
            subst (λ (counts : ℕ × ℕ). AreStates counts.0 counts.1 (length answer.states) answer.states)
            (λ i. (sym is.regs i, sym is.mregs i))
            (AreStates-each given.regs given.mregs (length answer.states) answer.states state-formed);
      }
