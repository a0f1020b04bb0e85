-- The automaton of a table is well formed.
use Rattle.std.proofs.Common.{◌≡◌, ℕ, zero, suc, ◌+◌, ◌*◌, ◌<◌, ◌≤◌, arith, List, [], ◌∷◌, length, filter_map, Option, Some, None, Bool, refl, sym, ap, ◌∙◌, subst, get_or}
use Rattle.std.proofs.lemmas.Option.{slice_get-get_or, slice_get_within}
use Rattle.std.proofs.Math.Nat.{mul-le-mul}
use Rattle.std.specs.Prelude.{slice_get, sum_by}
use Rattle.lx_auto.specs.Automaton.{AreApartFrom, AreOps, AreStates, IsAccept, IsAuto, IsState, LeadWithin, edge_on}
use Rattle.lx_auto.specs.declared.automaton.Auto.{Auto}
use Rattle.lx_auto.specs.declared.automaton.Edge.{Edge}
use Rattle.lx_auto.specs.declared.automaton.State.{State}
use Rattle.lx_auto.proofs.Edges.{edge_on-here, edge_on-past}
use Rattle.lx_tnfa.specs.Tnfa.{Tnfa}
use Rattle.lx_tnfa.specs.declared.closure.Reach.{Reach}
use Rattle.lx_tnfa.specs.declared.places.Place.{Place}
use Rattle.lx_tnfa.proofs.Searching.SearchBasics.{Each}
use Rattle.lx_tnfa.proofs.Searching.SearchPaths.{Each-from_all}
use Rattle.lx_tdfa.specs.Building.{AreStatesOf, greatest_of}
use Rattle.lx_tdfa.specs.Making.{IsWithin, most_places}
use Rattle.lx_tdfa.specs.Registers.{widest}
use Rattle.lx_tdfa.specs.Steps.{Ending, Step, first_ending, next_steps, places_of, start_place, step_on}
use Rattle.lx_tdfa.specs.Table.{IsEdgeOf, IsStateBy, IsStateOf, Onward, accept_of, is_first, leave_of, onward_by}
use Rattle.lx_tdfa.proofs.Loops.EdgesMade.{steps_from}
use Rattle.lx_tdfa.proofs.Loops.OpBounds.{ending_ops-bound, step_ops-bound, values-bound}
use Rattle.lx_tdfa.proofs.Loops.StatesMade.{closure_sources, first_ending-source}
use Rattle.lx_tdfa.proofs.Values.StepOps.{kinds_of_rule-widest}
use Rattle.lx_tdfa.proofs.Rules.StepPlaces.{first_steps-each}
use Rattle.lx_tdfa.proofs.Tables.TableBounds.{most_places-sum}

-- no list has more places than the most, and that is no more than all together
pub length-most : {P : Type 0} (lists : List (List P)) (number : ℕ) (list : List P) → slice_get lists number ≡ Some list → length list ≤ most_places lists
length-most [] number list e = cc
length-most (other ∷ lists) zero list e =
    let same : length other ≡ length list = ap (λ l. length l) (let q : other ≡ list = cc in q) in omega (arith, same)
length-most (other ∷ lists) (suc number) list e = let r : length list ≤ most_places lists = length-most lists number list e in omega (arith, r)

pub places_of-length : (steps : List Step) → length (places_of steps) ≡ length steps
places_of-length [] = refl
places_of-length (step ∷ steps) = let r : length (places_of steps) ≡ length steps = places_of-length steps in omega (arith, r)

-- edges lead within states, where each that is on a unit does
lead-from_on : (regs mregs states greatest low : ℕ) (edges : List Edge) → AreApartFrom low edges
    → Each (λ (edge : Edge). edge.hi ≤ greatest) edges
    → ((unit : ℕ) (edge : Edge) → low ≤ unit → unit ≤ greatest → edge_on edges unit ≡ Some edge → (edge.to < states) × AreOps regs mregs edge.ops)
    → LeadWithin regs mregs states edges
lead-from_on regs mregs states greatest low [] apart ends on = tt
lead-from_on regs mregs states greatest low (edge ∷ edges) apart ends on =
    let ordered : edge.lo ≤ edge.hi = apart.1 in
    let end : edge.hi ≤ greatest = ends.0 in
    let from : low ≤ edge.lo = apart.0 in
    let here : (edge.to < states) × AreOps regs mregs edge.ops =
    on edge.lo edge from (omega arith) (edge_on-here edge edges edge.lo (omega arith) ordered) in (
      here.0,
      here.1,
      lead-from_on regs mregs states greatest (edge.hi + 1) edges apart.2 ends.1
          (λ unit other above le e. on unit other (omega arith) le (edge_on-past edge edges unit (omega arith) ∙ e)),
    )

states-from_each : (regs mregs count : ℕ) (states : List State)
    → ((number : ℕ) (state : State) → slice_get states number ≡ Some state → IsState regs mregs count state) → AreStates regs mregs count states
states-from_each regs mregs count [] each = tt
states-from_each regs mregs count (state ∷ states) each =
    (each 0 state refl, states-from_each regs mregs count states (λ number other e. each (suc number) other e))

-- a state of a table, by the registers for so many places
module _ (tnfa : Tnfa) (most regs mregs : ℕ) (regs_are : regs ≡ (most + 1) * widest tnfa.rules) (mregs_are : mregs ≡ regs + 1) where
  accept_formed : (first : Bool) (ending : Option Ending) → ((e : Ending) → ending ≡ Some e → e.from < most)
      → IsAccept regs mregs (accept_of tnfa first ending)
  accept_formed first None from = tt
  accept_formed first (Some ending) from = (
    ending_ops-bound regs mregs mregs_are tnfa (widest tnfa.rules) most (kinds_of_rule-widest tnfa) regs_are first ending (from ending refl),
    values-bound regs mregs mregs_are tnfa (widest tnfa.rules) most (kinds_of_rule-widest tnfa) regs_are ending.rule,
  )

  leave_formed : (first : Bool) (ending : Option Ending) → ((e : Ending) → ending ≡ Some e → e.from < most)
      → AreOps regs mregs (leave_of tnfa first ending)
  leave_formed first None from = tt
  leave_formed first (Some ending) from =
      ending_ops-bound regs mregs mregs_are tnfa (widest tnfa.rules) most (kinds_of_rule-widest tnfa) regs_are first ending (from ending refl)

  module _ {K : Type 0} (kernels : List K) (size : K → ℕ)
      (bounded : (number : ℕ) (kernel : K) → slice_get kernels number ≡ Some kernel → size kernel ≤ most) where
    edge_formed : (first : Bool) (edge : Edge) (steps : List Step) (next : K) → Each (λ (step : Step). step.from < most) steps
        → size next ≡ length steps → IsEdgeOf tnfa kernels first steps next (Some edge) → (edge.to < length kernels) × AreOps regs mregs edge.ops
    edge_formed first edge [] next each sized is = absurd is
    edge_formed first edge (step ∷ steps) next each sized is =
        let long : size next ≤ most = bounded edge.to next is.0 in
        let few : 0 + length (step ∷ steps) ≤ most = omega (arith, long, sized) in (
          slice_get_within kernels edge.to next is.0,
          subst (AreOps regs mregs) (sym is.1)
              (step_ops-bound regs mregs mregs_are tnfa (widest tnfa.rules) most (kinds_of_rule-widest tnfa) regs_are first 0 (step ∷ steps) each few),
        )

    pub state-formed : (greatest : ℕ) (first : Bool) (onward : Onward K) (state : State)
        → ((unit : ℕ) → Each (λ (step : Step). step.from < most) (onward.steps unit))
        → ((unit : ℕ) → size (onward.next unit) ≡ length (onward.steps unit))
        → ((e : Ending) → onward.ending ≡ Some e → e.from < most)
        → IsStateBy tnfa greatest kernels first onward state → AreApartFrom 0 state.edges → IsState regs mregs (length kernels) state
    state-formed greatest first onward state sources sized ending is apart = record {
      apart = apart;
      lead =
          lead-from_on regs mregs (length kernels) greatest 0 state.edges apart
          (Each-from_all (λ (edge : Edge). edge.hi ≤ greatest) state.edges is.units) on;
      accept = subst (IsAccept regs mregs) (sym is.accept) (accept_formed first onward.ending ending);
      leave = subst (AreOps regs mregs) (sym is.leave) (leave_formed first onward.ending ending);
    }
      where
        on : (unit : ℕ) (edge : Edge) → 0 ≤ unit → unit ≤ greatest → edge_on state.edges unit ≡ Some edge
            → (edge.to < length kernels) × AreOps regs mregs edge.ops
        on unit edge low le e =
            edge_formed first edge (onward.steps unit) (onward.next unit) (sources unit) (sized unit)
            (subst (IsEdgeOf tnfa kernels first (onward.steps unit) (onward.next unit)) e (is.edges unit le))

-- an automaton of formed states, with registers for so many places, is well formed
pub auto-formed : {K : Type 0} (tnfa : Tnfa) (most : ℕ) (kernels : List K) (begin : K) (auto : Auto)
    → auto.regs ≡ (most + 1) * widest tnfa.rules → auto.mregs ≡ auto.regs + 1 → widest tnfa.rules ≤ 130 → length kernels ≤ 4096 → most ≤ 1048576
    → slice_get kernels 0 ≡ Some begin → length auto.states ≡ length kernels
    → ((number : ℕ) (kernel : K) (state : State) → slice_get kernels number ≡ Some kernel → slice_get auto.states number ≡ Some state
    → IsState auto.regs auto.mregs (length kernels) state) → IsAuto auto
auto-formed {K} tnfa most kernels begin auto regs mregs narrow few small start lengths states =
    let some : 0 < length kernels = slice_get_within kernels 0 begin start in
    let le : (most + 1) * widest tnfa.rules ≤ 1048577 * 130 =
    mul-le-mul {n₁ = most + 1} {m₁ = widest tnfa.rules} {n₂ = 1048577} {m₂ = 130} (omega arith) narrow in
    record {
      start = omega arith;
      few = omega arith;
      few_regs = omega arith;
      few_mregs = omega arith;
      states = states-from_each auto.regs auto.mregs (length auto.states) auto.states formed;
    }
  where
    formed : (number : ℕ) (state : State) → slice_get auto.states number ≡ Some state
        → IsState auto.regs auto.mregs (length auto.states) state
    formed number state there =
        let among : number < length auto.states = slice_get_within auto.states number state there in
        let here : number < length kernels = omega (arith, among, lengths) in
        subst (λ count. IsState auto.regs auto.mregs count state) (sym lengths)
        (states number (get_or kernels number begin) state (slice_get-get_or kernels number begin here) there)

-- a state of a list of places
state_of_list-formed : (tnfa : Tnfa) (kernels : List (List Place)) (regs mregs : ℕ) → regs ≡ (most_places kernels + 1) * widest tnfa.rules
    → mregs ≡ regs + 1 → (greatest : ℕ) (first : Bool) (list : List Place) (state : State) → length list ≤ most_places kernels
    → IsStateOf tnfa greatest kernels first list state → AreApartFrom 0 state.edges → IsState regs mregs (length kernels) state
state_of_list-formed tnfa kernels regs mregs regs_are mregs_are greatest first list state few is apart =
    state-formed tnfa (most_places kernels) regs mregs regs_are mregs_are kernels (λ (l : List Place). length l) (length-most kernels) greatest first
    (onward_by tnfa is.reaches) state steps (λ unit. places_of-length (next_steps tnfa unit is.reaches)) ending is.is apart
  where
    sources : Each (λ (reach : Reach). reach.from < most_places kernels) is.reaches
    sources =
        Each-from_all (λ (reach : Reach). reach.from < most_places kernels) is.reaches
        (closure_sources tnfa (most_places kernels) list is.reaches is.closure few)

    ending : (e : Ending) → first_ending is.reaches ≡ Some e → e.from < most_places kernels
    ending e at = first_ending-source (most_places kernels) is.reaches sources e at

    steps : (unit : ℕ) → Each (λ (step : Step). step.from < most_places kernels) (next_steps tnfa unit is.reaches)
    steps unit =
        first_steps-each (λ (step : Step). step.from < most_places kernels) [] (filter_map (step_on tnfa unit) is.reaches)
        (steps_from (λ from. from < most_places kernels) tnfa unit is.reaches sources)

-- the automaton of a table of lists of places, with its registers, is well formed
pub table_formed : (tnfa : Tnfa) (kernels : List (List Place)) (auto : Auto)
    → auto.regs ≡ (most_places kernels + 1) * widest tnfa.rules → auto.mregs ≡ auto.regs + 1 → widest tnfa.rules ≤ 130 → IsWithin kernels
    → slice_get kernels 0 ≡ Some (start_place ∷ []) → length auto.states ≡ length kernels → AreStatesOf tnfa kernels auto.states → IsAuto auto
table_formed tnfa kernels auto regs mregs narrow within start lengths states =
    let places : sum_by length kernels ≤ 1048576 = within.few_places in
    let most : most_places kernels ≤ sum_by length kernels = most_places-sum kernels in
    let small : most_places kernels ≤ 1048576 = omega (arith, places, most) in
    let few : length kernels ≤ 4096 = within.few in
    auto-formed tnfa (most_places kernels) kernels (start_place ∷ []) auto regs mregs narrow few small start lengths
    (λ number list state listed there.
    state_of_list-formed tnfa kernels auto.regs auto.mregs regs mregs (greatest_of tnfa) (is_first number) list state
    (length-most kernels number list listed) (states number list state listed there).0 (states number list state listed there).1)
