-- What is right of an automaton with greater numbers of rules: the same marks and trees, and as many states ask for a refill.
use Rattle.std.specs.Prelude.{◌≡◌, ℕ, zero, suc, ◌+◌, ◌<◌, ◌||◌, ◌&&◌, List, [], ◌∷◌, length, map, Option, Some, None, Contains, option_map, is_some, nat_eq, refl}
use Rattle.std.proofs.Common.{sym, ap, ap₂, ◌∙◌, subst, true≢false}
use Rattle.std.proofs.lemmas.Bool.{false≢true}
use Rattle.std.proofs.lemmas.List.{length-map}
use Rattle.std.specs.List.{list_any}
use Rattle.lx_auto.specs.Automaton.{edge_on, state_of}
use Rattle.lx_auto.specs.declared.automaton.Accept.{Accept}
use Rattle.lx_auto.specs.declared.automaton.Auto.{Auto}
use Rattle.lx_auto.specs.declared.automaton.Edge.{Edge}
use Rattle.lx_auto.specs.declared.automaton.State.{State}
use Rattle.lx_layout.specs.Halting.{AreHalting, Falls, Halting, Halts, at_end, bare, ended_accepts, here, is_entered, is_led_to, lone, onward}
use Rattle.lx_layout.specs.Parts.{Demand, asked, asked_below, asks_by, asks_with, one_if, state_asks}
use Rattle.lx_layout.specs.SuppliedLayout.{EachReader, EachState}
use Rattle.lx_layout.specs.Supplies.{Reader, entry}
use Rattle.lx_dispatch.specs.TestTrees.{TestTree}
use Rattle.lx_dispatch.specs.TransitionClasses.{Split}
use Rattle.lx_dispatch.specs.UnitApart.{reader_split}
use Rattle.lx_renumber.specs.Renumbered.{renumbered, renumbered_accept, renumbered_state}
use Rattle.lx_layout.proofs.Fronts.RenumberedAccepts.{ended_accepts-renumbered, state_of-renumbered}

module _ (by : ℕ) where
  -- ---- states

  is_led_to-renumbered : (states : List State) (number : ℕ) → is_led_to (map (renumbered_state by) states) number ≡ is_led_to states number
  is_led_to-renumbered [] number = refl
  is_led_to-renumbered (given ∷ states) number =
      ap (λ t. list_any (λ (edge : Edge). nat_eq edge.to number) given.edges || t) (is_led_to-renumbered states number)

  module _ (auto : Auto) where
    pub edges-renumbered : (number : ℕ) → (state_of (renumbered by auto).states number).edges ≡ (state_of auto.states number).edges
    edges-renumbered number = ap (λ (given : State). given.edges) (state_of-renumbered by auto.states number)

    accept-renumbered : (number : ℕ)
        → (state_of (renumbered by auto).states number).accept ≡ option_map (renumbered_accept by) (state_of auto.states number).accept
    accept-renumbered number = ap (λ (given : State). given.accept) (state_of-renumbered by auto.states number)

    pub ended-renumbered : (halting : Halting)
        → ended_accepts halting (renumbered by auto).states ≡ map (renumbered_accept by) (ended_accepts halting auto.states)
    ended-renumbered halting = ended_accepts-renumbered by halting auto.states

    pub is_entered-renumbered : (end_rule other : Option ℕ) → is_some other ≡ is_some end_rule → (number : ℕ)
        → is_entered other (renumbered by auto) number ≡ is_entered end_rule auto number
    is_entered-renumbered None None same number = refl
    is_entered-renumbered None (Some rule) same number = absurd (true≢false same)
    is_entered-renumbered (Some rule) None same number = absurd (false≢true same)
    is_entered-renumbered (Some rule) (Some another) same zero =
        ap₂ (λ (edges : List Edge) t. nat_eq (length edges) 0 || t) (edges-renumbered 0) (is_led_to-renumbered auto.states 0)
    is_entered-renumbered (Some rule) (Some another) same (suc number) = refl

    -- ---- marks

    none-renumbered : (accept : Option Accept) → accept ≡ None → option_map (renumbered_accept by) accept ≡ None
    none-renumbered None is = refl
    none-renumbered (Some accept) is = absurd (cc)

    none-before : (accept : Option Accept) → option_map (renumbered_accept by) accept ≡ None → accept ≡ None
    none-before None is = refl
    none-before (Some accept) is = absurd (cc)

    module _ (eof end_rule other : Option ℕ) (same : is_some other ≡ is_some end_rule) (greatest : ℕ) where
      Halts-renumbered : (number : ℕ) → Halts eof end_rule greatest auto number → Halts eof other greatest (renumbered by auto) number
      Halts-renumbered number (lone none) = lone (edges-renumbered number ∙ none)
      Halts-renumbered number (bare unit le none) = bare unit le (ap (λ edges. edge_on edges unit) (edges-renumbered number) ∙ none)
      Halts-renumbered number (at_end some entered) = at_end some (is_entered-renumbered end_rule other same number ∙ entered)

      Halts-before : (number : ℕ) → Halts eof other greatest (renumbered by auto) number → Halts eof end_rule greatest auto number
      Halts-before number (lone none) = lone (sym (edges-renumbered number) ∙ none)
      Halts-before number (bare unit le none) = bare unit le (ap (λ edges. edge_on edges unit) (sym (edges-renumbered number)) ∙ none)
      Halts-before number (at_end some entered) = at_end some (sym (is_entered-renumbered end_rule other same number) ∙ entered)

      Falls-renumbered : (number : ℕ) → Falls eof end_rule greatest auto number → Falls eof other greatest (renumbered by auto) number
      Falls-renumbered _ (here number none halts) =
          here number (accept-renumbered number ∙ none-renumbered (state_of auto.states number).accept none) (Halts-renumbered number halts)
      Falls-renumbered _ (onward number edge none has falls) =
          onward number edge (accept-renumbered number ∙ none-renumbered (state_of auto.states number).accept none)
          (subst (λ edges. Contains edges edge) (sym (edges-renumbered number)) has) (Falls-renumbered edge.to falls)

      Falls-before : (number : ℕ) → Falls eof other greatest (renumbered by auto) number → Falls eof end_rule greatest auto number
      Falls-before _ (here number none halts) =
          here number (none-before (state_of auto.states number).accept (sym (accept-renumbered number) ∙ none)) (Halts-before number halts)
      Falls-before _ (onward number edge none has falls) =
          onward number edge (none-before (state_of auto.states number).accept (sym (accept-renumbered number) ∙ none))
          (subst (λ edges. Contains edges edge) (edges-renumbered number) has) (Falls-before edge.to falls)

      pub halting-renumbered : (halting : Halting) → AreHalting eof end_rule greatest auto halting
          → AreHalting eof other greatest (renumbered by auto) halting
      halting-renumbered halting are = record {
        halts = λ number lt.
            let is = are.halts number (subst (λ n. number < n) (length-map auto.states (renumbered_state by)) lt) in
            (λ marked. Halts-renumbered number (is.0 marked), λ halts. is.1 (Halts-before number halts));
        falls = λ number lt.
            let is = are.falls number (subst (λ n. number < n) (length-map auto.states (renumbered_state by)) lt) in
            (λ marked. Falls-renumbered number (is.0 marked), λ falls. is.1 (Falls-before number falls));
      }

    -- ---- trees

    module _ (P : Split → TestTree (Option ℕ) → Type 0) (eof : Option ℕ) (greatest : ℕ) (trees : Reader → TestTree (Option ℕ)) where
      EachState-renumbered : (number : ℕ) (states : List State) → EachState P eof greatest trees number states
          → EachState P eof greatest trees number (map (renumbered_state by) states)
      EachState-renumbered number [] are = tt
      EachState-renumbered number (given ∷ states) are = (are.0, EachState-renumbered (suc number) states are.1)

      pub trees-renumbered : EachReader P eof greatest trees auto → EachReader P eof greatest trees (renumbered by auto)
      trees-renumbered are = record {
        states = EachState-renumbered 0 auto.states are.states;
        entry = subst (λ edges. P (reader_split eof greatest edges) (trees entry)) (sym (edges-renumbered 0)) are.entry;
      }

    -- ---- refills

    module _ (demand : Demand) (end_rule other : Option ℕ) (same : is_some other ≡ is_some end_rule) where
      asks_with-renumbered : (number : ℕ) (edges : List Edge)
          → asks_with demand other (renumbered by auto) number edges ≡ asks_with demand end_rule auto number edges
      asks_with-renumbered number [] = refl
      asks_with-renumbered number (edge ∷ edges) =
          ap (λ t. t && asks_by demand end_rule auto demand.eof number) (is_entered-renumbered end_rule other same number)

      state_asks-renumbered : (number : ℕ) → state_asks demand other (renumbered by auto) number ≡ state_asks demand end_rule auto number
      state_asks-renumbered number =
          ap (λ edges. asks_with demand other (renumbered by auto) number edges) (edges-renumbered number)
          ∙ asks_with-renumbered number (state_of auto.states number).edges

      pub asked_below-renumbered : (number : ℕ)
          → asked_below demand other (renumbered by auto) number ≡ asked_below demand end_rule auto number
      asked_below-renumbered zero = ap (λ t. one_if demand end_rule auto (t && (is_some demand.eof && demand.tries))) same
      asked_below-renumbered (suc number) =
          ap₂ (λ n t. n + one_if demand end_rule auto t) (asked_below-renumbered number) (state_asks-renumbered number)

      pub asked-renumbered : asked demand other (renumbered by auto) ≡ asked demand end_rule auto
      asked-renumbered =
          ap (λ n. asked_below demand other (renumbered by auto) n) (length-map auto.states (renumbered_state by))
          ∙ asked_below-renumbered (length auto.states)
