-- States with the same signature are alike, and where signatures differ a word tells the states apart.
use Rattle.std.proofs.Common.{◌≡◌, ◌⊎◌, inl, inr, ℕ, ◌<◌, List, [], ◌∷◌, length, map, Option, Some, None, slice_get, refl, sym, ap, ◌∙◌, subst₂}
use Rattle.std.specs.Option.{option_map}
use Rattle.std.specs.Prelude.{◌≢◌}
use Rattle.std.proofs.lemmas.Bool.{cases_eq}
use Rattle.lx_auto.specs.declared.automaton.Auto.{Auto}
use Rattle.lx_auto.specs.declared.automaton.Edge.{Edge}
use Rattle.lx_auto.specs.Automaton.{IsAuto, edge_on, state_of}
use Rattle.lx_auto.specs.Points.{IsMet}
use Rattle.lx_auto.specs.ToldApart.{AreToldApart, MoveTheSame, by_accepts, by_moves, further_on}
use Rattle.lx_auto.proofs.MetStates.{met-behind}
use Rattle.lx_auto.proofs.OneEdge.{edge_on-is}
use Rattle.lx_auto.proofs.States.{state_formed}
use Rattle.lx_min.specs.declared.looks.Look.{Look}
use Rattle.lx_min.specs.Joined.{joined, step_of}
use Rattle.lx_min.specs.Looks.{AreLooks, IsOnTheWay}
use Rattle.lx_min.specs.Merges.{AreAlike, MoveAlike}
use Rattle.lx_min.specs.Signatures.{sign_of}
use Rattle.lx_min.proofs.Moves.{AreToldBy, Move, joined-edges, move_by, move_on, move_on-joined_edges, same-or-told, steps_of}

module _ (auto : Auto) (looks : List Look) (class : ℕ → ℕ) (is : IsAuto auto) (are : AreLooks auto looks) where
  abbrev edges_at : (state : ℕ) → List Edge
  edges_at state = (state_of auto.states state).edges

  abbrev move_at : (state : ℕ) → Edge → Move
  move_at state edge = move_by class are.number (state_of auto.states state).leave edge

  steps-look : (state : ℕ) (look : Look) → slice_get looks state ≡ Some look
      → joined (map (step_of class) look.ways.items)
      ≡ joined (steps_of class are.number (state_of auto.states state).leave (edges_at state))
  steps-look state look looks_so = ap (λ ways. joined (map (step_of class) ways)) (are.ways state look looks_so)

  -- what the steps of a signature do on a unit
  moves-look : (state unit : ℕ) (look : Look) → slice_get looks state ≡ Some look
      → move_on (joined (map (step_of class) look.ways.items)) unit ≡ option_map (move_at state) (edge_on (edges_at state) unit)
  moves-look state unit look looks_so =
      ap (λ steps. move_on steps unit) (steps-look state look looks_so)
      ∙ move_on-joined_edges class are.number (state_of auto.states state).leave (edges_at state) unit (state_formed auto state is).apart

  module _ (state other : ℕ) (within : state < length auto.states) (also_within : other < length auto.states) where
    on_way : (unit : ℕ) (edge : Edge) → edge_on (edges_at state) unit ≡ Some edge
        → IsOnTheWay auto (state_of auto.states state).leave × IsOnTheWay auto edge.ops
    on_way unit edge on =
        let has = (edge_on-is (edges_at state) unit edge on).0 in
        ((state, edge, within, has, inl refl), (state, edge, within, has, inr refl))

    also_on_way : (unit : ℕ) (edge : Edge) → edge_on (edges_at other) unit ≡ Some edge
        → IsOnTheWay auto (state_of auto.states other).leave × IsOnTheWay auto edge.ops
    also_on_way unit edge on =
        let has = (edge_on-is (edges_at other) unit edge on).0 in
        ((other, edge, also_within, has, inl refl), (other, edge, also_within, has, inr refl))

    move-alike : (unit : ℕ) (first second : Option Edge) → edge_on (edges_at state) unit ≡ first → edge_on (edges_at other) unit ≡ second
        → option_map (move_at state) first ≡ option_map (move_at other) second
        → MoveAlike class (state_of auto.states state) (state_of auto.states other) first second
    move-alike unit None None on also same = tt
    move-alike unit None (Some second) on also same = absurd (cc same)
    move-alike unit (Some first) None on also same = absurd (cc same)
    move-alike unit (Some first) (Some second) on also same =
        let one = on_way unit first on in
        let two = also_on_way unit second also in
        let moves : move_at state first ≡ move_at other second = cc same in (
          (are.lists (state_of auto.states state).leave (state_of auto.states other).leave one.0 two.0).0
              (ap (λ (m : Move). m.leave) moves),
          (are.lists first.ops second.ops one.1 two.1).0 (ap (λ (m : Move). m.ops) moves),
          ap (λ (m : Move). m.class) moves,
        )

    pub alike-same : (look second : Look) → slice_get looks state ≡ Some look → slice_get looks other ≡ Some second
        → look.accept ≡ second.accept
        → joined (map (step_of class) look.ways.items) ≡ joined (map (step_of class) second.ways.items)
        → AreAlike class (state_of auto.states state) (state_of auto.states other)
    alike-same look second looks_so also accept steps = record {
      accepts = (are.accepts state other look second looks_so also).0 accept;
      moves = λ unit. move-alike unit (edge_on (edges_at state) unit) (edge_on (edges_at other) unit) refl refl
          (sym (moves-look state unit look looks_so) ∙ ap (λ l. move_on l unit) steps ∙ moves-look other unit second also);
    }

    -- where words tell states of other classes apart
    module _ (met : IsMet auto state) (also_met : IsMet auto other)
        (apart : (state other : ℕ) → IsMet auto state → IsMet auto other → class state ≢ class other
        → (word : List ℕ) × AreToldApart auto state other word) where
      moves-differ : (unit : ℕ) (first second : Option Edge) → edge_on (edges_at state) unit ≡ first
          → edge_on (edges_at other) unit ≡ second
          → (MoveTheSame (state_of auto.states state) (state_of auto.states other) first second → ⊥)
          → (word : List ℕ) × AreToldApart auto state other word
      moves-differ unit first second on also differ = (
        unit ∷ [],
        by_moves state other unit (λ same. differ
            (subst₂ (MoveTheSame (state_of auto.states state) (state_of auto.states other)) on also same)),
      )

      targets-differ : (unit : ℕ) (first second : Edge) → edge_on (edges_at state) unit ≡ Some first
          → edge_on (edges_at other) unit ≡ Some second → class first.to ≢ class second.to
          → (word : List ℕ) × AreToldApart auto state other word
      targets-differ unit first second on also differ =
          let told = apart first.to second.to (met-behind auto state first met (edge_on-is (edges_at state) unit first on).0)
          (met-behind auto other second also_met (edge_on-is (edges_at other) unit second also).0) differ in
          (unit ∷ told.0, further_on state other unit first second told.0 on also told.1)

      told-on : (unit : ℕ) (first second : Option Edge) → edge_on (edges_at state) unit ≡ first → edge_on (edges_at other) unit ≡ second
          → option_map (move_at state) first ≢ option_map (move_at other) second → (word : List ℕ) × AreToldApart auto state other word
      told-on unit None None on also differ = absurd (differ refl)
      told-on unit None (Some second) on also differ = moves-differ unit None (Some second) on also (λ same. same)
      told-on unit (Some first) None on also differ = moves-differ unit (Some first) None on also (λ same. same)
      told-on unit (Some first) (Some second) on also differ =
          at (cases_eq (are.number (state_of auto.states state).leave) (are.number (state_of auto.states other).leave))
          (cases_eq (are.number first.ops) (are.number second.ops)) (cases_eq (class first.to) (class second.to))
        where
          at : (are.number (state_of auto.states state).leave ≡ are.number (state_of auto.states other).leave)
              ⊎ (are.number (state_of auto.states state).leave ≢ are.number (state_of auto.states other).leave)
              → (are.number first.ops ≡ are.number second.ops) ⊎ (are.number first.ops ≢ are.number second.ops)
              → (class first.to ≡ class second.to) ⊎ (class first.to ≢ class second.to)
              → (word : List ℕ) × AreToldApart auto state other word
          at (inl leave) (inl ops) (inl to) = absurd (differ (λ i. Some (record { leave = leave i; ops = ops i; class = to i })))
          at (inl leave) (inl ops) (inr to) = targets-differ unit first second on also to
          at (inl leave) (inr ops) to =
              moves-differ unit (Some first) (Some second) on also (λ same. ops
              ((are.lists first.ops second.ops (on_way unit first on).1 (also_on_way unit second also).1).1 same.1))
          at (inr leave) ops to =
              moves-differ unit (Some first) (Some second) on also (λ same. leave
              ((are.lists (state_of auto.states state).leave (state_of auto.states other).leave (on_way unit first on).0
              (also_on_way unit second also).0).1 same.0))

      told-by-steps : (look second : Look) → slice_get looks state ≡ Some look → slice_get looks other ≡ Some second
          → (joined (map (step_of class) look.ways.items) ≡ joined (map (step_of class) second.ways.items))
          ⊎ ((word : List ℕ) × AreToldApart auto state other word)
      told-by-steps look second looks_so also =
          at (same-or-told 0 (joined (steps_of class are.number (state_of auto.states state).leave (edges_at state)))
          (joined (steps_of class are.number (state_of auto.states other).leave (edges_at other)))
          (joined-edges class are.number (state_of auto.states state).leave (edges_at state) (state_formed auto state is).apart)
          (joined-edges class are.number (state_of auto.states other).leave (edges_at other) (state_formed auto other is).apart))
        where
          at : (joined (steps_of class are.number (state_of auto.states state).leave (edges_at state))
              ≡ joined (steps_of class are.number (state_of auto.states other).leave (edges_at other)))
              ⊎ AreToldBy (joined (steps_of class are.number (state_of auto.states state).leave (edges_at state)))
              (joined (steps_of class are.number (state_of auto.states other).leave (edges_at other)))
              → (joined (map (step_of class) look.ways.items) ≡ joined (map (step_of class) second.ways.items))
              ⊎ ((word : List ℕ) × AreToldApart auto state other word)
          at (inl same) = inl (steps-look state look looks_so ∙ same ∙ sym (steps-look other second also))
          at (inr (unit, differ)) =
              inr (told-on unit (edge_on (edges_at state) unit) (edge_on (edges_at other) unit) refl refl (λ same. differ
              (move_on-joined_edges class are.number (state_of auto.states state).leave (edges_at state) unit
              (state_formed auto state is).apart ∙ same
              ∙ sym (move_on-joined_edges class are.number (state_of auto.states other).leave (edges_at other) unit
              (state_formed auto other is).apart))))

      -- signatures that differ
      pub told-apart : (look second : Look) → slice_get looks state ≡ Some look → slice_get looks other ≡ Some second
          → sign_of class look state ≢ sign_of class second other → (word : List ℕ) × AreToldApart auto state other word
      told-apart look second looks_so also differ =
          at (cases_eq (class state) (class other)) (cases_eq look.accept second.accept) (told-by-steps look second looks_so also)
        where
          at : (class state ≡ class other) ⊎ (class state ≢ class other) → (look.accept ≡ second.accept) ⊎ (look.accept ≢ second.accept)
              → (joined (map (step_of class) look.ways.items) ≡ joined (map (step_of class) second.ways.items))
              ⊎ ((word : List ℕ) × AreToldApart auto state other word)
              → (word : List ℕ) × AreToldApart auto state other word
          at (inr classes) accept steps = apart state other met also_met classes
          at (inl classes) (inr accept) steps =
              ([], by_accepts state other (λ same. accept ((are.accepts state other look second looks_so also).1 same)))
          at (inl classes) (inl accept) (inr told) = told
          at (inl classes) (inl accept) (inl steps) =
              absurd (differ (λ i. record { class = classes i; accept = accept i; steps = steps i }))
