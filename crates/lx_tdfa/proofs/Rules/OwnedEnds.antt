-- Ends are those of the rules of the list.
use Rattle.std.proofs.Common.{◌≡◌, ℕ, zero, suc, ◌+◌, ◌-◌, ◌*◌, ◌/◌, ◌<◌, ◌≤◌, arith, Bool, true, false, List, [], ◌∷◌, ◌++◌, map, length, inl, inr, Some, None, length-append, refl, sym, ap, ◌∙◌, subst}
use Rattle.std.proofs.lemmas.Bool.{cases_lt}
use Rattle.std.proofs.lemmas.List.{get_or-append_right, get_or_append_left, get_or_past, length-map, map-append}
use Rattle.std.proofs.lemmas.List.Elements.{All-contains}
use Rattle.std.proofs.lemmas.Option.{slice_get-map}
use Rattle.std.specs.Prelude.{◌⊎◌, Contains, if◌then◌else◌, nat_eq, slice_get, slice_index}
use Rattle.lx_base.specs.declared.settings.Enc.{Enc}
use Rattle.lx_encode.specs.Graph.{numbered}
use Rattle.lx_encode.specs.Table.{row_of}
use Rattle.lx_encode.specs.declared.runs.Run.{Run}
use Rattle.lx_regex.proofs.PartTables.PartCount.{part_count}
use Rattle.lx_regex.proofs.PartTables.RuleParts.{parts_alike}
use Rattle.lx_regex.proofs.PartTables.Rows.{table_length}
use Rattle.lx_regex.specs.Automaton.{automaton, final, rules_table, table}
use Rattle.lx_regex.specs.Parts.{Part, parts_in, parts_of, parts_of_rules}
use Rattle.lx_regex.specs.Pattern.{Pattern, is_end, terms_of, with_terms}
use Rattle.lx_regex.specs.Term.{parts}
use Rattle.lx_tnfa.proofs.Construction.HeldStates.{moves_same}
use Rattle.lx_tnfa.proofs.Construction.NthLists.{mapped_from}
use Rattle.lx_tnfa.proofs.Construction.WholeTable.{held_length}
use Rattle.lx_tnfa.specs.Closure.{Arrival, IsPlainWalk, IsWalk, Step, beginning_at, beginning_of, behind_or_at, leaf_step, steps_at, steps_from, steps_of, stop_at}
use Rattle.lx_tnfa.specs.Live.{starts_at, state_of}
use Rattle.lx_tnfa.specs.Tnfa.{IsTnfaOf, Tnfa, rows_at, state_at}
use Rattle.lx_tnfa.specs.declared.classes.ClassGraph.{ClassGraph}
use Rattle.lx_tnfa.specs.declared.closure.Reach.{Reach}
use Rattle.lx_tnfa.specs.declared.closure.Stop.{Stop}
use Rattle.lx_tnfa.specs.declared.closure.Stop.TheVariants.{AtState, AtTarget}
use Rattle.lx_tnfa.specs.declared.closure.Target.{Target}
use Rattle.lx_tnfa.specs.declared.closure.Target.TheVariants.{End, Leaf}
use Rattle.lx_tnfa.specs.declared.places.Place.{Place}
use Rattle.lx_tnfa.specs.declared.states.Event.{Event}
use Rattle.lx_tnfa.specs.declared.states.Move.{Move}
use Rattle.lx_tnfa.specs.declared.states.State.{State}
use Rattle.lx_tnfa.specs.declared.states.State.TheVariants.{AnyUnit, Class, Moves}
use Rattle.lx_tdfa.proofs.Walks.ClosureSearches.{EndsAreOwned}
use Rattle.lx_tdfa.specs.Steps.{Ending, ending_at, first_ending}

-- the numbers of the rules of parts
abbrev owners_of : List Part → List ℕ
owners_of list = map (λ (part : Part). part.rule) list

-- a rule of the list has the number of a part
abbrev IsOwned : List Pattern → (rule : ℕ) → Type 0
IsOwned patterns rule = (pattern : Pattern) × Contains (with_terms patterns) pattern × (pattern.number ≡ rule)

same_owners : (number : ℕ) (list : List Part) (index : ℕ) → index < length list → slice_index (map (λ (part : Part). number) list) index ≡ number
same_owners number [] index within = absurd (omega arith)
same_owners number (part ∷ list) zero within = refl
same_owners number (part ∷ list) (suc index) within = same_owners number list index (omega arith)

-- the parts of a term have the number of its rule
owner_in : (pattern : Pattern) (child part index : ℕ) → index < length (parts_in pattern.number 0 child part pattern.term)
    → slice_index (owners_of (parts_in pattern.number 0 child part pattern.term)) index ≡ pattern.number
owner_in pattern child part index within =
    ap (λ (owners : List ℕ). slice_index owners index)
    (parts_alike (λ (part : Part). part.rule) (λ (part : Part). pattern.number) pattern.number (λ part same. same) 0 child part pattern.term)
    ∙ same_owners pattern.number (parts_in pattern.number 0 child part pattern.term) index within

-- the owners of parts that stand before others
owners-before : (own behind : List Part) (index : ℕ) → index < length own → slice_index (owners_of (own ++ behind)) index ≡ slice_index (owners_of own) index
owners-before own behind index within =
    let inside : index < length (owners_of own) = omega (arith, length-map own (λ (part : Part). part.rule)) in
    ap (λ (owners : List ℕ). slice_index owners index) (map-append (λ (part : Part). part.rule) own behind)
    ∙ get_or_append_left (owners_of own) (owners_of behind) 0 index inside

owners-behind : (own behind : List Part) (index : ℕ) → length own ≤ index
    → slice_index (owners_of (own ++ behind)) index ≡ slice_index (owners_of behind) (index - length own)
owners-behind own behind index past =
    ap (λ (owners : List ℕ). slice_index owners index) (map-append (λ (part : Part). part.rule) own behind)
    ∙ get_or-append_right (owners_of own) (owners_of behind) (length own) index 0 (length-map own (λ (part : Part). part.rule)) past

-- each part of the rules has the number of a rule with a term
owned_part : (patterns : List Pattern) (child part index : ℕ) → index < length (parts_of_rules child part patterns)
    → IsOwned patterns (slice_index (owners_of (parts_of_rules child part patterns)) index)
owned_part [] child part index within = absurd (omega arith)
owned_part (pattern ∷ patterns) child part index within = at (is_end pattern.kind) (owned_part patterns (suc child)) within
  where
    own : List Part
    own = parts_in pattern.number 0 child part pattern.term

    behind : List Part
    behind = parts_of_rules (suc child) (part + parts pattern.term) patterns

    at_own : (index < length own) ⊎ (length own ≤ index) → index < length (own ++ behind)
        → ((part index : ℕ) → index < length (parts_of_rules (suc child) part patterns)
        → IsOwned patterns (slice_index (owners_of (parts_of_rules (suc child) part patterns)) index))
        → (other : Pattern) × Contains (pattern ∷ with_terms patterns) other × (other.number ≡ slice_index (owners_of (own ++ behind)) index)
    at_own (inl inside) within later =
        (pattern, (0, omega arith, refl), sym (owners-before own behind index inside ∙ owner_in pattern child part index inside))
    at_own (inr past) within later =
        let count : length (own ++ behind) ≡ length own + length behind = length-append own behind in
        let owned = later (part + parts pattern.term) (index - length own) (omega arith) in
        (owned.0, (suc owned.1.0, omega (arith, owned.1.1), owned.1.2), owned.2 ∙ sym (owners-behind own behind index past))

    at : (b : Bool)
        → ((part index : ℕ) → index < length (parts_of_rules (suc child) part patterns)
        → IsOwned patterns (slice_index (owners_of (parts_of_rules (suc child) part patterns)) index))
        → index < length (if b then parts_of_rules (suc child) part patterns else own ++ behind)
        → (other : Pattern) × Contains (if b then with_terms patterns else pattern ∷ with_terms patterns) other
        × (other.number ≡ slice_index (owners_of (if b then parts_of_rules (suc child) part patterns else own ++ behind)) index)
    at true later within = later part index within
    at false later within = at_own (cases_lt index (length own)) within later

-- each part has two states
length-rules_table : (patterns : List Pattern) (child part from : ℕ)
    → length (rules_table (terms_of patterns) from) ≡ 2 * length (parts_of_rules child part patterns)
length-rules_table [] child part from = refl
length-rules_table (pattern ∷ patterns) child part from = at (is_end pattern.kind) (length-rules_table patterns (suc child))
  where
    own : List Part
    own = parts_in pattern.number 0 child part pattern.term

    behind : List Part
    behind = parts_of_rules (suc child) (part + parts pattern.term) patterns

    at : (b : Bool) → ((part from : ℕ) → length (rules_table (terms_of patterns) from) ≡ 2 * length (parts_of_rules (suc child) part patterns))
        → length (rules_table (map (λ (p : Pattern). p.term) (if b then with_terms patterns else pattern ∷ with_terms patterns)) from)
        ≡ 2 * length (if b then parts_of_rules (suc child) part patterns else own ++ behind)
    at true later = later part from
    at false later =
        let first : length (table pattern.term from final) ≡ 2 * parts pattern.term = table_length pattern.term from final in
        let others : length (rules_table (terms_of patterns) (from + parts pattern.term)) ≡ 2 * length behind =
        later (part + parts pattern.term) (from + parts pattern.term) in
        let all : length (table pattern.term from final ++ rules_table (terms_of patterns) (from + parts pattern.term))
        ≡ length (table pattern.term from final) + length (rules_table (terms_of patterns) (from + parts pattern.term)) =
        length-append (table pattern.term from final) (rules_table (terms_of patterns) (from + parts pattern.term)) in
        let count : length own ≡ parts pattern.term = part_count pattern.number 0 child part pattern.term in
        let both : length (own ++ behind) ≡ length own + length behind = length-append own behind in
        omega arith

-- a step to an end is one to the last state of all, and by it the rule of the part ends
end_step : (classes : List ClassGraph) (rule part : ℕ) (state : State) (choice : ℕ) (step : Step) (ended : ℕ)
    → slice_get (steps_of classes rule part state) choice ≡ Some step → step.to ≡ AtTarget (End ended) → ended ≡ rule
end_step classes rule part (Moves ways) choice step ended there end =
    let from = mapped_from (λ (way : Move). record { to = stop_at rule way.to; events = way.events }) (slice_get ways choice) step
    (sym (slice_get-map (λ (way : Move). record { to = stop_at rule way.to; events = way.events }) ways choice) ∙ there) in
    at from.0.to (ap (λ (step : Step). step.to) from.2 ∙ end)
  where
    at : (number : ℕ) → stop_at rule number ≡ AtTarget (End ended) → ended ≡ rule
    at zero e = cc e
    at (suc number) e = absurd (cc e)
end_step classes rule part (Class number) choice step ended there end =
    let from = mapped_from (leaf_step part) (slice_get (starts_at classes number) choice) step
    (sym (slice_get-map (leaf_step part) (starts_at classes number) choice) ∙ there) in
    let leaf : AtTarget (Leaf (record { part = part; rest = from.0 })) ≡ AtTarget (End ended) = ap (λ (step : Step). step.to) from.2 ∙ end in
    absurd (cc leaf)
end_step classes rule part AnyUnit zero step ended there end =
    let only : leaf_step part (numbered 1) ≡ step = cc there in
    let leaf : AtTarget (Leaf (record { part = part; rest = numbered 1 })) ≡ AtTarget (End ended) = ap (λ (step : Step). step.to) only ∙ end in
    absurd (cc leaf)
end_step classes rule part AnyUnit (suc choice) step ended there end = absurd (cc there)

beginning-end : (classes : List ClassGraph) (state : State) (place : Place) (rule : ℕ) → beginning_at classes state place ≡ AtTarget (End rule) → ⊥
beginning-end classes (Moves ways) place rule e = cc e
beginning-end classes (Class number) place rule e = at (row_of (rows_at classes number) place.rest.0) e
  where
    at : (runs : List Run) → behind_or_at runs place ≡ AtTarget (End rule) → ⊥
    at [] e = cc e
    at (run ∷ runs) e = cc e
beginning-end classes AnyUnit place rule e = at (nat_eq place.rest.0 0) e
  where
    at : (b : Bool) → (if b then AtState (2 * place.part + 1) else AtTarget (Leaf place)) ≡ AtTarget (End rule) → ⊥
    at true e = cc e
    at false e = cc e

module _ (enc : Enc) (patterns : List Pattern) (tnfa : Tnfa) (of : IsTnfaOf enc patterns tnfa) where
  -- a step from a state to the end of a rule
  abbrev IsEndStep : (rule : ℕ) → Type 0
  IsEndStep rule =
      (number choice : ℕ) × (step : Step) × (slice_get (steps_at tnfa number (state_of tnfa.states number)) choice ≡ Some step)
      × (step.to ≡ AtTarget (End rule))

  -- a walk to an end has such a step, where it does not begin there
  last_step : (choices : List ℕ) (from : Stop) (visited : List Stop) (events : List Event) (rule : ℕ)
      → IsWalk tnfa from choices visited events (AtTarget (End rule)) → (from ≡ AtTarget (End rule)) ⊎ IsEndStep rule
  last_step [] from visited events rule walk = inl walk.2
  last_step (choice ∷ choices) from visited events rule walk = at from walk.3 (last_step choices walk.0.to walk.1 walk.2 rule walk.6)
    where
      at : (from : Stop) → slice_get (steps_from tnfa from) choice ≡ Some walk.0 → (walk.0.to ≡ AtTarget (End rule)) ⊎ IsEndStep rule
          → (from ≡ AtTarget (End rule)) ⊎ IsEndStep rule
      at from there (inr found) = inr found
      at (AtState number) there (inl end) = inr (number, choice, walk.0, there, end)
      at (AtTarget target) there (inl end) = absurd (cc there)

  no_step : (rule part : ℕ) (state : State) (choice : ℕ) (step : Step) → state ≡ Moves []
      → slice_get (steps_of tnfa.classes rule part state) choice ≡ Some step → ⊥
  no_step rule part state choice step none there =
      let nothing : None ≡ Some step = sym (ap (λ (state : State). slice_get (steps_of tnfa.classes rule part state) choice) none) ∙ there in
      cc nothing

  -- beyond the states of part 0 each state is one of a rule's part
  owner_at : (number : ℕ) → suc (suc number) < length tnfa.states → IsOwned patterns (slice_index tnfa.owners (suc (suc number) / 2))
  owner_at number within =
      let states : length tnfa.states ≡ length (automaton (terms_of patterns)) = held_length tnfa.classes (automaton (terms_of patterns)) tnfa.states of.states in
      let rows : length (rules_table (terms_of patterns) 1) ≡ 2 * length (parts_of_rules 0 1 patterns) = length-rules_table patterns 0 1 1 in
      let half : suc (suc number) / 2 ≡ suc (number / 2) = omega arith in
      let inside : number / 2 < length (parts_of_rules 0 1 patterns) = omega arith in
      subst (λ (rule : ℕ). IsOwned patterns rule)
      (sym (ap (λ (owners : List ℕ). slice_index owners (suc (suc number) / 2)) of.owners ∙ ap (λ n. slice_index (owners_of (parts_of patterns)) n) half))
      (owned_part patterns 0 1 (number / 2) inside)

  owned_step : (number choice : ℕ) (step : Step) (rule : ℕ) → slice_get (steps_at tnfa number (state_of tnfa.states number)) choice ≡ Some step
      → step.to ≡ AtTarget (End rule) → IsOwned patterns rule
  owned_step zero choice step rule there end =
      let from = mapped_from (λ begin. record { to = AtState begin; events = [] }) (slice_get tnfa.begins choice) step
      (sym (slice_get-map (λ begin. record { to = AtState begin; events = [] }) tnfa.begins choice) ∙ there) in
      let state : AtState from.0 ≡ AtTarget (End rule) = ap (λ (step : Step). step.to) from.2 ∙ end in
      absurd (cc state)
  owned_step (suc zero) choice step rule there end =
      absurd (no_step (slice_index tnfa.owners (1 / 2)) (1 / 2) (state_of tnfa.states 1) choice step (moves_same enc patterns tnfa 1 [] of refl) there)
  owned_step (suc (suc number)) choice step rule there end = at (cases_lt (suc (suc number)) (length tnfa.states))
    where
      at : (suc (suc number) < length tnfa.states) ⊎ (length tnfa.states ≤ suc (suc number)) → IsOwned patterns rule
      at (inl within) =
          subst (λ (rule : ℕ). IsOwned patterns rule)
          (sym (end_step tnfa.classes (slice_index tnfa.owners (suc (suc number) / 2)) (suc (suc number) / 2) (state_of tnfa.states (suc (suc number))) choice step rule there end))
          (owner_at number within)
      at (inr past) =
          absurd (no_step (slice_index tnfa.owners (suc (suc number) / 2)) (suc (suc number) / 2) (state_of tnfa.states (suc (suc number))) choice step
          (get_or_past tnfa.states (suc (suc number)) (Moves []) past) there)

  -- the target of a walk whose end comes first
  ended : (arrivals : List Arrival) (ending : Ending)
      → first_ending (map (λ (arrival : Arrival). record { to = arrival.to; events = arrival.events; from = arrival.from }) arrivals) ≡ Some ending
      → (arrival : Arrival) × Contains arrivals arrival × (arrival.to ≡ End ending.rule)
  ended [] ending first = absurd (cc first)
  ended (arrival ∷ arrivals) ending first = at arrival.to refl first (ended arrivals ending)
    where
      others : List Reach
      others = map (λ (arrival : Arrival). record { to = arrival.to; events = arrival.events; from = arrival.from }) arrivals

      at : (to : Target) → arrival.to ≡ to → ending_at (record { to = arrival.to; events = arrival.events; from = arrival.from }) to (first_ending others) ≡ Some ending
          → (first_ending others ≡ Some ending → (arrival : Arrival) × Contains arrivals arrival × (arrival.to ≡ End ending.rule))
          → (other : Arrival) × Contains (arrival ∷ arrivals) other × (other.to ≡ End ending.rule)
      at (Leaf place) is first later =
          let found = later first in (found.0, (suc found.1.0, omega (arith, found.1.1), found.1.2), found.2)
      at (End rule) is first later =
          let ending_is : record { rule = rule; from = arrival.from; events = arrival.events } ≡ ending = cc first in
          (arrival, (0, omega arith, refl), is ∙ ap (λ (ending : Ending). End ending.rule) ending_is)

  pub ends_are_owned : EndsAreOwned patterns tnfa
  ends_are_owned kernel reaches ending closure first =
      let found = ended closure.0 ending (sym (ap first_ending closure.2) ∙ first) in
      let plain : IsPlainWalk tnfa kernel found.0 = All-contains (IsPlainWalk tnfa kernel) closure.0 found.0 closure.1.plain found.1 in
      let walk : IsWalk tnfa (beginning_of tnfa plain.place) found.0.choices plain.visited found.0.events (AtTarget (End ending.rule)) =
      subst (λ (to : Target). IsWalk tnfa (beginning_of tnfa plain.place) found.0.choices plain.visited found.0.events (AtTarget to)) found.2 plain.walk in
      at plain.place (last_step found.0.choices (beginning_of tnfa plain.place) plain.visited found.0.events ending.rule walk)
    where
      at : (place : Place) → (beginning_of tnfa place ≡ AtTarget (End ending.rule)) ⊎ IsEndStep ending.rule → IsOwned patterns ending.rule
      at place (inl e) = absurd (beginning-end tnfa.classes (state_at tnfa place) place ending.rule e)
      at place (inr step) = owned_step step.0 step.1 step.2 ending.rule step.3 step.4
