-- Walks stay in the rule of the place from which they begin.
use Rattle.std.proofs.Common.{ap, sym, ◌∙◌, subst, inl, inr, arith}
use Rattle.std.specs.Prelude.{◌≡◌, ℕ, zero, suc, ◌+◌, ◌*◌, ◌/◌, ◌<◌, ◌≤◌, List, [], ◌∷◌, map, length, Some, Bool, true, false, nat_eq, if◌then◌else◌, slice_get, slice_index, refl}
use Rattle.lx_base.specs.declared.settings.Enc.{Enc}
use Rattle.lx_encode.specs.Table.{row_of}
use Rattle.lx_encode.specs.declared.graph.Residual.{Residual}
use Rattle.lx_encode.specs.declared.runs.Run.{Run}
use Rattle.lx_regex.specs.Automaton as spec
use Rattle.lx_regex.specs.Automaton.{automaton, leaf, moves, rules_table, target, unit_leaf}
use Rattle.lx_regex.specs.Cut.{rule_part}
use Rattle.lx_regex.specs.Pattern.{Pattern, terms_of, with_terms}
use Rattle.lx_regex.specs.Term.{Term, parts}
use Rattle.lx_regex.specs.Walk.{IsAmong, first, next}
use Rattle.lx_regex.proofs.KernelCuts.Cuts.{rule_positive}
use Rattle.lx_tnfa.specs.Closure as closure
use Rattle.lx_tnfa.specs.Closure.{Arrival, IsPlainWalk, IsWalk, beginning_at, beginning_of, behind_or_at, leaf_step, steps_from, steps_of, stop_at}
use Rattle.lx_tnfa.specs.Live.{starts_at, state_of}
use Rattle.lx_tnfa.specs.Moves.{shown_move}
use Rattle.lx_tnfa.specs.Rows.{Represents}
use Rattle.lx_tnfa.specs.Tnfa.{IsRest, IsTnfaOf, Tnfa, rows_at, state_at}
use Rattle.lx_tnfa.specs.declared.closure.Stop.{Stop}
use Rattle.lx_tnfa.specs.declared.closure.Stop.TheVariants.{AtState, AtTarget}
use Rattle.lx_tnfa.specs.declared.closure.Target.TheVariants.{End, Leaf}
use Rattle.lx_tnfa.specs.declared.places.Place.{Place}
use Rattle.lx_tnfa.specs.declared.states.Event.{Event}
use Rattle.lx_tnfa.specs.declared.states.Move.{Move}
use Rattle.lx_tnfa.specs.declared.states.State.{State}
use Rattle.lx_tnfa.specs.declared.states.State.TheVariants.{AnyUnit, Class, Moves}
use Rattle.lx_tnfa.proofs.Construction.HeldStates.{held_at}
use Rattle.lx_tnfa.proofs.Searching.SearchBasics.{Each}
use Rattle.lx_tdfa.specs.Steps.{IsInLeaf}
use Rattle.lx_tdfa.proofs.Walks.NumbersApart.{rules_table-length}
use Rattle.lx_tdfa.proofs.Rules.RuleStates.{IsPartOf, IsStateOf, IsWithin, moves_within, rule_owns, state_part}
use Rattle.lx_tdfa.proofs.Rules.WithinStates.{rules_parts}

each_slice : {A : Type 0} (P : A → Type 0) (xs : List A) (index : ℕ) (x : A) → Each P xs → slice_get xs index ≡ Some x → P x
each_slice P [] index x each e = cc
each_slice P (y ∷ xs) zero x each e = let same : y ≡ x = cc in subst P same each.0
each_slice P (y ∷ xs) (suc index) x each e = each_slice P xs index x each.1 e

some_at : {A : Type 0} (xs : List A) (index : ℕ) → index < length xs → (x : A) × (slice_get xs index ≡ Some x)
some_at [] index lt = absurd (omega arith)
some_at (x ∷ xs) zero lt = (x, refl)
some_at (x ∷ xs) (suc index) lt = some_at xs index (omega arith)

-- the parts of a rule are among those of all
rule_below : (rules : List Term) (index : ℕ) (e : Term) → slice_get rules index ≡ Some e → rule_part rules index + parts e ≤ 1 + rules_parts rules
rule_below [] index e at = cc
rule_below (x ∷ rules) zero e at =
    let same : x ≡ e = cc in
    let size : parts x ≡ parts e = ap parts same in omega arith
rule_below (x ∷ rules) (suc index) e at = let rest = rule_below rules index e at in omega arith

module _ (enc : Enc) (patterns : List Pattern) (tnfa : Tnfa) (of : IsTnfaOf enc patterns tnfa) (index : ℕ) (pattern : Pattern)
    (here : slice_get (with_terms patterns) index ≡ Some pattern) (at : slice_get (terms_of patterns) index ≡ Some pattern.term) where
  abbrev pub IsOwn : ℕ → Type 0
  IsOwn part = IsPartOf (terms_of patterns) index pattern.term part

  abbrev IsOwnState : ℕ → Type 0
  IsOwnState state = IsStateOf (terms_of patterns) index pattern.term state

  -- the stop is in the rule, or its end
  abbrev pub Stays : Stop → Type 0
  Stays (AtState number) = IsOwnState number
  Stays (AtTarget (Leaf place)) = IsOwn place.part
  Stays (AtTarget (End rule)) = rule ≡ pattern.number

  abbrev StepStays : closure.Step → Type 0
  StepStays step = Stays step.to

  pub owned : (part : ℕ) → IsOwn part → slice_index tnfa.owners part ≡ pattern.number
  owned part is = ap (λ l. slice_index l part) of.owners ∙ rule_owns patterns index part pattern here is

  stop_stays : (number : ℕ) → IsWithin (terms_of patterns) index pattern.term number → Stays (stop_at pattern.number number)
  stop_stays zero is = refl
  stop_stays (suc number) (inl e) = absurd (omega arith)
  stop_stays (suc number) (inr is) = is

  by_moves : (ways : List spec.Move) → ((way : spec.Move) → IsAmong way ways → IsWithin (terms_of patterns) index pattern.term (target way))
      → Each StepStays (map (λ (way : Move). record { to = stop_at pattern.number way.to; events = way.events }) (map shown_move ways))
  by_moves [] within = tt
  by_moves (spec.move picked set unset to ∷ ways) within =
      (stop_stays to (within (spec.move picked set unset to) first), by_moves ways (λ way among. within way (next among)))

  by_starts : (part : ℕ) → IsOwn part → (starts : List Residual) → Each StepStays (map (leaf_step part) starts)
  by_starts part is [] = tt
  by_starts part is (start ∷ starts) = (is, by_starts part is starts)

  by_row : (number : ℕ) → IsOwnState number → (row : spec.State) → slice_get (automaton (terms_of patterns)) number ≡ Some row
      → (state : State) → Represents tnfa.classes row state → Each StepStays (steps_of tnfa.classes pattern.number (number / 2) state)
  by_row number is (moves ways) stands (Moves held) holds =
      subst (λ l. Each StepStays (map (λ (way : Move). record { to = stop_at pattern.number way.to; events = way.events }) l)) (sym holds)
      (by_moves ways (λ way among. moves_within (terms_of patterns) index pattern.term at number ways way is stands among))
  by_row number is (moves ways) stands (Class class) holds = absurd holds
  by_row number is (moves ways) stands AnyUnit holds = absurd holds
  by_row number is (leaf ranges) stands (Moves held) holds = absurd holds
  by_row number is (leaf ranges) stands (Class class) holds =
      by_starts (number / 2) (state_part (terms_of patterns) index pattern.term number is) (starts_at tnfa.classes class)
  by_row number is (leaf ranges) stands AnyUnit holds = absurd holds
  by_row number is unit_leaf stands (Moves held) holds = absurd holds
  by_row number is unit_leaf stands (Class class) holds = absurd holds
  by_row number is unit_leaf stands AnyUnit holds = (state_part (terms_of patterns) index pattern.term number is, tt)

  steps_stay : (stop : Stop) → Stays stop → Each StepStays (steps_from tnfa stop)
  steps_stay (AtTarget target) stays = tt
  steps_stay (AtState zero) stays =
      let positive = rule_positive (terms_of patterns) index in
      let low : 2 * rule_part (terms_of patterns) index ≤ 0 = stays.0 in absurd (omega arith)
  steps_stay (AtState (suc number)) stays =
      let below = rule_below (terms_of patterns) index pattern.term at in
      let count = rules_table-length (terms_of patterns) 1 in
      let lt : suc number < length (automaton (terms_of patterns)) =
      fit (rules_table (terms_of patterns) 1) (rules_parts (terms_of patterns)) count (rule_part (terms_of patterns) index + parts pattern.term) below stays.1 in
      let row = some_at (automaton (terms_of patterns)) (suc number) lt in
      subst (λ rule. Each StepStays (steps_of tnfa.classes rule (suc number / 2) (state_of tnfa.states (suc number))))
      (sym (owned (suc number / 2) (state_part (terms_of patterns) index pattern.term (suc number) stays)))
      (by_row (suc number) stays row.0 row.1 (state_of tnfa.states (suc number))
      (held_at tnfa.classes (automaton (terms_of patterns)) tnfa.states (suc number) row.0 of.states row.1))
    where
      fit : (rows : List spec.State) (n : ℕ) → length rows ≡ 2 * n → (m : ℕ) → m ≤ 1 + n → suc number < 2 * m → suc number < suc (suc (length rows))
      fit rows n e m le lt = omega arith

  walk_stays : (choices : List ℕ) (from : Stop) (visited : List Stop) (events : List Event) (to : Stop) → Stays from
      → IsWalk tnfa from choices visited events to → Stays to
  walk_stays [] from visited events to stays walk = subst Stays walk.2 stays
  walk_stays (choice ∷ choices) from visited events to stays walk =
      walk_stays choices walk.0.to walk.1 walk.2 to
      (each_slice StepStays (steps_from tnfa from) choice walk.0 (steps_stay from stays) walk.3) walk.6

  -- a walk from a place in the rule begins there
  begins_within : (place : Place) → IsInLeaf tnfa place → IsOwn place.part → Stays (beginning_of tnfa place)
  begins_within place is own = by (state_at tnfa place) is.0.rest
    where
      behind : IsOwnState (2 * place.part + 1)
      behind = let low = own.0 in let high = own.1 in (omega arith, omega arith)

      by_runs : (runs : List Run) → Stays (behind_or_at runs place)
      by_runs [] = behind
      by_runs (run ∷ runs) = own

      by_unit : (done : Bool) → Stays (if done then AtState (2 * place.part + 1) else AtTarget (Leaf place))
      by_unit true = behind
      by_unit false = own

      by : (state : State) → IsRest tnfa.classes state place.part place.rest.0 → Stays (beginning_at tnfa.classes state place)
      by (Moves ways) rest = let some = is.1 in let none : place.part ≡ 0 = rest.0 in absurd (omega arith)
      by (Class number) rest = by_runs (row_of (rows_at tnfa.classes number) place.rest.0)
      by AnyUnit rest = by_unit (nat_eq place.rest.0 0)

  pub plain_stays : (places : List Place) (arrival : Arrival) (plain : IsPlainWalk tnfa places arrival) → IsInLeaf tnfa plain.place
      → IsOwn plain.place.part → Stays (AtTarget arrival.to)
  plain_stays places arrival plain is own =
      walk_stays arrival.choices (beginning_of tnfa plain.place) plain.visited arrival.events (AtTarget arrival.to)
      (begins_within plain.place is own) plain.walk
