-- What holds of all blocks of a layout with a supply of units: the states, the entry, the fallback, and the ends of rules.
use Rattle.std.specs.Prelude.{◌≡◌, ◌≢◌, ℕ, zero, suc, ◌+◌, ◌<◌, ◌≤◌, Bool, true, false, List, [], ◌∷◌, ◌++◌, length, Option, Some, None, ◌⊎◌, ◌||◌, nat_eq, refl, if◌then◌else◌}
use Rattle.std.proofs.Common.{inl, inr, sym, ap, ◌∙◌, subst, arith}
use Rattle.std.proofs.lemmas.Bool.{eqb-false}
use Rattle.std.specs.List.{AllByRecursion}
use Rattle.lx_auto.specs.Automaton.{IsAuto, LeadWithin, state_of}
use Rattle.lx_auto.specs.declared.automaton.Accept.{Accept}
use Rattle.lx_auto.specs.declared.automaton.Auto.{Auto}
use Rattle.lx_auto.specs.declared.automaton.Edge.{Edge}
use Rattle.lx_auto.specs.declared.automaton.State.{State}
use Rattle.lx_auto.proofs.States.{state_formed}
use Rattle.lx_auto.specs.declared.ops.Op.{Op}
use Rattle.lx_ccode.specs.declared.piece.Stmt.{Stmt}
use Rattle.lx_layout.specs.Codes.{Choice}
use Rattle.lx_layout.specs.Endings.{Ending}
use Rattle.lx_layout.specs.Fallback.{fallback_code}
use Rattle.lx_layout.specs.Halting.{Halting, any_falls, ended_accept, ended_accepts, halted_accept, is_entered, is_saved, saved_accept, saved_accepts}
use Rattle.lx_layout.specs.Layout.{choices_from, end_block, end_size, ending_blocks, has_rule, lone_place, lone_size, own_block, restore_blocks}
use Rattle.lx_layout.specs.SuppliedLayout.{at_end_blocks, at_end_size, end_of, end_rule_block, end_rule_part, entry_part, entry_part_size, entry_tests_size, entry_way, fall_block, fallback_part, first_restore, kept, lone_number, own_end, place_by, place_of, reader_blocks, rule_block, size_in, sized, state_end, state_size, state_to, state_way, states_begin, states_part, supplied_layout, turn_begin, with_blocks}
use Rattle.lx_layout.specs.Supplies.{Reader, Supply, entry, state}
use Rattle.lx_dispatch.specs.TestTrees.{Asked, TestTree}
use Rattle.lx_dispatch.specs.TransitionClasses.{transition_classes}
use Rattle.lx_layout.proofs.BlockLayouts.FirstAccepts.{Chosen, rule_place-below, rule_place-within}
use Rattle.lx_layout.proofs.SuppliedLayouts.EachBlock.{EachFrom, HoldsOfSorts, each-at_end, each-reader, each_from-append}
use Rattle.lx_layout.proofs.SuppliedLayouts.EachLayout.{CanEnd, EndIsThere, EndsRight, IsWay, LeadsWithin, StateFits, StateHolds, StatesHold, each-with_blocks, end_within, some_class, states_each, to_within, way_within}
use Rattle.lx_layout.proofs.SuppliedLayouts.FirstsFrom.{each-firsts_from, has_rule-ended, kept_some}
use Rattle.lx_layout.proofs.SuppliedLayouts.Lengths.{length-entry_part, length-states_blocks}
use Rattle.lx_layout.proofs.SuppliedLayouts.Places.{begin_in, place_in-begin}
use Rattle.lx_layout.proofs.SuppliedLayouts.Readers.{length-reader_blocks, reader_size-with_blocks}
use Rattle.lx_layout.proofs.SuppliedLayouts.ReaderWays.{end_places}

each_at : (Q : State → Type 0) (states : List State) (s : ℕ) → AllByRecursion Q states → s < length states → Q (state_of states s)
each_at Q [] s h lt = absurd (omega (arith, lt))
each_at Q (given ∷ states) zero h lt = h.0
each_at Q (given ∷ states) (suc s) h lt = each_at Q states s h.1 (omega (arith, lt))

-- some state falls
pub any_falls-one : (halting : Halting) (number : ℕ) (states : List State) (s : ℕ) → s < length states → halting.falls (number + s) ≡ true
    → any_falls halting number states ≡ true
any_falls-one halting number [] s lt is = absurd (omega (arith, lt))
any_falls-one halting number (given ∷ states) zero lt is =
    let e : number ≡ number + 0 = omega arith in
    ap (λ t. t || any_falls halting (suc number) states) (ap (λ n. halting.falls n) e ∙ is)
any_falls-one halting number (given ∷ states) (suc s) lt is =
    let e : suc number + s ≡ number + suc s = omega arith in
    or_behind (halting.falls number)
    (any_falls-one halting (suc number) states s (omega (arith, lt)) (ap (λ n. halting.falls n) e ∙ is))
  where
    or_behind : (t : Bool) → any_falls halting (suc number) states ≡ true → (t || any_falls halting (suc number) states) ≡ true
    or_behind true h = refl
    or_behind false h = h

or_true : (t u : Bool) → u ≡ true → (t || u) ≡ true
or_true true u h = refl
or_true false u h = h

-- edges lead to states that are there
module _ (regs mregs count : ℕ) (Q : Edge → Type 0) where
  lead_there : (edges : List Edge) → LeadWithin regs mregs count edges → AllByRecursion Q edges
      → AllByRecursion (λ (edge : Edge). Q edge × (edge.to < count)) edges
  lead_there [] lead h = tt
  lead_there (edge ∷ edges) lead h = ((h.0, lead.0), lead_there edges lead.2 h.1)

one_place : (eof : Option ℕ) → end_places eof ≤ 1
one_place None = omega arith
one_place (Some eof) = omega arith

module _ (supply : Supply) (halting : Halting) (end_rule : Option ℕ) (trees : Reader → TestTree (Option ℕ)) (auto : Auto) where
  pub end_of-more : (s from : ℕ) (states : List State) → from ≤ end_of supply halting end_rule trees auto s from states
  end_of-more s from [] = omega arith
  end_of-more s from (given ∷ states) =
      let more = end_of-more (suc s) (from + state_size supply halting end_rule trees auto s given) states in omega (arith, more)

  -- each state's blocks lie among those of all
  pub begin_in-low : (s from : ℕ) (states : List State) (k : ℕ) → from ≤ begin_in supply halting end_rule trees auto s from states k
  begin_in-low s from [] k = omega arith
  begin_in-low s from (given ∷ states) zero = omega arith
  begin_in-low s from (given ∷ states) (suc k) =
      let low = begin_in-low (suc s) (from + state_size supply halting end_rule trees auto s given) states k in omega (arith, low)

  pub begin_in-high : (s from : ℕ) (states : List State) (k : ℕ) → k < length states
      → begin_in supply halting end_rule trees auto s from states k + state_size supply halting end_rule trees auto (s + k) (state_of states k)
      ≤ end_of supply halting end_rule trees auto s from states
  begin_in-high s from [] k lt = absurd (omega (arith, lt))
  begin_in-high s from (given ∷ states) zero lt =
      let more = end_of-more (suc s) (from + state_size supply halting end_rule trees auto s given) states in
      let e : s ≡ s + 0 = omega arith in
      subst (λ m. from + state_size supply halting end_rule trees auto m given
      ≤ end_of supply halting end_rule trees auto (suc s) (from + state_size supply halting end_rule trees auto s given) states) e more
  begin_in-high s from (given ∷ states) (suc k) lt =
      let e : suc s + k ≡ s + suc k = omega arith in
      subst (λ m. begin_in supply halting end_rule trees auto (suc s) (from + state_size supply halting end_rule trees auto s given) states k
      + state_size supply halting end_rule trees auto m (state_of states k)
      ≤ end_of supply halting end_rule trees auto (suc s) (from + state_size supply halting end_rule trees auto s given) states) e
      (begin_in-high (suc s) (from + state_size supply halting end_rule trees auto s given) states k (omega (arith, lt)))

module _ (P : ℕ → List Stmt → Type 0) (B : ℕ → Type 0) (G : Asked → Type 0) (R : Reader → ℕ → Type 0) (C : ℕ → Type 0) (E : State → Edge → Type 0) (A : Accept → Type 0) (D : ℕ → Type 0)
    (supply : Supply) (halting : Halting) (endings : ℕ → Ending) (auto : Auto) (holds : HoldsOfSorts P B G R C E A D supply halting endings auto)
    (end_rule : Option ℕ) (trees : Reader → TestTree (Option ℕ)) (begin n : ℕ) (range : (block : ℕ) → begin ≤ block → block < n → B block)
    (asked_of : (s : ℕ) → C (supply.check s))
    (room : end_rule_block supply halting end_rule trees auto begin + length (end_rule_part endings end_rule) ≤ n) (formed : IsAuto auto)
    (accepts : AllByRecursion (λ (state : State). Chosen A state.accept) auto.states)
    (edges : AllByRecursion (λ (state : State). AllByRecursion (E state) state.edges) auto.states)
    (ends_right : EndsRight B supply halting end_rule auto)
    (leads : (s : ℕ) → s < length auto.states → LeadsWithin P B G R C E A D supply halting endings auto holds end_rule trees begin n range asked_of s (state s) (state_of auto.states s).edges)
    (entry_leads : LeadsWithin P B G R C E A D supply halting endings auto holds end_rule trees begin n range asked_of 0 entry (state_of auto.states 0).edges)
    (readers : (s : ℕ) → s < length auto.states → is_entered end_rule auto s ≡ true → ((state_of auto.states s).edges ≡ [] → ⊥)
    → R (state s) (begin_in supply halting end_rule trees auto 0 (states_begin supply halting end_rule trees auto begin) auto.states s))
    (entry_reads : (rule : ℕ) → end_rule ≡ Some rule → R entry begin) (ends_by : (rule : ℕ) → end_rule ≡ Some rule → D rule) where
  abbrev rules : ℕ → ℕ
  rules = rule_block supply halting end_rule trees auto begin

  abbrev fall : ℕ
  fall = fall_block supply halting end_rule trees auto begin

  abbrev start : ℕ
  start = states_begin supply halting end_rule trees auto begin

  abbrev place : ℕ → ℕ
  place = place_of supply halting end_rule trees auto begin

  fall_above : begin ≤ fall
  fall_above = let more = end_of-more supply halting end_rule trees auto 0 start auto.states in omega (arith, more)

  -- where a match falls back from some state the fallback stands, and rules by which one ends have blocks
  fall_there : any_falls halting 0 auto.states ≡ true → B fall
  fall_there some =
      let above = fall_above in
      let size : sized (any_falls halting 0 auto.states) 1 ≡ 1 = ap (λ t. sized t 1) some in
      range fall above (omega (arith, room, size))

  rule_there : (rule : ℕ) → has_rule (ended_accepts halting auto.states) rule ≡ true → B (rules rule)
  rule_there rule has =
      let lt = rule_place-below (ended_accepts halting auto.states) rule has in
      let above = fall_above in
      range (rules rule) (omega (arith, above)) (omega (arith, lt, room))

  accept_there : (s : ℕ) (accept : Accept) → s < length auto.states → (state_of auto.states s).accept ≡ Some accept → A accept
  accept_there s accept lt is =
      subst (λ o. Chosen A o) is (each_at (λ (state : State). Chosen A state.accept) auto.states s accepts lt)

  -- what a match needs that ends in a state
  abbrev IsThere : Option Accept → Type 0
  IsThere o = EndIsThere P B G R C E A D supply halting endings auto holds end_rule trees begin n range asked_of rules fall o

  end_there : (s : ℕ) → s < length auto.states → CanEnd B halting s → IsThere (state_of auto.states s).accept
  end_there s lt can = by (state_of auto.states s).accept refl can
    where
      falling : (halting.falls s ≡ true) ⊎ ((block : ℕ) → B block) → B fall
      falling (inl is) = fall_there (any_falls-one halting 0 auto.states s lt (let e : 0 + s ≡ s = omega arith in ap (λ n. halting.falls n) e ∙ is))
      falling (inr all) = all fall

      by : (o : Option Accept) → (state_of auto.states s).accept ≡ o → CanEnd B halting s → IsThere o
      by None is (inl halts) = falling (ends_right.falls s lt is halts)
      by None is (inr all) = all fall
      by (Some accept) is (inl halts) = (
        accept_there s accept lt is,
        rule_there accept.rule
            (has_rule-ended halting auto.states s accept lt is (ap (λ t. t || is_saved halting (state_of auto.states s)) halts)),
      )
      by (Some accept) is (inr all) = (accept_there s accept lt is, all (rules accept.rule))

  -- ---- where states stand

  abbrev own : ℕ → ℕ
  own s = begin_in supply halting end_rule trees auto 0 start auto.states s

  own_high : (s : ℕ) → s < length auto.states → own s + state_size supply halting end_rule trees auto s (state_of auto.states s) ≤ fall
  own_high s lt =
      let e : 0 + s ≡ s = omega arith in
      subst (λ m. begin_in supply halting end_rule trees auto 0 start auto.states s + state_size supply halting end_rule trees auto m (state_of auto.states s) ≤ fall)
      e (begin_in-high supply halting end_rule trees auto 0 start auto.states s lt)

  place_is : (s : ℕ) → s < length auto.states
      → place s ≡ place_by supply halting end_rule trees auto rules fall begin s (own s) (state_of auto.states s).edges (state_of auto.states s).accept
  place_is s lt =
      let e : 0 + s ≡ s = omega arith in
      place_in-begin supply halting end_rule trees auto rules fall begin 0 start auto.states s lt
      ∙ ap (λ n. place_by supply halting end_rule trees auto rules fall begin n (own s) (state_of auto.states s).edges (state_of auto.states s).accept) e

  pub places : (s : ℕ) → s < length auto.states → B (place s)
  places s lt = subst B (sym (place_is s lt)) (by (state_of auto.states s).edges refl (own_high s lt))
    where
      low : begin ≤ own s
      low = let from = begin_in-low supply halting end_rule trees auto 0 start auto.states s in omega (arith, from)

      lone : (number : ℕ) → IsThere (state_of auto.states s).accept → own s + lone_size number (state_of auto.states s).accept ≤ fall
          → B (lone_place auto rules fall number (own s) (state_of auto.states s).accept)
      lone zero there high = let from = low in range (own s) (omega (arith, from)) (omega (arith, high, room))
      lone (suc number) there high =
          let from = low in
          end_within P B G R C E A D supply halting endings auto holds end_rule trees begin n range asked_of rules fall (own s)
          (state_of auto.states s).accept there (omega (arith, from)) (omega (arith, high, room))

      apart : (t : Bool) → own s < fall → B (if t then own s else begin)
      apart true lt = let from = low in range (own s) (omega (arith, from)) (omega (arith, lt, room))
      apart false lt = let from = low in range begin (omega arith) (omega (arith, from, lt, room))

      by : (list : List Edge) → (state_of auto.states s).edges ≡ list
          → own s + size_in supply halting end_rule trees auto s (state_of auto.states s) list ≤ fall
          → B (place_by supply halting end_rule trees auto rules fall begin s (own s) list (state_of auto.states s).accept)
      by [] none high = lone (lone_number end_rule s) (end_there s lt (ends_right.lone s lt none)) high
      by (edge ∷ list) some high = let one = some_class edge list in apart (is_entered end_rule auto s) (omega (arith, one, high))

  -- ---- the states

  holds_at : (k : ℕ) → k < length auto.states
      → StateHolds P B G R C E A D supply halting endings auto holds end_rule trees begin n range asked_of rules fall (saved_accepts halting auto.states) place
      places k (begin_in supply halting end_rule trees auto 0 start auto.states k) (state_of auto.states k)
  holds_at k lt =
      let low = begin_in-low supply halting end_rule trees auto 0 start auto.states k in
      let high = own_high k lt in
      record {
        low = omega (arith, low);
        high = omega (arith, high, room);
        ends = λ can. end_there k lt can;
        lone = λ none. ends_right.lone k lt none;
        turned = λ some entered. ends_right.turned k lt some entered;
        edges = lead_there auto.regs auto.mregs (length auto.states) (E (state_of auto.states k)) (state_of auto.states k).edges (state_formed auto k formed).lead
            (each_at (λ (state : State). AllByRecursion (E state) state.edges) auto.states k edges lt);
        leads = leads k lt;
        reader = λ entered some. readers k lt entered some;
      }

  hold_from : (s from : ℕ) (states : List State)
      → ((k : ℕ) → k < length states
      → StateHolds P B G R C E A D supply halting endings auto holds end_rule trees begin n range asked_of rules fall (saved_accepts halting auto.states) place places (s + k)
      (begin_in supply halting end_rule trees auto s from states k) (state_of states k))
      → StatesHold P B G R C E A D supply halting endings auto holds end_rule trees begin n range asked_of rules fall (saved_accepts halting auto.states) place places s from states
  hold_from s from [] h = tt
  hold_from s from (given ∷ states) h =
      let e : s + 0 ≡ s = omega arith in (
        subst (λ m. StateHolds P B G R C E A D supply halting endings auto holds end_rule trees begin n range asked_of rules fall (saved_accepts halting auto.states) place places m
            from given) e (h 0 (omega arith)),
        hold_from (suc s) (from + state_size supply halting end_rule trees auto s given) states
            (λ k lt. let next : s + suc k ≡ suc s + k = omega arith in
            subst (λ m. StateHolds P B G R C E A D supply halting endings auto holds end_rule trees begin n range asked_of rules fall (saved_accepts halting auto.states) place places m
            (begin_in supply halting end_rule trees auto (suc s) (from + state_size supply halting end_rule trees auto s given) states k) (state_of states k)) next
            (h (suc k) (omega (arith, lt)))),
      )

  all_states : EachFrom P start (states_part supply halting end_rule trees auto begin)
  all_states =
      states_each P B G R C E A D supply halting endings auto holds end_rule trees begin n range asked_of rules fall (saved_accepts halting auto.states) place places 0 start
      auto.states
      (hold_from 0 start auto.states
      (λ k lt. let e : k ≡ 0 + k = omega arith in
      subst (λ m. StateHolds P B G R C E A D supply halting endings auto holds end_rule trees begin n range asked_of rules fall (saved_accepts halting auto.states) place places m
      (begin_in supply halting end_rule trees auto 0 start auto.states k) (state_of auto.states k)) e (holds_at k lt)))

  -- ---- the fallback and the rules

  choices_there : (saved block : ℕ) (saved_accepts : List Accept) → begin ≤ block → block + length saved_accepts ≤ n
      → AllByRecursion (λ (choice : Choice). B choice.block) (choices_from saved block saved_accepts)
  choices_there saved block [] low high = tt
  choices_there saved block (accept ∷ saved_accepts) low high =
      (range block low (omega (arith, high)), choices_there (suc saved) (suc block) saved_accepts (omega (arith, low)) (omega (arith, high)))

  restores_each : (from : ℕ) (list : List Accept) → AllByRecursion (λ (accept : Accept). B (rules accept.rule)) list
      → EachFrom P from (restore_blocks rules list)
  restores_each from [] h = tt
  restores_each from (accept ∷ list) h = (holds.restores (rules accept.rule) h.0 from, restores_each (suc from) list h.1)

  ends_each : (from : ℕ) (list : List Accept) → AllByRecursion A list → EachFrom P from (ending_blocks endings list)
  ends_each from [] h = tt
  ends_each from (accept ∷ list) h = (holds.ends accept h.0 from, ends_each (suc from) list h.1)

  end_each : (from : ℕ) (given : Option ℕ) → end_rule ≡ given → EachFrom P from (end_rule_part endings given)
  end_each from None is = tt
  end_each from (Some rule) is = (holds.end_rule rule (ends_by rule is) from, tt)

  abbrev saves : List Accept
  saves = saved_accepts halting auto.states

  fallback_each : EachFrom P fall (fallback_part halting auto (first_restore supply halting end_rule trees auto begin))
  fallback_each = by (any_falls halting 0 auto.states)
    where
      choices : AllByRecursion (λ (choice : Choice). B choice.block) (choices_from 1 (first_restore supply halting end_rule trees auto begin) saves)
      choices =
          let above = fall_above in
          choices_there 1 (first_restore supply halting end_rule trees auto begin) saves (omega (arith, above)) (omega (arith, room))

      by : (t : Bool)
          → EachFrom P fall (kept t (fallback_code (halting.falls 0) (choices_from 1 (first_restore supply halting end_rule trees auto begin) saves) ∷ []))
      by true = (holds.choices (halting.falls 0) (choices_from 1 (first_restore supply halting end_rule trees auto begin) saves) choices fall, tt)
      by false = tt

  saves_there : AllByRecursion (λ (accept : Accept). B (rules accept.rule)) saves
  saves_there =
      each-firsts_from halting (saved_accept halting) (λ (accept : Accept). B (rules accept.rule)) [] 0 auto.states tt
      (λ s accept lt is.
      let kept = kept_some (is_saved halting (state_of auto.states s)) (state_of auto.states s).accept accept is in
      rule_there accept.rule
      (has_rule-ended halting auto.states s accept lt kept.1 (or_true (halting.halts s) (is_saved halting (state_of auto.states s)) kept.0)))

  ends_are : AllByRecursion A (ended_accepts halting auto.states)
  ends_are =
      each-firsts_from halting (ended_accept halting) A [] 0 auto.states tt
      (λ s accept lt is.
      accept_there s accept lt
      (kept_some (halting.halts (0 + s) || is_saved halting (state_of auto.states s)) (state_of auto.states s).accept accept is).1)

  abbrev rest : List (List Stmt)
  rest = fallback_part halting auto (first_restore supply halting end_rule trees auto begin)
      ++ (restore_blocks rules (saved_accepts halting auto.states)
      ++ (ending_blocks endings (ended_accepts halting auto.states) ++ end_rule_part endings end_rule))

  rest_each : EachFrom P fall rest
  rest_each =
      let fallback : List (List Stmt) = fallback_part halting auto (first_restore supply halting end_rule trees auto begin) in
      let ends_row : List (List Stmt) = ending_blocks endings (ended_accepts halting auto.states) in
      each_from-append P fall fallback (restore_blocks rules saves ++ (ends_row ++ end_rule_part endings end_rule)) fallback_each
      (each_from-append P (fall + length fallback) (restore_blocks rules saves) (ends_row ++ end_rule_part endings end_rule)
      (restores_each (fall + length fallback) saves saves_there)
      (each_from-append P (fall + length fallback + length (restore_blocks rules saves)) ends_row (end_rule_part endings end_rule)
      (ends_each (fall + length fallback + length (restore_blocks rules saves)) (ended_accepts halting auto.states) ends_are)
      (end_each _ end_rule refl)))

  -- ---- the entry

  halted_size : (s : ℕ) (given : State) → end_size (halted_accept halting s given) ≤ end_size given.accept
  halted_size s given = by (halting.halts s)
    where
      by : (t : Bool) → end_size (if t then given.accept else None) ≤ end_size given.accept
      by true = omega arith
      by false = omega arith

  begins_first : (states : List State) → begin_in supply halting end_rule trees auto 0 start states 0 ≡ start
  begins_first [] = refl
  begins_first (given ∷ states) = refl

  module _ (rule : ℕ) (is : end_rule ≡ Some rule) where
    abbrev given : State
    given = state_of auto.states 0

    abbrev FitsFirst : Type 0
    FitsFirst = StateFits P B G R C E A D supply halting endings auto holds end_rule trees begin n range asked_of rules fall 0 start (state_of auto.states 0)

    first_fits : FitsFirst
    first_fits = by (state_of auto.states 0).edges refl
      where
        whole : StateHolds P B G R C E A D supply halting endings auto holds end_rule trees begin n range asked_of rules fall (saved_accepts halting auto.states) place places 0
            start (state_of auto.states 0)
        whole =
            subst (λ m. StateHolds P B G R C E A D supply halting endings auto holds end_rule trees begin n range asked_of rules fall (saved_accepts halting auto.states) place places 0
            m (state_of auto.states 0)) (begins_first auto.states) (holds_at 0 formed.start)

        by : (list : List Edge) → (state_of auto.states 0).edges ≡ list → FitsFirst
        by [] none =
            let high : start + lone_size (lone_number end_rule 0) (state_of auto.states 0).accept ≤ n =
            subst (λ l. start + size_in supply halting end_rule trees auto 0 (state_of auto.states 0) l ≤ n) none whole.high in
            let lone : start + end_size (state_of auto.states 0).accept ≤ n =
            subst (λ o. start + lone_size (lone_number o 0) (state_of auto.states 0).accept ≤ n) is high in
            let few = halted_size 0 (state_of auto.states 0) in
            let turn_at : turn_begin supply halting end_rule trees auto 0 start (state_of auto.states 0).edges ≡ start + 0 =
            ap (λ l. turn_begin supply halting end_rule trees auto 0 start l) none in
            let end_at : own_end supply halting end_rule trees auto 0 start (state_of auto.states 0).edges ≡ start =
            ap (λ l. own_end supply halting end_rule trees auto 0 start l) none in
            record {
              low = whole.low;
              ends = whole.ends;
              classes = omega (arith, turn_at, lone);
              end = omega (arith, end_at, lone, few);
              above = omega (arith, end_at);
            }
        by (edge ∷ list) some =
            let high : start + size_in supply halting end_rule trees auto 0 (state_of auto.states 0) (edge ∷ list) ≤ n =
            subst (λ l. start + size_in supply halting end_rule trees auto 0 (state_of auto.states 0) l ≤ n) some whole.high in
            let low = whole.low in
            let turn_at : turn_begin supply halting end_rule trees auto 0 start (state_of auto.states 0).edges
            ≡ turn_begin supply halting end_rule trees auto 0 start (edge ∷ list) = ap (λ l. turn_begin supply halting end_rule trees auto 0 start l) some in
            let end_at : own_end supply halting end_rule trees auto 0 start (state_of auto.states 0).edges
            ≡ own_end supply halting end_rule trees auto 0 start (edge ∷ list) = ap (λ l. own_end supply halting end_rule trees auto 0 start l) some in
            record {
              low = whole.low;
              ends = whole.ends;
              classes = omega (arith, turn_at, high);
              end = omega (arith, end_at, high);
              above = omega (arith, end_at, low);
            }

    entry_room : begin + entry_tests_size supply halting end_rule trees auto + at_end_size supply < n
    entry_room =
        let more = end_of-more supply halting end_rule trees auto 0 start auto.states in
        let size : entry_part_size supply halting end_rule trees auto end_rule ≡ entry_tests_size supply halting end_rule trees auto + at_end_size supply =
        ap (λ o. entry_part_size supply halting end_rule trees auto o) is in
        let last : length (end_rule_part endings end_rule) ≡ 1 = ap (λ o. length (end_rule_part endings o)) is in
        omega (arith, more, size, room, last)

    ends_there : B (end_rule_block supply halting end_rule trees auto begin)
    ends_there =
        let above = fall_above in
        let one : end_rule_block supply halting end_rule trees auto begin + 1 ≤ n =
        subst (λ o. end_rule_block supply halting end_rule trees auto begin + length (end_rule_part endings o) ≤ n) is room in
        range (end_rule_block supply halting end_rule trees auto begin) (omega (arith, above)) (omega (arith, one))

    -- the end of state 0, whether a match can end there or not
    first_end : own_end supply halting end_rule trees auto 0 start (state_of auto.states 0).edges ≤ fall
    first_end =
        by (state_of auto.states 0).edges
        (subst (λ m. m + state_size supply halting end_rule trees auto 0 (state_of auto.states 0) ≤ fall) (begins_first auto.states) (own_high 0 formed.start))
      where
        by : (list : List Edge) → start + size_in supply halting end_rule trees auto 0 (state_of auto.states 0) list ≤ fall
            → own_end supply halting end_rule trees auto 0 start list ≤ fall
        by [] high = omega (arith, high)
        by (edge ∷ list) high = omega (arith, high)

    before_end : (block : ℕ) → begin ≤ block → block ≤ end_rule_block supply halting end_rule trees auto begin → B block
    before_end block low high =
        let one : end_rule_block supply halting end_rule trees auto begin + 1 ≤ n =
        subst (λ o. end_rule_block supply halting end_rule trees auto begin + length (end_rule_part endings o) ≤ n) is room in
        range block low (omega (arith, high, one))

    first_end_there : B (state_end supply halting end_rule trees auto rules fall begin 0 start (state_of auto.states 0))
    first_end_there = by (state_of auto.states 0).accept
      where
        own_there : B (own_end supply halting end_rule trees auto 0 start (state_of auto.states 0).edges)
        own_there =
            let above = first_fits.above in
            let below = first_end in
            before_end (own_end supply halting end_rule trees auto 0 start (state_of auto.states 0).edges) above (omega (arith, below))

        by_ops : (rule : ℕ) (ops : List Op) → B (own_block (own_end supply halting end_rule trees auto 0 start (state_of auto.states 0).edges) (rules rule) ops)
        by_ops rule [] =
            let above = fall_above in
            let place = rule_place-within (ended_accepts halting auto.states) rule in
            before_end (rules rule) (omega (arith, above)) (omega (arith, place))
        by_ops rule (op ∷ ops) = own_there

        by : (o : Option Accept)
            → B (end_block auto rules fall (own_end supply halting end_rule trees auto 0 start (state_of auto.states 0).edges) o)
        by None = let above = fall_above in before_end fall above (omega arith)
        by (Some accept) = by_ops accept.rule accept.ops

    abbrev way : Option ℕ → ℕ
    way class = entry_way supply halting end_rule trees auto rules fall begin start given class

    way_there : (class : Option ℕ) → IsWay B halting 0 (end_places supply.eof + length (transition_classes given.edges)) class → B (way class)
    way_there None can =
        way_within P B G R C E A D supply halting endings auto holds end_rule trees begin n range asked_of rules fall 0 start given first_fits None can
    way_there (Some number) of = by (nat_eq number (length (transition_classes given.edges))) refl
      where
        by : (t : Bool) → nat_eq number (length (transition_classes given.edges)) ≡ t
            → B (if t then begin + entry_tests_size supply halting end_rule trees auto
            else state_way supply halting end_rule trees auto rules fall begin 0 start given (Some number))
        by true e = let enough = entry_room in range (begin + entry_tests_size supply halting end_rule trees auto) (omega arith) (omega (arith, enough))
        by false e =
            let few = one_place supply.eof in
            let other : number ≢ length (transition_classes given.edges) = eqb-false number (length (transition_classes given.edges)) e in
            way_within P B G R C E A D supply halting endings auto holds end_rule trees begin n range asked_of rules fall 0 start given first_fits (Some number)
            (omega (arith, of, few, other))

    entry_each : EachFrom P begin (entry_part supply halting end_rule trees auto begin (Some rule))
    entry_each =
        let enough = entry_room in
        let tree : TestTree ℕ = with_blocks (entry_way supply halting end_rule trees auto rules fall begin start (state_of auto.states 0)) (trees entry) in
        let tests : List (List Stmt) = reader_blocks supply.stored entry supply.eof 0 begin
        (with_blocks (entry_way supply halting end_rule trees auto rules fall begin start (state_of auto.states 0)) (trees entry)) in
        let turn : List (List Stmt) = at_end_blocks supply entry begin (begin + entry_tests_size supply halting end_rule trees auto)
        (state_to supply halting end_rule trees auto rules fall begin 0 start (state_of auto.states 0)) (end_rule_block supply halting end_rule trees auto begin) in
        let size = reader_size-with_blocks (entry_way supply halting end_rule trees auto rules fall begin start (state_of auto.states 0)) supply.eof 0 (trees entry) in
        let l = length-reader_blocks supply.stored entry supply.eof 0 begin tree ∙ size in
        each_from-append P begin tests turn
        (each-reader P B G R C E A D supply halting endings auto holds entry 0 begin tree holds.unchecked
        (each-with_blocks G (IsWay B halting 0 (end_places supply.eof + length (transition_classes given.edges))) B way way_there (trees entry) entry_leads)
        (entry_reads rule is) (λ block lt le. range block le (omega (arith, lt, size, enough))))
        (subst (λ k. EachFrom P (begin + k) turn) (sym l)
        (each-at_end P B G R C E A D supply halting endings auto holds entry begin (begin + entry_tests_size supply halting end_rule trees auto)
        (state_to supply halting end_rule trees auto rules fall begin 0 start (state_of auto.states 0)) (end_rule_block supply halting end_rule trees auto begin)
        (entry_reads rule is) (range begin (omega arith) (omega (arith, enough)))
        (λ unit at. (
          to_within P B G R C E A D supply halting endings auto holds end_rule trees begin n range asked_of rules fall 0 start given first_fits unit
              (λ none. first_end_there),
          ends_there,
        ))
        (λ next lt le. range next (omega (arith, le)) (omega (arith, lt, enough)))))

  -- ---- the whole

  first_part : (o : Option ℕ) → end_rule ≡ o → EachFrom P begin (entry_part supply halting end_rule trees auto begin o)
  first_part None is = tt
  first_part (Some rule) is = entry_each rule is

  pub layout_each : EachFrom P begin (supplied_layout supply halting endings end_rule trees auto begin)
  layout_each =
      let first : List (List Stmt) = entry_part supply halting end_rule trees auto begin end_rule in
      let states : List (List Stmt) = states_part supply halting end_rule trees auto begin in
      let a = ap (λ k. begin + k) (length-entry_part supply halting endings end_rule trees auto begin end_rule) in
      let b = length-states_blocks supply halting end_rule trees auto rules fall begin (saved_accepts halting auto.states) place 0 start auto.states in
      each_from-append P begin first (states ++ rest) (first_part end_rule refl)
      (subst (λ k. EachFrom P k (states ++ rest)) (sym a)
      (each_from-append P start states rest all_states (subst (λ k. EachFrom P k rest) (sym b) rest_each)))
