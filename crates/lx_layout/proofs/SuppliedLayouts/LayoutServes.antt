-- The blocks of a layout with a supply of units serve the automaton.
use Rattle.std.specs.Prelude.{◌≡◌, ℕ, zero, suc, ◌+◌, ◌<◌, ◌≤◌, true, false, List, [], ◌∷◌, ◌++◌, length, Option, Some, None, All, Contains, IsSome, ◌||◌, refl, slice_get, slice_index_or, if◌then◌else◌, nat_lt, Bool}
use Rattle.std.proofs.Common.{sym, ap, ◌∙◌, subst, arith, true≢false}
use Rattle.std.proofs.lemmas.List.Elements.{All-get_or}
use Rattle.lx_auto.specs.Automaton.{IsAuto, LeadWithin, state_of}
use Rattle.lx_auto.specs.declared.automaton.Accept.{Accept}
use Rattle.lx_auto.specs.declared.automaton.Auto.{Auto}
use Rattle.lx_auto.specs.declared.automaton.Edge.{Edge}
use Rattle.lx_auto.specs.declared.automaton.State.{State}
use Rattle.lx_auto.proofs.States.{state_formed}
use Rattle.lx_ccode.specs.declared.piece.Stmt.{Stmt}
use Rattle.lx_layout.specs.Codes.{Choice, restore_code, saved_by}
use Rattle.lx_layout.specs.Endings.{Ending, ending_code}
use Rattle.lx_layout.specs.Fallback.{chosen, fallback_code}
use Rattle.lx_auto.specs.Shapes.{AreAgreed}
use Rattle.lx_layout.specs.Layout.{StandsFrom, choices_from, ending_blocks, restore_blocks, rule_place, saved_number, has_rule}
use Rattle.lx_layout.specs.Supplied.{Restores, Serves, ServesEntry, ServesState}
use Rattle.lx_layout.specs.Halting.{AreHalting, Falls, Halting, any_falls, at_end, bare, ended_accepts, here, is_entered, is_saved, lone, onward, saved_accepts, keeps_numbers}
use Rattle.lx_layout.specs.SuppliedLayout.{EachReader, at_end_blocks, end_rule_block, end_rule_part, entry_by, entry_part, entry_tests_size, entry_way, fall_block, fallback_part, first_restore, first_rule, kept, number_in, place_by, place_of, reader_blocks, rule_block, state_blocks, state_to, states_begin, states_part, supplied_layout, with_blocks}
use Rattle.lx_layout.specs.Supplies.{Reader, Supply, entry, state}
use Rattle.lx_dispatch.specs.Dispatch.{top_of}
use Rattle.lx_dispatch.specs.TestTrees.{PicksAs, TestTree}
use Rattle.lx_dispatch.specs.UnitApart.{reader_split}
use Rattle.lx_layout.proofs.BlockLayouts.LayoutLengths.{length-ending_blocks, length-restore_blocks}
use Rattle.lx_layout.proofs.BlockLayouts.CodesInBlocks.{StandsFrom-back, StandsFrom-front, StandsFrom-get}
use Rattle.lx_layout.proofs.Rules.RuleBlocks.{restore_stands}
use Rattle.lx_layout.proofs.Supplied.EnteredStates.{entered-lone}
use Rattle.lx_layout.proofs.SuppliedLayouts.FirstsFrom.{chosen-below, chosen-choices_from, end_stands, has_rule-saved, chosen-alone}
use Rattle.lx_layout.proofs.SuppliedLayouts.Lengths.{length-entry_part, length-fallback_part}
use Rattle.lx_layout.proofs.SuppliedLayouts.Places.{begin_in, place_in-begin, rest_stands, states_stand, tree_at}
use Rattle.lx_layout.proofs.SuppliedLayouts.Readers.{length-reader_blocks, reader_size-with_blocks}
use Rattle.lx_layout.proofs.SuppliedLayouts.StatesServe.{HaltsRight, WaysStand, entry_serves, state_serves, ways, number_in-kept}
use Rattle.lx_layout.proofs.SuppliedLayouts.WholeLayout.{any_falls-one}
use Rattle.lx_layout.specs.Carries.{HasNumber}
use Rattle.lx_base.specs.declared.settings.Format.{Format}
use Rattle.lx_base.specs.declared.settings.Format.TheVariants.{Three, Two}

-- an edge leads to a state that is there
leads_in : (regs mregs count : ℕ) (edges : List Edge) → LeadWithin regs mregs count edges → (k : ℕ) → k < length edges → (edge : Edge)
    → slice_index_or edges k edge ≡ edge → edge.to < count
leads_in regs mregs count [] lead k lt edge is = absurd (omega (arith, lt))
leads_in regs mregs count (first ∷ edges) lead zero lt edge is = subst (λ (e : Edge). e.to < count) is lead.0
leads_in regs mregs count (first ∷ edges) lead (suc k) lt edge is = leads_in regs mregs count edges lead.2 k (omega (arith, lt)) edge is

module _ (supply : Supply) (halting : Halting) (endings : ℕ → Ending) (end_rule : Option ℕ) (greatest : ℕ) (trees : Reader → TestTree (Option ℕ)) (auto : Auto)
    (begin : ℕ) (blocks : List (List Stmt)) (stands : StandsFrom blocks begin (supplied_layout supply halting endings end_rule trees auto begin)) where
  abbrev saves : List Accept
  saves = saved_accepts halting auto.states

  abbrev rules : ℕ → ℕ
  rules = rule_block supply halting end_rule trees auto begin

  abbrev fall : ℕ
  fall = fall_block supply halting end_rule trees auto begin

  abbrev place : ℕ → ℕ
  place = place_of supply halting end_rule trees auto begin

  abbrev start : ℕ
  start = states_begin supply halting end_rule trees auto begin

  abbrev restore : ℕ
  restore = first_restore supply halting end_rule trees auto begin

  abbrev choices : List Choice
  choices = choices_from 1 restore saves

  abbrev fallback_row : List (List Stmt)
  fallback_row = fallback_part halting auto restore

  abbrev ends_row : List (List Stmt)
  ends_row = ending_blocks endings (ended_accepts halting auto.states)

  abbrev restores_row : List (List Stmt)
  restores_row = restore_blocks rules saves

  -- the fallback and all behind it
  abbrev pub rest : List (List Stmt)
  rest = fallback_row ++ (restores_row ++ (ends_row ++ end_rule_part endings end_rule))

  abbrev entry_row : List (List Stmt)
  entry_row = entry_part supply halting end_rule trees auto begin end_rule

  -- ---- where the parts stand

  states_here : StandsFrom blocks start (states_part supply halting end_rule trees auto begin ++ rest)
  states_here =
      subst (λ n. StandsFrom blocks (begin + n) (states_part supply halting end_rule trees auto begin ++ rest)) (length-entry_part supply halting endings end_rule trees auto begin end_rule)
      (StandsFrom-back blocks begin entry_row (states_part supply halting end_rule trees auto begin ++ rest) stands)

  pub behind : StandsFrom blocks fall rest
  behind = rest_stands supply halting end_rule trees auto rules fall begin saves place blocks 0 start auto.states rest states_here

  pub behind_fallback : StandsFrom blocks restore (restores_row ++ (ends_row ++ end_rule_part endings end_rule))
  behind_fallback =
      subst (λ n. StandsFrom blocks (fall + n) (restores_row ++ (ends_row ++ end_rule_part endings end_rule))) (length-fallback_part halting auto restore)
      (StandsFrom-back blocks fall fallback_row (restores_row ++ (ends_row ++ end_rule_part endings end_rule)) behind)

  pub behind_restores : StandsFrom blocks (first_rule supply halting end_rule trees auto begin) (ends_row ++ end_rule_part endings end_rule)
  behind_restores =
      subst (λ n. StandsFrom blocks (restore + n) (ends_row ++ end_rule_part endings end_rule)) (length-restore_blocks rules saves)
      (StandsFrom-back blocks restore restores_row (ends_row ++ end_rule_part endings end_rule) behind_fallback)

  pub behind_ends : StandsFrom blocks (end_rule_block supply halting end_rule trees auto begin) (end_rule_part endings end_rule)
  behind_ends =
      subst (λ n. StandsFrom blocks (first_rule supply halting end_rule trees auto begin + n) (end_rule_part endings end_rule))
      (length-ending_blocks endings (ended_accepts halting auto.states))
      (StandsFrom-back blocks (first_rule supply halting end_rule trees auto begin) ends_row (end_rule_part endings end_rule) behind_restores)

  -- the fallback, where a match falls back from some state
  pub fallback_stands : any_falls halting 0 auto.states ≡ true → slice_get blocks fall ≡ Some (fallback_code (halting.falls 0) choices)
  fallback_stands some =
      let row = StandsFrom-front blocks fall fallback_row (restores_row ++ (ends_row ++ end_rule_part endings end_rule)) behind in
      (subst (λ t. StandsFrom blocks fall (kept t (fallback_code (halting.falls 0) choices ∷ []))) some row).0

  -- the end of each rule by which a match ends
  layout_ends : AreAgreed auto.states → (s : ℕ) (accept : Accept) → s < length auto.states → (state_of auto.states s).accept ≡ Some accept
      → (halting.halts s || is_saved halting (state_of auto.states s)) ≡ true
      → slice_get blocks (rules accept.rule) ≡ Some (ending_code endings accept.rule accept.values)
  layout_ends agreed s accept lt is ended =
      StandsFrom-get blocks (first_rule supply halting end_rule trees auto begin) (rule_place (ended_accepts halting auto.states) accept.rule) ends_row
      (ending_code endings accept.rule accept.values)
      (StandsFrom-front blocks (first_rule supply halting end_rule trees auto begin) ends_row (end_rule_part endings end_rule) behind_restores)
      (end_stands halting auto.states s accept lt is endings agreed ended)

  layout_restores : (s : ℕ) (accept : Accept) → s < length auto.states → is_saved halting (state_of auto.states s) ≡ true
      → (state_of auto.states s).accept ≡ Some accept
      → Restores supply halting endings greatest auto blocks place (number_in halting auto.states) rules fall choices s accept
  layout_restores s accept lt saved is =
      let has = has_rule-saved halting auto.states s accept lt is saved in
      let e : suc (rule_place saves accept.rule) ≡ 1 + rule_place saves accept.rule = omega arith in
      let front = StandsFrom-front blocks restore restores_row (ends_row ++ end_rule_part endings end_rule) behind_fallback in (
        restore + rule_place saves accept.rule,
        by halting.format (ap (λ o. chosen (halting.falls 0) choices (saved_number saves o)) is ∙ ap (λ n. chosen (halting.falls 0) choices n) e
            ∙ chosen-choices_from (halting.falls 0) 1 restore saves accept.rule has) has,
        StandsFrom-get blocks restore (rule_place saves accept.rule) restores_row (restore_code (rules accept.rule)) front
            (restore_stands rules saves accept.rule has),
      )
    where
      -- where the numbers are kept, by that of the state; where none is, the only choice is left
      on : (t : Bool) → (t ≡ false → (n : ℕ) → chosen (halting.falls 0) choices n ≡ Some (restore + rule_place saves accept.rule))
          → chosen (halting.falls 0) choices (saved_number saves (state_of auto.states s).accept) ≡ Some (restore + rule_place saves accept.rule)
          → (kept : ℕ)
          → HasNumber (saved_by (if t then Some (λ number. saved_number saves (state_of auto.states number).accept) else None) s) kept
          → chosen (halting.falls 0) choices kept ≡ Some (restore + rule_place saves accept.rule)
      on true any own kept is_kept = ap (λ n. chosen (halting.falls 0) choices n) is_kept ∙ own
      on false any own kept is_kept = any refl kept

      by : (format : Format) → chosen (halting.falls 0) choices (saved_number saves (state_of auto.states s).accept) ≡ Some (restore + rule_place saves accept.rule)
          → has_rule saves accept.rule ≡ true → (kept : ℕ)
          → HasNumber (saved_by (if keeps_numbers halting format saves then Some (λ number. saved_number saves (state_of auto.states number).accept) else None) s) kept
          → chosen (halting.falls 0) choices kept ≡ Some (restore + rule_place saves accept.rule)
      by Two own has = on true (λ e. absurd (true≢false e)) own
      by Three own has =
          on (halting.falls 0 || nat_lt 1 (length saves)) (λ e n. chosen-alone (halting.falls 0) 1 restore saves accept.rule n e has) own

  -- ---- the states

  abbrev own : ℕ → ℕ
  own s = begin_in supply halting end_rule trees auto 0 start auto.states s

  pub place_is : (s : ℕ) → s < length auto.states
      → place s ≡ place_by supply halting end_rule trees auto rules fall begin s (own s) (state_of auto.states s).edges (state_of auto.states s).accept
  place_is s lt =
      let e : 0 + s ≡ s = omega arith in
      place_in-begin supply halting end_rule trees auto rules fall begin 0 start auto.states s lt
      ∙ ap (λ n. place_by supply halting end_rule trees auto rules fall begin n (own s) (state_of auto.states s).edges (state_of auto.states s).accept) e

  pub state_stands : (s : ℕ) → s < length auto.states
      → StandsFrom blocks (own s) (state_blocks supply halting end_rule trees auto rules fall begin saves place s (own s) (state_of auto.states s))
  state_stands s lt =
      let e : 0 + s ≡ s = omega arith in
      subst (λ n. StandsFrom blocks (own s) (state_blocks supply halting end_rule trees auto rules fall begin saves place n (own s) (state_of auto.states s))) e
      (states_stand supply halting end_rule trees auto rules fall begin saves place blocks 0 start auto.states rest states_here s lt)

  module _ (formed : IsAuto auto) (within : All (λ (state : State). All (λ (edge : Edge). edge.hi ≤ greatest) state.edges) auto.states)
      (are : EachReader (PicksAs (top_of supply.eof greatest) supply.among) supply.eof greatest trees auto) (marked : AreHalting supply.eof end_rule greatest auto halting) where
    halts_right : (s : ℕ) → s < length auto.states → HaltsRight supply halting greatest end_rule auto s (state_of auto.states s)
    halts_right s lt = record {
      lone = λ none. (marked.halts s lt).1 (lone none);
      bare = λ unit le none. (marked.halts s lt).1 (bare unit le none);
      turned = λ some entered. (marked.halts s lt).1 (at_end some entered);
    }

    fell : (number : ℕ) → Falls supply.eof end_rule greatest auto number → (state_of auto.states number).accept ≡ None
    fell number (here s none halts) = none
    fell number (onward s edge none has falls) = none

    state_here : (s : ℕ) → s < length auto.states → is_entered end_rule auto s ≡ true
        → ServesState supply halting endings greatest auto blocks place (number_in halting auto.states) rules fall s (state_of auto.states s)
    state_here s lt entered =
        let e : 0 + s ≡ s = omega arith in
        state_serves supply halting endings greatest end_rule trees auto rules fall begin (number_in halting auto.states) saves place blocks s (own s)
        (state_of auto.states s) (number_in-kept halting auto.states s) (state_stands s lt) (place_is s lt) entered (state_formed auto s formed).apart
        (All-get_or (λ (state : State). All (λ (edge : Edge). edge.hi ≤ greatest) state.edges) auto.states s
        (record { edges = []; accept = None; leave = [] }) lt within)
        (subst (λ n. PicksAs (top_of supply.eof greatest) supply.among (reader_split supply.eof greatest (state_of auto.states s).edges) (trees (state n))) e
        (tree_at (PicksAs (top_of supply.eof greatest) supply.among) supply.eof greatest trees 0 auto.states are.states s lt)) (halts_right s lt)

    leads_on : (s : ℕ) (edge : Edge) → s < length auto.states → Contains (state_of auto.states s).edges edge → edge.to < length auto.states
    leads_on s edge lt has = leads_in auto.regs auto.mregs (length auto.states) (state_of auto.states s).edges (state_formed auto s formed).lead has.0 has.1 edge has.2

    pub layout_serves : AreAgreed auto.states → Serves supply halting endings greatest auto blocks place (number_in halting auto.states) rules fall end_rule
    layout_serves agreed = record {
      states = λ s lt entered. state_here s lt entered;
      falls = λ s lt none halts. (marked.falls s lt).1 (here s none ((marked.halts s lt).0 halts));
      onward = λ s edge lt none has falls.
          (marked.falls s lt).1 (onward s edge none has ((marked.falls edge.to (leads_on s edge lt has)).0 falls));
      bare = λ s lt falls. fell s ((marked.falls s lt).0 falls);
      choices = choices_from 1 (first_restore supply halting end_rule trees auto begin) (saved_accepts halting auto.states);
      fallback = λ s lt falls.
          fallback_stands (any_falls-one halting 0 auto.states s lt (let e : 0 + s ≡ s = omega arith in ap (λ n. halting.falls n) e ∙ falls));
      none = λ falls. ap (λ t. chosen t choices 0) falls ∙ chosen-below 1 restore 0 saves (omega arith);
      restores = λ s accept lt saved is. layout_restores s accept lt saved is;
      ends = λ s accept lt is ended. layout_ends agreed s accept lt is ended;
    }

    -- ---- the entry

    begins_first : (states : List State) → begin_in supply halting end_rule trees auto 0 start states 0 ≡ start
    begins_first [] = refl
    begins_first (given ∷ states) = refl

    -- to state 0 no other code stands, where no match comes to it
    never_entered : (rule : ℕ) → end_rule ≡ Some rule → is_entered (Some rule) auto 0 ≡ false → place 0 ≡ begin
    never_entered rule some never = place_is 0 formed.start ∙ by (state_of auto.states 0).edges refl
      where
        by : (edges : List Edge) → (state_of auto.states 0).edges ≡ edges
            → place_by supply halting end_rule trees auto rules fall begin 0 (own 0) edges (state_of auto.states 0).accept ≡ begin
        by [] none = absurd (true≢false (sym (entered-lone (Some rule) auto 0 none) ∙ never))
        by (edge ∷ edges) is = ap (λ t. if t then own 0 else begin) (ap (λ o. is_entered o auto 0) some ∙ never)

    end_there : (given : Option ℕ) (rule : ℕ) → given ≡ Some rule → StandsFrom blocks (end_rule_block supply halting end_rule trees auto begin) (end_rule_part endings given)
        → slice_get blocks (end_rule_block supply halting end_rule trees auto begin) ≡ Some (ending_code endings rule [])
    end_there None rule is h = absurd (cc)
    end_there (Some other) rule is h = let same : other ≡ rule = cc in h.0 ∙ ap (λ n. Some (ending_code endings n [])) same

    pub layout_entered : (IsSome end_rule → IsSome supply.eof)
        → ServesEntry supply halting endings greatest auto blocks place (number_in halting auto.states) rules fall end_rule
        (entry_by supply halting end_rule trees auto begin end_rule)
    layout_entered some = by end_rule refl
      where
        apart : (rule : ℕ) → end_rule ≡ Some rule → (eof : ℕ) → supply.eof ≡ Some eof
            → ServesEntry supply halting endings greatest auto blocks place (number_in halting auto.states) rules fall (Some rule) begin
        apart rule is eof is_eof =
            let given : State = state_of auto.states 0 in
            let here : own 0 ≡ start = begins_first auto.states in
            let row : StandsFrom blocks begin (entry_part supply halting end_rule trees auto begin (Some rule)) =
            subst (λ o. StandsFrom blocks begin (entry_part supply halting end_rule trees auto begin o)) is
            (StandsFrom-front blocks begin entry_row (states_part supply halting end_rule trees auto begin ++ rest) stands) in
            let stand : WaysStand supply halting endings greatest end_rule trees auto rules fall begin (number_in halting auto.states) saves place blocks 0 start
            (state_of auto.states 0) =
            subst (λ n. WaysStand supply halting endings greatest end_rule trees auto rules fall begin (number_in halting auto.states) saves place blocks 0 n
            (state_of auto.states 0)) here
            (ways supply halting endings greatest end_rule trees auto rules fall begin (number_in halting auto.states) saves place blocks 0 (own 0)
            (state_of auto.states 0) (number_in-kept halting auto.states 0) (state_stands 0 formed.start) rule is) in
            let block_of : Option ℕ → ℕ = entry_way supply halting end_rule trees auto rules fall begin start (state_of auto.states 0) in
            let tests : List (List Stmt) = reader_blocks supply.stored entry supply.eof 0 begin (with_blocks block_of (trees entry)) in
            let turn : List (List Stmt) = at_end_blocks supply entry begin (begin + entry_tests_size supply halting end_rule trees auto)
            (state_to supply halting end_rule trees auto rules fall begin 0 start (state_of auto.states 0)) (end_rule_block supply halting end_rule trees auto begin) in
            let size = length-reader_blocks supply.stored entry supply.eof 0 begin (with_blocks block_of (trees entry))
            ∙ reader_size-with_blocks block_of supply.eof 0 (trees entry) in (
              never_entered rule is,
              entry_serves supply halting endings greatest end_rule trees auto rules fall begin (number_in halting auto.states) saves place blocks start
                  (state_of auto.states 0) stand rule (end_rule_block supply halting end_rule trees auto begin) eof is_eof (state_formed auto 0 formed).apart are.entry (halts_right 0 formed.start) (end_there end_rule rule is behind_ends) (StandsFrom-front blocks begin tests turn row)
                  (subst (λ n. StandsFrom blocks (begin + n) turn) size (StandsFrom-back blocks begin tests turn row)),
            )

        by_eof : (rule : ℕ) → end_rule ≡ Some rule → (eof : Option ℕ) → supply.eof ≡ eof
            → ServesEntry supply halting endings greatest auto blocks place (number_in halting auto.states) rules fall (Some rule) begin
        by_eof rule is None none =
            let there : IsSome {T = ℕ} None = subst (λ o. IsSome o) none (some (subst (λ o. IsSome o) (sym is) refl)) in absurd (cc)
        by_eof rule is (Some eof) is_eof = apart rule is eof is_eof

        by : (given : Option ℕ) → end_rule ≡ given
            → ServesEntry supply halting endings greatest auto blocks place (number_in halting auto.states) rules fall given
            (entry_by supply halting end_rule trees auto begin given)
        by None is = refl
        by (Some rule) is = by_eof rule is supply.eof refl
