-- In a layout with a supply of units, where the entry is of a closed sort of blocks, so are the places of all states that are met.
use Rattle.std.specs.Prelude.{◌≡◌, ℕ, ◌+◌, ◌<◌, ◌≤◌, Bool, true, false, All, Contains, IsSome, List, [], ◌∷◌, ◌++◌, length, Option, Some, None, ◌||◌, nat_eq, refl, if◌then◌else◌}
use Rattle.std.proofs.Common.{sym, ap, ◌∙◌, subst, arith, eqb-true}
use Rattle.std.proofs.lemmas.List.Elements.{All-get_or}
use Rattle.std.specs.List.{list_any}
use Rattle.lx_auto.specs.Automaton.{AreApartFrom, IsAuto, edge_on, state_of}
use Rattle.lx_auto.specs.Points.{IsReached, Point, begins, goes_on}
use Rattle.lx_auto.specs.declared.automaton.Accept.{Accept}
use Rattle.lx_auto.specs.declared.automaton.Auto.{Auto}
use Rattle.lx_auto.specs.declared.automaton.Edge.{Edge}
use Rattle.lx_auto.specs.declared.automaton.State.{State}
use Rattle.lx_auto.proofs.States.{edge_on-leads, state_formed}
use Rattle.lx_ccode.specs.declared.piece.Stmt.{Stmt}
use Rattle.lx_dispatch.specs.Dispatch.{top_of}
use Rattle.lx_dispatch.specs.TestTrees.{PicksAs, TestTree}
use Rattle.lx_dispatch.specs.UnitApart.{reader_split}
use Rattle.lx_layout.specs.Endings.{Ending}
use Rattle.lx_layout.specs.Halting.{AreHalting, Halting, Halts, at_end, bare, is_entered, is_led_to, lone, saved_accepts}
use Rattle.lx_layout.specs.Layout.{StandsFrom, end_block, lone_blocks, lone_place}
use Rattle.lx_layout.specs.LiveBlocks.{HasMetStates}
use Rattle.lx_layout.specs.SuppliedLayout.{EachReader, blocks_by, end_rule_block, entry_by, entry_of, entry_part, fall_block, lone_number, number_in, own_end, place_by, place_of, rule_block, state_blocks, state_end, states_begin, states_part, supplied_layout}
use Rattle.lx_layout.specs.Supplies.{Reader, Supply, state}
use Rattle.lx_layout.proofs.BlockLayouts.CodesInBlocks.{StandsFrom-front}
use Rattle.lx_layout.proofs.LiveBlocks.FoundStates.{any_found, state_found}
use Rattle.lx_layout.proofs.LiveBlocks.LedClasses.{first_unit}
use Rattle.lx_layout.proofs.LiveBlocks.LedEnds.{IsEndLed, lone_led}
use Rattle.lx_layout.proofs.LiveBlocks.LedEntries.{entry_led}
use Rattle.lx_layout.proofs.LiveBlocks.LedReaders.{IsClosed}
use Rattle.lx_layout.proofs.LiveBlocks.LedStates.{IsLedState, blocks_led, end_led, entered_led, never_led}
use Rattle.lx_layout.proofs.LiveBlocks.LedTrees.{AllFrom}
use Rattle.lx_layout.proofs.LiveBlocks.LedWays.{AreLed, bare_led, target_led}
use Rattle.lx_layout.proofs.Supplied.EnteredStates.{entered-edge, entered-lone}
use Rattle.lx_layout.proofs.SuppliedLayouts.LayoutServes.{place_is, rest, state_stands}
use Rattle.lx_layout.proofs.SuppliedLayouts.Places.{begin_in, tree_at}
use Rattle.lx_layout.proofs.SuppliedLayouts.StatesServe.{WaysStand, number_in-kept, ways_stand}

module _ (R : ℕ → Type 0) (blocks : List (List Stmt)) (closed : IsClosed R blocks) (supply : Supply) (halting : Halting)
    (endings : ℕ → Ending)
    (end_rule : Option ℕ) (greatest : ℕ) (trees : Reader → TestTree (Option ℕ)) (auto : Auto) (begin : ℕ)
    (stands : StandsFrom blocks begin (supplied_layout supply halting endings end_rule trees auto begin)) (formed : IsAuto auto)
    (within : All (λ (state : State). All (λ (edge : Edge). edge.hi ≤ greatest) state.edges) auto.states)
    (are : EachReader (PicksAs (top_of supply.eof greatest) supply.among) supply.eof greatest trees auto)
    (some_unit : IsSome end_rule → IsSome supply.eof) (enters : R (entry_of supply halting end_rule trees auto begin)) where
  abbrev saves : List Accept
  saves = saved_accepts halting auto.states

  abbrev rules : ℕ → ℕ
  rules = rule_block supply halting end_rule trees auto begin

  abbrev fall : ℕ
  fall = fall_block supply halting end_rule trees auto begin

  abbrev place : ℕ → ℕ
  place = place_of supply halting end_rule trees auto begin

  abbrev start : ℕ
  start = states_begin supply halting end_rule trees auto begin

  abbrev given : ℕ → State
  given s = state_of auto.states s

  abbrev own : ℕ → ℕ
  own s = begin_in supply halting end_rule trees auto 0 start auto.states s

  apart_at : (s : ℕ) → AreApartFrom 0 (given s).edges
  apart_at s = (state_formed auto s formed).apart

  within_at : (s : ℕ) → s < length auto.states → All (λ (edge : Edge). edge.hi ≤ greatest) (given s).edges
  within_at s lt =
      All-get_or (λ (state : State). All (λ (edge : Edge). edge.hi ≤ greatest) state.edges) auto.states s
      (record { edges = []; accept = None; leave = [] }) lt within

  picks_at : (s : ℕ) → s < length auto.states
      → PicksAs (top_of supply.eof greatest) supply.among (reader_split supply.eof greatest (given s).edges) (trees (state s))
  picks_at s lt =
      let e : 0 + s ≡ s = omega arith in
      subst (λ n. PicksAs (top_of supply.eof greatest) supply.among (reader_split supply.eof greatest (given s).edges) (trees (state n))) e
      (tree_at (PicksAs (top_of supply.eof greatest) supply.among) supply.eof greatest trees 0 auto.states are.states s lt)

  -- the blocks of a state with an edge stand
  row_at : (s : ℕ) → s < length auto.states → (edge : Edge) (edges : List Edge) → (given s).edges ≡ edge ∷ edges
      → StandsFrom blocks (own s)
      (blocks_by supply halting end_rule trees auto rules fall begin saves place s (own s) (given s) (edge ∷ edges))
  row_at s lt edge edges some =
      subst (λ l. StandsFrom blocks (own s)
      (blocks_by supply halting end_rule trees auto rules fall begin saves place s (own s) (given s) l)) some
      (state_stands supply halting endings end_rule greatest trees auto begin blocks stands s lt)

  stand_at : (s : ℕ) → s < length auto.states → (edge : Edge) (edges : List Edge) → (given s).edges ≡ edge ∷ edges
      → WaysStand supply halting endings greatest end_rule trees auto rules fall begin (number_in halting auto.states) saves place blocks s
      (own s) (given s)
  stand_at s lt edge edges some =
      ways_stand supply halting endings greatest end_rule trees auto rules fall begin (number_in halting auto.states) saves place blocks s
      (own s) (given s)
      edge edges some (row_at s lt edge edges some) (number_in-kept halting auto.states s)

  -- the state leads to what a match may meet in it: its units lead to blocks of the sort, or it has no edge and stands at one
  abbrev pub IsCome : (s : ℕ) → List Edge → Type 0
  IsCome s [] = R (place_of supply halting end_rule trees auto begin s)
  IsCome s (edge ∷ edges) =
      AreLed R supply halting end_rule trees auto (rule_block supply halting end_rule trees auto begin)
      (fall_block supply halting end_rule trees auto begin) begin
      greatest s (begin_in supply halting end_rule trees auto 0 (states_begin supply halting end_rule trees auto begin) auto.states s)
      (state_of auto.states s)

  abbrev IsLed : (s : ℕ) → (edge : Edge) (edges : List Edge) → (some : (given s).edges ≡ edge ∷ edges) → (lt : s < length auto.states)
      → Type 0
  IsLed s edge edges some lt =
      IsLedState R blocks closed supply halting endings greatest end_rule trees auto rules fall begin
      (number_in halting auto.states) saves place s (own s)
      (given s) edge edges some (apart_at s) (within_at s lt) (row_at s lt edge edges some)

  read_led : (s : ℕ) (lt : s < length auto.states) → is_entered end_rule auto s ≡ true → R (place s) → (edge : Edge) (edges : List Edge)
      → (some : (given s).edges ≡ edge ∷ edges) → IsLed s edge edges some lt
  read_led s lt entered led edge edges some =
      let at : place s ≡ own s =
      place_is supply halting endings end_rule greatest trees auto begin blocks stands s lt
      ∙ ap (λ l. place_by supply halting end_rule trees auto rules fall begin s (own s) l (given s).accept) some
      ∙ ap (λ t. if t then own s else begin) entered in
      entered_led R blocks closed supply halting endings greatest end_rule trees auto rules fall begin
      (number_in halting auto.states) saves place s (own s)
      (given s) edge edges some (apart_at s) (within_at s lt) (row_at s lt edge edges some) entered (picks_at s lt) (subst R at led)

  read_come : (s : ℕ) → s < length auto.states → is_entered end_rule auto s ≡ true → R (place s) → IsCome s (given s).edges
  read_come s lt entered led = by (given s).edges refl
    where
      by : (edges : List Edge) → (given s).edges ≡ edges → IsCome s edges
      by [] none = led
      by (edge ∷ edges) some = (read_led s lt entered led edge edges some).ways

  -- each edge leads on
  step_led : (s : ℕ) → s < length auto.states → IsCome s (given s).edges → (edge : Edge) → Contains (given s).edges edge → R (place edge.to)
  step_led s lt come edge has = by (given s).edges refl come
    where
      by : (edges : List Edge) → (given s).edges ≡ edges → IsCome s edges → R (place edge.to)
      by [] none come =
          let none_has : Contains [] edge = subst (λ l. Contains l edge) none has in
          let lt = none_has.1 in absurd (omega (arith, lt))
      by (first ∷ edges) some come =
          target_led R supply halting end_rule trees auto rules fall begin greatest s (own s) (given s) come (apart_at s)
          (within_at s lt) saves place blocks closed
          (stand_at s lt first edges some).classes edge has

  pub step_within : (s : ℕ) (edge : Edge) → Contains (given s).edges edge → edge.to < length auto.states
  step_within s edge has =
      (edge_on-leads auto.regs auto.mregs (length auto.states) (given s).edges edge.lo edge (state_formed auto s formed).lead
      (first_unit (given s).edges edge (apart_at s) has).1).0

  step_entered : (s : ℕ) → s < length auto.states → (edge : Edge) → Contains (given s).edges edge → is_entered end_rule auto edge.to ≡ true
  step_entered s lt edge has = entered-edge end_rule auto s edge.lo edge lt (first_unit (given s).edges edge (apart_at s) has).1

  -- ---- the entry

  own_first : (states : List State) → begin_in supply halting end_rule trees auto 0 start states 0 ≡ start
  own_first [] = refl
  own_first (first ∷ states) = refl

  -- where it stands apart: its blocks, and where it leads
  pub record IsApartLed : Type 0 where
    pub all : AllFrom R begin (entry_part supply halting end_rule trees auto begin end_rule)
    pub come : IsCome 0 (state_of auto.states 0).edges
    pub end : R (end_rule_block supply halting end_rule trees auto begin)

  begins_apart : (rule : ℕ) → end_rule ≡ Some rule → R begin
  begins_apart rule is = subst (λ o. R (entry_by supply halting end_rule trees auto begin o)) is enters

  pub apart_led : (rule : ℕ) → end_rule ≡ Some rule → IsApartLed
  apart_led rule is = by supply.eof refl
    where
      end : ℕ
      end = end_rule_block supply halting end_rule trees auto begin

      row : StandsFrom blocks begin (entry_part supply halting end_rule trees auto begin (Some rule))
      row =
          subst (λ o. StandsFrom blocks begin (entry_part supply halting end_rule trees auto begin o)) is
          (StandsFrom-front blocks begin (entry_part supply halting end_rule trees auto begin end_rule)
          (states_part supply halting end_rule trees auto begin ++ rest supply halting endings end_rule greatest trees auto begin blocks
          stands) stands)

      come_of : AreLed R supply halting end_rule trees auto rules fall begin greatest 0 start (given 0) → IsCome 0 (given 0).edges
      come_of ways = choose (given 0).edges refl
        where
          choose : (edges : List Edge) → (given 0).edges ≡ edges → IsCome 0 edges
          choose [] none =
              let ended = bare_led R supply halting end_rule trees auto rules fall begin greatest 0 start (given 0) ways 0 (omega arith)
              (ap (λ l. edge_on l 0) none) in
              let at : place 0 ≡ end_block auto rules fall start (given 0).accept =
              place_is supply halting endings end_rule greatest trees auto begin blocks stands 0 formed.start
              ∙ ap (λ l. place_by supply halting end_rule trees auto rules fall begin 0 (own 0) l (given 0).accept) none
              ∙ ap (λ o. lone_place auto rules fall (lone_number o 0) (own 0) (given 0).accept) is
              ∙ ap (λ n. end_block auto rules fall n (given 0).accept) (own_first auto.states) in
              subst R (ap (λ l. end_block auto rules fall (own_end supply halting end_rule trees auto 0 start l) (given 0).accept) none
              ∙ sym at) ended
          choose (edge ∷ edges) some =
              subst (λ n. AreLed R supply halting end_rule trees auto rules fall begin greatest 0 n (given 0))
              (sym (own_first auto.states)) ways

      led : (eof : ℕ) → supply.eof ≡ Some eof → IsApartLed
      led eof at =
          let entered =
          entry_led R blocks closed supply halting greatest end_rule trees auto rules fall begin end start (given 0) eof at
          (apart_at 0) are.entry
          (begins_apart rule is) row in
          record {
            all = subst (λ o. AllFrom R begin (entry_part supply halting end_rule trees auto begin o)) (sym is) entered.all;
            come = come_of entered.ways;
            end = entered.end_led;
          }

      by : (eof : Option ℕ) → supply.eof ≡ eof → IsApartLed
      by None none =
          let there : IsSome {T = ℕ} None = subst (λ o. IsSome o) none (some_unit (subst (λ o. IsSome o) (sym is) refl)) in absurd (cc)
      by (Some eof) at = led eof at

  -- ---- the walks

  start_come : IsCome 0 (given 0).edges
  start_come = by end_rule refl
    where
      by : (o : Option ℕ) → end_rule ≡ o → IsCome 0 (given 0).edges
      by None is =
          read_come 0 formed.start (ap (λ o. is_entered o auto 0) is)
          (subst (λ o. R (entry_by supply halting end_rule trees auto begin o)) is enters)
      by (Some rule) is = (apart_led rule is).come

  came : (point : Point) → IsReached auto point → (point.state < length auto.states) × IsCome point.state (given point.state).edges
  came point (begins) = (formed.start, start_come)
  came point (goes_on before edge reached has) =
      let come = came before reached in
      let lt : edge.to < length auto.states = step_within before.state edge has in
      (lt, read_come edge.to lt (step_entered before.state come.0 edge has) (step_led before.state come.0 come.1 edge has))

  module _ (met : HasMetStates auto) where
    come_at : (s : ℕ) → s < length auto.states → IsCome s (given s).edges
    come_at s lt = (came (record { state = s; left = (met s lt).0 }) (met s lt).1).1

    -- an edge leads to state 0
    led_to : is_led_to auto.states 0 ≡ true → R (place 0)
    led_to led =
        let from = state_found (λ (state : State). list_any (λ (edge : Edge). nat_eq edge.to 0) state.edges) auto.states led in
        let found = any_found (λ (edge : Edge). nat_eq edge.to 0) (given from.0).edges from.2 in
        let zeroth : found.0.to ≡ 0 = eqb-true found.0.to 0 found.2 in
        subst (λ n. R (place n)) zeroth (step_led from.0 from.1 (come_at from.0 from.1) found.0 found.1)

    start_placed : is_entered end_rule auto 0 ≡ true → R (place 0)
    start_placed entered = by end_rule refl
      where
        apart : (rule : ℕ) → end_rule ≡ Some rule → (edges : List Edge) → (given 0).edges ≡ edges → R (place 0)
        apart rule is [] none = subst (λ l. IsCome 0 l) none (apart_led rule is).come
        apart rule is (edge ∷ edges) some =
            choose (nat_eq (length (edge ∷ edges)) 0) refl
            (ap (λ (l : List Edge). nat_eq (length l) 0 || is_led_to auto.states 0) (sym some) ∙ ap (λ o. is_entered o auto 0) (sym is)
            ∙ entered)
          where
            choose : (t : Bool) → nat_eq (length (edge ∷ edges)) 0 ≡ t → (t || is_led_to auto.states 0) ≡ true → R (place 0)
            choose true e h = let z : length (edge ∷ edges) ≡ 0 = eqb-true (length (edge ∷ edges)) 0 e in absurd (omega (arith, z))
            choose false e h = led_to h

        by : (o : Option ℕ) → end_rule ≡ o → R (place 0)
        by None is = subst (λ o. R (entry_by supply halting end_rule trees auto begin o)) is enters
        by (Some rule) is = apart rule is (given 0).edges refl

    reached_placed : (point : Point) → IsReached auto point → is_entered end_rule auto point.state ≡ true → R (place point.state)
    reached_placed point (begins) entered = start_placed entered
    reached_placed point (goes_on before edge reached has) entered =
        let come = came before reached in step_led before.state come.0 come.1 edge has

    -- the place of each state to whose code a match comes
    pub placed : (s : ℕ) → s < length auto.states → is_entered end_rule auto s ≡ true → R (place s)
    placed s lt entered = reached_placed (record { state = s; left = (met s lt).0 }) (met s lt).1 entered

    -- ---- the blocks of each state

    led_at : (s : ℕ) (lt : s < length auto.states) (edge : Edge) (edges : List Edge) (some : (given s).edges ≡ edge ∷ edges)
        → IsLed s edge edges some lt
    led_at s lt edge edges some = by (is_entered end_rule auto s) refl
      where
        by : (t : Bool) → is_entered end_rule auto s ≡ t → IsLed s edge edges some lt
        by true e = read_led s lt e (placed s lt e) edge edges some
        by false e =
            never_led R blocks closed supply halting endings greatest end_rule trees auto rules fall begin
            (number_in halting auto.states) saves place s (own s)
            (given s) edge edges some (apart_at s) (within_at s lt) (row_at s lt edge edges some) e
            (subst (λ l. IsCome s l) some (come_at s lt))

    module _ (marked : AreHalting supply.eof end_rule greatest auto halting) where
      ends_at : (s : ℕ) (lt : s < length auto.states) (edge : Edge) (edges : List Edge) (some : (given s).edges ≡ edge ∷ edges)
          → halting.halts s ≡ true
          → R (state_end supply halting end_rule trees auto rules fall begin s (own s) (given s))
      ends_at s lt edge edges some halts = by ((marked.halts s lt).0 halts)
        where
          by : Halts supply.eof end_rule greatest auto s
              → R (state_end supply halting end_rule trees auto rules fall begin s (own s) (given s))
          by (lone none) = absurd (let e = sym some ∙ none in cc)
          by (bare unit le none) =
              bare_led R supply halting end_rule trees auto rules fall begin greatest s (own s) (given s)
              (led_at s lt edge edges some).ways unit le none
          by (at_end there entered) = (led_at s lt edge edges some).turned there entered

      -- all of them are led to; and where a match can end in the state, so is what comes then
      pub state_led : (s : ℕ) → s < length auto.states
          → AllFrom R (own s) (state_blocks supply halting end_rule trees auto rules fall begin saves place s (own s) (given s))
          × (halting.halts s ≡ true → IsEndLed R blocks closed auto rules fall (given s).accept)
      state_led s lt = by (given s).edges refl
        where
          by : (edges : List Edge) → (given s).edges ≡ edges
              → AllFrom R (own s) (blocks_by supply halting end_rule trees auto rules fall begin saves place s (own s) (given s) edges)
              × (halting.halts s ≡ true → IsEndLed R blocks closed auto rules fall (given s).accept)
          by [] none =
              let at : place s ≡ lone_place auto rules fall (lone_number end_rule s) (own s) (given s).accept =
              place_is supply halting endings end_rule greatest trees auto begin blocks stands s lt
              ∙ ap (λ l. place_by supply halting end_rule trees auto rules fall begin s (own s) l (given s).accept) none in
              let row : StandsFrom blocks (own s) (lone_blocks auto rules fall (lone_number end_rule s) (given s).accept) =
              subst (λ l. StandsFrom blocks (own s)
              (blocks_by supply halting end_rule trees auto rules fall begin saves place s (own s) (given s) l)) none
              (state_stands supply halting endings end_rule greatest trees auto begin blocks stands s lt) in
              let led = lone_led R blocks closed auto rules fall (lone_number end_rule s) (own s) (given s).accept
              (subst R at (placed s lt (entered-lone end_rule auto s none))) row in
              (led.0, λ halts. led.1)
          by (edge ∷ edges) some = (
            blocks_led R blocks closed supply halting endings greatest end_rule trees auto rules fall begin
                (number_in halting auto.states) saves place s
                (own s) (given s) edge edges some (apart_at s) (within_at s lt) (row_at s lt edge edges some)
                (stand_at s lt edge edges some)
                (led_at s lt edge edges some) (ends_at s lt edge edges some),
            λ halts.
                (end_led R blocks closed supply halting endings greatest end_rule trees auto rules fall begin
                (number_in halting auto.states) saves place s
                (own s) (given s) edge edges some (apart_at s) (within_at s lt) (row_at s lt edge edges some)
                (stand_at s lt edge edges some)
                (led_at s lt edge edges some) (ends_at s lt edge edges some) halts).1,
          )
