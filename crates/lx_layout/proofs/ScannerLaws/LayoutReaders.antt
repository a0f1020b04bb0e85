-- What reads units in a layout: the states with edges to which a match comes, and the entry where it stands apart; and where their blocks stand.
use Rattle.std.specs.Prelude.{◌≡◌, ℕ, ◌+◌, ◌<◌, true, List, [], ◌∷◌, ◌++◌, length, Option, Some, refl}
use Rattle.std.proofs.Common.{◌∙◌, subst}
use Rattle.lx_auto.specs.Automaton.{IsAuto, state_of}
use Rattle.lx_auto.specs.declared.automaton.Accept.{Accept}
use Rattle.lx_auto.specs.declared.automaton.Auto.{Auto}
use Rattle.lx_auto.specs.declared.automaton.Edge.{Edge}
use Rattle.lx_auto.specs.declared.automaton.State.{State}
use Rattle.lx_ccode.specs.declared.piece.Stmt.{Stmt}
use Rattle.lx_layout.specs.Endings.{Ending}
use Rattle.lx_layout.specs.Halting.{Halting, is_entered, saved_accepts}
use Rattle.lx_layout.specs.Layout.{StandsFrom}
use Rattle.lx_layout.specs.SuppliedLayout.{at_end_blocks, blocks_by, end_rule_block, entry_part, entry_tests_size, entry_way, fall_block, kept, number_in, place_of, reader_blocks, rule_block, state_end, state_to, state_way, states_begin, states_part, supplied_layout, turn_begin, with_blocks}
use Rattle.lx_layout.specs.Supplies.{Reader, Supply, entry, state}
use Rattle.lx_dispatch.specs.TestTrees.{TestTree}
use Rattle.lx_layout.proofs.BlockLayouts.CodesInBlocks.{StandsFrom-back, StandsFrom-front}
use Rattle.lx_layout.proofs.SuppliedLayouts.LayoutServes.{rest, state_stands}
use Rattle.lx_layout.proofs.SuppliedLayouts.Places.{begin_in}
use Rattle.lx_layout.proofs.SuppliedLayouts.Readers.{length-reader_blocks, reader_size-with_blocks}
use Rattle.lx_layout.proofs.SuppliedLayouts.StatesServe.{WaysStand, tests_stand, turn_stands, ways, ways_stand, number_in-kept}

module _ (supply : Supply) (halting : Halting) (endings : ℕ → Ending) (end_rule : Option ℕ) (greatest : ℕ) (trees : Reader → TestTree (Option ℕ)) (auto : Auto)
    (begin : ℕ) (blocks : List (List Stmt)) where
  abbrev rules : ℕ → ℕ
  rules = rule_block supply halting end_rule trees auto begin

  abbrev fall : ℕ
  fall = fall_block supply halting end_rule trees auto begin

  abbrev place : ℕ → ℕ
  place = place_of supply halting end_rule trees auto begin

  abbrev start : ℕ
  start = states_begin supply halting end_rule trees auto begin

  abbrev saves : List Accept
  saves = saved_accepts halting auto.states

  -- where the blocks of a state begin
  abbrev pub own : ℕ → ℕ
  own s = begin_in supply halting end_rule trees auto 0 start auto.states s

  abbrev given : ℕ → State
  given s = state_of auto.states s

  abbrev pub IsReader : Reader → Type 0
  IsReader (entry) = (rule : ℕ) × (end_rule ≡ Some rule)
  IsReader (state s) = (s < length auto.states) × ((state_of auto.states s).edges ≡ [] → ⊥) × (is_entered end_rule auto s ≡ true)

  -- how many units it checks for; where its own blocks begin, and those for the end of the input; the blocks of its ways; its tests; where a
  -- unit leads; and where a match ends
  abbrev pub reader_units : Reader → ℕ
  reader_units (entry) = 0
  reader_units (state s) = supply.check s

  abbrev pub reader_home : Reader → ℕ
  reader_home (entry) = begin
  reader_home (state s) = own s

  abbrev pub reader_here : Reader → ℕ
  reader_here (entry) = begin + entry_tests_size supply halting end_rule trees auto
  reader_here (state s) = turn_begin supply halting end_rule trees auto s (own s) (given s).edges

  abbrev pub reader_ways : Reader → Option ℕ → ℕ
  reader_ways (entry) class = entry_way supply halting end_rule trees auto rules fall begin start (given 0) class
  reader_ways (state s) class = state_way supply halting end_rule trees auto rules fall begin s (own s) (given s) class

  abbrev pub reader_tree : Reader → TestTree ℕ
  reader_tree reader = with_blocks (reader_ways reader) (trees reader)

  abbrev pub reader_to : Reader → ℕ → ℕ
  reader_to (entry) unit = state_to supply halting end_rule trees auto rules fall begin 0 start (given 0) unit
  reader_to (state s) unit = state_to supply halting end_rule trees auto rules fall begin s (own s) (given s) unit

  abbrev pub reader_end : Reader → ℕ
  reader_end (entry) = end_rule_block supply halting end_rule trees auto begin
  reader_end (state s) = state_end supply halting end_rule trees auto rules fall begin s (own s) (given s)

  -- ---- where these stand

  abbrev pub StandWays : (s from : ℕ) → Type 0
  StandWays s from = WaysStand supply halting endings greatest end_rule trees auto rules fall begin (number_in halting auto.states) saves place blocks s from (given s)

  pub record ReaderStands (reader : Reader) : Type 0 where
    pub row : StandsFrom blocks (reader_home reader) (reader_blocks supply.stored reader supply.eof (reader_units reader) (reader_home reader) (reader_tree reader))
    pub turn : StandsFrom blocks (reader_here reader)
        (at_end_blocks supply reader (reader_home reader) (reader_here reader) (reader_to reader) (reader_end reader))

  module _ (formed : IsAuto auto) (stands : StandsFrom blocks begin (supplied_layout supply halting endings end_rule trees auto begin)) where
    pub state_ways_stand : (s : ℕ) → s < length auto.states → ((state_of auto.states s).edges ≡ [] → ⊥) → StandWays s (own s)
    state_ways_stand s lt some = by (state_of auto.states s).edges refl (state_stands supply halting endings end_rule greatest trees auto begin blocks stands s lt)
      where
        by : (edges : List Edge) → (state_of auto.states s).edges ≡ edges
            → StandsFrom blocks (own s) (blocks_by supply halting end_rule trees auto rules fall begin saves place s (own s) (state_of auto.states s) edges)
            → StandWays s (own s)
        by [] none h = absurd (some none)
        by (edge ∷ edges) is h =
            ways_stand supply halting endings greatest end_rule trees auto rules fall begin (number_in halting auto.states) saves place blocks s (own s)
            (state_of auto.states s) edge edges is h (number_in-kept halting auto.states s)

    first_begins : (states : List State) → begin_in supply halting end_rule trees auto 0 start states 0 ≡ start
    first_begins [] = refl
    first_begins (first ∷ states) = refl

    pub entry_ways_stand : (rule : ℕ) → end_rule ≡ Some rule → StandWays 0 start
    entry_ways_stand rule is =
        subst (λ n. StandWays 0 n) (first_begins auto.states)
        (ways supply halting endings greatest end_rule trees auto rules fall begin (number_in halting auto.states) saves place blocks 0 (own 0)
        (state_of auto.states 0) (number_in-kept halting auto.states 0) (state_stands supply halting endings end_rule greatest trees auto begin blocks stands 0 formed.start) rule is)

    state_reader : (s : ℕ) → IsReader (state s) → ReaderStands (state s)
    state_reader s is = by (state_of auto.states s).edges refl (state_stands supply halting endings end_rule greatest trees auto begin blocks stands s is.0)
      where
        by : (edges : List Edge) → (state_of auto.states s).edges ≡ edges
            → StandsFrom blocks (own s) (blocks_by supply halting end_rule trees auto rules fall begin saves place s (own s) (state_of auto.states s) edges)
            → ReaderStands (state s)
        by [] none h = absurd (is.1 none)
        by (edge ∷ edges) some h = record {
          row = subst (λ t. StandsFrom blocks (own s) (kept t (reader_blocks supply.stored (state s) supply.eof (supply.check s) (own s) (reader_tree (state s))))) is.2
              (tests_stand supply halting endings greatest end_rule trees auto rules fall begin (number_in halting auto.states) saves place blocks s (own s)
              (state_of auto.states s) edge edges some h);
          turn = subst (λ t. StandsFrom blocks (reader_here (state s))
              (kept t (at_end_blocks supply (state s) (own s) (reader_here (state s)) (reader_to (state s)) (reader_end (state s))))) is.2
              (turn_stands supply halting endings greatest end_rule trees auto rules fall begin (number_in halting auto.states) saves place blocks s (own s)
              (state_of auto.states s) edge edges some h);
        }

    entry_reader : (rule : ℕ) → end_rule ≡ Some rule → ReaderStands (entry)
    entry_reader rule is =
        let row : StandsFrom blocks begin (entry_part supply halting end_rule trees auto begin (Some rule)) =
        subst (λ o. StandsFrom blocks begin (entry_part supply halting end_rule trees auto begin o)) is
        (StandsFrom-front blocks begin (entry_part supply halting end_rule trees auto begin end_rule)
        (states_part supply halting end_rule trees auto begin ++ rest supply halting endings end_rule greatest trees auto begin blocks stands) stands) in
        let tests : List (List Stmt) = reader_blocks supply.stored (entry) supply.eof 0 begin (reader_tree (entry)) in
        let turns : List (List Stmt) = at_end_blocks supply (entry) begin (reader_here (entry)) (reader_to (entry)) (reader_end (entry)) in
        let size = length-reader_blocks supply.stored (entry) supply.eof 0 begin (reader_tree (entry))
        ∙ reader_size-with_blocks (reader_ways (entry)) supply.eof 0 (trees (entry)) in
        record {
          row = StandsFrom-front blocks begin tests turns row;
          turn = subst (λ n. StandsFrom blocks (begin + n) turns) size (StandsFrom-back blocks begin tests turns row);
        }

    pub reader_stands : (reader : Reader) → IsReader reader → ReaderStands reader
    reader_stands (entry) is = entry_reader is.0 is.1
    reader_stands (state s) is = state_reader s is
