-- From the places of states and from the entry of a layout no unit is tested before one is read.
use Rattle.std.specs.Prelude.{◌≡◌, ◌≢◌, ◌⊎◌, ℕ, zero, suc, ◌+◌, ◌-◌, ◌<◌, ◌≤◌, Bool, true, false, List, [], ◌∷◌, length, Option, Some, None, IsSome, nat_eq, nat_lt, refl, if◌then◌else◌}
use Rattle.std.proofs.Common.{inl, inr, sym, ap, ◌∙◌, subst, arith}
use Rattle.std.proofs.lemmas.Bool.{eqb-false}
use Rattle.lx_auto.specs.Automaton.{IsAuto, state_of}
use Rattle.lx_auto.specs.declared.automaton.Accept.{Accept}
use Rattle.lx_auto.specs.declared.automaton.Auto.{Auto}
use Rattle.lx_auto.specs.declared.automaton.Edge.{Edge}
use Rattle.lx_auto.specs.declared.automaton.State.{State}
use Rattle.lx_auto.specs.declared.ops.Op.{Op}
use Rattle.lx_ccode.specs.States.{state_block, states_from}
use Rattle.lx_ccode.specs.Statements.{code_of}
use Rattle.lx_ccode.specs.Validity.{AreOnce}
use Rattle.lx_ccode.specs.declared.piece.Piece.{Piece}
use Rattle.lx_ccode.specs.declared.piece.Stmt.{Stmt}
use Rattle.lx_layout.specs.Endings.{Ending}
use Rattle.lx_layout.specs.Halting.{AreHalting, Halting, at_end, ended_accepts, halted_accept, is_entered, lone, saved_accepts}
use Rattle.lx_layout.specs.Layout.{StandsFrom, end_block, end_size, lone_place, lone_size, own_block, own_size}
use Rattle.lx_layout.specs.SuppliedLayout.{EachReader, blocks_by, classes_begin, end_of, end_rule_block, entry_tests_size, fall_block, lone_number, own_end, place_by, place_of, reader_size, rule_block, size_in, sized, state_end, state_size, state_way, states_begin, supplied_layout, tests_size, with_blocks}
use Rattle.lx_layout.specs.Supplies.{Reader, Supply, entry, state}
use Rattle.lx_dispatch.specs.TestTrees.{EachTest, TestTree, fork, leaf, switch, test}
use Rattle.lx_dispatch.specs.TransitionClasses.{transition_classes}
use Rattle.lx_layout.proofs.BlockLayouts.FirstAccepts.{rule_place-within}
use Rattle.lx_layout.proofs.ScannerLaws.CalmCodes.{At, UpAt, lower}
use Rattle.lx_layout.proofs.ScannerLaws.CalmEnds.{end_rule_calm, lone_calm, rest_calm}
use Rattle.lx_layout.proofs.ScannerLaws.CalmReaders.{back_calm, home_calm, turn_back, turn_calm}
use Rattle.lx_layout.proofs.ScannerLaws.CalmWays.{NoBlock, class_up, end_up, to_at, way_up}
use Rattle.lx_layout.proofs.ScannerLaws.FewSteps.{Backs}
use Rattle.lx_layout.proofs.ScannerLaws.TestSorts.{all_tests}
use Rattle.lx_layout.proofs.ScannerLaws.LayoutReaders.{IsReader, StandWays, entry_ways_stand, own, reader_end, reader_here, reader_home, reader_stands, reader_to, reader_tree, reader_units, reader_ways, state_ways_stand}
use Rattle.lx_layout.proofs.Supplied.EnteredStates.{behind_entry}
use Rattle.lx_layout.proofs.SuppliedLayouts.EachLayout.{IsWay, each-with_blocks, some_class}
use Rattle.lx_layout.proofs.SuppliedLayouts.HeldLayouts.{entry_leads, state_leads}
use Rattle.lx_layout.proofs.SuppliedLayouts.LayoutServes.{place_is, state_stands}
use Rattle.lx_layout.proofs.SuppliedLayouts.Places.{begin_in}
use Rattle.lx_layout.proofs.SuppliedLayouts.ReaderWays.{end_places}
use Rattle.lx_layout.proofs.SuppliedLayouts.LeadingTrees.{LeadsWithin}

-- ---- where the blocks of states begin, one behind another

module _ (supply : Supply) (halting : Halting) (end_rule : Option ℕ) (trees : Reader → TestTree (Option ℕ)) (auto : Auto) where
  begin_in-end : (s from : ℕ) (states : List State)
      → begin_in supply halting end_rule trees auto s from states (length states) ≡ end_of supply halting end_rule trees auto s from states
  begin_in-end s from [] = refl
  begin_in-end s from (first ∷ states) = begin_in-end (suc s) (from + state_size supply halting end_rule trees auto s first) states

  first_begins : (from : ℕ) (states : List State) → begin_in supply halting end_rule trees auto 0 from states 0 ≡ from
  first_begins from [] = refl
  first_begins from (first ∷ states) = refl

  begin_in-next : (s from : ℕ) (states : List State) (k : ℕ) → k < length states
      → begin_in supply halting end_rule trees auto s from states (suc k)
      ≡ begin_in supply halting end_rule trees auto s from states k + state_size supply halting end_rule trees auto (s + k) (state_of states k)
  begin_in-next s from [] k lt = absurd (omega (arith, lt))
  begin_in-next s from (first ∷ states) zero lt =
      let e : s ≡ s + 0 = omega arith in
      at_first states ∙ ap (λ j. from + state_size supply halting end_rule trees auto j first) e
    where
      at_first : (states : List State)
          → begin_in supply halting end_rule trees auto (suc s) (from + state_size supply halting end_rule trees auto s first) states 0
          ≡ from + state_size supply halting end_rule trees auto s first
      at_first [] = refl
      at_first (second ∷ states) = refl
  begin_in-next s from (first ∷ states) (suc k) lt =
      let e : suc s + k ≡ s + suc k = omega arith in
      let next : ℕ = begin_in supply halting end_rule trees auto (suc s) (from + state_size supply halting end_rule trees auto s first) states k in
      begin_in-next (suc s) (from + state_size supply halting end_rule trees auto s first) states k (omega (arith, lt))
      ∙ ap (λ j. next + state_size supply halting end_rule trees auto j (state_of states k)) e

-- ---- the layout

module _ (piece : Piece) (supply : Supply) (halting : Halting) (endings : ℕ → Ending) (end_rule : Option ℕ) (greatest : ℕ) (trees : Reader → TestTree (Option ℕ))
    (auto : Auto) (begin : ℕ) (formed : IsAuto auto) (are : EachReader LeadsWithin supply.eof greatest trees auto)
    (some : IsSome end_rule → IsSome supply.eof)
    (marked : AreHalting supply.eof end_rule greatest auto halting)
    (stands : StandsFrom (code_of piece.blocks) begin (supplied_layout supply halting endings end_rule trees auto begin))
    (stored : (supply.stored ≡ None) ⊎ AreOnce (states_from 0 piece.blocks)) where
  abbrev blocks : List (List Stmt)
  blocks = code_of piece.blocks

  abbrev place : ℕ → ℕ
  place = place_of supply halting end_rule trees auto begin

  abbrev start : ℕ
  start = states_begin supply halting end_rule trees auto begin

  abbrev given : ℕ → State
  given s = state_of auto.states s

  abbrev pub Is : Reader → Type 0
  Is reader = IsReader supply halting endings end_rule greatest trees auto begin (code_of piece.blocks) reader

  abbrev pub home_of : Reader → ℕ
  home_of reader = reader_home supply halting endings end_rule greatest trees auto begin (code_of piece.blocks) reader

  abbrev pub here_of : Reader → ℕ
  here_of reader = reader_here supply halting endings end_rule greatest trees auto begin (code_of piece.blocks) reader

  abbrev pub units_of : Reader → ℕ
  units_of reader = reader_units supply halting endings end_rule greatest trees auto begin (code_of piece.blocks) reader

  abbrev pub ways_of : Reader → Option ℕ → ℕ
  ways_of reader class = reader_ways supply halting endings end_rule greatest trees auto begin (code_of piece.blocks) reader class

  abbrev pub tree_of : Reader → TestTree ℕ
  tree_of reader = reader_tree supply halting endings end_rule greatest trees auto begin (code_of piece.blocks) reader

  abbrev pub to_of : Reader → ℕ → ℕ
  to_of reader unit = reader_to supply halting endings end_rule greatest trees auto begin (code_of piece.blocks) reader unit

  abbrev pub stop_of : Reader → ℕ
  stop_of reader = reader_end supply halting endings end_rule greatest trees auto begin (code_of piece.blocks) reader

  abbrev pub own_of : ℕ → ℕ
  own_of s = own supply halting endings end_rule greatest trees auto begin (code_of piece.blocks) s

  -- ---- which states are stored

  -- a refill is tried where the unit at the end was read
  abbrev pub IsTurned : Type 0
  IsTurned = (numbers : Reader → ℕ) × (supply.tries ≡ true) × (supply.stored ≡ Some numbers) × (unit : ℕ) × (supply.eof ≡ Some unit)

  -- a reader's own block, or the one behind that in which it tries a refill
  abbrev pub IsBack : ℕ → Type 0
  IsBack block =
      ((reader : Reader) × Is reader × (home_of reader ≡ block)) ⊎ ((reader : Reader) × Is reader × (suc (suc (here_of reader)) ≡ block) × IsTurned)

  abbrev pub IsStored : ℕ → Type 0
  IsStored number = (supply.stored ≡ None → ⊥) × ((block : ℕ) → state_block piece.blocks number ≡ Some block → IsBack block)

  pub once_of : (numbers : Reader → ℕ) → supply.stored ≡ Some numbers → AreOnce (states_from 0 piece.blocks)
  once_of numbers same = by stored
    where
      by : (supply.stored ≡ None) ⊎ AreOnce (states_from 0 piece.blocks) → AreOnce (states_from 0 piece.blocks)
      by (inl none) = absurd (let e = sym none ∙ same in cc)
      by (inr once) = once

  pub home_stored : (reader : Reader) → Is reader → (numbers : Reader → ℕ) → supply.stored ≡ Some numbers
      → state_block piece.blocks (numbers reader) ≡ Some (home_of reader) → IsStored (numbers reader)
  home_stored reader is numbers same at = (
    λ none. (let e = sym none ∙ same in cc),
    λ block there. inl (reader, is, (let e : Some (home_of reader) ≡ Some block = sym at ∙ there in cc)),
  )

  pub turn_stored : (reader : Reader) → Is reader → (turned : IsTurned) → IsStored (turned.0 reader)
  turn_stored reader is turned =
      let row = reader_stands supply halting endings end_rule greatest trees auto begin blocks formed stands reader is in
      let at = turn_back piece supply reader (units_of reader) (home_of reader) (here_of reader) (tree_of reader) (to_of reader) (stop_of reader) row.row row.turn
      turned.0 turned.1 turned.2 turned.3 turned.4 (once_of turned.0 turned.2) in (
        λ none. (let e = sym none ∙ turned.2 in cc),
        λ block there. inr (reader, is, (let e : Some (suc (suc (here_of reader))) ≡ Some block = sym at ∙ there in cc), turned),
      )

  -- ---- places

  pub place_own : (s : ℕ) → Is (state s) → place s ≡ own_of s
  place_own s is =
      place_is supply halting endings end_rule greatest trees auto begin blocks stands s is.0 ∙ by (given s).edges refl
    where
      by : (edges : List Edge) → (state_of auto.states s).edges ≡ edges
          → place_by supply halting end_rule trees auto (rule_block supply halting end_rule trees auto begin) (fall_block supply halting end_rule trees auto begin)
          begin s (own_of s) edges (state_of auto.states s).accept ≡ own_of s
      by [] none = absurd (is.1 none)
      by (edge ∷ edges) e = ap (λ t. if t then own_of s else begin) is.2

  pub state_ways : (s : ℕ) → Is (state s)
      → StandWays supply halting endings end_rule greatest trees auto begin (code_of piece.blocks) s (own_of s)
  state_ways s is = state_ways_stand supply halting endings end_rule greatest trees auto begin blocks formed stands s is.0 is.1

  first_ways : (rule : ℕ) → end_rule ≡ Some rule → StandWays supply halting endings end_rule greatest trees auto begin (code_of piece.blocks) 0 start
  first_ways rule is = entry_ways_stand supply halting endings end_rule greatest trees auto begin blocks formed stands rule is

  some_unit : (u : ℕ) → supply.eof ≡ Some u → IsSome supply.eof
  some_unit u is = subst (λ o. IsSome o) (sym is) refl

  module _ (stream : List ℕ) where
    -- from these blocks on no unit is tested before one is read
    pub record Base (n : ℕ) : Type 0 where
      pub states : (s : ℕ) → s < length auto.states → At piece stream IsStored n (place_of supply halting end_rule trees auto begin s)
      pub first : (rule : ℕ) → end_rule ≡ Some rule → At piece stream IsStored n begin

    module _ (n : ℕ) (base : Base n) where
      abbrev IsAt : ℕ → Type 0
      IsAt block = At piece stream IsStored n block

      pub home_at : (reader : Reader) → Is reader → IsAt (home_of reader)
      home_at (entry) is = base.first is.0 is.1
      home_at (state s) is = subst (λ b. IsAt b) (place_own s is) (base.states s is.0)

      -- the first block of each later state, or the fallback's behind the last one
      begins_at : (rule : ℕ) → end_rule ≡ Some rule → (m k : ℕ) → suc k + m ≡ length auto.states → IsAt (own_of (suc k))
      begins_at rule is zero k count =
          let e : suc k ≡ length auto.states = omega (arith, count) in
          subst (λ b. IsAt b)
          (sym (begin_in-end supply halting end_rule trees auto 0 start auto.states)
          ∙ ap (λ j. begin_in supply halting end_rule trees auto 0 start auto.states j) (sym e))
          (lower piece stream IsStored n (fall_block supply halting end_rule trees auto begin)
          (rest_calm piece stream IsStored n supply halting endings end_rule greatest trees auto begin stands marked rule is
          (fall_block supply halting end_rule trees auto begin) (omega arith) (omega arith)))
      begins_at rule is (suc m) k count =
          let lt : suc k < length auto.states = omega (arith, count) in
          by (given (suc k)).edges refl (place_is supply halting endings end_rule greatest trees auto begin blocks stands (suc k) lt)
          (begin_in-next supply halting end_rule trees auto 0 start auto.states (suc k) lt) (begins_at rule is m (suc k) (omega (arith, count)))
        where
          later : suc k < length auto.states
          later = omega (arith, count)

          at_place : place_of supply halting end_rule trees auto begin (suc k) ≡ own_of (suc k) → IsAt (own_of (suc k))
          at_place same = subst (λ b. IsAt b) same (base.states (suc k) later)

          lone_at : (o : Option Accept)
              → place_of supply halting end_rule trees auto begin (suc k)
              ≡ lone_place auto (rule_block supply halting end_rule trees auto begin) (fall_block supply halting end_rule trees auto begin)
              (suc (suc k)) (own_of (suc k)) o
              → own_of (suc (suc k)) ≡ own_of (suc k) + lone_size (suc (suc k)) o → IsAt (own_of (suc (suc k))) → IsAt (own_of (suc k))
          lone_at None place next again =
              let same : own_of (suc (suc k)) ≡ own_of (suc k) = omega (arith, next) in subst (λ b. IsAt b) same again
          lone_at (Some accept) place next again = by_ops accept.ops place next
            where
              by_ops : (ops : List Op)
                  → place_of supply halting end_rule trees auto begin (suc k)
                  ≡ own_block (own_of (suc k)) (rule_block supply halting end_rule trees auto begin accept.rule) ops
                  → own_of (suc (suc k)) ≡ own_of (suc k) + own_size ops → IsAt (own_of (suc k))
              by_ops [] place next =
                  let same : own_of (suc (suc k)) ≡ own_of (suc k) = omega (arith, next) in subst (λ b. IsAt b) same again
              by_ops (op ∷ ops) place next = at_place place

          by : (edges : List Edge) → (state_of auto.states (suc k)).edges ≡ edges
              → place_of supply halting end_rule trees auto begin (suc k)
              ≡ place_by supply halting end_rule trees auto (rule_block supply halting end_rule trees auto begin)
              (fall_block supply halting end_rule trees auto begin) begin (suc k) (own_of (suc k)) edges (state_of auto.states (suc k)).accept
              → own_of (suc (suc k)) ≡ own_of (suc k) + size_in supply halting end_rule trees auto (0 + suc k) (state_of auto.states (suc k)) edges
              → IsAt (own_of (suc (suc k))) → IsAt (own_of (suc k))
          by [] none place next again =
              let e : 0 + suc k ≡ suc k = omega arith in
              lone_at (state_of auto.states (suc k)).accept
              (place ∙ ap (λ o. lone_place auto (rule_block supply halting end_rule trees auto begin) (fall_block supply halting end_rule trees auto begin)
              (lone_number o (suc k)) (own_of (suc k)) (state_of auto.states (suc k)).accept) is)
              (next ∙ ap (λ j. own_of (suc k) + lone_size (lone_number end_rule j) (state_of auto.states (suc k)).accept) e
              ∙ ap (λ o. own_of (suc k) + lone_size (lone_number o (suc k)) (state_of auto.states (suc k)).accept) is) again
          by (edge ∷ edges) some place next again =
              at_place (place ∙ ap (λ o. if is_entered o auto (suc k) then own_of (suc k) else begin) is)

      -- where a match would end in state 0, whether one can or not
      first_end : (rule : ℕ) → end_rule ≡ Some rule
          → At piece stream IsStored n
          (state_end supply halting end_rule trees auto (rule_block supply halting end_rule trees auto begin) (fall_block supply halting end_rule trees auto begin)
          begin 0 start (state_of auto.states 0))
      first_end rule is = by (halting.halts 0) refl (given 0).edges refl
        where
          rest_at : (block : ℕ) → fall_block supply halting end_rule trees auto begin ≤ block → block ≤ end_rule_block supply halting end_rule trees auto begin
              → IsAt block
          rest_at block low high =
              lower piece stream IsStored n block
              (rest_calm piece stream IsStored n supply halting endings end_rule greatest trees auto begin stands marked rule is block low high)

          halted : halting.halts 0 ≡ true
              → IsAt (state_end supply halting end_rule trees auto (rule_block supply halting end_rule trees auto begin)
              (fall_block supply halting end_rule trees auto begin) begin 0 start (state_of auto.states 0))
          halted halts =
              lower piece stream IsStored n _
              (end_up piece supply halting endings end_rule greatest trees auto begin formed stands marked 0 start formed.start (first_ways rule is) stream IsStored n
              base.states halts)

          ends : (own : ℕ) → IsAt own → (o : Option Accept)
              → IsAt (end_block auto (rule_block supply halting end_rule trees auto begin) (fall_block supply halting end_rule trees auto begin) own o)
          ends own there None = rest_at (fall_block supply halting end_rule trees auto begin) (omega arith) (omega arith)
          ends own there (Some accept) = by_ops accept.ops
            where
              by_ops : (ops : List Op) → IsAt (own_block own (rule_block supply halting end_rule trees auto begin accept.rule) ops)
              by_ops [] =
                  let place = rule_place-within (ended_accepts halting auto.states) accept.rule in
                  rest_at (rule_block supply halting end_rule trees auto begin accept.rule) (omega arith) (omega (arith, place))
              by_ops (op ∷ ops) = there

          -- a match cannot end there: the blocks of the next state come behind the others
          behind : halting.halts 0 ≡ false → (edges : List Edge) → (state_of auto.states 0).edges ≡ edges → (edges ≡ [] → ⊥)
              → own_end supply halting end_rule trees auto 0 start edges ≡ own_of 1
          behind never [] e some = absurd (some refl)
          behind never (edge ∷ edges) e some =
              let first : own_of 0 ≡ start = first_begins supply halting end_rule trees auto start auto.states in
              let z : 0 + 0 ≡ 0 = omega arith in
              let next = begin_in-next supply halting end_rule trees auto 0 start auto.states 0 formed.start
              ∙ ap (λ l. own_of 0 + size_in supply halting end_rule trees auto 0 (given 0) l) e in
              let none : end_size (halted_accept halting 0 (given 0)) ≡ 0 = ap (λ t. end_size (if t then (given 0).accept else None)) never in
              omega (arith, first, next, none)

          by : (t : Bool) → halting.halts 0 ≡ t → (edges : List Edge) → (state_of auto.states 0).edges ≡ edges
              → IsAt (state_end supply halting end_rule trees auto (rule_block supply halting end_rule trees auto begin)
              (fall_block supply halting end_rule trees auto begin) begin 0 start (state_of auto.states 0))
          by true halts edges e = halted halts
          by false never [] e = halted ((marked.halts 0 formed.start).1 (lone e))
          by false never (edge ∷ edges) e =
              let at = behind never (given 0).edges refl (λ none. (let f = sym e ∙ none in cc)) in
              let start_within = formed.start in
              ends (own_end supply halting end_rule trees auto 0 start (given 0).edges)
              (subst (λ b. IsAt b) (sym at) (begins_at rule is (length auto.states - 1) 0 (omega (arith, start_within)))) (given 0).accept

      -- where a match ends, and where the unit at the end leads as a unit of the input
      stop_at : (reader : Reader) → Is reader → (u : ℕ) → supply.eof ≡ Some u → IsAt (stop_of reader)
      stop_at (entry) is u at =
          lower piece stream IsStored n (stop_of (entry))
          (end_rule_calm piece stream IsStored n supply halting endings end_rule greatest trees auto begin stands marked is.0 is.1)
      stop_at (state s) is u at =
          lower piece stream IsStored n (stop_of (state s))
          (end_up piece supply halting endings end_rule greatest trees auto begin formed stands marked s (own_of s) is.0 (state_ways s is) stream IsStored n base.states
          ((marked.halts s is.0).1 (at_end (some_unit u at) is.2)))

      unit_at : (reader : Reader) → Is reader → (u : ℕ) → supply.eof ≡ Some u → IsAt (to_of reader u)
      unit_at (entry) is u at =
          to_at piece supply halting endings end_rule greatest trees auto begin formed stands marked 0 start formed.start (first_ways is.0 is.1) stream IsStored n
          base.states u (λ none. first_end is.0 is.1)
      unit_at (state s) is u at =
          to_at piece supply halting endings end_rule greatest trees auto begin formed stands marked s (own_of s) is.0 (state_ways s is) stream IsStored n
          base.states u
          (λ none. stop_at (state s) is u at)

      backs : Backs all_tests piece stream IsStored 0 0 n
      backs number block is at = by (is.1 block at)
        where
          by : IsBack block → IsAt block
          by (inl home) = subst (λ b. IsAt b) home.2 (home_at home.0 home.1)
          by (inr back) =
              let reader : Reader = back.0 in
              let turned = back.3 in
              let row = reader_stands supply halting endings end_rule greatest trees auto begin blocks formed stands reader back.1 in
              subst (λ b. IsAt b) back.2
              (lower piece stream IsStored n (suc (suc (here_of reader)))
              (back_calm piece supply reader (units_of reader) (home_of reader) (here_of reader) (tree_of reader) (to_of reader) (stop_of reader) row.row row.turn
              turned.0 turned.1 turned.2 turned.3 turned.4 stream IsStored n (home_at reader back.1) (stop_at reader back.1 turned.3 turned.4)))

      here_at : (reader : Reader) → Is reader → (u : ℕ) → supply.eof ≡ Some u → IsAt (here_of reader)
      here_at reader is u at =
          let row = reader_stands supply halting endings end_rule greatest trees auto begin blocks formed stands reader is in
          lower piece stream IsStored n (here_of reader)
          (turn_calm piece supply reader (units_of reader) (home_of reader) (here_of reader) (tree_of reader) (to_of reader) (stop_of reader) row.row row.turn
          stream IsStored n (home_at reader is) backs u at (λ numbers tries same. turn_stored reader is (numbers, tries, same, u, at)) (unit_at reader is u at)
          (stop_at reader is u at))

      -- ---- the ways of a reader

      state_way_at : (s : ℕ) → Is (state s) → (class : Option ℕ)
          → IsWay NoBlock halting s (end_places supply.eof + length (transition_classes (state_of auto.states s).edges)) class → IsAt (ways_of (state s) class)
      state_way_at s is None can =
          lower piece stream IsStored n (ways_of (state s) None)
          (way_up piece supply halting endings end_rule greatest trees auto begin formed stands marked s (own_of s) is.0 (state_ways s is) stream IsStored n base.states
          None can)
      state_way_at s is (Some k) below = by (nat_lt k (length (transition_classes (given s).edges))) refl supply.eof refl below
        where
          by : (t : Bool) → nat_lt k (length (transition_classes (state_of auto.states s).edges)) ≡ t → (eof : Option ℕ) → supply.eof ≡ eof
              → k < end_places eof + length (transition_classes (state_of auto.states s).edges) → IsAt (ways_of (state s) (Some k))
          by true e eof is_eof below =
              let lt : k < length (transition_classes (given s).edges) = grind (arith, e) in
              lower piece stream IsStored n (ways_of (state s) (Some k))
              (way_up piece supply halting endings end_rule greatest trees auto begin formed stands marked s (own_of s) is.0 (state_ways s is) stream IsStored n
              base.states (Some k) lt)
          by false e None is_eof below =
              let le : length (transition_classes (given s).edges) ≤ k = grind (arith, e) in absurd (omega (arith, le, below))
          by false e (Some u) is_eof below =
              let le : length (transition_classes (given s).edges) ≤ k = grind (arith, e) in
              let same : length (transition_classes (given s).edges) ≡ k = omega (arith, le, below) in
              subst (λ m. IsAt (classes_begin supply halting end_rule trees auto s (own_of s) (given s).edges + m)) same (here_at (state s) is u is_eof)

      entry_way_at : (is : Is (entry)) → (class : Option ℕ)
          → IsWay NoBlock halting 0 (end_places supply.eof + length (transition_classes (state_of auto.states 0).edges)) class → IsAt (ways_of (entry) class)
      entry_way_at is None can =
          lower piece stream IsStored n (ways_of (entry) None)
          (way_up piece supply halting endings end_rule greatest trees auto begin formed stands marked 0 start formed.start (first_ways is.0 is.1) stream IsStored n
          base.states None can)
      entry_way_at is (Some k) below = by (nat_eq k (length (transition_classes (given 0).edges))) refl supply.eof refl below
        where
          by : (t : Bool) → nat_eq k (length (transition_classes (state_of auto.states 0).edges)) ≡ t → (eof : Option ℕ) → supply.eof ≡ eof
              → k < end_places eof + length (transition_classes (state_of auto.states 0).edges)
              → IsAt (if t then begin + entry_tests_size supply halting end_rule trees auto
              else state_way supply halting end_rule trees auto (rule_block supply halting end_rule trees auto begin)
              (fall_block supply halting end_rule trees auto begin) begin 0 start (state_of auto.states 0) (Some k))
          by true e None none below =
              let there : IsSome {T = ℕ} None = subst (λ o. IsSome o) none (some (subst (λ o. IsSome o) (sym is.1) refl)) in absurd (cc)
          by true e (Some u) is_eof below = here_at (entry) is u is_eof
          by false e None none below =
              let there : IsSome {T = ℕ} None = subst (λ o. IsSome o) none (some (subst (λ o. IsSome o) (sym is.1) refl)) in absurd (cc)
          by false e (Some u) is_eof below =
              let other : k ≢ length (transition_classes (given 0).edges) = eqb-false k (length (transition_classes (given 0).edges)) e in
              let lt : k < length (transition_classes (given 0).edges) = omega (arith, other, below) in
              lower piece stream IsStored n _
              (way_up piece supply halting endings end_rule greatest trees auto begin formed stands marked 0 start formed.start (first_ways is.0 is.1) stream IsStored
              n base.states (Some k) lt)

      pub leads_at : (reader : Reader) → Is reader → EachTest (λ unit. Unit {0}) (At piece stream IsStored n) (tree_of reader)
      leads_at (entry) is =
          each-with_blocks (λ unit. Unit {0}) (IsWay NoBlock halting 0 (end_places supply.eof + length (transition_classes (given 0).edges)))
          (At piece stream IsStored n) (ways_of (entry)) (entry_way_at is) (trees (entry))
          (entry_leads NoBlock supply halting end_rule greatest auto formed (inr marked) trees are)
      leads_at (state s) is =
          each-with_blocks (λ unit. Unit {0}) (IsWay NoBlock halting s (end_places supply.eof + length (transition_classes (given s).edges)))
          (At piece stream IsStored n) (ways_of (state s)) (state_way_at s is) (trees (state s))
          (state_leads NoBlock supply halting end_rule greatest auto formed (inr marked) trees are s is.0)

  -- ---- a state whose units all go one way, without a check

  -- the first class stands at its place
  pub class_first : (s : ℕ) → Is (state s) → supply.eof ≡ None → supply.check s ≡ 0 → (block : ℕ) → tree_of (state s) ≡ leaf block
      → classes_begin supply halting end_rule trees auto s (own_of s) (state_of auto.states s).edges + 0 ≡ own_of s
  class_first s is none unchecked block one = by (trees (state s)) refl one
    where
      begins : (edges : List Edge) → (state_of auto.states s).edges ≡ edges → tests_size supply halting end_rule trees auto s ≡ 0
          → classes_begin supply halting end_rule trees auto s (own_of s) edges + 0 ≡ own_of s
      begins [] e size = absurd (is.1 e)
      begins (edge ∷ edges) e size = omega (arith, size)

      by : (tree : TestTree (Option ℕ)) → trees (state s) ≡ tree → with_blocks (ways_of (state s)) tree ≡ leaf block
          → classes_begin supply halting end_rule trees auto s (own_of s) (state_of auto.states s).edges + 0 ≡ own_of s
      by (leaf class) e one =
          begins (given s).edges refl
          (ap (λ t. sized t (reader_size supply.eof (supply.check s) (trees (state s)))) is.2
          ∙ ap (λ o. reader_size o (supply.check s) (trees (state s))) none
          ∙ ap (λ n. reader_size None n (trees (state s))) unchecked ∙ ap (λ t. reader_size None 0 t) e)
      by (test top class high) e one = absurd (cc)
      by (fork top low high) e one = absurd (cc)
      by (switch cases last) e one = absurd (cc)

  pub class_some : (s : ℕ) → Is (state s) → 0 < length (transition_classes (state_of auto.states s).edges)
  class_some s is = by (given s).edges refl
    where
      by : (edges : List Edge) → (state_of auto.states s).edges ≡ edges → 0 < length (transition_classes edges)
      by [] e = absurd (is.1 e)
      by (edge ∷ edges) e = some_class edge edges

  -- ---- step by step

  module _ (stream : List ℕ) (n : ℕ) (base : Base stream n) where
    home_up : (reader : Reader) → Is reader → UpAt piece stream IsStored n (home_of reader)
    home_up reader is =
        let row = reader_stands supply halting endings end_rule greatest trees auto begin blocks formed stands reader is in
        home_calm piece supply reader (units_of reader) (home_of reader) (here_of reader) (tree_of reader) (to_of reader) (stop_of reader) row.row row.turn once_of
        stream IsStored (home_stored reader is) n (backs stream n base) (itself reader is) (leads_at stream n base reader is)
      where
        itself : (reader : Reader) → Is reader → supply.eof ≡ None → units_of reader ≡ 0 → (block : ℕ) → tree_of reader ≡ leaf block
            → UpAt piece stream IsStored n (home_of reader)
        itself (entry) is none unchecked block one =
            let there : IsSome {T = ℕ} None = subst (λ o. IsSome o) none (some (subst (λ o. IsSome o) (sym is.1) refl)) in absurd (cc)
        itself (state s) is none unchecked block one =
            subst (λ b. UpAt piece stream IsStored n b) (class_first s is none unchecked block one)
            (class_up piece supply halting endings end_rule greatest trees auto begin formed stands marked s (own_of s) is.0 (state_ways s is) stream IsStored n
            base.states 0 (class_some s is))

    place_up : (s : ℕ) → s < length auto.states → UpAt piece stream IsStored n (place_of supply halting end_rule trees auto begin s)
    place_up s lt =
        by (given s).edges refl (place_is supply halting endings end_rule greatest trees auto begin blocks stands s lt)
        (state_stands supply halting endings end_rule greatest trees auto begin blocks stands s lt)
      where
        entered : (t : Bool) → is_entered end_rule auto s ≡ t → ((state_of auto.states s).edges ≡ [] → ⊥)
            → place_of supply halting end_rule trees auto begin s ≡ (if t then own_of s else begin)
            → UpAt piece stream IsStored n (place_of supply halting end_rule trees auto begin s)
        entered true e edge at = subst (λ b. UpAt piece stream IsStored n b) (sym at) (home_up (state s) (lt, edge, e))
        entered false e edge at =
            let apart = behind_entry end_rule auto s e in
            subst (λ b. UpAt piece stream IsStored n b) (sym at) (home_up (entry) (apart.rule, apart.some))

        by : (edges : List Edge) → (state_of auto.states s).edges ≡ edges
            → place_of supply halting end_rule trees auto begin s
            ≡ place_by supply halting end_rule trees auto (rule_block supply halting end_rule trees auto begin)
            (fall_block supply halting end_rule trees auto begin) begin s (own_of s) edges (state_of auto.states s).accept
            → StandsFrom (code_of piece.blocks) (own_of s)
            (blocks_by supply halting end_rule trees auto (rule_block supply halting end_rule trees auto begin)
            (fall_block supply halting end_rule trees auto begin) begin (saved_accepts halting auto.states) (place_of supply halting end_rule trees auto begin) s (own_of s)
            (state_of auto.states s) edges)
            → UpAt piece stream IsStored n (place_of supply halting end_rule trees auto begin s)
        by [] none at h =
            subst (λ b. UpAt piece stream IsStored n b) (sym at)
            (lone_calm piece stream IsStored n supply halting endings end_rule greatest trees auto begin stands marked s lt ((marked.halts s lt).1 (lone none))
            (lone_number end_rule s) (own_of s) h)
        by (edge ∷ edges) e at h = entered (is_entered end_rule auto s) refl (λ none. (let f = sym e ∙ none in cc)) at

    base_up : Base stream (suc n)
    base_up = record {
      states = λ s lt. place_up s lt;
      first = λ rule is. home_up (entry) (rule, is);
    }

  still : (stream : List ℕ) (block : ℕ) → At piece stream IsStored 0 block
  still stream block code is zero le machine answers ok few = omega arith
  still stream block code is (suc steps) le machine answers ok few = absurd (omega (arith, le))

  pub base_all : (stream : List ℕ) (n : ℕ) → Base stream n
  base_all stream zero = record {
    states = λ s lt. still stream (place_of supply halting end_rule trees auto begin s);
    first = λ rule is. still stream begin;
  }
  base_all stream (suc n) = base_up stream n (base_all stream n)
