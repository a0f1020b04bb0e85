-- Where units lead from what reads in a layout, none is tested before another one is read, if that is so from the places of states on.
use Rattle.std.specs.Prelude.{◌≡◌, ℕ, zero, suc, ◌+◌, ◌<◌, true, List, [], ◌∷◌, length, Option, Some, None, refl, slice_get}
use Rattle.std.proofs.Common.{inl, inr, arith}
use Rattle.std.proofs.lemmas.Option.{slice_get_within}
use Rattle.std.specs.List.{AllByRecursion}
use Rattle.lx_auto.specs.Automaton.{IsAuto, LeadWithin, edge_on, state_of}
use Rattle.lx_auto.specs.declared.automaton.Accept.{Accept}
use Rattle.lx_auto.specs.declared.automaton.Auto.{Auto}
use Rattle.lx_auto.specs.declared.automaton.Edge.{Edge}
use Rattle.lx_auto.specs.declared.automaton.State.{State}
use Rattle.lx_auto.proofs.States.{state_formed}
use Rattle.lx_ccode.specs.Statements.{code_of}
use Rattle.lx_ccode.specs.declared.piece.Piece.{Piece}
use Rattle.lx_ccode.specs.declared.piece.Stmt.{Stmt}
use Rattle.lx_layout.specs.Endings.{Ending}
use Rattle.lx_layout.specs.Fallback.{edge_code}
use Rattle.lx_layout.specs.Halting.{AreHalting, Halting, saved_accepts, kept_number}
use Rattle.lx_layout.specs.Layout.{StandsFrom}
use Rattle.lx_layout.specs.SuppliedLayout.{class_blocks, classes_begin, fall_block, own_end, place_of, rule_block, state_end, state_to, state_way, supplied_layout}
use Rattle.lx_layout.specs.Supplies.{Reader, Supply}
use Rattle.lx_dispatch.specs.TestTrees.{TestTree}
use Rattle.lx_dispatch.specs.TransitionClasses.{class_place, edge_class, has_class, transition_classes}
use Rattle.lx_dispatch.proofs.ClassLists.{class_found, has_class-on}
use Rattle.lx_layout.proofs.BlockLayouts.CodesInBlocks.{StandsFrom-get}
use Rattle.lx_layout.proofs.ScannerLaws.CalmCodes.{At, UpAt, known, lower, up_edge}
use Rattle.lx_layout.proofs.ScannerLaws.CalmEnds.{end_calm}
use Rattle.lx_layout.proofs.ScannerLaws.LayoutReaders.{StandWays}
use Rattle.lx_layout.proofs.SuppliedLayouts.EachLayout.{IsWay, each-classes}
use Rattle.lx_layout.proofs.SuppliedLayouts.StatesServe.{slice_get-class_blocks}

-- no block is of this sort
abbrev pub NoBlock : ℕ → Type 0
NoBlock block = ⊥

-- an element at each place, with what holds of all
class_at : (Q : Edge → Type 0) (classes : List Edge) (k : ℕ) → k < length classes → AllByRecursion Q classes
    → (class : Edge) × (slice_get classes k ≡ Some class) × Q class
class_at Q [] k lt h = absurd (omega (arith, lt))
class_at Q (class ∷ classes) zero lt h = (class, refl, h.0)
class_at Q (class ∷ classes) (suc k) lt h = class_at Q classes k (omega (arith, lt)) h.1

lead_there : (regs mregs count : ℕ) (edges : List Edge) → LeadWithin regs mregs count edges → AllByRecursion (λ (edge : Edge). edge.to < count) edges
lead_there regs mregs count [] lead = tt
lead_there regs mregs count (edge ∷ edges) lead = (lead.0, lead_there regs mregs count edges lead.2)

module _ (piece : Piece) (supply : Supply) (halting : Halting) (endings : ℕ → Ending) (end_rule : Option ℕ) (greatest : ℕ) (trees : Reader → TestTree (Option ℕ))
    (auto : Auto) (begin : ℕ) (formed : IsAuto auto)
    (stands : StandsFrom (code_of piece.blocks) begin (supplied_layout supply halting endings end_rule trees auto begin))
    (marked : AreHalting supply.eof end_rule greatest auto halting) where
  abbrev blocks : List (List Stmt)
  blocks = code_of piece.blocks

  abbrev rules : ℕ → ℕ
  rules = rule_block supply halting end_rule trees auto begin

  abbrev fall : ℕ
  fall = fall_block supply halting end_rule trees auto begin

  abbrev place : ℕ → ℕ
  place = place_of supply halting end_rule trees auto begin

  abbrev saves : List Accept
  saves = saved_accepts halting auto.states

  abbrev given : ℕ → State
  given s = state_of auto.states s

  module _ (s from : ℕ) (lt : s < length auto.states)
      (ways : StandWays supply halting endings end_rule greatest trees auto begin (code_of piece.blocks) s from) where
    abbrev first : ℕ
    first = classes_begin supply halting end_rule trees auto s from (given s).edges

    abbrev classes : List Edge
    classes = transition_classes (given s).edges

    abbrev class_code : Edge → List Stmt
    class_code class = edge_code halting auto (given s) (kept_number halting saves (given s).accept) class (place class.to)

    -- the block of each class
    pub class_there : (k : ℕ) → k < length (transition_classes (state_of auto.states s).edges)
        → (class : Edge) × (slice_get (code_of piece.blocks) (classes_begin supply halting end_rule trees auto s from (state_of auto.states s).edges + k)
        ≡ Some (edge_code halting auto (state_of auto.states s) (kept_number halting (saved_accepts halting auto.states) (state_of auto.states s).accept) class
        (place_of supply halting end_rule trees auto begin class.to))) × (class.to < length auto.states)
    class_there k below =
        let lead = each-classes (λ (edge : Edge). edge.to < length auto.states) [] (given s).edges tt
        (lead_there auto.regs auto.mregs (length auto.states) (given s).edges (state_formed auto s formed).lead) in
        let found = class_at (λ (edge : Edge). edge.to < length auto.states) classes k below lead in (
          found.0,
          StandsFrom-get blocks first k (class_blocks halting auto saves place (given s) classes) (class_code found.0) ways.classes
              (slice_get-class_blocks halting auto saves place (given s) classes k found.0 found.1),
          found.2,
        )

    module _ (stream : List ℕ) (Stored : ℕ → Type 0) (n : ℕ)
        (base : (state : ℕ) → state < length auto.states → At piece stream Stored n (place_of supply halting end_rule trees auto begin state)) where
      pub class_up : (k : ℕ) → k < length (transition_classes (state_of auto.states s).edges)
          → UpAt piece stream Stored n (classes_begin supply halting end_rule trees auto s from (state_of auto.states s).edges + k)
      class_up k below =
          let there = class_there k below in
          known piece stream Stored n (first + k) (class_code there.0) there.1
          (up_edge piece stream Stored n halting auto (given s) (kept_number halting saves (given s).accept) there.0 (place there.0.to) (base there.0.to there.2))

      pub end_up : halting.halts s ≡ true
          → UpAt piece stream Stored n
          (state_end supply halting end_rule trees auto (rule_block supply halting end_rule trees auto begin) (fall_block supply halting end_rule trees auto begin)
          begin s from (state_of auto.states s))
      end_up halts =
          end_calm piece stream Stored n supply halting endings end_rule greatest trees auto begin stands marked s lt halts
          (own_end supply halting end_rule trees auto s from (given s).edges) (ways.ends halts)

      pub way_up : (class : Option ℕ) → IsWay NoBlock halting s (length (transition_classes (state_of auto.states s).edges)) class
          → UpAt piece stream Stored n
          (state_way supply halting end_rule trees auto (rule_block supply halting end_rule trees auto begin) (fall_block supply halting end_rule trees auto begin)
          begin s from (state_of auto.states s) class)
      way_up None (inl halts) = end_up halts
      way_up None (inr all) = absurd (all 0)
      way_up (Some k) below = class_up k below

      -- where a unit of the input leads
      pub to_at : (unit : ℕ)
          → (edge_on (state_of auto.states s).edges unit ≡ None → At piece stream Stored n
          (state_end supply halting end_rule trees auto (rule_block supply halting end_rule trees auto begin) (fall_block supply halting end_rule trees auto begin)
          begin s from (state_of auto.states s)))
          → At piece stream Stored n
          (state_to supply halting end_rule trees auto (rule_block supply halting end_rule trees auto begin) (fall_block supply halting end_rule trees auto begin)
          begin s from (state_of auto.states s) unit)
      to_at unit ends = by (edge_on (given s).edges unit) ends (λ edge on. has_class-on (given s).edges unit edge on)
        where
          by : (o : Option Edge)
              → (o ≡ None → At piece stream Stored n
              (state_end supply halting end_rule trees auto (rule_block supply halting end_rule trees auto begin)
              (fall_block supply halting end_rule trees auto begin) begin s from (state_of auto.states s)))
              → ((edge : Edge) → o ≡ Some edge → has_class (transition_classes (state_of auto.states s).edges) edge ≡ true)
              → At piece stream Stored n
              (state_way supply halting end_rule trees auto (rule_block supply halting end_rule trees auto begin)
              (fall_block supply halting end_rule trees auto begin) begin s from (state_of auto.states s)
              (edge_class (transition_classes (state_of auto.states s).edges) o))
          by None ends has = ends refl
          by (Some edge) ends has =
              let found = class_found classes edge (has edge refl) in
              lower piece stream Stored n (first + class_place classes edge)
              (class_up (class_place classes edge) (slice_get_within classes (class_place classes edge) found.0 found.1))
