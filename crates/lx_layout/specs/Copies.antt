-- The blocks of a scanner without the ends of its rules, and how those of another scanner are copies of them.
use Rattle.std.specs.Prelude.{◌≡◌, ℕ, ◌+◌, ◌<◌, ◌^◌, List, ◌++◌, map, Option, Some, None, is_some}
use Rattle.std.specs.List.{AllByRecursion}
use Rattle.lx_auto.specs.declared.automaton.Accept.{Accept}
use Rattle.lx_auto.specs.declared.automaton.Auto.{Auto}
use Rattle.lx_auto.specs.declared.automaton.State as automaton
use Rattle.lx_ccode.specs.declared.piece.CodeBlock.{CodeBlock}
use Rattle.lx_ccode.specs.declared.piece.Stmt.{Stmt}
use Rattle.lx_ccode.specs.declared.piece.Stmt.TheVariants.{Goto, IfAccept, IfEnd, IfIs, IfSet, IfUnit, State, Switch, Try}
use Rattle.lx_ccode.specs.declared.piece.SwitchCase.{SwitchCase}
use Rattle.lx_layout.specs.Halting.{Halting, ended_accepts, saved_accepts}
use Rattle.lx_layout.specs.Endings.{Ending}
use Rattle.lx_layout.specs.LaidParts.{ArePartEnds, EndIsTold, ended_at, halting_at, seen_demand, seen_given, supply_at, trees_at}
use Rattle.lx_layout.specs.Layout.{ending_blocks, restore_blocks}
use Rattle.lx_layout.specs.Parts.{Given, given_asked}
use Rattle.lx_layout.specs.Plans.{unlabelled}
use Rattle.lx_layout.specs.RuleEnds.{HasToldEnd, endings_of}
use Rattle.lx_layout.specs.SuppliedLayout.{end_rule_part, entry_part, fallback_part, first_restore, rule_block, states_part}
use Rattle.lx_layout.specs.Supplies.{Reader, Supply}
use Rattle.lx_dispatch.specs.TestTrees.{TestTree}
use Rattle.lx_layout.specs.declared.copies.Front.{Front}
use Rattle.lx_layout.specs.declared.demands.PartInput.{PartInput}
use Rattle.lx_layout.specs.declared.rule_ends.RuleEnd.{RuleEnd}
use Rattle.lx_layout.specs.declared.state_plans.PartPlans.{PartPlans}
use Rattle.lx_renumber.specs.Renumbered.{based, renumbered_accept}

-- the entry, the states, the fallback, and what is done in it by rule, if the first block stands at `begin`
abbrev pub front_layout : Supply → Halting → (end_rule : Option ℕ) → (trees : Reader → TestTree (Option ℕ)) → Auto → (begin : ℕ) → List (List Stmt)
front_layout supply halting end_rule trees auto begin =
    entry_part supply halting end_rule trees auto begin end_rule
    ++ (states_part supply halting end_rule trees auto begin
    ++ (fallback_part halting auto (first_restore supply halting end_rule trees auto begin)
    ++ restore_blocks (rule_block supply halting end_rule trees auto begin) (saved_accepts halting auto.states)))

-- the ends of the rules, which name no block
abbrev pub back_layout : Halting → (endings : ℕ → Ending) → (end_rule : Option ℕ) → Auto → List (List Stmt)
back_layout halting endings end_rule auto =
    ending_blocks endings (ended_accepts halting auto.states) ++ end_rule_part endings end_rule

-- a case of a switch over units, where its block stands so many places further on
abbrev pub moved_case : (by : ℕ) → SwitchCase → SwitchCase
moved_case by case = record case { block = case.block + by }

-- the statement, where the blocks that it names stand so many places further on, and the number of a stored state is greater by so much
abbrev pub moved : (by stored : ℕ) → Stmt → Stmt
moved by stored (IfUnit greatest block) = IfUnit greatest (block + by)
moved by stored (IfIs unit block) = IfIs unit (block + by)
moved by stored (IfSet set block) = IfSet set (block + by)
moved by stored (IfAccept accept block) = IfAccept accept (block + by)
moved by stored (IfEnd block) = IfEnd (block + by)
moved by stored (State state) = State (state + stored)
moved by stored (Try block) = Try (block + by)
moved by stored (Switch cases last) = Switch (map (moved_case by) cases) (last + by)
moved by stored (Goto block) = Goto (block + by)
moved by stored statement = statement

-- the same of blocks
abbrev pub moved_codes : (by stored : ℕ) → List (List Stmt) → List (List Stmt)
moved_codes by stored codes = map (λ code. map (moved by stored) code) codes

-- what reads is stored by numbers that are greater by so much, or not at all
abbrev pub StoredBehind : (stored : ℕ) → (other given : Option (Reader → ℕ)) → Type 0
StoredBehind stored None None = Unit {0}
StoredBehind stored (Some other) (Some given) = (reader : Reader) → other reader ≡ given reader + stored
StoredBehind stored other given = ⊥

-- so units are supplied as by another supply
pub record SuppliesBehind (stored : ℕ) (other given : Supply) : Type 0 where
  pub eof : other.eof ≡ given.eof
  pub tries : other.tries ≡ given.tries
  pub check : other.check ≡ given.check
  pub numbers : StoredBehind stored other.stored given.stored
  pub among : other.among ≡ given.among

-- the statements of blocks
abbrev pub codes_in : List CodeBlock → List (List Stmt)
codes_in blocks = map (λ (block : CodeBlock). block.stmts) blocks

-- ---- the front of a scanner, as the code has it

-- what is given of a scanner, where its automaton is told, or is that which is told but for greater numbers of rules
abbrev pub given_by : (by : Option ℕ) → Given → Given
given_by by given = record given { auto = based by given.auto }

abbrev pub front_at : PartPlans → List (List Stmt)
front_at plans =
    front_layout (supply_at plans) (halting_at plans) plans.input.end_rule (trees_at plans) plans.input.auto.now plans.begin

pub record IsFront (front : Front) : Type 0 where
  pub ends : ArePartEnds front.ends
  pub begin : front.ends.plans.begin ≡ 0
  pub first : front.ends.plans.first ≡ 0
  pub blocks : front.blocks.items ≡ unlabelled (front_at front.ends.plans)
  pub asked : front.asked ≡ given_asked (seen_given front.ends.plans.input)

-- another scanner gets its units in the same way, has a rule at the end of the input where the front has, and the same
-- automaton but for numbers of rules
pub record IsLikeFront (front : Front) (input : PartInput) : Type 0 where
  pub demand : seen_demand input.demand ≡ seen_demand front.ends.plans.input.demand
  pub greatest : input.greatest ≡ front.ends.plans.input.greatest
  pub end_rule : is_some input.end_rule ≡ is_some front.ends.plans.input.end_rule
  pub auto : input.auto.now ≡ front.ends.plans.input.auto.now

-- the end of an accept's rule is told, if there is one, by a greater number that has 32 bits
abbrev pub AcceptIsToldBy : List RuleEnd → (by : ℕ) → Option Accept → Type 0
AcceptIsToldBy ends by None = Unit {0}
AcceptIsToldBy ends by (Some accept) = HasToldEnd ends (renumbered_accept by accept) × (accept.rule + by < 2 ^ 32)

-- the ends of all rules by which states accept are told, by greater numbers, and that of the rule at the end of the input
pub record IsToldBy (by : ℕ) (input : PartInput) : Type 0 where
  pub accepts : AllByRecursion (λ (given : automaton.State). AcceptIsToldBy input.ends.now by given.accept) input.auto.now.states
  pub end_rule : EndIsTold input.ends.now input.end_rule

-- the copy of the front, and then the ends of the scanner's own rules
abbrev pub copied_codes : Front → PartInput → (by begin first : ℕ) → List (List Stmt)
copied_codes front input by begin first =
    moved_codes begin first (front_at front.ends.plans)
    ++ (ending_blocks (endings_of input.ends.now) (map (renumbered_accept by) (ended_at front.ends.plans))
    ++ end_rule_part (endings_of input.ends.now) input.end_rule)
