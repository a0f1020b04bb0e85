-- The blocks of several scanners one behind another, and by which numbers their states are stored.
use Rattle.std.specs.Prelude.{◌≡◌, ℕ, zero, suc, ◌+◌, Bool, true, false, ◌&&◌, not, nat_eq, List, [], ◌∷◌, ◌++◌, length, Option, Some, None, is_some, slice_index, if◌then◌else◌}
use Rattle.lx_auto.specs.Automaton.{state_of}
use Rattle.lx_auto.specs.declared.automaton.Auto.{Auto}
use Rattle.lx_auto.specs.declared.automaton.Edge.{Edge}
use Rattle.lx_ccode.specs.declared.piece.CodeBlock.{CodeBlock}
use Rattle.lx_ccode.specs.declared.piece.Stmt.{Stmt}
use Rattle.lx_layout.specs.Endings.{Ending}
use Rattle.lx_layout.specs.Halting.{AreHalting, Halting, is_entered}
use Rattle.lx_layout.specs.Plans.{unlabelled}
use Rattle.lx_layout.specs.SuppliedLayout.{EachReader, supplied_layout}
use Rattle.lx_layout.specs.Supplies.{Reader, Supply, entry, state}
use Rattle.lx_base.specs.declared.settings.Format.{Format}
use Rattle.lx_ccode.specs.Machine.{is_among}
use Rattle.lx_dispatch.specs.Dispatch.{AreTestsOf}
use Rattle.lx_dispatch.specs.TestTrees.{TestTree}

-- How a scanner gets its units, before the states that it stores have numbers.
pub record Demand : Type 0 where
  -- the unit that stands at the end of the input, if one does
  pub eof : Option ℕ
  -- whether a refill is tried there
  pub tries : Bool
  -- how many units a state checks for before it reads one; 0 where it does not
  pub check : (number : ℕ) → ℕ
  -- whether what reads is stored before a refill
  pub stores : Bool
  -- the format of the text, and the table of the sets that are tested
  pub format : Format
  pub table : List ℕ

-- The checks of a list, where a state has the number 0 if it has none. Where the start has none the scanner reads no unit, and its other
-- states, to which no match comes, check for one unit each.
abbrev pub checked : (checks : List ℕ) → (number : ℕ) → ℕ
checked checks number = if nat_eq (slice_index checks 0) 0 && not (nat_eq number 0) then 1 else slice_index checks number

-- where there is a list of checks, or none
abbrev pub checked_by : Option (List ℕ) → (number : ℕ) → ℕ
checked_by None number = 0
checked_by (Some checks) number = checked checks number

-- ---- numbers of what is stored

-- with a rule at the end of the input, if there is one
module _ (demand : Demand) (end_rule : Option ℕ) (auto : Auto) where
  -- the state with edges asks for a refill, where it reads
  abbrev pub asks_by : (eof : Option ℕ) → (number : ℕ) → Bool
  asks_by None number = not (nat_eq (demand.check number) 0)
  asks_by (Some unit) number = demand.tries

  abbrev pub asks_with : (number : ℕ) → List Edge → Bool
  asks_with number [] = false
  asks_with number (edge ∷ edges) = is_entered end_rule auto number && asks_by demand.eof number

  abbrev pub state_asks : (number : ℕ) → Bool
  state_asks number = asks_with number (state_of auto.states number).edges

  -- so does the entry, where it stands apart
  abbrev pub entry_asks : Bool
  entry_asks = is_some end_rule && (is_some demand.eof && demand.tries)

  abbrev pub one_if : Bool → ℕ
  one_if true = 1
  one_if false = 0

  -- how many of the entry and the states below a number ask
  abbrev pub asked_below : (number : ℕ) → ℕ
  asked_below zero = one_if entry_asks
  asked_below (suc number) = asked_below number + one_if (state_asks number)

  abbrev pub asked : ℕ
  asked = asked_below (length auto.states)

  -- what reads is stored by how many before it ask, counted from a first number on
  abbrev pub number_of : (first : ℕ) → Reader → ℕ
  number_of first entry = first
  number_of first (state number) = first + asked_below number

  abbrev pub stored_from : (stores : Bool) → (first : ℕ) → Option (Reader → ℕ)
  stored_from false first = None
  stored_from true first = Some (number_of first)

  abbrev pub supply_from : (first : ℕ) → Supply
  supply_from first =
      record { eof = demand.eof; tries = demand.tries; check = demand.check; stored = stored_from demand.stores first; among = is_among demand.table }

-- ---- scanners of a piece

-- what is given of a scanner
pub record Given : Type 0 where
  -- the name of its condition, if it has one
  pub cond : Option (List ℕ)
  pub demand : Demand
  pub endings : ℕ → Ending
  -- the rule at the end of the input, if there is one
  pub end_rule : Option ℕ
  pub auto : Auto

-- and what is chosen: the marks of the states in which a match can end, and the trees of tests
pub record Part : Type 0 where
  pub given : Given
  pub halting : Halting
  pub trees : Reader → TestTree (Option ℕ)

-- for units up to a greatest one the marks are right, and the trees lead as the edges do, and are within their bound
pub record IsPartOf (greatest : ℕ) (given : Given) (part : Part) : Type 0 where
  pub is : part.given ≡ given
  pub marked : AreHalting given.demand.eof given.end_rule greatest given.auto part.halting
  pub format : part.halting.format ≡ given.demand.format
  pub trees : EachReader (AreTestsOf given.demand.format given.demand.table given.demand.eof greatest) given.demand.eof greatest part.trees given.auto

abbrev pub given_supply : Given → (first : ℕ) → Supply
given_supply given first = supply_from given.demand given.end_rule given.auto first

-- its blocks, if the first one stands at `begin` and what reads is stored by numbers from a first one on
abbrev pub part_codes : Part → (begin first : ℕ) → List (List Stmt)
part_codes part begin first =
    supplied_layout (given_supply part.given first) part.halting part.given.endings part.given.end_rule part.trees part.given.auto begin

-- the first block begins the scanner of a condition
abbrev pub labelled : (cond : Option (List ℕ)) → List (List Stmt) → List CodeBlock
labelled cond [] = []
labelled cond (code ∷ codes) = record { cond = cond; stmts = code } ∷ unlabelled codes

abbrev pub part_blocks : Part → (begin first : ℕ) → List CodeBlock
part_blocks part begin first = labelled part.given.cond (part_codes part begin first)

-- how many states it stores
abbrev pub given_asked : Given → ℕ
given_asked given = asked given.demand given.end_rule given.auto

-- the blocks of scanners one behind another
abbrev pub parts_blocks : (begin first : ℕ) → List Part → List CodeBlock
parts_blocks begin first [] = []
parts_blocks begin first (part ∷ parts) =
    part_blocks part begin first ++ parts_blocks (begin + length (part_codes part begin first)) (first + given_asked part.given) parts

-- of each part, with the number of its first block and that by which it begins to store
abbrev pub EachPart : (P : Part → (begin first : ℕ) → Type 0) → (begin first : ℕ) → List Part → Type 0
EachPart P begin first [] = Unit {0}
EachPart P begin first (part ∷ parts) =
    P part begin first × EachPart P (begin + length (part_codes part begin first)) (first + given_asked part.given) parts
