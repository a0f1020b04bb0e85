-- Where the steps of a match go, and the places of the statements that assign something of the user's.
use Rattle.std.specs.Prelude.{ℕ, ◌+◌, Bool, true, false, List, [], ◌∷◌, ◌++◌, drop, Option, Some, None, ◌==◌, ◌&&◌, nat_le, if◌then◌else◌}
use Rattle.std.specs.List.{list_any}
use Rattle.lx_ccode.specs.declared.piece.Stmt.{Stmt}
use Rattle.lx_ccode.specs.declared.piece.Stmt.TheVariants.{IfUnit, IfIs, IfSet, IfAccept, IfEnd, Switch, Goto, Tag, Count, Cond}
use Rattle.lx_ccode.specs.declared.piece.CodeBlock.{CodeBlock}
use Rattle.lx_ccode.specs.declared.piece.SwitchCase.{SwitchCase}
use Rattle.lx_ccode.specs.Machine.{Machine, case_block, code_at, is_among}
use Rattle.lx_step.specs.declared.answers.StmtAt.{StmtAt}

-- Tag, Count or Cond
abbrev pub is_assignment : Stmt → Bool
is_assignment (Tag tag is_history register) = true
is_assignment (Count groups) = true
is_assignment (Cond cond) = true
is_assignment _ = false

-- the block where the test holds
abbrev pub block_where : Bool → (block : ℕ) → Option ℕ
block_where true block = Some block
block_where false block = None

-- the block where the test holds of the unit that was read
abbrev pub block_where_unit : Option ℕ → (test : ℕ → Bool) → (block : ℕ) → Option ℕ
block_where_unit None test block = None
block_where_unit (Some unit) test block = block_where (test unit) block

-- the block to which a switch goes by the unit that was read
abbrev pub block_of_unit : List SwitchCase → (last : ℕ) → Option ℕ → Option ℕ
block_of_unit cases last None = None
block_of_unit cases last (Some unit) = Some (case_block cases last unit)

-- the block to which a step goes, where it does not go on in its own; a refill that brings nothing goes to none
abbrev pub target : (table : List ℕ) → Stmt → Machine → Option ℕ
target table (IfUnit greatest block) machine = block_where_unit machine.unit (λ unit. nat_le unit greatest) block
target table (IfIs unit block) machine = block_where_unit machine.unit (λ read. read == unit) block
target table (IfSet set block) machine = block_where_unit machine.unit (is_among table set) block
target table (IfAccept accept block) machine = block_where (machine.accept == accept) block
target table (IfEnd block) machine = block_where (nat_le machine.limit machine.cursor) block
target table (Switch cases last) machine = block_of_unit cases last machine.unit
target table (Goto block) machine = Some block
target table _ machine = None

-- the next statement, or statement 0 of the block
abbrev pub place_after : StmtAt → Option ℕ → StmtAt
place_after place None = record place { stmt = place.stmt + 1 }
place_after place (Some block) = record { block = block; stmt = 0 }

-- the rest of its block from a place on
abbrev pub code_from : List CodeBlock → StmtAt → Option (List Stmt)
code_from blocks place = elim (code_at blocks (Some place.block)) [ None ↦ None | Some code ↦ Some (drop place.stmt code) ]

abbrev pub same_place : StmtAt → StmtAt → Bool
same_place place other = (place.block == other.block) && (place.stmt == other.stmt)

-- the places with one more at the end, unless it is there
abbrev pub with_place : StmtAt → List StmtAt → List StmtAt
with_place place places = if list_any (same_place place) places then places else places ++ place ∷ []

-- the places with that of the statement, if it assigns something
abbrev pub with_statement : StmtAt → Stmt → List StmtAt → List StmtAt
with_statement place statement places = if is_assignment statement then with_place place places else places
