-- Where the machine is stuck.
use Rattle.std.specs.Prelude.{◌≡◌, ◌≤◌, Option, Some, None, true}
use Rattle.lx_ccode.specs.declared.piece.Stmt.{Stmt}
use Rattle.lx_ccode.specs.declared.piece.Stmt.TheVariants.{Peek, Skip, MSet, MUnset, MCopy, IfUnit, IfIs, IfSet, Switch, Back}
use Rattle.lx_ccode.specs.declared.piece.Piece.{Piece}
use Rattle.lx_ccode.specs.Statements.{is_refill}
use Rattle.lx_ccode.specs.Machine.{Machine, Outcome, stuck, Next, goes_on, ends, code_at, stored_block}

-- the outcome of a step that ends the match
abbrev pub outcome_after : Next → Option Outcome
outcome_after (goes_on code machine answers) = None
outcome_after (ends outcome machine) = Some outcome

-- the machine has no step
abbrev pub IsStuck : Next → Type 0
IsStuck next = outcome_after next ≡ Some stuck

-- what each statement cannot do: read or pass a unit that is not there, write history 0, test a unit that was not read,
-- and go back to no offset
abbrev pub CannotDo : Piece → Stmt → Machine → Type 0
CannotDo piece Peek machine = (machine.limit ≤ machine.cursor) × (machine.cursor ≡ machine.limit → piece.eof ≡ None)
CannotDo piece Skip machine = machine.limit ≤ machine.cursor
CannotDo piece (MSet history) machine = history ≡ 0
CannotDo piece (MUnset history) machine = history ≡ 0
CannotDo piece (MCopy history source) machine = history ≡ 0
CannotDo piece (IfUnit greatest block) machine = machine.unit ≡ None
CannotDo piece (IfIs unit block) machine = machine.unit ≡ None
CannotDo piece (IfSet set block) machine = machine.unit ≡ None
CannotDo piece (Switch cases last) machine = machine.unit ≡ None
CannotDo piece (Back register) machine = machine.registers register ≡ None
CannotDo piece _ machine = ⊥

-- where the statement asks for a refill, the state that was stored last has a block to come back to
abbrev pub HasWayBack : Piece → Stmt → Machine → Type 0
HasWayBack piece statement machine =
    is_refill statement ≡ true → code_at piece.blocks (stored_block piece.blocks machine.state) ≡ None → ⊥
