-- The rules of a valid piece, in groups that are tested together.
use Rattle.std.specs.Prelude.{◌≡◌, ℕ, ◌<◌, ◌≤◌, ◌*◌, ◌^◌, ◌⊎◌, Bool, false, true, List, length, map, Option, Some, IfSome}
use Rattle.std.specs.List.{AllByRecursion, list_any}
use Rattle.lx_base.specs.declared.limits.TheConstants.{STATEMENT_LIMIT}
use Rattle.lx_base.specs.Letters.{IsIdentifier}
use Rattle.lx_base.specs.Names.{AreAllowed, AreDistinct, DoNotClash, Spellings}
use Rattle.lx_base.specs.Names.{name_primitives, name_table}
use Rattle.lx_ccode.specs.declared.piece.Stmt.{Stmt}
use Rattle.lx_ccode.specs.declared.piece.CodeBlock.{CodeBlock}
use Rattle.lx_ccode.specs.declared.piece.CondCase.{CondCase}
use Rattle.lx_ccode.specs.declared.piece.Piece.{Piece}
use Rattle.lx_ccode.specs.Counts.{table_size}
use Rattle.lx_ccode.specs.Heads.{is_custom, is_three}
use Rattle.lx_ccode.specs.Labels.{is_like_block}
use Rattle.lx_ccode.specs.Statements.{all_statements, has_register_one, is_need, is_of_three, is_state, is_switch, is_try, names_table, statement_count}
use Rattle.lx_ccode.specs.Validity.{HasFewGroups, HasSpelling, IsByte, IsLabel, IsLine, IsLong, IsShort, JumpsBelow, NamesOneOf, ends_once, label_of, labels, last_statements, refills_after_states, states_before_refills, tries_after_state}

-- the statement keeps the rules in a piece with these spellings, these conditions and so many blocks
pub record IsValidStatement (names : Spellings) (conds : List (List ℕ)) (blocks : ℕ) (statement : Stmt) : Type 0 where
  pub jumps : JumpsBelow blocks statement
  pub named : NamesOneOf conds statement
  pub groups : HasFewGroups statement
  pub spelled : HasSpelling names statement

-- the block keeps the rules
pub record IsValidBlock (names : Spellings) (conds : List (List ℕ)) (blocks : ℕ) (block : CodeBlock) : Type 0 where
  pub some : 0 < length block.stmts
  pub label : IsLabel block.cond
  pub ends : ends_once block.stmts ≡ true
  pub after_states : refills_after_states block.stmts ≡ true
  pub statements : AllByRecursion (IsValidStatement names conds blocks) block.stmts

-- the case of a condition is an identifier and goes to the block that is its start
pub record IsValidCase (blocks : List CodeBlock) (case : CondCase) : Type 0 where
  pub identifier : IsIdentifier case.cond
  pub long : IsLong case.block
  pub start : label_of blocks case.block ≡ Some case.cond

-- the rules of conditions
pub record KeepCondRules (blocks : List CodeBlock) (conds : List CondCase) : Type 0 where
  pub labels : map (λ case. case.cond) conds ≡ labels blocks
  pub differ : AreDistinct (map (λ case. case.cond) conds)
  pub valid : AllByRecursion (IsValidCase blocks) conds

-- a unit has one, two or four bytes, and the unit at the buffer's end is one
pub record HasUnit (unit : ℕ) (eof : Option ℕ) : Type 0 where
  pub size : (unit ≡ 1) ⊎ ((unit ≡ 2) ⊎ (unit ≡ 4))
  pub fits : IfSome eof (λ eof. eof < 2 ^ (8 * unit))

-- the rules of what stands beside the blocks and the conditions
pub record KeepsHeadRules (piece : Piece) : Type 0 where
  pub number : IsShort piece.number
  pub line : IsLine piece.line
  pub states : IfSome piece.states (λ cases. AllByRecursion (λ case. IsLong case.state × IsLong case.block) cases)
  pub unit : HasUnit piece.unit piece.eof
  pub names : AreAllowed piece.names
  pub names_differ : DoNotClash piece.names
  pub no_primitive : is_custom piece.head ≡ true → name_primitives piece.names ≡ false
  pub head : IfSome piece.head (λ head. IsShort head.regs × IsShort head.mregs × IsLong head.states)
  pub table : AllByRecursion IsByte piece.table

-- the rules of formats: what stands in pieces of format 3 alone, and what these may not have
pub record KeepsFormatRules (piece : Piece) : Type 0 where
  pub of_three : list_any is_of_three (all_statements piece.blocks) ≡ true → is_three piece.head ≡ true
  pub switches : list_any is_switch (all_statements piece.blocks) ≡ true → piece.unit ≡ 1
  pub table : length piece.table ≡ table_size piece.blocks
  pub no_table : is_three piece.head ≡ true → name_table piece.names ≡ false
  pub no_table_tag : is_three piece.head ≡ true → list_any names_table (all_statements piece.blocks) ≡ false
  pub no_block_label : is_three piece.head ≡ true → list_any (is_like_block piece.number piece.names) (labels piece.blocks) ≡ false

-- the rules of blocks one by one
pub record KeepsBlockRules (names : Spellings) (conds : List (List ℕ)) (blocks : List CodeBlock) : Type 0 where
  pub some : 0 < length blocks
  pub countable : statement_count blocks ≤ STATEMENT_LIMIT
  pub valid : AllByRecursion (IsValidBlock names conds (length blocks)) blocks

-- the rules of refills, states and the context marker
pub record KeepsKindRules (ctx : Bool) (blocks : List CodeBlock) : Type 0 where
  pub one_refill : (list_any is_need (all_statements blocks) ≡ false) ⊎ (list_any is_try (all_statements blocks) ≡ false)
  pub before_refills : list_any is_state (all_statements blocks) ≡ true → AllByRecursion (λ block. states_before_refills false block.stmts ≡ true) blocks
  pub next_block : tries_after_state false (last_statements blocks) ≡ false
  pub context : ctx ≡ true → list_any has_register_one (all_statements blocks) ≡ true
