-- A piece whose numbers stop at the greatest number of their fields. A valid piece is its own.
use Rattle.std.specs.Prelude.{ℕ, List, Option, Some, None, map, min}
use Rattle.lx_ccode.specs.declared.piece.Head.{Head}
use Rattle.lx_ccode.specs.declared.piece.LineMark.{LineMark}
use Rattle.lx_ccode.specs.declared.piece.Stmt.{Stmt}
use Rattle.lx_ccode.specs.declared.piece.Stmt.TheVariants.{Peek, Skip, Backup, Restore, Accept, Set, Unset, Copy, MSet, MUnset, MCopy, IfUnit, IfIs, IfSet, IfAccept, IfEnd, State, Need, Try, Cond, Tag, Count, End, Back, Switch, Goto, Leave, Code, Jump}
use Rattle.lx_ccode.specs.declared.piece.StateCase.{StateCase}
use Rattle.lx_ccode.specs.declared.piece.CondCase.{CondCase}
use Rattle.lx_ccode.specs.declared.piece.CodeBlock.{CodeBlock}
use Rattle.lx_ccode.specs.declared.piece.SwitchCase.{SwitchCase}
use Rattle.lx_ccode.specs.declared.piece.Piece.{Piece}

-- the number, or the greatest of 32 bits
abbrev pub short : ℕ → ℕ
short number = min number 4294967295

-- the number, or the greatest of 64 bits
abbrev pub long : ℕ → ℕ
long number = min number 18446744073709551615

-- the number, or the greatest of a byte
abbrev pub tiny : ℕ → ℕ
tiny number = min number 255

abbrev pub fitted_case : SwitchCase → SwitchCase
fitted_case case = record { units = map tiny case.units; block = long case.block }

abbrev pub fitted_mark : LineMark → LineMark
fitted_mark mark = record mark { line = short mark.line }

abbrev pub fitted_line : Option LineMark → Option LineMark
fitted_line None = None
fitted_line (Some mark) = Some (fitted_mark mark)

abbrev pub fitted_statement : Stmt → Stmt
fitted_statement Peek = Peek
fitted_statement Skip = Skip
fitted_statement Backup = Backup
fitted_statement Restore = Restore
fitted_statement (Accept accept) = Accept (short accept)
fitted_statement (Set register) = Set (short register)
fitted_statement (Unset register) = Unset (short register)
fitted_statement (Copy register source) = Copy (short register) (short source)
fitted_statement (MSet history) = MSet (short history)
fitted_statement (MUnset history) = MUnset (short history)
fitted_statement (MCopy history source) = MCopy (short history) (short source)
fitted_statement (IfUnit greatest block) = IfUnit (short greatest) (long block)
fitted_statement (IfIs unit block) = IfIs (short unit) (long block)
fitted_statement (IfSet set block) = IfSet (short set) (long block)
fitted_statement (IfAccept accept block) = IfAccept (short accept) (long block)
fitted_statement (IfEnd block) = IfEnd (long block)
fitted_statement (State state) = State (long state)
fitted_statement (Need units) = Need (short units)
fitted_statement (Try block) = Try (long block)
fitted_statement (Cond cond) = Cond cond
fitted_statement (Tag tag is_history register) = Tag tag is_history (short register)
fitted_statement (Count groups) = Count (short groups)
fitted_statement (End place register) = End (short place) (short register)
fitted_statement (Back register) = Back (short register)
fitted_statement (Switch cases last) = Switch (map fitted_case cases) (long last)
fitted_statement (Goto block) = Goto (long block)
fitted_statement Leave = Leave
fitted_statement (Code rule line action) = Code (short rule) (fitted_line line) action
fitted_statement (Jump cond rule) = Jump cond (short rule)

abbrev pub fitted_block : CodeBlock → CodeBlock
fitted_block block = record block { stmts = map fitted_statement block.stmts }

abbrev pub fitted_state : StateCase → StateCase
fitted_state case = record { state = long case.state; block = long case.block }

abbrev pub fitted_cond : CondCase → CondCase
fitted_cond case = record case { block = long case.block }

abbrev pub fitted_fields : Head → Head
fitted_fields head = record head { regs = short head.regs; mregs = short head.mregs; states = long head.states }

abbrev pub fitted_head : Option Head → Option Head
fitted_head None = None
fitted_head (Some head) = Some (fitted_fields head)

abbrev pub fitted_eof : Option ℕ → Option ℕ
fitted_eof None = None
fitted_eof (Some eof) = Some (short eof)

abbrev pub fitted_states : Option (List StateCase) → Option (List StateCase)
fitted_states None = None
fitted_states (Some cases) = Some (map fitted_state cases)

abbrev pub fitted : Piece → Piece
fitted piece = record piece {
  number = short piece.number;
  head = fitted_head piece.head;
  unit = short piece.unit;
  eof = fitted_eof piece.eof;
  table = map tiny piece.table;
  states = fitted_states piece.states;
  conds = map fitted_cond piece.conds;
  blocks = map fitted_block piece.blocks;
  line = fitted_line piece.line;
}
