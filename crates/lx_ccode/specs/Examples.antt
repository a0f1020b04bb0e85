-- Small pieces, which together have every statement.
use Rattle.std.specs.Prelude.{ℕ, zero, suc, Bool, true, false, List, [], ◌∷◌, ◌++◌, codes, Some, None}
use Rattle.lx_base.specs.Names.{usual_names}
use Rattle.lx_base.specs.declared.settings.Enc.TheVariants.{Byte, Ucs2, Utf8}
use Rattle.lx_base.specs.declared.settings.Format.TheVariants.{Two, Three}
use Rattle.lx_ccode.specs.declared.piece.Head.{Head}
use Rattle.lx_ccode.specs.declared.piece.Mode.TheVariants as mode
use Rattle.lx_ccode.specs.declared.piece.Stmt.{Stmt}
use Rattle.lx_ccode.specs.declared.piece.Stmt.TheVariants.{Peek, Skip, Backup, Restore, Accept, Set, Unset, Copy, MSet, MUnset, MCopy, IfUnit, IfIs, IfSet, IfAccept, IfEnd, State, Need, Try, Cond, Tag, Count, End, Back, Switch, Goto, Leave, Code, Jump}
use Rattle.lx_ccode.specs.declared.piece.CodeBlock.{CodeBlock}
use Rattle.lx_ccode.specs.declared.piece.Piece.{Piece}

-- a block that is the start of no condition
abbrev pub block : List Stmt → CodeBlock
block statements = record { cond = None; stmts = statements }

-- a block that is the start of a condition
abbrev pub start_of : List ℕ → List Stmt → CodeBlock
start_of cond statements = record { cond = Some cond; stmts = statements }

-- the piece with a head
abbrev pub headed : Head → Piece → Piece
headed head piece = record piece { head = Some head }

-- `a` before a `b`, by its context marker and with two tags, or else `a` alone, after a step back to the marker
abbrev pub context_example : Piece
context_example = record {
  number = 1;
  head = None;
  names = usual_names;
  unit = 1;
  eof = None;
  declares = true;
  ctx = true;
  table = [];
  states = None;
  conds = [];
  blocks =
      block (Peek ∷ IfUnit 0x60 5 ∷ IfUnit 0x61 1 ∷ Goto 5 ∷ [])
      ∷ block (Skip ∷ Set 1 ∷ Unset 2 ∷ MSet 1 ∷ Backup ∷ Accept 1 ∷ Peek ∷ IfUnit 0x61 3 ∷ IfUnit 0x62 2 ∷ Goto 3 ∷ [])
      ∷ block (Skip ∷ Copy 2 1 ∷ MUnset 2 ∷ MCopy 3 1 ∷ Tag (codes "s") false 2 ∷ Tag (codes "h") true 3 ∷ Back 1
      ∷ Code 1 (Some (record { line = 3; file = codes "a\"b.re" })) (codes "{ return 1; }") ∷ [])
      ∷ block (IfAccept 1 4 ∷ Goto 5 ∷ [])
      ∷ block (Restore ∷ Code 2 (Some (record { line = 4; file = codes "a\"b.re" })) (codes "{ return 2; }") ∷ [])
      ∷ block (Leave ∷ [])
      ∷ [];
  line = Some (record { line = 5; file = codes "a\"b.re" });
}

-- in condition A an `a` goes on in condition B, where a `b` goes back to A; it stores its state before each refill
abbrev pub stored_example : Piece
stored_example = record {
  number = 2;
  head = None;
  names = usual_names;
  unit = 1;
  eof = Some 0;
  declares = false;
  ctx = false;
  table = [];
  states = Some (record { state = 0; block = 4 } ∷ record { state = 1; block = 10 } ∷ []);
  conds = record { cond = codes "A"; block = 0 } ∷ record { cond = codes "B"; block = 6 } ∷ [];
  blocks =
      start_of (codes "A") (Peek ∷ IfUnit 0x00 2 ∷ IfUnit 0x60 5 ∷ IfUnit 0x61 1 ∷ Goto 5 ∷ [])
      ∷ block (Skip ∷ Cond (codes "B") ∷ Jump (codes "B") 1 ∷ [])
      ∷ block (IfEnd 3 ∷ Goto 5 ∷ [])
      ∷ block (State 0 ∷ Try 0 ∷ Goto 5 ∷ [])
      ∷ block (IfEnd 5 ∷ Goto 0 ∷ [])
      ∷ block (Leave ∷ [])
      ∷ start_of (codes "B") (Peek ∷ IfUnit 0x00 8 ∷ IfUnit 0x61 11 ∷ IfUnit 0x62 7 ∷ Goto 11 ∷ [])
      ∷ block (Skip ∷ Cond (codes "A") ∷ Code 2 None (codes "{ return 2; }") ∷ [])
      ∷ block (IfEnd 9 ∷ Goto 11 ∷ [])
      ∷ block (State 1 ∷ Try 6 ∷ Goto 11 ∷ [])
      ∷ block (IfEnd 11 ∷ Goto 6 ∷ [])
      ∷ block (Leave ∷ [])
      ∷ [];
  line = None;
}

-- two units of which the first is an `a` or comes behind it, as a group; it checks for both before it reads
abbrev pub checked_example : Piece
checked_example = record {
  number = 3;
  head = None;
  names = usual_names;
  unit = 2;
  eof = None;
  declares = false;
  ctx = false;
  table = [];
  states = Some (record { state = 7; block = 0 } ∷ []);
  conds = [];
  blocks =
      block (State 7 ∷ Need 2 ∷ Set 1 ∷ Peek ∷ IfUnit 0x60 2 ∷ IfUnit 0x100A 1 ∷ Goto 2 ∷ [])
      ∷ block (Skip ∷ Set 2 ∷ Skip ∷ Count 1 ∷ End 0 1 ∷ End 1 2 ∷ Code 1 None (codes "{ return 1; }") ∷ [])
      ∷ block (Leave ∷ [])
      ∷ [];
  line = None;
}

-- reads the same unit for ever
abbrev pub spinning_example : Piece
spinning_example = record context_example { blocks = block (Peek ∷ Goto 0 ∷ []) ∷ []; ctx = false }

-- copies between two registers, one behind another
abbrev pub copying_example : Piece
copying_example = record context_example {
  blocks = block (Set 1 ∷ Skip ∷ Set 2 ∷ Copy 1 2 ∷ Copy 2 1 ∷ Tag (codes "s") false 1 ∷ Tag (codes "t") false 2 ∷ Leave ∷ []) ∷ [];
}

-- the rule for the empty word, which reads nothing
abbrev pub lone_example : Piece
lone_example = record context_example { blocks = block (Code 1 None (codes "{ return 1; }") ∷ []) ∷ []; ctx = false }

-- one rule at the end of the units and another one before, by a question alone
abbrev pub asking_example : Piece
asking_example = record context_example {
  blocks = block (IfEnd 1 ∷ Code 1 None (codes "{ return 1; }") ∷ []) ∷ block (Code 2 None (codes "{ return 2; }") ∷ []) ∷ [];
  ctx = false;
}

-- the heads of the examples that have every statement
abbrev pub context_head : (custom : Bool) → Head
context_head custom = record { format = Two; custom = custom; enc = Utf8; mode = mode.Plain; regs = 2; mregs = 4; states = 0 }

abbrev pub stored_head : (custom : Bool) → Head
stored_head custom = record { format = Two; custom = custom; enc = Byte; mode = mode.Eof; regs = 0; mregs = 0; states = 2 }

abbrev pub checked_head : (custom : Bool) → Head
checked_head custom = record { format = Two; custom = custom; enc = Ucs2; mode = mode.Count; regs = 2; mregs = 0; states = 1 }

abbrev pub zeros : (count : ℕ) → List ℕ
zeros zero = []
zeros (suc count) = 0 ∷ zeros count

-- `a` alone, `x` or `y` as often as they follow one another and then `a`, or else `b` or `d`; `x` is set 0 and `y` is set 1
abbrev pub tested_example : (custom : Bool) → Piece
tested_example custom = record {
  number = 4;
  head = Some (record { format = Three; custom = custom; enc = Byte; mode = mode.Plain; regs = 0; mregs = 0; states = 0 });
  names = usual_names;
  unit = 1;
  eof = None;
  declares = true;
  ctx = false;
  table = zeros 120 ++ 1 ∷ 2 ∷ zeros 134;
  states = None;
  conds = [];
  blocks =
      block (Peek ∷ IfIs 0x61 1 ∷ IfSet 0 2 ∷ IfSet 1 2 ∷ Switch (record { units = 0x62 ∷ 0x64 ∷ []; block = 3 } ∷ record { units = 0x00 ∷ []; block = 4 } ∷ []) 5 ∷ [])
      ∷ block (Skip ∷ Code 1 None (codes "{ return 1; }") ∷ [])
      ∷ block (Skip ∷ Goto 0 ∷ [])
      ∷ block (Skip ∷ Code 2 None (codes "{ return 2; }") ∷ [])
      ∷ block (Leave ∷ [])
      ∷ block (Leave ∷ [])
      ∷ [];
  line = None;
}

-- the unit 0x41, which is in the ninth set, of units of two bytes; the first set has none
abbrev pub wide_example : (custom : Bool) → Piece
wide_example custom = record {
  number = 5;
  head = Some (record { format = Three; custom = custom; enc = Ucs2; mode = mode.Plain; regs = 0; mregs = 0; states = 0 });
  names = usual_names;
  unit = 2;
  eof = None;
  declares = false;
  ctx = false;
  table = zeros 321 ++ 1 ∷ zeros 190;
  states = None;
  conds = [];
  blocks =
      block (Peek ∷ IfSet 0 3 ∷ IfSet 8 1 ∷ Goto 2 ∷ [])
      ∷ block (Skip ∷ Code 1 None (codes "{ return 1; }") ∷ [])
      ∷ block (Leave ∷ [])
      ∷ block (Skip ∷ Code 2 None (codes "{ return 2; }") ∷ [])
      ∷ [];
  line = None;
}

-- a condition `A` whose `x` goes on at the start of `B`, and a condition `B` whose `y` is a rule; no block is gone to as the start of a
-- condition, and actions have places in the source
abbrev pub placed_example : Piece
placed_example = record {
  number = 6;
  head = Some (record { format = Three; custom = false; enc = Byte; mode = mode.Plain; regs = 0; mregs = 0; states = 0 });
  names = usual_names;
  unit = 1;
  eof = None;
  declares = true;
  ctx = false;
  table = [];
  states = None;
  conds = record { cond = codes "A"; block = 0 } ∷ record { cond = codes "B"; block = 3 } ∷ [];
  blocks =
      start_of (codes "A") (Peek ∷ IfIs 0x78 1 ∷ Goto 2 ∷ [])
      ∷ block (Skip ∷ Cond (codes "B") ∷ Jump (codes "B") 1 ∷ [])
      ∷ block (Leave ∷ [])
      ∷ start_of (codes "B") (Accept 1 ∷ Peek ∷ IfIs 0x79 4 ∷ Goto 2 ∷ [])
      ∷ block (Skip ∷ Cond (codes "A") ∷ Code 2 (Some (record { line = 3; file = codes "a.re" })) (codes "{ return 2; }") ∷ [])
      ∷ [];
  line = Some (record { line = 5; file = codes "a.re" });
}

-- the head of format 3 of the example with stored states
abbrev pub kept_head : (custom : Bool) → Head
kept_head custom = record { format = Three; custom = custom; enc = Byte; mode = mode.Eof; regs = 0; mregs = 0; states = 2 }
