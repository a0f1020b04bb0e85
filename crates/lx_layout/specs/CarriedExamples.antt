-- Examples of automata that pieces carry.
use Rattle.std.specs.Prelude.{List, [], ◌∷◌, Some, None}
use Rattle.lx_auto.specs.Examples.{dotted}
use Rattle.lx_auto.specs.declared.automaton.Auto.{Auto}
use Rattle.lx_base.specs.Names.{Spellings}
use Rattle.lx_ccode.specs.declared.piece.Piece.{Piece}
use Rattle.lx_ccode.specs.declared.piece.Stmt.{Stmt}
use Rattle.lx_ccode.specs.declared.piece.Stmt.TheVariants.{Accept, Backup, Code, Goto, IfAccept, IfEnd, IfUnit, Leave, Need, Peek, Restore, Skip, State, Try}
use Rattle.lx_layout.specs.Carries.{Carries}
use Rattle.lx_layout.specs.Examples.{any_then, bytes_piece, dotted_blocks, tagged, untagged}

-- an automaton of the rule `"a" ("ba")*` with the number 1, for bytes
abbrev pub paired : Auto
paired = record {
  states = record {
    edges = record { lo = 97; hi = 97; ops = []; to = 1 } ∷ [];
    accept = None;
    leave = [];
  } ∷ record {
    edges = record { lo = 98; hi = 98; ops = []; to = 0 } ∷ [];
    accept = Some (record { rule = 1; ops = []; values = [] });
    leave = [];
  } ∷ [];
  regs = 0;
  mregs = 0;
}

-- State 0 stands at block 0 and state 1 at block 2. In block 3 state 1 is saved, and in block 4 a match falls back to it.
abbrev pub paired_blocks : List (List Stmt)
paired_blocks =
    (Peek ∷ IfUnit 96 4 ∷ IfUnit 97 1 ∷ Goto 4 ∷ [])
    ∷ (Skip ∷ Goto 2 ∷ [])
    ∷ (Peek ∷ IfUnit 97 6 ∷ IfUnit 98 3 ∷ Goto 6 ∷ [])
    ∷ (Backup ∷ Accept 1 ∷ Skip ∷ Goto 0 ∷ [])
    ∷ (IfAccept 1 5 ∷ Leave ∷ [])
    ∷ (Restore ∷ Goto 6 ∷ [])
    ∷ (Code 1 None (97 ∷ []) ∷ [])
    ∷ []

-- The same with the eof unit 0, refills, stored states, and a rule 2 for the end of the stream. A match begins at block 0, which asks for
-- more units, and at the end does what rule 2 does. State 0 stands at block 4, where the end is none of a match, and state 1 at block 9.
abbrev pub ended_blocks : List (List Stmt)
ended_blocks =
    (Peek ∷ IfUnit 0 1 ∷ IfUnit 96 14 ∷ IfUnit 97 8 ∷ Goto 14 ∷ [])
    ∷ (IfEnd 2 ∷ Goto 14 ∷ [])
    ∷ (State 0 ∷ Try 0 ∷ Goto 17 ∷ [])
    ∷ (IfEnd 17 ∷ Goto 0 ∷ [])
    ∷ (Peek ∷ IfUnit 0 5 ∷ IfUnit 96 14 ∷ IfUnit 97 8 ∷ Goto 14 ∷ [])
    ∷ (IfEnd 6 ∷ Goto 14 ∷ [])
    ∷ (State 1 ∷ Try 4 ∷ Goto 14 ∷ [])
    ∷ (IfEnd 14 ∷ Goto 4 ∷ [])
    ∷ (Skip ∷ Goto 9 ∷ [])
    ∷ (Peek ∷ IfUnit 0 10 ∷ IfUnit 97 16 ∷ IfUnit 98 13 ∷ Goto 16 ∷ [])
    ∷ (IfEnd 11 ∷ Goto 16 ∷ [])
    ∷ (State 2 ∷ Try 9 ∷ Goto 16 ∷ [])
    ∷ (IfEnd 16 ∷ Goto 9 ∷ [])
    ∷ (Backup ∷ Accept 1 ∷ Skip ∷ Goto 4 ∷ [])
    ∷ (IfAccept 1 15 ∷ Leave ∷ [])
    ∷ (Restore ∷ Goto 16 ∷ [])
    ∷ (Code 1 None (97 ∷ []) ∷ [])
    ∷ (Code 2 None (97 ∷ []) ∷ [])
    ∷ []

abbrev pub ended_piece : Spellings → Piece
ended_piece names = record (bytes_piece names ended_blocks) {
  eof = Some 0;
  states = Some (record { state = 0; block = 3 } ∷ record { state = 1; block = 7 } ∷ record { state = 2; block = 12 } ∷ []);
}

-- an automaton of the rule `"ab"` with the number 1, for bytes
abbrev pub both : Auto
both = record {
  states = record {
    edges = record { lo = 97; hi = 97; ops = []; to = 1 } ∷ [];
    accept = None;
    leave = [];
  } ∷ record {
    edges = record { lo = 98; hi = 98; ops = []; to = 2 } ∷ [];
    accept = None;
    leave = [];
  } ∷ record {
    edges = [];
    accept = Some (record { rule = 1; ops = []; values = [] });
    leave = [];
  } ∷ [];
  regs = 0;
  mregs = 0;
}

-- It checks for two units before it reads the first one. State 2 has no edge, and stands at the end of rule 1.
abbrev pub checked_blocks : List (List Stmt)
checked_blocks =
    (State 0 ∷ Need 2 ∷ Peek ∷ IfUnit 96 4 ∷ IfUnit 97 1 ∷ Goto 4 ∷ [])
    ∷ (Skip ∷ Goto 2 ∷ [])
    ∷ (Peek ∷ IfUnit 97 4 ∷ IfUnit 98 3 ∷ Goto 4 ∷ [])
    ∷ (Skip ∷ Goto 5 ∷ [])
    ∷ (Leave ∷ [])
    ∷ (Code 1 None (97 ∷ []) ∷ [])
    ∷ []

abbrev pub checked_piece : Spellings → Piece
checked_piece names = record (bytes_piece names checked_blocks) { states = Some (record { state = 0; block = 0 } ∷ []) }

-- The pieces carry their automata: one without registers, the same with the end of the stream, one with checks, and one with a tag. The
-- first one carries no automaton of another rule.
pub record PiecesCarry (names : Spellings) : Type 0 where
  pub pairs : Carries (bytes_piece names paired_blocks) 0 untagged paired
  pub ended : Carries (ended_piece names) 0 untagged paired
  pub checks : Carries (checked_piece names) 0 untagged both
  pub tag : Carries (bytes_piece names dotted_blocks) 0 tagged dotted
  pub other : Carries (bytes_piece names paired_blocks) 0 untagged any_then → ⊥
