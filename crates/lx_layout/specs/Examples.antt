-- Examples of layouts, and of runs.
use Rattle.std.specs.Prelude.{◌≡◌, ℕ, zero, suc, nat_eq, List, [], ◌∷◌, Option, Some, None, false, true, length, map}
use Rattle.lx_auto.specs.Examples.{dotted}
use Rattle.lx_auto.specs.declared.automaton.Auto.{Auto}
use Rattle.lx_base.specs.Names.{Spellings}
use Rattle.lx_ccode.specs.declared.piece.Piece.{Piece}
use Rattle.lx_ccode.specs.declared.piece.Stmt.{Stmt}
use Rattle.lx_ccode.specs.declared.piece.Stmt.TheVariants.{Accept, Backup, Code, Goto, IfAccept, IfUnit, Leave, Need, Peek, Restore, Set, Skip, Tag}
use Rattle.lx_ccode.specs.declared.piece.Mode.TheVariants.{Count}
use Rattle.lx_ccode.specs.Machine.{at_end, by_rule, no_rule, tag_offset}
use Rattle.lx_ccode.specs.Runs.{Ended}
use Rattle.lx_layout.specs.Endings.{Ending}
use Rattle.lx_layout.specs.Halting.{Halting}
use Rattle.lx_layout.specs.Layout.{class_block}
use Rattle.lx_layout.specs.RightInMode.{EndsAtCheck}
use Rattle.lx_layout.specs.Starts.{run_with}
use Rattle.lx_layout.specs.SuppliedLayout.{EachReader, reader_blocks, supplied_layout, with_blocks}
use Rattle.lx_layout.specs.Supplies.{Reader, entry, plain_supply, state}
use Rattle.lx_dispatch.specs.TestTrees.{IsTreeOf, TestTree, at_most, fork, leaf, test}
use Rattle.lx_dispatch.specs.TransitionClasses.{Split}
use Rattle.lx_base.specs.declared.settings.Format.TheVariants.{Two}

-- each rule has the tag `t`, and the action `a`
abbrev pub tagged : ℕ → Ending
tagged rule = record { tags = (116 ∷ []) ∷ []; slash = None; groups = 0; goes_to = None; action = Some (97 ∷ []); line = None; forgets = false }

-- Trees of tests for the automaton of `[a-cx-z] ("." [a-cx-z])* @t` for bytes. In state 0 the units behind 96 are parted behind 119.
abbrev pub dotted_tree : (number : ℕ) → TestTree (Option ℕ)
dotted_tree zero = test (at_most 96) None (fork (at_most 119) (test (at_most 99) (Some 0) (leaf None)) (test (at_most 122) (Some 0) (leaf None)))
dotted_tree (suc number) = test (at_most 45) None (test (at_most 46) (Some 0) (leaf None))

abbrev pub dotted_trees : Reader → TestTree (Option ℕ)
dotted_trees entry = dotted_tree 0
dotted_trees (state number) = dotted_tree number

-- a match can end in both states, and falls back from state 0, which does not accept
abbrev pub dotted_halting : Halting
dotted_halting = record { halts = λ number. true; falls = λ number. nat_eq number 0; format = Two }

-- The layout by them. The two ranges of state 0 are one class; the units from 97 up to 119 are tested in block 1. State 1 stands from block
-- 3 on: a dot, on which it is saved, and the end in it. Then come the fallback, what it does for rule 1, and the end of rule 1.
abbrev pub dotted_blocks : List (List Stmt)
dotted_blocks =
    (Peek ∷ IfUnit 96 6 ∷ IfUnit 119 1 ∷ IfUnit 122 2 ∷ Goto 6 ∷ [])
    ∷ (IfUnit 99 2 ∷ Goto 6 ∷ [])
    ∷ (Skip ∷ Goto 3 ∷ [])
    ∷ (Peek ∷ IfUnit 45 5 ∷ IfUnit 46 4 ∷ Goto 5 ∷ [])
    ∷ (Backup ∷ Accept 1 ∷ Set 1 ∷ Skip ∷ Goto 0 ∷ [])
    ∷ (Set 1 ∷ Goto 8 ∷ [])
    ∷ (IfAccept 1 7 ∷ Leave ∷ [])
    ∷ (Restore ∷ Goto 8 ∷ [])
    ∷ (Tag (116 ∷ []) false 1 ∷ Code 1 None (97 ∷ []) ∷ [])
    ∷ []

-- An automaton of `[^] [a-z]*` with the rule 1. On any byte state 0 goes on, so it has no test, and no match can end in it. The end in
-- state 1 is the rule's block. No match falls back from a state, so there is no fallback.
abbrev pub any_then : Auto
any_then = record {
  states = record {
    edges = record { lo = 0; hi = 255; ops = []; to = 1 } ∷ [];
    accept = None;
    leave = [];
  } ∷ record {
    edges = record { lo = 97; hi = 122; ops = []; to = 1 } ∷ [];
    accept = Some (record { rule = 1; ops = []; values = [] });
    leave = [];
  } ∷ [];
  regs = 0;
  mregs = 0;
}

abbrev pub any_tree : (number : ℕ) → TestTree (Option ℕ)
any_tree zero = leaf (Some 0)
any_tree (suc number) = test (at_most 96) None (test (at_most 122) (Some 0) (leaf None))

abbrev pub any_trees : Reader → TestTree (Option ℕ)
any_trees entry = any_tree 0
any_trees (state number) = any_tree number

abbrev pub any_halting : Halting
any_halting = record { halts = λ number. nat_eq number 1; falls = λ number. false; format = Two }

abbrev pub any_blocks : List (List Stmt)
any_blocks =
    (Skip ∷ Goto 1 ∷ [])
    ∷ (Peek ∷ IfUnit 96 3 ∷ IfUnit 122 2 ∷ Goto 3 ∷ [])
    ∷ (Skip ∷ Goto 1 ∷ [])
    ∷ (Code 1 None (97 ∷ []) ∷ [])
    ∷ []

abbrev pub untagged : ℕ → Ending
untagged rule = record { tags = []; slash = None; groups = 0; goes_to = None; action = Some (97 ∷ []); line = None; forgets = false }

-- the layouts stand, and their trees are trees of the tests of the states
pub record LayoutsStand : Type 0 where
  pub dotted_stands : supplied_layout plain_supply dotted_halting tagged None dotted_trees dotted 0 ≡ dotted_blocks
  pub dotted_are : EachReader IsTreeOf None 255 dotted_trees dotted
  pub any_stands : supplied_layout plain_supply any_halting untagged None any_trees any_then 0 ≡ any_blocks
  pub any_are : EachReader IsTreeOf None 255 any_trees any_then

-- units are of class 0 up to 10, of class 1 up to 20, and so on; behind the last of seven tests they are of class 7
abbrev pub seven : Split
seven = record {
  tests =
      record { greatest = 10; class = Some 0 } ∷ record { greatest = 20; class = Some 1 } ∷ record { greatest = 30; class = Some 2 }
      ∷ record { greatest = 40; class = Some 3 } ∷ record { greatest = 50; class = Some 4 } ∷ record { greatest = 60; class = Some 5 }
      ∷ record { greatest = 70; class = Some 6 } ∷ [];
  last = Some 7;
}

abbrev pub seven_tree : TestTree (Option ℕ)
seven_tree =
    fork (at_most 40) (test (at_most 10) (Some 0) (test (at_most 20) (Some 1) (test (at_most 30) (Some 2) (leaf (Some 3)))))
    (test (at_most 50) (Some 4) (test (at_most 60) (Some 5) (test (at_most 70) (Some 6) (leaf (Some 7)))))

-- letters, digits and `_` are of class 0, and others of none
abbrev pub letters : Split
letters = record {
  tests =
      record { greatest = 47; class = None } ∷ record { greatest = 57; class = Some 0 } ∷ record { greatest = 64; class = None }
      ∷ record { greatest = 90; class = Some 0 } ∷ record { greatest = 94; class = None } ∷ record { greatest = 95; class = Some 0 }
      ∷ record { greatest = 96; class = None } ∷ record { greatest = 122; class = Some 0 } ∷ [];
  last = None;
}

abbrev pub letters_tree : TestTree (Option ℕ)
letters_tree =
    test (at_most 47) None (fork (at_most 94) (fork (at_most 64) (test (at_most 57) (Some 0) (leaf None)) (test (at_most 90) (Some 0) (leaf None)))
    (fork (at_most 96) (test (at_most 95) (Some 0) (leaf None)) (test (at_most 122) (Some 0) (leaf None))))

-- Of eight runs and of nine each unit needs four tests at most. The tests of eight are parted in the middle. Those of nine begin before the
-- digits, and are parted in halves behind that.
pub record TestsAreFew : Type 0 where
  pub seven_is : IsTreeOf seven seven_tree
  pub seven_stands : reader_blocks None entry None 0 0 (with_blocks (class_block 2 10) seven_tree) ≡
      (Peek ∷ IfUnit 40 1 ∷ IfUnit 50 6 ∷ IfUnit 60 7 ∷ IfUnit 70 8 ∷ Goto 9 ∷ [])
      ∷ (IfUnit 10 2 ∷ IfUnit 20 3 ∷ IfUnit 30 4 ∷ Goto 5 ∷ [])
      ∷ []
  pub letters_is : IsTreeOf letters letters_tree
  pub letters_stand : reader_blocks None entry None 0 0 (with_blocks (class_block 4 5) letters_tree) ≡
      (Peek ∷ IfUnit 47 5 ∷ IfUnit 94 1 ∷ IfUnit 96 3 ∷ IfUnit 122 4 ∷ Goto 5 ∷ [])
      ∷ (IfUnit 64 2 ∷ IfUnit 90 4 ∷ Goto 5 ∷ [])
      ∷ (IfUnit 57 4 ∷ Goto 5 ∷ [])
      ∷ (IfUnit 95 4 ∷ Goto 5 ∷ [])
      ∷ []

-- a piece of these blocks, with the usual spellings
abbrev pub bytes_piece : Spellings → List (List Stmt) → Piece
bytes_piece names codes = record {
  number = 1;
  head = None;
  names = names;
  unit = 1;
  eof = None;
  declares = true;
  ctx = false;
  table = [];
  states = None;
  conds = [];
  blocks = map (λ code. record { cond = None; stmts = code }) codes;
  line = None;
}

-- what its run tells on a stream from the start of it, where registers hold 7 before
abbrev pub run_on : Spellings → List ℕ → Ended
run_on names stream =
    run_with (bytes_piece names dotted_blocks) stream 0 (λ register. Some 7) (λ history. []) [] (record { first = length stream; answers = [] })

-- On `a.x!` the longest word is matched. On `a.!` the run falls back behind `a`, with the tag's value there. On `a!` it ends at once,
-- and on `!` no rule is found, with the cursor behind the longest word that begins a match.
pub record RunsOfDotted : Type 0 where
  pub whole : (names : Spellings) → run_on names (97 ∷ 46 ∷ 120 ∷ 33 ∷ [])
      ≡ record { outcome = by_rule 1; cursor = 3; cond = []; values = tag_offset (116 ∷ []) (Some 3) ∷ [] }
  pub falls_back : (names : Spellings) → run_on names (97 ∷ 46 ∷ 33 ∷ [])
      ≡ record { outcome = by_rule 1; cursor = 1; cond = []; values = tag_offset (116 ∷ []) (Some 1) ∷ [] }
  pub at_once : (names : Spellings) → run_on names (97 ∷ 33 ∷ [])
      ≡ record { outcome = by_rule 1; cursor = 1; cond = []; values = tag_offset (116 ∷ []) (Some 1) ∷ [] }
  pub none : (names : Spellings) → run_on names (33 ∷ [])
      ≡ record { outcome = no_rule; cursor = 0; cond = []; values = [] }

-- a piece that checks for two units
abbrev pub checked_piece : Spellings → Piece
checked_piece names = bytes_piece names ((Need 2 ∷ Leave ∷ []) ∷ [])

-- a run of it that ends at the check, behind one unit
abbrev pub ended_behind_one : Ended
ended_behind_one = record { outcome = at_end; cursor = 1; cond = []; values = [] }

-- Where units are counted, a run may end at a check for two behind the first of two units. Of three units two are left there, just as many as
-- the check is for, and it may not.
pub record ChecksAreForMore : Type 0 where
  pub for_more : (names : Spellings) → EndsAtCheck Count (checked_piece names) 2 ended_behind_one
  pub not_for_as_many : (names : Spellings) → EndsAtCheck Count (checked_piece names) 3 ended_behind_one → ⊥
