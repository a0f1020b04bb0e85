-- That a scanner tests each unit few times.
use Rattle.std.specs.Prelude.{◌≡◌, ℕ, suc, ◌+◌, ◌*◌, ◌^◌, ◌≤◌, Bool, List, [], ◌∷◌, length, Option, Some}
use Rattle.lx_auto.specs.Automaton.{state_of}
use Rattle.lx_auto.specs.declared.automaton.Auto.{Auto}
use Rattle.lx_base.specs.declared.settings.Format.{Format}
use Rattle.lx_base.specs.declared.settings.Format.TheVariants.{Two, Three}
use Rattle.lx_ccode.specs.Machine.{Answer, Machine, code_at, is_among}
use Rattle.lx_ccode.specs.Scanners.{IsOfScanner, StandsIn}
use Rattle.lx_ccode.specs.Traces.{count_made, is_peek, trace}
use Rattle.lx_ccode.specs.declared.piece.Piece.{Piece}
use Rattle.lx_ccode.specs.declared.piece.Stmt.{Stmt}
use Rattle.lx_ccode.specs.declared.piece.Stmt.TheVariants.{IfIs, IfSet, Peek, State as Store}
use Rattle.lx_dispatch.specs.Dispatch.{top_of}
use Rattle.lx_dispatch.specs.LeftUnits.{any_holds, left_split}
use Rattle.lx_dispatch.specs.TestTrees.{Question, among, is}
use Rattle.lx_dispatch.specs.TransitionClasses.{Split}
use Rattle.lx_dispatch.specs.UnitApart.{reader_split}
use Rattle.lx_layout.specs.Carries.{HasEdge}
use Rattle.lx_layout.specs.TestRuns.{is_first_test, is_other_test, is_test}

-- whether a unit is one unit, or in a set, as statements ask it
abbrev pub first_questions : List Stmt → List Question
first_questions [] = []
first_questions (IfIs unit block ∷ rest) = is unit ∷ first_questions rest
first_questions (IfSet set block ∷ rest) = among set ∷ first_questions rest
first_questions (statement ∷ rest) = first_questions rest

-- so many tests are no more than the number of the runs of a split has binary digits
abbrev pub AreFewFor : Split → (most : ℕ) → Type 0
AreFewFor split most = 2 ^ most ≤ 2 * suc (length split.tests) + 1

module _ (piece : Piece) (entry : ℕ) where
  -- the machine has stored no state, or one that a block of the scanner stores
  abbrev pub HasOwnState : Machine → Type 0
  HasOwnState machine =
      (state : ℕ) → machine.state ≡ Some state → (block : ℕ) × IsOfScanner piece.blocks entry block × StandsIn piece.blocks block (Store state)

  -- From the block on, in any number of steps: no unit is tested before one is read; and where the block reads one, that is tested by
  -- statements of some sort at most so often before another one is read.
  pub record TestsFew (block : ℕ) (counted : Stmt → Bool) (most : ℕ) : Type 0 where
    pub none : (stream : List ℕ) (code : List Stmt) (machine : Machine) (answers : List Answer) (steps : ℕ) → code_at piece.blocks (Some block) ≡ Some code
        → HasOwnState machine → count_made is_peek (trace piece stream steps code machine answers).made ≡ 0
        → count_made is_test (trace piece stream steps code machine answers).made ≡ 0
    pub few : StandsIn piece.blocks block Peek
        → (stream : List ℕ) (code : List Stmt) (machine : Machine) (answers : List Answer) (steps : ℕ) → code_at piece.blocks (Some block) ≡ Some code
        → HasOwnState machine → count_made is_peek (trace piece stream steps code machine answers).made ≤ 1
        → count_made counted (trace piece stream steps code machine answers).made ≤ most

  -- the runs of units that go one way in a state, the unit at the end apart, where the first questions of some code have decided on some
  abbrev pub runs_left : (eof : Option ℕ) → (greatest : ℕ) → Auto → (state : ℕ) → List Stmt → Split
  runs_left eof greatest auto state code =
      left_split (any_holds (is_among piece.table) (first_questions code)) (top_of eof greatest)
      (reader_split eof greatest (state_of auto.states state).edges)

  -- In format 2 a unit is tested so often that the number of the runs of units that go one way in a state, the unit at the end apart, has no
  -- fewer binary digits. In format 3 it is asked at most five times, in the block itself, whether it is one unit or in a set; and by other
  -- statements it is tested so often as for the number of the runs that these questions leave.
  abbrev pub TestsFewOf : Format → (eof : Option ℕ) → (greatest : ℕ) → Auto → (state block : ℕ) → Type 0
  TestsFewOf Two eof greatest auto state block =
      (most : ℕ) × AreFewFor (reader_split eof greatest (state_of auto.states state).edges) most × TestsFew block is_test most
  TestsFewOf Three eof greatest auto state block =
      (code : List Stmt) → code_at piece.blocks (Some block) ≡ Some code
      → (length (first_questions code) ≤ 5) × TestsFew block is_first_test (length (first_questions code))
      × ((most : ℕ) × AreFewFor (runs_left eof greatest auto state code) most × TestsFew block is_other_test most)

  -- from the entry as from state 0, and from the place of each state with an edge
  pub record HasFewTests (format : Format) (place : ℕ → ℕ) (eof : Option ℕ) (greatest : ℕ) (auto : Auto) : Type 0 where
    pub first : TestsFewOf format eof greatest auto 0 entry
    pub states : (state : ℕ) → HasEdge auto state → TestsFewOf format eof greatest auto state (place state)
