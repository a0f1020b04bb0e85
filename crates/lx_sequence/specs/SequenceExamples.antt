-- Examples of operations that do one by one what a list does at once.
use Rattle.std.specs.Prelude.{◌≡◌, [], ◌∷◌}
use Rattle.lx_auto.specs.declared.ops.Op.TheVariants.{Here, Null, Copy, MHere, MNull, MCopy}
use Rattle.lx_sequence.specs.ParallelCopies.{sequentialized}
use Rattle.lx_sequence.specs.Turns.{ActsOneByOne}

-- a copy of a register waits until its target is read; of two writes of one register the last counts, and a copy of a register to
-- itself is left out
pub record SequencesAreShort : Type 0 where
  pub chain : sequentialized 3 1 (Copy 0 1 ∷ Copy 1 2 ∷ []) ≡ Copy 0 1 ∷ Copy 1 2 ∷ []
  pub turned : sequentialized 3 1 (Copy 1 2 ∷ Copy 0 1 ∷ []) ≡ Copy 0 1 ∷ Copy 1 2 ∷ []
  pub long_chain : sequentialized 4 1 (Copy 2 3 ∷ Copy 1 2 ∷ Copy 0 1 ∷ []) ≡ Copy 0 1 ∷ Copy 1 2 ∷ Copy 2 3 ∷ []
  pub last_counts : sequentialized 3 1 (Here 1 ∷ Copy 0 1 ∷ Null 1 ∷ []) ≡ Copy 0 1 ∷ Null 1 ∷ []
  pub to_itself : sequentialized 3 1 (Here 0 ∷ Copy 1 2 ∷ Copy 0 0 ∷ []) ≡ Copy 1 2 ∷ []

-- Registers 0 and 1 are swapped by the spare 3, and three of them go round by it. Two m-registers are swapped by the spare 3, and marks
-- follow the copies, wherever they stand in the list. The copy into register 2, which is read no more, comes before a cycle.
pub record CyclesTakeTheSpare : Type 0 where
  pub of_two : sequentialized 3 1 (Copy 0 1 ∷ Copy 1 0 ∷ []) ≡ Copy 3 0 ∷ Copy 0 1 ∷ Copy 1 3 ∷ []
  pub of_three : sequentialized 3 1 (Copy 0 1 ∷ Copy 1 2 ∷ Copy 2 0 ∷ []) ≡ Copy 3 0 ∷ Copy 0 1 ∷ Copy 1 2 ∷ Copy 2 3 ∷ []
  pub of_histories : sequentialized 3 3 (MHere 1 ∷ MCopy 1 2 ∷ MCopy 2 1 ∷ MNull 2 ∷ [])
      ≡ MCopy 3 1 ∷ MCopy 1 2 ∷ MCopy 2 3 ∷ MHere 1 ∷ MNull 2 ∷ []
  pub with_a_chain : sequentialized 3 1 (Copy 0 1 ∷ Copy 1 0 ∷ Copy 2 0 ∷ []) ≡ Copy 2 0 ∷ Copy 3 0 ∷ Copy 0 1 ∷ Copy 1 3 ∷ []

-- Two copies that swap registers do not act one by one as they stand, and with the spare they do.
pub record SwapsNeedTheSpare : Type 0 where
  pub as_they_stand : ActsOneByOne 2 1 (Copy 0 1 ∷ Copy 1 0 ∷ []) (Copy 0 1 ∷ Copy 1 0 ∷ []) → ⊥
  pub by_the_spare : ActsOneByOne 2 1 (Copy 2 0 ∷ Copy 0 1 ∷ Copy 1 2 ∷ []) (Copy 0 1 ∷ Copy 1 0 ∷ [])
