-- The trees of what reads, by where they lead alone.
use Rattle.std.specs.Prelude.{ℕ, suc, List, [], ◌∷◌, Option}
use Rattle.lx_auto.specs.declared.automaton.Auto.{Auto}
use Rattle.lx_auto.specs.declared.automaton.State.{State}
use Rattle.lx_dispatch.specs.Dispatch.{MayAsk, TestsWithin}
use Rattle.lx_dispatch.specs.TestTrees.{EachTest, HasWay, TestTree}
use Rattle.lx_dispatch.specs.TransitionClasses.{Split}
use Rattle.lx_dispatch.proofs.SplitTrees.{each-tests}
use Rattle.lx_layout.specs.SuppliedLayout.{EachReader, EachState}
use Rattle.lx_layout.specs.Supplies.{Reader}

-- the tree leads where some units go by the split alone, whatever it asks
abbrev pub LeadsWithin : Split → TestTree (Option ℕ) → Type 0
LeadsWithin split tree = EachTest (λ asked. Unit {0}) (HasWay split.tests split.last) tree

pub leads_within : (room greatest : ℕ) (split : Split) (tree : TestTree (Option ℕ)) → TestsWithin room greatest split tree → LeadsWithin split tree
leads_within room greatest split tree within =
    each-tests (MayAsk room greatest split.tests) (λ asked. Unit {0}) (HasWay split.tests split.last) (HasWay split.tests split.last) (λ asked may. tt)
    (λ class has. has) tree within

-- what holds of trees holds of all trees of readers
module _ (P Q : Split → TestTree (Option ℕ) → Type 0) (f : (split : Split) (tree : TestTree (Option ℕ)) → P split tree → Q split tree) (eof : Option ℕ)
    (greatest : ℕ) (trees : Reader → TestTree (Option ℕ)) where
  each_state : (s : ℕ) (states : List State) → EachState P eof greatest trees s states → EachState Q eof greatest trees s states
  each_state s [] are = tt
  each_state s (given ∷ states) are = (f _ _ are.0, each_state (suc s) states are.1)

  pub each_reader : (auto : Auto) → EachReader P eof greatest trees auto → EachReader Q eof greatest trees auto
  each_reader auto are = record { states = each_state 0 auto.states are.states; entry = f _ _ are.entry }

pub readers_lead : (room : ℕ) (eof : Option ℕ) (greatest : ℕ) (trees : Reader → TestTree (Option ℕ)) (auto : Auto)
    → EachReader (TestsWithin room greatest) eof greatest trees auto → EachReader LeadsWithin eof greatest trees auto
readers_lead room eof greatest trees auto are = each_reader (TestsWithin room greatest) LeadsWithin (leads_within room greatest) eof greatest trees auto are
