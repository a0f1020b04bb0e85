-- When two automata have the same run.
use Rattle.std.specs.Prelude.{◌≡◌, ℕ, List, [], Option, Some, None}
use Rattle.lx_auto.specs.declared.automaton.Auto.{Auto}
use Rattle.lx_auto.specs.Bank.{Bank, IsEmpty}
use Rattle.lx_auto.specs.Run.{Standing, found_at, found_behind, run, start_with}

module _ (auto given : Auto) where
  -- both runs stand somewhere, where the same match ends and the same is found if no unit is read any more; or there is neither
  abbrev pub FindSame : Option Standing → Option Standing → Type 0
  FindSame None None = Unit {0}
  FindSame None (Some other) = ⊥
  FindSame (Some standing) None = ⊥
  FindSame (Some standing) (Some other) =
      (found_at auto standing ≡ found_at given other) × (found_behind auto standing ≡ found_behind given other)

  -- The automaton runs as the given one: for all that its registers may hold where a match begins, which is all one but that history 0
  -- is empty, there is something that those of the given one may hold, so that both find the same on every word; where nothing is held,
  -- nothing is held there either.
  abbrev pub HasSameRun : Type 0
  HasSameRun = (start : ℕ) (bank : Bank) → bank.mregs 0 ≡ []
      → (source : Bank) × (source.mregs 0 ≡ []) × (IsEmpty bank → IsEmpty source)
      × ((word : List ℕ) → FindSame (run auto (start_with start bank) word) (run given (start_with start source) word))
