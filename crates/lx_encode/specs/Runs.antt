-- Numbers that lead to residuals, as lists of runs.
use Rattle.std.specs.Prelude.{◌≡◌, ℕ, ◌+◌, ◌<◌, ◌≤◌, ◌⊎◌, List, [], ◌∷◌, Option, Some, None, ◌==◌, nat_le, if◌then◌else◌}
use Rattle.lx_encode.specs.declared.runs.Run.{Run}

-- the number lies in the run
abbrev pub InRun : Run → ℕ → Type 0
InRun run number = (run.lo ≤ number) × (number ≤ run.hi)

-- one of the runs leads from the number to the target
abbrev pub LeadsTo : List Run → ℕ → ℕ → Type 0
LeadsTo [] number target = ⊥
LeadsTo (run ∷ runs) number target = (InRun run number × (run.to ≡ target)) ⊎ LeadsTo runs number target

-- where the first run that holds the number leads
abbrev pub target_of : List Run → ℕ → Option ℕ
target_of [] number = None
target_of (run ∷ runs) number =
    if nat_le run.lo number then (if nat_le number run.hi then Some run.to else target_of runs number) else target_of runs number

-- the first run begins at `low` or later, each has a number and ends within Unicode, and none overlaps the next
abbrev pub AreSortedFrom : ℕ → List Run → Type 0
AreSortedFrom low [] = Unit {0}
AreSortedFrom low (run ∷ runs) =
    (low ≤ run.lo) × (run.lo ≤ run.hi) × (run.hi ≤ 0x10FFFF) × AreSortedFrom (run.hi + 1) runs

-- sorted runs that do not overlap
abbrev pub AreSorted : List Run → Type 0
AreSorted runs = AreSortedFrom 0 runs

-- the runs may stand behind this one, and what touches it leads elsewhere
abbrev pub AreBehind : Run → List Run → Type 0
AreBehind before [] = Unit {0}
AreBehind before (run ∷ runs) =
    (before.hi < run.lo) × (run.lo ≤ run.hi) × (run.hi ≤ 0x10FFFF) × (before.hi + 1 ≡ run.lo → before.to ≡ run.to → ⊥)
    × AreBehind run runs

-- sorted runs of which no two touch and lead to the same target
abbrev pub IsRow : List Run → Type 0
IsRow [] = Unit {0}
IsRow (run ∷ runs) = (run.lo ≤ run.hi) × (run.hi ≤ 0x10FFFF) × AreBehind run runs

-- the runs lead to targets below the count alone
abbrev pub LeadBelow : List Run → ℕ → Type 0
LeadBelow runs count = (number target : ℕ) → LeadsTo runs number target → target < count

-- where the answers may change from `next` on: at the first number of a run and behind its last
abbrev pub cuts_from : ℕ → List Run → List ℕ
cuts_from next [] = []
cuts_from next (run ∷ runs) =
    if run.lo == next then (run.hi + 1) ∷ cuts_from (run.hi + 1) runs
    else run.lo ∷ (run.hi + 1) ∷ cuts_from (run.hi + 1) runs

-- where the answers may change
abbrev pub cuts_of : List Run → List ℕ
cuts_of runs = cuts_from 0 runs

-- the numbers from `from` to `to`, counted on from `unit`, lead where the runs lead them
abbrev pub LeadsShifted : List Run → (from to unit : ℕ) → ℕ → ℕ → Type 0
LeadsShifted runs from to unit number target =
    (old : ℕ) × (from ≤ old) × (old ≤ to) × (number + from ≡ unit + old) × LeadsTo runs old target
