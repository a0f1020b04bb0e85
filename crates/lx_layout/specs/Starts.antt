-- Runs of a piece from the start of a match, where registers and histories hold what earlier matches left in them.
use Rattle.std.specs.Prelude.{ℕ, List, Option}
use Rattle.lx_ccode.specs.declared.piece.Piece.{Piece}
use Rattle.lx_ccode.specs.Machine.{Machine, code_at}
use Rattle.lx_ccode.specs.Runs.{Ended, entry_block, fresh_machine, run_in}
use Rattle.lx_ccode.specs.Schedules.{Schedule}

-- the machine at the start of a match, with these registers and histories by the numbers of the statements
abbrev pub machine_with : (registers : ℕ → Option ℕ) → (histories : ℕ → List (Option ℕ)) → (start limit : ℕ) → (cond : List ℕ) → Machine
machine_with registers histories start limit cond = record (fresh_machine start limit cond) { registers = registers; histories = histories }

-- the run of a match in a condition under a schedule
unfoldable pub run_with : Piece → (stream : List ℕ) → (start : ℕ) → (registers : ℕ → Option ℕ) → (histories : ℕ → List (Option ℕ))
    → (cond : List ℕ) → Schedule → Ended
run_with piece stream start registers histories cond schedule =
    run_in piece stream start (code_at piece.blocks (entry_block piece.conds cond))
    (machine_with registers histories start schedule.first cond) schedule.answers
