-- What follows for a piece in which a layout stands.
use Rattle.std.specs.Prelude.{◌≡◌, ℕ, List, [], None, refl}
use Rattle.lx_ccode.specs.Runs.{run_of}
use Rattle.lx_ccode.specs.Schedules.{Schedule}
use Rattle.lx_ccode.specs.declared.piece.Piece.{Piece}
use Rattle.lx_layout.specs.Starts.{run_with}

pub run_of-fresh : (piece : Piece) (stream : List ℕ) (start : ℕ) (cond : List ℕ) (schedule : Schedule)
    → run_of piece stream start cond schedule ≡ run_with piece stream start (λ register. None) (λ history. []) cond schedule
unfolding run_of run_with
run_of-fresh piece stream start cond schedule = refl
