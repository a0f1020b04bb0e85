use Rattle.lx_compile.proofs.WarningsPlaced.{told-placed}
use Rattle.lx_compile.proofs.laws.warnings_stand_in_files_that_are_met.Goals as goal

pub returns : goal.returns
returns c = told-placed
