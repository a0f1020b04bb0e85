use Rattle.lx_ccode.proofs.Bounds.{stays-run_of}
use Rattle.lx_ccode.proofs.laws.runs_stay_in_the_buffer.Goals as goal

pub returns : goal.returns
returns c = λ piece stream start cond schedule from. stays-run_of piece stream start cond schedule from
