use Rattle.lx_compile.proofs.EmittedRuns.{emitted_start, emitted_whole}
use Rattle.lx_compile.proofs.laws.matches_of_emitted_pieces_may_start.Goals as goal

pub returns : goal.returns
returns c = record { whole = emitted_whole; start = emitted_start }
