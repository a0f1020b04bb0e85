use Rattle.std.proofs.Common.{◌≡◌, ◌++◌, drop}
use Rattle.lx_encode.specs.Runs.{cuts_from}
use Rattle.lx_encode.proofs.runs.cuts.Given as goal

abbrev pub invariant-loop-run : goal.invariant-loop-run
invariant-loop-run l = l.cuts.items ++ cuts_from l.next (drop l.run-index l.runs) ≡ cuts_from 0 l.runs
