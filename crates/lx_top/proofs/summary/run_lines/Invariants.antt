use Rattle.std.proofs.Common.{length}
use Rattle.lx_top.proofs.SummaryLemmas.{IsAhead}
use Rattle.lx_top.proofs.summary.run_lines.Given as goal

abbrev pub invariant-loop-rest : goal.invariant-loop-rest
invariant-loop-rest l = IsAhead l.run l.rest l.lines.matches l.lines.last_match.now l.lines.last.now

abbrev pub decreases-loop-rest : goal.decreases-loop-rest
decreases-loop-rest l = length l.rest
