use Rattle.std.proofs.Common.{drop}
use Rattle.lx_gen.specs.Automata.{seen_autos}
use Rattle.lx_compile.proofs.WarningRuns.{HaveWarnings}
use Rattle.lx_compile.proofs.warned.block_warnings.Given as goal

abbrev pub invariant-loop-place : goal.invariant-loop-place
invariant-loop-place l =
    HaveWarnings l.options l.at l.acts l.resolved.scanners (drop l.place l.resolved.scanners) (drop l.place (seen_autos l.autos)) l.all
