use Rattle.std.proofs.Common.{drop}
use Rattle.lx_compile.proofs.ScannerRuns.{HaveAutos}
use Rattle.lx_compile.proofs.automata.automata_of.Given as goal

abbrev pub invariant-loop-scanner : goal.invariant-loop-scanner
invariant-loop-scanner l =
    HaveAutos l.frame.options.now l.frame.number l.frame.at l.frame.acts.now l.scanners (drop l.scanner-index l.scanners) l.autos l.cover.items
