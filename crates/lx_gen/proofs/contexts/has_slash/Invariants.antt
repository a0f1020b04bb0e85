use Rattle.std.proofs.Common.{◌≡◌, drop}
use Rattle.lx_gen.specs.Generated.{has_slash}
use Rattle.lx_gen.proofs.contexts.has_slash.Given as goal

abbrev pub invariant-loop-scanner : goal.invariant-loop-scanner
invariant-loop-scanner l = has_slash (drop l.scanner-index l.scanners) ≡ has_slash l.scanners
