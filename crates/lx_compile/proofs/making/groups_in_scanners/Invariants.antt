use Rattle.std.proofs.Common.{◌≡◌, drop, max}
use Rattle.lx_compile.specs.Made.{groups_in_scanners}
use Rattle.lx_compile.proofs.making.groups_in_scanners.Given as goal

abbrev pub invariant-loop-scanner : goal.invariant-loop-scanner
invariant-loop-scanner l = max l.most (groups_in_scanners (drop l.scanner-index l.scanners)) ≡ groups_in_scanners l.scanners
