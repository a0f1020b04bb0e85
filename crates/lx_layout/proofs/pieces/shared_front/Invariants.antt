use Rattle.std.proofs.Common.{◌≡◌, drop}
use Rattle.std.specs.List.{list_any}
use Rattle.lx_layout.specs.LikeScanners.{is_like}
use Rattle.lx_layout.proofs.pieces.shared_front.Given as goal

abbrev pub invariant-loop-scanner : goal.invariant-loop-scanner
invariant-loop-scanner l = list_any is_like (drop l.scanner-index l.scanners) ≡ list_any is_like l.scanners
