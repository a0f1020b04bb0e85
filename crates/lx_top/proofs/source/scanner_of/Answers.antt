use Rattle.lx_top.proofs.FoundScanners.{found-unit}
use Rattle.lx_top.proofs.source.scanner_of.Goals as goal

pub returns-clause-found : goal.returns-clause-found
returns-clause-found c = λ rules made few is. found-unit rules made c.args.output.now few is c.read_scanner.result c.read_scanner.ensures.scans
