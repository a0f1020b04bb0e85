use Rattle.std.proofs.Common.{inr}
use Rattle.lx_top.proofs.EmittedLemmas.{HaltsScan-not_emitted, IsPlacedHalt-not_emitted}
use Rattle.lx_top.proofs.emitted.read_scanner.Goals as goal

pub returns-in-Err-NotEmitted-clause-scans : goal.returns-in-Err-NotEmitted-clause-scans
returns-in-Err-NotEmitted-clause-scans c =
    HaltsScan-not_emitted c.args.bytes.now c.args.block c.in-Some.offset c.not_emitted-in-Err-NotEmitted.result c.not_emitted-in-Err-NotEmitted.ensures
    (inr (c.in-Some.ensures, (rw c.in-Err-NotEmitted.field-0-is at c.in-Err-NotEmitted.ensures).1))

pub returns-in-Err-NotEmitted-clause-placed : goal.returns-in-Err-NotEmitted-clause-placed
returns-in-Err-NotEmitted-clause-placed c = λ name names.
    IsPlacedHalt-not_emitted name names c.args.bytes.now c.in-Some.offset c.not_emitted-in-Err-NotEmitted.result c.not_emitted-in-Err-NotEmitted.ensures
