use Rattle.std.proofs.Common.{take}
use Rattle.std.specs.List.{AllZip}
use Rattle.lx_rules.specs.Blocks.{conditions_of}
use Rattle.lx_rules.specs.Environments.{config_of}
use Rattle.lx_rules.specs.Finishing.{IsBuiltScanner}
use Rattle.lx_rules.specs.Items.{State}
use Rattle.lx_rules.specs.Keeping.{Holds}
use Rattle.lx_rules.proofs.scanners.scanners.Given as goal

abbrev pub invariant-loop-number : goal.invariant-loop-number
invariant-loop-number l =
    (state : State) → Holds l.known state → AllZip (IsBuiltScanner l.named l.at (config_of state.settings).eof state.rules) (take l.number (conditions_of state.rules)) l.scanners
