use Rattle.std.proofs.Common.{arith}
use Rattle.std.proofs.lemmas.Grind.{common_steps}
use Rattle.lx_layout.proofs.Rules.SwitchCases.{states_in-append}
use Rattle.lx_layout.proofs.switches.state_cases.Goals as goal

pub loop-block-preserved : goal.loop-block-preserved
loop-block-preserved c = grind (arith, common_steps, states_in-append)
