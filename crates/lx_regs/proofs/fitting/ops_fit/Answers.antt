use Rattle.std.proofs.Common.{arith}
use Rattle.lx_regs.proofs.Translations.FittingSteps.{ops-fit}
use Rattle.lx_regs.proofs.fitting.ops_fit.Goals as goal

pub returns : goal.returns
returns c = λ yes. ops-fit c.args.regs c.args.mregs c.args.ops.now (λ place within. c.loop-op.invariant place (omega arith))
