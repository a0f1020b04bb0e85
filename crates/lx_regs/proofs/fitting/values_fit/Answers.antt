use Rattle.std.proofs.Common.{arith}
use Rattle.lx_regs.proofs.Translations.FittingSteps.{values-fit}
use Rattle.lx_regs.proofs.fitting.values_fit.Goals as goal

pub returns : goal.returns
returns c = λ yes. values-fit c.args.regs c.args.mregs c.args.values.now (λ place within. c.loop-held.invariant place (omega arith))
