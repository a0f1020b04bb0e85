use Rattle.std.proofs.Common.{arith}
use Rattle.lx_regs.proofs.Translations.FittingSteps.{edges-fit}
use Rattle.lx_regs.proofs.fitting.edges_fit.Goals as goal

pub returns : goal.returns
returns c = λ yes.
    edges-fit c.args.regs c.args.mregs c.args.edges.now (λ place edge within. c.loop-edge.invariant place edge (omega arith))
