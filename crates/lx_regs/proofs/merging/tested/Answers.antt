use Rattle.lx_regs.proofs.Translations.Shapes.{StandsFor-then_some}
use Rattle.lx_regs.proofs.merging.tested.Goals as goal

pub returns : goal.returns
returns c =
    StandsFor-then_some c.args.auto.now c.args.proposal.answer c.in_ok-may.may c.then_some.result c.then_some.ensures c.in_ok-may.ensures
