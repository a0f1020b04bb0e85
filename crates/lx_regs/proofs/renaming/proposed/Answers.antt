use Rattle.lx_regs.proofs.Translations.Shapes.{StandsFor-then_some}
use Rattle.lx_regs.proofs.renaming.proposed.Goals as goal

pub returns : goal.returns
returns c =
    StandsFor-then_some c.args.given.now c.in_ok-proposal.proposal.answer c.in_ok-may.may c.then_some.result c.then_some.ensures
    c.in_ok-may.ensures
