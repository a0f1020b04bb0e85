use Rattle.lx_regs.proofs.Translations.Shapes.{StaysWithin-shape}
use Rattle.lx_regs.proofs.laws.what_keeps_shape_stays_within.Goals as goal

pub returns : goal.returns
returns c = StaysWithin-shape
