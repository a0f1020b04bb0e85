use Rattle.lx_exprs.specs.Defined.{is_built}
use Rattle.lx_exprs.proofs.values.Value.into_ranges.Goals as goal

pub returns : goal.returns
returns c room meaning is = c.into_class.ensures (is_built room meaning) meaning is.content
