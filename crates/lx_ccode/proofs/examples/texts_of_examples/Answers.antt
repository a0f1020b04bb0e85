use Rattle.std.proofs.Common.{refl}
use Rattle.std.specs.Fmt.{digits}
use Rattle.lx_ccode.proofs.examples.texts_of_examples.Goals as goal

pub returns : goal.returns
unfolding digits
returns c = record { context = refl; stored = refl; checked = refl }
