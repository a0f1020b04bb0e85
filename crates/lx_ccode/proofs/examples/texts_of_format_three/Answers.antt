use Rattle.std.proofs.Common.{refl}
use Rattle.std.specs.Fmt.{digits}
use Rattle.lx_ccode.proofs.examples.texts_of_format_three.Goals as goal

pub returns : goal.returns
unfolding digits
returns c = record { tested = refl; custom_tested = refl; wide = refl; custom_wide = refl; placed = refl; kept = refl }
