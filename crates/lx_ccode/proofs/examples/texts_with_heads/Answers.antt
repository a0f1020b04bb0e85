use Rattle.std.proofs.Common.{refl}
use Rattle.std.specs.Fmt.{digits}
use Rattle.lx_ccode.proofs.examples.texts_with_heads.Goals as goal

pub returns : goal.returns
unfolding digits
returns c = record { context = refl; custom_context = refl; custom_stored = refl; custom_checked = refl }
