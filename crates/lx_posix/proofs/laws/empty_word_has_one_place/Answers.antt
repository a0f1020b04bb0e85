use Rattle.std.specs.Prelude.{refl}
use Rattle.lx_posix.proofs.Kernels.FirstUnit.{empty_kernel}
use Rattle.lx_posix.proofs.laws.empty_word_has_one_place.Goals as goal

pub returns : goal.returns
returns c enc rules kernel = ((λ is. is.start refl), (λ e. empty_kernel enc rules kernel e))
