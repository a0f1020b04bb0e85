use Rattle.std.proofs.Common.{refl}
use Rattle.std.specs.Fmt.{digits}
use Rattle.lx_ccode.proofs.examples.texts_of_bodies.Goals as goal

pub returns : goal.returns
unfolding digits
returns c = record {
  empty = refl;
  max = refl;
  max_nmatch = refl;
  stags = refl;
  no_stags = refl;
  mtags = refl;
  types = refl;
  getstate = refl;
}
