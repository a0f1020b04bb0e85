use Rattle.std.proofs.Common.{sym}
use Rattle.lx_base.specs.Letters.{is_letter_of}
use Rattle.lx_base.proofs.Fronts.{front_letters-take}
use Rattle.lx_base.proofs.letters.front_letters.Goals as goal

pub returns : goal.returns
returns c = rw c.after_letters.ensures.rest (sym (front_letters-take (is_letter_of c.args.letters) c.args.text.now))
