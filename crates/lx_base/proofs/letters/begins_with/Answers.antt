use Rattle.std.proofs.Common.{◌∙◌}
use Rattle.std.proofs.lemmas.Slice.Eq.{starts_is}
use Rattle.std.proofs.lemmas.Bool.Decides.{Decides-eqb}
use Rattle.lx_base.proofs.Deciding.{begins_with-value}
use Rattle.lx_base.proofs.letters.begins_with.Goals as goal

pub returns : goal.returns
returns c =
    let is = starts_is Decides-eqb c.args.word.now c.args.front.now c.starts_with.result c.starts_with.ensures.value in
    record { value = c.starts_with.ensures.value ∙ begins_with-value c.args.word.now c.args.front.now; stands = is.0; differs = is.1 }
