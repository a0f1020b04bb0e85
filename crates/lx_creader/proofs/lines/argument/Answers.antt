use Rattle.std.proofs.Common.{◌∙◌, ap, reverse}
use Rattle.lx_base.specs.Letters.{is_in_identifier, front_letters}
use Rattle.lx_ccode.specs.Reading.{argument}
use Rattle.lx_creader.proofs.Fronts.{last-letters}
use Rattle.lx_creader.proofs.lines.argument.Goals as goal

pub returns : goal.returns
unfolding argument
returns c =
    c.skip.ensures ∙ last-letters is_in_identifier c.without_last-inner.result.now c.before_identifier.result.now c.before_identifier.ensures
    ∙ ap (λ l. reverse (front_letters is_in_identifier l)) c.without_last-inner.ensures
