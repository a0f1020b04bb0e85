use Rattle.std.proofs.Common.{subst}
use Rattle.lx_exprs.specs.Defined.{is_built, meant_class}
use Rattle.lx_exprs.specs.Values.{HasPoints}
use Rattle.lx_exprs.proofs.Contents.ValueContents.{has_class, no_class}
use Rattle.lx_exprs.proofs.values.Value.into_class.Goals as goal

pub returns-in_ok-into_set-in-Some : goal.returns-in_ok-into_set-in-Some
returns-in_ok-into_set-in-Some c room meaning is =
    has_class c.in-Some.collected c.in_ok-into_set-in-Some.field-0 (meant_class meaning)
    (subst (λ held. HasPoints held (meant_class meaning)) c.in-Some.is (c.in_ok-collected.ensures (is_built room meaning) meaning is.content))
    c.in_ok-into_set-in-Some.ensures.canonical c.in_ok-into_set-in-Some.ensures.points

pub returns-in-None : goal.returns-in-None
returns-in-None c room meaning is =
    no_class (meant_class meaning)
    (subst (λ held. HasPoints held (meant_class meaning)) c.in-None.is (c.in_ok-collected.ensures (is_built room meaning) meaning is.content))
