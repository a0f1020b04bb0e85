use Rattle.std.proofs.Common.{subst}
use Rattle.lx_exprs.specs.Values.{HasPoints}
use Rattle.lx_exprs.proofs.Contents.ValueContents.{has_both}
use Rattle.lx_exprs.proofs.values.both_classes.Goals as goal

pub returns : goal.returns
returns c ranges others has more =
    has_both c.in-Some.class c.in-Some-other.other c.in_ok-both.both ranges others
    (subst (λ class. HasPoints class ranges) c.in-Some.is has) (subst (λ other. HasPoints other others) c.in-Some-other.is more)
    c.in_ok-both.ensures
