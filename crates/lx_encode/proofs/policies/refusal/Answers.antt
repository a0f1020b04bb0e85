use Rattle.std.proofs.Common.{⊎_elim}
use Rattle.lx_encode.proofs.Least.{fits_encoding}
use Rattle.lx_encode.proofs.policies.refusal.Goals as goal

pub returns-in-Ignore : goal.returns-in-Ignore
returns-in-Ignore c =
    (fits_encoding c.args.enc c.args.set.now c.greatest_point.result c.requires c.greatest_point.ensures c.in_default.ensures, λ fail. ⊎_elim (λ is. cc) (λ is. cc) c.in-Ignore.is)

pub returns-in-Some-least_within : goal.returns-in-Some-least_within
returns-in-Some-least_within c =
    (fits_encoding c.args.enc c.args.set.now c.greatest_point.result c.requires c.greatest_point.ensures c.in_default.ensures, c.in-Fail.is, c.in-Some-least_within.ensures)

pub returns-in-None : goal.returns-in-None
returns-in-None c =
    (fits_encoding c.args.enc c.args.set.now c.greatest_point.result c.requires c.greatest_point.ensures c.in_default.ensures, λ fail. c.in-None.ensures)
