use Rattle.std.proofs.Common.{refl}
use Rattle.lx_run.proofs.PutTexts.{HasGiven-first, HasGiven-more, IsPut-first_refused, IsPut-last, IsPut-refused}
use Rattle.lx_run.proofs.assignments.put_values.Goals as goal

pub returns-in_err-put_tags : goal.returns-in_err-put_tags
returns-in_err-put_tags g c = IsPut-first_refused _ _ c.from_residual.result refl c.in_err-put_tags.ensures c.from_residual.ensures.1

pub returns-in_err-put_counted : goal.returns-in_err-put_counted
returns-in_err-put_counted g c =
    IsPut-refused _ _ _ c.from_residual-in_err-put_counted.result refl (HasGiven-first _ _ refl c.in_ok-put_tags.ensures) c.in_err-put_counted.ensures c.from_residual-in_err-put_counted.ensures.1

pub returns : goal.returns
returns g c = IsPut-last _ c.put_cond.result (HasGiven-more _ _ _ refl (HasGiven-first _ _ refl c.in_ok-put_tags.ensures) c.in_ok-put_counted.ensures) c.put_cond.ensures
