use Rattle.std.proofs.Common.{ap}
use Rattle.lx_run.specs.Values.{history_text}
use Rattle.lx_run.proofs.PutTexts.{HasGiven-first, IsPut-first_refused, IsPut-last}
use Rattle.lx_run.proofs.values.put_history.Goals as goal

pub returns-in_err-put_offset : goal.returns-in_err-put_offset
returns-in_err-put_offset g c =
    IsPut-first_refused _ _ c.from_residual.result (ap history_text c.in-Some.ensures.cases.0) c.in_err-put_offset.ensures c.from_residual.ensures.1

pub returns : goal.returns
returns g c = IsPut-last _ c.put_entries.result (HasGiven-first _ _ (ap history_text c.in-Some.ensures.cases.0) c.in_ok-put_offset.ensures) c.put_entries.ensures
