use Rattle.std.proofs.lemmas.Result.{on_ok_weaker}
use Rattle.lx_layout.proofs.parts.append_unlabelled.Goals as goal

pub returns-clause-laid : goal.returns-clause-laid
returns-clause-laid c =
    let plans = c.in_ok-places.places.ends.plans in
    let made = c.in_ok-places.ensures in
    on_ok_weaker c.append_codes.result (λ put. (plans, made.places.ends.plans, made.input, made.begin, made.first, put)) c.append_codes.ensures.laid
