use Rattle.std.proofs.Common.{map, string_bytes}
use Rattle.lx_top.proofs.EndingLemmas.{EndsSo-broken, EndsSo-done}
use Rattle.lx_top.proofs.run.run.Goals as goal

pub returns : goal.returns
returns g c =
    let ended = c.in-Err.ensures.ends in
    record { ends = EndsSo-broken (map string_bytes c.args.words.now) ended.0 ended.1 _ _ c.perform.new.names c.in-Err.halt c.report.result ended.2 ended.3 ended.4 c.report.ensures }

pub returns-in-Ok : goal.returns-in-Ok
returns-in-Ok g c =
    let ended = c.in-Ok.ensures.ends in
    record { ends = EndsSo-done (map string_bytes c.args.words.now) ended.0 ended.1 _ _ _ c.tell_warnings.result ended.2 ended.3 ended.5 (rw c.as_slice.ensures at c.tell_warnings.ensures) }
