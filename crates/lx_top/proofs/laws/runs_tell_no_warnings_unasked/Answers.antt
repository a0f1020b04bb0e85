use Rattle.lx_top.proofs.EndingLemmas.{told-unasked}
use Rattle.lx_top.proofs.laws.runs_tell_no_warnings_unasked.Goals as goal

pub returns : goal.returns
returns c = told-unasked
