use Rattle.lx_tdfa.proofs.Tables.KeptRules.{IsAutoUnder-within}
use Rattle.lx_tdfa.proofs.laws.what_stays_within_is_of_one_list.Goals as goal

pub returns : goal.returns
returns c = IsAutoUnder-within
