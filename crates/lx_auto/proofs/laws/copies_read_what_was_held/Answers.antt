use Rattle.lx_auto.proofs.Banks.{copied_history, copied_value}
use Rattle.lx_auto.proofs.laws.copies_read_what_was_held.Goals as goal

pub returns-clause-values : goal.returns-clause-values
returns-clause-values c = copied_value

pub returns-clause-histories : goal.returns-clause-histories
returns-clause-histories c = copied_history
