use Rattle.lx_tdfa.proofs.WordKernels.OrderedLists.{member_nth, rising_nth}
use Rattle.lx_posix.specs.Starts.{level_starts}
use Rattle.lx_posix.proofs.OneSearch.StartOrder.{InOrder, before_first, start_has, starts_rise}
use Rattle.lx_posix.proofs.laws.starts_are_in_order.Goals as goal

pub returns-clause-each : goal.returns-clause-each
returns-clause-each c deep ranks from level ranked at le =
    member_nth (level_starts deep ranks) (record { from = from; level = level }) (start_has ranks deep from level ranked at le)

pub returns-clause-order : goal.returns-clause-order
returns-clause-order c deep ranks index later start other lt at at' =
    before_first ranks start other
    (rising_nth (InOrder ranks) (level_starts deep ranks) index later start other (starts_rise ranks deep) at at' lt)
