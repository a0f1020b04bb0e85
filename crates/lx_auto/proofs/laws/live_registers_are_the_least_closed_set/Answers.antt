use Rattle.std.proofs.Common.{◌≡◌, true}
use Rattle.lx_auto.proofs.LiveSets.{IsLive-closed, IsLive-needed}
use Rattle.lx_auto.proofs.laws.live_registers_are_the_least_closed_set.Goals as goal

pub returns-clause-closed : goal.returns-clause-closed
returns-clause-closed c = IsLive-closed

pub returns-clause-least : goal.returns-clause-least
returns-clause-least c = λ auto needed point held closed reached live.
    IsLive-needed auto (λ point held. needed point held ≡ true) closed point held reached live
