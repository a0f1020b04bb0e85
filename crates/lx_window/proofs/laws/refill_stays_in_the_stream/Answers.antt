use Rattle.lx_window.proofs.StreamWindows.{IsFedBy-Refills}
use Rattle.lx_window.proofs.laws.refill_stays_in_the_stream.Goals as goal

pub returns : goal.returns
returns c = IsFedBy-Refills
