use Rattle.lx_window.proofs.StreamWindows.{IsWindowOf-begun, IsFedBy-begun}
use Rattle.lx_window.proofs.laws.begin_stays_in_the_stream.Goals as goal

pub returns : goal.returns
returns c = record { holds = IsWindowOf-begun; fed = IsFedBy-begun }
