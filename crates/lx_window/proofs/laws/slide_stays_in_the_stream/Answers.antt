use Rattle.lx_window.proofs.StreamWindows.{IsWindowOf-slid, IsFedBy-slid}
use Rattle.lx_window.proofs.laws.slide_stays_in_the_stream.Goals as goal

pub returns : goal.returns
returns c = record { holds = IsWindowOf-slid; fed = IsFedBy-slid }
