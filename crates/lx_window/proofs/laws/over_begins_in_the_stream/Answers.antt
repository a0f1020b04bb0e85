use Rattle.lx_window.proofs.StreamWindows.{IsWindowOf-empty_window}
use Rattle.lx_window.proofs.laws.over_begins_in_the_stream.Goals as goal

pub returns : goal.returns
returns c = IsWindowOf-empty_window
