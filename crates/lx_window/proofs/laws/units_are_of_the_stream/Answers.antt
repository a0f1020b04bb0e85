use Rattle.lx_window.proofs.StreamWindows.{slice_get-window_units}
use Rattle.lx_window.proofs.laws.units_are_of_the_stream.Goals as goal

pub returns : goal.returns
returns c = slice_get-window_units
