use Rattle.lx_window.proofs.StreamWindows.{stream_units-bytes_between}
use Rattle.lx_window.proofs.laws.tokens_are_of_the_stream.Goals as goal

pub returns : goal.returns
returns c = stream_units-bytes_between
