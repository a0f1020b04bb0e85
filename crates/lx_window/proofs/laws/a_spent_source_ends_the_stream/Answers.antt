use Rattle.lx_window.proofs.StreamWindows.{IsSpent-limit}
use Rattle.lx_window.proofs.laws.a_spent_source_ends_the_stream.Goals as goal

pub returns : goal.returns
returns c = IsSpent-limit
