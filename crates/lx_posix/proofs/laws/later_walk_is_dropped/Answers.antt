use Rattle.lx_posix.proofs.Searches.DroppedWalks.{dropped}
use Rattle.lx_posix.proofs.laws.later_walk_is_dropped.Goals as goal

pub returns : goal.returns
returns c enc rules word unit cut other walk way rest more m state number is is' first mark quiet quiet' goes ends own keeps =
    dropped enc rules word unit cut other walk way rest more m state number is is' first mark quiet quiet' goes ends own keeps
