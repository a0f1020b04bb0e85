use Rattle.lx_posix.proofs.Searches.LevelledWalks.{levels_order}
use Rattle.lx_posix.proofs.laws.levels_give_the_order.Goals as goal

pub returns : goal.returns
returns c enc rules word u j y z uy uz iy iz before = levels_order enc rules word u j y z uy uz iy iz before
