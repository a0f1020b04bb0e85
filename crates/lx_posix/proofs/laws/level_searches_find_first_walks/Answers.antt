use Rattle.lx_posix.proofs.Searches.LevelOrder.{first_walk}
use Rattle.lx_posix.proofs.laws.level_searches_find_first_walks.Goals as goal

pub returns : goal.returns
returns c enc rules deep word unit cut state to choices row choice left are deep_is stands reading path least =
    first_walk enc rules deep are word unit cut state to choices row choice left deep_is stands reading path least
