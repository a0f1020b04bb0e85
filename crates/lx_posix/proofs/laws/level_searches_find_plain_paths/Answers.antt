use Rattle.lx_posix.proofs.Searches.LevelSearches.{least_path}
use Rattle.lx_posix.proofs.laws.level_searches_find_plain_paths.Goals as goal

pub returns : goal.returns
returns c graph deep state level choices to le path least = least_path graph deep state level choices to le path least
