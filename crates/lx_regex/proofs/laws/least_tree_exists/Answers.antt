use Rattle.lx_regex.proofs.laws.least_tree_exists.Goals as goal
use Rattle.lx_regex.proofs.Trees.LeastTree.{least_tree}

pub returns : goal.returns
returns c policy enc part e word positive has = least_tree enc e part word policy positive has
