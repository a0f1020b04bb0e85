use Rattle.lx_regex.specs.Order.{posix}
use Rattle.lx_regex.proofs.Trees.LeastTree.{least_tree}
use Rattle.lx_posix.proofs.laws.best_tree_exists.Goals as goal

pub returns : goal.returns
returns c enc part e word positive has = least_tree enc e part word posix positive has
