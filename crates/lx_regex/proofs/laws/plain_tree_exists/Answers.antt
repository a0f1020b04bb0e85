use Rattle.lx_regex.proofs.laws.plain_tree_exists.Goals as goal
use Rattle.lx_regex.proofs.Walks.WholeWalk.{plain_tree}

pub returns : goal.returns
returns c enc part e word positive has = plain_tree enc e part positive word has
