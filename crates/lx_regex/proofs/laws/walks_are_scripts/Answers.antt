use Rattle.std.proofs.Common.{refl}
use Rattle.lx_regex.specs.Cut.{rule_part}
use Rattle.lx_regex.specs.Automaton.{automaton}
use Rattle.lx_regex.proofs.laws.walks_are_scripts.Goals as goal
use Rattle.lx_regex.proofs.Walks.WholeWalk.{walk_of, tree_of}
use Rattle.lx_regex.proofs.KernelCuts.Cuts.{rule_stands, rule_positive}

pub returns-clause-walk : goal.returns-clause-walk
returns-clause-walk c enc rules place e tree at = walk_of enc (automaton rules) e (rule_part rules place) (rule_stands rules place e at) tree

pub returns-clause-tree : goal.returns-clause-tree
returns-clause-tree c enc rules place e walk at = tree_of enc (automaton rules) e (rule_part rules place) (rule_stands rules place e at) (rule_positive rules place) refl walk
