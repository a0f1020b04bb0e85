use Rattle.lx_posix.proofs.Ends.EndOfWord.{best_is_first}
use Rattle.lx_posix.proofs.Counted.NumbersOfCuts.{before_of}
use Rattle.lx_posix.proofs.laws.best_tree_has_the_first_cut.Goals as goal

pub returns : goal.returns
returns c enc rules word j k p q n e t ij ik up uq gj at f best first =
    best_is_first enc rules word j k p q n e t ij ik up uq gj at f best (before_of enc rules word j k n ij ik first)
