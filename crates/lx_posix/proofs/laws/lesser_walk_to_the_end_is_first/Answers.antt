use Rattle.lx_posix.proofs.Ends.FirstAccept.{lesser_walk_ends}
use Rattle.lx_posix.proofs.laws.lesser_walk_to_the_end_is_first.Goals as goal

pub returns : goal.returns
returns c enc part e tree other front rest more positive f g u v lesser =
    lesser_walk_ends enc part positive tree other front rest more f g u v lesser
