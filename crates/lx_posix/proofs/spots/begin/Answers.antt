use Rattle.lx_posix.proofs.CodeNumbers.FoundNumbers.{found-fits}
use Rattle.lx_posix.proofs.spots.begin.Goals as goal

pub walk-requires : goal.walk-requires
walk-requires c =
    rw (c.state_number.ensures, c.as_slice.ensures)
    (found-fits c.args.t.now c.args.beginnings.now c.args.found.now c.requires.searchable c.requires.found)
