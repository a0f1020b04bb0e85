use Rattle.lx_posix.proofs.CodeNumbers.FoundNumbers.{found-fits}
use Rattle.lx_posix.proofs.numbers.lowest_to.Goals as goal

pub lowest_on_way-requires : goal.lowest_on_way-requires
lowest_on_way-requires c =
    rw (c.state_number.ensures, c.as_slice.ensures)
    (found-fits c.args.t.now c.args.beginnings.now c.args.found.now c.requires.depths c.requires.way)
