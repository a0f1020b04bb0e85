use Rattle.std.proofs.Common.{codes, length}
use Rattle.std.proofs.Math.Seq.{drop-length}
use Rattle.lx_split.proofs.Needles.{from_first-found, from_first-none, take-rest}
use Rattle.lx_split.proofs.searches.from_opening.Goals as goal

pub returns-in-Some-clause-rest : goal.returns-in-Some-clause-rest
returns-in-Some-clause-rest c =
    let text = c.args.text.now in
    rw (take-rest c.in-Some.index text, from_first-found (codes "/*!") text c.in-Some.index c.in-Some.ensures)

pub returns-in-None-clause-rest : goal.returns-in-None-clause-rest
returns-in-None-clause-rest c =
    let text = c.args.text.now in
    rw (take-rest (length text) text, drop-length text, from_first-none (codes "/*!") text c.in-None.ensures)
