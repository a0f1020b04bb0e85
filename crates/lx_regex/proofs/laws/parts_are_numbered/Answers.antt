use Rattle.lx_regex.specs.Parts.{parts_of}
use Rattle.lx_regex.specs.Pattern.{terms_of}
use Rattle.lx_regex.specs.Automaton.{automaton}
use Rattle.lx_regex.proofs.laws.parts_are_numbered.Goals as goal
use Rattle.lx_regex.proofs.PartTables.PartCount.{part_count}
use Rattle.lx_regex.proofs.PartTables.OwnParts.{own_part}
use Rattle.lx_regex.proofs.PartTables.PartStates.{list_fits, fits_at}

pub returns-clause-counted : goal.returns-clause-counted
returns-clause-counted c rule up child part e = part_count rule up child part e

pub returns-clause-states : goal.returns-clause-states
returns-clause-states c patterns place part state at at' =
    fits_at (parts_of patterns) (automaton (terms_of patterns)) place part state (list_fits patterns) at at'

pub returns-clause-own : goal.returns-clause-own
returns-clause-own c patterns place pattern at = own_part patterns place pattern at
