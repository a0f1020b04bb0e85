use Rattle.lx_regex.proofs.laws.fronts_begin_matches.Goals as goal
use Rattle.lx_regex.proofs.Trees.Beginnings.{taken_begins, front_begins}

pub returns-clause-taken : goal.returns-clause-taken
returns-clause-taken c enc rules place e word at has = taken_begins enc rules place e word at has

pub returns-clause-front : goal.returns-clause-front
returns-clause-front c enc rules word more begun = front_begins enc rules word more begun
