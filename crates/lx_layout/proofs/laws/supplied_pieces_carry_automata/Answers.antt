use Rattle.lx_layout.proofs.Carrying.SuppliedCarried.{supplied_carries}
use Rattle.lx_layout.proofs.laws.supplied_pieces_carry_automata.Goals as goal

pub returns : goal.returns
returns c piece entry endings greatest auto supply halting place saved rules fall end_rule serves serves_entry formed eof fits within apart peeks own =
    supplied_carries supply halting endings greatest auto piece place saved rules fall end_rule entry serves serves_entry formed fits within apart peeks own
