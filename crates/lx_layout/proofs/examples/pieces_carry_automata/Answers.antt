use Rattle.lx_layout.proofs.Runs.CarriedExamples.{pieces_carry}
use Rattle.lx_layout.proofs.examples.pieces_carry_automata.Goals as goal

pub returns : goal.returns
returns c = pieces_carry
