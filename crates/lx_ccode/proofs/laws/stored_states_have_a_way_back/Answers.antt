use Rattle.lx_ccode.proofs.WaysBack.{code_at-stored}
use Rattle.lx_ccode.proofs.laws.stored_states_have_a_way_back.Goals as goal

pub returns : goal.returns
returns c = code_at-stored
