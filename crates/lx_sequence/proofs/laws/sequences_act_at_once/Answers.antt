use Rattle.lx_sequence.proofs.Sequentialized.{ActsOneByOne-sequentialized}
use Rattle.lx_sequence.proofs.laws.sequences_act_at_once.Goals as goal

pub returns : goal.returns
returns c = ActsOneByOne-sequentialized
