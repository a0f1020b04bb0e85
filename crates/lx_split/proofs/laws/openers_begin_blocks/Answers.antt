use Rattle.lx_split.proofs.Cutting.{pieces_of-opened}
use Rattle.lx_split.proofs.laws.openers_begin_blocks.Goals as goal

pub returns : goal.returns
returns c = pieces_of-opened
