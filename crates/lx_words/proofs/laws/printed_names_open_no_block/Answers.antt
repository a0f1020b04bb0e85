use Rattle.lx_words.proofs.OddNames.{HavePlainNames-words}
use Rattle.lx_words.proofs.laws.printed_names_open_no_block.Goals as goal

pub returns : goal.returns
returns c = HavePlainNames-words
