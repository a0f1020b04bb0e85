use Rattle.lx_forms.proofs.FilePlaces.{tokens_of-file}
use Rattle.lx_forms.proofs.laws.tokens_stand_in_the_file_of_their_body.Goals as goal

pub returns : goal.returns
returns c = tokens_of-file
