use Rattle.lx_parse.proofs.Verdicts.{read_or_refused}
use Rattle.lx_parse.proofs.laws.bodies_are_read_or_refused.Goals as goal

pub returns : goal.returns
returns c = λ kind body start tokens. read_or_refused kind body start tokens
