use Rattle.lx_parse.specs.Blocks.{form_of}
use Rattle.lx_parse.proofs.Ranges.{body_has}
use Rattle.lx_parse.proofs.laws.expressions_stand_in_ranges.Goals as goal

pub returns : goal.returns
returns c = λ kind sorts items body. body_has (form_of kind) sorts items body
