use Rattle.lx_parse.specs.Blocks.{form_of}
use Rattle.lx_parse.proofs.Refusals.{one_tree}
use Rattle.lx_parse.proofs.laws.bodies_have_one_tree.Goals as goal

pub returns : goal.returns
returns c = λ kind sorts items other body another. one_tree (form_of kind) sorts items other body another
