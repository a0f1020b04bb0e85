use Rattle.lx_parse.specs.Blocks.{form_of}
use Rattle.lx_parse.proofs.ItemPlaces.{body_has_places}
use Rattle.lx_parse.proofs.laws.items_name_tokens.Goals as goal

pub returns : goal.returns
returns c = λ kind sorts items body. body_has_places (form_of kind) sorts items body
