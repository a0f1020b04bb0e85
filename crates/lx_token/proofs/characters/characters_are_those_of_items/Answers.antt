use Rattle.lx_token.proofs.ItemCharacters.{characters_of-items}
use Rattle.lx_token.proofs.characters.characters_are_those_of_items.Goals as goal

pub returns : goal.returns
returns c = characters_of-items
