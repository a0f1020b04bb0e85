use Rattle.lx_tnfa.proofs.Leaves.OnePlace.{one_place}
use Rattle.lx_tnfa.proofs.laws.places_are_told_apart.Goals as goal

pub returns : goal.returns
returns c enc patterns tnfa word other_word cut other place there of is is' at at' =
    one_place enc patterns tnfa word other_word cut other place there of is is' at at'
