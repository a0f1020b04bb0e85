use Rattle.std.proofs.Common.{◌∙◌, ap}
use Rattle.lx_compile.specs.Making.{seen_pieces}
use Rattle.lx_compile.proofs.facts.facts_of.Goals as goal

pub facts_among-requires-clause-pieces : goal.facts_among-requires-clause-pieces
facts_among-requires-clause-pieces c = ap seen_pieces c.deref.ensures.value ∙ c.in_ok-pieces.ensures
