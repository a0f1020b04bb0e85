use Rattle.lx_rules.proofs.Blocks.OneItem.{IsBlockFault-one, Resolves-one, resolves_or_not}
use Rattle.lx_rules.proofs.laws.blocks_resolve_in_one_way.Goals as goal

pub returns-clause-alike : goal.returns-clause-alike
returns-clause-alike c = λ options kind at environment after other lexemes items resolved another has is is_other.
    Resolves-one options lexemes at environment items kind has after other resolved another is is_other

pub returns-clause-fault : goal.returns-clause-fault
returns-clause-fault c = λ options kind at environment lexemes items fault other has is is_other.
    IsBlockFault-one options lexemes at environment items kind has fault other is is_other

pub returns-clause-apart : goal.returns-clause-apart
returns-clause-apart c = λ options kind at environment after lexemes items resolved fault has is found.
    resolves_or_not options lexemes at environment items kind has after resolved fault is found
