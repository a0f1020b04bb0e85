use Rattle.lx_auto.proofs.SameTranslations.{translation-itself, translation-through}
use Rattle.lx_auto.proofs.laws.translations_go_through.Goals as goal

pub returns-clause-itself : goal.returns-clause-itself
returns-clause-itself c = translation-itself

pub returns-clause-through : goal.returns-clause-through
returns-clause-through c = translation-through
