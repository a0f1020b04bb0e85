use Rattle.lx_auto.proofs.Translations.{translation-same_run}
use Rattle.lx_auto.proofs.laws.translations_have_the_same_run.Goals as goal

pub returns : goal.returns
returns c = translation-same_run
