use Rattle.lx_base.specs.declared.settings.Enc.TheVariants.{Utf8}
use Rattle.lx_regex.specs.Pattern.{patterns_of}
use Rattle.tdfa_samples.proofs.tests.Starts.{start_of_result}
use Rattle.tdfa_samples.proofs.tests.automata.tagged.Goals as goal

pub returns-clause-start : goal.returns-clause-start
returns-clause-start c = start_of_result Utf8 (patterns_of c.args.set.now.rules) c.of.result c.of.ensures
