use Rattle.std.proofs.Common.{◌∙◌}
use Rattle.std.proofs.lemmas.Slice.Eq.{slice_eq-Decides}
use Rattle.std.proofs.lemmas.Bool.Decides.{Decides-eqb}
use Rattle.lx_base.proofs.Fronts.{equal_words-value}
use Rattle.lx_base.proofs.letters.equal_words.Goals as goal

pub returns-clause-value : goal.returns-clause-value
returns-clause-value c = c.eq.ensures ∙ equal_words-value c.args.word.now c.args.other.now

pub returns-clause-decides : goal.returns-clause-decides
returns-clause-decides c = slice_eq-Decides Decides-eqb _ _ c.eq.result c.eq.ensures
