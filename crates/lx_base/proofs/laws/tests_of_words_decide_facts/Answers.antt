use Rattle.lx_base.proofs.Allowed.{is_identifier-decides, is_spelling-decides, is_words-decides}
use Rattle.lx_base.proofs.Deciding.{EachLetter-decides}
use Rattle.lx_base.proofs.laws.tests_of_words_decide_facts.Goals as goal

pub returns : goal.returns
returns c = record {
  letters = EachLetter-decides;
  identifiers = is_identifier-decides;
  spellings = is_spelling-decides;
  words = is_words-decides;
}
