use Rattle.std.proofs.Common.{◌≡◌, true, sym, ◌∙◌}
use Rattle.std.proofs.lemmas.Bool.{true≢false}
use Rattle.lx_tdfa.proofs.LeastWords.SearchedWords.{first-least, word-least, word_at-parent, words-ascend, words-lead}
use Rattle.lx_tdfa.proofs.laws.searches_find_least_words.Goals as goal

pub returns-clause-ascend : goal.returns-clause-ascend
returns-clause-ascend c step trace place other is less lt = words-ascend step trace is place other less lt

pub returns-clause-parents : goal.returns-clause-parents
returns-clause-parents c step trace place is more lt = word_at-parent step trace is place more lt

pub returns-clause-lead : goal.returns-clause-lead
returns-clause-lead c step trace place is lt = words-lead step trace is place lt

pub returns-clause-least : goal.returns-clause-least
returns-clause-least c step trace place word is apart lt comes = word-least step trace place word is apart lt comes

pub returns-clause-first : goal.returns-clause-first
returns-clause-first c step trace good place unit front last state is lt none least comes ends =
    first-least step trace is (λ s u. good s u ≡ true) place unit lt
    (λ earlier other less found. true≢false (sym found ∙ none earlier other less))
    (λ other less found. true≢false (sym found ∙ least other less)) front last state comes ends
