use Rattle.std.proofs.Common.{ap, sym, ◌∙◌}
use Rattle.std.specs.Prelude.{◌==◌}
use Rattle.std.proofs.lemmas.Bool.{false≢true}
use Rattle.lx_base.proofs.Deciding.{IsSpelling-decides}
use Rattle.lx_base.proofs.letters.is_spelling.Goals as goal

pub returns-then-not-is_empty : goal.returns-then-not-is_empty
returns-then-not-is_empty c =
    IsSpelling-decides c.args.word.now c.are_letters-spelled.result
    (λ none. false≢true (sym c.if-not-is_empty.true ∙ c.is_empty-is_empty.ensures ∙ ap (λ n. n == 0) (sym none))) c.are_letters-spelled.ensures
