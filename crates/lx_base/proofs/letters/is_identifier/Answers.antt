use Rattle.std.proofs.Common.{sym, ◌∙◌}
use Rattle.lx_base.proofs.Deciding.{IsIdentifier-decides}
use Rattle.lx_base.proofs.letters.is_identifier.Goals as goal

pub returns-then-begins_identifier : goal.returns-then-begins_identifier
returns-then-begins_identifier c =
    IsIdentifier-decides c.args.word.now c.in-Some.letter.now c.in-Some.rest.now c.are_letters.result
    c.in-Some.ensures.cases.0 (sym c.begins_identifier.ensures ∙ c.if-begins_identifier.true) c.are_letters.ensures
