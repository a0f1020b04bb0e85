use Rattle.lx_base.proofs.Deciding.{IsFree-decides}
use Rattle.lx_base.proofs.names.is_free.Goals as goal

pub returns-then-not-groups : goal.returns-then-not-groups
returns-then-not-groups c =
    let word = c.args.word.now in
    IsFree-decides word c.equal_words-null.result c.equal_words-count.result c.equal_words-groups.result c.begins_with-entry.result
    c.equal_words-null.ensures.decides c.equal_words-count.ensures.decides c.equal_words-groups.ensures.decides
    c.begins_with-entry.ensures.value
    c.if-not-groups.true.0 c.if-not-groups.true.1 c.if-not-groups.true.2
