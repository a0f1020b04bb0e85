use Rattle.std.proofs.Common.{◌∙◌}
use Rattle.lx_warn.proofs.NumberLists.{search-has}
use Rattle.lx_warn.proofs.lists.is_among.Goals as goal

pub returns : goal.returns
returns c =
    c.is_ok.ensures.value
    ∙ search-has c.args.numbers.now c.args.number c.binary_search.result c.requires c.binary_search.ensures.position
