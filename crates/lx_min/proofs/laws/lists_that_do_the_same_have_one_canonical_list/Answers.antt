use Rattle.lx_min.proofs.CanonicalLists.{canonical-is}
use Rattle.lx_min.proofs.laws.lists_that_do_the_same_have_one_canonical_list.Goals as goal

pub returns : goal.returns
returns c = canonical-is
