use Rattle.lx_ccode.proofs.NameLists.{place_is}
use Rattle.lx_ccode.proofs.name_sets.NameSet.place_of.Goals as goal

pub returns-clause-place : goal.returns-clause-place
returns-clause-place c = rw (← c.self.view_is) (place_is (λ key. key.items) c.args.name.now c.self.inside.names.keys c.get_index_of.result c.get_index_of.ensures.index c.get_index_of.ensures.found)
