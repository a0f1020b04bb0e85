use Rattle.lx_ccode.proofs.NameLists.{name_added, name_put}
use Rattle.lx_ccode.proofs.name_sets.NameSet.add.Goals as goal

pub returns-clause-added : goal.returns-clause-added
returns-clause-added c =
    rw (← c.self.view_is)
    (name_added (λ key. key.items) c.self.inside.names.keys c.insert.new.self.keys c.in_ok-name.name c.args.name.now c.in_ok-new.new c.in_ok-name.ensures.items c.in_ok-new.ensures.added c.in_ok-new.ensures.keys)

pub returns-clause-placed : goal.returns-clause-placed
returns-clause-placed c = λ none.
    rw (← c.self.view_is)
    (name_put (λ key. key.items) c.self.inside.names.keys c.insert.new.self.keys c.in_ok-name.name c.args.name.now c.in_ok-name.ensures.items c.in_ok-new.ensures.keys (rw (← c.self.view_is) at none))
