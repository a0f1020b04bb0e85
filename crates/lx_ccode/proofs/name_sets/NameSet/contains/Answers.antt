use Rattle.std.proofs.Common.{◌∙◌}
use Rattle.lx_ccode.proofs.NameLists.{list_any-bytes_eq}
use Rattle.lx_ccode.proofs.name_sets.NameSet.contains.Goals as goal

pub returns : goal.returns
returns c = rw (← c.self.view_is) (c.contains.ensures ∙ list_any-bytes_eq (λ key. key.items) c.args.name.now c.self.inside.names.keys)
