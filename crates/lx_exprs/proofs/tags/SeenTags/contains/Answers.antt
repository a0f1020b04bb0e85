use Rattle.lx_exprs.proofs.TagLists.TagIndexes.{among-front, among-back}
use Rattle.lx_exprs.proofs.tags.SeenTags.contains.Goals as goal

pub returns-then-contains : goal.returns-then-contains
returns-then-contains c =
    among-front c.args.name.now c.self.inside.shared c.self.inside.own c.args.self.now c.self.view_is c.contains.result c.contains.ensures c.if-contains.true

pub returns-else-contains : goal.returns-else-contains
returns-else-contains c =
    among-back c.args.name.now c.self.inside.shared c.self.inside.own c.args.self.now c.self.view_is c.contains.result c.contains.ensures c.if-contains.false
    c.contains-else-contains.result c.contains-else-contains.ensures
