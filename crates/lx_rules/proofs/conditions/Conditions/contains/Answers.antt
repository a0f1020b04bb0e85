use Rattle.std.proofs.Common.{◌∙◌, ap}
use Rattle.std.specs.Prelude.{is_some}
use Rattle.lx_exprs.proofs.TagLists.TagIndexes.{is_some-copied}
use Rattle.lx_rules.proofs.CondSets.ConditionEntries.{found-is_among}
use Rattle.lx_rules.proofs.conditions.Conditions.contains.Goals as goal

pub returns : goal.returns
returns c =
    c.is_some.ensures ∙ is_some-copied c.get.result ∙ ap is_some c.get.ensures.value
    ∙ found-is_among (λ key. key.items) c.args.name.now c.args.self.now.named.entries
