-- The program tells items from one another.
use Rattle.std.proofs.Common.{◌≡◌, true, rules}
use Rattle.lx_regs.specs.contracts.items.ItemPartialEq.TheImpl.{eq-value}
use Rattle.lx_regs.specs.declared.items.Item.{Item}
use Rattle.lx_regs.specs.Growth.{TellsEqual}

same_item : (item other : Item) → eq-value.it item other ≡ true → item ≡ other
same_item item other e = search rules

item_same : (item other : Item) → item ≡ other → eq-value.it item other ≡ true
item_same item other e = search rules

pub TellsEqual-items : TellsEqual eq-value.it
TellsEqual-items = λ item other. (same_item item other, item_same item other)
