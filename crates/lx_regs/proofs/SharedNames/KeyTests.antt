-- The program tells keys, and lists of them, from one another.
use Rattle.std.proofs.Common.{◌≡◌, true, rules, List}
use Rattle.std.specs.Bool.{Decides}
use Rattle.std.specs.Cmp.Lexicographic.{pointwise, pointwise_decides}
use Rattle.lx_regs.specs.contracts.keys.KeyPartialEq.TheImpl.{eq-value}
use Rattle.lx_regs.specs.declared.keys.Key.{Key}
use Rattle.lx_regs.specs.Growth.{TellsEqual}

same_key : (key other : Key) → eq-value.it key other ≡ true → key ≡ other
same_key key other e = search rules

key_same : (key other : Key) → key ≡ other → eq-value.it key other ≡ true
key_same key other e = search rules

pub TellsEqual-keys : TellsEqual eq-value.it
TellsEqual-keys = λ key other. (same_key key other, key_same key other)

pub Decides-lists : (keys others : List Key) → Decides (pointwise eq-value.it keys others) (keys ≡ others)
Decides-lists = pointwise_decides TellsEqual-keys
