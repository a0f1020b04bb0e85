use Rattle.std.proofs.Common.{map, take}
use Rattle.std.specs.List.{AllZip}
use Rattle.lx_rules.specs.Finishing.{IsCopyOf}
use Rattle.lx_rules.proofs.copies.rule_copies.Given as goal

abbrev pub invariant-loop-one : goal.invariant-loop-one
invariant-loop-one l = AllZip IsCopyOf (map (λ one. one.now) (take l.one-index l.held)) l.rules.items
