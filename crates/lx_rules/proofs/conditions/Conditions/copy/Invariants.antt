use Rattle.std.proofs.Common.{◌≡◌, take}
use Rattle.lx_rules.proofs.CondSets.CopiedConditions.{seen_entries}
use Rattle.lx_rules.proofs.conditions.Conditions.copy.Given as goal

abbrev pub invariant-loop-number : goal.invariant-loop-number
invariant-loop-number l = seen_entries l.named.entries ≡ take l.number (seen_entries l.self.named.entries)
