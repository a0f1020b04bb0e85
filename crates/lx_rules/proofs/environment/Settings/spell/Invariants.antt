use Rattle.std.proofs.Common.{◌≡◌, ◌+◌, ◌-◌, ℕ, List, length}
use Rattle.lx_rules.specs.Environments.{with_name}
use Rattle.lx_rules.proofs.environment.Settings.spell.Given as goal

abbrev pub invariant-loop-self : goal.invariant-loop-self
invariant-loop-self l = record {
  names : (word : List ℕ) → with_name l.self.names.items l.place word ≡ with_name l.initial.self.names.items l.place word;
  eof : l.self.eof ≡ l.initial.self.eof;
  fill : l.self.fill ≡ l.initial.self.fill;
}

abbrev pub decreases-loop-self : goal.decreases-loop-self
decreases-loop-self l = l.place + 1 - length l.self.names.items
