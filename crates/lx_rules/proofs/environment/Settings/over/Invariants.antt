use Rattle.std.proofs.Common.{◌≡◌, ◌++◌, drop}
use Rattle.lx_rules.specs.Environments.{names_over}
use Rattle.lx_rules.proofs.environment.Settings.over.Given as goal

abbrev pub invariant-loop-place : goal.invariant-loop-place
invariant-loop-place l =
    l.names.items ++ names_over (drop l.place l.self.names.items) (drop l.place l.other.names.items)
    ≡ names_over l.self.names.items l.other.names.items
