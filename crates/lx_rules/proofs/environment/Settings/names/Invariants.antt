use Rattle.std.proofs.Common.{◌≡◌, ◌++◌, drop}
use Rattle.lx_base.specs.Names.{usual_names}
use Rattle.lx_rules.specs.Environments.{spelled}
use Rattle.lx_rules.proofs.environment.Settings.names.Given as goal

abbrev pub invariant-loop-place : goal.invariant-loop-place
invariant-loop-place l = l.words.items ++ spelled (drop l.place l.self.names.items) (drop l.place usual_names) ≡ spelled l.self.names.items usual_names
