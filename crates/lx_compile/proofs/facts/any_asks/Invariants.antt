use Rattle.std.proofs.Common.{◌≡◌, drop}
use Rattle.std.specs.List.{list_any}
use Rattle.lx_compile.specs.Making.{asks}
use Rattle.lx_compile.proofs.facts.any_asks.Given as goal

abbrev pub invariant-loop-one : goal.invariant-loop-one
invariant-loop-one l = list_any asks (drop l.one-index l.made) ≡ list_any asks l.made
