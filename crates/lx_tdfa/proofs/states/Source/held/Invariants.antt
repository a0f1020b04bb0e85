use Rattle.std.proofs.Common.{◌≡◌, ◌++◌, drop}
use Rattle.lx_tdfa.specs.Registers.{held_from}
use Rattle.lx_tdfa.proofs.states.Source.held.Given as goal

abbrev pub invariant-loop-tag : goal.invariant-loop-tag
invariant-loop-tag l = l.values ++ held_from l.tag (drop l.tag l.kinds) ≡ held_from 0 l.kinds
