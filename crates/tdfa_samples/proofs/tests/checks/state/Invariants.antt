use Rattle.std.proofs.Common.{◌≤◌, List, ◌++◌}
use Rattle.lx_auto.specs.declared.automaton.Edge.{Edge}
use Rattle.lx_auto.specs.Automaton.{AreApartFrom, LeadWithin}
use Rattle.tdfa_samples.proofs.tests.checks.state.Given as goal

abbrev pub invariant-loop-from : goal.invariant-loop-from
invariant-loop-from l = record {
  few : l.unit ≤ 1000;
  apart : (more : List Edge) → AreApartFrom l.unit more → AreApartFrom 0 (l.found ++ more);
  lead : (more : List Edge) → LeadWithin 0 0 l.count more → LeadWithin 0 0 l.count (l.found ++ more);
}
