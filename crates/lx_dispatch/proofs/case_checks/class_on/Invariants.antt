use Rattle.std.proofs.Common.{◌≡◌, drop}
use Rattle.lx_dispatch.specs.TestTrees.{class_on}
use Rattle.lx_dispatch.specs.Views.{seen_stretches}
use Rattle.lx_dispatch.proofs.case_checks.class_on.Given as goal

abbrev pub invariant-loop-stretch : goal.invariant-loop-stretch
invariant-loop-stretch l = class_on (seen_stretches (drop l.stretch-index l.tests)) l.last l.unit ≡ class_on (seen_stretches l.tests) l.last l.unit
