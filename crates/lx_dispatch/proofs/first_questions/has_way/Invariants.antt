use Rattle.std.proofs.Common.{drop}
use Rattle.lx_dispatch.specs.TestTrees.{HasWay}
use Rattle.lx_dispatch.specs.Views.{seen_stretches}
use Rattle.lx_dispatch.proofs.first_questions.has_way.Given as goal

abbrev pub invariant-loop-stretch : goal.invariant-loop-stretch
invariant-loop-stretch l =
    HasWay (seen_stretches (drop l.stretch-index l.tests)) l.last l.class → HasWay (seen_stretches l.tests) l.last l.class
