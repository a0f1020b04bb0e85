use Rattle.std.proofs.Common.{drop}
use Rattle.lx_dispatch.specs.FirstQuestions.{AreAsked, seen_first}
use Rattle.lx_dispatch.specs.Views.{seen_stretches}
use Rattle.lx_dispatch.proofs.first_questions.are_asked.Given as goal

abbrev pub invariant-loop-one : goal.invariant-loop-one
invariant-loop-one l =
    AreAsked l.room (record { tests = seen_stretches l.tests; last = l.last }) (seen_first (drop l.one-index l.first))
    → AreAsked l.room (record { tests = seen_stretches l.tests; last = l.last }) (seen_first l.first)
