use Rattle.std.proofs.Common.{◌≡◌, ◌-◌, drop, length}
use Rattle.lx_dispatch.specs.Dispatch.{fronted}
use Rattle.lx_dispatch.specs.FirstQuestions.{seen_first}
use Rattle.lx_dispatch.specs.Views.{seen_tree}
use Rattle.lx_dispatch.proofs.first_questions.fronted.Given as goal

abbrev pub invariant-loop-passed : goal.invariant-loop-passed
invariant-loop-passed l = seen_tree l.tree ≡ fronted (seen_first (drop (length l.first - l.passed) l.first)) (seen_tree l.fn.rest)
