use Rattle.std.proofs.Common.{◌≡◌, ◌<◌, ℕ, None, false, get_or}
use Rattle.lx_ccode.specs.Machine.{is_among}
use Rattle.lx_dispatch.specs.FirstQuestions.{questions_of, seen_first}
use Rattle.lx_dispatch.specs.LeftUnits.{any_holds}
use Rattle.lx_dispatch.specs.TestTrees.{class_on}
use Rattle.lx_dispatch.specs.Views.{seen_stretches}
use Rattle.lx_dispatch.proofs.case_checks.ways_lead.Given as goal

abbrev pub invariant-loop-unit : goal.invariant-loop-unit
invariant-loop-unit l =
    (unit : ℕ) → unit < l.unit → any_holds (is_among l.table) (questions_of (seen_first l.first)) unit ≡ false
    → get_or l.ways unit None ≡ class_on (seen_stretches l.tests) l.last unit
