use Rattle.std.proofs.Common.{◌≡◌, drop}
use Rattle.lx_ccode.specs.Machine.{is_among}
use Rattle.lx_dispatch.specs.FirstQuestions.{questions_of, seen_first}
use Rattle.lx_dispatch.specs.LeftUnits.{any_holds}
use Rattle.lx_dispatch.proofs.first_questions.any_holds.Given as goal

abbrev pub invariant-loop-one : goal.invariant-loop-one
invariant-loop-one l =
    any_holds (is_among l.table) (questions_of (seen_first (drop l.one-index l.first))) l.unit
    ≡ any_holds (is_among l.table) (questions_of (seen_first l.first)) l.unit
