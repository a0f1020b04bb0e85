use Rattle.std.proofs.Common.{◌≡◌, drop}
use Rattle.lx_ccode.specs.Machine.{is_among}
use Rattle.lx_dispatch.specs.FirstQuestions.{first_way, seen_first}
use Rattle.lx_dispatch.proofs.first_questions.first_way.Given as goal

abbrev pub invariant-loop-one : goal.invariant-loop-one
invariant-loop-one l =
    first_way (is_among l.table) (seen_first (drop l.one-index l.first)) l.other l.unit
    ≡ first_way (is_among l.table) (seen_first l.first) l.other l.unit
