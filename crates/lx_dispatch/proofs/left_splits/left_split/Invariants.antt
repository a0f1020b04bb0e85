use Rattle.std.proofs.Common.{◌≡◌, drop}
use Rattle.lx_ccode.specs.Machine.{is_among}
use Rattle.lx_dispatch.specs.FirstQuestions.{questions_of, seen_first}
use Rattle.lx_dispatch.specs.LeftUnits.{any_holds, left_from}
use Rattle.lx_dispatch.specs.Views.{seen_stretches}
use Rattle.lx_dispatch.proofs.LeftLoops.{joined, onto}
use Rattle.lx_dispatch.proofs.left_splits.left_split.Given as goal

abbrev pub invariant-loop-stretch : goal.invariant-loop-stretch
invariant-loop-stretch l =
    onto (seen_stretches l.tests.items)
    (joined (any_holds (is_among l.table) (questions_of (seen_first l.first))) l.top l.waiting
    (left_from (any_holds (is_among l.table) (questions_of (seen_first l.first))) l.top l.low (seen_stretches (drop l.stretch-index l.stretches)) l.last))
    ≡ left_from (any_holds (is_among l.table) (questions_of (seen_first l.first))) l.top 0 (seen_stretches l.stretches) l.last
