use Rattle.std.proofs.Common.{◌≡◌, ◌-◌, suc}
use Rattle.lx_ccode.specs.Machine.{is_among}
use Rattle.lx_dispatch.specs.FirstQuestions.{questions_of, seen_first}
use Rattle.lx_dispatch.specs.LeftUnits.{all_between, all_from, any_holds}
use Rattle.lx_dispatch.proofs.left_splits.all_decided.Given as goal

abbrev pub invariant-loop-unit : goal.invariant-loop-unit
invariant-loop-unit l =
    all_from (any_holds (is_among l.table) (questions_of (seen_first l.first))) l.unit (suc l.greatest - l.unit)
    ≡ all_between (any_holds (is_among l.table) (questions_of (seen_first l.first))) l.low l.greatest
