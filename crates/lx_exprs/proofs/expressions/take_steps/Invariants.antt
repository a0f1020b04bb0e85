use Rattle.std.proofs.Common.{length, map, take, drop}
use Rattle.lx_exprs.specs.Reading.{AreBounded, AreInOrder, AreTaken, HasOwnKinds, operands_behind}
use Rattle.lx_exprs.specs.Seen.{scope_view}
use Rattle.lx_forms.specs.Seen.{lexemes_view}
use Rattle.lx_forms.specs.StepViews.{step_view}
use Rattle.lx_exprs.proofs.expressions.take_steps.Given as goal

abbrev pub invariant-loop-step : goal.invariant-loop-step
invariant-loop-step l = record {
  taken : AreTaken l.reader.options.now (scope_view l.reader.scope) l.reader.room (operands_behind (record { tags = l.fn.seen; groups = l.fn.groups }))
      (take l.step-index (map (step_view (lexemes_view l.lexemes)) l.steps)) l.operands;
  order : AreInOrder (length l.operands.values.items) (drop l.step-index (map (step_view (lexemes_view l.lexemes)) l.steps));
  bounded : AreBounded l.operands.values.items;
  kinds : HasOwnKinds l.operands;
}
