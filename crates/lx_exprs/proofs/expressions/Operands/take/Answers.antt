use Rattle.std.proofs.Common.{refl, subst, sym}
use Rattle.lx_exprs.specs.Checks.{are_groups}
use Rattle.lx_exprs.specs.Reading.{AreOperands, closed, opened}
use Rattle.lx_exprs.specs.Seen.{scope_view}
use Rattle.lx_exprs.proofs.expressions.Operands.take.Goals as goal

pub returns-in_ok-open-in-Open-clause-stands : goal.returns-in_ok-open-in-Open-clause-stands
returns-in_ok-open-in-Open-clause-stands c operands are =
    let definitions = scope_view c.args.reader.scope in
    rw c.in-Open.is (record {
      checked = refl;
      after = opened (are_groups c.args.reader.options.now definitions) operands;
      stepped = refl;
      stands =
          subst (λ is_group. AreOperands c.args.reader.room (opened is_group operands) c.open.new.self) (c.are_groups.ensures definitions)
          (c.in_ok-open-in-Open.ensures.stands c.args.reader.room operands are);
    })

pub returns-in_ok-close-in-Close-clause-stands : goal.returns-in_ok-close-in-Close-clause-stands
returns-in_ok-close-in-Close-clause-stands c operands are =
    let definitions = scope_view c.args.reader.scope in
    rw c.in-Close.is (record {
      checked = refl;
      after = closed (are_groups c.args.reader.options.now definitions) operands;
      stepped = refl;
      stands =
          subst (λ is_group. AreOperands c.args.reader.room (closed is_group operands) c.close.new.self) (c.are_groups-in-Close.ensures definitions)
          (c.in_ok-close-in-Close.ensures.stands operands are);
    })

pub returns-in-Repeat-clause-stands : goal.returns-in-Repeat-clause-stands
returns-in-Repeat-clause-stands c operands are =
    rw c.in-Repeat.is (rw (sym c.at-lexeme.ensures)
    (c.repeat.ensures.stands c.args.reader.options.now (scope_view c.args.reader.scope) operands are))
