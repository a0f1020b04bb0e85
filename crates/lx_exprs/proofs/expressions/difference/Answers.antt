use Rattle.std.proofs.Common.{◌≡◌, ◌++◌, max, None, Some, refl, subst, sym}
use Rattle.std.specs.Prelude.{IfNone, IfSome}
use Rattle.std.proofs.lemmas.Result.{err_from_is_err_and}
use Rattle.lx_base.specs.declared.faults.Fault.TheVariants.{NotClass}
use Rattle.lx_class.specs.Ranges.{InRanges}
use Rattle.lx_exprs.specs.Checks.{IsFilled, StopsAt}
use Rattle.lx_exprs.specs.Defined.{meant_class}
use Rattle.lx_exprs.specs.Meanings.{class_meaning}
use Rattle.lx_exprs.specs.Operands.{IsHoled, IsHoledBy}
use Rattle.lx_exprs.specs.Reading.{DifferenceChecks}
use Rattle.lx_exprs.specs.Seen.{scope_view}
use Rattle.lx_exprs.specs.Values.{IsValue}
use Rattle.lx_exprs.proofs.Forms.Differences.{checks_so, left_told, put_off, set_left, stops_so, with_points}
use Rattle.lx_exprs.proofs.expressions.difference.Goals as goal

pub returns-in_default-clause-read : goal.returns-in_default-clause-read
returns-in_default-clause-read c first second sign place is is' =
    let options = c.args.reader.options.now in
    let definitions = scope_view c.args.reader.scope in
    let none = subst (λ found. IfNone found (meant_class first ≡ None)) c.in_default.is (c.in_ok-whole.ensures.none c.args.reader.room first is) in
    subst (λ at. DifferenceChecks options definitions c.args.is_operand first second sign (Some (NotClass at))) place
    (left_told options definitions c.args.is_operand first second sign none)

pub returns-then-is_operand-clause-read : goal.returns-then-is_operand-clause-read
returns-then-is_operand-clause-read c first second sign place is is' =
    let room = c.args.reader.room in
    let whole = subst (λ found. IfSome found (IsHoled first)) c.in-Some.is (c.in_ok-whole.ensures.class room first is) in
    let left = subst (λ found. IfSome found (IsHoledBy first second)) c.in-Some-2.is (c.in_ok-holed.ensures.class room first second whole is') in
    put_off c.args.reader.options.now (scope_view c.args.reader.scope) first second sign c.in-Some-2.holed left room c.args.is_operand
    c.if-is_operand.true

pub returns-in_err-value-clause-read : goal.returns-in_err-value-clause-read
returns-in_err-value-clause-read c first second sign place is is' =
    let room = c.args.reader.room in
    let options = c.args.reader.options.now in
    let definitions = scope_view c.args.reader.scope in
    let whole = subst (λ found. IfSome found (IsHoled first)) c.in-Some.is (c.in_ok-whole.ensures.class room first is) in
    let left = subst (λ found. IfSome found (IsHoledBy first second)) c.in-Some-2.is (c.in_ok-holed.ensures.class room first second whole is') in
    let set = c.in_ok-set.set in
    let has = set_left options definitions c.args.is_operand first second sign c.in-Some-2.holed left set c.in_ok-set.ensures.canonical c.in_ok-set.ensures.points in
    let stopped = c.in_err-value.field-0.0 in
    let p = err_from_is_err_and c.from_residual-in_err-value.result c.from_residual-in_err-value.ensures.1 in
    rw (p.1, p.2)
    (stops_so options definitions c.args.is_operand first second sign c.in-Some-2.holed left set has stopped
    (subst (λ at. StopsAt (IsFilled options definitions options.empty c.args.is_operand at (InRanges set)) stopped) (sym place)
    (c.in_err-value.ensures.read definitions (max first.nesting second.nesting) (max first.count second.count) (first.tags ++ second.tags) left.nesting_is left.tags_is)))

pub returns-clause-read : goal.returns-clause-read
returns-clause-read c first second sign place is is' =
    let room = c.args.reader.room in
    let options = c.args.reader.options.now in
    let definitions = scope_view c.args.reader.scope in
    let whole = subst (λ found. IfSome found (IsHoled first)) c.in-Some.is (c.in_ok-whole.ensures.class room first is) in
    let left = subst (λ found. IfSome found (IsHoledBy first second)) c.in-Some-2.is (c.in_ok-holed.ensures.class room first second whole is') in
    let set = c.in_ok-set.set in
    let has = set_left options definitions c.args.is_operand first second sign c.in-Some-2.holed left set c.in_ok-set.ensures.canonical c.in_ok-set.ensures.points in
    let read = c.in_ok-value.ensures.read definitions (max first.nesting second.nesting) (max first.count second.count) (first.tags ++ second.tags) left.nesting_is left.tags_is in (
      checks_so options definitions c.args.is_operand first second sign c.in-Some-2.holed left set has None
          (subst (λ at. IsFilled options definitions options.empty c.args.is_operand at (InRanges set) None) (sym place) read.0),
      (
        with_points options definitions c.args.is_operand first second sign set,
        (set, has, refl),
        subst
            (λ groups. IsValue room (class_meaning c.args.is_operand options.empty (max first.nesting second.nesting) (first.tags ++ second.tags) groups (max first.count second.count) set) c.in_ok-value.value)
            left.groups_is read.1,
      ),
    )
