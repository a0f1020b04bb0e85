use Rattle.std.proofs.Common.{◌∙◌, ◌<◌, ◌&&◌, List, ap, arith, length, sym, eqb-true}
use Rattle.std.proofs.lemmas.Bool.{eqb-false}
use Rattle.lx_auto.specs.declared.automaton.Edge.{Edge}
use Rattle.lx_layout.proofs.Laying.Planned.{plan_given}
use Rattle.lx_layout.proofs.Laying.StateBlocks.{asks-none, asks-some}
use Rattle.lx_layout.proofs.part_states.asks.Goals as goal

pub returns-then-is_empty : goal.returns-then-is_empty
returns-then-is_empty c =
    let plans = c.args.plans.now in
    let plan = c.index.result.now in
    let given = plan_given plans c.requires.plans c.args.number c.requires.within plan c.index.ensures in
    let none = ap (λ (l : List Edge). length l) (sym c.as_slice.ensures)
    ∙ eqb-true (length c.as_slice.result.now) 0 (sym c.is_empty.ensures ∙ c.if-is_empty.true) in
    asks-none plans c.args.number plan.state.now given none

pub returns-then-is_entered : goal.returns-then-is_entered
returns-then-is_entered c =
    let plans = c.args.plans.now in
    let plan = c.index.result.now in
    let given = plan_given plans c.requires.plans c.args.number c.requires.within plan c.index.ensures in
    let not_none = eqb-false (length c.as_slice.result.now) 0 (sym c.is_empty.ensures ∙ c.if-is_empty.false) in
    let same = ap (λ (l : List Edge). length l) c.as_slice.ensures in
    let some : 0 < length plan.state.now.edges = omega (arith, not_none, same) in
    ap (λ t. t && c.asks.result) (sym c.if-is_entered.true)
    ∙ asks-some plans c.args.number plan.state.now given some c.is_entered.result c.asks.result c.is_entered.ensures
    (c.asks.ensures plans.input.end_rule plans.input.auto.now)
