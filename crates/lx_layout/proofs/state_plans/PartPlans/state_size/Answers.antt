use Rattle.std.proofs.Common.{◌≡◌, ◌∙◌, ◌<◌, None, Bool, List, ap, arith, length, sym, eqb-true, if◌then◌else◌}
use Rattle.std.proofs.lemmas.Bool.{eqb-false}
use Rattle.std.proofs.lemmas.Result.{IfOk-weaker}
use Rattle.lx_auto.specs.declared.automaton.Edge.{Edge}
use Rattle.lx_layout.specs.Layout.{end_size}
use Rattle.lx_dispatch.specs.TransitionClasses.{transition_classes}
use Rattle.lx_auto.specs.declared.automaton.State.{State}
use Rattle.lx_dispatch.specs.declared.classes.TransitionClass.{TransitionClass}
use Rattle.lx_layout.proofs.Laying.Planned.{plan_count, plan_given, size_of-none, size_of-some}
use Rattle.lx_layout.proofs.state_plans.PartPlans.state_size.Goals as goal

pub returns-then-is_empty : goal.returns-then-is_empty
returns-then-is_empty c =
    let plans = c.args.self.now in
    let plan = c.index-plan.result.now in
    let given = plan_given plans c.requires.plans c.args.number c.requires.within plan c.index-plan.ensures in
    let none = ap (λ (l : List Edge). length l) (sym c.as_slice.ensures)
    ∙ eqb-true (length c.as_slice.result.now) 0 (sym c.is_empty.ensures ∙ c.if-is_empty.true) in
    c.lone_size.ensures ∙ size_of-none plans c.args.number plan.state.now given none

pub returns : goal.returns
returns c =
    let plans = c.args.self.now in
    let number = c.args.number in
    let plan = c.index-plan.result.now in
    let given = plan_given plans c.requires.plans number c.requires.within plan c.index-plan.ensures in
    let not_none = eqb-false (length c.as_slice.result.now) 0 (sym c.is_empty.ensures ∙ c.if-is_empty.false) in
    let same = ap (λ (l : List Edge). length l) c.as_slice.ensures in
    let some : 0 < length plan.state.now.edges = omega (arith, not_none, same) in
    let classes : length c.as_slice-2.result.now ≡ length (transition_classes plan.state.now.edges) =
    ap (λ (l : List TransitionClass). length l) c.as_slice-2.ensures ∙ plan_count plans c.requires.plans number c.requires.within plan c.index-plan.ensures
    ∙ ap (λ (s : State). length (transition_classes s.edges)) (sym given) in
    let end = c.end_size-end.ensures ∙ ap (λ (t : Bool). end_size (if t then plan.state.now.accept else None)) c.halts.ensures in
    IfOk-weaker c.sum-3.result _ _
    (λ size is.
    size_of-some plans number plan.state.now given some (length c.as_slice-2.result.now) c.turn_size.result c.end_size-end.result c.in_ok-tests_size.field-0
    c.in_ok-behind.behind size c.in_ok-sum.field-0 classes c.turn_size.ensures end c.in_ok-sum.ensures c.in_ok-behind.ensures c.in_ok-tests_size.ensures is)
    c.sum-3.ensures
