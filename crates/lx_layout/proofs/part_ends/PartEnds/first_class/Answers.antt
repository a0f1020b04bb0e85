use Rattle.std.proofs.Common.{◌+◌, ◌∙◌, ◌<◌, List, ap, arith, length, sym}
use Rattle.std.proofs.lemmas.Bool.{eqb-false}
use Rattle.std.proofs.lemmas.Result.{IfOk-weaker}
use Rattle.lx_auto.specs.declared.automaton.Edge.{Edge}
use Rattle.lx_layout.proofs.Laying.Planned.{first_of-some, plan_given}
use Rattle.lx_layout.proofs.part_ends.PartEnds.first_class.Goals as goal

pub returns : goal.returns
returns c =
    let plans = c.args.self.now.plans in
    let number = c.args.number in
    let plan = c.index-plan.result.now in
    let given = plan_given plans c.requires.ends.plans number c.requires.within plan c.index-plan.ensures in
    let not_none = eqb-false (length c.as_slice.result.now) 0 (sym c.is_empty.ensures ∙ c.if-is_empty.false) in
    let same = ap (λ (l : List Edge). length l) c.as_slice.ensures in
    let some : 0 < length plan.state.now.edges = omega (arith, not_none, same) in
    IfOk-weaker c.sum.result _ _
    (λ block is. is ∙ ap (λ tests. c.args.from + tests) c.in_ok-tests_size.ensures ∙ first_of-some plans number c.args.from plan.state.now given some)
    c.sum.ensures
