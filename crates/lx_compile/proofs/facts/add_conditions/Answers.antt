use Rattle.std.proofs.Common.{◌∙◌, Vec, Global, ℕ, List, ap, map}
use Rattle.lx_compile.proofs.ConditionNames.{names-inserted, with_conditions-more, with_name}
use Rattle.lx_compile.specs.Making.{seen_conditions}
use Rattle.lx_compile.proofs.facts.add_conditions.Goals as goal

abbrev items : Vec ℕ Global → List ℕ
items cond = cond.items

pub loop-case-preserved : goal.loop-case-preserved
loop-case-preserved c =
    let seen = seen_conditions c.loop-case.conds in
    let is = c.into_vec.ensures ∙ c.in_ok-cond.ensures ∙ c.as_slice.ensures in
    with_conditions-more c.args.cases.now c.loop-case.case-index c.case-item.result c.loop-case-test.true c.case-item.is
    seen _ _ c.loop-case.invariant
    (ap (map items) c.in_ok-insert.ensures.keys ∙ names-inserted items c.into_vec.result c.loop-case.conds.keys ∙ ap (with_name seen) is)
