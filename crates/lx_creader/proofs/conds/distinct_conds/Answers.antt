use Rattle.lx_ccode.specs.declared.piece.CondCase.{CondCase}
use Rattle.lx_creader.proofs.NameLists.{AreDistinct-added, AreDistinct-refused}
use Rattle.lx_creader.proofs.conds.distinct_conds.Goals as goal

pub returns-then-not-new : goal.returns-then-not-new
returns-then-not-new c =
    AreDistinct-refused (λ (case : CondCase). case.cond) c.args.cases.now c.loop-case.case-index c.case-item.result c.loop-case.names c.add.new.self c.as_slice.result.now c.in_ok-new.new
    c.loop-case-test.true c.case-item.is c.as_slice.ensures c.loop-case.invariant.0 c.if-not-new.true c.in_ok-new.ensures.added

pub loop-case-preserved : goal.loop-case-preserved
loop-case-preserved c =
    AreDistinct-added (λ (case : CondCase). case.cond) c.args.cases.now c.loop-case.case-index c.case-item.result c.loop-case.names c.add.new.self c.as_slice.result.now c.in_ok-new.new
    c.loop-case-test.true c.case-item.is c.as_slice.ensures c.loop-case.invariant.0 c.if-not-new.false c.in_ok-new.ensures.added c.loop-case.invariant.1
