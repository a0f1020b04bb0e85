use Rattle.std.proofs.Common.{◌++◌, subst, take, arith}
use Rattle.lx_step.specs.Tags.{AreTagsOf}
use Rattle.lx_step.proofs.TagTables.{length-names-next, statements-next}
use Rattle.lx_step.proofs.tags.TagTable.list_those_of.Goals as goal

pub returns-in_err-list_one-clause-succeeds : goal.returns-in_err-list_one-clause-succeeds
returns-in_err-list_one-clause-succeeds c = λ before tags enough.
    let front = before ++ take c.loop-place.place c.args.statements.now in
    let few = length-names-next before c.args.statements.now c.loop-place.place c.index-statements-place.result c.loop-place-test.true c.index-statements-place.is in
    let room = c.loop-place.invariant.room in
    absurd (let bad = c.in_err-list_one.ensures.succeeds front (c.loop-place.invariant.tags before tags) (omega (arith, few, enough, room)) in cc)

pub loop-place-preserved : goal.loop-place-preserved
loop-place-preserved c = record {
  tags = λ before tags.
      subst (λ statements. AreTagsOf c.args.blocks.now statements c.list_one.new.self) (statements-next before c.args.statements.now c.loop-place.place c.index-statements-place.result c.loop-place-test.true c.index-statements-place.is)
      (c.in_ok-list_one.ensures.tags (before ++ take c.loop-place.place c.args.statements.now) (c.loop-place.invariant.tags before tags));
  room = let kept = c.list_one.ensures.room in let room = c.loop-place.invariant.room in omega (arith, kept, room);
}
