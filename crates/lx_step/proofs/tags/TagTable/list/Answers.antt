use Rattle.std.proofs.Common.{sym, subst, take, arith}
use Rattle.lx_ccode.specs.Statements.{all_statements}
use Rattle.lx_step.specs.Tags.{AreTagsOf}
use Rattle.lx_step.proofs.TagLists.{all_statements-take}
use Rattle.lx_step.proofs.TagTables.{length-names-block}
use Rattle.lx_step.proofs.tags.TagTable.list.Goals as goal

pub returns-in_err-list_those_of-clause-succeeds : goal.returns-in_err-list_those_of-clause-succeeds
returns-in_err-list_those_of-clause-succeeds c = λ enough.
    let few = length-names-block c.args.blocks.now c.loop-place.place c.index-blocks-place.result c.as_slice.result.now c.loop-place-test.true c.index-blocks-place.is c.as_slice.ensures in
    let room = c.loop-place.invariant.room in
    absurd (let bad = c.in_err-list_those_of.ensures.succeeds (all_statements (take c.loop-place.place c.args.blocks.now)) c.loop-place.invariant.tags (omega (arith, few, enough, room)) in cc)

pub loop-place-preserved : goal.loop-place-preserved
loop-place-preserved c = record {
  tags =
      subst (λ statements. AreTagsOf c.args.blocks.now statements c.list_those_of.new.self)
      (sym (all_statements-take c.args.blocks.now c.loop-place.place c.index-blocks-place.result c.as_slice.result.now c.loop-place-test.true c.index-blocks-place.is c.as_slice.ensures))
      (c.in_ok-list_those_of.ensures.tags (all_statements (take c.loop-place.place c.args.blocks.now)) c.loop-place.invariant.tags);
  room = let kept = c.list_those_of.ensures.room in let room = c.loop-place.invariant.room in omega (arith, kept, room);
}
