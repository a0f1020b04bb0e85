use Rattle.std.proofs.Common.{◌≡◌, [], ◌∷◌, length, arith, sym, ap, ◌∙◌}
use Rattle.std.specs.Vec.Iter.{into_iter_items}
use Rattle.std.proofs.lemmas.List.{nil_from_length}
use Rattle.std.proofs.lemmas.Result.{err_from_is_err_and}
use Rattle.lx_rules.specs.Environments.{first_environment}
use Rattle.lx_compile.proofs.WalkRuns.{IsWalked-start, IsWalked-outside, IsWalked-block, IsWalked-end, StopsAmong-block}
use Rattle.lx_compile.proofs.walk.append_parts.Goals as goal

pub loop-piece-init : goal.loop-piece-init
loop-piece-init c =
    let gives = c.into_iter-piece-iterator.ensures.into_iter_gives in
    let items = gives.0 ∙ c.into_vec-piece-items.ensures in record {
      walked =
          (first_environment, c.requires.env, rw (items, c.requires.empty) (IsWalked-start c.args.options.now c.args.pieces c.requires.near));
      count = let held = c.into_vec-piece-items.result.ok in gives.1 ∙ held.0 ∙ ap length (sym gives.0);
    }

pub loop-piece-preserved-in-Continue-1 : goal.loop-piece-preserved-in-Continue-1
loop-piece-preserved-in-Continue-1 c =
    let at = c.loop-piece in
    let before = at.invariant.walked in
    let rest = into_iter_items c.next.new.self in
    let steps : into_iter_items at.piece-iterator ≡ c.in-Some.piece ∷ rest = c.in-Some.ensures.steps.0 in
    let walked = rw (steps, c.in-Outside.is) at before.2 in record {
      walked = (
        before.0,
        before.1,
        rw c.in_ok-push-in-Outside.ensures.pushed
            (IsWalked-outside c.args.options.now c.args.pieces rest before.0 at.parts c.in-Outside.text walked),
      );
      count = let was = at.invariant.count in let gone = c.in-Some.ensures.steps.1 in let short = ap length steps in omega arith;
    }

pub returns-in_err-append_block-in-Block-clause-parts : goal.returns-in_err-append_block-in-Block-clause-parts
returns-in_err-append_block-in-Block-clause-parts c =
    let at = c.loop-piece in
    let before = at.invariant.walked in
    let rest = into_iter_items c.next.new.self in
    let steps : into_iter_items at.piece-iterator ≡ c.in-Some.piece ∷ rest = c.in-Some.ensures.steps.0 in
    let walked = rw (steps, c.in-Block.is) at before.2 in
    let p = err_from_is_err_and c.from_residual-in_err-append_block-in-Block.result c.from_residual-in_err-append_block-in-Block.ensures.1 in
    rw (p.1, p.2)
    (StopsAmong-block c.args.options.now c.args.pieces rest before.0 at.parts c.in-Block.kind c.in-Block.body c.in-Block.at
    c.in-Block.body_at c.in-Block.end_line c.in_err-append_block-in-Block.field-0.0 walked
    (rw c.as_slice.ensures at c.in_err-append_block-in-Block.ensures before.0 before.1))

pub loop-piece-preserved : goal.loop-piece-preserved
loop-piece-preserved c =
    let at = c.loop-piece in
    let before = at.invariant.walked in
    let rest = into_iter_items c.next.new.self in
    let steps : into_iter_items at.piece-iterator ≡ c.in-Some.piece ∷ rest = c.in-Some.ensures.steps.0 in
    let walked = rw (steps, c.in-Block.is) at before.2 in
    let block = c.in_ok-append_block-in-Block.ensures before.0 before.1 in record {
      walked = (
        block.0,
        block.2,
        rw block.5
            (IsWalked-block c.args.options.now c.args.pieces rest before.0 at.parts c.in-Block.kind c.in-Block.body c.in-Block.at
            c.in-Block.body_at c.in-Block.end_line block.0 block.1 walked (rw c.as_slice.ensures at block.3) (block.4 walked.stands)),
      );
      count = let was = at.invariant.count in let gone = c.in-Some.ensures.steps.1 in let short = ap length steps in omega arith;
    }

pub returns-clause-parts : goal.returns-clause-parts
returns-clause-parts c =
    let at = c.loop-piece in
    let last = at.invariant.walked in
    let none = c.in-None.ensures.steps in
    let empty : into_iter_items at.piece-iterator ≡ [] = nil_from_length (into_iter_items at.piece-iterator) (sym at.invariant.count ∙ none.0) in (
      last.0,
      last.1,
      IsWalked-end c.args.options.now c.args.pieces last.0 at.parts (rw empty at last.2),
    )
