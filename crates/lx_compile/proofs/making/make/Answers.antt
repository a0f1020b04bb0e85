use Rattle.std.proofs.Common.{◌≡◌, [], ◌∷◌, length, arith, sym, ap, ◌∙◌}
use Rattle.std.specs.Vec.Iter.{into_iter_items}
use Rattle.std.proofs.lemmas.List.{nil_from_length}
use Rattle.std.proofs.lemmas.List.Elements.{All-head, All-tail}
use Rattle.std.proofs.lemmas.Result.{err_from_is_err_and}
use Rattle.lx_compile.specs.Emittable.{IsMakeable}
use Rattle.lx_compile.specs.Making.{seen_frame}
use Rattle.lx_compile.proofs.ScanningRuns.{HasNoneBefore-block, HasNoneBefore-outside, HasNoneBefore-start, IsScanningFault-end, StopsByScanners-block}
use Rattle.lx_compile.proofs.MadeRuns.{AreMade-length, HasMade-block, HasMade-end, HasMade-outside, HasMade-start}
use Rattle.lx_compile.proofs.making.make.Goals as goal

pub loop-part-init : goal.loop-part-init
loop-part-init c =
    let setting = seen_frame c.args.frame.now in
    let options = c.args.frame.now.options.now in
    let gives = c.into_iter-part-iterator.ensures.into_iter_gives in
    let items = gives.0 ∙ c.into_vec-part-items.ensures in record {
      made = rw (items, c.new-all.ensures) (HasMade-start setting c.args.parts);
      none = rw items (HasNoneBefore-start options c.args.parts);
      kept = tt;
      makeable = rw items c.requires.makeable;
      small = let same = ap length items in omega arith;
      count = let held = c.into_vec-part-items.result.ok in gives.1 ∙ held.0 ∙ ap length (sym gives.0);
    }

pub loop-part-preserved-in-Continue-1 : goal.loop-part-preserved-in-Continue-1
loop-part-preserved-in-Continue-1 c =
    let setting = seen_frame c.args.frame.now in
    let options = c.args.frame.now.options.now in
    let at = c.loop-part in
    let before = at.invariant in
    let rest = into_iter_items c.next.new.self in
    let steps : into_iter_items at.part-iterator ≡ c.in-Some.part ∷ rest = c.in-Some.ensures.steps.0 in
    let gone = c.in-Some.ensures.steps.1 in
    let short = ap length steps in record {
      made =
          rw c.in_ok-push-in-Outside.ensures.pushed
          (HasMade-outside setting c.args.parts rest at.numbers.piece at.numbers.state at.all c.in-Outside.text (rw (steps, c.in-Outside.is) at before.made));
      none = HasNoneBefore-outside options c.args.parts rest c.in-Outside.text (rw (steps, c.in-Outside.is) at before.none);
      kept = before.kept;
      makeable = All-tail (IsMakeable c.args.frame.now.options.now) c.in-Some.part rest (rw steps at before.makeable);
      small = let was = before.small in omega arith;
      count = let was = before.count in omega arith;
    }

pub make_block-requires : goal.make_block-requires
make_block-requires c =
    let at = c.loop-part in
    let rest = into_iter_items c.next.new.self in
    let steps : into_iter_items at.part-iterator ≡ c.in-Some.part ∷ rest = c.in-Some.ensures.steps.0 in
    let makeable = All-head (IsMakeable c.args.frame.now.options.now) c.in-Some.part rest (rw steps at at.invariant.makeable) in
    record { makeable = rw c.in-Block.is at makeable; kept = at.invariant.kept }

pub loop-part-preserved : goal.loop-part-preserved
loop-part-preserved c =
    let setting = seen_frame c.args.frame.now in
    let options = c.args.frame.now.options.now in
    let at = c.loop-part in
    let before = at.invariant in
    let rest = into_iter_items c.next.new.self in
    let steps : into_iter_items at.part-iterator ≡ c.in-Some.part ∷ rest = c.in-Some.ensures.steps.0 in
    let gone = c.in-Some.ensures.steps.1 in
    let short = ap length steps in
    let block = c.in-Block in
    let answer = c.in_ok-made-in-Block in record {
      made =
          rw c.in_ok-push-in-Block.ensures.pushed
          (HasMade-block setting c.args.parts rest at.numbers.piece at.numbers.state answer.next at.all block.at block.line block.content answer.made
          (rw (steps, block.is) at before.made) answer.ensures.made.0);
      none = HasNoneBefore-block options c.args.parts rest block.at block.line block.content (rw (steps, block.is) at before.none) answer.ensures.made.1;
      kept = answer.ensures.kept;
      makeable = All-tail (IsMakeable c.args.frame.now.options.now) c.in-Some.part rest (rw steps at before.makeable);
      small = let was = before.small in omega arith;
      count = let was = before.count in omega arith;
    }

pub returns-in_err-made-in-Block : goal.returns-in_err-made-in-Block
returns-in_err-made-in-Block c =
    let options = c.args.frame.now.options.now in
    let at = c.loop-part in
    let rest = into_iter_items c.next.new.self in
    let steps : into_iter_items at.part-iterator ≡ c.in-Some.part ∷ rest = c.in-Some.ensures.steps.0 in
    let none = rw (steps, c.in-Block.is) at at.invariant.none in
    let p = err_from_is_err_and c.from_residual-in_err-made-in-Block.result c.from_residual-in_err-made-in-Block.ensures.1 in
    rw (p.1, p.2)
    (StopsByScanners-block options c.args.parts rest c.in-Block.at c.in-Block.line c.in-Block.content c.in_err-made-in-Block.field-0.0 none c.in_err-made-in-Block.ensures.made)

pub returns : goal.returns
returns c =
    let setting = seen_frame c.args.frame.now in
    let options = c.args.frame.now.options.now in
    let at = c.loop-part in
    let none = c.in-None.ensures.steps in
    let empty : into_iter_items at.part-iterator ≡ [] = nil_from_length (into_iter_items at.part-iterator) (sym at.invariant.count ∙ none.0) in
    let made = HasMade-end setting c.args.parts at.numbers.piece at.numbers.state at.all (rw empty at at.invariant.made) in (
      made,
      IsScanningFault-end options c.args.parts (rw empty at at.invariant.none),
      AreMade-length setting 1 0 c.args.parts at.all made,
    )
