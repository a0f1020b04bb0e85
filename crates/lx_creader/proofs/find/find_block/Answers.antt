use Rattle.std.proofs.Common.{length, refl, sym, ap, subst, ◌∙◌, arith}
use Rattle.std.proofs.lemmas.List.{length-drop}
use Rattle.std.proofs.lemmas.Bool.{false≢true}
use Rattle.lx_creader.specs.Marks.{BeginsBlock}
use Rattle.lx_creader.proofs.Searches.{none_at_all, none_before, none_up_to}
use Rattle.lx_creader.proofs.find.find_block.Goals as goal

pub returns-then-begins_block : goal.returns-then-begins_block
returns-then-begins_block c = record {
  begins = subst (BeginsBlock c.args.block) c.skip-in-Some.ensures (c.if-begins_block.ensures.0 refl);
  none_before = none_before c.args.block c.args.bytes.now c.skip.result.now c.loop-found.offset c.skip.ensures c.loop-found.invariant.1 c.in-Some.found c.in-Some.ensures;
}

pub loop-found-preserved : goal.loop-found-preserved
loop-found-preserved c =
    let fits = c.in-Some.ensures.1.fits in
    let size = ap length c.skip.ensures ∙ length-drop c.loop-found.offset c.args.bytes.now in (
      omega (arith, fits, size),
      none_up_to c.args.block c.args.bytes.now c.skip.result.now c.loop-found.offset c.skip.ensures c.loop-found.invariant.1 c.in-Some.found c.in-Some.ensures
          (λ begins. false≢true (c.if-begins_block.ensures.1 (subst (BeginsBlock c.args.block) (sym c.skip-in-Some.ensures) begins))),
    )

pub returns : goal.returns
returns c = none_at_all c.args.block c.args.bytes.now c.skip.result.now c.loop-found.offset c.skip.ensures c.loop-found.invariant.1 c.in_default.ensures
