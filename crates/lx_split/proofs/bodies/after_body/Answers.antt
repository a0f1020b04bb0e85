use Rattle.std.proofs.Common.{drop, arith, codes, length, sym, ◌∙◌, ◌<◌}
use Rattle.std.proofs.lemmas.Bool.{eqb-true, eqb-false}
use Rattle.lx_split.proofs.Needles.{pointwise-begins, take-rest}
use Rattle.lx_token.proofs.Ends.{IsEnd-drop}
use Rattle.lx_token.proofs.KnownLines.{AreKnown-end}
use Rattle.lx_split.proofs.Passing.{Passes-closed, Passes-end, Passes-part, Passes-stuck}
use Rattle.lx_split.proofs.bodies.after_body.Goals as goal

pub returns-then-starts_with-clause-rest : goal.returns-then-starts_with-clause-rest
returns-then-starts_with-clause-rest c =
    let rest = c.loop-rest.rest.now in
    let closed = sym (c.if-starts_with.ensures.value ∙ pointwise-begins (codes "*/") rest) in
    let some : 0 < length rest = omega (arith, eqb-false (length rest) 0 (sym c.loop-rest-test.ensures)) in
    rw (take-rest 2 rest) (sym (Passes-closed c.args.kind c.args.text.now rest closed some c.loop-rest.invariant.passes))

pub returns-in_err-rest-clause-rest : goal.returns-in_err-rest-clause-rest
returns-in_err-rest-clause-rest c =
    let rest = c.loop-rest.rest.now in
    let not_closed = sym (c.if-starts_with.ensures.value ∙ pointwise-begins (codes "*/") rest) in
    rw c.from_residual.ensures
    (sym (Passes-stuck c.args.kind c.args.text.now rest not_closed (sym c.in_err-rest.ensures.rest) c.loop-rest.invariant.passes))

pub loop-rest-preserved : goal.loop-rest-preserved
loop-rest-preserved c =
    let rest = c.loop-rest.rest.now in
    let next = c.in_ok-rest.rest.now in
    let less = c.in_ok-rest.ensures.shorter in
    let not_closed = sym (c.if-starts_with.ensures.value ∙ pointwise-begins (codes "*/") rest) in record {
      passes = Passes-part c.args.kind c.args.text.now rest next not_closed (sym c.in_ok-rest.ensures.rest) less c.loop-rest.invariant.passes;
      size = omega arith;
      known = c.in_ok-rest.ensures.known;
    }

pub returns-clause-rest : goal.returns-clause-rest
returns-clause-rest c =
    let rest = c.loop-rest.rest.now in
    sym (Passes-end c.args.kind c.args.text.now rest (eqb-true (length rest) 0 (sym c.loop-rest-test.ensures)) c.loop-rest.invariant.passes)

pub returns-then-starts_with-clause-known : goal.returns-then-starts_with-clause-known
returns-then-starts_with-clause-known c =
    let rest = c.loop-rest.rest.now in
    rw (take-rest 2 rest) (AreKnown-end c.loop-rest.unclosed rest (drop 2 rest) (IsEnd-drop 2 rest) c.loop-rest.invariant.known)
