use Rattle.std.proofs.Common.{◌-◌, ◌<◌, length, arith, sym}
use Rattle.std.proofs.lemmas.Bool.{eqb-true, eqb-false}
use Rattle.std.proofs.lemmas.List.{length-take}
use Rattle.lx_token.proofs.Passing.{HasPassed-end, HasPassed-blank, HasPassed-token, HasPassed-stuck}
use Rattle.lx_token.proofs.list.tokens.Goals as goal

pub loop-rest-preserved-in-Some : goal.loop-rest-preserved-in-Some
loop-rest-preserved-in-Some c =
    let rest = c.loop-rest.rest.now in
    let tail = c.in-Some.tail.now in
    let less = c.in-Some.ensures.shorter in
    let passed_length = length-take (length rest - length tail) rest in record {
      passed =
          rw c.place_after-place.ensures.place
          (HasPassed-blank c.args.body.now c.args.at c.loop-rest.found c.loop-rest.place rest tail (sym c.in-Some.ensures.rest) less c.loop-rest.invariant.passed);
      size = omega arith;
      line = omega arith;
      col = omega arith;
    }

pub returns-in-None : goal.returns-in-None
returns-in-None c =
    let rest = c.loop-rest.rest.now in
    let some : 0 < length rest = omega (arith, eqb-false (length rest) 0 (sym c.loop-rest-test.ensures)) in
    HasPassed-stuck c.args.body.now c.args.at c.loop-rest.found c.loop-rest.place rest (sym c.in_default.ensures.rest)
    (sym c.in-None.ensures.found) some c.loop-rest.invariant.passed

pub loop-rest-preserved : goal.loop-rest-preserved
loop-rest-preserved c =
    let rest = c.loop-rest.rest.now in
    let tail = c.in-Some-longest_token.token.1.now in
    let kind = c.in-Some-longest_token.token.0 in
    let less = c.in-Some-longest_token.ensures.shorter in
    let passed_length = length-take (length rest - length tail) rest in record {
      passed =
          rw (c.place_after-place-in-loop-rest.ensures.place, c.in_ok-push.ensures.pushed)
          (HasPassed-token c.args.body.now c.args.at c.loop-rest.found c.loop-rest.place rest (kind, tail) (sym c.in_default.ensures.rest)
          (sym c.in-Some-longest_token.ensures.found) less c.loop-rest.invariant.passed);
      size = omega arith;
      line = omega arith;
      col = omega arith;
    }

pub returns : goal.returns
returns c =
    let none = eqb-true (length c.loop-rest.rest.now) 0 (sym c.loop-rest-test.ensures) in
    HasPassed-end c.args.body.now c.args.at c.loop-rest.found c.loop-rest.place c.loop-rest.rest.now none c.loop-rest.invariant.passed
