use Rattle.std.proofs.Common.{arith, sym}
use Rattle.lx_token.proofs.Ends.{IsEnd-self}
use Rattle.lx_token.proofs.Nesting.{Reaches-open, Reaches-close, Reaches-last, Reaches-piece, Reaches-stuck, Reaches-end}
use Rattle.lx_token.proofs.KnownLines.{AreKnown-tail}
use Rattle.lx_token.proofs.braces.after_braces.Goals as goal

pub loop-letter-preserved-in-123 : goal.loop-letter-preserved-in-123
loop-letter-preserved-in-123 c =
    let shorter = c.in-Some.ensures.cases.1 in
    let tail = c.in-Some.tail.now in
    let at = rw c.in-Some.ensures.cases.0 at c.loop-letter.invariant in record {
      reaches = Reaches-open c.args.text.now tail c.in-Some.letter.now c.loop-letter.depth c.in-123.is at.reaches;
      fits = omega arith;
      known =
          AreKnown-tail c.loop-letter.unclosed c.loop-letter.rest.now tail c.in-Some.letter.now tail c.in-Some.ensures.cases.0
          (IsEnd-self tail) c.loop-letter.invariant.known;
    }

pub returns-then-depth-eq0-clause-rest : goal.returns-then-depth-eq0-clause-rest
returns-then-depth-eq0-clause-rest c =
    let at = rw c.in-Some.ensures.cases.0 at c.loop-letter.invariant.reaches in
    sym (Reaches-last c.args.text.now c.in-Some.tail.now c.in-Some.letter.now c.loop-letter.depth c.in-125.is c.if-depth-eq0.true at)

pub returns-then-depth-eq0-clause-known : goal.returns-then-depth-eq0-clause-known
returns-then-depth-eq0-clause-known c =
    let tail = c.in-Some.tail.now in
    AreKnown-tail c.loop-letter.unclosed c.loop-letter.rest.now tail c.in-Some.letter.now tail c.in-Some.ensures.cases.0
    (IsEnd-self tail) c.loop-letter.invariant.known

pub loop-letter-preserved-in-125 : goal.loop-letter-preserved-in-125
loop-letter-preserved-in-125 c =
    let shorter = c.in-Some.ensures.cases.1 in
    let tail = c.in-Some.tail.now in
    let at = rw c.in-Some.ensures.cases.0 at c.loop-letter.invariant in record {
      reaches = Reaches-close c.args.text.now tail c.in-Some.letter.now c.loop-letter.depth c.in-125.is (omega arith) at.reaches;
      fits = omega arith;
      known =
          AreKnown-tail c.loop-letter.unclosed c.loop-letter.rest.now tail c.in-Some.letter.now tail c.in-Some.ensures.cases.0
          (IsEnd-self tail) c.loop-letter.invariant.known;
    }

pub returns-in_err-rest-in_default-letter-clause-rest :
    goal.returns-in_err-rest-in_default-letter-clause-rest
returns-in_err-rest-in_default-letter-clause-rest c =
    let at = rw c.in-Some.ensures.cases.0 at c.loop-letter.invariant.reaches in
    let piece = rw c.in-Some.ensures.cases.0 at c.in_err-rest-in_default-letter.ensures.rest in
    rw c.from_residual.ensures
    (sym (Reaches-stuck c.args.text.now c.in-Some.tail.now c.in-Some.letter.now c.loop-letter.depth (omega arith) (omega arith) (sym piece) at))

pub loop-letter-preserved : goal.loop-letter-preserved
loop-letter-preserved c =
    let rest = c.in_ok-rest-in_default-letter.rest.now in
    let piece = rw c.in-Some.ensures.cases.0 at c.in_ok-rest-in_default-letter.ensures.rest in
    let less = c.in_ok-rest-in_default-letter.ensures.shorter in
    let less' = rw c.in-Some.ensures.cases.0 at c.in_ok-rest-in_default-letter.ensures.shorter in
    let at = rw c.in-Some.ensures.cases.0 at c.loop-letter.invariant.reaches in record {
      reaches =
          Reaches-piece c.args.text.now c.in-Some.tail.now c.in-Some.letter.now c.loop-letter.depth rest (omega arith) (omega arith)
          (sym piece) less' at;
      fits = omega arith;
      known = c.in_ok-rest-in_default-letter.ensures.known;
    }

pub returns-clause-rest : goal.returns-clause-rest
returns-clause-rest c =
    sym (Reaches-end c.args.text.now c.loop-letter.rest.now c.loop-letter.depth c.in_default.ensures.cases c.loop-letter.invariant.reaches)
