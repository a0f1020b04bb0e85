use Rattle.lx_token.specs.Characters.{characters_of}
use Rattle.lx_token.proofs.Skipping.{escape_passed}
use Rattle.lx_token.proofs.characters.characters_of.Goals as goal

pub loop-letter-preserved-then-letter-eq92 : goal.loop-letter-preserved-then-letter-eq92
loop-letter-preserved-then-letter-eq92 c =
    let same = rw c.in-Some.ensures.cases.0 at c.loop-letter.invariant in
    rw c.in_ok-push.ensures.pushed
    (escape_passed c.loop-letter.characters c.in-Some.letter.now c.escape_point.result c.in-Some.tail.now c.after_escape-rest.result.now
    (characters_of c.args.text.now) c.if-letter-eq92.true c.escape_point.ensures c.after_escape-rest.ensures.rest same)
