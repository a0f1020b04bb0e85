use Rattle.std.proofs.Common.{sym}
use Rattle.lx_token.proofs.Ends.{IsEnd-self}
use Rattle.lx_token.proofs.KnownLines.{AreKnown-bounds, AreKnown-quote, AreKnown-tail}
use Rattle.lx_split.proofs.bodies.after_part.Goals as goal

pub after_braces-requires : goal.after_braces-requires
after_braces-requires c =
    let tail = c.in-Some-eq123-default.tail.now in record {
      known =
          AreKnown-tail c.args.unclosed.now c.args.text.now tail c.in-Some-eq123-default.field-0-0.now tail
          c.in-Some-eq123-default.ensures.cases.0 (IsEnd-self tail) c.requires.known;
    }

pub returns-in-Some-eq91-default-clause-known : goal.returns-in-Some-eq91-default-clause-known
returns-in-Some-eq91-default-clause-known c =
    let others =
    AreKnown-quote c.args.unclosed.now c.args.text.now c.after_quote.result.now c.in-Some-eq91-default.field-0-0.now 93
    c.in-Some-eq91-default.tail.now c.in-Some-eq91-default.ensures.cases.0 c.after_quote.ensures.rest c.requires.known in
    record { strings = others.strings; characters = others.characters; classes = c.after_quote.ensures.known }

pub returns-in-Some-clause-known : goal.returns-in-Some-clause-known
returns-in-Some-clause-known c =
    AreKnown-bounds c.args.unclosed.now c.args.text.now c.in-Some.rest.now (sym c.in-Some.ensures.rest) c.requires.known
