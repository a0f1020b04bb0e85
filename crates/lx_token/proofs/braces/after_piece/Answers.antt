use Rattle.lx_token.proofs.KnownLines.{AreKnown-quote, AreKnown-unquoted}
use Rattle.lx_token.proofs.braces.after_piece.Goals as goal

pub returns-in-Some-eq34-default-clause-known : goal.returns-in-Some-eq34-default-clause-known
returns-in-Some-eq34-default-clause-known c =
    let others =
    AreKnown-quote c.args.unclosed.now c.args.text.now c.after_quote.result.now c.in-Some-eq34-default.field-0-0.now 34
    c.in-Some-eq34-default.tail.now c.in-Some-eq34-default.ensures.cases.0 c.after_quote.ensures.rest c.requires.known in
    record { strings = c.after_quote.ensures.known; characters = others.characters; classes = others.classes }

pub returns-in-Some-eq39-default-clause-known : goal.returns-in-Some-eq39-default-clause-known
returns-in-Some-eq39-default-clause-known c =
    let quoted = c.after_quote-in-Some-eq39-default in
    let others =
    AreKnown-quote c.args.unclosed.now c.args.text.now quoted.result.now c.in-Some-eq39-default.field-0-0.now 39
    c.in-Some-eq39-default.tail.now c.in-Some-eq39-default.ensures.cases.0 quoted.ensures.rest c.requires.known in
    record { strings = others.strings; characters = quoted.ensures.known; classes = others.classes }

pub returns-in_default-clause-known : goal.returns-in_default-clause-known
returns-in_default-clause-known c =
    AreKnown-unquoted c.args.unclosed.now c.args.text.now c.after_unquoted.result c.after_unquoted.ensures.rest c.requires.known
