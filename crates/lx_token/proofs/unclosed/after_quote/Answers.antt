use Rattle.std.proofs.Common.{[], refl, sym}
use Rattle.lx_token.proofs.Ends.{IsEnd-behind_quote}
use Rattle.lx_token.proofs.UnclosedLines.{AreUnclosed-end, AreUnclosed-failed, AreUnclosed-tail}
use Rattle.lx_token.proofs.unclosed.after_quote.Goals as goal

pub returns-then-text-unclosed-clause-rest : goal.returns-then-text-unclosed-clause-rest
returns-then-text-unclosed-clause-rest c =
    let known = c.requires.known [] c.args.text.now refl c.if-text-unclosed.true in
    rw known

pub returns-then-text-unclosed-clause-known : goal.returns-then-text-unclosed-clause-known
returns-then-text-unclosed-clause-known c =
    AreUnclosed-tail c.args.opener c.args.close c.args.unclosed.now c.args.opener c.args.text.now c.requires.known

pub returns-in-None-clause-known : goal.returns-in-None-clause-known
returns-in-None-clause-known c =
    rw c.after_line.ensures.rest
    (AreUnclosed-failed c.args.opener c.args.close c.args.text.now c.requires.line c.requires.backslash (sym c.in-None.ensures.rest))

pub returns-in-Some-clause-known : goal.returns-in-Some-clause-known
returns-in-Some-clause-known c =
    AreUnclosed-end c.args.opener c.args.close c.args.unclosed.now c.args.text.now c.in-Some.rest.now
    (IsEnd-behind_quote c.args.close c.args.text.now c.in-Some.rest.now (rw (sym c.in-Some.ensures.rest)))
    (AreUnclosed-tail c.args.opener c.args.close c.args.unclosed.now c.args.opener c.args.text.now c.requires.known)
