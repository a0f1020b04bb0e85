use Rattle.std.proofs.Common.{refl}
use Rattle.lx_split.proofs.BlockEnds.{IsEnd-behind_file_name}
use Rattle.lx_token.proofs.KnownLines.{AreKnown-tail}
use Rattle.lx_split.proofs.bodies.after_include_part.Goals as goal

pub returns-in-Some-eq34-default-clause-known : goal.returns-in-Some-eq34-default-clause-known
returns-in-Some-eq34-default-clause-known c =
    let tail = c.in-Some-eq34-default.tail in
    AreKnown-tail c.args.unclosed.now c.args.text.now c.unwrap_or.result.now c.in-Some-eq34-default.field-0-0.now
    tail.now c.in-Some-eq34-default.ensures.cases.0
    (IsEnd-behind_file_name tail.now c.after_file_name.result tail c.unwrap_or.result refl c.after_file_name.ensures.rest c.unwrap_or.ensures)
    c.requires.known
