use Rattle.std.proofs.Common.{sym}
use Rattle.lx_posix.proofs.CodeStarts.Waiting.{number_at-past, number_at-read}
use Rattle.lx_posix.proofs.starts.number_at.Goals as goal

pub returns-in-Some : goal.returns-in-Some
returns-in-Some c =
    let at = c.in-Some.ensures.lookup in
    sym (number_at-read c.args.beginnings.now c.args.index c.in-Some.beginning.now at.3.0 at.1)

pub returns-in-None : goal.returns-in-None
returns-in-None c = sym (number_at-past c.args.beginnings.now c.args.index c.in-None.ensures.lookup.3)
