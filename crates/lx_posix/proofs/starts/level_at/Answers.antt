use Rattle.std.proofs.Common.{◌∙◌, sym}
use Rattle.lx_posix.proofs.CodeStarts.Waiting.{level_at-past, level_at-read}
use Rattle.lx_posix.proofs.starts.level_at.Goals as goal

pub returns-in-Some : goal.returns-in-Some
returns-in-Some c =
    let at = c.in-Some.ensures.lookup in
    c.min.ensures ∙ sym (level_at-read c.args.beginnings.now c.args.index c.in-Some.beginning.now at.3.0 at.1)

pub returns-in-None : goal.returns-in-None
returns-in-None c = sym (level_at-past c.args.beginnings.now c.args.index c.in-None.ensures.lookup.3)
