use Rattle.std.proofs.Common.{sym}
use Rattle.lx_split.proofs.IncludeTexts.{Skips-end}
use Rattle.lx_split.proofs.includes.after_blanks.Goals as goal

pub returns : goal.returns
returns c = Skips-end c.args.text.now c.loop-tail.rest.now (sym c.in_default.ensures.rest) c.loop-tail.invariant.skips
