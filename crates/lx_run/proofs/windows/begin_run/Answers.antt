use Rattle.std.proofs.Common.{◌∙◌, sym}
use Rattle.lx_step.specs.Feeds.{feed_of}
use Rattle.lx_window.specs.MemorySource.{ahead_of}
use Rattle.lx_run.proofs.Beginnings.{IsAt-empty, IsBetween-filled}
use Rattle.lx_run.specs.Windows.{reading_by}
use Rattle.lx_run.proofs.windows.begin_run.Goals as goal

pub returns-then-holds_all-clause-between : goal.returns-then-holds_all-clause-between
returns-then-holds_all-clause-between c =
    let begins = c.requires.begins in
    let reading = reading_by c.args.w.now c.args.src.now in
    let holds = sym c.requires.holds ∙ c.if-holds_all.true in
    IsBetween-filled c.args.piece.now reading c.args.src.now.leaves (feed_of (ahead_of c.fill.new.src) c.fill.new.w) holds begins.leaves
    (c.fill.ensures.filled reading c.args.piece.now.unit c.args.src.now.leaves
    (IsAt-empty c.args.piece.now c.args.w.now c.args.src.now begins) (begins.room holds))
