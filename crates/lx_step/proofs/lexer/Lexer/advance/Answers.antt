use Rattle.lx_step.specs.Entries.{entry_by}
use Rattle.lx_step.specs.Feeds.{feed_of}
use Rattle.lx_step.specs.Left.{left_of}
use Rattle.lx_step.specs.LexerParts.{told}
use Rattle.lx_step.specs.Matches.{condition_of}
use Rattle.lx_step.proofs.WindowCalls.{IsAdvance-stopped}
use Rattle.lx_step.proofs.lexer.Lexer.advance.Goals as goal

pub returns-clause-advance : goal.returns-clause-advance
returns-clause-advance g c = λ free.
    let piece = c.self.inside.program.piece.now in
    let first = c.self.inside.scanner in
    rw (← c.self.view_is, c.is_last-self-inside.ensures, c.start-self-inside.ensures.start, c.leave.ensures, c.told-outcome.ensures)
    (IsAdvance-stopped piece c.self.inside.spent c.self.inside.start c.self.inside.steps first c.self.inside.slots c.self.inside.assigned.keys
    (feed_of (g.S.Refill.ahead c.args.src.now) c.args.w.now) (feed_of (g.S.Refill.ahead c.advance.new.src) c.advance.new.w) c.advance.new.scanner c.advance.new.slots c.advance.new.steps c.advance.new.assigned.keys
    c.advance.ensures.formed c.advance.ensures.parts.tables.numbering (told c.advance.result)
    (c.advance.ensures.stopped (entry_by piece first.cursor (condition_of piece first) c.self.inside.assigned.keys (left_of first c.self.inside.steps) c.args.w.now.start c.args.w.now.limit) (rw (← c.start.ensures.start, ← c.limit.ensures.limit) c.enter-at.ensures.enters)))
