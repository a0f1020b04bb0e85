use Rattle.std.proofs.Common.{subst, sym}
use Rattle.lx_step.specs.Feeds.{feed_of}
use Rattle.lx_step.specs.Held.{Held}
use Rattle.lx_window.specs.MemorySource.{ahead_of}
use Rattle.lx_run.proofs.Beginnings.{EndsAs-beginning}
use Rattle.lx_run.specs.Texts.{beginning}
use Rattle.lx_run.specs.Windows.{IsBetween, reading_by}
use Rattle.lx_run.proofs.windows.run_window.Goals as goal

pub returns-clause-ends : goal.returns-clause-ends
returns-clause-ends g c =
    let begins = c.requires.begins in
    let piece = c.args.piece.now in
    let reading = reading_by c.args.w.now c.args.src.now in
    let leaves = c.args.src.now.leaves in
    let between = subst (λ (lexer : Held). IsBetween piece reading leaves (beginning piece reading) lexer
    (feed_of (ahead_of c.begin_run.new.src) c.begin_run.new.w)) (sym c.requires.fresh) c.begin_run.ensures.between in
    EndsAs-beginning piece reading c.args.units _ _ _ _ c.run_matches.result
    (c.run_matches.ensures.ends reading leaves (beginning piece reading) between begins.early)
