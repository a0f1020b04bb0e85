use Rattle.std.proofs.Common.{◌≡◌, ◌∷◌, [], sym, subst, Ok}
use Rattle.lx_base.specs.declared.places.Pos.{Pos}
use Rattle.lx_files.specs.Counts.{Rose}
use Rattle.lx_files.specs.declared.files.HeldFile.{HeldFile}
use Rattle.lx_split.specs.Includes.{expand_stop, expansion, pieces_within}
use Rattle.lx_split.specs.Pieces.{StopsWith}
use Rattle.lx_split.proofs.ExpandStops.{MatchResult-residual, StopsExpansion-read, main-stops}
use Rattle.lx_split.proofs.Growth.{AreFirstMet-main}
use Rattle.lx_split.proofs.LibraryLemmas.{bytes_of-known}
use Rattle.lx_split.proofs.Walks.{Starts-enters, whole_of-main}
use Rattle.lx_split.proofs.expanding.take_main.Goals as goal

pub returns-in_err-learn-clause-expands : goal.returns-in_err-learn-clause-expands
returns-in_err-learn-clause-expands g c = λ seen agrees.
    let main = c.args.main.now in
    MatchResult-residual c.from_residual.result c.in_err-learn.field-0.0 _ _ c.from_residual.ensures.1
    (StopsExpansion-read (expansion c.args.opts.now seen main) (Rose (g.F.Files.faults c.args.files.now) (g.F.Files.faults c.learn.new.files)) (main ∷ [])
    c.in_err-learn.field-0.0 c.in_err-learn.ensures.refuses (AreFirstMet-main c.args.opts.now seen main))

pub returns-in_err-enter-clause-expands : goal.returns-in_err-enter-clause-expands
returns-in_err-enter-clause-expands g c = λ seen agrees.
    let main = c.args.main.now in
    let options = c.args.opts.now in
    let bytes = c.in-Some.bytes.now in
    let total = c.args.walk.now.total in
    let stop = c.in_err-enter.field-0.0 in
    let held = bytes_of-known c.learn.new.self seen main bytes agrees (sym c.in-Some.ensures) in
    let stops = subst (λ (at : Pos). StopsWith (pieces_within options at 0 total bytes) stop) c.start_of-2.ensures c.in_err-enter.ensures in
    MatchResult-residual c.from_residual-in_err-enter.result (expand_stop stop) _ _ c.from_residual-in_err-enter.ensures.1
    (main-stops options seen main bytes total (Rose (g.F.Files.faults c.args.files.now) (g.F.Files.faults c.learn.new.files)) stop held c.requires.total stops)

pub returns-clause-expands : goal.returns-clause-expands
returns-clause-expands g c = λ seen agrees.
    let main = c.args.main.now in
    let options = c.args.opts.now in
    let bytes = c.in-Some.bytes.now in
    let walk = c.args.walk.now in
    let file : HeldFile = record { name = main; bytes = bytes } in
    let held = bytes_of-known c.learn.new.self seen main bytes agrees (sym c.in-Some.ensures) in
    let entered = c.in_ok-enter.ensures in
    let is = subst (λ (at : Pos). pieces_within options at 0 walk.total bytes ≡ Ok entered.0) c.start_of-2.ensures entered.1 in
    whole_of-main walk c.enter.new.self file entered.0 c.requires entered.2 options seen held is

pub returns-clause-starts : goal.returns-clause-starts
returns-clause-starts g c =
    let file : HeldFile = record { name = c.args.main.now; bytes = c.in-Some.bytes.now } in
    let entered = c.in_ok-enter.ensures in
    Starts-enters c.args.walk.now c.enter.new.self file entered.0 c.requires entered.2
