use Rattle.std.proofs.Common.{◌≡◌, List, ℕ, Some, ◌∷◌, ◌++◌, [], sym, ◌∙◌, ap, subst}
use Rattle.lx_split.specs.declared.pieces.SourcePiece.{SourcePiece}
use Rattle.lx_split.specs.declared.walk.Walk.{Walk}
use Rattle.lx_split.specs.IncludeNames.{names_for}
use Rattle.lx_split.specs.Includes.{first_file, found_view}
use Rattle.lx_split.specs.Walks.{Enters, StopsWhole, Takes, inner_folder, whole_from, whole_of}
use Rattle.lx_split.proofs.ExpandStops.{MatchResult-residual}
use Rattle.lx_split.proofs.Walks.{Takes-enters, has_inner, whole_from-entered, whole_from-stops}
use Rattle.lx_split.proofs.expanding.enter_include.Goals as goal

pub returns-in_err-enter-clause-expands : goal.returns-in_err-enter-clause-expands
returns-in_err-enter-clause-expands c = λ seen name named found.
    let walk = c.args.walk.now in
    let names = c.args.names.now in
    let options = c.args.opts.now in
    let include = c.args.include.now in
    let file = found_view c.args.found in
    let has = has_inner walk c.requires.inside in
    let found' = subst (λ (folder : List ℕ). first_file seen (names_for options folder name) ≡ Some file) (ap inner_folder has.files) found in
    let stop = c.in_err-enter.field-0.0 in
    let stopped = whole_from-stops options seen names walk include has name named c.requires.depth file found' c.in_ok-file.file c.push.new.self.total
    c.in_ok-file.ensures.added.0 (ap (λ (w : Walk). w.total) c.in_ok-push.ensures) stop c.in_err-enter.ensures in
    MatchResult-residual c.from_residual-in_err-enter.result stop _ _ c.from_residual-in_err-enter.ensures.1
    (subst (λ (l : List (List ℕ)). StopsWhole (whole_from options seen names walk (Some include)) l stop) (sym c.in_ok-file.ensures.added.1) stopped)

pub returns-clause-expands : goal.returns-clause-expands
returns-clause-expands c = λ seen name named found.
    let walk = c.args.walk.now in
    let names = c.args.names.now in
    let options = c.args.opts.now in
    let include = c.args.include.now in
    let file = found_view c.args.found in
    let has = has_inner walk c.requires.inside in
    let found' = subst (λ (folder : List ℕ). first_file seen (names_for options folder name) ≡ Some file) (ap inner_folder has.files) found in
    let entered = c.in_ok-enter.ensures in
    let push = c.in_ok-push.ensures in
    let enters = subst (λ (piece : SourcePiece). Enters c.push.new.self c.enter.new.self file entered.0 (Some piece)) c.leave_block-leave.ensures entered.2 in
    let whole = whole_from-entered options seen names walk include has name named c.requires.depth file found' c.in_ok-file.file c.push.new.self.total
    c.in_ok-file.ensures.added.0 (ap (λ (w : Walk). w.total) push) entered.0 entered.1 c.push.new.self c.enter.new.self enters
    (ap (λ (w : Walk). w.stack.items) push) (ap (λ (w : Walk). w.total) push)
    (ap (λ (w : Walk). w.pieces) push ∙ ap (λ (piece : SourcePiece). walk.pieces ++ piece ∷ []) c.enter_block.ensures) in
    whole ∙ ap (λ (l : List (List ℕ)). whole_of options seen l c.enter.new.self) (sym c.in_ok-file.ensures.added.1)

pub returns-clause-takes : goal.returns-clause-takes
returns-clause-takes c =
    let walk = c.args.walk.now in
    let names = c.args.names.now in
    let file = found_view c.args.found in
    let entered = c.in_ok-enter.ensures in
    let push = c.in_ok-push.ensures in
    subst (λ (l : List (List ℕ)). Takes names l walk c.enter.new.self) (sym c.in_ok-file.ensures.added.1)
    (Takes-enters names walk c.push.new.self c.enter.new.self file entered.0 (Some c.leave_block-leave.result) entered.2
    (ap (λ (w : Walk). w.stack.items) push) (ap (λ (w : Walk). w.total) push) c.requires.depth)
