use Rattle.std.proofs.Common.{arith, ◌≡◌, ◌∙◌, ap, subst, sym, ℕ, List, length, map, refl}
use Rattle.std.proofs.lemmas.List.{length-map}
use Rattle.lx_layout.specs.Endings.{Ending}
use Rattle.lx_layout.specs.PieceViews.{seen_sources}
use Rattle.lx_layout.specs.Pieces.{AreFit, Form, IsPieceOf, Source, conds_of}
use Rattle.lx_layout.specs.RuleEnds.{endings_of}
use Rattle.lx_rules.specs.declared.resolved.Scanner.{Scanner}
use Rattle.lx_gen.specs.Automata.{seen_autos, seen_checks}
use Rattle.lx_gen.specs.Generated.{endings_by, form_of, marks_of, sources_of}
use Rattle.lx_gen.specs.Seen.{seen_marks}
use Rattle.lx_gen.proofs.FitSources.{all_fit, scanners_known}
use Rattle.lx_gen.proofs.RightScanners.{scanners_right}
use Rattle.lx_gen.proofs.SourceLists.{autos-length, lines_told, sources_told}
use Rattle.lx_gen.proofs.generating.generate.Goals as goal

pub inputs-requires-clause-autos : goal.inputs-requires-clause-autos
inputs-requires-clause-autos c =
    let scanners = c.args.resolved.scanners in
    let autos = c.args.autos.now in
    (autos-length c.args.options.now.enc scanners (seen_autos autos) (seen_checks autos) c.requires.automata).0
    ∙ sym (ap (λ (l : List Scanner). length l) c.as_slice-items.ensures)

pub inputs-requires-clause-ends : goal.inputs-requires-clause-ends
inputs-requires-clause-ends c =
    let scanners = c.as_slice-items.result.now in
    let told : Scanner → ℕ → Ending = λ scanner. endings_by (seen_marks c.marks_of.result) c.as_slice.result.now scanner.set.rules in
    ap (λ l. length l) c.deref.ensures.value ∙ sym (length-map c.in_ok-ends.ends.items (λ one. endings_of one.items))
    ∙ ap (λ (l : List (ℕ → Ending)). length l) c.in_ok-ends.ensures.endings ∙ length-map scanners told

pub piece_of-requires-clause-fit : goal.piece_of-requires-clause-fit
piece_of-requires-clause-fit c =
    let options = c.args.options.now in
    let resolved = c.args.resolved in
    let autos = seen_autos c.args.autos.now in
    let checks = seen_checks c.args.autos.now in
    let line = c.args.line in
    let marks = marks_of line c.args.names.now in
    let told = seen_marks c.marks_of.result in
    let endings : map (λ one. endings_of one.items) c.in_ok-ends.ends.items
    ≡ map (λ (scanner : Scanner). endings_by told resolved.acts scanner.set.rules) resolved.scanners =
    rw (c.as_slice-items.ensures, c.as_slice.ensures) at c.in_ok-ends.ensures.endings in
    let sources =
    sources_told (λ one. endings_of one.items) marks told resolved.acts resolved.scanners c.in_ok-ends.ends.items c.marks_of.ensures.marks
    endings options.enc autos checks c.as_slice-items.result.now c.deref.result.now c.in_ok-inputs.inputs.items c.deref-2.result.now
    c.requires.automata c.as_slice-items.ensures c.deref.ensures.value c.deref-2.ensures.value c.in_ok-inputs.ensures.sources in
    let lines =
    lines_told (λ one. endings_of one.items) marks told resolved.acts resolved.scanners c.in_ok-ends.ends.items c.marks_of.ensures.marks
    endings c.in_ok-ends.ensures.lines in
    let form = form_of options resolved c.args.number c.args.first_state c.args.own_switch line in
    subst (λ (one : Form). AreFit one (seen_sources c.deref-2.result.now)) (sym (c.piece_form-form.ensures resolved (sym c.as_slice-items.ensures) refl))
    (subst (λ (list : List Source). AreFit form list) (sym sources)
    (all_fit options resolved autos checks c.args.number c.args.first_state c.args.own_switch line marks c.requires.formed c.requires.automata
    lines (omega (arith, c.ranges.number)) c.requires.some c.requires.first_state c.marks_of.ensures.line))

pub returns-clause-piece : goal.returns-clause-piece
returns-clause-piece c =
    let options = c.args.options.now in
    let resolved = c.args.resolved in
    let autos = seen_autos c.args.autos.now in
    let checks = seen_checks c.args.autos.now in
    let line = c.args.line in
    let marks = marks_of line c.args.names.now in
    let told = seen_marks c.marks_of.result in
    let endings : map (λ one. endings_of one.items) c.in_ok-ends.ends.items
    ≡ map (λ (scanner : Scanner). endings_by told resolved.acts scanner.set.rules) resolved.scanners =
    rw (c.as_slice-items.ensures, c.as_slice.ensures) at c.in_ok-ends.ensures.endings in
    let sources =
    sources_told (λ one. endings_of one.items) marks told resolved.acts resolved.scanners c.in_ok-ends.ends.items c.marks_of.ensures.marks
    endings options.enc autos checks c.as_slice-items.result.now c.deref.result.now c.in_ok-inputs.inputs.items c.deref-2.result.now
    c.requires.automata c.as_slice-items.ensures c.deref.ensures.value c.deref-2.ensures.value c.in_ok-inputs.ensures.sources in
    let form = form_of options resolved c.args.number c.args.first_state c.args.own_switch line in
    subst (λ (list : List Source). IsPieceOf form list c.in_ok-piece.piece) sources
    (subst (λ (one : Form). IsPieceOf one (seen_sources c.deref-2.result.now) c.in_ok-piece.piece)
    (c.piece_form-form.ensures resolved (sym c.as_slice-items.ensures) refl) c.in_ok-piece.ensures)

pub returns-clause-right : goal.returns-clause-right
returns-clause-right c =
    let options = c.args.options.now in
    let resolved = c.args.resolved in
    let autos = seen_autos c.args.autos.now in
    let checks = seen_checks c.args.autos.now in
    let line = c.args.line in
    let marks = marks_of line c.args.names.now in
    let told = seen_marks c.marks_of.result in
    let endings : map (λ one. endings_of one.items) c.in_ok-ends.ends.items
    ≡ map (λ (scanner : Scanner). endings_by told resolved.acts scanner.set.rules) resolved.scanners =
    rw (c.as_slice-items.ensures, c.as_slice.ensures) at c.in_ok-ends.ensures.endings in
    let lines =
    lines_told (λ one. endings_of one.items) marks told resolved.acts resolved.scanners c.in_ok-ends.ends.items c.marks_of.ensures.marks
    endings c.in_ok-ends.ensures.lines in
    let form = form_of options resolved c.args.number c.args.first_state c.args.own_switch line in
    let known =
    scanners_known options resolved autos checks c.args.number c.args.first_state c.args.own_switch line marks c.requires.formed c.requires.automata lines in
    let all = sources_of marks resolved.acts resolved.scanners autos checks in
    λ policy are.
    scanners_right policy form resolved.config.names (conds_of all) resolved.config.eof marks resolved.acts c.in_ok-piece.piece resolved.scanners
    autos checks are known (returns-clause-piece c).stand
