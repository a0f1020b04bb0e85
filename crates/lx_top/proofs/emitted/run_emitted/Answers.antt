use Rattle.std.proofs.Common.{true, Some, [], ◌∷◌, refl, sym, subst, ◌∙◌}
use Rattle.lx_top.specs.Emitted.{Scans}
use Rattle.lx_files.specs.Held.{Sees}
use Rattle.lx_top.specs.Steps.{HaltsScan}
use Rattle.lx_top.proofs.EmittedLemmas.{JobEnds-run, Reason-scan, Reason-second, bytes_of-same, sees_both}
use Rattle.lx_top.proofs.JobLemmas.{IfErr-residual, JobEnds-reason, files_view-same}
use Rattle.lx_top.proofs.emitted.run_emitted.Goals as goal

pub returns-in_err-piece-clause-ends : goal.returns-in_err-piece-clause-ends
returns-in_err-piece-clause-ends g c =
    let read = c.in_ok-text.ensures.read in
    let halts = subst (λ bytes. HaltsScan bytes c.args.block c.in_err-piece.field-0.0) c.deref.ensures.value c.in_err-piece.ensures.scans in (
      read.0,
      read.1,
      JobEnds-reason true _ _ _ _ _ _ _ c.from_residual-in_err-piece.result c.in_err-piece.field-0.0 c.from_residual-in_err-piece.ensures.1
          (Reason-scan _ _ _ _ _ _ c.in_ok-text.text.items _ _ c.in_err-piece.field-0.0 read.2 halts) (refl, c.in_ok-text.ensures.held_stays),
    )

pub returns-in_err-piece-clause-placed : goal.returns-in_err-piece-clause-placed
returns-in_err-piece-clause-placed g c =
    IfErr-residual c.from_residual-in_err-piece.result c.in_err-piece.field-0.0 _ c.from_residual-in_err-piece.ensures.1
    (c.in_err-piece.ensures.placed c.args.emitted.now (c.args.input.now ∷ []))

pub returns-then-is_same-clause-ends : goal.returns-then-is_same-clause-ends
returns-then-is_same-clause-ends g c =
    let read = c.in_ok-text.ensures.read in
    let text = c.in_ok-text.text.items in
    let scans = subst (λ bytes. Scans bytes c.args.block c.in_ok-piece.piece) c.deref.ensures.value c.in_ok-piece.ensures.scans in
    let same = files_view-same c.in_ok-text.ensures.held_stays c.in_ok-text.ensures.calm c.in_ok-text.ensures.write_faults_stay in
    let given = bytes_of-same read.0 c.args.emitted.now c.args.input.now (Some text) (sym c.is_same.ensures ∙ c.if-is_same.true) read.2 in
    (read.0, read.1, JobEnds-run _ _ _ _ _ text text _ _ _ c.in_ok-piece.piece _ _ _ _ c.run_scanner.result same read.2 given scans refl c.run_scanner.ensures.ends)

pub returns-then-is_same-clause-placed : goal.returns-then-is_same-clause-placed
returns-then-is_same-clause-placed g c = c.run_scanner.ensures.placed c.args.emitted.now c.args.input.now

pub returns-in_err-given-clause-ends : goal.returns-in_err-given-clause-ends
returns-in_err-given-clause-ends g c =
    let read = c.in_ok-text.ensures.read in
    let scans = subst (λ bytes. Scans bytes c.args.block c.in_ok-piece.piece) c.deref.ensures.value c.in_ok-piece.ensures.scans in
    let second = c.in_err-given.ensures.read in
    let both = sees_both _ read.0 second.0 c.args.emitted.now c.args.input.now c.in_ok-text.text.items read.1
    (subst (λ held. Sees held second.0) c.in_ok-text.ensures.held_stays second.1) read.2 (sym c.is_same.ensures ∙ c.if-is_same.false) in
    let reason = Reason-second c.args.block c.args.units.window c.args.units.step c.args.input.now c.args.emitted.now c.in_ok-text.text.items both.0 second.0 c.in_ok-piece.piece _ c.in_err-given.field-0.0
    both.2 both.3 scans (rw c.in_ok-text.ensures.calm at second.2) in (
      both.0,
      both.1,
      JobEnds-reason true _ _ _ _ _ _ _ c.from_residual-in_err-given.result c.in_err-given.field-0.0 c.from_residual-in_err-given.ensures.1 reason
          (refl, c.in_err-given.ensures.held_stays ∙ c.in_ok-text.ensures.held_stays),
    )

pub returns-clause-ends : goal.returns-clause-ends
returns-clause-ends g c =
    let read = c.in_ok-text.ensures.read in
    let scans = subst (λ bytes. Scans bytes c.args.block c.in_ok-piece.piece) c.deref.ensures.value c.in_ok-piece.ensures.scans in
    let second = c.in_ok-given.ensures.read in
    let both = sees_both _ read.0 second.0 c.args.emitted.now c.args.input.now c.in_ok-text.text.items read.1
    (subst (λ held. Sees held second.0) c.in_ok-text.ensures.held_stays second.1) read.2 (sym c.is_same.ensures ∙ c.if-is_same.false) in
    let same = files_view-same (c.in_ok-given.ensures.held_stays ∙ c.in_ok-text.ensures.held_stays) (c.in_ok-given.ensures.calm ∙ c.in_ok-text.ensures.calm) (c.in_ok-given.ensures.write_faults_stay ∙ c.in_ok-text.ensures.write_faults_stay) in (
      both.0,
      both.1,
      JobEnds-run _ _ _ _ _ c.in_ok-text.text.items c.in_ok-given.given.items _ _ _ c.in_ok-piece.piece _ _ _ _ c.run_scanner-2.result same both.2 (both.3 ∙ second.2) scans
          refl c.run_scanner-2.ensures.ends,
    )

pub returns-clause-placed : goal.returns-clause-placed
returns-clause-placed g c = c.run_scanner-2.ensures.placed c.args.emitted.now c.args.input.now
