-- What a statement leaves of a lexer over a window.
use Rattle.std.proofs.Common.{◌≡◌, ◌∙◌, ap, refl, sym, subst, eq-eqb, ℕ, ◌<◌, inl, inr, List, [], Option, Ok, arith}
use Rattle.lx_ccode.specs.declared.piece.CodeBlock.{CodeBlock}
use Rattle.lx_ccode.specs.declared.piece.Piece.{Piece}
use Rattle.lx_ccode.specs.declared.piece.Stmt.{Stmt}
use Rattle.lx_ccode.specs.declared.piece.Stmt.TheVariants.{State}
use Rattle.lx_ccode.specs.States.{stores}
use Rattle.lx_window.specs.WindowView.{WindowView}
use Rattle.lx_window.specs.Windows.{IsFormed, KeepsStart}
use Rattle.lx_step.specs.declared.advances.Made.{Made}
use Rattle.lx_step.specs.declared.advances.Made.TheVariants as made
use Rattle.lx_step.specs.declared.answers.Outcome.{Outcome}
use Rattle.lx_step.specs.declared.answers.Outcome.TheVariants as outcome
use Rattle.lx_step.specs.declared.calls.Passed.{Passed}
use Rattle.lx_step.specs.declared.calls.Passed.TheVariants.{On, Ends}
use Rattle.lx_step.specs.declared.matches.Position.{Position}
use Rattle.lx_step.specs.declared.scanner.Scanner.{Scanner}
use Rattle.lx_step.specs.Asking.{IsMade}
use Rattle.lx_step.specs.Feeds.{Feed}
use Rattle.lx_step.specs.Left.{IsFrom, IsStored}
use Rattle.lx_step.specs.Places.{StandsAt}
use Rattle.lx_step.specs.Points.{goes_to}
use Rattle.lx_step.specs.Steps.{IsAnswer, machine_of, state_after}
use Rattle.lx_step.specs.Ways.{IsNearer, IsPassed, ReadsWindow}
use Rattle.lx_step.proofs.FedWindows.{IsFed-limit, Refills-more}
use Rattle.lx_step.proofs.Places.{any-stands}

-- the state that is stored after a statement is one of the piece's
IsStored-after : (blocks : List CodeBlock) (at : Position) (statement : Stmt) (state : Option ℕ) → StandsAt blocks at statement → IsStored blocks state → IsStored blocks (state_after statement state)
IsStored-after blocks at (State state) before stands stored = any-stands (stores state) blocks at.block at.stmt at.code.now (State state) stands.block stands.stmt (eq-eqb state state refl)
IsStored-after blocks at _ state stands stored = stored

-- ---- what it leaves

module _ (piece : Piece) (at : Position) (statement : Stmt) (old new : Scanner) (before after : Feed) where
  -- the scanner stands in the window again
  pub ReadsWindow-made : (one : Made) (unit unit' : ℕ) → IsMade piece statement old new before after one → StandsAt piece.blocks at statement → ReadsWindow piece unit before.window old
      → unit' ≡ unit → KeepsStart before.window after.window → IsFormed after.window → ReadsWindow piece unit' after.window new
  ReadsWindow-made one unit unit' so stands ready same kept formed = record {
    same_unit = same ∙ ready.same_unit ∙ sym kept.same_unit;
    formed = formed;
    limit = limit one so;
    from = subst (λ start. IsFrom start new) (sym kept.same_start) (from one so);
    state = state one so;
  } where
    limit : (one : Made) → IsMade piece statement old new before after one → new.limit ≡ after.window.limit
    limit made.Waits so = ap (λ (scanner : Scanner). scanner.limit) so.same
    limit (made.Goes going) so = so.limit
    limit (made.Stops outcome.NeedFill) so = ap (λ (scanner : Scanner). scanner.limit) so.same ∙ ready.limit ∙ sym (ap (λ (window : WindowView). window.limit) so.behind.1)
    limit (made.Stops outcome.ReadFailed) so = ap (λ (scanner : Scanner). scanner.limit) so.same ∙ ready.limit ∙ sym (ap (λ (window : WindowView). window.limit) so.behind.window)
    limit (made.Stops (outcome.WindowFull kept need size)) so = ap (λ (scanner : Scanner). scanner.limit) so.same ∙ ready.limit ∙ sym (ap (λ (feed : Feed). feed.window.limit) so.still)
    limit (made.Stops _) so = absurd so

    same_from : (scanner : Scanner) → new ≡ scanner → IsFrom before.window.start scanner → IsFrom before.window.start new
    same_from scanner is h = subst (IsFrom before.window.start) (sym is) h

    from : (one : Made) → IsMade piece statement old new before after one → IsFrom before.window.start new
    from made.Waits so = same_from (record old { limit = after.window.limit }) so.same (record { cursor = ready.from.cursor; marker = ready.from.marker; registers = ready.from.registers })
    from (made.Goes going) so = so.from before.window.start ready.from
    from (made.Stops outcome.NeedFill) so = same_from old so.same ready.from
    from (made.Stops outcome.ReadFailed) so = same_from old so.same ready.from
    from (made.Stops (outcome.WindowFull kept need size)) so = same_from old so.same ready.from
    from (made.Stops _) so = absurd so

    same_state : (scanner : Scanner) → new ≡ scanner → IsStored piece.blocks scanner.state → IsStored piece.blocks new.state
    same_state scanner is h = subst (λ (one : Scanner). IsStored piece.blocks one.state) (sym is) h

    state : (one : Made) → IsMade piece statement old new before after one → IsStored piece.blocks new.state
    state made.Waits so = same_state (record old { limit = after.window.limit }) so.same ready.state
    state (made.Goes going) so = subst (IsStored piece.blocks) (sym so.state) (IsStored-after piece.blocks at statement old.state stands ready.state)
    state (made.Stops outcome.NeedFill) so = same_state old so.same ready.state
    state (made.Stops outcome.ReadFailed) so = same_state old so.same ready.state
    state (made.Stops (outcome.WindowFull kept need size)) so = same_state old so.same ready.state
    state (made.Stops _) so = absurd so

  -- the match comes nearer to its end
  pub IsNearer-made : (one : Made) (passed : Passed) (steps steps' : ℕ) → IsMade piece statement old new before after one → IsPassed piece.blocks at one passed steps steps'
      → StandsAt piece.blocks at statement → IsFormed before.window → IsNearer piece.blocks (Ok passed) steps steps' before.window.limit after.window.limit
  IsNearer-made made.Waits passed steps steps' so is stands formed =
      subst (λ one. IsNearer piece.blocks (Ok one) steps steps' before.window.limit after.window.limit) (sym is.0)
      (let more : before.window.limit < after.window.limit = Refills-more before after so.count formed so.refills in
      record { block = stands.block; never_falls = omega (arith, more); nearer = inr (is.1, more) })
  IsNearer-made (made.Stops told) passed steps steps' so is stands formed =
      subst (λ one. IsNearer piece.blocks (Ok one) steps steps' before.window.limit after.window.limit) (sym is.0) tt
  IsNearer-made (made.Goes going) (On next) steps steps' so is stands formed = record { block = is.0.1 stands.block; never_falls = IsFed-limit so.fed; nearer = inl is.1 }
  IsNearer-made (made.Goes going) (Ends told) steps steps' so is stands formed = tt

  -- an outcome that is not the machine's comes from the source, or from the window
  pub stops_of : (one : Made) (passed : Passed) (steps steps' : ℕ) (told : Outcome) → IsMade piece statement old new before after one → IsPassed piece.blocks at one passed steps steps'
      → (IsAnswer told → ⊥) → passed ≡ Ends told → one ≡ made.Stops told
  stops_of made.Waits passed steps steps' told so is other ends = absurd (let on : On at ≡ Ends told = sym is.0 ∙ ends in cc)
  stops_of (made.Stops given) passed steps steps' told so is other ends = (let same : Ends given ≡ Ends told = sym is.0 ∙ ends in cc)
  stops_of (made.Goes going) (On next) steps steps' told so is other ends = absurd cc
  stops_of (made.Goes going) (Ends given) steps steps' told so is other ends =
      absurd (other (subst IsAnswer (let same : given ≡ told = cc in same) (is.0.1 (goes_to piece.table so.used statement (machine_of piece.conds old [])) (so.leads []))))
