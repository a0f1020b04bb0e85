-- Each match of a run may start.
use Rattle.std.proofs.Common.{◌≡◌, ◌∙◌, ap, sym, refl, subst, ◌≤◌, ◌||◌, Bool, true, false, List, [], ◌∷◌, Option, None, arith, length}
use Rattle.std.specs.Prelude.{◌==◌, ◌&&◌, if◌then◌else◌, is_some}
use Rattle.std.specs.List.{list_any}
use Rattle.std.proofs.lemmas.Bool.{false≢true}
use Rattle.lx_ccode.specs.declared.piece.Head.{Head}
use Rattle.lx_ccode.specs.declared.piece.Piece.{Piece}
use Rattle.lx_ccode.specs.declared.piece.Stmt.{Stmt}
use Rattle.lx_ccode.specs.Statements.{all_statements, is_need, is_refill, is_state, is_try}
use Rattle.lx_ccode.specs.Validity.{IsValid}
use Rattle.lx_step.specs.Calls.{IsEnd}
use Rattle.lx_step.specs.Held.{fresh}
use Rattle.lx_run.specs.MatchRuns.{EndsAsRun, HoldsWhatItReads, IsOfRun, MayStart, begins, follows}
use Rattle.lx_run.specs.Matches.{match_of}
use Rattle.lx_run.specs.Readings.{Reading}
use Rattle.lx_run.specs.Streams.{guessed_mode, holds_all, holds_all_in, mode_by}
use Rattle.lx_run.specs.Texts.{Between, beginning, behind, match_at}
use Rattle.lx_run.proofs.MatchBounds.{EndsWithin, match_of-within}
use Rattle.lx_run.proofs.MatchLimits.{EndsBehind, match_of-behind}
use Rattle.lx_run.proofs.MatchRuns.{EndsAsRun-match}

-- ---- a piece without a head

any-none : (statements : List Stmt) → list_any is_refill statements ≡ false → (list_any is_need statements ≡ false) × (list_any is_try statements ≡ false)
any-none [] none = (refl, refl)
any-none (statement ∷ statements) none = by (is_need statement) (is_try statement) (any-none statements) none where
  by : (needs tries : Bool) → (list_any is_refill statements ≡ false → (list_any is_need statements ≡ false) × (list_any is_try statements ≡ false))
      → ((needs || tries) || list_any is_refill statements) ≡ false
      → ((needs || list_any is_need statements) ≡ false) × ((tries || list_any is_try statements) ≡ false)
  by true tries others found = absurd (false≢true (sym found))
  by false true others found = absurd (false≢true (sym found))
  by false false others found = others found

pub holds_all-headless : (piece : Piece) → piece.head ≡ None → list_any is_refill (all_statements piece.blocks) ≡ false → holds_all piece ≡ true
holds_all-headless piece none quiet =
    let statements : List Stmt = all_statements piece.blocks in
    let asks = any-none statements quiet in
    ap (λ (head : Option Head). holds_all_in (mode_by head (guessed_mode (list_any is_need statements) (list_any is_try statements) (is_some piece.eof)))) none
    ∙ ap (λ (needs : Bool). holds_all_in (guessed_mode needs (list_any is_try statements) (is_some piece.eof))) asks.0
    ∙ ap (λ (tries : Bool). holds_all_in (guessed_mode false tries (is_some piece.eof))) asks.1 ∙ by (is_some piece.eof) where
      by : (has_eof : Bool) → holds_all_in (guessed_mode false false has_eof) ≡ true
      by true = refl
      by false = refl

-- ---- the matches of a run

module _ (piece : Piece) (reading : Reading) (step : 1 ≤ reading.step)
    (supplied : HoldsWhatItReads piece) where
  abbrev states : Bool
  states = list_any is_state (all_statements piece.blocks)

  -- a match of the piece may start there
  record Starts (between : Between) : Type 0 where
    piece_is : between.held.piece ≡ piece
    may : MayStart piece reading between.start between.limit between.leaving

  both-first : (one other : Bool) → (one && other) ≡ true → one ≡ true
  both-first true other is = refl
  both-first false other is = absurd (false≢true is)

  Starts-first : Starts (beginning piece reading)
  Starts-first = by (holds_all piece) refl where
    by : (all : Bool) → holds_all piece ≡ all
        → Starts (if all then record { held = fresh piece; start = 0; limit = length reading.stream; leaving = states && (reading.size == length reading.stream) }
        else record { held = fresh piece; start = 0; limit = 0; leaving = states })
    by true is = record {
      piece_is = refl;
      may = record {
        step = step;
        from = omega arith;
        within = omega arith;
        states = both-first states (reading.size == length reading.stream);
        whole = λ quiet. refl;
      };
    }
    by false is = record {
      piece_is = refl;
      may = record {
        step = step;
        from = omega arith;
        within = omega arith;
        states = λ leaving. leaving;
        whole = λ quiet. absurd (false≢true (sym is ∙ supplied quiet));
      };
    }

  Starts-behind : (between : Between) → Starts between → Starts (behind between (match_at reading between))
  Starts-behind between starts =
      let may = starts.may in
      let bounds : EndsWithin piece reading between.start (match_at reading between) =
      subst (λ (one : Piece). EndsWithin piece reading between.start (match_of one reading between.start between.held.cond between.limit between.leaving)) (sym starts.piece_is)
      (match_of-within piece reading between.start between.held.cond between.limit between.leaving may.from) in
      let ends : EndsBehind piece reading between.start between.limit between.leaving (match_at reading between) =
      subst (λ (one : Piece). EndsBehind piece reading between.start between.limit between.leaving (match_of one reading between.start between.held.cond between.limit between.leaving))
      (sym starts.piece_is) (match_of-behind piece reading between.start between.held.cond between.limit between.leaving may.within) in
      record {
        piece_is = starts.piece_is;
        may = record {
          step = step;
          from = bounds.1;
          within = ends.within;
          states = λ leaving. may.states (ends.leaves leaving);
          whole = λ quiet. let all = may.whole quiet in let rises = ends.rises in let within = ends.within in omega (arith, all, rises, within);
        };
      }

  Starts-of : (between : Between) → IsOfRun reading (beginning piece reading) between → Starts between
  Starts-of between begins = Starts-first
  Starts-of between (follows {between = before} of followed) = Starts-behind before (Starts-of before of)

  pub MayStart-of : (between : Between) → IsOfRun reading (beginning piece reading) between → MayStart piece reading between.start between.limit between.leaving
  MayStart-of between of = (Starts-of between of).may

  pub EndsAsRun-of : (between : Between) → IsValid piece → IsOfRun reading (beginning piece reading) between → IsEnd (match_at reading between).told
      → EndsAsRun piece reading between.start between.held.cond between.limit (match_at reading between)
  EndsAsRun-of between valid of end =
      let starts = Starts-of between of in
      subst (λ (one : Piece). EndsAsRun piece reading between.start between.held.cond between.limit (match_of one reading between.start between.held.cond between.limit between.leaving)) (sym starts.piece_is)
      (EndsAsRun-match piece reading between.start between.held.cond between.limit between.leaving valid starts.may
      (subst (λ (one : Piece). IsEnd (match_of one reading between.start between.held.cond between.limit between.leaving).told) starts.piece_is end))
