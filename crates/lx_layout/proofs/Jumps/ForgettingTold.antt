-- What is told of a match does not depend on whether what was kept is forgotten behind it.
use Rattle.std.specs.Prelude.{◌≡◌, ◌⊎◌, ℕ, suc, Bool, List, [], ◌∷◌, ◌++◌, refl}
use Rattle.std.proofs.Common.{ap, inl, inr, ◌∙◌}
use Rattle.lx_base.specs.declared.settings.Enc.{Enc}
use Rattle.lx_ccode.specs.Runs.{Ended}
use Rattle.lx_ccode.specs.declared.piece.Mode.{Mode}
use Rattle.lx_ccode.specs.declared.piece.Piece.{Piece}
use Rattle.lx_regex.specs.Match.{Outcome, matched, unmatched}
use Rattle.lx_regex.specs.Order.{Policy}
use Rattle.lx_regex.specs.Pattern.{Pattern}
use Rattle.lx_regex.specs.Values.{Value}
use Rattle.lx_layout.specs.Endings.{Ending, is_slash, unless}
use Rattle.lx_layout.specs.Forgetting.{any_tests_kept, forgetting_by}
use Rattle.lx_layout.specs.Pieces.{Form, IsScannerIn, Source, given_of, source_in}
use Rattle.lx_layout.specs.RightInMode.{EndsAtCheck, HaveEndings, IsRightInMode, TellsMatch}
use Rattle.lx_layout.specs.Starts.{run_with}
use Rattle.lx_layout.specs.Told.{cond_behind, cond_given, outcome_by, tag_given, told_of, values_given}

module _ (forgets : Bool) where
  values_given-forgetting : (ending : Ending) (number : ℕ) (names : List (List ℕ)) (values : List Value)
      → values_given (record ending { forgets = forgets }) number names values ≡ values_given ending number names values
  values_given-forgetting ending number [] values = refl
  values_given-forgetting ending number (name ∷ names) [] = refl
  values_given-forgetting ending number (name ∷ names) (value ∷ values) =
      ap (λ l. unless (is_slash ending.slash number) (tag_given value name) l) (values_given-forgetting ending (suc number) names values)

  told_of-forgetting : (endings : ℕ → Ending) (cond : List ℕ) (outcome : Outcome)
      → told_of (forgetting_by forgets endings) cond outcome ≡ told_of endings cond outcome
  told_of-forgetting endings cond (matched rule cursor values) =
      ap (λ l. record {
        outcome = outcome_by rule (endings rule).action;
        cursor = cursor;
        cond = cond_behind (endings rule).goes_to cond;
        values = l ++ cond_given (endings rule).goes_to;
      }) (values_given-forgetting (endings rule) 0 (endings rule).tags values)
  told_of-forgetting endings cond (unmatched cursor) = refl

  have_endings : (enc : Enc) (patterns : List Pattern) (endings : ℕ → Ending) → HaveEndings enc patterns endings
      → HaveEndings enc patterns (forgetting_by forgets endings)
  have_endings enc patterns endings ends = record { slashes = ends.slashes; set = ends.set; bare = ends.bare }

  tells_match : (policy : Policy) (mode : Mode) (cond : List ℕ) (enc : Enc) (patterns : List Pattern) (endings : ℕ → Ending) (piece : Piece)
      (stream : List ℕ) (start : ℕ) (units : ℕ) (ended : Ended)
      → EndsAtCheck mode piece units ended ⊎ TellsMatch policy cond enc patterns (forgetting_by forgets endings) stream start ended
      → EndsAtCheck mode piece units ended ⊎ TellsMatch policy cond enc patterns endings stream start ended
  tells_match policy mode cond enc patterns endings piece stream start units ended (inl at) = inl at
  tells_match policy mode cond enc patterns endings piece stream start units ended (inr tells) =
      inr (tells.0, tells.1, tells.2 ∙ told_of-forgetting endings cond tells.0)

  is_right : (policy : Policy) (mode : Mode) (cond : List ℕ) (enc : Enc) (patterns : List Pattern) (endings : ℕ → Ending) (piece : Piece)
      → IsRightInMode policy mode cond enc patterns (forgetting_by forgets endings) piece
      → IsRightInMode policy mode cond enc patterns endings piece
  is_right policy mode cond enc patterns endings piece right stream start schedule registers histories within word legal onward empty answered =
      tells_match policy mode cond enc patterns endings piece stream start _ (run_with piece stream start registers histories cond schedule)
      (right stream start schedule registers histories within word legal onward empty answered)

-- a scanner that stands in a piece as it does in its blocks stands in it as it is given
pub as_given : (mode : Mode) (form : Form) (table : List ℕ) (scanner : Source) (piece : Piece)
    → IsScannerIn mode form.enc (given_of form table (source_in piece.blocks scanner)) scanner.checks piece
    → IsScannerIn mode form.enc (given_of form table scanner) scanner.checks piece
as_given mode form table scanner piece stands = record {
  entry = stands.entry;
  begins = stands.begins;
  carries = stands.carries;
  needs = stands.needs;
  rules = stands.rules;
  tests = stands.tests;
  right = λ policy patterns cond is ends same may.
      is_right (any_tests_kept piece.blocks) policy mode cond form.enc patterns scanner.endings piece
      (stands.right policy patterns cond is (have_endings (any_tests_kept piece.blocks) form.enc patterns scanner.endings ends) same may);
}
