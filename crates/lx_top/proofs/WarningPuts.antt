-- The lines of warnings are put one behind another.
use Rattle.std.proofs.Common.{◌≡◌, ◌≢◌, ◌+◌, ◌<◌, ◌∙◌, ℕ, List, [], ◌∷◌, ◌++◌, Option, refl, ap, sym, drop, length, get_or, append_assoc}
use Rattle.std.proofs.lemmas.List.{drop_more}
use Rattle.std.specs.Prelude.{codes, Some}
use Rattle.lx_base.specs.Message.{heading}
use Rattle.lx_base.specs.Text.{joined}
use Rattle.lx_files.proofs.PutLemmas.{HasPut, given_then-given_then}
use Rattle.lx_files.specs.Taking.{GivesFront, given_then}
use Rattle.lx_files.specs.declared.sinks.PutAnswer.{PutAnswer}
use Rattle.lx_compile.specs.Warnings.{condition_text, saying, warning_lines, warning_text}
use Rattle.lx_compile.specs.declared.warned.PlacedWarning.{PlacedWarning}

-- a text with something in it has something with another one before or behind it
some_before : (front back : List ℕ) → front ≢ [] → front ++ back ≢ []
some_before [] back some same = some refl
some_before (letter ∷ front) back some same = cc

some_behind : (front back : List ℕ) → back ≢ [] → front ++ back ≢ []
some_behind [] back some same = some same
some_behind (letter ∷ front) back some same = cc

some_letter : (letter : ℕ) (text : List ℕ) → letter ∷ text ≢ []
some_letter letter text same = cc

-- the line of a warning has something in it
some_line : (names : List (List ℕ)) (one : PlacedWarning) → warning_text names one ≢ []
some_line names one =
    some_behind (heading names (Some one.at)) (joined (codes " warning: " ∷ saying one.warning ∷ condition_text one.cond ∷ codes "\n" ∷ []) [])
    (some_letter 32 (joined (codes "warning: " ∷ saying one.warning ∷ condition_text one.cond ∷ codes "\n" ∷ []) []))

-- so have the lines of warnings, if there is one
module _ (names : List (List ℕ)) (warnings : List PlacedWarning) (place : ℕ) (one : PlacedWarning) (within : place < length warnings)
    (is : one ≡ get_or warnings place one) where
  lines-from : warning_lines names (drop place warnings) ≡ warning_text names one ++ warning_lines names (drop (place + 1) warnings)
  lines-from =
      ap (warning_lines names) (drop_more warnings place one within)
      ∙ ap (λ first. warning_text names first ++ warning_lines names (drop (place + 1) warnings)) (sym is)

  module _ (given given' : Option (List ℕ)) (faults faults' : ℕ)
      (put : HasPut given given' faults faults' (warning_lines names warnings) (warning_lines names (drop place warnings))) where
    splits-line : put.front ++ (warning_text names one ++ warning_lines names (drop (place + 1) warnings)) ≡ warning_lines names warnings
    splits-line = ap (λ rest. put.front ++ rest) (sym lines-from) ∙ put.splits

    pub some-lines : warning_lines names warnings ≢ []
    some-lines same =
        some_behind put.front (warning_text names one ++ warning_lines names (drop (place + 1) warnings))
        (some_before (warning_text names one) (warning_lines names (drop (place + 1) warnings)) (some_line names one)) (splits-line ∙ same)

    -- one line more was put
    pub HasPut-line : (given'' : Option (List ℕ)) (faults'' : ℕ) → given'' ≡ given_then given' (warning_text names one) → faults'' ≡ faults'
        → HasPut given given'' faults faults'' (warning_lines names warnings) (warning_lines names (drop (place + 1) warnings))
    HasPut-line given'' faults'' gave calm = record {
      front = put.front ++ warning_text names one;
      splits = append_assoc put.front (warning_text names one) (warning_lines names (drop (place + 1) warnings)) ∙ splits-line;
      gave =
          gave ∙ ap (λ (before : Option (List ℕ)). given_then before (warning_text names one)) put.gave
          ∙ given_then-given_then given put.front (warning_text names one);
      calm = calm ∙ put.calm;
    }

    -- a front of one line more was put
    pub GivesFront-line : (given'' : Option (List ℕ)) → GivesFront given' given'' (warning_text names one) → GivesFront given given'' (warning_lines names warnings)
    GivesFront-line given'' gives = (
      put.front ++ gives.0,
      (
        gives.1.0 ++ warning_lines names (drop (place + 1) warnings),
        append_assoc put.front gives.0 (gives.1.0 ++ warning_lines names (drop (place + 1) warnings))
            ∙ ap (λ rest. put.front ++ rest) (sym (append_assoc gives.0 gives.1.0 (warning_lines names (drop (place + 1) warnings)))
            ∙ ap (λ line. line ++ warning_lines names (drop (place + 1) warnings)) gives.1.1) ∙ splits-line,
      ),
      gives.2 ∙ ap (λ (before : Option (List ℕ)). given_then before gives.0) put.gave ∙ given_then-given_then given put.front gives.0,
    )
