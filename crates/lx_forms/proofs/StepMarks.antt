-- From right to left the steps of a form are marked as those of an operand, or of none.
use Rattle.std.proofs.Common.{◌≡◌, ℕ, ◌+◌, ◌<◌, Bool, true, false, not, List, [], ◌∷◌, ◌++◌, length, map, take, drop, get_or, refl, sym, ap, ap₂, ◌∙◌, add-one, append_assoc}
use Rattle.std.specs.Prelude.{◌&&◌}
use Rattle.std.proofs.Math.ListN.{set}
use Rattle.std.proofs.Math.Seq.{take-suc}
use Rattle.std.proofs.lemmas.List.{map-append, take-set, drop-set}
use Rattle.lx_forms.specs.Forms.{Form, leaf, group, repeated, sequence, difference, alternative}
use Rattle.lx_forms.specs.Lexemes.{Lexeme}
use Rattle.lx_forms.specs.Steps.{Step, opens, closes, repeats, joins, subtracts, chooses, steps_of}
use Rattle.lx_forms.specs.StepRuns.{first_mark, marked, marked_steps, marks_at, marks_before}
use Rattle.lx_forms.proofs.PlainForms.{plain_steps}

module _ (are_groups : Bool) where
  marks_at-append : (steps others : List Step) (marks : List Bool) → marks_at are_groups (steps ++ others) marks ≡ marks_at are_groups steps (marks_at are_groups others marks)
  marks_at-append [] others marks = refl
  marks_at-append (step ∷ steps) others marks = ap (marks_before are_groups step) (marks_at-append steps others marks)

  marked_steps-append : (steps others : List Step) (marks : List Bool)
      → marked_steps are_groups (steps ++ others) marks ≡ marked_steps are_groups steps (marks_at are_groups others marks) ++ marked_steps are_groups others marks
  marked_steps-append [] others marks = refl
  marked_steps-append (step ∷ steps) others marks =
      ap₂ (λ m l. marked (first_mark m) step ∷ l) (marks_at-append steps others marks) (marked_steps-append steps others marks)

  -- What the steps of a form do to the marks: they take the first, and are marked with it.
  record TakesMark (steps : List Step) (steps_with : Bool → List Step) : Type 0 where
    rest : (mark : Bool) (marks : List Bool) → marks_at are_groups steps (mark ∷ marks) ≡ marks
    as_told : (mark : Bool) (marks : List Bool) → marked_steps are_groups steps (mark ∷ marks) ≡ steps_with mark

  -- one thing, or two, and what is done with it
  repeated_marks : (steps : List Step) (steps_with : Bool → List Step) (sign : Lexeme) → TakesMark steps steps_with
      → TakesMark (steps ++ repeats sign ∷ []) (λ mark. steps_with false ++ repeats sign ∷ [])
  repeated_marks steps steps_with sign takes = record {
    rest = λ mark marks. marks_at-append steps (repeats sign ∷ []) (mark ∷ marks) ∙ takes.rest false marks;
    as_told = λ mark marks.
        marked_steps-append steps (repeats sign ∷ []) (mark ∷ marks) ∙ ap (λ l. l ++ repeats sign ∷ []) (takes.as_told false marks);
  }

  both_marks : (left right : List Step) (last : Step) (left_with right_with : Bool → List Step) (own : Bool → Bool)
      → ((mark : Bool) (marks : List Bool) → marks_before are_groups last (mark ∷ marks) ≡ own mark ∷ (own mark ∷ marks))
      → TakesMark left left_with → TakesMark right right_with
      → TakesMark (left ++ (right ++ last ∷ [])) (λ mark. left_with (own mark) ++ (right_with (own mark) ++ marked mark last ∷ []))
  both_marks left right last left_with right_with own before left_takes right_takes =
      let between : (mark : Bool) (marks : List Bool) → marks_at are_groups (right ++ last ∷ []) (mark ∷ marks) ≡ own mark ∷ marks =
      λ mark marks. marks_at-append right (last ∷ []) (mark ∷ marks) ∙ ap (marks_at are_groups right) (before mark marks) ∙ right_takes.rest (own mark) (own mark ∷ marks) in
      record {
        rest = λ mark marks.
            marks_at-append left (right ++ last ∷ []) (mark ∷ marks) ∙ ap (marks_at are_groups left) (between mark marks) ∙ left_takes.rest (own mark) marks;
        as_told = λ mark marks.
            marked_steps-append left (right ++ last ∷ []) (mark ∷ marks)
            ∙ ap₂ (λ l r. l ++ r) (ap (marked_steps are_groups left) (between mark marks) ∙ left_takes.as_told (own mark) marks)
            (marked_steps-append right (last ∷ []) (mark ∷ marks)
            ∙ ap (λ l. l ++ marked mark last ∷ []) (ap (marked_steps are_groups right) (before mark marks) ∙ right_takes.as_told (own mark) (own mark ∷ marks)));
      }

  form_marks : (form : Form) → TakesMark (plain_steps form) (λ mark. steps_of are_groups mark form)
  form_marks (leaf lexeme) = record { rest = λ mark marks. refl; as_told = λ mark marks. refl }
  form_marks (group opening inner) =
      let takes = form_marks inner in record {
        rest = λ mark marks.
            marks_at-append (plain_steps inner) (closes opening ∷ []) (mark ∷ marks) ∙ takes.rest (mark && not are_groups) marks;
        as_told = λ mark marks.
            ap (λ l. opens opening ∷ l)
            (marked_steps-append (plain_steps inner) (closes opening ∷ []) (mark ∷ marks)
            ∙ ap (λ l. l ++ closes opening ∷ []) (takes.as_told (mark && not are_groups) marks));
      }
  form_marks (repeated inner sign) = repeated_marks (plain_steps inner) (λ mark. steps_of are_groups mark inner) sign (form_marks inner)
  form_marks (sequence front back) =
      both_marks (plain_steps front) (plain_steps back) joins (λ mark. steps_of are_groups mark front) (λ mark. steps_of are_groups mark back) (λ mark. false)
      (λ mark marks. refl) (form_marks front) (form_marks back)
  form_marks (difference left sign right) =
      both_marks (plain_steps left) (plain_steps right) (subtracts false sign) (λ mark. steps_of are_groups mark left) (λ mark. steps_of are_groups mark right)
      (λ mark. true) (λ mark marks. refl) (form_marks left) (form_marks right)
  form_marks (alternative left sign right) =
      both_marks (plain_steps left) (plain_steps right) chooses (λ mark. steps_of are_groups mark left) (λ mark. steps_of are_groups mark right) (λ mark. mark)
      (λ mark marks. refl) (form_marks left) (form_marks right)

  pub marked_steps-form : (form : Form) → marked_steps are_groups (plain_steps form) (false ∷ []) ≡ steps_of are_groups false form
  marked_steps-form form = let takes = form_marks form in takes.as_told false []

  -- one step more is marked, behind which all are
  pub marked_steps-next : {Held : Type 0} (view : Held → Step) (steps : List Held) (index next : ℕ) (default after : Held) (marks marks_after : List Bool)
      → next ≡ index + 1 → index < length steps → view after ≡ marked (first_mark marks) (view (get_or steps index default))
      → marks_after ≡ marks_before are_groups (view (get_or steps index default)) marks
      → marked_steps are_groups (map view (take index (set steps index after))) marks_after ++ map view (drop index (set steps index after))
      ≡ marked_steps are_groups (map view (take next steps)) marks ++ map view (drop next steps)
  marked_steps-next view steps index next default after marks marks_after one less step taken =
      let held = get_or steps index default in
      let front = map view (take index steps) in
      let rest = map view (drop (index + 1) steps) in
      let last : take next steps ≡ take index steps ++ held ∷ [] = ap (λ n. take n steps) (one ∙ add-one index) ∙ take-suc steps index default less in
      let told : marked_steps are_groups (map view (take next steps)) marks ≡ marked_steps are_groups front (marks_before are_groups (view held) marks) ++ marked (first_mark marks) (view held) ∷ [] =
      ap (λ l. marked_steps are_groups (map view l) marks) last ∙ ap (λ l. marked_steps are_groups l marks) (map-append view (take index steps) (held ∷ []))
      ∙ marked_steps-append front (view held ∷ []) marks in
      ap₂ (λ l r. marked_steps are_groups (map view l) marks_after ++ map view r) (take-set steps index after) (drop-set steps index after less)
      ∙ ap₂ (λ m s. marked_steps are_groups front m ++ s ∷ rest) taken step
      ∙ sym (append_assoc (marked_steps are_groups front (marks_before are_groups (view held) marks)) (marked (first_mark marks) (view held) ∷ []) rest)
      ∙ ap₂ (λ l n. l ++ map view (drop n steps)) (sym told) (sym one)
