-- From left to right the tokens of a form put out its steps, with no operand marked.
use Rattle.std.proofs.Common.{◌≡◌, ℕ, suc, ◌+◌, ◌-◌, ◌<◌, ◌≤◌, Bool, true, false, List, [], ◌∷◌, ◌++◌, Option, None, Some, drop, take, length, refl, sym, ap, ap₂, ◌∙◌, arith, append_assoc, drop-cons}
use Rattle.std.proofs.lemmas.List.{append-nil, append_cancel_right, drop-drop, take-append-drop}
use Rattle.lx_parse.specs.declared.sorts.Sort.{Sort}
use Rattle.lx_parse.specs.declared.sorts.Sort.TheVariants.{Bar, Backslash, Open, Close, Star, Plus, Question, Bounds}
use Rattle.lx_parse.specs.Sorts.{is_atom, is_postfix}
use Rattle.lx_parse.specs.Expressions.{Part, alt, diff, cat, post, atom}
use Rattle.lx_forms.specs.Lexemes.{Lexeme, nth_lexeme, sort_at}
use Rattle.lx_forms.specs.Forms.{Form, leaf, group, repeated, sequence, difference, alternative, IsForm, is_leaf, is_group, is_bare, is_repeated, is_first_post, is_sequence, is_first_cat, is_difference, is_first_diff, is_alternative}
use Rattle.lx_forms.specs.Steps.{Step, reads, opens, closes, repeats, joins, subtracts, chooses}
use Rattle.lx_forms.specs.StepRuns.{Level, Progress, before_part, behind_alternatives, behind_steps, behind_token, behind_tokens, owed, owed_difference, unmarked_steps}
use Rattle.lx_forms.proofs.OneForm.{form_front}

-- the steps of a form with no operand marked
abbrev pub plain_steps : Form → List Step
plain_steps (leaf lexeme) = reads false lexeme ∷ []
plain_steps (group opening inner) = opens opening ∷ (plain_steps inner ++ closes opening ∷ [])
plain_steps (repeated inner sign) = plain_steps inner ++ repeats sign ∷ []
plain_steps (sequence front back) = plain_steps front ++ (plain_steps back ++ joins ∷ [])
plain_steps (difference left sign right) = plain_steps left ++ (plain_steps right ++ subtracts false sign ∷ [])
plain_steps (alternative left sign right) = plain_steps left ++ (plain_steps right ++ chooses ∷ [])

atom_behind : (sort : Sort) (lexeme : Lexeme) (progress : Progress) → is_atom sort ≡ true
    → behind_token sort lexeme progress ≡ behind_steps (reads false lexeme ∷ []) (before_part progress)
atom_behind Open lexeme progress is = let h : false ≡ true = is in cc
atom_behind Close lexeme progress is = let h : false ≡ true = is in cc
atom_behind Backslash lexeme progress is = let h : false ≡ true = is in cc
atom_behind Bar lexeme progress is = let h : false ≡ true = is in cc
atom_behind Star lexeme progress is = let h : false ≡ true = is in cc
atom_behind Plus lexeme progress is = let h : false ≡ true = is in cc
atom_behind Question lexeme progress is = let h : false ≡ true = is in cc
atom_behind Bounds lexeme progress is = let h : false ≡ true = is in cc
atom_behind sort lexeme progress is = refl

postfix_behind : (sort : Sort) (lexeme : Lexeme) (progress : Progress) → is_postfix sort ≡ true
    → behind_token sort lexeme progress ≡ behind_steps (repeats lexeme ∷ []) progress
postfix_behind Star lexeme progress is = refl
postfix_behind Plus lexeme progress is = refl
postfix_behind Question lexeme progress is = refl
postfix_behind Bounds lexeme progress is = refl
postfix_behind sort lexeme progress is = let h : false ≡ true = is in cc

sign_behind : (sort : Sort) (sign : Lexeme) (rest : List Lexeme) (progress : Progress) → sort_at sign ≡ sort
    → behind_tokens (sign ∷ rest) progress ≡ behind_tokens rest (behind_token sort sign progress)
sign_behind sort sign rest progress is = ap (λ s. behind_tokens rest (behind_token s sign progress)) is

-- how far an expression is read, by its parts
abbrev at : (steps : List Step) (opening : Lexeme) (has_part owes_join : Bool) (sign : Option Lexeme) (owes_choice : Bool) (outer : List Level) → Progress
at steps opening has_part owes_join sign owes_choice outer = record {
  steps = steps;
  level = record { opening = opening; has_part = has_part; owes_join = owes_join; sign = sign; owes_choice = owes_choice };
  outer = outer;
}

-- What a part of the grammar does: a post puts out its steps behind the join that is owed; a sequence, a difference and
-- alternatives may owe the last of theirs.
abbrev Puts : (text rest : List Lexeme) → Form → Type 0
Puts text rest form =
    (steps : List Step) (opening : Lexeme) (has_part owes_join : Bool) (sign : Option Lexeme) (owes_choice : Bool) (outer : List Level)
    → behind_tokens text (at steps opening has_part owes_join sign owes_choice outer)
    ≡ behind_tokens rest (at (steps ++ owed owes_join joins ++ plain_steps form) opening true has_part sign owes_choice outer)

abbrev IsPut : Part → (text rest : List Lexeme) → Form → Type 0
IsPut atom text rest form = Puts text rest form
IsPut post text rest form = Puts text rest form
IsPut cat text rest form =
    (steps : List Step) (opening : Lexeme) (sign : Option Lexeme) (owes_choice : Bool) (outer : List Level)
    → (done : List Step) × (owes_join : Bool)
    × (done ++ owed owes_join joins ≡ steps ++ plain_steps form)
    × (behind_tokens text (at steps opening false false sign owes_choice outer) ≡ behind_tokens rest (at done opening true owes_join sign owes_choice outer))
IsPut diff text rest form =
    (steps : List Step) (opening : Lexeme) (owes_choice : Bool) (outer : List Level)
    → (done : List Step) × (owes_join : Bool) × (sign : Option Lexeme)
    × (done ++ owed owes_join joins ++ owed_difference sign ≡ steps ++ plain_steps form)
    × (behind_tokens text (at steps opening false false None owes_choice outer) ≡ behind_tokens rest (at done opening true owes_join sign owes_choice outer))
IsPut alt text rest form =
    (steps : List Step) (opening : Lexeme) (outer : List Level)
    → (done : List Step) × (owes_join : Bool) × (sign : Option Lexeme) × (owes_choice : Bool)
    × (done ++ owed owes_join joins ++ owed_difference sign ++ owed owes_choice chooses ≡ steps ++ plain_steps form)
    × (behind_tokens text (at steps opening false false None false outer) ≡ behind_tokens rest (at done opening true owes_join sign owes_choice outer))

-- two sides and what is done with them
sides : (done middle steps left right last : List Step) → middle ≡ steps ++ left → done ≡ middle ++ right → done ++ last ≡ steps ++ (left ++ (right ++ last))
sides done middle steps left right last before behind =
    ap (λ l. l ++ last) (behind ∙ ap (λ l. l ++ right) before) ∙ simp append_assoc

form_put : {part : Part} {text rest : List Lexeme} {form : Form} → IsForm part text rest form → IsPut part text rest form
form_put (is_leaf lexeme rest is) = λ steps opening has_part owes_join sign owes_choice outer.
    ap (behind_tokens rest) (atom_behind (sort_at lexeme) lexeme (at steps opening has_part owes_join sign owes_choice outer) is)
form_put (is_group opening closing text rest inner opened closed read) = λ steps outermost has_part owes_join sign owes_choice outer.
    let begun = steps ++ owed owes_join joins in
    let level : Level = record { opening = outermost; has_part = true; owes_join = has_part; sign = sign; owes_choice = owes_choice } in
    let run = form_put read (begun ++ opens opening ∷ []) opening (level ∷ outer) in
    sign_behind Open opening text (at steps outermost has_part owes_join sign owes_choice outer) opened ∙ run.5
    ∙ sign_behind Close closing rest (at run.0 opening true run.1 run.2 run.3 (level ∷ outer)) closed
    ∙ ap (λ done. behind_tokens rest (at done outermost true has_part sign owes_choice outer))
    (ap (λ done. done ++ closes opening ∷ []) run.4 ∙ simp append_assoc)
form_put (is_bare text rest form read) = form_put read
form_put (is_repeated text rest sign inner read is) = λ steps opening has_part owes_join before owes_choice outer.
    let done = steps ++ owed owes_join joins ++ plain_steps inner in
    form_put read steps opening has_part owes_join before owes_choice outer
    ∙ ap (behind_tokens rest) (postfix_behind (sort_at sign) sign (at done opening true has_part before owes_choice outer) is)
    ∙ ap (λ l. behind_tokens rest (at l opening true has_part before owes_choice outer))
    (append_assoc (steps ++ owed owes_join joins) (plain_steps inner) (repeats sign ∷ []))
form_put (is_first_post text rest form read) = λ steps opening sign owes_choice outer.
    (steps ++ [] ++ plain_steps form, false, simp append-nil, form_put read steps opening false false sign owes_choice outer)
form_put (is_sequence text middle rest front back read more) = λ steps opening sign owes_choice outer.
    let run = form_put read steps opening sign owes_choice outer in
    let begun = run.0 ++ owed run.1 joins in (
      begun ++ plain_steps back,
      true,
      sides (begun ++ plain_steps back) begun steps (plain_steps front) (plain_steps back) (joins ∷ []) run.2 refl,
      run.3 ∙ form_put more run.0 opening true run.1 sign owes_choice outer,
    )
form_put (is_first_cat text rest form read) = λ steps opening owes_choice outer.
    let run = form_put read steps opening None owes_choice outer in
    (run.0, run.1, None, append-nil (run.0 ++ owed run.1 joins) ∙ run.2, run.3)
form_put (is_difference text middle rest sign left right is read more) = λ steps opening owes_choice outer.
    let run = form_put read steps opening owes_choice outer in
    let begun = run.0 ++ owed run.1 joins ++ owed_difference run.2 in
    let next = form_put more begun opening (Some sign) owes_choice outer in (
      next.0,
      next.1,
      Some sign,
      sides (next.0 ++ owed next.1 joins) begun steps (plain_steps left) (plain_steps right) (subtracts false sign ∷ []) run.3 next.2,
      run.4 ∙ sign_behind Backslash sign middle (at run.0 opening true run.1 run.2 owes_choice outer) is ∙ next.3,
    )
form_put (is_first_diff text rest form read) = λ steps opening outer.
    let run = form_put read steps opening false outer in
    (run.0, run.1, run.2, false, append-nil (run.0 ++ owed run.1 joins ++ owed_difference run.2) ∙ run.3, run.4)
form_put (is_alternative text middle rest sign left right is read more) = λ steps opening outer.
    let run = form_put read steps opening outer in
    let begun = run.0 ++ owed run.1 joins ++ owed_difference run.2 ++ owed run.3 chooses in
    let next = form_put more begun opening true outer in (
      next.0,
      next.1,
      next.2,
      true,
      sides (next.0 ++ owed next.1 joins ++ owed_difference next.2) begun steps (plain_steps left) (plain_steps right) (chooses ∷ []) run.4 next.3,
      run.5 ∙ sign_behind Bar sign middle (at run.0 opening true run.1 run.2 run.3 outer) is ∙ next.4,
    )

-- the lexemes from one place up to another are those in front of the rest
front_taken : (lexemes front : List Lexeme) (from until : ℕ) → from ≤ until → drop from lexemes ≡ front ++ drop until lexemes
    → front ≡ take (until - from) (drop from lexemes)
front_taken lexemes front from until in_order same =
    let sum : from + (until - from) ≡ until = omega (arith, in_order) in
    let rest : drop until lexemes ≡ drop (until - from) (drop from lexemes) =
    ap (λ n. drop n lexemes) (sym sum) ∙ sym (drop-drop (until - from) from lexemes) in
    append_cancel_right front (take (until - from) (drop from lexemes)) (drop until lexemes)
    (sym same ∙ sym (take-append-drop (until - from) (drop from lexemes)) ∙ ap (λ l. take (until - from) (drop from lexemes) ++ l) (sym rest))

pub unmarked_steps-form : (opening : Lexeme) (lexemes : List Lexeme) (from until : ℕ) (form : Form) → from ≤ until
    → IsForm alt (drop from lexemes) (drop until lexemes) form → unmarked_steps opening (take (until - from) (drop from lexemes)) ≡ plain_steps form
unmarked_steps-form opening lexemes from until form in_order is =
    let run = form_front is in
    let front : run.0 ++ [] ≡ take (until - from) (drop from lexemes) = append-nil run.0 ∙ front_taken lexemes run.0 from until in_order run.1 in
    let put = form_put (run.2 []) [] opening [] in
    ap (unmarked_steps opening) (sym front) ∙ ap (λ (progress : Progress). (behind_alternatives progress).steps) put.5 ∙ put.4

-- the lexemes from one place up to another begin with that at the place
pub lexemes_next : (lexemes : List Lexeme) (place until : ℕ) → place < until → until ≤ length lexemes
    → take (until - place) (drop place lexemes) ≡ nth_lexeme lexemes place ∷ take (until - (place + 1)) (drop (place + 1) lexemes)
lexemes_next lexemes place until less within =
    let count : until - place ≡ suc (until - (place + 1)) = omega (arith, less) in
    let next : suc place ≡ place + 1 = omega arith in
    ap₂ take count (drop-cons lexemes place _ (omega (arith, less, within)))
    ∙ ap (λ n. nth_lexeme lexemes place ∷ take (until - (place + 1)) (drop n lexemes)) next
