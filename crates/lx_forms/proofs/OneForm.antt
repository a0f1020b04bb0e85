-- An expression has one form: it is read from the left, and each token decides alone what is made of it.
use Rattle.std.proofs.Common.{◌≡◌, true, false, List, [], ◌∷◌, ◌++◌, refl, sym, ap, ◌∙◌, subst, append_assoc}
use Rattle.std.specs.Prelude.{if◌then◌else◌}
use Rattle.std.proofs.lemmas.List.{append_cancel_right}
use Rattle.lx_parse.specs.declared.sorts.Sort.{Sort}
use Rattle.lx_parse.specs.declared.sorts.Sort.TheVariants.{Bar, Backslash, Open, Close, Star, Plus, Question, Bounds}
use Rattle.lx_parse.specs.Sorts.{is_atom, is_postfix}
use Rattle.lx_parse.specs.Expressions.{Part, alt, diff, cat, post, atom}
use Rattle.lx_forms.specs.Lexemes.{Lexeme, sort_at}
use Rattle.lx_forms.specs.Forms.{Form, leaf, group, repeated, sequence, difference, alternative, IsForm, is_leaf, is_group, is_bare, is_repeated, is_first_post, is_sequence, is_first_cat, is_difference, is_first_diff, is_alternative}

-- two runs of lexemes, one behind the other, are one
front_joined :
    (part : Part) (front back text middle rest : List Lexeme) (form : Form) → text ≡ front ++ middle → middle ≡ back ++ rest
    → ((other : List Lexeme) → IsForm part (front ++ (back ++ other)) other form)
    → (front : List Lexeme) × (text ≡ front ++ rest) × ((other : List Lexeme) → IsForm part (front ++ other) other form)
front_joined part front back text middle rest form same behind is = (
  front ++ back,
  same ∙ ap (λ l. front ++ l) behind ∙ sym (append_assoc front back rest),
  λ other. subst (λ l. IsForm part l other form) (sym (append_assoc front back other)) (is other),
)

-- the lexemes of a form stand in front of the rest, and are the same form in front of any other
pub form_front : {part : Part} {text rest : List Lexeme} {form : Form} → IsForm part text rest form
    → (front : List Lexeme) × (text ≡ front ++ rest) × ((other : List Lexeme) → IsForm part (front ++ other) other form)
form_front (is_leaf lexeme rest is) = (lexeme ∷ [], refl, λ other. is_leaf lexeme other is)
form_front (is_group opening closing text rest inner opens closes read) =
    let run = form_front read in
    front_joined atom (opening ∷ run.0) (closing ∷ []) (opening ∷ text) (closing ∷ rest) rest (group opening inner) (ap (λ l. opening ∷ l) run.1) refl
    (λ other. is_group opening closing (run.0 ++ closing ∷ other) other inner opens closes (run.2 (closing ∷ other)))
form_front (is_bare text rest form read) =
    let run = form_front read in (run.0, run.1, λ other. is_bare (run.0 ++ other) other form (run.2 other))
form_front (is_repeated text rest sign inner read is) =
    let run = form_front read in
    front_joined post run.0 (sign ∷ []) text (sign ∷ rest) rest (repeated inner sign) run.1 refl
    (λ other. is_repeated (run.0 ++ sign ∷ other) other sign inner (run.2 (sign ∷ other)) is)
form_front (is_first_post text rest form read) =
    let run = form_front read in (run.0, run.1, λ other. is_first_post (run.0 ++ other) other form (run.2 other))
form_front (is_sequence text middle rest front back read more) =
    let run = form_front read in
    let next = form_front more in
    front_joined cat run.0 next.0 text middle rest (sequence front back) run.1 next.1
    (λ other. is_sequence (run.0 ++ (next.0 ++ other)) (next.0 ++ other) other front back (run.2 (next.0 ++ other)) (next.2 other))
form_front (is_first_cat text rest form read) =
    let run = form_front read in (run.0, run.1, λ other. is_first_cat (run.0 ++ other) other form (run.2 other))
form_front (is_difference text middle rest sign left right is read more) =
    let run = form_front read in
    let next = form_front more in
    front_joined diff run.0 (sign ∷ next.0) text (sign ∷ middle) rest (difference left sign right) run.1 (ap (λ l. sign ∷ l) next.1)
    (λ other.
    is_difference (run.0 ++ sign ∷ (next.0 ++ other)) (next.0 ++ other) other sign left right is (run.2 (sign ∷ (next.0 ++ other))) (next.2 other))
form_front (is_first_diff text rest form read) =
    let run = form_front read in (run.0, run.1, λ other. is_first_diff (run.0 ++ other) other form (run.2 other))
form_front (is_alternative text middle rest sign left right is read more) =
    let run = form_front read in
    let next = form_front more in
    front_joined alt run.0 (sign ∷ next.0) text (sign ∷ middle) rest (alternative left sign right) run.1 (ap (λ l. sign ∷ l) next.1)
    (λ other.
    is_alternative (run.0 ++ sign ∷ (next.0 ++ other)) (next.0 ++ other) other sign left right is (run.2 (sign ∷ (next.0 ++ other))) (next.2 other))

-- How far an expression is read, behind the last parenthesis that is open. `sequences` puts the last part behind those before it,
-- `differences` puts such a sequence behind the operands before it, and `alternatives` such a difference behind the others.
data Reading : Type 0 where
  before : (alternatives differences : Form → Form) → Reading
  behind : (alternatives differences sequences : Form → Form) (last : Form) → Reading

-- what is read between the innermost open parentheses, and what each group that is not closed yet makes of its inner form
abbrev State : Type 0
State = Reading × List (Form → Reading)

abbrev same_form : Form → Form
same_form form = form

abbrev first_reading : Reading
first_reading = before same_form same_form

-- the reading behind one part of a sequence more
abbrev added : Reading → Form → Reading
added (before alternatives differences) form = behind alternatives differences same_form form
added (behind alternatives differences sequences last) form = behind alternatives differences (sequence (sequences last)) form

-- the reading behind a sign that repeats the last part, a `\` and a `|`
abbrev behind_postfix : Reading → Lexeme → Reading
behind_postfix (behind alternatives differences sequences last) sign = behind alternatives differences sequences (repeated last sign)
behind_postfix reading sign = reading

abbrev behind_backslash : Reading → Lexeme → Reading
behind_backslash (behind alternatives differences sequences last) sign =
    before alternatives (difference (differences (sequences last)) sign)
behind_backslash reading sign = reading

-- the form of all that is read; where nothing is, the other one
abbrev whole : (other : Form) → Reading → Form
whole other (before alternatives differences) = other
whole other (behind alternatives differences sequences last) = alternatives (differences (sequences last))

abbrev behind_bar : Reading → Lexeme → Reading
behind_bar reading sign = before (alternative (whole (leaf sign) reading) sign) same_form

-- behind a `)`
abbrev closed : Reading → Lexeme → List (Form → Reading) → State
closed reading sign [] = (reading, [])
closed reading sign (outer ∷ groups) = (outer (whole (leaf sign) reading), groups)

-- the state behind a sign, and behind any token
abbrev behind_sign : Sort → Lexeme → State → State
behind_sign Open sign state = (first_reading, (λ inner. added state.0 (group sign inner)) ∷ state.1)
behind_sign Close sign state = closed state.0 sign state.1
behind_sign Backslash sign state = (behind_backslash state.0 sign, state.1)
behind_sign Bar sign state = (behind_bar state.0 sign, state.1)
behind_sign sort sign state = state

abbrev behind_token : Sort → Lexeme → State → State
behind_token sort lexeme state =
    if is_atom sort then (added state.0 (leaf lexeme), state.1)
    else (if is_postfix sort then (behind_postfix state.0 lexeme, state.1) else behind_sign sort lexeme state)

abbrev behind_all : List Lexeme → State → State
behind_all [] state = state
behind_all (lexeme ∷ text) state = behind_all text (behind_token (sort_at lexeme) lexeme state)

postfix_is_no_atom : (sort : Sort) → is_postfix sort ≡ true → is_atom sort ≡ false
postfix_is_no_atom Star is = refl
postfix_is_no_atom Plus is = refl
postfix_is_no_atom Question is = refl
postfix_is_no_atom Bounds is = refl
postfix_is_no_atom sort is = let h : false ≡ true = is in cc

-- what a part of the grammar does to the reading
abbrev Adds : (text rest : List Lexeme) → Form → Type 0
Adds text rest form =
    (reading : Reading) (groups : List (Form → Reading)) → behind_all text (reading, groups) ≡ behind_all rest (added reading form, groups)

abbrev IsRead : Part → (text rest : List Lexeme) → Form → Type 0
IsRead atom text rest form = Adds text rest form
IsRead post text rest form = Adds text rest form
IsRead cat text rest form =
    (alternatives differences : Form → Form) (groups : List (Form → Reading))
    → (sequences : Form → Form) × (last : Form) × (sequences last ≡ form)
    × (behind_all text (before alternatives differences, groups) ≡ behind_all rest (behind alternatives differences sequences last, groups))
IsRead diff text rest form =
    (alternatives : Form → Form) (groups : List (Form → Reading))
    → (differences sequences : Form → Form) × (last : Form) × (differences (sequences last) ≡ form)
    × (behind_all text (before alternatives same_form, groups) ≡ behind_all rest (behind alternatives differences sequences last, groups))
IsRead alt text rest form =
    (groups : List (Form → Reading))
    → (alternatives differences sequences : Form → Form) × (last : Form) × (alternatives (differences (sequences last)) ≡ form)
    × (behind_all text (first_reading, groups) ≡ behind_all rest (behind alternatives differences sequences last, groups))

-- a sign of this sort is read so
sign_read : (sort : Sort) (sign : Lexeme) (rest : List Lexeme) (state : State) → sort_at sign ≡ sort
    → behind_all (sign ∷ rest) state ≡ behind_all rest (behind_token sort sign state)
sign_read sort sign rest state is = ap (λ s. behind_all rest (behind_token s sign state)) is

postfix_read : (sign : Lexeme) (rest : List Lexeme) (state : State) → is_postfix (sort_at sign) ≡ true
    → behind_all (sign ∷ rest) state ≡ behind_all rest (behind_postfix state.0 sign, state.1)
postfix_read sign rest state is = rw (postfix_is_no_atom (sort_at sign) is, is) refl

last_repeated : (reading : Reading) (form : Form) (sign : Lexeme) → behind_postfix (added reading form) sign ≡ added reading (repeated form sign)
last_repeated (before alternatives differences) form sign = refl
last_repeated (behind alternatives differences sequences last) form sign = refl

form_read : {part : Part} {text rest : List Lexeme} {form : Form} → IsForm part text rest form → IsRead part text rest form
form_read (is_leaf lexeme rest is) = λ reading groups. rw (is) refl
form_read (is_group opening closing text rest inner opens closes read) = λ reading groups.
    let run = form_read read ((λ form. added reading (group opening form)) ∷ groups) in
    let inside = behind run.0 run.1 run.2 run.3 in
    sign_read Open opening text (reading, groups) opens ∙ run.5
    ∙ sign_read Close closing rest (inside, (λ form. added reading (group opening form)) ∷ groups) closes
    ∙ ap (λ form. behind_all rest (added reading (group opening form), groups)) run.4
form_read (is_bare text rest form read) = form_read read
form_read (is_repeated text rest sign inner read is) = λ reading groups.
    form_read read reading groups ∙ postfix_read sign rest (added reading inner, groups) is
    ∙ ap (λ r. behind_all rest (r, groups)) (last_repeated reading inner sign)
form_read (is_first_post text rest form read) = λ alternatives differences groups.
    (same_form, form, refl, form_read read (before alternatives differences) groups)
form_read (is_sequence text middle rest front back read more) = λ alternatives differences groups.
    let run = form_read read alternatives differences groups in (
      sequence (run.0 run.1),
      back,
      ap (λ form. sequence form back) run.2,
      run.3 ∙ form_read more (behind alternatives differences run.0 run.1) groups,
    )
form_read (is_first_cat text rest form read) = λ alternatives groups.
    let run = form_read read alternatives same_form groups in (same_form, run.0, run.1, run.2, run.3)
form_read (is_difference text middle rest sign left right is read more) = λ alternatives groups.
    let run = form_read read alternatives groups in
    let next = form_read more alternatives (difference (run.0 (run.1 run.2)) sign) groups in (
      difference (run.0 (run.1 run.2)) sign,
      next.0,
      next.1,
      ap (λ form. difference form sign (next.0 next.1)) run.3 ∙ ap (difference left sign) next.2,
      run.4 ∙ sign_read Backslash sign middle (behind alternatives run.0 run.1 run.2, groups) is ∙ next.3,
    )
form_read (is_first_diff text rest form read) = λ groups.
    let run = form_read read same_form groups in (same_form, run.0, run.1, run.2, run.3, run.4)
form_read (is_alternative text middle rest sign left right is read more) = λ groups.
    let run = form_read read groups in
    let next = form_read more (alternative (run.0 (run.1 (run.2 run.3))) sign) groups in (
      alternative (run.0 (run.1 (run.2 run.3))) sign,
      next.0,
      next.1,
      next.2,
      ap (λ form. alternative form sign (next.0 (next.1 next.2))) run.4 ∙ ap (alternative left sign) next.3,
      run.5 ∙ sign_read Bar sign middle (behind run.0 run.1 run.2 run.3, groups) is ∙ next.4,
    )

pub one_form : (text rest : List Lexeme) (form other : Form) → IsForm alt text rest form → IsForm alt text rest other → form ≡ other
one_form text rest form other is is_other =
    let run = form_front is in
    let run_other = form_front is_other in
    let same : run.0 ≡ run_other.0 = append_cancel_right run.0 run_other.0 rest (sym run.1 ∙ run_other.1) in
    let read = form_read (run.2 []) [] in
    let read_other = form_read (run_other.2 []) [] in
    let ends = sym read.5 ∙ ap (λ front. behind_all (front ++ []) (first_reading, [])) same ∙ read_other.5 in
    sym read.4 ∙ ap (λ (state : State). whole form state.0) ends ∙ read_other.4
