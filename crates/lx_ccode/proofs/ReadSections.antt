-- Each part of a piece that is written is read again.
use Rattle.std.proofs.Common.{[], ◌++◌, ◌<◌, ◌^◌, ◌∙◌, ◌∷◌, ◌≡◌, ◌≤◌, Bool, List, None, Option, Some, arith, drop, false, length, refl, subst, suc, sym, true, zero, ℕ}
use Rattle.std.proofs.lemmas.Bool.{eqb-true, false≢true}
use Rattle.std.proofs.lemmas.List.{append-nil}
use Rattle.std.specs.Fmt.{decimal}
use Rattle.std.specs.Prelude.{◌==◌, ◌||◌, codes, if◌then◌else◌, nat_lt}
use Rattle.lx_base.specs.Letters.{EachLetter, IsIdentifier, is_digit, is_in_identifier, is_in_spelling, after_letters, front_letters, is_in_type}
use Rattle.lx_base.specs.Names.{AreAllowed, DoNotClash, EachIsShort, IsWords, Spellings, condition_prefix, current_unit, get_condition, get_state, last_accept, unit_type}
use Rattle.lx_base.specs.Names.{name_primitives}
use Rattle.lx_ccode.specs.declared.piece.CondCase.{CondCase}
use Rattle.lx_ccode.specs.declared.piece.LineMark.{LineMark}
use Rattle.lx_ccode.specs.declared.piece.StateCase.{StateCase}
use Rattle.lx_ccode.specs.declared.piece.Stmt.{Stmt}
use Rattle.lx_ccode.specs.declared.piece.Stmt.TheVariants.{Code, IfSet, Tag}
use Rattle.lx_ccode.specs.Reading.{begins_statement, block_at, byte_at, cond_cases_at, cond_switch_at, declarations_at, eof_at, is_tab, line_at, names_at, state_cases_at, state_switch_at, statements_at}
use Rattle.lx_ccode.specs.Statements.{is_ending}
use Rattle.lx_ccode.specs.Text.{cond_cases_then, cond_switch_then, declarations_then, eof_then, goto_then, line_by, line_then, names_then, set_test_then, start_then, state_cases_then, state_switch_then, statement_then, statements_then}
use Rattle.lx_ccode.specs.Validity.{EachHasSpelling, IsLine, ends_once}
use Rattle.lx_ccode.specs.Wording.{Wording}
use Rattle.lx_ccode.proofs.Jumps.{goto_block-goto, goto_tail-goto}
use Rattle.lx_ccode.proofs.ReadLines.{mark_at-line, names_context, statement_at-statement}
use Rattle.lx_ccode.proofs.ReadTables.{NoTable}
use Rattle.lx_ccode.proofs.Words.{EachLetter-append, EachLetter-from, EachLetter-identifier, behind-stop, behind-word, decimal_digits, decimal_first, decimal_identifier, decimal_value, drop-front, front-stop, front-word, is_false, is_in_type-identifier, or-left, take-front}

-- ---- statements

begins_statement-set : (wide : Bool) (wording : Wording) (set block : ℕ) (tail : List ℕ) → begins_statement (set_test_then wide wording set block tail) ≡ true
begins_statement-set false wording set block tail = refl
begins_statement-set true wording set block tail = refl

begins_statement-line : (custom : Bool) (wording : Wording) (statement : Stmt) (tail : List ℕ)
    → begins_statement (line_by custom wording statement tail) ≡ true
begins_statement-line false wording (Tag word true k) tail = refl
begins_statement-line false wording (Tag word false k) tail = refl
begins_statement-line false wording (Code k None word) tail = refl
begins_statement-line false wording (Code k (Some l) word) tail = refl
begins_statement-line false wording (IfSet set block) tail = begins_statement-set (nat_lt 1 wording.unit) wording set block tail
begins_statement-line false wording _ tail = refl
begins_statement-line true wording (Tag word true k) tail = refl
begins_statement-line true wording (Tag word false k) tail = refl
begins_statement-line true wording (Code k None word) tail = refl
begins_statement-line true wording (Code k (Some l) word) tail = refl
begins_statement-line true wording (IfSet set block) tail = begins_statement-set (nat_lt 1 wording.unit) wording set block tail
begins_statement-line true wording _ tail = refl

pub begins_statement-statement : (wording : Wording) (statement : Stmt) (tail : List ℕ)
    → begins_statement (statement_then wording statement tail) ≡ true
begins_statement-statement wording statement tail = begins_statement-line wording.custom wording statement tail

abbrev pub any_names_context : Bool → List Stmt → Bool
any_names_context ctx [] = false
any_names_context ctx (s ∷ statements) = names_context ctx s || any_names_context ctx statements

or-no : (flag : Bool) → (flag || false) ≡ flag
or-no true = refl
or-no false = refl

-- no statement but the last one ends a block
ends_once-first : (statement next : Stmt) (statements : List Stmt) → ends_once (statement ∷ next ∷ statements) ≡ true → is_ending statement ≡ false
ends_once-first statement next statements ends = by (is_ending statement) ends where
  by : (flag : Bool) → (if flag then false else ends_once (next ∷ statements)) ≡ true → flag ≡ false
  by true e = absurd (false≢true e)
  by false e = refl

ends_once-next : (statement next : Stmt) (statements : List Stmt) → ends_once (statement ∷ next ∷ statements) ≡ true → ends_once (next ∷ statements) ≡ true
ends_once-next statement next statements ends = by (is_ending statement) ends where
  by : (flag : Bool) → (if flag then false else ends_once (next ∷ statements)) ≡ true → ends_once (next ∷ statements) ≡ true
  by true e = absurd (false≢true e)
  by false e = e

pub statements_at-statements : (fuel : ℕ) (wording : Wording) (statements : List Stmt) (tail : List ℕ) → wording.number < 2 ^ 64
    → AreAllowed wording.names → DoNotClash wording.names → (wording.custom ≡ true → name_primitives wording.names ≡ false) → EachHasSpelling wording.names statements → length statements ≤ fuel → ends_once statements ≡ true
    → statements_at fuel wording.custom wording.names (statements_then wording statements tail) ≡ (statements, any_names_context wording.ctx statements, tail)
unfolding statements_at
statements_at-statements fuel wording [] tail short allowed clash free spelled le ends = absurd (false≢true ends)
statements_at-statements zero wording (s ∷ statements) tail short allowed clash free spelled le ends = absurd (omega arith)
statements_at-statements (suc fuel) wording (s ∷ []) tail short allowed clash free spelled le ends =
    rw (begins_statement-statement wording s tail, statement_at-statement wording s tail short allowed clash free spelled.0, ends, or-no (names_context wording.ctx s)) refl
statements_at-statements (suc fuel) wording (s ∷ next ∷ statements) tail short allowed clash free spelled le ends =
    let others : List Stmt = next ∷ statements in
    let rest : statements_at fuel wording.custom wording.names (statements_then wording others tail) ≡ (others, any_names_context wording.ctx others, tail) =
    statements_at-statements fuel wording others tail short allowed clash free spelled.1 (omega arith) (ends_once-next s next statements ends) in
    rw (begins_statement-statement wording s (statements_then wording others tail), statement_at-statement wording s (statements_then wording others tail) short allowed clash free spelled.0, ends_once-first s next statements ends, rest) refl

-- ---- the names line

front-until : (p : ℕ → Bool) (word tail : List ℕ) → EachLetter p word → p (byte_at tail 0) ≡ false → front_letters p (word ++ tail) ≡ word
front-until p word [] h q = front-word p word [] h ∙ append-nil word
front-until p word (c ∷ tail) h q = front-stop p word c tail h q

behind-until : (p : ℕ → Bool) (word tail : List ℕ) → EachLetter p word → p (byte_at tail 0) ≡ false → after_letters p (word ++ tail) ≡ tail
behind-until p word [] h q = behind-word p word [] h
behind-until p word (c ∷ tail) h q = behind-stop p word c tail h q

names_at-names : (words : Spellings) (tail : List ℕ) → EachIsShort words → names_at (length words) (names_then words tail) ≡ (words, tail)
unfolding names_at
names_at-names [] tail h = refl
names_at-names (word ∷ words) tail h =
    let hl : length word < 2 ^ 64 = (let k : length word < 2 ^ 32 = h.0 in omega arith) in
    let t : List ℕ = word ++ names_then words tail in
    let rest : names_at (length words) (names_then words tail) ≡ (words, tail) = names_at-names words tail h.1 in
    rw (front-stop is_digit (decimal (length word)) 58 t (decimal_digits (length word) hl) refl, behind-stop is_digit (decimal (length word)) 58 t (decimal_digits (length word) hl) refl, decimal_value (length word) hl, take-front word (names_then words tail), drop-front word (names_then words tail), rest) refl

pub names_at-seventeen : (names : Spellings) (tail : List ℕ) → length names ≡ 17 → EachIsShort names
    → names_at 17 (names_then names tail) ≡ (names, tail)
names_at-seventeen names tail e h = subst (λ (k : ℕ). names_at k (names_then names tail) ≡ (names, tail)) e (names_at-names names tail h)

names_no_digit : (names : Spellings) (tail : List ℕ) → length names ≡ 17 → is_digit (byte_at (names_then names tail) 0) ≡ false
names_no_digit [] tail e = absurd (omega arith)
names_no_digit (word ∷ words) tail e = refl

abbrev pub IsEof : Option ℕ → Type 0
IsEof None = Unit {0}
IsEof (Some e) = e < 2 ^ 64

is_digit-dash : (c : ℕ) → is_digit c ≡ true → (c == 45) ≡ false
is_digit-dash c h = is_false (c == 45) (λ e. false≢true (subst (λ (b : ℕ). is_digit b ≡ true) (eqb-true c 45 e) h))

pub eof_at-eof : (eof : Option ℕ) (names : Spellings) (tail : List ℕ) → IsEof eof → length names ≡ 17
    → eof_at (eof_then eof (names_then names tail)) ≡ (eof, names_then names tail)
unfolding eof_at
eof_at-eof None names tail h l = refl
eof_at-eof (Some eof) names tail h l =
    let t : List ℕ = names_then names tail in
    rw (is_digit-dash (byte_at (decimal eof ++ names_then names tail) 0) (decimal_first eof (names_then names tail) h), front-until is_digit (decimal eof) (names_then names tail) (decimal_digits eof h) (names_no_digit names tail l), behind-until is_digit (decimal eof) (names_then names tail) (decimal_digits eof h) (names_no_digit names tail l), decimal_value eof h) refl

-- ---- the declarations

EachLetter-words : (flag : Bool) (word : List ℕ) → IsWords flag word → EachLetter is_in_type word
EachLetter-words true [] h = tt
EachLetter-words false [] h = tt
EachLetter-words true (c ∷ word) h = (is_in_type-identifier c h.0, EachLetter-words false word h.1)
EachLetter-words false (c ∷ word) h = (h.0, EachLetter-words (c == 32) word h.1)

-- what stands behind the declarations
pub record NoDeclarations (tail : List ℕ) : Type 0 where
  pub no_semicolon : (if is_tab tail then byte_at (after_letters is_in_type (drop 1 tail)) 0 == 59 else false) ≡ false

pub declarations_at-declarations : (names : Spellings) (declares : Bool) (tail : List ℕ) → AreAllowed names → NoDeclarations tail
    → declarations_at (declarations_then names declares tail) ≡ (declares, tail)
unfolding declarations_at
declarations_at-declarations names false tail allowed q = rw q.no_semicolon refl
declarations_at-declarations names true tail allowed q =
    let t : List ℕ = codes "\n\tunsigned int " ++ (last_accept names ++ (codes " = 0;\n" ++ tail)) in
    let hy : EachLetter is_in_type (current_unit names) = EachLetter-from is_in_identifier is_in_type is_in_type-identifier (current_unit names) (EachLetter-identifier (current_unit names) allowed.current_unit) in
    rw (behind-word is_in_type (unit_type names) (32 ∷ (current_unit names ++ 59 ∷ t)) (EachLetter-words true (unit_type names) allowed.unit_type), behind-stop is_in_type (current_unit names) 59 t hy refl, behind-stop is_in_identifier (last_accept names) 32 (codes "= 0;\n" ++ tail) (EachLetter-identifier (last_accept names) allowed.last_accept) refl) refl

-- ---- the state switch

abbrev pub AreCases : List StateCase → Type 0
AreCases [] = Unit {0}
AreCases (c ∷ cases) = ((c.state < 2 ^ 64) × (c.block < 2 ^ 64)) × AreCases cases

state_cases_at-cases : (k number : ℕ) (cases : List StateCase) (tail : List ℕ) → number < 2 ^ 64 → AreCases cases → length cases ≤ k
    → (byte_at tail 1 == 99) ≡ false → state_cases_at k (state_cases_then number cases tail) ≡ (cases, tail)
unfolding state_cases_at
state_cases_at-cases zero number [] tail short h le q = refl
state_cases_at-cases (suc k) number [] tail short h le q = rw q refl
state_cases_at-cases zero number (c ∷ cases) tail short h le q = absurd (omega arith)
state_cases_at-cases (suc k) number (c ∷ cases) tail short h le q =
    let others : List ℕ = state_cases_then number cases tail in
    let rest : state_cases_at k (state_cases_then number cases tail) ≡ (cases, tail) = state_cases_at-cases k number cases tail short h.1 (omega arith) q in
    rw (
      front-stop is_digit (decimal c.state) 58 (goto_then number c.block others) (decimal_digits c.state h.0.0) refl,
      behind-stop is_digit (decimal c.state) 58 (goto_then number c.block others) (decimal_digits c.state h.0.0) refl,
      decimal_value c.state h.0.0,
      goto_block-goto number c.block others short h.0.1,
      goto_tail-goto number c.block others short h.0.1,
      rest,
    ) refl

behind-start : (number : ℕ) (conds : List CondCase) (tail : List ℕ) → number < 2 ^ 64
    → after_letters is_in_identifier (start_then number conds (59 ∷ tail)) ≡ 59 ∷ tail
behind-start number [] tail h = rw (behind-word is_in_identifier (decimal number) (95 ∷ (decimal 0 ++ 59 ∷ tail)) (decimal_identifier number h), behind-stop is_in_identifier (decimal 0) 59 tail (decimal_identifier 0 (omega arith)) refl) refl
behind-start number (c ∷ cases) tail h = rw (behind-word is_in_identifier (decimal number) (codes "_cond" ++ 59 ∷ tail) (decimal_identifier number h)) refl

abbrev pub AreStates : ℕ → Option (List StateCase) → Type 0
AreStates fuel None = Unit {0}
AreStates fuel (Some cases) = AreCases cases × (length cases ≤ fuel)

pub state_switch_at-cases : (fuel number : ℕ) (names : Spellings) (conds : List CondCase) (cases : List StateCase) (tail : List ℕ)
    → number < 2 ^ 64 → AreAllowed names → AreCases cases → length cases ≤ fuel
    → state_switch_at fuel (state_switch_then number names conds (Some cases) tail) ≡ (Some cases, tail)
unfolding state_switch_at
state_switch_at-cases fuel number names conds cases tail short allowed h le =
    let y : List ℕ = codes "\tdefault: goto " ++ start_then number conds (codes ";\n\t}\n" ++ tail) in
    rw (behind-word is_in_spelling (get_state names) (codes "()) {\n" ++ state_cases_then number cases y) allowed.get_state.1, state_cases_at-cases fuel number cases y short h le refl, behind-start number conds (codes "\n\t}\n" ++ tail) short) refl

pub state_switch_at-switch : (fuel number : ℕ) (names : Spellings) (conds : List CondCase) (states : Option (List StateCase)) (tail : List ℕ)
    → number < 2 ^ 64 → AreAllowed names → AreStates fuel states → is_tab tail ≡ false
    → state_switch_at fuel (state_switch_then number names conds states tail) ≡ (states, tail)
unfolding state_switch_at
state_switch_at-switch fuel number names conds None tail short allowed h q = rw q refl
state_switch_at-switch fuel number names conds (Some cases) tail short allowed h q = state_switch_at-cases fuel number names conds cases tail short allowed h.0 h.1

pub NoDeclarations-states : (number : ℕ) (names : Spellings) (conds : List CondCase) (states : Option (List StateCase)) (tail : List ℕ)
    → is_tab tail ≡ false → NoDeclarations (state_switch_then number names conds states tail)
NoDeclarations-states number names conds None tail q = record { no_semicolon = rw q refl }
NoDeclarations-states number names conds (Some cases) tail q = record { no_semicolon = refl }

-- neither the declarations nor the switch over stored states have the table's bracket
NoTable-states : (number : ℕ) (names : Spellings) (conds : List CondCase) (states : Option (List StateCase)) (tail : List ℕ)
    → is_tab tail ≡ false → NoTable (state_switch_then number names conds states tail)
NoTable-states number names conds None tail q = record { no_bracket = rw q refl }
NoTable-states number names conds (Some cases) tail q = record { no_bracket = refl }

pub NoTable-declarations : (number : ℕ) (names : Spellings) (declares : Bool) (conds : List CondCase) (states : Option (List StateCase)) (tail : List ℕ)
    → AreAllowed names → is_tab tail ≡ false → NoTable (declarations_then names declares (state_switch_then number names conds states tail))
NoTable-declarations number names false conds states tail allowed q = NoTable-states number names conds states tail q
NoTable-declarations number names true conds states tail allowed q =
    let t : List ℕ = codes "\n\tunsigned int " ++ (last_accept names ++ (codes " = 0;\n" ++ state_switch_then number names conds states tail)) in
    let hy : EachLetter is_in_type (current_unit names) = EachLetter-from is_in_identifier is_in_type is_in_type-identifier (current_unit names) (EachLetter-identifier (current_unit names) allowed.current_unit) in
    record { no_bracket = rw (behind-word is_in_type (unit_type names) (32 ∷ (current_unit names ++ 59 ∷ t)) (EachLetter-words true (unit_type names) allowed.unit_type), behind-stop is_in_type (current_unit names) 59 t hy refl) refl }

-- ---- the condition switch

abbrev pub AreConds : List CondCase → Type 0
AreConds [] = Unit {0}
AreConds (c ∷ cases) = (IsIdentifier c.cond × (c.block < 2 ^ 64)) × AreConds cases

cond_cases_at-cases : (k number : ℕ) (names : Spellings) (conds : List CondCase) (tail : List ℕ) → number < 2 ^ 64 → AreAllowed names → AreConds conds
    → length conds ≤ k → (byte_at tail 1 == 99) ≡ false → cond_cases_at k names (cond_cases_then number names conds tail) ≡ (conds, tail)
unfolding cond_cases_at
cond_cases_at-cases zero number names [] tail short allowed h le q = refl
cond_cases_at-cases (suc k) number names [] tail short allowed h le q = rw q refl
cond_cases_at-cases zero number names (c ∷ conds) tail short allowed h le q = absurd (omega arith)
cond_cases_at-cases (suc k) number names (c ∷ conds) tail short allowed h le q =
    let others : List ℕ = cond_cases_then number names conds tail in
    let rest : cond_cases_at k names (cond_cases_then number names conds tail) ≡ (conds, tail) = cond_cases_at-cases k number names conds tail short allowed h.1 (omega arith) q in
    let word : EachLetter is_in_identifier (condition_prefix names ++ c.cond) = EachLetter-append is_in_identifier (condition_prefix names) c.cond (EachLetter-identifier (condition_prefix names) allowed.condition_prefix) (EachLetter-identifier c.cond h.0.0) in
    rw (
      front-stop is_in_identifier (condition_prefix names ++ c.cond) 58 (goto_then number c.block others) word refl,
      behind-stop is_in_identifier (condition_prefix names ++ c.cond) 58 (goto_then number c.block others) word refl,
      drop-front (condition_prefix names) c.cond,
      goto_block-goto number c.block others short h.0.1,
      goto_tail-goto number c.block others short h.0.1,
      rest,
    ) refl

-- where there is no switch over conditions, block 0 follows at once
pub cond_switch_at-switch : (fuel number : ℕ) (names : Spellings) (conds : List CondCase) (tail : List ℕ) → number < 2 ^ 64 → AreAllowed names
    → AreConds conds → length conds ≤ fuel → (length conds ≡ 0 → is_digit (byte_at (block_at tail) 0) ≡ true)
    → cond_switch_at fuel names (cond_switch_then number names conds tail) ≡ (conds, tail)
unfolding cond_switch_at
cond_switch_at-switch fuel number names [] tail short allowed h le q = rw (q refl) refl
cond_switch_at-switch fuel number names (c ∷ conds) tail short allowed h le q =
    let y : List ℕ = codes "\t}\n" ++ tail in
    let t : List ℕ = cond_cases_then number names (c ∷ conds) y in
    rw (behind-stop is_digit (decimal number) 95 (codes "cond:\n\tswitch (" ++ (get_condition names ++ (codes "()) {\n" ++ t))) (decimal_digits number short) refl, behind-word is_in_spelling (get_condition names) (codes "()) {\n" ++ t) allowed.get_condition.1, cond_cases_at-cases fuel number names (c ∷ conds) y short allowed h le refl) refl

pub is_tab-conds : (number : ℕ) (names : Spellings) (conds : List CondCase) (tail : List ℕ) → is_tab tail ≡ false
    → is_tab (cond_switch_then number names conds tail) ≡ false
is_tab-conds number names [] tail q = q
is_tab-conds number names (c ∷ conds) tail q = refl

pub is_tab-statement : (tail : List ℕ) → begins_statement tail ≡ false → is_tab tail ≡ false
is_tab-statement tail h = is_false (is_tab tail) (λ e. false≢true (sym h ∙ or-left (byte_at tail 0 == 9) (byte_at tail 0 == 35) e))

pub line_at-line : (line : Option LineMark) (tail : List ℕ) → IsLine line → (byte_at tail 0 == 35) ≡ false
    → line_at (line_then line tail) ≡ (line, tail)
line_at-line None tail h q = rw q refl
line_at-line (Some line) tail h q = rw (mark_at-line line tail (omega arith)) refl
