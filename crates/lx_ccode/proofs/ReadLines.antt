-- Each statement that is written is read again.
use Rattle.std.proofs.Common.{[], ◌%◌, ◌*◌, ◌++◌, ◌+◌, ◌/◌, ◌<◌, ◌^◌, ◌∙◌, ◌∷◌, ◌≡◌, Bool, List, None, Option, Some, ap, append_assoc, arith, false, length, refl, subst, sym, true, ℕ}
use Rattle.std.proofs.lemmas.Bool.{eqb-true, false≢true}
use Rattle.std.specs.Fmt.{decimal}
use Rattle.std.specs.Prelude.{◌==◌, ◌||◌, codes, nat_lt}
use Rattle.lx_base.specs.Letters.{EachLetter, IsIdentifier, begins_identifier, is_digit, is_in_identifier, is_in_spelling, is_hexadecimal, equal_words}
use Rattle.lx_base.specs.Names.{AreAllowed, DoNotClash, Spellings, append_negative, append_offset, condition_prefix, current_unit, cursor, label_prefix, last_accept, limit, marker, refill, set_condition, set_state}
use Rattle.lx_base.specs.Names.{name_primitives}
use Rattle.lx_ccode.specs.declared.piece.LineMark.{LineMark}
use Rattle.lx_ccode.specs.declared.piece.Stmt.{Stmt}
use Rattle.lx_ccode.specs.declared.piece.Stmt.TheVariants.{Accept, Back, Backup, Code, Cond, Copy, Count, End, Goto, IfAccept, IfEnd, IfIs, IfSet, IfUnit, Jump, Leave, MCopy, MSet, MUnset, Need, Peek, Restore, Set, Skip, State, Switch, Tag, Try, Unset}
use Rattle.lx_ccode.specs.Reading.{byte_at, called, code_at, goto_at, if_at, less_at, mark_at, set_test_at, statement_at, switch_at}
use Rattle.lx_ccode.specs.Registers.{history_text, is_context, register_text}
use Rattle.lx_ccode.specs.Statements.{has_register_one}
use Rattle.lx_ccode.specs.Text.{custom_then, escaped, goto_then, hexadecimal, line_by, line_then, pointer_then, set_test_then, statement_then, switch_cases_then}
use Rattle.lx_ccode.specs.Validity.{HasSpelling, IsLine}
use Rattle.lx_ccode.specs.Wording.{Wording}
use Rattle.lx_ccode.proofs.Assignments.{assigned-accept, assigned-back, assigned-backup, assigned-copy, assigned-count, assigned-end, assigned-mcopy, assigned-mtag, assigned-peek, assigned-restore, assigned-set, assigned-tag, assigned-unset, history_identifier, history_of-history, is_context-true, register_spelling, statement_at-assignment, statement_at-goto, statement_at-if, statement_at-skip}
use Rattle.lx_ccode.proofs.Jumps.{goto_block-goto, goto_tail-goto}
use Rattle.lx_ccode.proofs.ReadPrimitives.{primitive_if_at-end, primitive_if_at-need, primitives_free, some_decimal, some_history, some_identifier, statement_at-back_call, statement_at-backup_call, statement_at-named, statement_at-restore_call, statement_at-set_call, statement_at-skip_call, statement_at-unset_call, test_at-alone, test_at-refill, test_at-sign}
use Rattle.lx_ccode.proofs.ReadSwitches.{switch_at-switch}
use Rattle.lx_ccode.proofs.ReadTests.{asked_then, set_at-asked, set_sign}
use Rattle.lx_ccode.proofs.Words.{EachLetter-append, EachLetter-identifier, EachLetter-right, EachLetter-spelling, behind-stop, behind-word, decimal_digits, decimal_first, decimal_identifier, decimal_value, drop-front, equal_words-false, equal_words-other, equal_words-self, file_at-escaped, front-stop, front-word, hexadecimal_digits, hexadecimal_value, is_false, take-front}

-- ---- tests and jumps

if_at-unit : (number : ℕ) (names : Spellings) (unit place : ℕ) (tail : List ℕ) → number < 2 ^ 64 → AreAllowed names → unit < 2 ^ 64 → place < 2 ^ 64
    → if_at names (current_unit names ++ (codes " <= 0x" ++ (hexadecimal unit ++ 41 ∷ goto_then number place tail))) ≡ (IfUnit unit place, false, tail)
unfolding if_at less_at
if_at-unit number names unit place tail short allowed hu hs =
    let hy : EachLetter is_in_spelling (current_unit names) = EachLetter-spelling (current_unit names) (EachLetter-identifier (current_unit names) allowed.current_unit) in
    rw (behind-stop is_in_spelling (current_unit names) 32 (codes "<= 0x" ++ (hexadecimal unit ++ 41 ∷ goto_then number place tail)) hy refl, front-stop is_hexadecimal (hexadecimal unit) 41 (goto_then number place tail) (hexadecimal_digits unit hu) refl, behind-stop is_hexadecimal (hexadecimal unit) 41 (goto_then number place tail) (hexadecimal_digits unit hu) refl, hexadecimal_value unit hu, goto_block-goto number place tail short hs, goto_tail-goto number place tail short hs) refl

if_at-is : (number : ℕ) (names : Spellings) (unit place : ℕ) (tail : List ℕ) → number < 2 ^ 64 → AreAllowed names → unit < 2 ^ 64 → place < 2 ^ 64
    → if_at names (current_unit names ++ (codes " == 0x" ++ (hexadecimal unit ++ 41 ∷ goto_then number place tail))) ≡ (IfIs unit place, false, tail)
unfolding if_at
if_at-is number names unit place tail short allowed hu hs =
    let hy : EachLetter is_in_spelling (current_unit names) = EachLetter-spelling (current_unit names) (EachLetter-identifier (current_unit names) allowed.current_unit) in
    rw (behind-stop is_in_spelling (current_unit names) 32 (codes "== 0x" ++ (hexadecimal unit ++ 41 ∷ goto_then number place tail)) hy refl, front-stop is_hexadecimal (hexadecimal unit) 41 (goto_then number place tail) (hexadecimal_digits unit hu) refl, behind-stop is_hexadecimal (hexadecimal unit) 41 (goto_then number place tail) (hexadecimal_digits unit hu) refl, hexadecimal_value unit hu, goto_block-goto number place tail short hs, goto_tail-goto number place tail short hs) refl

-- a set, of the group and the bit that its number has
set_number : (set : ℕ) → 8 * (set / 8) + set % 8 ≡ set
set_number set = omega arith

if_at-set : (number : ℕ) (names : Spellings) (set place : ℕ) (tail : List ℕ) → number < 2 ^ 64 → AreAllowed names → set < 2 ^ 32 → place < 2 ^ 64
    → if_at names (asked_then (set / 8) (current_unit names) (2 ^ (set % 8)) (goto_then number place tail)) ≡ (IfSet set place, false, tail)
unfolding if_at set_test_at
if_at-set number names set place tail short allowed hu hs =
    let hy : EachLetter is_in_spelling (current_unit names) = EachLetter-spelling (current_unit names) (EachLetter-identifier (current_unit names) allowed.current_unit) in
    let sign = set_sign (current_unit names) hy (set / 8) (2 ^ (set % 8)) (goto_then number place tail) (omega (arith, hu)) in
    rw (sign.no_less, sign.no_more, sign.no_minus, sign.space, set_at-asked (current_unit names) hy (set / 8) (set % 8) (goto_then number place tail) (omega (arith, hu)) (omega arith), set_number set, goto_block-goto number place tail short hs, goto_tail-goto number place tail short hs) refl

if_at-wide_set : (number : ℕ) (names : Spellings) (set place : ℕ) (tail : List ℕ) → number < 2 ^ 64 → AreAllowed names → set < 2 ^ 32 → place < 2 ^ 64
    → if_at names (current_unit names ++ (codes " <= 0xFF && (" ++ asked_then (set / 8) (current_unit names) (2 ^ (set % 8)) (41 ∷ goto_then number place tail))) ≡ (IfSet set place, false, tail)
unfolding if_at less_at set_test_at
if_at-wide_set number names set place tail short allowed hu hs =
    let hy : EachLetter is_in_spelling (current_unit names) = EachLetter-spelling (current_unit names) (EachLetter-identifier (current_unit names) allowed.current_unit) in
    let asked : List ℕ = asked_then (set / 8) (current_unit names) (2 ^ (set % 8)) (41 ∷ goto_then number place tail) in
    rw (behind-stop is_in_spelling (current_unit names) 32 (codes "<= 0xFF && (" ++ asked) hy refl, set_at-asked (current_unit names) hy (set / 8) (set % 8) (41 ∷ goto_then number place tail) (omega (arith, hu)) (omega arith), set_number set, goto_block-goto number place tail short hs, goto_tail-goto number place tail short hs) refl

if_at-end : (number : ℕ) (names : Spellings) (place : ℕ) (tail : List ℕ) → number < 2 ^ 64 → AreAllowed names → place < 2 ^ 64
    → if_at names (cursor names ++ (codes " >= " ++ (limit names ++ 41 ∷ goto_then number place tail))) ≡ (IfEnd place, false, tail)
unfolding if_at
if_at-end number names place tail short allowed hs =
    rw (behind-stop is_in_spelling (cursor names) 32 (codes ">= " ++ (limit names ++ 41 ∷ goto_then number place tail)) allowed.cursor.1 refl, behind-word is_in_spelling (limit names) (41 ∷ goto_then number place tail) allowed.limit.1, goto_block-goto number place tail short hs, goto_tail-goto number place tail short hs) refl

if_at-need : (names : Spellings) (k : ℕ) (tail : List ℕ) → AreAllowed names → k < 2 ^ 64
    → if_at names (40 ∷ (limit names ++ (codes " - " ++ (cursor names ++ (codes ") < " ++ (decimal k ++ (codes ") " ++ (refill names ++ 40 ∷ (decimal k ++ (codes ");\n" ++ tail))))))))))
    ≡ (Need k, false, tail)
unfolding if_at
if_at-need names k tail allowed hk =
    let last : List ℕ = refill names ++ 40 ∷ (decimal k ++ (codes ");\n" ++ tail)) in
    let others : List ℕ = decimal k ++ (codes ") " ++ last) in
    rw (
      behind-stop is_in_spelling (limit names) 32 (codes "- " ++ (cursor names ++ (codes ") < " ++ others))) allowed.limit.1 refl,
      behind-word is_in_spelling (cursor names) (codes ") < " ++ others) allowed.cursor.1,
      front-stop is_digit (decimal k) 41 (codes " " ++ last) (decimal_digits k hk) refl,
      behind-stop is_digit (decimal k) 41 (codes " " ++ last) (decimal_digits k hk) refl,
      decimal_value k hk,
      behind-word is_in_spelling (refill names) (40 ∷ (decimal k ++ (codes ");\n" ++ tail))) allowed.refill.1,
      behind-word is_in_spelling (decimal k) (codes ");\n" ++ tail) (EachLetter-spelling (decimal k) (decimal_identifier k hk)),
    ) refl

-- behind the first digit of a number stands another one, or a parenthesis
second_digit : (word tail : List ℕ) → EachLetter is_digit word → (byte_at tail 0 == 120) ≡ false → (byte_at (word ++ 41 ∷ tail) 1 == 120) ≡ false
second_digit [] tail h q = q
second_digit (digit ∷ []) tail h q = refl
second_digit (digit ∷ next ∷ word) tail h q = is_false (next == 120) (λ e. false≢true (subst (λ (at : ℕ). is_digit at ≡ true) (eqb-true next 120 e) h.1.0))

if_at-accept : (number : ℕ) (names : Spellings) (a place : ℕ) (tail : List ℕ) → number < 2 ^ 64 → AreAllowed names → a < 2 ^ 64 → place < 2 ^ 64
    → if_at names (last_accept names ++ (codes " == " ++ (decimal a ++ 41 ∷ goto_then number place tail))) ≡ (IfAccept a place, false, tail)
unfolding if_at
if_at-accept number names a place tail short allowed ha hs =
    let hy : EachLetter is_in_spelling (last_accept names) = EachLetter-spelling (last_accept names) (EachLetter-identifier (last_accept names) allowed.last_accept) in
    let t : List ℕ = codes "== " ++ (decimal a ++ 41 ∷ goto_then number place tail) in
    rw (behind-stop is_in_spelling (last_accept names) 32 t hy refl, second_digit (decimal a) (goto_then number place tail) (decimal_digits a ha) refl, front-stop is_in_spelling (last_accept names) 32 t hy refl, equal_words-self (last_accept names), front-stop is_digit (decimal a) 41 (goto_then number place tail) (decimal_digits a ha) refl, behind-stop is_digit (decimal a) 41 (goto_then number place tail) (decimal_digits a ha) refl, decimal_value a ha, goto_block-goto number place tail short hs, goto_tail-goto number place tail short hs) refl

if_at-try : (number : ℕ) (names : Spellings) (place : ℕ) (tail : List ℕ) → number < 2 ^ 64 → AreAllowed names → place < 2 ^ 64
    → if_at names (refill names ++ (codes "() == 0)" ++ goto_then number place tail)) ≡ (Try place, false, tail)
unfolding if_at
if_at-try number names place tail short allowed hs =
    let t : List ℕ = codes "() == 0)" ++ goto_then number place tail in
    let other : equal_words (refill names ++ 40 ∷ 41 ∷ []) (last_accept names) ≡ false = equal_words-other (refill names ++ 40 ∷ 41 ∷ []) (last_accept names) (λ e. false≢true (EachLetter-right is_in_identifier (refill names) (40 ∷ 41 ∷ []) (subst (λ (l : List ℕ). EachLetter is_in_identifier l) e (EachLetter-identifier (last_accept names) allowed.last_accept))).0) in
    rw (behind-word is_in_spelling (refill names) t allowed.refill.1, front-word is_in_spelling (refill names) t allowed.refill.1, other, goto_block-goto number place tail short hs, goto_tail-goto number place tail short hs) refl

goto_at-goto : (number : ℕ) (names : Spellings) (place : ℕ) (tail : List ℕ) → number < 2 ^ 64 → place < 2 ^ 64
    → goto_at names (codes "yy" ++ (decimal number ++ 95 ∷ (decimal place ++ 59 ∷ 10 ∷ tail))) ≡ (Goto place, false, tail)
unfolding goto_at
goto_at-goto number names place tail short hs =
    rw (
      behind-word is_in_identifier (decimal number) (95 ∷ (decimal place ++ 59 ∷ 10 ∷ tail)) (decimal_identifier number short),
      behind-stop is_in_identifier (decimal place) 59 (10 ∷ tail) (decimal_identifier place hs) refl,
      behind-stop is_digit (decimal number) 95 (decimal place ++ 59 ∷ 10 ∷ tail) (decimal_digits number short) refl,
      decimal_first place (59 ∷ 10 ∷ tail) hs,
      front-stop is_digit (decimal place) 59 (10 ∷ tail) (decimal_digits place hs) refl,
      behind-stop is_digit (decimal place) 59 (10 ∷ tail) (decimal_digits place hs) refl,
      decimal_value place hs,
    ) refl

goto_at-leave : (number : ℕ) (names : Spellings) (tail : List ℕ) → number < 2 ^ 64
    → goto_at names (codes "yy" ++ (decimal number ++ (codes "_none;\n" ++ tail))) ≡ (Leave, false, tail)
unfolding goto_at
goto_at-leave number names tail short = rw (behind-word is_in_identifier (decimal number) (codes "_none;\n" ++ tail) (decimal_identifier number short), behind-stop is_digit (decimal number) 95 (codes "none;\n" ++ tail) (decimal_digits number short) refl) refl

goto_at-jump : (names : Spellings) (word : List ℕ) (k : ℕ) (tail : List ℕ) → AreAllowed names → EachLetter is_in_identifier word → k < 2 ^ 64
    → goto_at names ((label_prefix names ++ word) ++ (codes "; /* " ++ (decimal k ++ (codes " */\n" ++ tail)))) ≡ (Jump word k, false, tail)
unfolding goto_at
goto_at-jump names word k tail allowed hw hk =
    let hv : EachLetter is_in_identifier (label_prefix names ++ word) = EachLetter-append is_in_identifier (label_prefix names) word (EachLetter-identifier (label_prefix names) allowed.label_prefix) hw in
    let t : List ℕ = codes " /* " ++ (decimal k ++ (codes " */\n" ++ tail)) in
    rw (behind-stop is_in_identifier (label_prefix names ++ word) 59 t hv refl, front-stop is_in_identifier (label_prefix names ++ word) 59 t hv refl, drop-front (label_prefix names) word, front-stop is_digit (decimal k) 32 (codes "*/\n" ++ tail) (decimal_digits k hk) refl, behind-stop is_digit (decimal k) 32 (codes "*/\n" ++ tail) (decimal_digits k hk) refl, decimal_value k hk) refl

pub identifier_no_sign : (c d : ℕ) → begins_identifier d ≡ false → begins_identifier c ≡ true → (c == d) ≡ false
identifier_no_sign c d h k = is_false (c == d) (λ e. false≢true (sym h ∙ subst (λ (b : ℕ). begins_identifier b ≡ true) (eqb-true c d e) k))

statement_at-jump : (custom : Bool) (names : Spellings) (front_word tail : List ℕ) → IsIdentifier front_word
    → statement_at custom names (codes "\tgoto " ++ (front_word ++ tail)) ≡ goto_at names (front_word ++ tail)
statement_at-jump custom names [] tail h = absurd h
statement_at-jump custom names (c ∷ front_word) tail h = statement_at-goto custom names c (front_word ++ tail) (identifier_no_sign c 61 refl h.0) (identifier_no_sign c 40 refl h.0)

IsIdentifier-append : (front_word word : List ℕ) → IsIdentifier front_word → EachLetter is_in_identifier word → IsIdentifier (front_word ++ word)
IsIdentifier-append [] word h k = absurd h
IsIdentifier-append (c ∷ front_word) word h k = (h.0, EachLetter-append is_in_identifier front_word word h.1 k)

statement_at-switch : (custom : Bool) (names : Spellings) (b : List ℕ) → statement_at custom names (codes "\tswitch (" ++ b) ≡ switch_at b
unfolding statement_at
statement_at-switch custom names b = refl

statement_at-set : (custom wide : Bool) (wording : Wording) (set block : ℕ) (tail : List ℕ) → wording.number < 2 ^ 64 → AreAllowed wording.names → set < 2 ^ 32 → block < 2 ^ 64
    → statement_at custom wording.names (set_test_then wide wording set block tail) ≡ (IfSet set block, false, tail)
statement_at-set custom false wording set block tail short allowed hu hs =
    let hy : EachLetter is_in_spelling (current_unit wording.names) = EachLetter-spelling (current_unit wording.names) (EachLetter-identifier (current_unit wording.names) allowed.current_unit) in
    let asked : List ℕ = asked_then (set / 8) (current_unit wording.names) (2 ^ (set % 8)) (goto_then wording.number block tail) in
    let sign = set_sign (current_unit wording.names) hy (set / 8) (2 ^ (set % 8)) (goto_then wording.number block tail) (omega (arith, hu)) in
    statement_at-if custom wording.names asked ∙ test_at-alone custom wording.names asked sign.space
    ∙ if_at-set wording.number wording.names set block tail short allowed hu hs
statement_at-set custom true wording set block tail short allowed hu hs =
    let hy : EachLetter is_in_spelling (current_unit wording.names) = EachLetter-spelling (current_unit wording.names) (EachLetter-identifier (current_unit wording.names) allowed.current_unit) in
    let asked : List ℕ = asked_then (set / 8) (current_unit wording.names) (2 ^ (set % 8)) (41 ∷ goto_then wording.number block tail) in
    statement_at-if custom wording.names (current_unit wording.names ++ (codes " <= 0xFF && (" ++ asked))
    ∙ test_at-sign custom wording.names (current_unit wording.names) 60 (codes "= 0xFF && (" ++ asked) hy refl
    ∙ if_at-wide_set wording.number wording.names set block tail short allowed hu hs

-- ---- calls

called-mset : (names : Spellings) (register : ℕ) → register < 2 ^ 64
    → called names (append_offset names) (history_text names register) ≡ MSet register
unfolding called
called-mset names register h = rw (equal_words-self (append_offset names), history_of-history names register h) refl

called-munset : (names : Spellings) (register : ℕ) → register < 2 ^ 64 → DoNotClash names
    → called names (append_negative names) (history_text names register) ≡ MUnset register
unfolding called
called-munset names register h clash = rw (equal_words-other (append_negative names) (append_offset names) clash.calls_differ.1.1.1.1.1.0.0, equal_words-self (append_negative names), history_of-history names register h) refl

called-state : (names : Spellings) (k : ℕ) → k < 2 ^ 64 → DoNotClash names → called names (set_state names) (decimal k) ≡ State k
unfolding called
called-state names k h clash = rw (equal_words-false (set_state names) (append_offset names) clash.calls_differ.1.1.0.1.1.0, equal_words-false (set_state names) (append_negative names) clash.calls_differ.1.1.0.1.1.1.0, equal_words-self (set_state names), decimal_value k h) refl

called-cond : (names : Spellings) (word : List ℕ) → DoNotClash names → called names (set_condition names) (condition_prefix names ++ word) ≡ Cond word
unfolding called
called-cond names word clash = rw (equal_words-false (set_condition names) (append_offset names) clash.calls_differ.1.1.1.1.0.0, equal_words-false (set_condition names) (append_negative names) clash.calls_differ.1.1.1.1.0.1.0, equal_words-other (set_condition names) (set_state names) clash.calls_differ.1.1.0.1.0, drop-front (condition_prefix names) word) refl

-- ---- code

pub mark_at-line : (mark : LineMark) (tail : List ℕ) → mark.line < 2 ^ 64 → mark_at (line_then (Some mark) tail) ≡ (mark, tail)
unfolding mark_at
mark_at-line mark tail h =
    let t : List ℕ = codes "\"" ++ (escaped mark.file ++ (codes "\"\n" ++ tail)) in
    rw (front-stop is_digit (decimal mark.line) 32 t (decimal_digits mark.line h) refl, behind-stop is_digit (decimal mark.line) 32 t (decimal_digits mark.line h) refl, decimal_value mark.line h, file_at-escaped mark.file (10 ∷ tail)) refl

code_at-code : (line : Option LineMark) (k : ℕ) (word tail : List ℕ) → k < 2 ^ 64 → length word < 2 ^ 64
    → code_at line (codes "\t/*!code:re2c " ++ (decimal k ++ 32 ∷ (decimal (length word) ++ (codes "*/" ++ (word ++ 10 ∷ tail))))) ≡ (Code k line word, false, tail)
unfolding code_at
code_at-code line k word tail hk hw =
    let t : List ℕ = codes "*/" ++ (word ++ 10 ∷ tail) in
    let u : List ℕ = decimal (length word) ++ t in
    rw (
      front-stop is_digit (decimal k) 32 u (decimal_digits k hk) refl,
      behind-stop is_digit (decimal k) 32 u (decimal_digits k hk) refl,
      decimal_value k hk,
      front-stop is_digit (decimal (length word)) 42 (codes "/" ++ (word ++ 10 ∷ tail)) (decimal_digits (length word) hw) refl,
      behind-stop is_digit (decimal (length word)) 42 (codes "/" ++ (word ++ 10 ∷ tail)) (decimal_digits (length word) hw) refl,
      decimal_value (length word) hw,
      take-front word (10 ∷ tail),
      drop-front word (10 ∷ tail),
    ) refl

statement_at-code : (custom : Bool) (names : Spellings) (line : Option LineMark) (b : List ℕ) → IsLine line
    → statement_at custom names (line_then line (codes "\t/*!code:re2c " ++ b)) ≡ code_at line (codes "\t/*!code:re2c " ++ b)
unfolding statement_at
statement_at-code custom names None b h = refl
statement_at-code custom names (Some line) b h = rw (mark_at-line line (codes "\t/*!code:re2c " ++ b) (omega arith)) refl

-- ---- all of them

-- the line has the context marker in the place of register 1
abbrev pub names_context : Bool → Stmt → Bool
names_context ctx (Set k) = is_context ctx k
names_context ctx (Unset k) = is_context ctx k
names_context ctx (Copy k j) = is_context ctx k || is_context ctx j
names_context ctx (Tag word false k) = is_context ctx k
names_context ctx (End i k) = is_context ctx k
names_context ctx (Back k) = is_context ctx k
names_context ctx _ = false

pub names_context-without : (statement : Stmt) → names_context false statement ≡ false
names_context-without (Tag word true k) = refl
names_context-without (Tag word false k) = refl
names_context-without _ = refl

pub names_context-with : (statement : Stmt) → names_context true statement ≡ has_register_one statement
names_context-with (Tag word true k) = refl
names_context-with (Tag word false k) = refl
names_context-with _ = refl

-- the statement is a test of the input that primitives of the user's spell in another way
abbrev is_input_test : Stmt → Bool
is_input_test (Need units) = true
is_input_test (IfEnd block) = true
is_input_test _ = false

-- lines of pointers are read so in either way, but tests of the input
statement_at-pointer : (custom : Bool) (wording : Wording) (statement : Stmt) (tail : List ℕ) → wording.number < 2 ^ 64 → AreAllowed wording.names
    → DoNotClash wording.names → (custom ≡ true → name_primitives wording.names ≡ false) → (custom ≡ true → is_input_test statement ≡ false)
    → HasSpelling wording.names statement
    → statement_at custom wording.names (pointer_then wording statement tail) ≡ (statement, names_context wording.ctx statement, tail)
statement_at-pointer custom wording Peek tail short allowed clash free kept h = statement_at-assignment custom wording.names (current_unit wording.names) (42 ∷ cursor wording.names) tail (EachLetter-spelling (current_unit wording.names) (EachLetter-identifier (current_unit wording.names) allowed.current_unit)) (refl, allowed.cursor.1)
    ∙ rw (assigned-peek wording.names (42 ∷ cursor wording.names)) refl
statement_at-pointer custom wording Skip tail short allowed clash free kept h = statement_at-skip custom wording.names (cursor wording.names) tail allowed.cursor.1
statement_at-pointer custom wording Backup tail short allowed clash free kept h = statement_at-assignment custom wording.names (marker wording.names) (cursor wording.names) tail allowed.marker.1 allowed.cursor.1
    ∙ rw (assigned-backup wording.names (cursor wording.names) clash) refl
statement_at-pointer custom wording Restore tail short allowed clash free kept h = statement_at-assignment custom wording.names (cursor wording.names) (marker wording.names) tail allowed.cursor.1 allowed.marker.1
    ∙ rw (assigned-restore wording.names clash) refl
statement_at-pointer custom wording (Accept a) tail short allowed clash free kept h =
    let ha : a < 2 ^ 64 = omega arith in
    statement_at-assignment custom wording.names (last_accept wording.names) (decimal a) tail (EachLetter-spelling (last_accept wording.names) (EachLetter-identifier (last_accept wording.names) allowed.last_accept)) (EachLetter-spelling (decimal a) (decimal_identifier a ha))
    ∙ rw (assigned-accept wording.names a ha clash) refl
statement_at-pointer custom wording (Set k) tail short allowed clash free kept h =
    let hk : k < 2 ^ 64 = omega arith in
    statement_at-assignment custom wording.names (register_text wording.names wording.ctx k) (cursor wording.names) tail (register_spelling wording.names (is_context wording.ctx k) k hk allowed) allowed.cursor.1
    ∙ rw (assigned-set wording.names (is_context wording.ctx k) k hk allowed clash (is_context-true wording.ctx k)) refl
statement_at-pointer custom wording (Unset k) tail short allowed clash free kept h =
    let hk : k < 2 ^ 64 = omega arith in
    statement_at-assignment custom wording.names (register_text wording.names wording.ctx k) (codes "NULL") tail (register_spelling wording.names (is_context wording.ctx k) k hk allowed) (refl, (refl, (refl, (refl, tt))))
    ∙ rw (assigned-unset wording.names (is_context wording.ctx k) k hk allowed clash (is_context-true wording.ctx k)) refl
statement_at-pointer custom wording (Copy k j) tail short allowed clash free kept h =
    let hk : k < 2 ^ 64 = omega arith in
    let hj : j < 2 ^ 64 = omega arith in
    statement_at-assignment custom wording.names (register_text wording.names wording.ctx k) (register_text wording.names wording.ctx j) tail (register_spelling wording.names (is_context wording.ctx k) k hk allowed) (register_spelling wording.names (is_context wording.ctx j) j hj allowed)
    ∙ rw (assigned-copy wording.names (is_context wording.ctx k) (is_context wording.ctx j) k j hk hj allowed clash (is_context-true wording.ctx k) (is_context-true wording.ctx j)) refl
statement_at-pointer custom wording (MSet k) tail short allowed clash free kept h =
    let hk : k < 2 ^ 64 = omega arith in
    statement_at-named custom wording.names (append_offset wording.names) (history_text wording.names k) tail allowed.append_offset.1 (history_identifier wording.names k hk allowed) (some_history wording.names k allowed) (λ yes. (primitives_free wording.names (free yes)).append_offset)
    ∙ rw (called-mset wording.names k hk) refl
statement_at-pointer custom wording (MUnset k) tail short allowed clash free kept h =
    let hk : k < 2 ^ 64 = omega arith in
    statement_at-named custom wording.names (append_negative wording.names) (history_text wording.names k) tail allowed.append_negative.1 (history_identifier wording.names k hk allowed) (some_history wording.names k allowed) (λ yes. (primitives_free wording.names (free yes)).append_negative)
    ∙ rw (called-munset wording.names k hk clash) refl
statement_at-pointer custom wording (MCopy k j) tail short allowed clash free kept h =
    let hk : k < 2 ^ 64 = omega arith in
    let hj : j < 2 ^ 64 = omega arith in
    statement_at-assignment custom wording.names (history_text wording.names k) (history_text wording.names j) tail (EachLetter-spelling (history_text wording.names k) (history_identifier wording.names k hk allowed)) (EachLetter-spelling (history_text wording.names j) (history_identifier wording.names j hj allowed))
    ∙ rw (assigned-mcopy wording.names k j hk hj allowed clash) refl
statement_at-pointer custom wording (IfUnit u statement) tail short allowed clash free kept h = statement_at-if custom wording.names (current_unit wording.names ++ (codes " <= 0x" ++ (hexadecimal u ++ 41 ∷ goto_then wording.number statement tail)))
    ∙ test_at-sign custom wording.names (current_unit wording.names) 60 (codes "= 0x" ++ (hexadecimal u ++ 41 ∷ goto_then wording.number statement tail)) (EachLetter-spelling (current_unit wording.names) (EachLetter-identifier (current_unit wording.names) allowed.current_unit)) refl
    ∙ if_at-unit wording.number wording.names u statement tail short allowed (omega arith) h.1
statement_at-pointer custom wording (IfIs u statement) tail short allowed clash free kept h = statement_at-if custom wording.names (current_unit wording.names ++ (codes " == 0x" ++ (hexadecimal u ++ 41 ∷ goto_then wording.number statement tail)))
    ∙ test_at-sign custom wording.names (current_unit wording.names) 61 (codes "= 0x" ++ (hexadecimal u ++ 41 ∷ goto_then wording.number statement tail)) (EachLetter-spelling (current_unit wording.names) (EachLetter-identifier (current_unit wording.names) allowed.current_unit)) refl
    ∙ if_at-is wording.number wording.names u statement tail short allowed (omega arith) h.1
statement_at-pointer custom wording (IfSet set statement) tail short allowed clash free kept h =
    statement_at-set custom (nat_lt 1 wording.unit) wording set statement tail short allowed h.0 h.1
statement_at-pointer custom wording (IfAccept a statement) tail short allowed clash free kept h = statement_at-if custom wording.names (last_accept wording.names ++ (codes " == " ++ (decimal a ++ 41 ∷ goto_then wording.number statement tail)))
    ∙ test_at-sign custom wording.names (last_accept wording.names) 61 (codes "= " ++ (decimal a ++ 41 ∷ goto_then wording.number statement tail)) (EachLetter-spelling (last_accept wording.names) (EachLetter-identifier (last_accept wording.names) allowed.last_accept)) refl
    ∙ if_at-accept wording.number wording.names a statement tail short allowed (omega arith) h.1
statement_at-pointer true wording (IfEnd statement) tail short allowed clash free kept h = absurd (false≢true (sym (kept refl)))
statement_at-pointer false wording (IfEnd statement) tail short allowed clash free kept h = statement_at-if false wording.names (cursor wording.names ++ (codes " >= " ++ (limit wording.names ++ 41 ∷ goto_then wording.number statement tail)))
    ∙ if_at-end wording.number wording.names statement tail short allowed h
statement_at-pointer custom wording (State k) tail short allowed clash free kept h = statement_at-named custom wording.names (set_state wording.names) (decimal k) tail allowed.set_state.1 (decimal_identifier k h) (some_decimal k h) (λ yes. (primitives_free wording.names (free yes)).set_state)
    ∙ rw (called-state wording.names k h clash) refl
statement_at-pointer true wording (Need k) tail short allowed clash free kept h = absurd (false≢true (sym (kept refl)))
statement_at-pointer false wording (Need k) tail short allowed clash free kept h = statement_at-if false wording.names (40 ∷ (limit wording.names ++ (codes " - " ++ (cursor wording.names ++ (codes ") < " ++ (decimal k ++ (codes ") " ++ (refill wording.names ++ 40 ∷ (decimal k ++ (codes ");\n" ++ tail))))))))))
    ∙ if_at-need wording.names k tail allowed (omega arith)
statement_at-pointer custom wording (Try statement) tail short allowed clash free kept h = statement_at-if custom wording.names (refill wording.names ++ (codes "() == 0)" ++ goto_then wording.number statement tail))
    ∙ test_at-refill custom wording.names (goto_then wording.number statement tail) allowed
    ∙ if_at-try wording.number wording.names statement tail short allowed h
statement_at-pointer custom wording (Cond word) tail short allowed clash free kept h =
    statement_at-named custom wording.names (set_condition wording.names) (condition_prefix wording.names ++ word) tail allowed.set_condition.1 (EachLetter-append is_in_identifier (condition_prefix wording.names) word (EachLetter-identifier (condition_prefix wording.names) allowed.condition_prefix) (EachLetter-identifier word h)) (some_identifier (condition_prefix wording.names) word allowed.condition_prefix) (λ yes. (primitives_free wording.names (free yes)).set_condition)
    ∙ rw (called-cond wording.names word clash) refl
statement_at-pointer custom wording (Tag word true k) tail short allowed clash free kept h =
    let hk : k < 2 ^ 64 = omega arith in
    statement_at-assignment custom wording.names word (history_text wording.names k) tail (EachLetter-spelling word (EachLetter-identifier word h.0.identifier)) (EachLetter-spelling (history_text wording.names k) (history_identifier wording.names k hk allowed))
    ∙ rw (assigned-mtag wording.names word k hk clash h.0) refl
statement_at-pointer custom wording (Tag word false k) tail short allowed clash free kept h =
    let hk : k < 2 ^ 64 = omega arith in
    statement_at-assignment custom wording.names word (register_text wording.names wording.ctx k) tail (EachLetter-spelling word (EachLetter-identifier word h.0.identifier)) (register_spelling wording.names (is_context wording.ctx k) k hk allowed)
    ∙ rw (assigned-tag wording.names (is_context wording.ctx k) word k hk clash h.0 (is_context-true wording.ctx k)) refl
statement_at-pointer custom wording (Count k) tail short allowed clash free kept h =
    let hk : k < 2 ^ 64 = omega arith in
    statement_at-assignment custom wording.names (codes "yynmatch") (decimal k) tail (refl, (refl, (refl, (refl, (refl, (refl, (refl, (refl, tt)))))))) (EachLetter-spelling (decimal k) (decimal_identifier k hk))
    ∙ rw (assigned-count wording.names k hk clash) refl
statement_at-pointer custom wording (End i k) tail short allowed clash free kept h =
    let hi : i < 2 ^ 64 = omega arith in
    let hk : k < 2 ^ 64 = omega arith in
    let word : List ℕ = codes "yypmatch[" ++ (decimal i ++ 93 ∷ []) in
    let hw : EachLetter is_in_spelling word = EachLetter-append is_in_spelling (codes "yypmatch[") (decimal i ++ 93 ∷ []) (refl, (refl, (refl, (refl, (refl, (refl, (refl, (refl, (refl, tt))))))))) (EachLetter-append is_in_spelling (decimal i) (93 ∷ []) (EachLetter-spelling (decimal i) (decimal_identifier i hi)) (refl, tt)) in
    let regroup : pointer_then wording (End i k) tail ≡ 9 ∷ (word ++ 32 ∷ 61 ∷ 32 ∷ (register_text wording.names wording.ctx k ++ 59 ∷ 10 ∷ tail)) = ap (λ (l : List ℕ). codes "\tyypmatch[" ++ l) (sym (append_assoc (decimal i) (93 ∷ []) (32 ∷ 61 ∷ 32 ∷ (register_text wording.names wording.ctx k ++ 59 ∷ 10 ∷ tail)))) in
    ap (statement_at custom wording.names) regroup
    ∙ statement_at-assignment custom wording.names word (register_text wording.names wording.ctx k) tail hw (register_spelling wording.names (is_context wording.ctx k) k hk allowed)
    ∙ rw (assigned-end wording.names (is_context wording.ctx k) i k hi hk clash (is_context-true wording.ctx k)) refl
statement_at-pointer custom wording (Back k) tail short allowed clash free kept h =
    let hk : k < 2 ^ 64 = omega arith in
    statement_at-assignment custom wording.names (cursor wording.names) (register_text wording.names wording.ctx k) tail allowed.cursor.1 (register_spelling wording.names (is_context wording.ctx k) k hk allowed)
    ∙ rw (assigned-back wording.names (is_context wording.ctx k) k hk clash (is_context-true wording.ctx k)) refl
statement_at-pointer custom wording (Switch cases last) tail short allowed clash free kept h =
    statement_at-switch custom wording.names (current_unit wording.names ++ (codes ") {\n" ++ switch_cases_then wording.number cases (codes "\tdefault:" ++ goto_then wording.number last (codes "\t}\n" ++ tail))))
    ∙ switch_at-switch wording.number wording.names cases last tail short allowed h.0.each h.1
statement_at-pointer custom wording (Goto statement) tail short allowed clash free kept h = statement_at-goto custom wording.names 121 (codes "y" ++ (decimal wording.number ++ 95 ∷ (decimal statement ++ 59 ∷ 10 ∷ tail))) refl refl
    ∙ goto_at-goto wording.number wording.names statement tail short h
statement_at-pointer custom wording Leave tail short allowed clash free kept h = statement_at-goto custom wording.names 121 (codes "y" ++ (decimal wording.number ++ (codes "_none;\n" ++ tail))) refl refl
    ∙ goto_at-leave wording.number wording.names tail short
statement_at-pointer custom wording (Code k l word) tail short allowed clash free kept h =
    statement_at-code custom wording.names l (decimal k ++ 32 ∷ (decimal (length word) ++ (codes "*/" ++ (word ++ 10 ∷ tail)))) h.1
    ∙ code_at-code l k word tail (omega arith) (omega arith)
statement_at-pointer custom wording (Jump word k) tail short allowed clash free kept h =
    statement_at-jump custom wording.names (label_prefix wording.names ++ word) (codes "; /* " ++ (decimal k ++ (codes " */\n" ++ tail))) (IsIdentifier-append (label_prefix wording.names) word allowed.label_prefix (EachLetter-identifier word h.0))
    ∙ goto_at-jump wording.names word k tail allowed (EachLetter-identifier word h.0) (omega arith)

-- ---- primitives of the user's

statement_at-custom : (wording : Wording) (statement : Stmt) (tail : List ℕ) → wording.number < 2 ^ 64 → AreAllowed wording.names
    → DoNotClash wording.names → name_primitives wording.names ≡ false → HasSpelling wording.names statement
    → statement_at true wording.names (custom_then wording statement tail) ≡ (statement, names_context wording.ctx statement, tail)
statement_at-custom wording Peek tail short allowed clash free h =
    statement_at-assignment true wording.names (current_unit wording.names) (codes "YYPEEK()") tail (EachLetter-spelling (current_unit wording.names) (EachLetter-identifier (current_unit wording.names) allowed.current_unit))
    (refl, (refl, (refl, (refl, (refl, (refl, (refl, (refl, tt))))))))
    ∙ rw (assigned-peek wording.names (codes "YYPEEK()")) refl
statement_at-custom wording Skip tail short allowed clash free h = statement_at-skip_call wording.names tail
statement_at-custom wording Backup tail short allowed clash free h = statement_at-backup_call wording.names tail
statement_at-custom wording Restore tail short allowed clash free h = statement_at-restore_call wording.names tail
statement_at-custom wording (Set k) tail short allowed clash free h =
    let hk : k < 2 ^ 64 = omega arith in
    statement_at-set_call wording.names (is_context wording.ctx k) k tail hk allowed clash (is_context-true wording.ctx k)
statement_at-custom wording (Unset k) tail short allowed clash free h =
    let hk : k < 2 ^ 64 = omega arith in
    statement_at-unset_call wording.names (is_context wording.ctx k) k tail hk allowed clash (is_context-true wording.ctx k)
statement_at-custom wording (Back k) tail short allowed clash free h =
    let hk : k < 2 ^ 64 = omega arith in
    statement_at-back_call wording.names (is_context wording.ctx k) k tail hk allowed clash (is_context-true wording.ctx k)
statement_at-custom wording (Need k) tail short allowed clash free h =
    statement_at-if true wording.names (codes "YYLESSTHAN(" ++ (decimal k ++ (codes ")) " ++ (refill wording.names ++ 40 ∷ (decimal k ++ (codes ");\n" ++ tail))))))
    ∙ primitive_if_at-need wording.names k tail allowed (omega arith)
statement_at-custom wording (IfEnd block) tail short allowed clash free h =
    statement_at-if true wording.names (codes "YYLESSTHAN(1))" ++ goto_then wording.number block tail)
    ∙ primitive_if_at-end wording.number wording.names block tail short h
statement_at-custom wording (Tag word true k) tail short allowed clash free h = statement_at-pointer true wording (Tag word true k) tail short allowed clash (λ yes. free) (λ yes. refl) h
statement_at-custom wording (Tag word false k) tail short allowed clash free h = statement_at-pointer true wording (Tag word false k) tail short allowed clash (λ yes. free) (λ yes. refl) h
statement_at-custom wording statement tail short allowed clash free h = statement_at-pointer true wording statement tail short allowed clash (λ yes. free) (λ yes. refl) h

-- ---- both

statement_at-line : (custom : Bool) (wording : Wording) (statement : Stmt) (tail : List ℕ) → wording.number < 2 ^ 64 → AreAllowed wording.names
    → DoNotClash wording.names → (custom ≡ true → name_primitives wording.names ≡ false) → HasSpelling wording.names statement
    → statement_at custom wording.names (line_by custom wording statement tail) ≡ (statement, names_context wording.ctx statement, tail)
statement_at-line false wording statement tail short allowed clash free h =
    statement_at-pointer false wording statement tail short allowed clash free (λ yes. absurd (false≢true yes)) h
statement_at-line true wording statement tail short allowed clash free h = statement_at-custom wording statement tail short allowed clash (free refl) h

pub statement_at-statement : (wording : Wording) (statement : Stmt) (tail : List ℕ) → wording.number < 2 ^ 64 → AreAllowed wording.names
    → DoNotClash wording.names → (wording.custom ≡ true → name_primitives wording.names ≡ false) → HasSpelling wording.names statement
    → statement_at wording.custom wording.names (statement_then wording statement tail) ≡ (statement, names_context wording.ctx statement, tail)
statement_at-statement wording statement tail short allowed clash free h = statement_at-line wording.custom wording statement tail short allowed clash free h
