-- Lines of input primitives of the user's are read again, and no other line is taken for one of them.
use Rattle.std.proofs.Common.{[], ◌++◌, ◌<◌, ◌^◌, ◌∙◌, ◌∷◌, ◌≡◌, Bool, List, ap, append_assoc, arith, false, length, refl, subst, sym, true, ℕ}
use Rattle.std.proofs.lemmas.Bool.{eq-eqb, eqb-true, false≢true}
use Rattle.std.proofs.lemmas.Fmt.{decimal_is_IsNumeral}
use Rattle.std.proofs.lemmas.List.{reverse-append, reverse-reverse}
use Rattle.std.specs.Fmt.{decimal}
use Rattle.std.specs.Prelude.{◌==◌, ◌||◌, codes, if◌then◌else◌}
use Rattle.lx_base.specs.Letters.{EachLetter, IsIdentifier, IsSpelling, begins_with, equal_words, is_digit, is_in_identifier, is_in_spelling, after_letters}
use Rattle.lx_base.specs.Names.{AreAllowed, DoNotClash, Spellings, append_negative, append_offset, refill, set_condition, set_state, tag_prefix}
use Rattle.lx_base.specs.Names.{calls_name, calls_primitive, name_primitives}
use Rattle.lx_ccode.specs.declared.piece.Stmt.TheVariants.{Back, Backup, IfEnd, Need, Restore, Set, Skip, Unset}
use Rattle.lx_ccode.specs.Reading.{argument, byte_at, called, enclosed, if_at, primitive_called, primitive_if_at, statement_at, test_at}
use Rattle.lx_ccode.specs.Registers.{history_text, register_by}
use Rattle.lx_ccode.specs.Text.{goto_then}
use Rattle.lx_ccode.proofs.Assignments.{is_context_marker-register, register_of-register, register_spelling, statement_at-call}
use Rattle.lx_ccode.proofs.Jumps.{goto_block-goto, goto_tail-goto}
use Rattle.lx_ccode.proofs.Words.{EachLetter-append, EachLetter-spelling, argument-call, behind-stop, behind-word, callee-call, decimal_digits, decimal_identifier, decimal_value, drop-front, equal_words-false, front-stop, is_false}

-- ---- words that are not empty

pub some_identifier : (word rest : List ℕ) → IsIdentifier word → 0 < length (word ++ rest)
some_identifier [] rest h = absurd h
some_identifier (letter ∷ word) rest h = omega arith

pub some_history : (names : Spellings) (history : ℕ) → AreAllowed names → 0 < length (history_text names history)
some_history names history allowed = some_identifier (tag_prefix names) (109 ∷ decimal history) allowed.tag_prefix

pub some_decimal : (number : ℕ) → number < 2 ^ 64 → 0 < length (decimal number)
some_decimal number h = (decimal_is_IsNumeral number h).0.0

-- ---- no other call is one of a primitive

either-false : (a b : Bool) → (a || b) ≡ false → (a ≡ false) × (b ≡ false)
either-false true b e = absurd (false≢true (sym e))
either-false false b e = (refl, e)

identifier_no_parenthesis : (letter : ℕ) → is_in_identifier letter ≡ true → (letter == 40) ≡ false
identifier_no_parenthesis letter h =
    is_false (letter == 40) (λ e. false≢true (subst (λ (at : ℕ). is_in_identifier at ≡ true) (eqb-true letter 40 e) h))

-- a call that begins with a name and a parenthesis is one of the name
begins_with-calls : (name word rest : List ℕ) → EachLetter is_in_identifier name → begins_with (name ++ codes "(") (word ++ 40 ∷ rest) ≡ true
    → calls_name name word ≡ true
begins_with-calls [] [] rest h e = refl
begins_with-calls [] (letter ∷ word) rest h e = e
begins_with-calls (letter ∷ name) [] rest h e = absurd (false≢true (rw (identifier_no_parenthesis letter h.0) at e))
begins_with-calls (letter ∷ name) (other ∷ word) rest h e = by (letter == other) refl e (begins_with-calls name word rest h.1) where
  by : (same : Bool) → (letter == other) ≡ same → (if same then begins_with (name ++ codes "(") (word ++ 40 ∷ rest) else false) ≡ true
      → (begins_with (name ++ codes "(") (word ++ 40 ∷ rest) ≡ true → calls_name name word ≡ true)
      → calls_name (letter ∷ name) (other ∷ word) ≡ true
  by true is k next =
      let back : (other == letter) ≡ true = eq-eqb other letter (sym (eqb-true letter other is)) in
      rw (back, is) (next k)
  by false is k next = absurd (false≢true k)

-- none of the spellings with one value is one of a primitive
pub record ArePrimitivesFree (names : Spellings) : Type 0 where
  pub set_state : calls_primitive (set_state names) ≡ false
  pub set_condition : calls_primitive (set_condition names) ≡ false
  pub append_offset : calls_primitive (append_offset names) ≡ false
  pub append_negative : calls_primitive (append_negative names) ≡ false

pub primitives_free : (names : Spellings) → name_primitives names ≡ false → ArePrimitivesFree names
primitives_free names h =
    let first = either-false (calls_primitive (set_state names)) _ h in
    let second = either-false (calls_primitive (set_condition names)) _ first.1 in
    let third = either-false (calls_primitive (append_offset names)) _ second.1 in
    record { set_state = first.0; set_condition = second.0; append_offset = third.0; append_negative = third.1 }

no_front : (name word rest : List ℕ) → EachLetter is_in_identifier name → calls_name name word ≡ false → begins_with (name ++ codes "(") (word ++ 40 ∷ rest) ≡ false
no_front name word rest h free = is_false (begins_with (name ++ codes "(") (word ++ 40 ∷ rest)) (λ e. false≢true (sym free ∙ begins_with-calls name word rest h e))

-- a call without a value is not one with a value
no_bare_call : (bare name value : List ℕ) → argument bare ≡ [] → EachLetter is_in_identifier value → 0 < length value
    → equal_words (name ++ 40 ∷ (value ++ 41 ∷ [])) bare ≡ false
no_bare_call bare name value none h some = equal_words-false (name ++ 40 ∷ (value ++ 41 ∷ [])) bare (λ same.
    let empty : value ≡ [] = sym (argument-call name value h) ∙ ap argument same ∙ none in
    let zero : length value ≡ 0 = ap (λ (l : List ℕ). length l) empty in
    omega (arith, zero, some))

no_argument-skip : argument (codes "YYSKIP()") ≡ []
unfolding argument
no_argument-skip = refl

no_argument-backup : argument (codes "YYBACKUP()") ≡ []
unfolding argument
no_argument-backup = refl

no_argument-restore : argument (codes "YYRESTORE()") ≡ []
unfolding argument
no_argument-restore = refl

primitive_called-other : (names : Spellings) (name value : List ℕ) → EachLetter is_in_identifier value → 0 < length value → calls_primitive name ≡ false
    → primitive_called names (name ++ 40 ∷ (value ++ 41 ∷ [])) ≡ (called names name value, false)
unfolding primitive_called
primitive_called-other names name value h some free =
    let first = either-false (calls_name (codes "YYSTAGP") name) _ free in
    let second = either-false (calls_name (codes "YYSTAGN") name) (calls_name (codes "YYRESTORETAG") name) first.1 in
    rw (
      no_bare_call (codes "YYSKIP()") name value no_argument-skip h some,
      no_bare_call (codes "YYBACKUP()") name value no_argument-backup h some,
      no_bare_call (codes "YYRESTORE()") name value no_argument-restore h some,
      no_front (codes "YYSTAGP") name (value ++ 41 ∷ []) (refl, (refl, (refl, (refl, (refl, (refl, (refl, tt))))))) first.0,
      no_front (codes "YYSTAGN") name (value ++ 41 ∷ []) (refl, (refl, (refl, (refl, (refl, (refl, (refl, tt))))))) second.0,
      no_front (codes "YYRESTORETAG") name (value ++ 41 ∷ []) (refl, (refl, (refl, (refl, (refl, (refl, (refl, (refl, (refl, (refl, (refl, (refl, tt)))))))))))) second.1,
      callee-call name value h,
      argument-call name value h,
    ) refl

-- ---- lines of calls

-- a call whose word is made of letters of spellings
statement_at-primitive : (names : Spellings) (word tail : List ℕ) → EachLetter is_in_spelling word
    → statement_at true names (9 ∷ (word ++ 59 ∷ 10 ∷ tail)) ≡ ((primitive_called names word).0, (primitive_called names word).1, tail)
unfolding statement_at
statement_at-primitive names word tail h =
    rw (front-stop is_in_spelling word 59 (10 ∷ tail) h refl, behind-stop is_in_spelling word 59 (10 ∷ tail) h refl) refl

-- a call of a name with a value
pub statement_at-named : (custom : Bool) (names : Spellings) (name value tail : List ℕ) → EachLetter is_in_spelling name → EachLetter is_in_identifier value
    → 0 < length value → (custom ≡ true → calls_primitive name ≡ false)
    → statement_at custom names (9 ∷ (name ++ 40 ∷ (value ++ 41 ∷ 59 ∷ 10 ∷ tail))) ≡ (called names name value, false, tail)
statement_at-named false names name value tail hn hv some free = statement_at-call names name value tail hn hv
statement_at-named true names name value tail hn hv some free =
    let word : List ℕ = name ++ 40 ∷ (value ++ 41 ∷ []) in
    let hw : EachLetter is_in_spelling word = EachLetter-append is_in_spelling name (40 ∷ (value ++ 41 ∷ [])) hn (refl, EachLetter-append is_in_spelling value (41 ∷ []) (EachLetter-spelling value hv) (refl, tt)) in
    let regroup : 9 ∷ (name ++ 40 ∷ (value ++ 41 ∷ 59 ∷ 10 ∷ tail)) ≡ 9 ∷ (word ++ 59 ∷ 10 ∷ tail) =
    ap (λ (l : List ℕ). 9 ∷ l) (ap (λ (l : List ℕ). name ++ 40 ∷ l) (sym (append_assoc value (41 ∷ []) (59 ∷ 10 ∷ tail))) ∙ sym (append_assoc name (40 ∷ (value ++ 41 ∷ [])) (59 ∷ 10 ∷ tail))) in
    ap (statement_at true names) regroup ∙ statement_at-primitive names word tail hw
    ∙ rw (primitive_called-other names name value hv some (free refl)) refl

primitive_called-skip : (names : Spellings) → primitive_called names (codes "YYSKIP()") ≡ (Skip, false)
unfolding primitive_called
primitive_called-skip names = refl

primitive_called-backup : (names : Spellings) → primitive_called names (codes "YYBACKUP()") ≡ (Backup, false)
unfolding primitive_called
primitive_called-backup names = refl

primitive_called-restore : (names : Spellings) → primitive_called names (codes "YYRESTORE()") ≡ (Restore, false)
unfolding primitive_called
primitive_called-restore names = refl

pub statement_at-skip_call : (names : Spellings) (tail : List ℕ) → statement_at true names (codes "\tYYSKIP();\n" ++ tail) ≡ (Skip, false, tail)
statement_at-skip_call names tail =
    statement_at-primitive names (codes "YYSKIP()") tail (refl, (refl, (refl, (refl, (refl, (refl, (refl, (refl, tt)))))))) ∙ rw (primitive_called-skip names) refl

pub statement_at-backup_call : (names : Spellings) (tail : List ℕ) → statement_at true names (codes "\tYYBACKUP();\n" ++ tail) ≡ (Backup, false, tail)
statement_at-backup_call names tail =
    statement_at-primitive names (codes "YYBACKUP()") tail (refl, (refl, (refl, (refl, (refl, (refl, (refl, (refl, (refl, (refl, tt)))))))))) ∙ rw (primitive_called-backup names) refl

pub statement_at-restore_call : (names : Spellings) (tail : List ℕ) → statement_at true names (codes "\tYYRESTORE();\n" ++ tail) ≡ (Restore, false, tail)
statement_at-restore_call names tail =
    statement_at-primitive names (codes "YYRESTORE()") tail (refl, (refl, (refl, (refl, (refl, (refl, (refl, (refl, (refl, (refl, (refl, tt))))))))))) ∙ rw (primitive_called-restore names) refl

-- ---- calls with a register

-- the word between a name with its parenthesis and the last parenthesis
enclosed-call : (name word : List ℕ) → enclosed (length name) (name ++ (word ++ 41 ∷ [])) ≡ word
unfolding enclosed
enclosed-call name word = rw (drop-front name (word ++ 41 ∷ []), reverse-append word (41 ∷ [])) (reverse-reverse word)

call_spelling : (name word : List ℕ) → EachLetter is_in_spelling name → EachLetter is_in_spelling word → EachLetter is_in_spelling (name ++ (word ++ 41 ∷ []))
call_spelling name word h k = EachLetter-append is_in_spelling name (word ++ 41 ∷ []) h (EachLetter-append is_in_spelling word (41 ∷ []) k (refl, tt))

-- a line of a call is its word and what ends the line
call_line : (name word tail : List ℕ) → 9 ∷ (name ++ (word ++ 41 ∷ 59 ∷ 10 ∷ tail)) ≡ 9 ∷ ((name ++ (word ++ 41 ∷ [])) ++ 59 ∷ 10 ∷ tail)
call_line name word tail =
    ap (λ (l : List ℕ). 9 ∷ l) (ap (λ (l : List ℕ). name ++ l) (sym (append_assoc word (41 ∷ []) (59 ∷ 10 ∷ tail))) ∙ sym (append_assoc name (word ++ 41 ∷ []) (59 ∷ 10 ∷ tail)))

module _ (names : Spellings) (flag : Bool) (register : ℕ) (h : register < 2 ^ 64) (clash : DoNotClash names) (one : flag ≡ true → register ≡ 1) where
  primitive_called-set : primitive_called names (codes "YYSTAGP(" ++ (register_by names flag register ++ 41 ∷ [])) ≡ (Set register, flag)
  unfolding primitive_called
  primitive_called-set =
      rw (enclosed-call (codes "YYSTAGP(") (register_by names flag register), register_of-register names flag register h clash one, is_context_marker-register names flag register h clash) refl

  primitive_called-unset : primitive_called names (codes "YYSTAGN(" ++ (register_by names flag register ++ 41 ∷ [])) ≡ (Unset register, flag)
  unfolding primitive_called
  primitive_called-unset =
      rw (enclosed-call (codes "YYSTAGN(") (register_by names flag register), register_of-register names flag register h clash one, is_context_marker-register names flag register h clash) refl

  primitive_called-back : primitive_called names (codes "YYRESTORETAG(" ++ (register_by names flag register ++ 41 ∷ [])) ≡ (Back register, flag)
  unfolding primitive_called
  primitive_called-back =
      rw (enclosed-call (codes "YYRESTORETAG(") (register_by names flag register), register_of-register names flag register h clash one, is_context_marker-register names flag register h clash) refl

pub statement_at-set_call : (names : Spellings) (flag : Bool) (register : ℕ) (tail : List ℕ) → register < 2 ^ 64 → AreAllowed names → DoNotClash names
    → (flag ≡ true → register ≡ 1) → statement_at true names (codes "\tYYSTAGP(" ++ (register_by names flag register ++ (codes ");\n" ++ tail))) ≡ (Set register, flag, tail)
statement_at-set_call names flag register tail h allowed clash one =
    let word : List ℕ = register_by names flag register in
    ap (statement_at true names) (call_line (codes "YYSTAGP(") word tail)
    ∙ statement_at-primitive names (codes "YYSTAGP(" ++ (word ++ 41 ∷ [])) tail
    (call_spelling (codes "YYSTAGP(") word (refl, (refl, (refl, (refl, (refl, (refl, (refl, (refl, tt)))))))) (register_spelling names flag register h allowed))
    ∙ rw (primitive_called-set names flag register h clash one) refl

pub statement_at-unset_call : (names : Spellings) (flag : Bool) (register : ℕ) (tail : List ℕ) → register < 2 ^ 64 → AreAllowed names → DoNotClash names
    → (flag ≡ true → register ≡ 1) → statement_at true names (codes "\tYYSTAGN(" ++ (register_by names flag register ++ (codes ");\n" ++ tail))) ≡ (Unset register, flag, tail)
statement_at-unset_call names flag register tail h allowed clash one =
    let word : List ℕ = register_by names flag register in
    ap (statement_at true names) (call_line (codes "YYSTAGN(") word tail)
    ∙ statement_at-primitive names (codes "YYSTAGN(" ++ (word ++ 41 ∷ [])) tail
    (call_spelling (codes "YYSTAGN(") word (refl, (refl, (refl, (refl, (refl, (refl, (refl, (refl, tt)))))))) (register_spelling names flag register h allowed))
    ∙ rw (primitive_called-unset names flag register h clash one) refl

pub statement_at-back_call : (names : Spellings) (flag : Bool) (register : ℕ) (tail : List ℕ) → register < 2 ^ 64 → AreAllowed names → DoNotClash names
    → (flag ≡ true → register ≡ 1) → statement_at true names (codes "\tYYRESTORETAG(" ++ (register_by names flag register ++ (codes ");\n" ++ tail))) ≡ (Back register, flag, tail)
statement_at-back_call names flag register tail h allowed clash one =
    let word : List ℕ = register_by names flag register in
    ap (statement_at true names) (call_line (codes "YYRESTORETAG(") word tail)
    ∙ statement_at-primitive names (codes "YYRESTORETAG(" ++ (word ++ 41 ∷ [])) tail
    (call_spelling (codes "YYRESTORETAG(") word (refl, (refl, (refl, (refl, (refl, (refl, (refl, (refl, (refl, (refl, (refl, (refl, (refl, tt))))))))))))) (register_spelling names flag register h allowed))
    ∙ rw (primitive_called-back names flag register h clash one) refl

-- ---- tests

or-true : (flag : Bool) → (flag || true) ≡ true
or-true true = refl
or-true false = refl

-- a word before `<` or `=` is none of the input
primitive_if_at-sign : (names : Spellings) (word : List ℕ) (sign : ℕ) (tail : List ℕ) → EachLetter is_in_spelling word → ((sign == 60) || (sign == 61)) ≡ true
    → primitive_if_at names (word ++ 32 ∷ sign ∷ tail) ≡ if_at names (word ++ 32 ∷ sign ∷ tail)
unfolding primitive_if_at
primitive_if_at-sign names word sign tail h is = rw (behind-stop is_in_spelling word 32 (sign ∷ tail) h refl, is) refl

-- nor is one before a sign that stands alone
primitive_if_at-alone : (names : Spellings) (bytes : List ℕ) → (byte_at (after_letters is_in_spelling bytes) 2 == 32) ≡ true → primitive_if_at names bytes ≡ if_at names bytes
unfolding primitive_if_at
primitive_if_at-alone names bytes is =
    rw (is, or-true ((byte_at (after_letters is_in_spelling bytes) 1 == 60) || (byte_at (after_letters is_in_spelling bytes) 1 == 61))) refl

pub test_at-alone : (custom : Bool) (names : Spellings) (bytes : List ℕ) → (byte_at (after_letters is_in_spelling bytes) 2 == 32) ≡ true
    → test_at custom names bytes ≡ if_at names bytes
test_at-alone false names bytes is = refl
test_at-alone true names bytes is = primitive_if_at-alone names bytes is

pub test_at-sign : (custom : Bool) (names : Spellings) (word : List ℕ) (sign : ℕ) (tail : List ℕ) → EachLetter is_in_spelling word
    → ((sign == 60) || (sign == 61)) ≡ true → test_at custom names (word ++ 32 ∷ sign ∷ tail) ≡ if_at names (word ++ 32 ∷ sign ∷ tail)
test_at-sign false names word sign tail h is = refl
test_at-sign true names word sign tail h is = primitive_if_at-sign names word sign tail h is

primitive_if_at-refill : (names : Spellings) (tail : List ℕ) → AreAllowed names
    → primitive_if_at names (refill names ++ (codes "() == 0)" ++ tail)) ≡ if_at names (refill names ++ (codes "() == 0)" ++ tail))
unfolding primitive_if_at
primitive_if_at-refill names tail allowed = rw (behind-word is_in_spelling (refill names) (codes "() == 0)" ++ tail) allowed.refill.1) refl

pub test_at-refill : (custom : Bool) (names : Spellings) (tail : List ℕ) → AreAllowed names
    → test_at custom names (refill names ++ (codes "() == 0)" ++ tail)) ≡ if_at names (refill names ++ (codes "() == 0)" ++ tail))
test_at-refill false names tail allowed = refl
test_at-refill true names tail allowed = primitive_if_at-refill names tail allowed

pub primitive_if_at-end : (number : ℕ) (names : Spellings) (place : ℕ) (tail : List ℕ) → number < 2 ^ 64 → place < 2 ^ 64
    → primitive_if_at names (codes "YYLESSTHAN(1))" ++ goto_then number place tail) ≡ (IfEnd place, false, tail)
unfolding primitive_if_at
primitive_if_at-end number names place tail h k = rw (goto_block-goto number place tail h k, goto_tail-goto number place tail h k) refl

-- no letter of a spelling is a sign
no_sign : (sign letter : ℕ) → is_in_spelling sign ≡ false → is_in_spelling letter ≡ true → (letter == sign) ≡ false
no_sign sign letter lacks h = is_false (letter == sign) (λ e. false≢true (sym lacks ∙ subst (λ (at : ℕ). is_in_spelling at ≡ true) (eqb-true letter sign e) h))

first_spelled : (word tail : List ℕ) → IsSpelling word → is_in_spelling (byte_at (word ++ tail) 0) ≡ true
first_spelled [] tail h = absurd (h.0 refl)
first_spelled (letter ∷ word) tail h = h.1.0

-- behind the first letter of a spelling stands another one, or a parenthesis
second_spelled : (word rest : List ℕ) → IsSpelling word → (byte_at (word ++ 40 ∷ rest) 1 == 32) ≡ false
second_spelled [] rest h = absurd (h.0 refl)
second_spelled (letter ∷ []) rest h = refl
second_spelled (letter ∷ next ∷ word) rest h = no_sign 32 next refl h.1.1.0

pub primitive_if_at-need : (names : Spellings) (k : ℕ) (tail : List ℕ) → AreAllowed names → k < 2 ^ 64
    → primitive_if_at names (codes "YYLESSTHAN(" ++ (decimal k ++ (codes ")) " ++ (refill names ++ 40 ∷ (decimal k ++ (codes ");\n" ++ tail)))))) ≡ (Need k, false, tail)
unfolding primitive_if_at
primitive_if_at-need names k tail allowed hk =
    let call : List ℕ = refill names ++ 40 ∷ (decimal k ++ (codes ");\n" ++ tail)) in
    let spelled : EachLetter is_in_spelling (decimal k) = EachLetter-spelling (decimal k) (decimal_identifier k hk) in
    let first = first_spelled (refill names) (40 ∷ (decimal k ++ (codes ");\n" ++ tail))) allowed.refill in
    rw (
      behind-word is_in_spelling (decimal k) (codes ")) " ++ call) spelled,
      no_sign 60 (byte_at call 0) refl first,
      no_sign 61 (byte_at call 0) refl first,
      second_spelled (refill names) (decimal k ++ (codes ");\n" ++ tail)) allowed.refill,
      behind-word is_in_spelling (refill names) (40 ∷ (decimal k ++ (codes ");\n" ++ tail))) allowed.refill.1,
      behind-word is_in_spelling (decimal k) (codes ");\n" ++ tail) spelled,
      front-stop is_digit (decimal k) 41 (codes ") " ++ call) (decimal_digits k hk) refl,
      decimal_value k hk,
    ) refl
