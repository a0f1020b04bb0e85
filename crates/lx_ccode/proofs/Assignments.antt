-- Lines that assign: each is read as the statement that was written.
use Rattle.std.proofs.Common.{[], ◌++◌, ◌<◌, ◌^◌, ◌∙◌, ◌∷◌, ◌≡◌, Bool, List, ap, false, refl, sym, true, ℕ}
use Rattle.std.proofs.lemmas.Bool.{eqb-true, false≢true}
use Rattle.std.specs.Fmt.{decimal}
use Rattle.std.specs.Prelude.{◌==◌, ◌||◌, codes}
use Rattle.lx_base.specs.Letters.{EachLetter, begins_with, is_digit, is_in_identifier, is_in_spelling, is_register, equal_words}
use Rattle.lx_base.specs.Names.{AreAllowed, DoNotClash, IsTagName, Spellings, context_marker, current_unit, cursor, last_accept, marker, tag_prefix}
use Rattle.lx_ccode.specs.declared.piece.Stmt.TheVariants.{Accept, Back, Backup, Copy, Count, End, MCopy, Peek, Restore, Set, Skip, Tag, Unset}
use Rattle.lx_ccode.specs.Reading.{assigned, called, goto_at, history_of, is_context_marker, register_assigned, register_of, statement_at, test_at}
use Rattle.lx_ccode.specs.Registers.{history_text, is_context, register_by}
use Rattle.lx_ccode.proofs.Words.{EachLetter-append, EachLetter-identifier, EachLetter-spelling, argument-call, begins_with-entry, behind-stop, behind-word, callee-call, decimal_digits, decimal_identifier, decimal_value, drop-front, equal_words-false, equal_words-other, equal_words-self, front-stop, front-word, is_history_register-history, is_history_register-register, is_register-history, is_register-register, no_digit-history, no_digit-register, or-right, other-history, other-register}

-- ---- the shapes of a line

pub statement_at-assignment : (custom : Bool) (names : Spellings) (word source tail : List ℕ) → EachLetter is_in_spelling word → EachLetter is_in_spelling source
    → statement_at custom names (9 ∷ (word ++ 32 ∷ 61 ∷ 32 ∷ (source ++ 59 ∷ 10 ∷ tail))) ≡ ((assigned names word source).0, (assigned names word source).1, tail)
unfolding statement_at
statement_at-assignment custom names word source tail hw hr =
    rw (front-stop is_in_spelling word 32 (61 ∷ 32 ∷ (source ++ 59 ∷ 10 ∷ tail)) hw refl, behind-stop is_in_spelling word 32 (61 ∷ 32 ∷ (source ++ 59 ∷ 10 ∷ tail)) hw refl, front-stop is_in_spelling source 59 (10 ∷ tail) hr refl, behind-stop is_in_spelling source 59 (10 ∷ tail) hr refl) refl

pub statement_at-call : (names : Spellings) (name before tail : List ℕ) → EachLetter is_in_spelling name → EachLetter is_in_identifier before
    → statement_at false names (9 ∷ (name ++ 40 ∷ (before ++ 41 ∷ 59 ∷ 10 ∷ tail))) ≡ (called names name before, false, tail)
unfolding statement_at
statement_at-call names name before tail hg ha =
    rw (front-word is_in_spelling name (40 ∷ (before ++ 41 ∷ 59 ∷ 10 ∷ tail)) hg, behind-word is_in_spelling name (40 ∷ (before ++ 41 ∷ 59 ∷ 10 ∷ tail)) hg, front-word is_in_spelling before (41 ∷ 59 ∷ 10 ∷ tail) (EachLetter-spelling before ha), behind-word is_in_spelling before (41 ∷ 59 ∷ 10 ∷ tail) (EachLetter-spelling before ha), callee-call name before ha, argument-call name before ha) refl

pub statement_at-skip : (custom : Bool) (names : Spellings) (word tail : List ℕ) → EachLetter is_in_spelling word
    → statement_at custom names (9 ∷ 43 ∷ 43 ∷ (word ++ 59 ∷ 10 ∷ tail)) ≡ (Skip, false, tail)
unfolding statement_at
statement_at-skip custom names word tail hw = rw (behind-stop is_in_spelling word 59 (10 ∷ tail) hw refl) refl

pub statement_at-if : (custom : Bool) (names : Spellings) (b : List ℕ) → statement_at custom names (codes "\tif (" ++ b) ≡ test_at custom names b
unfolding statement_at
statement_at-if custom names b = refl

pub statement_at-goto : (custom : Bool) (names : Spellings) (c : ℕ) (b : List ℕ) → (c == 61) ≡ false → (c == 40) ≡ false
    → statement_at custom names (codes "\tgoto " ++ c ∷ b) ≡ goto_at names (c ∷ b)
unfolding statement_at
statement_at-goto custom names c b h k = rw (h, k) refl

-- ---- what stands on the left of `=`

-- a target that is none of the variables and groups: a register, a history or a tag
record IsOther (names : Spellings) (word : List ℕ) : Type 0 where
  current_unit : equal_words word (current_unit names) ≡ false
  last_accept : equal_words word (last_accept names) ≡ false
  marker : equal_words word (marker names) ≡ false
  cursor : equal_words word (cursor names) ≡ false
  groups : equal_words word (codes "yynmatch") ≡ false
  group_entry : begins_with (codes "yypmatch[") word ≡ false

assigned-other : (names : Spellings) (word source : List ℕ) → IsOther names word → assigned names word source ≡ register_assigned names word source
unfolding assigned
assigned-other names word source o = rw (o.current_unit, o.last_accept, o.marker, o.cursor, o.groups, o.group_entry) refl

other_context_marker : (names : Spellings) → DoNotClash names → IsOther names (context_marker names)
other_context_marker names clash = record {
  current_unit = equal_words-false (context_marker names) (current_unit names) clash.variables_differ.1.1.1.0.0;
  last_accept = equal_words-false (context_marker names) (last_accept names) clash.variables_differ.1.1.1.0.1.0;
  marker = equal_words-other (context_marker names) (marker names) clash.variables_differ.1.1.0.0;
  cursor = equal_words-other (context_marker names) (cursor names) clash.variables_differ.0.1.1.0;
  groups = equal_words-false (context_marker names) (codes "yynmatch") clash.variables_are_free.1.1.1.0.count;
  group_entry = clash.variables_are_free.1.1.1.0.group_entry;
}

other_register : (names : Spellings) (register : ℕ) → register < 2 ^ 64 → AreAllowed names → DoNotClash names
    → IsOther names (tag_prefix names ++ decimal register)
other_register names register h allowed clash = record {
  current_unit = equal_words-other (tag_prefix names ++ decimal register) (current_unit names) (other-register (current_unit names) (tag_prefix names) register h clash.variables_are_no_registers.1.1.1.1.0.0);
  last_accept = equal_words-other (tag_prefix names ++ decimal register) (last_accept names) (other-register (last_accept names) (tag_prefix names) register h clash.variables_are_no_registers.1.1.1.1.1.0.0);
  marker = equal_words-other (tag_prefix names ++ decimal register) (marker names) (other-register (marker names) (tag_prefix names) register h clash.variables_are_no_registers.1.1.0.0);
  cursor = equal_words-other (tag_prefix names ++ decimal register) (cursor names) (other-register (cursor names) (tag_prefix names) register h clash.variables_are_no_registers.0.0);
  groups = equal_words-other (tag_prefix names ++ decimal register) (codes "yynmatch") (no_digit-register (codes "yynmatch") (tag_prefix names) register h (refl, (refl, (refl, (refl, (refl, (refl, (refl, (refl, tt)))))))));
  group_entry = begins_with-entry (tag_prefix names ++ decimal register) (EachLetter-append is_in_identifier (tag_prefix names) (decimal register) (EachLetter-identifier (tag_prefix names) allowed.tag_prefix) (decimal_identifier register h));
}

other_history : (names : Spellings) (register : ℕ) → register < 2 ^ 64 → AreAllowed names → DoNotClash names
    → IsOther names (history_text names register)
other_history names register h allowed clash = record {
  current_unit = equal_words-other (history_text names register) (current_unit names) (other-history (current_unit names) (tag_prefix names) register h clash.variables_are_no_registers.1.1.1.1.0.1);
  last_accept = equal_words-other (history_text names register) (last_accept names) (other-history (last_accept names) (tag_prefix names) register h clash.variables_are_no_registers.1.1.1.1.1.0.1);
  marker = equal_words-other (history_text names register) (marker names) (other-history (marker names) (tag_prefix names) register h clash.variables_are_no_registers.1.1.0.1);
  cursor = equal_words-other (history_text names register) (cursor names) (other-history (cursor names) (tag_prefix names) register h clash.variables_are_no_registers.0.1);
  groups = equal_words-other (history_text names register) (codes "yynmatch") (no_digit-history (codes "yynmatch") (tag_prefix names) register h (refl, (refl, (refl, (refl, (refl, (refl, (refl, (refl, tt)))))))));
  group_entry = begins_with-entry (history_text names register) (EachLetter-append is_in_identifier (tag_prefix names) (109 ∷ decimal register) (EachLetter-identifier (tag_prefix names) allowed.tag_prefix) (refl, decimal_identifier register h));
}

other_tag : (names : Spellings) (word : List ℕ) → IsTagName names word → IsOther names word
other_tag names word user = record {
  current_unit = equal_words-false word (current_unit names) user.no_variable.1.1.1.1.0;
  last_accept = equal_words-false word (last_accept names) user.no_variable.1.1.1.1.1.0;
  marker = equal_words-false word (marker names) user.no_variable.1.1.0;
  cursor = equal_words-false word (cursor names) user.no_variable.0;
  groups = equal_words-false word (codes "yynmatch") user.not_count;
  group_entry = begins_with-entry word (EachLetter-identifier word user.identifier);
}

other_register_by : (names : Spellings) (flag : Bool) (register : ℕ) → register < 2 ^ 64 → AreAllowed names → DoNotClash names
    → IsOther names (register_by names flag register)
other_register_by names true register h allowed clash = other_context_marker names clash
other_register_by names false register h allowed clash = other_register names register h allowed clash

-- ---- registers

-- what is known of register 1 where it is spelled YYCTXMARKER
pub is_context-true : (ctx : Bool) (register : ℕ) → is_context ctx register ≡ true → register ≡ 1
is_context-true true register h = eqb-true register 1 h
is_context-true false register h = absurd cc

pub register_spelling : (names : Spellings) (flag : Bool) (register : ℕ) → register < 2 ^ 64 → AreAllowed names
    → EachLetter is_in_spelling (register_by names flag register)
register_spelling names true register h allowed = allowed.context_marker.1
register_spelling names false register h allowed = EachLetter-spelling (tag_prefix names ++ decimal register) (EachLetter-append is_in_identifier (tag_prefix names) (decimal register) (EachLetter-identifier (tag_prefix names) allowed.tag_prefix) (decimal_identifier register h))

pub history_identifier : (names : Spellings) (register : ℕ) → register < 2 ^ 64 → AreAllowed names
    → EachLetter is_in_identifier (history_text names register)
history_identifier names register h allowed = EachLetter-append is_in_identifier (tag_prefix names) (109 ∷ decimal register) (EachLetter-identifier (tag_prefix names) allowed.tag_prefix) (refl, decimal_identifier register h)

register_no_context : (names : Spellings) (register : ℕ) → register < 2 ^ 64 → DoNotClash names
    → equal_words (tag_prefix names ++ decimal register) (context_marker names) ≡ false
register_no_context names register h clash = equal_words-other (tag_prefix names ++ decimal register) (context_marker names) (other-register (context_marker names) (tag_prefix names) register h clash.variables_are_no_registers.1.1.1.0.0)

history_no_context : (names : Spellings) (register : ℕ) → register < 2 ^ 64 → DoNotClash names
    → equal_words (history_text names register) (context_marker names) ≡ false
history_no_context names register h clash = equal_words-other (history_text names register) (context_marker names) (other-history (context_marker names) (tag_prefix names) register h clash.variables_are_no_registers.1.1.1.0.1)

pub is_context_marker-register : (names : Spellings) (flag : Bool) (register : ℕ) → register < 2 ^ 64 → DoNotClash names
    → is_context_marker names (register_by names flag register) ≡ flag
is_context_marker-register names true register h clash = equal_words-self (context_marker names)
is_context_marker-register names false register h clash = register_no_context names register h clash

pub register_of-register : (names : Spellings) (flag : Bool) (register : ℕ) → register < 2 ^ 64 → DoNotClash names → (flag ≡ true → register ≡ 1)
    → register_of names (register_by names flag register) ≡ register
unfolding register_of
register_of-register names true register h clash one = rw (equal_words-self (context_marker names)) (sym (one refl))
register_of-register names false register h clash one = rw (register_no_context names register h clash, drop-front (tag_prefix names) (decimal register)) (decimal_value register h)

pub history_of-history : (names : Spellings) (register : ℕ) → register < 2 ^ 64 → history_of names (history_text names register) ≡ register
unfolding history_of
history_of-history names register h = rw (drop-front (tag_prefix names) (109 ∷ decimal register)) (decimal_value register h)

-- the spelling of a register is taken for one
names_register : (names : Spellings) (flag : Bool) (register : ℕ) → register < 2 ^ 64
    → (is_context_marker names (register_by names flag register) || is_register (tag_prefix names) (register_by names flag register)) ≡ true
names_register names true register h = rw (equal_words-self (context_marker names)) refl
names_register names false register h = or-right (is_context_marker names (tag_prefix names ++ decimal register)) (is_register (tag_prefix names) (tag_prefix names ++ decimal register)) (is_register-register (tag_prefix names) register h)

register_no_cursor : (names : Spellings) (flag : Bool) (register : ℕ) → register < 2 ^ 64 → DoNotClash names
    → equal_words (register_by names flag register) (cursor names) ≡ false
register_no_cursor names true register h clash = equal_words-other (context_marker names) (cursor names) clash.variables_differ.0.1.1.0
register_no_cursor names false register h clash = equal_words-other (tag_prefix names ++ decimal register) (cursor names) (other-register (cursor names) (tag_prefix names) register h clash.variables_are_no_registers.0.0)

register_no_marker : (names : Spellings) (flag : Bool) (register : ℕ) → register < 2 ^ 64 → DoNotClash names
    → equal_words (register_by names flag register) (marker names) ≡ false
register_no_marker names true register h clash = equal_words-other (context_marker names) (marker names) clash.variables_differ.1.1.0.0
register_no_marker names false register h clash = equal_words-other (tag_prefix names ++ decimal register) (marker names) (other-register (marker names) (tag_prefix names) register h clash.variables_are_no_registers.1.1.0.0)

register_no_null : (names : Spellings) (flag : Bool) (register : ℕ) → register < 2 ^ 64 → DoNotClash names
    → equal_words (register_by names flag register) (codes "NULL") ≡ false
register_no_null names true register h clash = equal_words-false (context_marker names) (codes "NULL") clash.variables_are_free.1.1.1.0.null
register_no_null names false register h clash = equal_words-other (tag_prefix names ++ decimal register) (codes "NULL") (no_digit-register (codes "NULL") (tag_prefix names) register h (refl, (refl, (refl, (refl, tt)))))

-- ---- assignments

pub assigned-peek : (names : Spellings) (source : List ℕ) → assigned names (current_unit names) source ≡ (Peek, false)
unfolding assigned
assigned-peek names source = rw (equal_words-self (current_unit names)) refl

pub assigned-accept : (names : Spellings) (a : ℕ) → a < 2 ^ 64 → DoNotClash names → assigned names (last_accept names) (decimal a) ≡ (Accept a, false)
unfolding assigned
assigned-accept names a h clash = rw (equal_words-other (last_accept names) (current_unit names) clash.variables_differ.1.1.1.1.0.0, equal_words-self (last_accept names), decimal_value a h) refl

pub assigned-backup : (names : Spellings) (source : List ℕ) → DoNotClash names → assigned names (marker names) source ≡ (Backup, false)
unfolding assigned
assigned-backup names source clash = rw (equal_words-false (marker names) (current_unit names) clash.variables_differ.1.1.0.1.0, equal_words-false (marker names) (last_accept names) clash.variables_differ.1.1.0.1.1.0, equal_words-self (marker names)) refl

pub assigned-restore : (names : Spellings) → DoNotClash names → assigned names (cursor names) (marker names) ≡ (Restore, false)
unfolding assigned
assigned-restore names clash = rw (equal_words-false (cursor names) (current_unit names) clash.variables_differ.0.1.1.1.0, equal_words-false (cursor names) (last_accept names) clash.variables_differ.0.1.1.1.1.0, equal_words-false (cursor names) (marker names) clash.variables_differ.0.1.0, equal_words-self (cursor names), equal_words-self (marker names)) refl

pub assigned-back : (names : Spellings) (flag : Bool) (register : ℕ) → register < 2 ^ 64 → DoNotClash names → (flag ≡ true → register ≡ 1)
    → assigned names (cursor names) (register_by names flag register) ≡ (Back register, flag)
unfolding assigned
assigned-back names flag register h clash one = rw (equal_words-false (cursor names) (current_unit names) clash.variables_differ.0.1.1.1.0, equal_words-false (cursor names) (last_accept names) clash.variables_differ.0.1.1.1.1.0, equal_words-false (cursor names) (marker names) clash.variables_differ.0.1.0, equal_words-self (cursor names), register_no_marker names flag register h clash, register_of-register names flag register h clash one, is_context_marker-register names flag register h clash) refl

pub assigned-count : (names : Spellings) (k : ℕ) → k < 2 ^ 64 → DoNotClash names → assigned names (codes "yynmatch") (decimal k) ≡ (Count k, false)
unfolding assigned
assigned-count names k h clash = rw (equal_words-other (codes "yynmatch") (current_unit names) clash.variables_are_free.1.1.1.1.0.count, equal_words-other (codes "yynmatch") (last_accept names) clash.variables_are_free.1.1.1.1.1.0.count, equal_words-other (codes "yynmatch") (marker names) clash.variables_are_free.1.1.0.count, equal_words-other (codes "yynmatch") (cursor names) clash.variables_are_free.0.count, decimal_value k h) refl

entry_no_other : (front_word word : List ℕ) → begins_with (codes "yypmatch[") front_word ≡ false
    → equal_words (codes "yypmatch[" ++ word) front_word ≡ false
entry_no_other front_word word h = equal_words-other (codes "yypmatch[" ++ word) front_word (λ e. false≢true (sym h ∙ ap (begins_with (codes "yypmatch[")) e))

pub assigned-end : (names : Spellings) (flag : Bool) (index register : ℕ) → index < 2 ^ 64 → register < 2 ^ 64 → DoNotClash names
    → (flag ≡ true → register ≡ 1)
    → assigned names (codes "yypmatch[" ++ (decimal index ++ 93 ∷ [])) (register_by names flag register) ≡ (End index register, flag)
unfolding assigned
assigned-end names flag index register hi h clash one =
    let word : List ℕ = decimal index ++ 93 ∷ [] in
    rw (
      entry_no_other (current_unit names) word clash.variables_are_free.1.1.1.1.0.group_entry,
      entry_no_other (last_accept names) word clash.variables_are_free.1.1.1.1.1.0.group_entry,
      entry_no_other (marker names) word clash.variables_are_free.1.1.0.group_entry,
      entry_no_other (cursor names) word clash.variables_are_free.0.group_entry,
      front-stop is_digit (decimal index) 93 [] (decimal_digits index hi) refl,
      decimal_value index hi,
      register_of-register names flag register h clash one,
      is_context_marker-register names flag register h clash,
    ) refl

pub assigned-set : (names : Spellings) (flag : Bool) (register : ℕ) → register < 2 ^ 64 → AreAllowed names → DoNotClash names
    → (flag ≡ true → register ≡ 1) → assigned names (register_by names flag register) (cursor names) ≡ (Set register, flag)
unfolding register_assigned
assigned-set names flag register h allowed clash one = assigned-other names (register_by names flag register) (cursor names) (other_register_by names flag register h allowed clash)
    ∙ rw (names_register names flag register h, equal_words-self (cursor names), register_of-register names flag register h clash one, is_context_marker-register names flag register h clash) refl

pub assigned-unset : (names : Spellings) (flag : Bool) (register : ℕ) → register < 2 ^ 64 → AreAllowed names → DoNotClash names
    → (flag ≡ true → register ≡ 1) → assigned names (register_by names flag register) (codes "NULL") ≡ (Unset register, flag)
unfolding register_assigned
assigned-unset names flag register h allowed clash one = assigned-other names (register_by names flag register) (codes "NULL") (other_register_by names flag register h allowed clash)
    ∙ rw (names_register names flag register h, equal_words-other (codes "NULL") (cursor names) clash.variables_are_free.0.null, register_of-register names flag register h clash one, is_context_marker-register names flag register h clash) refl

pub assigned-copy : (names : Spellings) (flag c : Bool) (register from : ℕ) → register < 2 ^ 64 → from < 2 ^ 64 → AreAllowed names → DoNotClash names
    → (flag ≡ true → register ≡ 1) → (c ≡ true → from ≡ 1)
    → assigned names (register_by names flag register) (register_by names c from) ≡ (Copy register from, flag || c)
unfolding register_assigned
assigned-copy names flag c register from h hj allowed clash one other = assigned-other names (register_by names flag register) (register_by names c from) (other_register_by names flag register h allowed clash)
    ∙ rw (names_register names flag register h, register_no_cursor names c from hj clash, register_no_null names c from hj clash, register_of-register names flag register h clash one, register_of-register names c from hj clash other, is_context_marker-register names flag register h clash, is_context_marker-register names c from hj clash) refl

pub assigned-mcopy : (names : Spellings) (register from : ℕ) → register < 2 ^ 64 → from < 2 ^ 64 → AreAllowed names → DoNotClash names
    → assigned names (history_text names register) (history_text names from) ≡ (MCopy register from, false)
unfolding register_assigned
assigned-mcopy names register from h hj allowed clash = assigned-other names (history_text names register) (history_text names from) (other_history names register h allowed clash)
    ∙ rw (history_no_context names register h clash, is_register-history (tag_prefix names) register, is_history_register-history (tag_prefix names) register h, history_of-history names register h, history_of-history names from hj) refl

pub assigned-mtag : (names : Spellings) (word : List ℕ) (register : ℕ) → register < 2 ^ 64 → DoNotClash names → IsTagName names word
    → assigned names word (history_text names register) ≡ (Tag word true register, false)
unfolding register_assigned
assigned-mtag names word register h clash user = assigned-other names word (history_text names register) (other_tag names word user)
    ∙ rw (equal_words-false word (context_marker names) user.no_variable.1.1.1.0, user.no_register.0, user.no_register.1, history_no_context names register h clash, is_history_register-history (tag_prefix names) register h, history_of-history names register h) refl

pub assigned-tag : (names : Spellings) (flag : Bool) (word : List ℕ) (register : ℕ) → register < 2 ^ 64 → DoNotClash names → IsTagName names word
    → (flag ≡ true → register ≡ 1) → assigned names word (register_by names flag register) ≡ (Tag word false register, flag)
unfolding register_assigned
assigned-tag names true word register h clash user one = assigned-other names word (context_marker names) (other_tag names word user)
    ∙ rw (equal_words-false word (context_marker names) user.no_variable.1.1.1.0, user.no_register.0, user.no_register.1, register_of-register names true register h clash one, equal_words-self (context_marker names)) refl
assigned-tag names false word register h clash user one = assigned-other names word (tag_prefix names ++ decimal register) (other_tag names word user)
    ∙ rw (equal_words-false word (context_marker names) user.no_variable.1.1.1.0, user.no_register.0, user.no_register.1, register_no_context names register h clash, is_history_register-register (tag_prefix names) register h, register_of-register names false register h clash one) refl
