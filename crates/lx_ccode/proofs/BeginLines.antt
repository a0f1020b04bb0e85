-- No begin mark begins in the lines of a piece, from those of its statements to that of its spellings.
use Rattle.std.proofs.Common.{[], ◌%◌, ◌*◌, ◌++◌, ◌/◌, ◌<◌, ◌^◌, ◌∷◌, ◌≡◌, Bool, List, None, Option, Some, arith, false, length, refl, subst, suc, sym, true, zero, ℕ}
use Rattle.std.specs.Fmt.{decimal}
use Rattle.std.proofs.lemmas.Bool.{eqb-true, false≢true}
use Rattle.std.specs.List.{AllByRecursion}
use Rattle.std.specs.Prelude.{◌==◌, codes, if◌then◌else◌, nat_lt}
use Rattle.lx_base.specs.Letters.{EachLetter, IsIdentifier, begins_with}
use Rattle.lx_base.specs.Names.{AreAllowed, Spellings, append_negative, append_offset, condition_prefix, context_marker, current_unit, cursor, get_condition, get_state, label_prefix, last_accept, limit, marker, refill, set_condition, set_state, tag_prefix, unit_type}
use Rattle.lx_base.specs.Text.{joined}
use Rattle.lx_ccode.specs.Marks.{HasNoBegin, IsUnmarked, IsUnmarkedLine, begins_piece}
use Rattle.lx_ccode.specs.Registers.{history_text, is_context, register_by, register_text}
use Rattle.lx_ccode.specs.Text.{block_then, custom_then, escaped, goto_then, group_text, hexadecimal, line_by, line_then, pointer_then, set_test_then, statement_then, statements_then, switch_cases_then, switch_then, units_then}
use Rattle.lx_ccode.specs.Validity.{EachHasSpelling, HasSpelling, IsByte, IsLine, IsLong, IsShort, IsSwitchCase}
use Rattle.lx_ccode.specs.declared.piece.LineMark.{LineMark}
use Rattle.lx_ccode.specs.declared.piece.SwitchCase.{SwitchCase}
use Rattle.lx_ccode.specs.declared.piece.Stmt.{Stmt}
use Rattle.lx_ccode.specs.declared.piece.Stmt.TheVariants.{Peek, Skip, Backup, Restore, Accept, Set, Unset, Copy, MSet, MUnset, MCopy, IfUnit, IfIs, IfSet, IfAccept, IfEnd, State, Need, Try, Cond, Tag, Count, End, Back, Switch, Goto, Leave, Code, Jump}
use Rattle.lx_ccode.specs.Wording.{Wording}
use Rattle.lx_ccode.proofs.BeginMarks.{EachPasses, HasNoBegin-stop, Passes, Passes-all, Passes-joined, Passes-text, Passes-then, decimal_lacks, hexadecimal_lacks, identifier_lacks, is_no_slash, none_begins, none_begins-word, spelling_lacks, words_lack}
use Rattle.lx_ccode.proofs.ReadTests.{mask_tells}
use Rattle.lx_ccode.proofs.Tails.{case_words, last_words, switch_words, unit_words}
use Rattle.lx_ccode.proofs.Words.{EachLetter-append}

-- in none of the spellings of a statement a begin mark begins
pub record NamesPass (names : Spellings) : Type 0 where
  pub cursor : none_begins (cursor names) ≡ true
  pub limit : none_begins (limit names) ≡ true
  pub marker : none_begins (marker names) ≡ true
  pub refill : none_begins (refill names) ≡ true
  pub get_state : none_begins (get_state names) ≡ true
  pub set_state : none_begins (set_state names) ≡ true
  pub get_condition : none_begins (get_condition names) ≡ true
  pub set_condition : none_begins (set_condition names) ≡ true
  pub append_offset : none_begins (append_offset names) ≡ true
  pub append_negative : none_begins (append_negative names) ≡ true
  pub unit_type : none_begins (unit_type names) ≡ true
  pub current_unit : none_begins (current_unit names) ≡ true
  pub last_accept : none_begins (last_accept names) ≡ true
  pub context_lacks : EachLetter is_no_slash (context_marker names)
  pub tag_lacks : EachLetter is_no_slash (tag_prefix names)
  pub label_lacks : EachLetter is_no_slash (label_prefix names)
  pub condition_lacks : EachLetter is_no_slash (condition_prefix names)

pub names_pass : (names : Spellings) → AreAllowed names → NamesPass names
names_pass names allowed = record {
  cursor = none_begins-word (cursor names) (spelling_lacks (cursor names) allowed.cursor);
  limit = none_begins-word (limit names) (spelling_lacks (limit names) allowed.limit);
  marker = none_begins-word (marker names) (spelling_lacks (marker names) allowed.marker);
  refill = none_begins-word (refill names) (spelling_lacks (refill names) allowed.refill);
  get_state = none_begins-word (get_state names) (spelling_lacks (get_state names) allowed.get_state);
  set_state = none_begins-word (set_state names) (spelling_lacks (set_state names) allowed.set_state);
  get_condition = none_begins-word (get_condition names) (spelling_lacks (get_condition names) allowed.get_condition);
  set_condition = none_begins-word (set_condition names) (spelling_lacks (set_condition names) allowed.set_condition);
  append_offset = none_begins-word (append_offset names) (spelling_lacks (append_offset names) allowed.append_offset);
  append_negative = none_begins-word (append_negative names) (spelling_lacks (append_negative names) allowed.append_negative);
  unit_type = none_begins-word (unit_type names) (words_lack true (unit_type names) allowed.unit_type);
  current_unit = none_begins-word (current_unit names) (identifier_lacks (current_unit names) allowed.current_unit);
  last_accept = none_begins-word (last_accept names) (identifier_lacks (last_accept names) allowed.last_accept);
  context_lacks = spelling_lacks (context_marker names) allowed.context_marker;
  tag_lacks = identifier_lacks (tag_prefix names) allowed.tag_prefix;
  label_lacks = identifier_lacks (label_prefix names) allowed.label_prefix;
  condition_lacks = identifier_lacks (condition_prefix names) allowed.condition_prefix;
}

pub number_passes : (number : ℕ) → number < 2 ^ 64 → none_begins (decimal number) ≡ true
number_passes number h = none_begins-word (decimal number) (decimal_lacks number h)

pub short_passes : (number : ℕ) → IsShort number → none_begins (decimal number) ≡ true
short_passes number h = number_passes number (omega (arith, h))

pub hexadecimal_passes : (number : ℕ) → IsShort number → none_begins (hexadecimal number) ≡ true
hexadecimal_passes number h = none_begins-word (hexadecimal number) (hexadecimal_lacks number (omega (arith, h)))

pub identifier_passes : (word : List ℕ) → IsIdentifier word → none_begins word ≡ true
identifier_passes word h = none_begins-word word (identifier_lacks word h)

pub prefixed_passes : (prefix word : List ℕ) → EachLetter is_no_slash prefix → IsIdentifier word → none_begins (prefix ++ word) ≡ true
prefixed_passes prefix word h k = none_begins-word (prefix ++ word) (EachLetter-append is_no_slash prefix word h (identifier_lacks word k))

pub register_passes : (names : Spellings) (ctx : Bool) (register : ℕ) → NamesPass names → IsShort register → none_begins (register_text names ctx register) ≡ true
register_passes names ctx register pass h = by (is_context ctx register)
  where
    by : (as_context : Bool) → none_begins (register_by names as_context register) ≡ true
    by true = none_begins-word (context_marker names) pass.context_lacks
    by false = none_begins-word (tag_prefix names ++ decimal register)
        (EachLetter-append is_no_slash (tag_prefix names) (decimal register) pass.tag_lacks (decimal_lacks register (omega (arith, h))))

pub history_passes : (names : Spellings) (history : ℕ) → NamesPass names → IsShort history → none_begins (history_text names history) ≡ true
history_passes names history pass h = none_begins-word (history_text names history)
    (EachLetter-append is_no_slash (tag_prefix names) (109 ∷ decimal history) pass.tag_lacks (refl, decimal_lacks history (omega (arith, h))))

pub block_passes : (number block : ℕ) (behind : List ℕ) → IsShort number → IsLong block → Passes (block_then number block behind) behind
block_passes number block behind h k =
    Passes-joined (codes "yy" ∷ decimal number ∷ codes "_" ∷ decimal block ∷ []) behind (refl, (short_passes number h, (refl, (number_passes block k, tt))))

pub goto_passes : (number block : ℕ) (behind : List ℕ) → IsShort number → IsLong block → Passes (goto_then number block behind) behind
goto_passes number block behind h k =
    Passes-joined (codes " goto yy" ∷ decimal number ∷ codes "_" ∷ decimal block ∷ codes ";\n" ∷ []) behind
    (refl, (short_passes number h, (refl, (number_passes block k, (refl, tt)))))

-- a jump behind a test
jump_passes : (words : List (List ℕ)) (number block : ℕ) (behind : List ℕ) → EachPasses words → IsShort number → IsLong block
    → Passes (joined words (goto_then number block behind)) behind
jump_passes words number block behind pass h k =
    Passes-then (joined words (goto_then number block behind)) (goto_then number block behind) behind
    (Passes-joined words (goto_then number block behind) pass) (goto_passes number block behind h k)

-- ---- tests of sets

-- a number of more than one digit
long_passes : (number : ℕ) → number < 2 ^ 64 → none_begins (hexadecimal number) ≡ true
long_passes number h = none_begins-word (hexadecimal number) (hexadecimal_lacks number h)

group_passes : (group : ℕ) → 256 * group < 2 ^ 64 → none_begins (group_text group) ≡ true
group_passes zero h = refl
group_passes (suc group) h =
    none_begins-word (group_text (suc group)) (EachLetter-append is_no_slash (codes "0x") (hexadecimal (256 * suc group) ++ codes " + ") (refl, (refl, tt))
    (EachLetter-append is_no_slash (hexadecimal (256 * suc group)) (codes " + ") (hexadecimal_lacks (256 * suc group) h) (refl, (refl, (refl, tt)))))

set_passes : (wide : Bool) (wording : Wording) (set block : ℕ) (behind : List ℕ) → IsShort wording.number → NamesPass wording.names → IsShort set → IsLong block
    → Passes (set_test_then wide wording set block behind) behind
set_passes wide wording set block behind h pass k l = by wide where
  group : none_begins (group_text (set / 8)) ≡ true
  group = group_passes (set / 8) (omega (arith, k))

  mask : none_begins (hexadecimal (2 ^ (set % 8))) ≡ true
  mask = (let small = (mask_tells (set % 8) (omega arith)).1 in long_passes (2 ^ (set % 8)) (omega (arith, small)))

  by : (wide : Bool) → Passes (set_test_then wide wording set block behind) behind
  by false = jump_passes (codes "\tif (yybm[" ∷ group_text (set / 8) ∷ current_unit wording.names ∷ codes "] & 0x" ∷ hexadecimal (2 ^ (set % 8)) ∷ codes ")" ∷ []) wording.number block behind
      (refl, (group, (pass.current_unit, (refl, (mask, (refl, tt)))))) h l
  by true = jump_passes (codes "\tif (" ∷ current_unit wording.names ∷ codes " <= 0xFF && (yybm[" ∷ group_text (set / 8) ∷ current_unit wording.names ∷ codes "] & 0x" ∷ hexadecimal (2 ^ (set % 8)) ∷ codes "))" ∷ []) wording.number block behind
      (refl, (pass.current_unit, (refl, (group, (pass.current_unit, (refl, (mask, (refl, tt)))))))) h l

-- ---- switches over units

units_pass : (units behind : List ℕ) → AllByRecursion IsByte units → Passes (units_then units behind) behind
units_pass [] behind each = Passes-all behind
units_pass (unit ∷ units) behind each =
    let small : unit < 256 = each.0 in
    Passes-then (units_then (unit ∷ units) behind) (units_then units behind) behind
    (Passes-joined (unit_words unit) (units_then units behind) (refl, (long_passes unit (omega (arith, small)), (refl, tt))))
    (units_pass units behind each.1)

switch_cases_pass : (number : ℕ) (cases : List SwitchCase) (behind : List ℕ) → IsShort number → AllByRecursion IsSwitchCase cases
    → Passes (switch_cases_then number cases behind) behind
switch_cases_pass number [] behind h each = Passes-all behind
switch_cases_pass number (case ∷ cases) behind h each =
    let others : List ℕ = switch_cases_then number cases behind in
    let end : List ℕ = joined (case_words number case.block) others in
    Passes-then (switch_cases_then number (case ∷ cases) behind) (units_then case.units end) behind
    (Passes-joined (codes "\t" ∷ []) (units_then case.units end) (refl, tt))
    (Passes-then (units_then case.units end) end behind (units_pass case.units end each.0.bytes)
    (Passes-then end others behind
    (Passes-joined (case_words number case.block) others (refl, (short_passes number h, (refl, (number_passes case.block each.0.block, (refl, tt))))))
    (switch_cases_pass number cases behind h each.1)))

switch_passes : (wording : Wording) (cases : List SwitchCase) (last : ℕ) (behind : List ℕ) → IsShort wording.number → NamesPass wording.names
    → AllByRecursion IsSwitchCase cases → IsLong last → Passes (switch_then wording cases last behind) behind
switch_passes wording cases last behind h pass each l =
    let end : List ℕ = joined (last_words wording.number last) behind in
    let text : List ℕ = switch_cases_then wording.number cases end in
    Passes-then (switch_then wording cases last behind) text behind (Passes-joined (switch_words wording) text (refl, (pass.current_unit, (refl, tt))))
    (Passes-then text end behind (switch_cases_pass wording.number cases end h each)
    (Passes-joined (last_words wording.number last) behind (refl, (short_passes wording.number h, (refl, (number_passes last l, (refl, tt)))))))

pub line_passes : (line : Option LineMark) (behind : List ℕ) → IsLine line → IsUnmarkedLine line → Passes (line_then line behind) behind
line_passes None behind h k = Passes-all behind
line_passes (Some mark) behind h k = Passes-then (line_then (Some mark) behind) (escaped mark.file ++ (codes "\"\n" ++ behind)) behind
    (Passes-joined (codes "#line " ∷ decimal mark.line ∷ codes " \"" ∷ []) (escaped mark.file ++ (codes "\"\n" ++ behind)) (refl, (short_passes mark.line h, (refl, tt))))
    (Passes-then (escaped mark.file ++ (codes "\"\n" ++ behind)) (codes "\"\n" ++ behind) behind
    (Passes-text (escaped mark.file) (codes "\"\n" ++ behind) (HasNoBegin-stop 34 (escaped mark.file) [] (codes "\n" ++ behind) refl k))
    (Passes-joined (codes "\"\n" ∷ []) behind (refl, tt)))

-- the number of a rule and the length of its action, up to the slash of the mark before it
action_passes : (rule : ℕ) (action behind : List ℕ) → IsShort rule → IsShort (length action) → begins_with (codes "{") action ≡ true → HasNoBegin action (codes "\n")
    → Passes (joined (codes "\t/*!code:re2c " ∷ decimal rule ∷ codes " " ∷ decimal (length action) ∷ codes "*/" ∷ action ∷ codes "\n" ∷ []) behind) behind
action_passes rule [] behind h k braced none = absurd (false≢true braced)
action_passes rule (letter ∷ action) behind h k braced none =
    Passes-then (joined (codes "\t/*!code:re2c " ∷ decimal rule ∷ codes " " ∷ decimal (length (letter ∷ action)) ∷ codes "*/" ∷ (letter ∷ action) ∷ codes "\n" ∷ []) behind) (codes "*/" ++ ((letter ∷ action) ++ (codes "\n" ++ behind))) behind
    (Passes-joined (codes "\t/*!code:re2c " ∷ decimal rule ∷ codes " " ∷ decimal (length (letter ∷ action)) ∷ []) (codes "*/" ++ ((letter ∷ action) ++ (codes "\n" ++ behind))) (refl, (short_passes rule h, (refl, (short_passes (length (letter ∷ action)) k, tt)))))
    (Passes-then (codes "*/" ++ ((letter ∷ action) ++ (codes "\n" ++ behind))) ((letter ∷ action) ++ (codes "\n" ++ behind)) behind
    (Passes-text (codes "*/") ((letter ∷ action) ++ (codes "\n" ++ behind)) (refl, (no_mark, tt)))
    (Passes-then ((letter ∷ action) ++ (codes "\n" ++ behind)) (codes "\n" ++ behind) behind
    (Passes-text (letter ∷ action) (codes "\n" ++ behind) (HasNoBegin-stop 10 (letter ∷ action) [] behind refl none))
    (Passes-joined (codes "\n" ∷ []) behind (refl, tt))))
  where
    brace : (flag : Bool) → (123 == letter) ≡ flag → (if flag then true else false) ≡ true → letter ≡ 123
    brace true is e = sym (eqb-true 123 letter is)
    brace false is e = absurd (false≢true e)

    no_mark : begins_piece (47 ∷ letter ∷ action ++ (codes "\n" ++ behind)) ≡ false
    no_mark = subst (λ (at : ℕ). begins_piece (47 ∷ at ∷ action ++ (codes "\n" ++ behind)) ≡ false) (sym (brace (123 == letter) refl braced)) refl

-- the line of an action
abbrev action_then : (rule : ℕ) (action behind : List ℕ) → List ℕ
action_then rule action behind =
    joined (codes "\t/*!code:re2c " ∷ decimal rule ∷ codes " " ∷ decimal (length action) ∷ codes "*/" ∷ action ∷ codes "\n" ∷ []) behind

pointer_passes : (wording : Wording) (statement : Stmt) (behind : List ℕ) → IsShort wording.number → NamesPass wording.names
    → HasSpelling wording.names statement → IsUnmarked statement → Passes (pointer_then wording statement behind) behind
pointer_passes wording Peek behind h pass k free = Passes-joined (codes "\t" ∷ current_unit wording.names ∷ codes " = *" ∷ cursor wording.names ∷ codes ";\n" ∷ []) behind
    (refl, (pass.current_unit, (refl, (pass.cursor, (refl, tt)))))
pointer_passes wording Skip behind h pass k free = Passes-joined (codes "\t++" ∷ cursor wording.names ∷ codes ";\n" ∷ []) behind
    (refl, (pass.cursor, (refl, tt)))
pointer_passes wording Backup behind h pass k free = Passes-joined (codes "\t" ∷ marker wording.names ∷ codes " = " ∷ cursor wording.names ∷ codes ";\n" ∷ []) behind
    (refl, (pass.marker, (refl, (pass.cursor, (refl, tt)))))
pointer_passes wording Restore behind h pass k free = Passes-joined (codes "\t" ∷ cursor wording.names ∷ codes " = " ∷ marker wording.names ∷ codes ";\n" ∷ []) behind
    (refl, (pass.cursor, (refl, (pass.marker, (refl, tt)))))
pointer_passes wording (Accept accept) behind h pass k free = Passes-joined (codes "\t" ∷ last_accept wording.names ∷ codes " = " ∷ decimal accept ∷ codes ";\n" ∷ []) behind
    (refl, (pass.last_accept, (refl, (short_passes accept k, (refl, tt)))))
pointer_passes wording (Set register) behind h pass k free = Passes-joined (codes "\t" ∷ register_text wording.names wording.ctx register ∷ codes " = " ∷ cursor wording.names ∷ codes ";\n" ∷ []) behind
    (refl, (register_passes wording.names wording.ctx register pass k.1, (refl, (pass.cursor, (refl, tt)))))
pointer_passes wording (Unset register) behind h pass k free = Passes-joined (codes "\t" ∷ register_text wording.names wording.ctx register ∷ codes " = NULL;\n" ∷ []) behind
    (refl, (register_passes wording.names wording.ctx register pass k.1, (refl, tt)))
pointer_passes wording (Copy register source) behind h pass k free = Passes-joined (codes "\t" ∷ register_text wording.names wording.ctx register ∷ codes " = " ∷ register_text wording.names wording.ctx source ∷ codes ";\n" ∷ []) behind
    (refl, (register_passes wording.names wording.ctx register pass k.0.1, (refl, (register_passes wording.names wording.ctx source pass k.1.1, (refl, tt)))))
pointer_passes wording (MSet history) behind h pass k free = Passes-joined (codes "\t" ∷ append_offset wording.names ∷ codes "(" ∷ history_text wording.names history ∷ codes ");\n" ∷ []) behind
    (refl, (pass.append_offset, (refl, (history_passes wording.names history pass k, (refl, tt)))))
pointer_passes wording (MUnset history) behind h pass k free = Passes-joined (codes "\t" ∷ append_negative wording.names ∷ codes "(" ∷ history_text wording.names history ∷ codes ");\n" ∷ []) behind
    (refl, (pass.append_negative, (refl, (history_passes wording.names history pass k, (refl, tt)))))
pointer_passes wording (MCopy history source) behind h pass k free = Passes-joined (codes "\t" ∷ history_text wording.names history ∷ codes " = " ∷ history_text wording.names source ∷ codes ";\n" ∷ []) behind
    (refl, (history_passes wording.names history pass k.0, (refl, (history_passes wording.names source pass k.1, (refl, tt)))))
pointer_passes wording (IfUnit greatest block) behind h pass k free = jump_passes (codes "\tif (" ∷ current_unit wording.names ∷ codes " <= 0x" ∷ hexadecimal greatest ∷ codes ")" ∷ []) wording.number block behind
    (refl, (pass.current_unit, (refl, (hexadecimal_passes greatest k.0, (refl, tt))))) h k.1
pointer_passes wording (IfIs unit block) behind h pass k free = jump_passes (codes "\tif (" ∷ current_unit wording.names ∷ codes " == 0x" ∷ hexadecimal unit ∷ codes ")" ∷ []) wording.number block behind
    (refl, (pass.current_unit, (refl, (hexadecimal_passes unit k.0, (refl, tt))))) h k.1
pointer_passes wording (IfSet set block) behind h pass k free = set_passes (nat_lt 1 wording.unit) wording set block behind h pass k.0 k.1
pointer_passes wording (IfAccept accept block) behind h pass k free = jump_passes (codes "\tif (" ∷ last_accept wording.names ∷ codes " == " ∷ decimal accept ∷ codes ")" ∷ []) wording.number block behind
    (refl, (pass.last_accept, (refl, (short_passes accept k.0, (refl, tt))))) h k.1
pointer_passes wording (IfEnd block) behind h pass k free = jump_passes (codes "\tif (" ∷ cursor wording.names ∷ codes " >= " ∷ limit wording.names ∷ codes ")" ∷ []) wording.number block behind
    (refl, (pass.cursor, (refl, (pass.limit, (refl, tt))))) h k
pointer_passes wording (State state) behind h pass k free = Passes-joined (codes "\t" ∷ set_state wording.names ∷ codes "(" ∷ decimal state ∷ codes ");\n" ∷ []) behind
    (refl, (pass.set_state, (refl, (number_passes state k, (refl, tt)))))
pointer_passes wording (Need units) behind h pass k free = Passes-joined (codes "\tif ((" ∷ limit wording.names ∷ codes " - " ∷ cursor wording.names ∷ codes ") < " ∷ decimal units ∷ codes ") " ∷ refill wording.names ∷ codes "(" ∷ decimal units ∷ codes ");\n" ∷ []) behind
    (refl, (pass.limit, (refl, (pass.cursor, (refl, (short_passes units k, (refl, (pass.refill, (refl, (short_passes units k, (refl, tt)))))))))))
pointer_passes wording (Try block) behind h pass k free = jump_passes (codes "\tif (" ∷ refill wording.names ∷ codes "() == 0)" ∷ []) wording.number block behind
    (refl, (pass.refill, (refl, tt))) h k
pointer_passes wording (Cond cond) behind h pass k free = Passes-joined (codes "\t" ∷ set_condition wording.names ∷ codes "(" ∷ (condition_prefix wording.names ++ cond) ∷ codes ");\n" ∷ []) behind
    (refl, (pass.set_condition, (refl, (prefixed_passes (condition_prefix wording.names) cond pass.condition_lacks k, (refl, tt)))))
pointer_passes wording (Tag tag true history) behind h pass k free = Passes-joined (codes "\t" ∷ tag ∷ codes " = " ∷ history_text wording.names history ∷ codes ";\n" ∷ []) behind
    (refl, (identifier_passes tag k.0.identifier, (refl, (history_passes wording.names history pass k.1, (refl, tt)))))
pointer_passes wording (Tag tag false register) behind h pass k free = Passes-joined (codes "\t" ∷ tag ∷ codes " = " ∷ register_text wording.names wording.ctx register ∷ codes ";\n" ∷ []) behind
    (refl, (identifier_passes tag k.0.identifier, (refl, (register_passes wording.names wording.ctx register pass k.1.1, (refl, tt)))))
pointer_passes wording (Count groups) behind h pass k free = Passes-joined (codes "\tyynmatch = " ∷ decimal groups ∷ codes ";\n" ∷ []) behind
    (refl, (short_passes groups k, (refl, tt)))
pointer_passes wording (End place register) behind h pass k free = Passes-joined (codes "\tyypmatch[" ∷ decimal place ∷ codes "] = " ∷ register_text wording.names wording.ctx register ∷ codes ";\n" ∷ []) behind
    (refl, (short_passes place k.0, (refl, (register_passes wording.names wording.ctx register pass k.1.1, (refl, tt)))))
pointer_passes wording (Back register) behind h pass k free = Passes-joined (codes "\t" ∷ cursor wording.names ∷ codes " = " ∷ register_text wording.names wording.ctx register ∷ codes ";\n" ∷ []) behind
    (refl, (pass.cursor, (refl, (register_passes wording.names wording.ctx register pass k.1, (refl, tt)))))
pointer_passes wording (Switch cases last) behind h pass k free = switch_passes wording cases last behind h pass k.0.each k.1
pointer_passes wording (Goto block) behind h pass k free = Passes-joined (codes "\tgoto yy" ∷ decimal wording.number ∷ codes "_" ∷ decimal block ∷ codes ";\n" ∷ []) behind
    (refl, (short_passes wording.number h, (refl, (number_passes block k, (refl, tt)))))
pointer_passes wording Leave behind h pass k free = Passes-joined (codes "\tgoto yy" ∷ decimal wording.number ∷ codes "_none;\n" ∷ []) behind
    (refl, (short_passes wording.number h, (refl, tt)))
pointer_passes wording (Code rule line action) behind h pass k free =
    Passes-then (pointer_then wording (Code rule line action) behind) (action_then rule action behind) behind
    (line_passes line (action_then rule action behind) k.1 free.0) (action_passes rule action behind k.0 k.2 free.1 free.2)
pointer_passes wording (Jump cond rule) behind h pass k free = Passes-joined (codes "\tgoto " ∷ (label_prefix wording.names ++ cond) ∷ codes "; /* " ∷ decimal rule ∷ codes " */\n" ∷ []) behind
    (refl, (prefixed_passes (label_prefix wording.names) cond pass.label_lacks k.0, (refl, (short_passes rule k.1, (refl, tt)))))

custom_passes : (wording : Wording) (statement : Stmt) (behind : List ℕ) → IsShort wording.number → NamesPass wording.names
    → HasSpelling wording.names statement → IsUnmarked statement → Passes (custom_then wording statement behind) behind
custom_passes wording Peek behind h pass k free = Passes-joined (codes "\t" ∷ current_unit wording.names ∷ codes " = YYPEEK();\n" ∷ []) behind
    (refl, (pass.current_unit, (refl, tt)))
custom_passes wording Skip behind h pass k free = Passes-joined (codes "\tYYSKIP();\n" ∷ []) behind (refl, tt)
custom_passes wording Backup behind h pass k free = Passes-joined (codes "\tYYBACKUP();\n" ∷ []) behind (refl, tt)
custom_passes wording Restore behind h pass k free = Passes-joined (codes "\tYYRESTORE();\n" ∷ []) behind (refl, tt)
custom_passes wording (Set register) behind h pass k free = Passes-joined (codes "\tYYSTAGP(" ∷ register_text wording.names wording.ctx register ∷ codes ");\n" ∷ []) behind
    (refl, (register_passes wording.names wording.ctx register pass k.1, (refl, tt)))
custom_passes wording (Unset register) behind h pass k free = Passes-joined (codes "\tYYSTAGN(" ∷ register_text wording.names wording.ctx register ∷ codes ");\n" ∷ []) behind
    (refl, (register_passes wording.names wording.ctx register pass k.1, (refl, tt)))
custom_passes wording (Back register) behind h pass k free = Passes-joined (codes "\tYYRESTORETAG(" ∷ register_text wording.names wording.ctx register ∷ codes ");\n" ∷ []) behind
    (refl, (register_passes wording.names wording.ctx register pass k.1, (refl, tt)))
custom_passes wording (Need units) behind h pass k free = Passes-joined (codes "\tif (YYLESSTHAN(" ∷ decimal units ∷ codes ")) " ∷ refill wording.names ∷ codes "(" ∷ decimal units ∷ codes ");\n" ∷ []) behind
    (refl, (short_passes units k, (refl, (pass.refill, (refl, (short_passes units k, (refl, tt)))))))
custom_passes wording (IfEnd block) behind h pass k free = jump_passes (codes "\tif (YYLESSTHAN(1))" ∷ []) wording.number block behind (refl, tt) h k
custom_passes wording (Tag tag true history) behind h pass k free = pointer_passes wording (Tag tag true history) behind h pass k free
custom_passes wording (Tag tag false register) behind h pass k free = pointer_passes wording (Tag tag false register) behind h pass k free
custom_passes wording statement behind h pass k free = pointer_passes wording statement behind h pass k free

line_by-passes : (custom : Bool) (wording : Wording) (statement : Stmt) (behind : List ℕ) → IsShort wording.number → NamesPass wording.names
    → HasSpelling wording.names statement → IsUnmarked statement → Passes (line_by custom wording statement behind) behind
line_by-passes false wording statement behind h pass k free = pointer_passes wording statement behind h pass k free
line_by-passes true wording statement behind h pass k free = custom_passes wording statement behind h pass k free

pub statement_passes : (wording : Wording) (statement : Stmt) (behind : List ℕ) → IsShort wording.number → NamesPass wording.names
    → HasSpelling wording.names statement → IsUnmarked statement → Passes (statement_then wording statement behind) behind
statement_passes wording statement behind h pass k free = line_by-passes wording.custom wording statement behind h pass k free

pub statements_pass : (wording : Wording) (statements : List Stmt) (behind : List ℕ) → IsShort wording.number → NamesPass wording.names
    → EachHasSpelling wording.names statements → AllByRecursion IsUnmarked statements → Passes (statements_then wording statements behind) behind
statements_pass wording [] behind h pass k free = Passes-all behind
statements_pass wording (statement ∷ statements) behind h pass k free =
    Passes-then (statements_then wording (statement ∷ statements) behind) (statements_then wording statements behind) behind
    (statement_passes wording statement (statements_then wording statements behind) h pass k.0 free.0)
    (statements_pass wording statements behind h pass k.1 free.1)
