-- What stands before the blocks in format 3 is read again.
use Rattle.std.proofs.Common.{[], ◌++◌, ◌<◌, ◌^◌, ◌∙◌, ◌∷◌, ◌≡◌, ◌≤◌, Bool, List, None, Option, Some, ap, append_assoc, arith, drop, false, length, not, refl, suc, true, zero, ℕ}
use Rattle.std.proofs.lemmas.Bool.{eqb-true, false≢true, leb-true, lt-leb}
use Rattle.std.specs.Fmt.{decimal}
use Rattle.std.specs.Prelude.{◌==◌, ◌||◌, codes, if◌then◌else◌, nat_le}
use Rattle.lx_base.specs.Letters.{EachLetter, IsIdentifier, after_letters, begins_identifier, is_digit, is_in_identifier, is_in_spelling, is_in_type, is_within}
use Rattle.lx_base.specs.Names.{AreAllowed, Spellings, condition_prefix, current_unit, get_condition, get_state, label_prefix, last_accept}
use Rattle.lx_ccode.specs.declared.piece.CondCase.{CondCase}
use Rattle.lx_ccode.specs.declared.piece.Piece.{Piece}
use Rattle.lx_ccode.specs.declared.piece.StateCase.{StateCase}
use Rattle.lx_ccode.specs.Reading.{behind_accept_line, behind_cond_label, behind_label_cases, behind_label_switch, behind_unit_line, byte_at, is_state_switch, is_tab, sections_at, states_at}
use Rattle.lx_ccode.specs.Text.{accept_line_then, cond_label_then, declares_accept, declares_unit, has_cond_label, label_cases_then, label_switch_then, sections_by, start_then, state_cases_then, state_switch_then, unit_line_then, unit_word}
use Rattle.lx_ccode.proofs.ReadSections.{AreConds, AreStates, state_switch_at-cases}
use Rattle.lx_ccode.proofs.ReadTables.{NoTable}
use Rattle.lx_ccode.proofs.Words.{EachLetter-append, EachLetter-from, EachLetter-identifier, behind-stop, behind-word, decimal_first, decimal_identifier, is_in_type-identifier}

-- behind the words at the front of a line this letter does not stand
pub record HasNot (letter : ℕ) (text : List ℕ) : Type 0 where
  pub no_letter : (if is_tab text then byte_at (after_letters is_in_type (drop 1 text)) 0 == letter else false) ≡ false

-- ---- the switch over conditions

HasNot-label_switch : (letter : ℕ) (names : Spellings) (conds : List CondCase) (tail : List ℕ) → (40 == letter) ≡ false
    → HasNot letter (label_switch_then names conds (10 ∷ tail))
HasNot-label_switch letter names [] tail other = record { no_letter = refl }
HasNot-label_switch letter names (case ∷ conds) tail other = record { no_letter = other }

HasNot-conds : (letter : ℕ) (stands : Bool) (number : ℕ) (names : Spellings) (conds : List CondCase) (tail : List ℕ) → (40 == letter) ≡ false
    → HasNot letter (cond_label_then stands number (label_switch_then names conds (10 ∷ tail)))
HasNot-conds letter true number names conds tail other = record { no_letter = refl }
HasNot-conds letter false number names conds tail other = HasNot-label_switch letter names conds tail other

behind_label_cases-cases : (fuel : ℕ) (names : Spellings) (conds : List CondCase) (tail : List ℕ) → AreAllowed names → AreConds conds → length conds ≤ fuel
    → (byte_at tail 1 == 99) ≡ false → behind_label_cases fuel (label_cases_then names conds tail) ≡ tail
unfolding behind_label_cases
behind_label_cases-cases zero names [] tail allowed each le q = refl
behind_label_cases-cases (suc fuel) names [] tail allowed each le q = rw q refl
behind_label_cases-cases zero names (case ∷ conds) tail allowed each le q = absurd (omega (arith, le))
behind_label_cases-cases (suc fuel) names (case ∷ conds) tail allowed each le q =
    let others : List ℕ = label_cases_then names conds tail in
    let cond : EachLetter is_in_identifier (condition_prefix names ++ case.cond) = EachLetter-append is_in_identifier (condition_prefix names) case.cond (EachLetter-identifier (condition_prefix names) allowed.condition_prefix) (EachLetter-identifier case.cond each.0.0) in
    let label : EachLetter is_in_identifier (label_prefix names ++ case.cond) = EachLetter-append is_in_identifier (label_prefix names) case.cond (EachLetter-identifier (label_prefix names) allowed.label_prefix) (EachLetter-identifier case.cond each.0.0) in
    let next : List ℕ = codes " goto " ++ ((label_prefix names ++ case.cond) ++ (codes ";\n" ++ others)) in
    rw (
      behind-stop is_in_identifier (condition_prefix names ++ case.cond) 58 next cond refl,
      behind-stop is_in_identifier (label_prefix names ++ case.cond) 59 (10 ∷ others) label refl,
    )
    (behind_label_cases-cases fuel names conds tail allowed each.1 (omega (arith, le)) q)

behind_label_switch-switch : (fuel : ℕ) (names : Spellings) (conds : List CondCase) (tail : List ℕ) → AreAllowed names → AreConds conds → length conds ≤ fuel
    → behind_label_switch fuel (label_switch_then names conds (10 ∷ tail)) ≡ 10 ∷ tail
unfolding behind_label_switch
behind_label_switch-switch fuel names [] tail allowed each le = refl
behind_label_switch-switch fuel names (case ∷ conds) tail allowed each le =
    let end : List ℕ = codes "\t}\n" ++ 10 ∷ tail in
    rw (
      behind-word is_in_spelling (get_condition names) (codes "()) {\n" ++ label_cases_then names (case ∷ conds) end) allowed.get_condition.1,
      behind_label_cases-cases fuel names (case ∷ conds) end allowed each le refl,
    ) refl

behind_cond_label-label : (stands : Bool) (number : ℕ) (names : Spellings) (conds : List CondCase) (tail : List ℕ) → number < 2 ^ 64
    → behind_cond_label (cond_label_then stands number (label_switch_then names conds (10 ∷ tail))) ≡ label_switch_then names conds (10 ∷ tail)
unfolding behind_cond_label
behind_cond_label-label true number names conds tail short =
    rw (behind-word is_in_identifier (decimal number) (codes "_cond:\n" ++ label_switch_then names conds (10 ∷ tail)) (decimal_identifier number short)) refl
behind_cond_label-label false number names [] tail short = refl
behind_cond_label-label false number names (case ∷ conds) tail short = refl

-- ---- the switch over stored states

is_within-from : (first last letter : ℕ) → is_within first last letter ≡ true → first ≤ letter
is_within-from first last letter h = by (nat_le first letter) refl h where
  by : (below : Bool) → nat_le first letter ≡ below → (if below then nat_le letter last else false) ≡ true → first ≤ letter
  by true is e = leb-true first letter is
  by false is e = absurd (false≢true e)

begins_identifier-from : (letter : ℕ) → begins_identifier letter ≡ true → 64 < letter
begins_identifier-from letter h = by (is_within 97 122 letter) (is_within 65 90 letter) (letter == 95) refl refl refl h where
  by : (small great line : Bool) → is_within 97 122 letter ≡ small → is_within 65 90 letter ≡ great → (letter == 95) ≡ line → (small || great || line) ≡ true → 64 < letter
  by true great line is_small is_great is_line e = (let h : 97 ≤ letter = is_within-from 97 122 letter is_small in omega (arith, h))
  by false true line is_small is_great is_line e = (let h : 65 ≤ letter = is_within-from 65 90 letter is_great in omega (arith, h))
  by false false true is_small is_great is_line e = (let h : letter ≡ 95 = eqb-true letter 95 is_line in omega (arith, h))
  by false false false is_small is_great is_line e = absurd (false≢true e)

begins_identifier-digit : (letter : ℕ) → begins_identifier letter ≡ true → is_digit letter ≡ false
begins_identifier-digit letter h =
    let from : 64 < letter = begins_identifier-from letter h in
    let past : nat_le letter 57 ≡ false = lt-leb letter 57 (omega (arith, from)) in
    by (nat_le 48 letter) past where
      by : (above : Bool) → nat_le letter 57 ≡ false → (if above then nat_le letter 57 else false) ≡ false
      by true past = past
      by false past = refl

no_digit-word : (word tail : List ℕ) → IsIdentifier word → is_digit (byte_at (word ++ tail) 0) ≡ false
no_digit-word [] tail h = absurd h
no_digit-word (letter ∷ word) tail h = begins_identifier-digit letter h.0

no_digit-cond : (names : Spellings) (cond tail : List ℕ) → AreAllowed names → is_digit (byte_at ((condition_prefix names ++ cond) ++ tail) 0) ≡ false
no_digit-cond names cond tail allowed = ap (λ (text : List ℕ). is_digit (byte_at text 0)) (append_assoc (condition_prefix names) cond tail)
    ∙ no_digit-word (condition_prefix names) (cond ++ tail) allowed.condition_prefix

-- the switch over conditions is none over stored states
no_state_switch-label : (names : Spellings) (conds : List CondCase) (tail : List ℕ) → AreAllowed names
    → (if is_tab (label_switch_then names conds (10 ∷ tail)) then is_state_switch (label_switch_then names conds (10 ∷ tail)) else false) ≡ false
unfolding is_state_switch
no_state_switch-label names [] tail allowed = refl
no_state_switch-label names (case ∷ conds) tail allowed =
    let end : List ℕ = codes "\t}\n" ++ 10 ∷ tail in
    let others : List ℕ = label_cases_then names conds end in
    rw (
      behind-word is_in_spelling (get_condition names) (codes "()) {\n" ++ label_cases_then names (case ∷ conds) end) allowed.get_condition.1,
      no_digit-cond names case.cond (codes ": goto " ++ ((label_prefix names ++ case.cond) ++ (codes ";\n" ++ others))) allowed,
    ) refl

no_state_switch : (stands : Bool) (number : ℕ) (names : Spellings) (conds : List CondCase) (tail : List ℕ) → AreAllowed names
    → (if is_tab (cond_label_then stands number (label_switch_then names conds (10 ∷ tail))) then is_state_switch (cond_label_then stands number (label_switch_then names conds (10 ∷ tail))) else false) ≡ false
no_state_switch true number names conds tail allowed = refl
no_state_switch false number names conds tail allowed = no_state_switch-label names conds tail allowed

is_state_switch-cases : (number : ℕ) (names : Spellings) (conds : List CondCase) (cases : List StateCase) (tail : List ℕ) → AreAllowed names → AreStates (length cases) (Some cases)
    → is_state_switch (state_switch_then number names conds (Some cases) tail) ≡ true
unfolding is_state_switch
is_state_switch-cases number names conds [] tail allowed each =
    rw (behind-word is_in_spelling (get_state names) (codes "()) {\n\tdefault: goto " ++ start_then number conds (codes ";\n\t}\n" ++ tail)) allowed.get_state.1) refl
is_state_switch-cases number names conds (case ∷ cases) tail allowed each =
    let end : List ℕ = codes "\tdefault: goto " ++ start_then number conds (codes ";\n\t}\n" ++ tail) in
    rw (behind-word is_in_spelling (get_state names) (codes "()) {\n" ++ state_cases_then number (case ∷ cases) end) allowed.get_state.1)
    (decimal_first case.state _ each.0.0.0)

states_at-switch : (fuel number : ℕ) (names : Spellings) (conds : List CondCase) (states : Option (List StateCase)) (stands : Bool) (tail : List ℕ)
    → number < 2 ^ 64 → AreAllowed names → AreStates fuel states
    → states_at fuel (state_switch_then number names conds states (cond_label_then stands number (label_switch_then names conds (10 ∷ tail))))
    ≡ (states, cond_label_then stands number (label_switch_then names conds (10 ∷ tail)))
unfolding states_at
states_at-switch fuel number names conds None stands tail short allowed each = rw (no_state_switch stands number names conds tail allowed) refl
states_at-switch fuel number names conds (Some cases) stands tail short allowed each =
    let more : List ℕ = cond_label_then stands number (label_switch_then names conds (10 ∷ tail)) in
    rw (is_state_switch-cases number names conds cases more allowed (each.0, omega arith), state_switch_at-cases fuel number names conds cases more short allowed each.0 each.1) refl

HasNot-states : (letter number : ℕ) (names : Spellings) (conds : List CondCase) (states : Option (List StateCase)) (stands : Bool) (tail : List ℕ) → (40 == letter) ≡ false
    → HasNot letter (state_switch_then number names conds states (cond_label_then stands number (label_switch_then names conds (10 ∷ tail))))
HasNot-states letter number names conds None stands tail other = HasNot-conds letter stands number names conds tail other
HasNot-states letter number names conds (Some cases) stands tail other = record { no_letter = other }

-- ---- the declarations

identifier-type : (word : List ℕ) → IsIdentifier word → EachLetter is_in_type word
identifier-type word h = EachLetter-from is_in_identifier is_in_type is_in_type-identifier word (EachLetter-identifier word h)

behind_accept_line-line : (stands : Bool) (names : Spellings) (tail : List ℕ) → AreAllowed names → HasNot 61 tail
    → behind_accept_line (accept_line_then stands names tail) ≡ tail
unfolding behind_accept_line
behind_accept_line-line false names tail allowed none = rw none.no_letter refl
behind_accept_line-line true names tail allowed none =
    rw (behind-word is_in_type (last_accept names) (codes " = 0;\n" ++ tail) (identifier-type (last_accept names) allowed.last_accept)) refl

HasNot-accept : (letter : ℕ) (stands : Bool) (names : Spellings) (tail : List ℕ) → AreAllowed names → (61 == letter) ≡ false → HasNot letter tail
    → HasNot letter (accept_line_then stands names tail)
HasNot-accept letter false names tail allowed other none = none
HasNot-accept letter true names tail allowed other none = record {
  no_letter =
      rw (behind-word is_in_type (last_accept names) (codes " = 0;\n" ++ tail) (identifier-type (last_accept names) allowed.last_accept)) other;
}

unit_word-type : (unit : ℕ) → EachLetter is_in_type (unit_word unit)
unit_word-type unit = by (unit == 1) (unit == 2) where
  by : (one two : Bool) → EachLetter is_in_type (if one then codes "char" else if two then codes "short" else codes "int")
  by true two = (refl, (refl, (refl, (refl, tt))))
  by false true = (refl, (refl, (refl, (refl, (refl, tt)))))
  by false false = (refl, (refl, (refl, tt)))

behind_unit_line-line : (stands : Bool) (names : Spellings) (unit : ℕ) (tail : List ℕ) → AreAllowed names → HasNot 59 tail
    → behind_unit_line (unit_line_then stands names unit tail) ≡ tail
unfolding behind_unit_line
behind_unit_line-line false names unit tail allowed none = rw none.no_letter refl
behind_unit_line-line true names unit tail allowed none =
    rw (
      behind-word is_in_type (unit_word unit) (32 ∷ (current_unit names ++ 59 ∷ 10 ∷ tail)) (unit_word-type unit),
      behind-stop is_in_type (current_unit names) 59 (10 ∷ tail) (identifier-type (current_unit names) allowed.current_unit) refl,
    ) refl

HasNot-unit : (letter : ℕ) (stands : Bool) (names : Spellings) (unit : ℕ) (tail : List ℕ) → AreAllowed names → (59 == letter) ≡ false → HasNot letter tail
    → HasNot letter (unit_line_then stands names unit tail)
HasNot-unit letter false names unit tail allowed other none = none
HasNot-unit letter true names unit tail allowed other none = record {
  no_letter =
      rw (
        behind-word is_in_type (unit_word unit) (32 ∷ (current_unit names ++ 59 ∷ 10 ∷ tail)) (unit_word-type unit),
        behind-stop is_in_type (current_unit names) 59 (10 ∷ tail) (identifier-type (current_unit names) allowed.current_unit) refl,
      ) other;
}

-- ---- all of it

-- the switches and what stands behind them
abbrev switches_then : Piece → List ℕ → List ℕ
switches_then piece tail =
    state_switch_then piece.number piece.names piece.conds piece.states (cond_label_then (has_cond_label piece) piece.number (label_switch_then piece.names piece.conds (10 ∷ tail)))

pub sections_at-sections : (fuel : ℕ) (piece : Piece) (tail : List ℕ) → piece.number < 2 ^ 64 → AreAllowed piece.names → AreConds piece.conds → length piece.conds ≤ fuel
    → AreStates fuel piece.states → sections_at fuel (not piece.declares) (sections_by true piece tail) ≡ (piece.declares, piece.states, [], tail)
unfolding sections_at
sections_at-sections fuel piece tail short allowed conds le states =
    let accept : List ℕ = accept_line_then (declares_accept piece) piece.names (switches_then piece tail) in
    rw (
      behind_unit_line-line (declares_unit piece) piece.names piece.unit accept allowed
          (HasNot-accept 59 (declares_accept piece) piece.names (switches_then piece tail) allowed refl (HasNot-states 59 piece.number piece.names piece.conds piece.states (has_cond_label piece) tail refl)),
      behind_accept_line-line (declares_accept piece) piece.names (switches_then piece tail) allowed (HasNot-states 61 piece.number piece.names piece.conds piece.states (has_cond_label piece) tail refl),
      states_at-switch fuel piece.number piece.names piece.conds piece.states (has_cond_label piece) tail short allowed states,
      behind_cond_label-label (has_cond_label piece) piece.number piece.names piece.conds tail short,
      behind_label_switch-switch fuel piece.names piece.conds tail allowed conds le,
      twice piece.declares,
    ) refl where
      twice : (flag : Bool) → not (not flag) ≡ flag
      twice true = refl
      twice false = refl

-- no table stands in them
pub NoTable-sections : (piece : Piece) (tail : List ℕ) → AreAllowed piece.names → NoTable (sections_by true piece tail)
NoTable-sections piece tail allowed = record {
  no_bracket = (HasNot-unit 91 (declares_unit piece) piece.names piece.unit (accept_line_then (declares_accept piece) piece.names (switches_then piece tail)) allowed refl
      (HasNot-accept 91 (declares_accept piece) piece.names (switches_then piece tail) allowed refl (HasNot-states 91 piece.number piece.names piece.conds piece.states (has_cond_label piece) tail refl))).no_letter;
}
