-- The units of a tree of letters and digits, and where its fronts stand.
use Rattle.std.specs.Prelude.{◌≡◌, ℕ, zero, suc, ◌+◌, ◌*◌, ◌<◌, ◌≤◌, List, [], ◌∷◌, ◌++◌, map, length, min, Some, None, Bool, true, false, nat_eq, nat_le, if◌then◌else◌, refl}
use Rattle.std.proofs.Common.{sym, ap, ap₂, ◌∙◌, subst, arith, append_assoc, append-nil, ⊎_elim}
use Rattle.lx_base.specs.declared.settings.Enc.TheVariants.{Byte}
use Rattle.lx_regex.specs.Cut.{EndsInUnit, last_part}
use Rattle.lx_regex.specs.Expr.{members_of}
use Rattle.lx_regex.specs.Script.{Symbol, begins, copy_part, ends, iterations_script, may_iterate, picks, row_script, script, tags_in, units, unsets}
use Rattle.lx_regex.specs.Term.{Term, class, parts, parts_of_all, repeat}
use Rattle.lx_regex.specs.Tree.{Iterations, Row, Tree, beside, iteration, iterations, point, row, row_end, stop}
use Rattle.lx_source.specs.GeneratedRules.{letter_term, letters_term, string_term}
use Rattle.lx_source.proofs.PartReads.{behind_append, front_cases, last_behind, part_behind, part_reads, part_reads_append, some_reads, spelled, spelled_append, units_spelled}
use Rattle.lx_source.proofs.Spots.{AreDigits, Spot, behind, digits, within}

-- letters, from a part on
abbrev letter_reads : (part : ℕ) → List ℕ → List (ℕ × ℕ)
letter_reads part [] = []
letter_reads part (letter ∷ letters) = (part, letter) ∷ letter_reads (part + 1) letters

-- the letters so often, from a part on
abbrev copy_reads : (part : ℕ) → (letters : List ℕ) → (count : ℕ) → List (ℕ × ℕ)
copy_reads part letters zero = []
copy_reads part letters (suc count) = letter_reads part letters ++ copy_reads (part + suc (length letters)) letters count

-- units in one part
abbrev digit_reads : (part : ℕ) → List ℕ → List (ℕ × ℕ)
digit_reads part [] = []
digit_reads part (digit ∷ others) = (part, digit) ∷ digit_reads part others

parts_letters : (letters : List ℕ) → parts_of_all (members_of (map letter_term letters)) ≡ length letters
parts_letters [] = refl
parts_letters (letter ∷ letters) = omega (arith, parts_letters letters)

letter_read : (letter part q : ℕ) (tree : Tree (letter_term letter)) → part_reads q (script Byte part tree) ≡ (part, letter) ∷ []
letter_read letter part q (point number is) =
    ap (λ n. (part, n) ∷ []) (⊎_elim (λ (both : (letter ≤ number) × (number ≤ letter)). omega (arith, both.0, both.1)) (λ none. absurd none) is)

letters_read : (letters : List ℕ) (part q : ℕ) (trees : Row (members_of (map letter_term letters)))
    → part_reads q (row_script Byte part trees) ≡ letter_reads part letters
letters_read [] part q row_end = refl
letters_read (letter ∷ letters) part q (beside tree trees) =
    part_reads_append q (script Byte part tree) (row_script Byte (part + 1) trees)
    ∙ ap₂ (λ a b. a ++ b) (letter_read letter part q tree) (letters_read letters (part + 1) _ trees)

string_read : (letters : List ℕ) (part q : ℕ) (tree : Tree (string_term letters))
    → part_reads q (script Byte part tree) ≡ letter_reads (part + 1) letters
string_read letters part q (row trees) =
    part_reads_append part (row_script Byte (part + 1) trees) (ends part ∷ [])
    ∙ append-nil (part_reads part (row_script Byte (part + 1) trees)) ∙ letters_read letters (part + 1) part trees

silent_choice : (may : Bool) (choice q : ℕ) (l : List Symbol)
    → part_reads q ((if may then picks choice ∷ [] else []) ++ l) ≡ part_reads q l
silent_choice true choice q l = refl
silent_choice false choice q l = refl

silent_unsets : (none : Bool) (tags : List ℕ) (q : ℕ) → part_reads q (if none then map unsets tags else []) ≡ []
silent_unsets false tags q = refl
silent_unsets true [] q = refl
silent_unsets true (tag ∷ tags) q = silent_unsets true tags q

-- a body that reads the letters, of so many parts
pub record ReadsLetters (letters : List ℕ) (body : Term) : Type 0 where
  pub size : parts body ≡ suc (length letters)
  pub reads_so : (part q : ℕ) (tree : Tree body) → part_reads q (script Byte part tree) ≡ letter_reads (part + 1) letters

string_reads : (letters : List ℕ) → ReadsLetters letters (string_term letters)
string_reads letters = record { size = omega (arith, parts_letters letters); reads_so = string_read letters }

copies_read : (letters : List ℕ) {body : Term} → ReadsLetters letters body → (part first done q : ℕ) {count : ℕ} (trees : Iterations body count)
    → done + count ≤ 3 → first ≡ part + 2 + done * suc (length letters)
    → part_reads q (iterations_script Byte part 1 (Some 3) done trees) ≡ copy_reads first letters count
copies_read letters is part first done q (stop {body}) few at =
    silent_choice (may_iterate done (Some 3)) 1 q _ ∙ silent_unsets (nat_eq done 0) (tags_in body) q
copies_read letters is part first done q (iteration {body} {count} tree trees) few at =
    let copy = copy_part part body 1 (Some 3) done in
    let here : copy + 1 ≡ first = copy_first part done first (parts body) (length letters) is.size (omega arith) at in
    silent_choice (nat_le 1 done) 0 q _
    ∙ part_reads_append q (script Byte copy tree) (iterations_script Byte part 1 (Some 3) (suc done) trees)
    ∙ ap₂ (λ a b. a ++ b)
    (is.reads_so copy q tree ∙ ap (λ n. letter_reads n letters) here)
    (copies_read letters is part (first + suc (length letters)) (suc done) _ trees (omega arith) (omega arith))
  where
    copy_first : (part done first size count : ℕ) → size ≡ suc count → done ≤ 2 → first ≡ part + 2 + done * suc count
        → part + 1 + min done 2 * size + 1 ≡ first
    copy_first part done first size count same few at =
        let least : min done 2 ≡ done = omega arith in rw (least, same) (omega arith)

-- digits in one part
digits_read : (part done q : ℕ) {count : ℕ} (trees : Iterations (class ((48, 57) ∷ [])) count)
    → (word : List ℕ) × AreDigits word × (part_reads q (iterations_script Byte part 1 None done trees) ≡ digit_reads (part + 1) word)
digits_read part done q stop = ([], tt, silent_unsets (nat_eq done 0) [] q)
digits_read part done q (iteration {body} {count} (point number is) trees) =
    let copy = copy_part part (class ((48, 57) ∷ [])) 1 None done in
    let rest = digits_read part (suc done) copy trees in
    let here : copy ≡ part + 1 = omega arith in (
      number ∷ rest.0,
      ⊎_elim (λ (both : (48 ≤ number) × (number ≤ 57)). (both.0, both.1, rest.1)) (λ none. absurd none) is,
      silent_choice (nat_le 1 done) 0 q _ ∙ ap₂ (λ n l. (n, number) ∷ l) here rest.2,
    )

-- a whole tree: the letters one to three times, and digits
pub record RuleReads (letters : List ℕ) (part : ℕ) (script : List Symbol) : Type 0 where
  pub count : ℕ
  pub numerals : List ℕ
  pub some : 1 ≤ count
  pub few : count ≤ 3
  pub are : AreDigits numerals
  pub reads_so : part_reads 0 script
      ≡ copy_reads (part + 3) letters count ++ digit_reads (part + 3 + 3 * suc (length letters)) numerals

framed_reads : (part q : ℕ) (inner : List Symbol) → part_reads q (begins part ∷ (inner ++ ends part ∷ [])) ≡ part_reads part inner
framed_reads part q inner = part_reads_append part inner (ends part ∷ []) ∙ append-nil (part_reads part inner)

-- two parts in a third
two_reads : (part one two q : ℕ) (first second : List Symbol)
    → part_reads q
    (begins part ∷ (((begins one ∷ (first ++ ends one ∷ [])) ++ ((begins two ∷ (second ++ ends two ∷ [])) ++ [])) ++ ends part ∷ []))
    ≡ part_reads one first ++ part_reads two second
two_reads part one two q first second =
    framed_reads part q ((begins one ∷ (first ++ ends one ∷ [])) ++ ((begins two ∷ (second ++ ends two ∷ [])) ++ []))
    ∙ part_reads_append part (begins one ∷ (first ++ ends one ∷ [])) ((begins two ∷ (second ++ ends two ∷ [])) ++ [])
    ∙ ap₂ (λ a b. a ++ b) (framed_reads one part first)
    (ap (part_reads before) (append-nil (begins two ∷ (second ++ ends two ∷ []))) ∙ framed_reads two before second)
  where
    before : ℕ
    before = last_part part (begins one ∷ (first ++ ends one ∷ []))

rule_read : (letters : List ℕ) (part : ℕ) (tree : Tree (letters_term letters)) → RuleReads letters part (script Byte part tree)
rule_read letters part (row (beside (iterations count copies least most) (beside (iterations more others least' most') row_end))) =
    let rest = digits_read digit_repeat 0 digit_repeat others in
    let first : part + 3 ≡ part + 1 + 2 + 0 * suc (length letters) = omega arith in
    let start : digit_repeat + 1 ≡ part + 3 + 3 * suc (length letters) = omega (arith, parts_letters letters) in
    let copied = iterations_script Byte (part + 1) 1 (Some 3) 0 copies in
    let repeated = iterations_script Byte digit_repeat 1 None 0 others in
    let letters_are = copies_read letters (string_reads letters) (part + 1) (part + 3) 0 (part + 1) copies (omega arith) first in
    record {
      count = count;
      numerals = rest.0;
      some = least;
      few = most;
      are = rest.1;
      reads_so = two_reads part (part + 1) digit_repeat 0 copied repeated ∙ ap₂ (λ a b. a ++ b) letters_are (rest.2 ∙ ap (λ n. digit_reads n rest.0) start);
    }
  where
    digit_repeat : ℕ
    digit_repeat = part + 1 + parts (repeat (string_term letters) 1 (Some 3))

spelled_letters : (part : ℕ) (letters : List ℕ) → spelled (letter_reads part letters) ≡ letters
spelled_letters part [] = refl
spelled_letters part (letter ∷ letters) = ap (λ l. letter ∷ l) (spelled_letters (part + 1) letters)

letters_part : (part q : ℕ) (letters : List ℕ) (read : ℕ × ℕ) (front back : List (ℕ × ℕ)) → (read ∷ front) ++ back ≡ letter_reads part letters
    → suc (part_behind q (read ∷ front)) ≡ part + length (spelled (read ∷ front))
letters_part part q [] read front back e = cc
letters_part part q (letter ∷ letters) read [] back e =
    let same : read ≡ (part, letter) = cc in let at = ap (λ (r : ℕ × ℕ). r.0) same in omega arith
letters_part part q (letter ∷ letters) read (next ∷ front) back e =
    let rest = letters_part (part + 1) read.0 letters next front back (cc) in omega arith

digits_front : (part q : ℕ) (word : List ℕ) (read : ℕ × ℕ) (front back : List (ℕ × ℕ)) → (read ∷ front) ++ back ≡ digit_reads part word
    → AreDigits word → AreDigits (spelled (read ∷ front)) × (part_behind q (read ∷ front) ≡ part)
digits_front part q [] read front back e are = cc
digits_front part q (digit ∷ word) read [] back e are =
    let same : read ≡ (part, digit) = cc in
    ((subst (λ (r : ℕ × ℕ). 48 ≤ r.1) (sym same) are.0, subst (λ (r : ℕ × ℕ). r.1 ≤ 57) (sym same) are.1, tt), ap (λ (r : ℕ × ℕ). r.0) same)
digits_front part q (digit ∷ word) read (next ∷ front) back e are =
    let same : read ≡ (part, digit) = cc in
    let rest = digits_front part read.0 word next front back (cc) are.2 in (
      (subst (λ (r : ℕ × ℕ). 48 ≤ r.1) (sym same) are.0, subst (λ (r : ℕ × ℕ). r.1 ≤ 57) (sym same) are.1, rest.0),
      rest.1,
    )

module _ (letters : List ℕ) (digit_part : ℕ) where
  -- a front of letters so often and digits has a spot
  front_spot : (count left first : ℕ) (numerals : List ℕ) (read : ℕ × ℕ) (front back : List (ℕ × ℕ)) → count ≤ left → left ≤ 3
      → (count ≡ 0 → left < 3) → AreDigits numerals
      → (read ∷ front) ++ back ≡ copy_reads first letters count ++ digit_reads digit_part numerals
      → Spot letters digit_part left first (spelled (read ∷ front)) (part_behind 0 (read ∷ front))
  front_spot zero left first numerals read front back few most started are e =
      let shape = digits_front digit_part 0 numerals read front back e are in
      digits (started refl) shape.0 (λ none. cc) shape.1
  front_spot (suc count) zero first numerals read front back few most started are e = absurd (omega arith)
  front_spot (suc count) (suc left) first numerals read front back few most started are e =
      ⊎_elim
      (λ c.
      within
      (spelled c.0)
      (sym (spelled_append (read ∷ front) c.0) ∙ ap spelled c.1 ∙ spelled_letters first letters) (λ none. cc)
      (letters_part first 0 letters read front c.0 c.1))
      (λ c.
      behind
      (spelled (c.0 ∷ c.1))
      (ap spelled c.2 ∙ spelled_append copy (c.0 ∷ c.1) ∙ ap (λ l. l ++ spelled (c.0 ∷ c.1)) (spelled_letters first letters))
      (subst
      (λ n. Spot letters digit_part left (first + suc (length letters)) (spelled (c.0 ∷ c.1)) n)
      (sym (ap (part_behind 0) c.2 ∙ behind_append 0 0 copy c.0 c.1))
      (front_spot count left (first + suc (length letters)) numerals c.0 c.1 back (omega arith) (omega arith) (λ none. omega arith) are c.3)))
      (front_cases (read ∷ front) back copy (others ++ digit_reads digit_part numerals)
      (e ∙ append_assoc copy others (digit_reads digit_part numerals)))
    where
      copy : List (ℕ × ℕ)
      copy = letter_reads first letters

      others : List (ℕ × ℕ)
      others = copy_reads (first + suc (length letters)) letters count

-- a front of the script of a tree has a spot
pub tree_spot : (letters : List ℕ) (part : ℕ) (tree : Tree (letters_term letters)) (front rest : List Symbol)
    → script Byte part tree ≡ front ++ rest → EndsInUnit front
    → Spot letters (part + 3 + 3 * suc (length letters)) 3 (part + 3) (units front) (last_part 0 front)
tree_spot letters part tree front rest goes is = at (part_reads 0 front) refl
  where
    all : RuleReads letters part (script Byte part tree)
    all = rule_read letters part tree

    back : List (ℕ × ℕ)
    back = part_reads (last_part 0 front) rest

    split : part_reads 0 front ++ back ≡ copy_reads (part + 3) letters all.count ++ digit_reads (part + 3 + 3 * suc (length letters)) all.numerals
    split = sym (part_reads_append 0 front rest) ∙ sym (ap (part_reads 0) goes) ∙ all.reads_so

    at : (reads_are : List (ℕ × ℕ)) → part_reads 0 front ≡ reads_are
        → Spot letters (part + 3 + 3 * suc (length letters)) 3 (part + 3) (units front) (last_part 0 front)
    at [] same = absurd (some_reads 0 front is same)
    at (read ∷ more) same =
        let most : all.count ≤ 3 = all.few in
        let least : 1 ≤ all.count = all.some in
        let spot =
        front_spot letters (part + 3 + 3 * suc (length letters)) all.count 3
        (part + 3) all.numerals read more back most (omega arith) (λ none. omega arith) all.are
        (ap (λ l. l ++ back) (sym same) ∙ split) in
        subst
        (λ w. Spot letters (part + 3 + 3 * suc (length letters)) 3 (part + 3) w (last_part 0 front))
        (sym (units_spelled 0 front ∙ ap spelled same))
        (subst
        (λ n. Spot letters (part + 3 + 3 * suc (length letters)) 3 (part + 3) (spelled (read ∷ more)) n)
        (sym (last_behind 0 front is ∙ ap (part_behind 0) same)) spot)
