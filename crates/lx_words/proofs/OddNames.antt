-- In a name that is not odd no block opens.
use Rattle.std.proofs.Common.{◌≡◌, ◌∙◌, ℕ, Bool, true, false, List, [], ◌∷◌, ◌++◌, codes, drop, not, Option, Some, None, refl, ap, sym, subst}
use Rattle.std.specs.Prelude.{◌||◌, ◌&&◌, ◌==◌, IfSome, if◌then◌else◌, nat_lt, unwrap_or}
use Rattle.std.specs.Option.{option_map_or}
use Rattle.std.proofs.lemmas.Bool.{false≢true}
use Rattle.lx_base.specs.Letters.{begins_with}
use Rattle.lx_base.specs.declared.settings.Format.{Format}
use Rattle.lx_base.specs.declared.settings.Format.TheVariants.{Two, Three}
use Rattle.lx_base.specs.declared.faults.Fault.{Fault}
use Rattle.lx_base.specs.declared.faults.Fault.TheVariants.{Usage}
use Rattle.lx_words.specs.Line.{Line, has_flag, is_refused, line_of, value}
use Rattle.lx_words.specs.Options.{format_of, job_by, name_of, number_of, options_of, words_fault}
use Rattle.lx_words.specs.Points.{asks_for_three, encoding_count, has_odd_name, has_odd_output, has_wrong_format, has_wrong_input, has_wrong_numbers, has_wrong_policy, is_odd_name, is_wrong, misses_file, mixes_captures, mixes_run, mixes_source, prints_output}
use Rattle.lx_words.specs.PrintedNames.{CompilesPlainFile, HavePlainNames, OpensNoBlock, WritesPlainFile}

first_is_plain : (text : List ℕ) → is_odd_name text ≡ false → begins_with (codes "/*!") text ≡ false
first_is_plain [] plain = refl
first_is_plain (letter ∷ text) plain = by ((letter == 10) || (letter == 13)) (begins_with (codes "/*!") (letter ∷ text)) plain
  where
    by : (ends opens : Bool) → (if ends then true else (if opens then true else is_odd_name text)) ≡ false → opens ≡ false
    by true opens is = absurd (false≢true (sym is))
    by false true is = absurd (false≢true (sym is))
    by false false is = refl

rest_is_plain : (letter : ℕ) (text : List ℕ) → is_odd_name (letter ∷ text) ≡ false → is_odd_name text ≡ false
rest_is_plain letter text plain = by ((letter == 10) || (letter == 13)) (begins_with (codes "/*!") (letter ∷ text)) plain
  where
    by : (ends opens : Bool) → (if ends then true else (if opens then true else is_odd_name text)) ≡ false → is_odd_name text ≡ false
    by true opens is = absurd (false≢true (sym is))
    by false true is = absurd (false≢true (sym is))
    by false false is = is

pub OpensNoBlock-plain : (name : List ℕ) → is_odd_name name ≡ false → OpensNoBlock name
OpensNoBlock-plain name plain [] tail is = subst (λ (l : List ℕ). begins_with (codes "/*!") l ≡ false) is (first_is_plain name plain)
OpensNoBlock-plain [] plain (other ∷ front) tail is = absurd cc
OpensNoBlock-plain (letter ∷ name) plain (other ∷ front) tail is = OpensNoBlock-plain name (rest_is_plain letter name plain) front tail (ap (drop 1) is)

-- an option that names nothing odd
named_plainly : (found : Option (List ℕ)) → option_map_or is_odd_name found false ≡ false → IfSome found OpensNoBlock
named_plainly None plain = tt
named_plainly (Some name) plain = OpensNoBlock-plain name plain

name_plain : (found : Option (List ℕ)) → option_map_or is_odd_name found false ≡ false → OpensNoBlock (unwrap_or found [])
name_plain None plain = OpensNoBlock-plain [] refl
name_plain (Some name) plain = OpensNoBlock-plain name plain

-- ---- the line

either_false : (first rest : Bool) → (first || rest) ≡ false → (first ≡ false) × (rest ≡ false)
either_false true rest is = absurd (false≢true (sym is))
either_false false rest is = (refl, is)

both_true : (first rest other : Bool) → first ≡ true → rest ≡ true → other ≡ true → (first && (rest && other)) ≡ true
both_true first rest other is so too = rw (is, so, too) refl

within_wrong : (a b c d e f g h i j k l m : Bool)
    → (a || (b || (c || (d || (e || (f || (g || (h || (i || (j || (k || (l || m)))))))))))) ≡ false
    → (j ≡ false) × (l ≡ false) × (m ≡ false)
within_wrong a b c d e f g h i j k l m is =
    let from_b = (either_false a _ is).1 in
    let from_c = (either_false b _ from_b).1 in
    let from_d = (either_false c _ from_c).1 in
    let from_e = (either_false d _ from_d).1 in
    let from_f = (either_false e _ from_e).1 in
    let from_g = (either_false f _ from_f).1 in
    let from_h = (either_false g _ from_g).1 in
    let from_i = (either_false h _ from_h).1 in
    let from_j = (either_false i _ from_i).1 in
    let at_j = either_false j _ from_j in
    let from_l = (either_false k _ at_j.1).1 in
    let at_l = either_false l m from_l in
    (at_j.0, at_l.0, at_l.1)

-- a line that is not wrong names no odd file, no odd folder, and no odd output where it is told
names_not_odd : (line : Line) → is_wrong line ≡ false
    → (has_odd_name line (codes "file") ≡ false) × (has_odd_name line (codes "include") ≡ false) × (has_odd_output line ≡ false)
names_not_odd line right =
    within_wrong (misses_file line) (nat_lt 1 (encoding_count line)) (mixes_captures line) (has_wrong_numbers line) (has_wrong_policy line)
    (has_wrong_input line) (has_wrong_format line) (mixes_run line) (mixes_source line) (has_odd_name line (codes "file"))
    (has_odd_name line (codes "x-run")) (has_odd_name line (codes "include")) (has_odd_output line) right

three_asked : (asks : Bool) → (if asks then Three else Two) ≡ Three → asks ≡ true
three_asked true is = refl
three_asked false is = absurd cc

not_flag : (flag : Bool) → not flag ≡ true → flag ≡ false
not_flag true is = absurd (false≢true is)
not_flag false is = refl

module _ (line : Line) (right : is_wrong line ≡ false) where
  output_plain : asks_for_three line ≡ true → has_flag line (codes "no-debug-info") ≡ false → has_flag line (codes "x-cover") ≡ false
      → has_odd_name line (codes "output") ≡ false
  output_plain three told given =
      let prints : prints_output line ≡ true =
      both_true (asks_for_three line) (not (has_flag line (codes "no-debug-info"))) (not (has_flag line (codes "x-cover"))) three (ap not told) (ap not given) in
      ap (λ t. t && has_odd_name line (codes "output")) (sym prints) ∙ (names_not_odd line right).2

  file_plain : (rules : Option ℕ) (input : Option (List ℕ)) → CompilesPlainFile (job_by rules input line)
  file_plain (Some rules) input = tt
  file_plain None (Some input) = tt
  file_plain None None = name_plain (value line (codes "file")) (names_not_odd line right).0

  written_plain : has_odd_name line (codes "output") ≡ false → (rules : Option ℕ) (input : Option (List ℕ)) → WritesPlainFile (job_by rules input line)
  written_plain plain (Some rules) input = tt
  written_plain plain None (Some input) = tt
  written_plain plain None None = named_plainly (value line (codes "output")) plain

pub HavePlainNames-right : (line : Line) → is_wrong line ≡ false → HavePlainNames (options_of line)
unfolding options_of
HavePlainNames-right line right = record {
  file = file_plain line right (number_of line (codes "x-source") 1 200) (value line (codes "x-run"));
  dir = named_plainly (value line (codes "include")) (names_not_odd line right).1;
  output = λ three told given.
      written_plain line right
      (output_plain line right (three_asked (asks_for_three line) three) (not_flag (has_flag line (codes "no-debug-info")) told) given)
      (number_of line (codes "x-source") 1 200) (value line (codes "x-run"));
}

pub HavePlainNames-words : (words : List (List ℕ)) → words_fault words ≡ None → HavePlainNames (options_of (line_of words))
unfolding words_fault
HavePlainNames-words words none = HavePlainNames-right (line_of words) (by (is_refused words) (is_wrong (line_of words)) none)
  where
    by : (refused wrong : Bool) → (if refused || wrong then Some Usage else None) ≡ None → wrong ≡ false
    by true wrong is = absurd cc
    by false true is = absurd cc
    by false false is = refl
