-- What text of format 3 asks of names beside: no tag is called as the table of sets, and no label of a condition begins as those of blocks do.
use Rattle.std.specs.Prelude.{◌≡◌, ℕ, ◌+◌, ◌<◌, ◌||◌, ◌&&◌, ◌==◌, ◌^◌, Bool, true, false, List, [], ◌∷◌, ◌++◌, codes, length, Option, Some, None, IfSome, refl, if◌then◌else◌, nat_eq, nat_lt}
use Rattle.std.proofs.Common.{sym, ap, ◌∙◌, subst, arith}
use Rattle.std.specs.Fmt.{decimal}
use Rattle.std.specs.List.{AllByRecursion, list_any}
use Rattle.std.proofs.lemmas.Bool.{eqb-true, false≢true, lt-ltb}
use Rattle.std.proofs.lemmas.Fmt.{decimal_is_IsNumeral}
use Rattle.lx_auto.specs.declared.automaton.Auto.{Auto}
use Rattle.lx_base.specs.Letters.{after_letters, begins_with, front_letters, is_digit}
use Rattle.lx_base.specs.Names.{Spellings, begins_table, label_prefix}
use Rattle.lx_base.specs.declared.settings.Enc.{Enc}
use Rattle.lx_base.specs.declared.settings.Format.{Format}
use Rattle.lx_base.specs.declared.settings.Format.TheVariants.{Two, Three}
use Rattle.lx_ccode.specs.Heads.{is_format_three}
use Rattle.lx_ccode.specs.Labels.{block_front, is_like_block}
use Rattle.lx_ccode.proofs.Words.{behind-stop, decimal_digits, front-stop}
use Rattle.lx_regex.specs.declared.rules.Rule.{Rule}
use Rattle.lx_regex.specs.declared.rules.Tag.{Tag}
use Rattle.lx_rules.specs.Blocks.{begins_block_label}
use Rattle.lx_rules.specs.Numbered.{numbered_act}
use Rattle.lx_rules.specs.WellFormed.{IsLabeledApart, NamesNoTable}
use Rattle.lx_rules.specs.declared.resolved.Act.{Act}
use Rattle.lx_rules.specs.declared.resolved.Scanner.{Scanner}
use Rattle.lx_layout.specs.Pieces.{conds_of, onto_conds}
use Rattle.lx_layout.specs.Rules.{names_of}
use Rattle.lx_gen.specs.Generated.{AreAutomata, Marks, act_ending, endings_by, sources_of}

pub is_format_three-three : (format : Format) → is_format_three format ≡ true → format ≡ Three
is_format_three-three Two is = absurd (false≢true is)
is_format_three-three Three is = refl

-- ---- tags

names_without_table : (tags : List Tag) → AllByRecursion (λ (tag : Tag). begins_table tag.name ≡ false) tags → list_any begins_table (names_of tags) ≡ false
names_without_table [] none = refl
names_without_table (tag ∷ tags) none = ap (λ t. t || list_any begins_table (names_of tags)) none.0 ∙ names_without_table tags none.1

act_without_table : (marks : Marks) (rule : Rule) (act : Option Act) → NamesNoTable rule
    → list_any begins_table (act_ending marks rule act).tags ≡ false
act_without_table marks rule None none = refl
act_without_table marks rule (Some act) none = names_without_table rule.tags none

pub endings_without_table : (marks : Marks) (acts : List Act) (rules : List Rule) → AllByRecursion NamesNoTable rules → (number : ℕ)
    → list_any begins_table (endings_by marks acts rules number).tags ≡ false
endings_without_table marks acts [] none number = refl
endings_without_table marks acts (rule ∷ rules) none number = by (nat_eq number rule.number) (endings_without_table marks acts rules none.1 number)
  where
    act : Option Act
    act = numbered_act acts number

    by : (t : Bool) → list_any begins_table (endings_by marks acts rules number).tags ≡ false
        → list_any begins_table (if t then act_ending marks rule act else endings_by marks acts rules number).tags ≡ false
    by true again = act_without_table marks rule act none.0
    by false again = again

-- ---- labels of conditions

begins_with-split : (front behind word : List ℕ) → begins_with (front ++ behind) word ≡ true
    → (rest : List ℕ) × (word ≡ front ++ rest) × (begins_with behind rest ≡ true)
begins_with-split [] behind word is = (word, refl, is)
begins_with-split (letter ∷ front) behind [] is = absurd (false≢true is)
begins_with-split (letter ∷ front) behind (other ∷ word) is = by (letter == other) refl is (begins_with-split front behind word)
  where
    by : (t : Bool) → (letter == other) ≡ t → (if t then begins_with (front ++ behind) word else false) ≡ true
        → (begins_with (front ++ behind) word ≡ true → (rest : List ℕ) × (word ≡ front ++ rest) × (begins_with behind rest ≡ true))
        → (rest : List ℕ) × (other ∷ word ≡ letter ∷ (front ++ rest)) × (begins_with behind rest ≡ true)
    by false e is split = absurd (false≢true is)
    by true e is split =
        let again = split is in
        let same : letter ≡ other = eqb-true letter other e in
        (again.0, ap (λ (first : ℕ). first ∷ word) (sym same) ∙ ap (λ l. letter ∷ l) again.1, again.2)

-- behind `yy` and the number of a piece with `_` a label begins as that of a block
begins_block_label-front : (number : ℕ) (rest : List ℕ) → number < 2 ^ 64 → begins_block_label (codes "yy" ++ (decimal number ++ 95 ∷ rest)) ≡ true
begins_block_label-front number rest short =
    rw (
      front-stop is_digit (decimal number) 95 rest (decimal_digits number short) refl,
      behind-stop is_digit (decimal number) 95 rest (decimal_digits number short) refl,
      lt-ltb 0 (length (decimal number)) (decimal_is_IsNumeral number short).0.0,
    ) refl

is_like_block-begins : (number : ℕ) (names : Spellings) (cond : List ℕ) → number < 2 ^ 64 → is_like_block number names cond ≡ true
    → begins_block_label (label_prefix names ++ cond) ≡ true
is_like_block-begins number names cond short is =
    let yy = begins_with-split (codes "yy") (decimal number ++ codes "_") (label_prefix names ++ cond) is in
    let digits = begins_with-split (decimal number) (codes "_") yy.0 yy.2 in
    let last = begins_with-split (codes "_") [] digits.0 digits.2 in
    let whole : label_prefix names ++ cond ≡ codes "yy" ++ (decimal number ++ 95 ∷ last.0) =
    yy.1 ∙ ap (λ l. codes "yy" ++ l) (digits.1 ∙ ap (λ l. decimal number ++ l) last.1) in
    ap begins_block_label whole ∙ begins_block_label-front number last.0 short

is_like_block-apart : (number : ℕ) (names : Spellings) (cond : List ℕ) → number < 2 ^ 64 → begins_block_label (label_prefix names ++ cond) ≡ false
    → is_like_block number names cond ≡ false
is_like_block-apart number names cond short apart = by (is_like_block number names cond) refl
  where
    by : (t : Bool) → is_like_block number names cond ≡ t → t ≡ false
    by true is = absurd (false≢true (sym apart ∙ is_like_block-begins number names cond short is))
    by false is = refl

pub labels_apart : (enc : Enc) (marks : Marks) (acts : List Act) (number : ℕ) (names : Spellings) (scanners : List Scanner) (autos : List Auto)
    (checks : List (List ℕ)) → number < 2 ^ 64 → AreAutomata enc scanners autos checks → AllByRecursion (IsLabeledApart names) scanners
    → list_any (is_like_block number names) (conds_of (sources_of marks acts scanners autos checks)) ≡ false
labels_apart enc marks acts number names [] autos checks short are apart = refl
labels_apart enc marks acts number names (scanner ∷ scanners) (auto ∷ autos) (list ∷ checks) short are apart =
    by scanner.cond apart.0 (labels_apart enc marks acts number names scanners autos checks short are.2 apart.1)
  where
    rest : List (List ℕ)
    rest = conds_of (sources_of marks acts scanners autos checks)

    by : (o : Option (List ℕ)) → IfSome o (λ cond. begins_block_label (label_prefix names ++ cond) ≡ false)
        → list_any (is_like_block number names) rest ≡ false → list_any (is_like_block number names) (onto_conds o rest) ≡ false
    by None apart again = again
    by (Some cond) apart again =
        ap (λ t. t || list_any (is_like_block number names) rest) (is_like_block-apart number names cond short apart) ∙ again
labels_apart enc marks acts number names (scanner ∷ scanners) (auto ∷ autos) [] short are apart = absurd are
labels_apart enc marks acts number names (scanner ∷ scanners) [] (list ∷ checks) short are apart = absurd are
labels_apart enc marks acts number names (scanner ∷ scanners) [] [] short are apart = absurd are

-- ---- scanners

-- in text of format 3 no tag of the scanner's rules is called as the table of sets
abbrev pub IsFreeOfTable : Format → Scanner → Type 0
IsFreeOfTable format scanner = is_format_three format ≡ true → AllByRecursion NamesNoTable scanner.set.rules

pub IsFreeOfTable-each : (format : Format) (scanners : List Scanner)
    → (format ≡ Three → AllByRecursion (λ (scanner : Scanner). AllByRecursion NamesNoTable scanner.set.rules) scanners)
    → AllByRecursion (IsFreeOfTable format) scanners
IsFreeOfTable-each format [] free = tt
IsFreeOfTable-each format (scanner ∷ scanners) free =
    (λ three. (free (is_format_three-three format three)).0, IsFreeOfTable-each format scanners (λ three. (free three).1))

-- what holds of each, and another thing that does, hold of each together
pub both_each : {A : Type 0} (P Q : A → Type 0) (list : List A) → AllByRecursion P list → AllByRecursion Q list → AllByRecursion (λ (one : A). P one × Q one) list
both_each P Q [] first second = tt
both_each P Q (one ∷ list) first second = ((first.0, second.0), both_each P Q list first.1 second.1)
