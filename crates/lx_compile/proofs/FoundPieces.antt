-- The piece of each block is found by its number, and that of the first scanner without one.
use Rattle.std.proofs.Common.{◌≡◌, ℕ, suc, ◌+◌, ◌≤◌, ◌∙◌, arith, true, List, [], ◌∷◌, ◌++◌, length, drop, take, Option, Some, None, refl, sym, ap, ap₂, subst}
use Rattle.std.specs.Prelude.{IfSome}
use Rattle.std.specs.List.{AllByRecursion}
use Rattle.std.proofs.Math.Seq.{drop-append_seam, take-append_seam}
use Rattle.std.proofs.lemmas.Bool.{false≢true}
use Rattle.lx_base.specs.Names.{Spellings}
use Rattle.lx_base.specs.declared.places.Pos.{Pos}
use Rattle.lx_base.specs.declared.settings.Options.{Options}
use Rattle.lx_ccode.specs.Text.{line_after}
use Rattle.lx_ccode.specs.Validity.{IsShort}
use Rattle.lx_creader.specs.Cut.{Answers, AreCut, HasNoOpener, OutputPart, part_text, parts_text}
use Rattle.lx_creader.specs.Marks.{IsFirstBegin}
use Rattle.lx_creader.proofs.Cuts.{cut_from, first_begin, parts_text-append}
use Rattle.lx_files.specs.declared.files.HeldFile.{HeldFile}
use Rattle.lx_split.specs.Includes.{expansion}
use Rattle.lx_compile.specs.Cut.{HaveNoScanner, IsFound, is_piece, is_scanner, number_after, output_part, output_parts}
use Rattle.lx_compile.specs.FirstFault.{setting_of}
use Rattle.lx_compile.specs.Made.{AreMade, IsMadeOf, Setting}
use Rattle.lx_compile.specs.Options.{names_output, out_name}
use Rattle.lx_compile.specs.Output.{IsOutput, last_names}
use Rattle.lx_compile.specs.Writing.{made_text, number_behind}
use Rattle.lx_compile.specs.declared.made.Made.{Made}
use Rattle.lx_compile.specs.declared.made.Made.TheVariants as made
use Rattle.lx_compile.specs.declared.parts.Content.{Content}
use Rattle.lx_compile.specs.declared.parts.Content.TheVariants.{Asks, Scanners}
use Rattle.lx_compile.specs.declared.parts.Part.{Part}
use Rattle.lx_compile.specs.declared.parts.Part.TheVariants.{Outside, Block}
use Rattle.lx_compile.proofs.LinesAfter.{line_after-append, line_after-nil, line_after-range}
use Rattle.lx_compile.proofs.OutputCuts.{cut-output, part_text-made}

-- no part is the piece that is asked for
abbrev NoneAnswers : Option ℕ → List OutputPart → Type 0
NoneAnswers block parts = AllByRecursion (λ (part : OutputPart). Answers block part → ⊥) parts

-- ---- the numbers of pieces

-- a piece of scanners has this number
abbrev HasNumber : (number : ℕ) → Made → Type 0
HasNumber number (made.Scanners piece checks warnings cover groups) = piece.number ≡ number
HasNumber number one = Unit {0}

-- pieces are numbered from here on
abbrev AreNumbered : (number : ℕ) → List Made → Type 0
AreNumbered number [] = Unit {0}
AreNumbered number (one ∷ some) = HasNumber number one × AreNumbered (number_behind number one) some

number_of_block : (setting : Setting) (number first_state next : ℕ) (at : Pos) (line : ℕ) (content : Content) (one : Made)
    → IsMadeOf setting number first_state next at line content one → HasNumber number one × (suc number ≡ number_behind number one)
number_of_block setting number first_state next at line (Scanners resolved) (made.Scanners piece checks warnings cover groups) is = (is.0.generated.fields.number, refl)
number_of_block setting number first_state next at line (Scanners resolved) (made.Outside text) is = absurd is
number_of_block setting number first_state next at line (Scanners resolved) (made.Bare place mark other) is = absurd is
number_of_block setting number first_state next at line (Asks directive) (made.Bare place mark other) is = (tt, refl)
number_of_block setting number first_state next at line (Asks directive) (made.Outside text) is = absurd is
number_of_block setting number first_state next at line (Asks directive) (made.Scanners piece checks warnings cover groups) is = absurd is

AreNumbered-made : (setting : Setting) (number first_state : ℕ) (parts : List Part) (some : List Made) → AreMade setting number first_state parts some
    → AreNumbered number some
AreNumbered-made setting number first_state [] [] given = tt
AreNumbered-made setting number first_state [] (one ∷ some) given = absurd given
AreNumbered-made setting number first_state (Outside text ∷ parts) [] given = absurd given
AreNumbered-made setting number first_state (Outside text ∷ parts) (made.Outside other ∷ some) given =
    (tt, AreNumbered-made setting number first_state parts some given.1)
AreNumbered-made setting number first_state (Outside text ∷ parts) (made.Scanners piece checks warnings cover groups ∷ some) given = absurd given
AreNumbered-made setting number first_state (Outside text ∷ parts) (made.Bare place mark other ∷ some) given = absurd given
AreNumbered-made setting number first_state (Block at line content ∷ parts) [] given = absurd given
AreNumbered-made setting number first_state (Block at line content ∷ parts) (one ∷ some) given =
    let first = number_of_block setting number first_state given.0 at line content one given.1 in
    (first.0, subst (λ (n : ℕ). AreNumbered n some) first.1 (AreNumbered-made setting (suc number) given.0 parts some given.2))

-- ---- the parts before a piece

-- the number of the piece behind these, if the first has this one
abbrev number_past : (number : ℕ) → List Made → ℕ
number_past number [] = number
number_past number (one ∷ some) = number_past (number_behind number one) some

number_past-least : (number : ℕ) (some : List Made) → number ≤ number_past number some
number_past-least number [] = omega arith
number_past-least number (made.Outside text ∷ some) = number_past-least number some
number_past-least number (made.Scanners piece checks warnings cover groups ∷ some) = omega (arith, number_past-least (suc number) some)
number_past-least number (made.Bare at line directive ∷ some) = omega (arith, number_past-least (suc number) some)

number_past-after : (number : ℕ) (some : List Made) → number_past number some + 1 ≡ number + number_after some
number_past-after number [] = refl
number_past-after number (made.Outside text ∷ some) = number_past-after number some
number_past-after number (made.Scanners piece checks warnings cover groups ∷ some) = omega (arith, number_past-after (suc number) some)
number_past-after number (made.Bare at line directive ∷ some) = omega (arith, number_past-after (suc number) some)

AreNumbered-past : (number : ℕ) (earlier rest : List Made) → AreNumbered number (earlier ++ rest) → AreNumbered (number_past number earlier) rest
AreNumbered-past number [] rest numbered = numbered
AreNumbered-past number (one ∷ earlier) rest numbered = AreNumbered-past (number_behind number one) earlier rest numbered.1

module _ (names : Spellings) (out : List ℕ) (all : List Made) where
  -- the line behind these, if the first has this number and begins in this line
  abbrev line_past : (number line : ℕ) → List Made → ℕ
  line_past number line [] = line
  line_past number line (one ∷ some) = line_past (number_behind number one) (line_after line (made_text names out all number line one)) some

  line_past-after : (number line : ℕ) (some : List Made) → line ≤ 4294967295
      → line_past number line some ≡ line_after line (parts_text (output_parts names out all number line some))
  line_past-after number line [] range = sym (line_after-nil line range)
  line_past-after number line (one ∷ some) range =
      let text : List ℕ = made_text names out all number line one in
      let next : ℕ = line_after line text in
      let rest : List ℕ = parts_text (output_parts names out all (number_behind number one) next some) in
      line_past-after (number_behind number one) next some (line_after-range line text) ∙ line_after-append line text rest
      ∙ ap (λ (l : List ℕ). line_after line (l ++ rest)) (sym (part_text-made names out all number line one))

  output_parts-append : (number line : ℕ) (earlier rest : List Made)
      → output_parts names out all number line (earlier ++ rest)
      ≡ output_parts names out all number line earlier
      ++ output_parts names out all (number_past number earlier) (line_past number line earlier) rest
  output_parts-append number line [] rest = refl
  output_parts-append number line (one ∷ earlier) rest =
      ap (λ (l : List OutputPart). output_part names out all number line one ∷ l)
      (output_parts-append (number_behind number one) (line_after line (made_text names out all number line one)) earlier rest)

  others_answer : (asked number line : ℕ) (earlier rest : List Made) → number_past number earlier ≤ asked
      → AreNumbered number (earlier ++ rest) → NoneAnswers (Some asked) (output_parts names out all number line earlier)
  others_answer asked number line [] rest within numbered = tt
  others_answer asked number line (made.Outside text ∷ earlier) rest within numbered =
      let next : ℕ = line_after line text in
      (λ is. is, others_answer asked number next earlier rest within numbered.1)
  others_answer asked number line (made.Scanners piece checks warnings cover groups ∷ earlier) rest within numbered =
      let least = number_past-least (suc number) earlier in
      let same : piece.number ≡ number = numbered.0 in
      let next : ℕ = line_after line (made_text names out all number line (made.Scanners piece checks warnings cover groups)) in
      (λ is. omega (arith, within, least, same, is), others_answer asked (suc number) next earlier rest within numbered.1)
  others_answer asked number line (made.Bare at mark directive ∷ earlier) rest within numbered =
      let least = number_past-least (suc number) earlier in
      let next : ℕ = line_after line (made_text names out all number line (made.Bare at mark directive)) in
      (λ is. omega (arith, within, least, is), others_answer asked (suc number) next earlier rest within numbered.1)

  no_scanner_answers : (number line : ℕ) (earlier : List Made) → HaveNoScanner earlier
      → NoneAnswers None (output_parts names out all number line earlier)
  no_scanner_answers number line [] none = tt
  no_scanner_answers number line (made.Outside text ∷ earlier) none =
      let next : ℕ = line_after line text in
      (λ is. is, no_scanner_answers number next earlier none.1)
  no_scanner_answers number line (made.Scanners piece checks warnings cover groups ∷ earlier) none = absurd (false≢true (sym none.0))
  no_scanner_answers number line (made.Bare at mark directive ∷ earlier) none =
      let next : ℕ = line_after line (made_text names out all number line (made.Bare at mark directive)) in
      (λ is. is, no_scanner_answers (suc number) next earlier none.1)

  -- ---- the piece

  answers-number : (number line : ℕ) (one : Made) → HasNumber number one → is_piece one ≡ true
      → Answers (Some number) (output_part names out all number line one)
  answers-number number line (made.Outside text) numbered is = absurd (false≢true is)
  answers-number number line (made.Scanners piece checks warnings cover groups) numbered is = numbered
  answers-number number line (made.Bare at mark directive) numbered is = refl

  answers-scanner : (number line : ℕ) (one : Made) → is_scanner one ≡ true → Answers None (output_part names out all number line one)
  answers-scanner number line (made.Outside text) is = absurd (false≢true is)
  answers-scanner number line (made.Scanners piece checks warnings cover groups) is = tt
  answers-scanner number line (made.Bare at mark directive) is = absurd (false≢true is)

  short_number : (number line : ℕ) (one : Made) (rest : List OutputPart) → HasNumber number one → is_piece one ≡ true
      → AreCut (output_part names out all number line one ∷ rest) → IsShort number
  short_number number line (made.Outside text) rest numbered is cut = absurd (false≢true is)
  short_number number line (made.Scanners piece checks warnings cover groups) rest numbered is cut =
      let same : piece.number ≡ number = numbered in let short = cut.0.range.number in omega (arith, same, short)
  short_number number line (made.Bare at mark directive) rest numbered is cut = cut.0

  -- the line behind the parts at the front of an output
  line_behind_front : (front : List ℕ) (rest output : List ℕ) (line : ℕ) → output ≡ front ++ rest → line ≡ line_after 1 front
      → line ≡ line_after 1 (take (length front) output)
  line_behind_front front rest output line text is =
      is ∙ ap (line_after 1) (sym (ap (take (length front)) text ∙ take-append_seam front rest))

  found_behind : (number line : ℕ) (earlier : List Made) (one : Made) (more : List Made) (output : List ℕ) → number ≡ number_past 1 earlier
      → line ≡ line_past 1 1 earlier → AreNumbered 1 (earlier ++ one ∷ more)
      → AreCut (output_parts names out all 1 1 earlier ++ output_parts names out all number line (one ∷ more))
      → output ≡ parts_text (output_parts names out all 1 1 earlier ++ output_parts names out all number line (one ∷ more))
      → number ≡ number_after earlier → IsFound names out all earlier one output
  found_behind number line earlier one more output past line_is numbered cut text after =
      let front : List OutputPart = output_parts names out all 1 1 earlier in
      let part : OutputPart = output_part names out all number line one in
      let rest : List OutputPart =
      output_parts names out all (number_behind number one) (line_after line (made_text names out all number line one)) more in
      let own : HasNumber number one =
      (subst (λ (n : ℕ). AreNumbered n (one ∷ more)) (sym past) (AreNumbered-past 1 earlier (one ∷ more) numbered)).0 in
      let within : number_past 1 earlier ≤ number = omega (arith, past) in
      let whole : output ≡ parts_text front ++ parts_text (part ∷ rest) = text ∙ parts_text-append front (part ∷ rest) in
      let begins : line ≡ line_after 1 (take (length (parts_text front)) output) =
      line_behind_front (parts_text front) (parts_text (part ∷ rest)) output line whole
      (line_is ∙ line_past-after 1 1 earlier (omega arith)) in
      record {
        offset = length (parts_text front);
        rest = parts_text rest;
        stands = ap (drop (length (parts_text front))) whole
            ∙ drop-append_seam (parts_text front) (parts_text (part ∷ rest))
            ∙ ap₂ (λ (n : ℕ) (l : ℕ). part_text (output_part names out all n l one) ++ parts_text rest) after begins;
        first = λ is.
            subst (λ (n : ℕ). IsFirstBegin (Some n) output (length (parts_text front))) after
            (subst (λ (l : List ℕ). IsFirstBegin (Some number) l (length (parts_text front))) (sym text)
            (first_begin (Some number) front part rest (short_number number line one rest own is (cut_from front (part ∷ rest) cut)) cut
            (others_answer number 1 1 earlier (one ∷ more) within numbered) (answers-number number line one own is)));
        first_scanner = λ none is.
            subst (λ (l : List ℕ). IsFirstBegin None l (length (parts_text front))) (sym text)
            (first_begin None front part rest tt cut (no_scanner_answers 1 1 earlier none) (answers-scanner number line one is));
      }

pub is_found : (options : Options) (seen : List HeldFile) (main output : List ℕ) (made : List Made) → HasNoOpener main → IfSome options.dir HasNoOpener
    → (names_output options ≡ true → HasNoOpener (out_name options)) → (is : IsOutput options seen main made output)
    → (earlier : List Made) (one : Made) (more : List Made) → made ≡ earlier ++ one ∷ more
    → IsFound (last_names is) (out_name options) made earlier one output
is_found options seen main output made main_plain dir_plain out_plain is earlier one more whole =
    let names : Spellings = last_names is in
    let out : List ℕ = out_name options in
    let cut = cut-output options seen main output made main_plain dir_plain out_plain is in
    let number : ℕ = number_past 1 earlier in
    let line : ℕ = line_past names out made 1 1 earlier in
    let after : number ≡ number_after earlier = omega (arith, number_past-after 1 earlier) in
    let parts : output_parts names out made 1 1 made
    ≡ output_parts names out made 1 1 earlier ++ output_parts names out made number line (one ∷ more) =
    ap (output_parts names out made 1 1) whole ∙ output_parts-append names out made 1 1 earlier (one ∷ more) in
    let setting : Setting = setting_of options (expansion options seen main).met.names is.is.parts in
    let numbered : AreNumbered 1 (earlier ++ one ∷ more) =
    subst (AreNumbered 1) whole (AreNumbered-made setting 1 0 is.is.parts made is.is.made_are) in
    found_behind names out made number line earlier one more output refl refl numbered (subst AreCut parts cut.0)
    (cut.1 ∙ ap parts_text parts) after
