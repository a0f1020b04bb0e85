-- Outputs are cut in one way, and begin marks stand where pieces do.
use Rattle.std.proofs.Common.{◌≡◌, ◌≢◌, ◌⊎◌, ℕ, zero, suc, ◌-◌, ◌<◌, ◌≤◌, ◌^◌, ◌∙◌, arith, inl, inr, Bool, true, false, List, [], ◌∷◌, ◌++◌, length, drop, codes, Option, Some, None, refl, sym, ap, subst, append_assoc}
use Rattle.std.specs.Fmt.{decimal}
use Rattle.std.specs.Str.Parse.{digits_value}
use Rattle.std.specs.Prelude.{IfSome}
use Rattle.std.specs.List.{AllByRecursion}
use Rattle.std.proofs.Math.Seq.{drop-append_seam}
use Rattle.std.proofs.lemmas.Bool.{cases_lt, false≢true}
use Rattle.std.proofs.lemmas.List.{append_cancel_left, length-append}
use Rattle.lx_base.specs.Letters.{begins_with, is_digit, after_letters, front_letters}
use Rattle.lx_ccode.specs.Front.{IsPlaced}
use Rattle.lx_ccode.specs.Heads.{head_then}
use Rattle.lx_ccode.specs.Marks.{HasNoBegin, begins_piece}
use Rattle.lx_ccode.specs.Reading.{piece_at}
use Rattle.lx_ccode.specs.Text.{piece_text, piece_then}
use Rattle.lx_ccode.specs.Validity.{IsShort, IsValid}
use Rattle.lx_ccode.specs.declared.piece.Head.{Head}
use Rattle.lx_ccode.specs.declared.piece.LineMark.{LineMark}
use Rattle.lx_ccode.specs.declared.piece.Piece.{Piece}
use Rattle.lx_ccode.proofs.RoundTrip.{piece_at-text}
use Rattle.lx_ccode.proofs.Tails.{piece_text-append}
use Rattle.lx_ccode.proofs.Words.{behind-stop, decimal_digits, decimal_value, front-stop}
use Rattle.lx_creader.specs.Cut.{Answers, AreCut, HasNoOpener, OutputPart, bare, begins_outside, outside, part_text, parts_text, scanner}
use Rattle.lx_creader.specs.Marks.{BeginsBlock, IsFirstBegin, begin_mark, scanner_line}
use Rattle.lx_creader.proofs.BareParts.{OpensNowhere, OpensNowhere-text, bare-then, opens-stop}

-- ---- numbers before another byte than a digit

digits-star : (number : ℕ) (tail : List ℕ) → IsShort number → front_letters is_digit (decimal number ++ 42 ∷ tail) ≡ decimal number
digits-star number tail h = front-stop is_digit (decimal number) 42 tail (decimal_digits number (omega (arith, h))) refl

behind-star : (number : ℕ) (tail : List ℕ) → IsShort number → after_letters is_digit (decimal number ++ 42 ∷ tail) ≡ 42 ∷ tail
behind-star number tail h = behind-stop is_digit (decimal number) 42 tail (decimal_digits number (omega (arith, h))) refl

decimal-one : (number other : ℕ) → IsShort number → IsShort other → decimal number ≡ decimal other → number ≡ other
decimal-one number other h k same =
    sym (decimal_value number (omega (arith, h))) ∙ ap (λ (l : List ℕ). digits_value 10 l) same ∙ decimal_value other (omega (arith, k))

numbers-one : (number other : ℕ) (tail rest : List ℕ) → IsShort number → IsShort other → decimal number ++ 42 ∷ tail ≡ decimal other ++ 42 ∷ rest
    → (number ≡ other) × (tail ≡ rest)
numbers-one number other tail rest h k same = (
  decimal-one number other h k (sym (digits-star number tail h) ∙ ap (front_letters is_digit) same ∙ digits-star other rest k),
  (let both : 42 ∷ tail ≡ 42 ∷ rest = sym (behind-star number tail h) ∙ ap (after_letters is_digit) same ∙ behind-star other rest k in cc),
)

-- ---- what begins at a place

pub HasNoBegin-at : (text after : List ℕ) → HasNoBegin text after → (place : ℕ) → place < length text → begins_piece (drop place (text ++ after)) ≡ false
HasNoBegin-at [] after none place within = absurd (omega (arith, within))
HasNoBegin-at (letter ∷ text) after none zero within = none.0
HasNoBegin-at (letter ∷ text) after none (suc place) within = HasNoBegin-at text after none.1 place (omega (arith, within))

begins-block : (block : Option ℕ) (bytes : List ℕ) → BeginsBlock block bytes → begins_piece bytes ≡ true
begins-block (Some number) bytes begins = subst (λ (l : List ℕ). begins_piece l ≡ true) (sym begins.1) refl
begins-block None bytes begins = subst (λ (l : List ℕ). begins_piece l ≡ true) (sym begins.4) refl

-- nothing, or a begin mark
abbrev Starts : List ℕ → Type 0
Starts bytes = (bytes ≡ []) ⊎ (begins_piece bytes ≡ true)

not_both : (bytes : List ℕ) (letter : ℕ) (text after : List ℕ) → Starts bytes → bytes ≡ letter ∷ text ++ after → begins_piece (letter ∷ text ++ after) ≡ false → ⊥
not_both bytes letter text after (inl none) same free = let h : [] ≡ letter ∷ text ++ after = sym none ∙ same in cc
not_both bytes letter text after (inr begins) same free = false≢true (sym free ∙ subst (λ (l : List ℕ). begins_piece l ≡ true) same begins)

-- texts in which no begin mark begins end where the first one does
text-one : (text other after after_letters : List ℕ) → Starts after → Starts after_letters → HasNoBegin text after → HasNoBegin other after_letters → text ++ after ≡ other ++ after_letters → text ≡ other
text-one [] [] after after_letters first second none free same = refl
text-one [] (letter ∷ other) after after_letters first second none free same = absurd (not_both after letter other after_letters first same free.0)
text-one (letter ∷ text) [] after after_letters first second none free same = absurd (not_both after_letters letter text after second (sym same) none.0)
text-one (letter ∷ text) (next ∷ other) after after_letters first second none free same =
    let head : letter ≡ next = (let h = same in cc) in
    let tail : text ++ after ≡ other ++ after_letters = (let h = same in cc) in
    let rest : text ≡ other = text-one text other after after_letters first second none.1 free.1 tail in
    ap (λ (l : List ℕ). letter ∷ l) rest ∙ ap (λ (l : ℕ). l ∷ other) head

parts_text-starts : (parts : List OutputPart) → begins_outside parts ≡ false → Starts (parts_text parts)
parts_text-starts [] none = inl refl
parts_text-starts (outside text ∷ parts) none = absurd (false≢true (sym none))
parts_text-starts (scanner place piece ∷ parts) none = inr refl
parts_text-starts (bare number inner ∷ parts) none = inr refl

-- ---- pieces

-- behind the line of a scanner's begin mark stands a mark that is no end mark
abbrev IsOtherMark : List ℕ → Type 0
IsOtherMark bytes = (begins_with (codes "/*!") bytes ≡ true) × (begins_with (codes "/*!e") bytes ≡ false)

head_mark : (kept : Bool) (head : Option Head) (text : List ℕ) → IsOtherMark (head_then kept head (codes "/*!names:re2c " ++ text))
head_mark kept None text = (refl, refl)
head_mark kept (Some head) text = (refl, refl)

line_mark : (headed : Bool) (rest : List ℕ) → IsOtherMark (drop 1 (scanner_line headed ++ rest))
line_mark false rest = (refl, refl)
line_mark true rest = (refl, refl)

-- none stands behind that of a piece without a scanner
no_other_mark : (inner tail bytes : List ℕ) → OpensNowhere inner → IsOtherMark bytes → bytes ≡ inner ++ (codes "/*!end:re2c*/" ++ tail) → ⊥
no_other_mark [] tail bytes none mark same = false≢true (sym mark.1 ∙ ap (begins_with (codes "/*!e")) same)
no_other_mark (letter ∷ inner) tail bytes none mark same =
    false≢true (sym (opens-stop letter inner (codes "/*!end:re2c*/" ++ tail) refl none.0)
    ∙ sym (ap (begins_with (codes "/*!")) same) ∙ mark.0)

-- a head line or the line of the spellings stands there
line_begins : (kept : Bool) (head : Option Head) (number : ℕ) (bytes text : List ℕ) → number < 2 ^ 32
    → bytes ≡ begin_mark number ++ (codes "\n" ++ head_then kept head (codes "/*!names:re2c " ++ text)) → BeginsBlock None bytes
line_begins kept None number bytes text h e = (number, h, false, text, e)
line_begins kept (Some head) number bytes text h e = (number, h, true, _, e)

-- a piece of a scanner is none without one
scanner-bare : (place : Option LineMark) (piece : Piece) (number : ℕ) (inner tail rest : List ℕ) → IsShort piece.number → IsShort number → HasNoOpener inner
    → piece_text place piece ++ tail ≡ part_text (bare number inner) ++ rest → ⊥
scanner-bare place piece number inner tail rest h k none same =
    let behind : List ℕ = codes "/\n" ++ (inner ++ (codes "/*!end:re2c*/" ++ rest)) in
    let whole : piece_then place piece tail ≡ codes "/*!begin:re2c " ++ (decimal number ++ 42 ∷ behind) =
    sym (piece_text-append place piece tail) ∙ same ∙ bare-then number inner rest in
    let both = numbers-one piece.number number _ behind h k (ap (λ (l : List ℕ). drop 14 l) whole) in
    no_other_mark inner rest _ (OpensNowhere-text inner none) (head_mark _ piece.head _) (ap (λ (l : List ℕ). drop 2 l) both.1)

-- an opener stands at the front of an end mark, and not at that of a text in which none begins
no_opener_first : (letter : ℕ) (text tail rest : List ℕ) → begins_with (codes "/*!") (letter ∷ text) ≡ false
    → codes "/*!end:re2c*/" ++ rest ≡ letter ∷ text ++ (codes "/*!end:re2c*/" ++ tail) → ⊥
no_opener_first letter text tail rest none same =
    false≢true (sym (opens-stop letter text (codes "/*!end:re2c*/" ++ tail) refl none) ∙ sym (ap (begins_with (codes "/*!")) same))

-- texts in which no opener begins end where the first end mark begins
inner-one : (inner other tail rest : List ℕ) → OpensNowhere inner → OpensNowhere other
    → inner ++ (codes "/*!end:re2c*/" ++ tail) ≡ other ++ (codes "/*!end:re2c*/" ++ rest) → inner ≡ other
inner-one [] [] tail rest none free same = refl
inner-one [] (letter ∷ other) tail rest none free same = absurd (no_opener_first letter other rest tail free.0 same)
inner-one (letter ∷ inner) [] tail rest none free same = absurd (no_opener_first letter inner tail rest none.0 (sym same))
inner-one (letter ∷ inner) (next ∷ other) tail rest none free same =
    let head : letter ≡ next = (let h = same in cc) in
    let behind : inner ++ (codes "/*!end:re2c*/" ++ tail) ≡ other ++ (codes "/*!end:re2c*/" ++ rest) = (let h = same in cc) in
    ap (λ (l : List ℕ). letter ∷ l) (inner-one inner other tail rest none.1 free.1 behind) ∙ ap (λ (l : ℕ). l ∷ other) head

bare-one : (number other : ℕ) (inner next tail rest : List ℕ) → IsShort number → IsShort other → HasNoOpener inner → HasNoOpener next
    → part_text (bare number inner) ++ tail ≡ part_text (bare other next) ++ rest → (number ≡ other) × (inner ≡ next) × (tail ≡ rest)
bare-one number other inner next tail rest h k none free same =
    let end : List ℕ = codes "/*!end:re2c*/" in
    let whole = sym (bare-then number inner tail) ∙ same ∙ bare-then other next rest in
    let both = numbers-one number other (codes "/\n" ++ (inner ++ (end ++ tail))) (codes "/\n" ++ (next ++ (end ++ rest))) h k
    (ap (λ (l : List ℕ). drop 14 l) whole) in
    let behind : inner ++ (end ++ tail) ≡ next ++ (end ++ rest) = ap (λ (l : List ℕ). drop 2 l) both.1 in
    let inner_is : inner ≡ next = inner-one inner next tail rest (OpensNowhere-text inner none) (OpensNowhere-text next free) behind in (
      both.0,
      inner_is,
      append_cancel_left end tail rest (append_cancel_left inner (end ++ tail) (end ++ rest)
          (behind ∙ ap (λ (l : List ℕ). l ++ (end ++ rest)) (sym inner_is))),
    )

scanner-one : (place mark : Option LineMark) (piece other : Piece) (tail rest : List ℕ) → IsValid piece → IsPlaced place piece → IsValid other → IsPlaced mark other
    → piece_text place piece ++ tail ≡ piece_text mark other ++ rest → (place ≡ mark) × (piece ≡ other) × (tail ≡ rest)
scanner-one place mark piece other tail rest valid placed right stands same =
    let read : (piece, place, tail) ≡ (other, mark, rest) =
    sym (piece_at-text place piece tail valid placed) ∙ ap piece_at same ∙ piece_at-text mark other rest right stands in (
      ap (λ (found : Piece × Option LineMark × List ℕ). found.1) read,
      ap (λ (found : Piece × Option LineMark × List ℕ). found.0) read,
      ap (λ (found : Piece × Option LineMark × List ℕ). found.2) read,
    )

-- ---- one cut

outside-begins : (text after : List ℕ) (bytes : List ℕ) → text ≢ [] → HasNoBegin text after → begins_piece bytes ≡ true → text ++ after ≡ bytes → ⊥
outside-begins [] after bytes some none begins same = some refl
outside-begins (letter ∷ text) after bytes some none begins same =
    false≢true (sym none.0 ∙ subst (λ (l : List ℕ). begins_piece l ≡ true) (sym same) begins)

not_empty : (text after : List ℕ) → text ≢ [] → text ++ after ≡ [] → ⊥
not_empty [] after some same = some refl
not_empty (letter ∷ text) after some same = cc

pub AreCut-one : (parts other : List OutputPart) → AreCut parts → AreCut other → parts_text parts ≡ parts_text other → parts ≡ other
AreCut-one [] [] cut more same = refl
AreCut-one [] (outside text ∷ other) cut more same = absurd (not_empty text (parts_text other) more.0 (sym same))
AreCut-one [] (scanner place piece ∷ other) cut more same = absurd cc
AreCut-one [] (bare number inner ∷ other) cut more same = absurd cc
AreCut-one (outside text ∷ parts) [] cut more same = absurd (not_empty text (parts_text parts) cut.0 same)
AreCut-one (scanner place piece ∷ parts) [] cut more same = absurd cc
AreCut-one (bare number inner ∷ parts) [] cut more same = absurd cc
AreCut-one (outside text ∷ parts) (outside next ∷ other) cut more same =
    let text_is : text ≡ next = text-one text next (parts_text parts) (parts_text other) (parts_text-starts parts cut.1) (parts_text-starts other more.1) cut.2 more.2 same in
    let rest : parts_text parts ≡ parts_text other = append_cancel_left text (parts_text parts) (parts_text other) (same ∙ ap (λ (l : List ℕ). l ++ parts_text other) (sym text_is)) in
    ap (λ (l : List ℕ). outside l ∷ parts) text_is ∙ ap (λ (l : List OutputPart). outside next ∷ l) (AreCut-one parts other cut.3 more.3 rest)
AreCut-one (outside text ∷ parts) (scanner place piece ∷ other) cut more same =
    absurd (outside-begins text (parts_text parts) (parts_text (scanner place piece ∷ other)) cut.0 cut.2 refl same)
AreCut-one (outside text ∷ parts) (bare number inner ∷ other) cut more same =
    absurd (outside-begins text (parts_text parts) (parts_text (bare number inner ∷ other)) cut.0 cut.2 refl same)
AreCut-one (scanner place piece ∷ parts) (outside text ∷ other) cut more same =
    absurd (outside-begins text (parts_text other) (parts_text (scanner place piece ∷ parts)) more.0 more.2 refl (sym same))
AreCut-one (bare number inner ∷ parts) (outside text ∷ other) cut more same =
    absurd (outside-begins text (parts_text other) (parts_text (bare number inner ∷ parts)) more.0 more.2 refl (sym same))
AreCut-one (scanner place piece ∷ parts) (scanner mark next ∷ other) cut more same =
    let all = scanner-one place mark piece next (parts_text parts) (parts_text other) cut.0 cut.1 more.0 more.1 same in
    ap (λ (m : Option LineMark). scanner m piece ∷ parts) all.0 ∙ ap (λ (p : Piece). scanner mark p ∷ parts) all.1
    ∙ ap (λ (l : List OutputPart). scanner mark next ∷ l) (AreCut-one parts other cut.3 more.3 all.2)
AreCut-one (scanner place piece ∷ parts) (bare number inner ∷ other) cut more same =
    absurd (scanner-bare place piece number inner (parts_text parts) (parts_text other) cut.0.range.number more.0 more.1 same)
AreCut-one (bare number inner ∷ parts) (scanner place piece ∷ other) cut more same =
    absurd (scanner-bare place piece number inner (parts_text other) (parts_text parts) more.0.range.number cut.0 cut.1 (sym same))
AreCut-one (bare number inner ∷ parts) (bare next text ∷ other) cut more same =
    let all = bare-one number next inner text (parts_text parts) (parts_text other) cut.0 more.0 cut.1 more.1 same in
    ap (λ (n : ℕ). bare n inner ∷ parts) all.0 ∙ ap (λ (l : List ℕ). bare next l ∷ parts) all.1
    ∙ ap (λ (l : List OutputPart). bare next text ∷ l) (AreCut-one parts other cut.3 more.3 all.2)

-- ---- the first begin mark

-- the bytes from a place on, behind a text that ends before it
drop-behind : (text after : List ℕ) (place : ℕ) → length text ≤ place → drop place (text ++ after) ≡ drop (place - length text) after
drop-behind [] after place past = ap (λ (n : ℕ). drop n after) (omega (arith, past))
drop-behind (letter ∷ text) after zero past = absurd (omega (arith, past))
drop-behind (letter ∷ text) after (suc place) past =
    drop-behind text after place (omega (arith, past)) ∙ ap (λ (n : ℕ). drop n after) (omega (arith, past))

-- the number of a begin mark at the front of the bytes of one
mark_number : (number asked : ℕ) (after rest : List ℕ) → IsShort number → IsShort asked
    → codes "/*!begin:re2c " ++ (decimal number ++ 42 ∷ after) ≡ begin_mark asked ++ rest → (number ≡ asked) × (after ≡ 47 ∷ rest)
mark_number number asked after rest h k same =
    numbers-one number asked after (47 ∷ rest) h k (ap (λ (l : List ℕ). drop 14 l) same ∙ append_assoc (decimal asked) (codes "*/") rest)

-- a begin mark at the front of a piece is that of the piece
begins-scanner : (block : Option ℕ) (place : Option LineMark) (piece : Piece) (tail : List ℕ) → IfSome block IsShort → IsValid piece → BeginsBlock block (piece_text place piece ++ tail)
    → Answers block (scanner place piece)
begins-scanner None place piece tail short valid begins = tt
begins-scanner (Some number) place piece tail short valid begins =
    (mark_number piece.number number _ begins.0 valid.range.number short (sym (piece_text-append place piece tail) ∙ begins.1)).0

begins-bare : (block : Option ℕ) (number : ℕ) (inner tail : List ℕ) → IfSome block IsShort → IsShort number → HasNoOpener inner
    → BeginsBlock block (part_text (bare number inner) ++ tail) → Answers block (bare number inner)
begins-bare (Some asked) number inner tail short h none begins =
    (mark_number number asked (codes "/\n" ++ (inner ++ (codes "/*!end:re2c*/" ++ tail))) begins.0 h short
    (sym (bare-then number inner tail) ∙ begins.1)).0
begins-bare None number inner tail short h none begins =
    let both = mark_number number begins.0 (codes "/\n" ++ (inner ++ (codes "/*!end:re2c*/" ++ tail))) (scanner_line begins.2 ++ begins.3)
    h (omega (arith, begins.1)) (sym (bare-then number inner tail) ∙ begins.4) in
    no_other_mark inner tail (drop 1 (scanner_line begins.2 ++ begins.3)) (OpensNowhere-text inner none) (line_mark begins.2 begins.3)
    (sym (ap (λ (l : List ℕ). drop 2 l) both.1))

-- within a part that is not asked for, the block begins at no place
within-one : (block : Option ℕ) (part : OutputPart) (parts : List OutputPart) → IfSome block IsShort → AreCut (part ∷ parts) → (Answers block part → ⊥)
    → (place : ℕ) → place < length (part_text part) → BeginsBlock block (drop place (part_text part ++ parts_text parts)) → ⊥
within-one block (outside text) parts short cut none place within begins =
    false≢true (sym (HasNoBegin-at text (parts_text parts) cut.2 place within) ∙ begins-block block (drop place (text ++ parts_text parts)) begins)
within-one block (scanner mark piece) parts short cut none zero within begins = none (begins-scanner block mark piece (parts_text parts) short cut.0 begins)
within-one block (scanner mark piece) parts short cut none (suc place) within begins =
    let size : length (piece_text mark piece) ≡ suc (length (drop 1 (piece_text mark piece))) = refl in
    false≢true (sym (HasNoBegin-at (drop 1 (piece_text mark piece)) (parts_text parts) cut.2 place (omega (arith, within, size)))
    ∙ begins-block block (drop place (drop 1 (piece_text mark piece) ++ parts_text parts)) begins)
within-one block (bare number inner) parts short cut none zero within begins =
    none (begins-bare block number inner (parts_text parts) short cut.0 cut.1 begins)
within-one block (bare number inner) parts short cut none (suc place) within begins =
    let behind : List ℕ = drop 1 (part_text (bare number inner)) in
    let size : length (part_text (bare number inner)) ≡ suc (length behind) = refl in
    false≢true (sym (HasNoBegin-at behind (parts_text parts) cut.2 place (omega (arith, within, size)))
    ∙ begins-block block (drop place (behind ++ parts_text parts)) begins)

cut-behind : (part : OutputPart) (parts : List OutputPart) → AreCut (part ∷ parts) → AreCut parts
cut-behind (outside text) parts cut = cut.3
cut-behind (scanner place piece) parts cut = cut.3
cut-behind (bare number inner) parts cut = cut.3

before-one : (block : Option ℕ) (parts rest : List OutputPart) → IfSome block IsShort → AreCut (parts ++ rest) → AllByRecursion (λ (part : OutputPart). Answers block part → ⊥) parts
    → (place : ℕ) → place < length (parts_text parts) → BeginsBlock block (drop place (parts_text (parts ++ rest))) → ⊥
before-one block [] rest short cut none place within begins = omega (arith, within)
before-one block (part ∷ parts) rest short cut none place within begins = elim (cases_lt place (length (part_text part))) [
  | inl inside ↦ within-one block part (parts ++ rest) short cut none.0 place inside begins
  | inr past ↦ before-one block parts rest short (cut-behind part (parts ++ rest) cut) none.1 (place - length (part_text part))
      (omega (arith, within, past, length-append (part_text part) (parts_text parts)))
      (subst (BeginsBlock block) (drop-behind (part_text part) (parts_text (parts ++ rest)) place past) begins)
]

pub parts_text-append : (parts rest : List OutputPart) → parts_text (parts ++ rest) ≡ parts_text parts ++ parts_text rest
parts_text-append [] rest = refl
parts_text-append (part ∷ parts) rest =
    ap (λ (l : List ℕ). part_text part ++ l) (parts_text-append parts rest) ∙ sym (append_assoc (part_text part) (parts_text parts) (parts_text rest))

mark-then : (number : ℕ) (after : List ℕ) → codes "/*!begin:re2c " ++ (decimal number ++ (codes "*/" ++ after)) ≡ begin_mark number ++ after
mark-then number after = ap (λ (l : List ℕ). codes "/*!begin:re2c " ++ l) (sym (append_assoc (decimal number) (codes "*/") after))

answers-begin : (block : Option ℕ) (part : OutputPart) (parts : List OutputPart) → AreCut (part ∷ parts) → Answers block part → BeginsBlock block (part_text part ++ parts_text parts)
answers-begin block (outside text) parts cut is = absurd is
answers-begin None (bare number inner) parts cut is = absurd is
answers-begin None (scanner place piece) parts cut is =
    line_begins _ piece.head piece.number (piece_text place piece ++ parts_text parts) _ (omega (arith, cut.0.range.number))
    (piece_text-append place piece (parts_text parts) ∙ mark-then piece.number _)
answers-begin (Some number) (scanner place piece) parts cut is =
    subst (λ (n : ℕ). BeginsBlock (Some n) (piece_text place piece ++ parts_text parts)) is (_, piece_text-append place piece (parts_text parts) ∙ mark-then piece.number _)
answers-begin (Some number) (bare other inner) parts cut is =
    let behind : List ℕ = codes "\n" ++ (inner ++ (codes "/*!end:re2c*/" ++ parts_text parts)) in
    subst (λ (n : ℕ). BeginsBlock (Some n) (part_text (bare other inner) ++ parts_text parts)) is
    (behind, bare-then other inner (parts_text parts) ∙ mark-then other behind)

pub cut_from : (first rest : List OutputPart) → AreCut (first ++ rest) → AreCut rest
cut_from [] rest is = is
cut_from (one ∷ first) rest is = cut_from first rest (cut-behind one (first ++ rest) is)

pub first_begin : (block : Option ℕ) (parts : List OutputPart) (part : OutputPart) (more : List OutputPart) → IfSome block IsShort → AreCut (parts ++ part ∷ more)
    → AllByRecursion (λ (earlier : OutputPart). Answers block earlier → ⊥) parts → Answers block part
    → IsFirstBegin block (parts_text (parts ++ part ∷ more)) (length (parts_text parts))
first_begin block parts part more short cut none is = record {
  begins = subst (BeginsBlock block) (sym here) (answers-begin block part more (cut_from parts (part ∷ more) cut) is);
  none_before = before-one block parts (part ∷ more) short cut none;
}
  where
    here : drop (length (parts_text parts)) (parts_text (parts ++ part ∷ more)) ≡ part_text part ++ parts_text more
    here = ap (λ (l : List ℕ). drop (length (parts_text parts)) l) (parts_text-append parts (part ∷ more)) ∙ drop-append_seam (parts_text parts) (parts_text (part ∷ more))
