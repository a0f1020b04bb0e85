-- Texts of sources without marks, and of lines that tell a file.
use Rattle.std.proofs.Common.{◌≡◌, ℕ, zero, suc, List, [], ◌∷◌, ◌++◌, ◌∙◌, true, false, codes, Option, Some, None, refl, sym, ap, append_assoc}
use Rattle.std.specs.Prelude.{All, IfSome, slice_index_or, if◌then◌else◌, ◌==◌}
use Rattle.std.specs.List.{AllByRecursion}
use Rattle.std.proofs.lemmas.Bool.{false≢true}
use Rattle.std.proofs.lemmas.List.Elements.{recursion_from_All}
use Rattle.lx_base.specs.Letters.{begins_with}
use Rattle.lx_base.specs.declared.places.Pos.{Pos}
use Rattle.lx_ccode.specs.Marks.{HasNoBegin, IsUnmarkedLine, begins_piece}
use Rattle.lx_ccode.specs.declared.piece.LineMark.{LineMark}
use Rattle.lx_ccode.specs.Text.{escaped}
use Rattle.lx_ccode.proofs.BeginMarks.{Stops}
use Rattle.lx_ccode.proofs.Words.{is_false}
use Rattle.lx_creader.specs.Cut.{HasNoOpener}
use Rattle.lx_creader.proofs.BareParts.{HasPlainFile, OpensNowhere, OpensNowhere-text, has_no_opener-escaped, has_no_opener-nil, opens-stop}
use Rattle.lx_gen.specs.Generated.{Marks, mark_of}
use Rattle.lx_split.specs.Cuts.{HasNoMark}
use Rattle.lx_split.specs.Marks.{begins_mark}

pub not_begun : (bytes : List ℕ) → begins_mark bytes ≡ false → begins_piece bytes ≡ false
not_begun bytes none = is_false (begins_piece bytes) (λ is. false≢true (sym none ∙ rw is refl))

pub HasNoMark-behind : (text after : List ℕ) → HasNoMark (text ++ after) → HasNoMark after
HasNoMark-behind text after none front tail is =
    none (text ++ front) tail (ap (λ (l : List ℕ). text ++ l) is ∙ sym (append_assoc text front tail))

pub HasNoBegin-unmarked : (text after : List ℕ) → HasNoMark (text ++ after) → HasNoBegin text after
HasNoBegin-unmarked [] after none = tt
HasNoBegin-unmarked (letter ∷ text) after none =
    (not_begun (letter ∷ text ++ after) (none [] (letter ∷ text ++ after) refl), HasNoBegin-unmarked text after (HasNoMark-behind (letter ∷ []) (text ++ after) none))

-- ---- names of files

begins_with-front : (word more text : List ℕ) → begins_with (word ++ more) text ≡ true → begins_with word text ≡ true
begins_with-front [] more text h = refl
begins_with-front (letter ∷ word) more [] h = absurd (false≢true h)
begins_with-front (letter ∷ word) more (next ∷ text) h = elim (letter == next) as (λ same. (if same then begins_with (word ++ more) text else false) ≡ true → (if same then begins_with word text else false) ≡ true) [
  | true ↦ λ k. begins_with-front word more text k
  | false ↦ λ k. absurd (false≢true k)
] h

-- where no opener begins, no begin mark does
HasNoBegin-opens : (text behind : List ℕ) → Stops (codes "*!") behind → OpensNowhere text → HasNoBegin text behind
HasNoBegin-opens [] behind stops none = tt
HasNoBegin-opens (letter ∷ text) behind stops none = (
  is_false (begins_piece (letter ∷ text ++ behind)) (λ begins. false≢true (
      sym (opens-stop letter text behind stops none.0)
      ∙ begins_with-front (codes "/*!") (codes "begin:re2c") (letter ∷ text ++ behind) begins)),
  HasNoBegin-opens text behind stops none.1,
)

-- a line that tells a file in whose name no opener begins
pub IsUnmarkedLine-plain : (line : Option LineMark) → HasPlainFile line → IsUnmarkedLine line
IsUnmarkedLine-plain None plain = tt
IsUnmarkedLine-plain (Some mark) plain =
    HasNoBegin-opens (escaped mark.file) (codes "\"") refl (OpensNowhere-text (escaped mark.file) (has_no_opener-escaped mark.file plain))

-- in none of the names does an opener begin, whichever is told
abbrev pub ArePlain : (names : List (List ℕ)) → Type 0
ArePlain names = (index : ℕ) → HasNoOpener (slice_index_or names index [])

plain_names : (names : List (List ℕ)) → AllByRecursion HasNoOpener names → ArePlain names
plain_names [] plain index = has_no_opener-nil
plain_names (name ∷ names) plain zero = plain.0
plain_names (name ∷ names) plain (suc index) = plain_names names plain.1 index

pub ArePlain-all : (names : List (List ℕ)) → All HasNoOpener names → ArePlain names
ArePlain-all names plain = plain_names names (recursion_from_All HasNoOpener names plain)

-- so the lines of actions are plain
pub IsUnmarkedLine-mark : (marks : Marks) → IfSome marks ArePlain → (at : Pos) → IsUnmarkedLine (mark_of marks at)
IsUnmarkedLine-mark None plain at = tt
IsUnmarkedLine-mark (Some names) plain at =
    IsUnmarkedLine-plain (mark_of (Some names) at) (plain at.file)
