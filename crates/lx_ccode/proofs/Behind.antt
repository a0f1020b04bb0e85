-- Texts at the front of bytes, and what stands behind them.
use Rattle.std.proofs.Common.{[], ◌++◌, ◌∙◌, ◌≡◌, Bor, IsTrue, List, MatchOption, None, Option, Some, ap, refl, sym, ℕ, ◌↔◌}
use Rattle.std.proofs.lemmas.Bool.{false≢true}
use Rattle.std.proofs.lemmas.List.{append_cancel_left}
use Rattle.std.specs.Prelude.{is_some}
use Rattle.lx_ccode.specs.declared.piece.LineMark.{LineMark}
use Rattle.lx_ccode.specs.declared.piece.Piece.{Piece}
use Rattle.lx_ccode.specs.Front.{BeginsWithPieceAt, IsNoFront}
use Rattle.lx_ccode.specs.Text.{front_then, line_then, piece_then}
use Rattle.lx_ccode.proofs.Tails.{front_then-append, line_then-append, part_written, piece_text-append, then-nil}

-- a text that stands behind a tail has one tail
pub tail-is : (text : List ℕ → List ℕ) → ((tail : List ℕ) → text [] ++ tail ≡ text tail) → (one other : List ℕ) → text one ≡ text other → one ≡ other
tail-is text law one other same = append_cancel_left (text []) one other (law one ∙ same ∙ sym (law other))

-- the bytes begin with a whole text exactly where the rest begins with what is still to come of it
pub record IsBehind (whole more : List ℕ → List ℕ) (bytes rest : List ℕ) : Type 0 where
  pub onward : (tail : List ℕ) → bytes ≡ whole tail → rest ≡ more tail
  pub back : (tail : List ℕ) → rest ≡ more tail → bytes ≡ whole tail

-- one more part of a text, which stands there
pub behind_next : (whole more one next_more : List ℕ → List ℕ) (bytes rest next : List ℕ) → ((tail : List ℕ) → one [] ++ tail ≡ one tail)
    → ((tail : List ℕ) → more tail ≡ one (next_more tail)) → rest ≡ one next → IsBehind whole more bytes rest → IsBehind whole next_more bytes next
behind_next whole more one next_more bytes rest next law split here so_far =
    record {
      onward = λ tail e. tail-is one law next (next_more tail) (sym here ∙ so_far.onward tail e ∙ split tail);
      back = λ tail e. so_far.back tail (here ∙ ap one e ∙ sym (split tail));
    }

-- the same, where it does not
pub behind_none : (whole more one next_more : List ℕ → List ℕ) (bytes rest : List ℕ) → ((tail : List ℕ) → more tail ≡ one (next_more tail))
    → IsNoFront one rest → IsBehind whole more bytes rest → IsNoFront whole bytes
behind_none whole more one next_more bytes rest split none so_far = λ tail e. none (next_more tail) (so_far.onward tail e ∙ split tail)

-- what was written alone, with a tail
pub written : (text : List ℕ → List ℕ) (shown items before : List ℕ) → ((tail : List ℕ) → text [] ++ tail ≡ text tail)
    → shown ≡ items → items ≡ before ++ text [] → before ≡ [] → (tail : List ℕ) → shown ++ tail ≡ text tail
written text shown items before law is items_are none tail =
    ap (λ (l : List ℕ). l ++ tail) (is ∙ items_are ∙ ap (λ (l : List ℕ). l ++ text []) none) ∙ law tail

-- what was found behind what was written, said of the text
pub found_as : (text : List ℕ → List ℕ) (shown bytes : List ℕ) (found : Option (Bor (List ℕ))) → ((tail : List ℕ) → shown ++ tail ≡ text tail)
    → MatchOption found (IsNoFront (λ tail. shown ++ tail) bytes) (λ rest. bytes ≡ shown ++ rest.now) → MatchOption found (IsNoFront text bytes) (λ rest. bytes ≡ text rest.now)
found_as text shown bytes None law none = λ tail e. none tail (e ∙ sym (law tail))
found_as text shown bytes (Some rest) law here = here ∙ law rest.now

-- a text that does not stand, whatever comes behind it
pub none_first : (first second : List ℕ → List ℕ) (bytes : List ℕ) → IsNoFront first bytes → IsNoFront (λ tail. first (second tail)) bytes
none_first first second bytes none tail e = none (second tail) e

-- a text that stands, and one more behind it
pub none_second : (first second : List ℕ → List ℕ) (bytes rest : List ℕ) → ((tail : List ℕ) → first [] ++ tail ≡ first tail)
    → bytes ≡ first rest → IsNoFront second rest → IsNoFront (λ tail. first (second tail)) bytes
none_second first second bytes rest law here none tail e = none tail (tail-is first law rest (second tail) (sym here ∙ e))

pub found_second : (first second : List ℕ → List ℕ) (bytes rest : List ℕ) (found : Option (Bor (List ℕ))) → ((tail : List ℕ) → first [] ++ tail ≡ first tail)
    → bytes ≡ first rest → MatchOption found (IsNoFront second rest) (λ next. rest ≡ second next.now)
    → MatchOption found (IsNoFront (λ tail. first (second tail)) bytes) (λ next. bytes ≡ first (second next.now))
found_second first second bytes rest None law here none = none_second first second bytes rest law here none
found_second first second bytes rest (Some next) law here there = here ∙ ap first there

-- what stands before the brace
abbrev pub head_text : (place : Option LineMark) → Piece → List ℕ → List ℕ
head_text place piece tail = front_then piece (line_then place tail)

pub head_text-append : (place : Option LineMark) (piece : Piece) (tail : List ℕ) → head_text place piece [] ++ tail ≡ head_text place piece tail
head_text-append place piece tail = front_then-append piece (line_then place []) tail ∙ ap (front_then piece) (line_then-append place [] tail)

-- the line of the spellings and the `#line` of the place, appended one behind the other
pub head_written : (place : Option LineMark) (piece : Piece) (o0 o1 o2 : List ℕ) → o1 ≡ o0 ++ front_then piece [] → o2 ≡ o1 ++ line_then place []
    → o2 ≡ o0 ++ head_text place piece []
head_written place piece o0 o1 o2 e1 e2 = e2 ∙ part_written {f = front_then piece} o1 o0 (line_then place []) e1 (then-nil (front_then piece) (front_then-append piece))

-- what was found behind a piece tells whether its text stands
pub begins_by : (bytes : List ℕ) (place : Option LineMark) (piece : Piece) (found : Option (Bor (List ℕ)))
    → MatchOption found (IsNoFront (piece_then place piece) bytes) (λ rest. bytes ≡ piece_then place piece rest.now) → IsTrue (is_some found) ↔ BeginsWithPieceAt bytes place piece
begins_by bytes place piece None none = (
  λ no. absurd (false≢true no),
  λ begins. absurd (none begins.0 (begins.1 ∙ piece_text-append place piece begins.0)),
)
begins_by bytes place piece (Some rest) here = (
  λ yes. (rest.now, here ∙ sym (piece_text-append place piece rest.now)),
  λ begins. refl,
)
