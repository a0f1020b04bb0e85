-- The lines of a run, one by one.
use Rattle.std.proofs.Common.{◌≡◌, ◌≢◌, ◌∙◌, ℕ, zero, suc, ◌+◌, ◌<◌, ◌≤◌, Bool, true, false, List, [], ◌∷◌, ◌++◌, length, take, drop, get_or, refl, sym, ap, append_assoc, arith}
use Rattle.std.proofs.lemmas.Bool.{false≢true, ne_eqb}
use Rattle.std.proofs.lemmas.List.{append-nil, length-append}
use Rattle.std.proofs.lemmas.List.Elements.{filter-append}
use Rattle.std.specs.List.{filter}
use Rattle.std.specs.Prelude.{◌==◌, codes, if◌then◌else◌}
use Rattle.lx_base.specs.Letters.{begins_with}
use Rattle.lx_top.specs.Sources.{last_of, lines_of}

-- ---- the first line

-- a text up to its first line feed
pub lines_of-feed : (text : List ℕ) (place : ℕ) → place < length text → ((k : ℕ) → k < place → get_or text k 0 ≢ 10) → get_or text place 0 ≡ 10
    → lines_of text ≡ take (suc place) text ∷ lines_of (drop (suc place) text)
lines_of-feed [] place within before feed = absurd (omega (arith, within))
lines_of-feed (letter ∷ text) zero within before feed = rw feed refl
lines_of-feed (letter ∷ text) (suc place) within before feed =
    let other = ne_eqb letter 10 (before 0 (omega arith)) in
    let rest = lines_of-feed text place (omega (arith, within)) (λ k below. before (suc k) (omega (arith, below))) feed in
    rw (other, rest) refl

-- a text without one is a line
pub lines_of-end : (text : List ℕ) → text ≢ [] → ((k : ℕ) → k < length text → get_or text k 0 ≢ 10) → lines_of text ≡ text ∷ []
lines_of-end [] some none = absurd (some refl)
lines_of-end (letter ∷ []) some none = rw (ne_eqb letter 10 (none 0 (omega arith))) refl
lines_of-end (letter ∷ next ∷ text) some none =
    let other = ne_eqb letter 10 (none 0 (omega arith)) in
    let rest = lines_of-end (next ∷ text) (λ is. absurd cc) (λ k below. none (suc k) (omega (arith, below))) in
    rw (other, rest) refl

pub not_empty : (text : List ℕ) → false ≡ (length text == 0) → text ≢ []
not_empty text some is = false≢true (some ∙ ap (λ (l : List ℕ). length l == 0) is)

-- ---- the lines before a place

-- these are the lines that were taken so far, and the rest is ahead
pub record IsAhead (run rest : List ℕ) (matches : ℕ) (last_match last : List ℕ) : Type 0 where
  pub before : List (List ℕ)
  pub lines : lines_of run ≡ before ++ lines_of rest
  pub matches_are : matches ≡ length (filter (begins_with (codes "rule ")) before)
  pub last_match_is : last_match ≡ last_of (filter (begins_with (codes "rule ")) before)
  pub last_is : last ≡ last_of before
  pub size : matches + length rest ≤ length run

abbrev tells : List ℕ → Bool
tells = begins_with (codes "rule ")

last_of-append : (lines : List (List ℕ)) (line : List ℕ) → last_of (lines ++ line ∷ []) ≡ line
last_of-append [] line = refl
last_of-append (first ∷ []) line = refl
last_of-append (first ∷ next ∷ lines) line = last_of-append (next ∷ lines) line

filter-one : (line : List ℕ) (flag : Bool) → tells line ≡ flag → filter tells (line ∷ []) ≡ (if flag then line ∷ [] else [])
filter-one line true is = rw is refl
filter-one line false is = rw is refl

module _ (run rest line behind : List ℕ) (matches : ℕ) (last_match last : List ℕ) (ahead : IsAhead run rest matches last_match last)
    (first : lines_of rest ≡ line ∷ lines_of behind) (less : length behind < length rest) where
  told : (flag : Bool) → tells line ≡ flag → filter tells (ahead.before ++ line ∷ []) ≡ filter tells ahead.before ++ (if flag then line ∷ [] else [])
  told flag is = filter-append tells ahead.before (line ∷ []) ∙ ap (λ (l : List (List ℕ)). filter tells ahead.before ++ l) (filter-one line flag is)

  all : lines_of run ≡ (ahead.before ++ line ∷ []) ++ lines_of behind
  all = ahead.lines ∙ ap (λ (l : List (List ℕ)). ahead.before ++ l) first ∙ sym (append_assoc ahead.before (line ∷ []) (lines_of behind))

  -- one more line, which tells of a rule
  pub IsAhead-rule : tells line ≡ true → IsAhead run behind (matches + 1) line line
  IsAhead-rule is = record {
    before = ahead.before ++ line ∷ [];
    lines = all;
    matches_are = sym (ap length (told true is) ∙ length-append (filter tells ahead.before) (line ∷ []) ∙ omega (arith, ahead.matches_are));
    last_match_is = sym (ap last_of (told true is) ∙ last_of-append (filter tells ahead.before) line);
    last_is = sym (last_of-append ahead.before line);
    size = omega (arith, less, ahead.size);
  }

  -- or does not
  pub IsAhead-other : tells line ≡ false → IsAhead run behind matches last_match line
  IsAhead-other is =
      let same : filter tells (ahead.before ++ line ∷ []) ≡ filter tells ahead.before = told false is ∙ append-nil (filter tells ahead.before) in
      record {
        before = ahead.before ++ line ∷ [];
        lines = all;
        matches_are = ahead.matches_are ∙ sym (ap length same);
        last_match_is = ahead.last_match_is ∙ sym (ap last_of same);
        last_is = sym (last_of-append ahead.before line);
        size = omega (arith, less, ahead.size);
      }
