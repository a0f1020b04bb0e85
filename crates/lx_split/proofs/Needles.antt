-- Searches for what begins with a needle.
use Rattle.std.proofs.Common.{inl, inr, eq-eqb, ◌-◌, ◌++◌, codes, nat_eq, take, ◌&&◌, ◌≡◌, ℕ, zero, suc, ◌+◌, ◌<◌, ◌≤◌, Bool, true, false, List, [], ◌∷◌, length, drop, slice_index, None, Some, refl, sym, arith, cond, ◌∙◌, ap, ◌==◌}
use Rattle.std.proofs.lemmas.Bool.{eqb-true}
use Rattle.std.proofs.Math.Seq.{take-length, drop-length}
use Rattle.std.proofs.lemmas.List.{length-drop}
use Rattle.std.specs.Cmp.Lexicographic.{pointwise}
use Rattle.memchr.specs.Find.{FindsNeedle, Nowhere, OccursAt}
use Rattle.lx_base.specs.Letters.{begins_with}
use Rattle.lx_base.specs.declared.settings.Options.{Options}
use Rattle.lx_split.specs.Marks.{begins_mark}
use Rattle.lx_split.specs.Openers.{opener_at, is_present}
use Rattle.lx_token.proofs.Ends.{IsEnd}
use Rattle.lx_split.specs.Searches.{from_first}

both : (a b : Bool) → cond a b false ≡ true → (a ≡ true) × (b ≡ true)
both true b h = (refl, h)
both false b h = absurd (cc)

-- a text that begins with a needle has it at its front
begins-fits : (needle text : List ℕ) → begins_with needle text ≡ true → length needle ≤ length text
begins-fits [] text h = omega arith
begins-fits (letter ∷ needle) [] h = absurd (cc)
begins-fits (letter ∷ needle) (other ∷ text) h =
    let more = begins-fits needle text (both (letter == other) (begins_with needle text) h).1 in omega arith

begins-reads : (needle text : List ℕ) → begins_with needle text ≡ true → (j : ℕ) → j < length needle → slice_index text j ≡ slice_index needle j
begins-reads [] text h j less = absurd (omega arith)
begins-reads (letter ∷ needle) [] h j less = absurd (cc)
begins-reads (letter ∷ needle) (other ∷ text) h zero less = sym (eqb-true letter other (both (letter == other) (begins_with needle text) h).0)
begins-reads (letter ∷ needle) (other ∷ text) h (suc j) less =
    begins-reads needle text (both (letter == other) (begins_with needle text) h).1 j (omega arith)

occurs-front : (needle text : List ℕ) → begins_with needle text ≡ true → OccursAt text needle 0
occurs-front needle text h = record {
  fits = let fits = begins-fits needle text h in omega arith;
  reads = λ j less. let zero_add : 0 + j ≡ j = omega arith in rw zero_add (begins-reads needle text h j less);
}

occurs-later : (needle text : List ℕ) (letter k : ℕ) → OccursAt text needle k → OccursAt (letter ∷ text) needle (suc k)
occurs-later needle text letter k occurs = record {
  fits = let fits = occurs.fits in omega arith;
  reads = λ j less. let add_suc : suc k + j ≡ suc (k + j) = omega arith in rw add_suc (occurs.reads j less);
}

is-false : (b : Bool) → (b ≡ true → ⊥) → b ≡ false
is-false true never = absurd (never refl)
is-false false never = refl

-- where the needle does not occur before a place, the search for it goes on from that place
from_first-past : (needle : List ℕ) (count : ℕ) (text : List ℕ) → count ≤ length text → Nowhere (OccursAt text needle) 0 count →
    from_first (begins_with needle) text ≡ from_first (begins_with needle) (drop count text)
from_first-past needle zero text within none = refl
from_first-past needle (suc count) [] within none = refl
from_first-past needle (suc count) (letter ∷ text) within none =
    let not_here = is-false (begins_with needle (letter ∷ text)) (λ h. none 0 (omega arith) (omega arith) (occurs-front needle (letter ∷ text) h)) in
    rw not_here (from_first-past needle count text (omega arith) (λ k low less occurs. none (suc k) (omega arith) (omega arith) (occurs-later needle text letter k occurs)))

pub from_first-none : (needle text : List ℕ) → FindsNeedle text needle 0 None → from_first (begins_with needle) text ≡ []
from_first-none needle text none =
    from_first-past needle (length text) text (omega arith) (λ k low less. none k low (omega arith)) ∙ ap (from_first (begins_with needle)) (drop-length text)

reads-begins : (needle text : List ℕ) → length needle ≤ length text → ((j : ℕ) → j < length needle → slice_index text j ≡ slice_index needle j) →
    begins_with needle text ≡ true
reads-begins [] text fits reads = refl
reads-begins (letter ∷ needle) [] fits reads = absurd (omega arith)
reads-begins (letter ∷ needle) (other ∷ text) fits reads =
    let first = eq-eqb letter other (sym (reads 0 (omega arith))) in
    rw first (reads-begins needle text (omega arith) (λ j less. reads (suc j) (omega arith)))

occurs-begins : (needle text : List ℕ) (k : ℕ) → OccursAt text needle k → begins_with needle (drop k text) ≡ true
occurs-begins needle text zero occurs =
    reads-begins needle text (let fits = occurs.fits in omega arith)
    (λ j less. let zero_add : 0 + j ≡ j = omega arith in rw zero_add at (occurs.reads j less))
occurs-begins needle [] (suc k) occurs = absurd (let fits = occurs.fits in omega arith)
occurs-begins needle (letter ∷ text) (suc k) occurs =
    occurs-begins needle text k (record {
      fits = let fits = occurs.fits in omega arith;
      reads = λ j less. let add_suc : suc k + j ≡ suc (k + j) = omega arith in rw add_suc at (occurs.reads j less);
    })

from_first-here : (test : List ℕ → Bool) (text : List ℕ) → test text ≡ true → from_first test text ≡ text
from_first-here test [] h = refl
from_first-here test (letter ∷ text) h = rw h

pub from_first-found : (needle text : List ℕ) (k : ℕ) → FindsNeedle text needle 0 (Some k) → from_first (begins_with needle) text ≡ drop k text
from_first-found needle text k found =
    let fits = found.1.fits in
    from_first-past needle k text (omega arith) found.0.before
    ∙ from_first-here (begins_with needle) (drop k text) (occurs-begins needle text k found.1)

-- a test that only passes where a needle stands is searched for among the places of the needle
pub from_first-among : (needle : List ℕ) (test : List ℕ → Bool) → ((text : List ℕ) → begins_with needle text ≡ false → test text ≡ false) →
    (text : List ℕ) → from_first test (from_first (begins_with needle) text) ≡ from_first test text
from_first-among needle test only [] = refl
from_first-among needle test only (letter ∷ text) =
    at (begins_with needle (letter ∷ text)) refl (from_first-among needle test only text)
  where
    at : (b : Bool) → begins_with needle (letter ∷ text) ≡ b → from_first test (from_first (begins_with needle) text) ≡ from_first test text →
        from_first test (cond b (letter ∷ text) (from_first (begins_with needle) text)) ≡ from_first test (letter ∷ text)
    at true is later = refl
    at false is later = let not_here = only (letter ∷ text) is in rw not_here later

-- the test of std whether a text begins with a word
pub pointwise-begins : (needle text : List ℕ) → pointwise nat_eq needle (take (length needle) text) ≡ begins_with needle text
pointwise-begins [] text = refl
pointwise-begins (letter ∷ needle) [] = refl
pointwise-begins (letter ∷ needle) (other ∷ text) = at (letter == other) (pointwise-begins needle text)
  where
    at : (b : Bool) → pointwise nat_eq needle (take (length needle) text) ≡ begins_with needle text →
        (b && pointwise nat_eq needle (take (length needle) text)) ≡ cond b (begins_with needle text) false
    at true h = h
    at false h = refl

-- a slice up to the end
pub take-rest : (count : ℕ) (text : List ℕ) → take (length text - count) (drop count text) ≡ drop count text
take-rest count text = rw (← length-drop count text) (take-length (drop count text))

begins-longer : (front more text : List ℕ) → begins_with front text ≡ false → begins_with (front ++ more) text ≡ false
begins-longer [] more text h = absurd (cc)
begins-longer (letter ∷ front) more [] h = refl
begins-longer (letter ∷ front) more (other ∷ text) h = at (letter == other) (begins-longer front more text) h
  where
    at : (b : Bool) → (begins_with front text ≡ false → begins_with (front ++ more) text ≡ false) →
        cond b (begins_with front text) false ≡ false → cond b (begins_with (front ++ more) text) false ≡ false
    at true later h = later h
    at false later h = refl

-- where no `/*!` stands, no mark does
pub no_mark : (text : List ℕ) → begins_with (codes "/*!") text ≡ false → begins_mark text ≡ false
no_mark text h =
    let one = begins-longer (codes "/*!") (codes "begin:re2c") text h in
    let two = begins-longer (codes "/*!") (codes "end:re2c") text h in
    let three = begins-longer (codes "/*!") (codes "code:re2c") text h in
    let four = begins-longer (codes "/*!") (codes "names:re2c") text h in
    let five = begins-longer (codes "/*!") (codes "head:re2c") text h in
    rw (one, two, three, four, five)

-- where no `/*!` stands, no opener does
pub no_opener : (options : Options) (text : List ℕ) → begins_with (codes "/*!") text ≡ false → is_present (opener_at options text) ≡ false
no_opener options text h = rw h

-- the steps of a search among the places of a needle: it begins there, it goes on behind a place, and it ends at a place
module _ (needle : List ℕ) (test : List ℕ → Bool) (only : (text : List ℕ) → begins_with needle text ≡ false → test text ≡ false)
    (rest whole : List ℕ) (same : from_first test rest ≡ from_first test whole) where
  pub among-next : (letter : ℕ) (tail : List ℕ) → rest ≡ letter ∷ tail → test rest ≡ false →
      from_first test (from_first (begins_with needle) tail) ≡ from_first test whole
  among-next letter tail is fails =
      let fails' = rw is at fails in
      from_first-among needle test only tail ∙ rw (is, fails') at same

  pub among-here : test rest ≡ true → rest ≡ from_first test whole
  among-here holds = sym (from_first-here test rest holds) ∙ same

-- a search ends at an end of the text
pub from_first-end : (test : List ℕ → Bool) (text : List ℕ) → IsEnd text (from_first test text)
from_first-end test [] = refl
from_first-end test (letter ∷ text) = at (test (letter ∷ text)) (from_first-end test text)
  where
    at : (b : Bool) → IsEnd text (from_first test text) → IsEnd (letter ∷ text) (cond b (letter ∷ text) (from_first test text))
    at true later = inl refl
    at false later = inr later
