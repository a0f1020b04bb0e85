-- The search for begin marks.
use Rattle.std.proofs.Common.{◌≡◌, ◌<◌, ◌≤◌, ◌∙◌, ◌+◌, ◌-◌, ℕ, inl, inr, List, ◌++◌, drop, length, Option, Some, None, sym, ap, arith}
use Rattle.std.specs.Prelude.{◌⊎◌}
use Rattle.std.proofs.lemmas.Bool.{cases_lt}
use Rattle.std.proofs.lemmas.List.{drop-drop, get_or-drop, get_or_append_left, length-append, length-drop}
use Rattle.memchr.specs.Find.{FindsNeedle, OccursAt}
use Rattle.lx_creader.specs.Marks.{BeginsBlock}
use Rattle.lx_creader.proofs.BeginMarks.{begin}

front_occurs : (needle text rest : List ℕ) (place : ℕ) → 0 < length needle → drop place text ≡ needle ++ rest → OccursAt text needle place
front_occurs needle text rest place some is = record {
  fits = let size = sym (length-drop place text) ∙ ap length is ∙ length-append needle rest in omega (arith, size);
  reads = λ j less. rw (← get_or-drop place text j 0, is) (get_or_append_left needle rest 0 j less);
}

-- where a block begins, the needle occurs
block_occurs : (block : Option ℕ) (text : List ℕ) (place : ℕ) → BeginsBlock block (drop place text) → OccursAt text begin place
block_occurs (Some number) text place begins = front_occurs begin text _ place (omega arith) begins.1
block_occurs None text place begins = front_occurs begin text _ place (omega arith) begins.4

-- a search goes on from an offset, before which no block begins
module _ (block : Option ℕ) (bytes rest : List ℕ) (offset : ℕ) (left : rest ≡ drop offset bytes)
    (before : (place : ℕ) → place < offset → BeginsBlock block (drop place bytes) → ⊥) where
  block_behind : (place : ℕ) → BeginsBlock block (drop place bytes) → (k : ℕ) × (place ≡ offset + k) × OccursAt rest begin k
  block_behind place begins = at (cases_lt place offset)
    where
      at : (place < offset) ⊎ (offset ≤ place) → (k : ℕ) × (place ≡ offset + k) × OccursAt rest begin k
      at (inl less) = absurd (before place less begins)
      at (inr more) =
          let k = place - offset in
          let same : offset + k ≡ place = omega arith in
          (k, sym same, rw left (block_occurs block (drop offset bytes) k (rw (drop-drop k offset bytes, same) begins)))

  pub none_at_all : FindsNeedle rest begin 0 None → (place : ℕ) → BeginsBlock block (drop place bytes) → ⊥
  none_at_all none place begins =
      let found = block_behind place begins in
      let fits = found.2.fits in none found.0 (omega arith) (omega (arith, fits)) found.2

  pub none_before : (k : ℕ) → FindsNeedle rest begin 0 (Some k) → (place : ℕ) → place < offset + k → BeginsBlock block (drop place bytes) → ⊥
  none_before k first place less begins =
      let found = block_behind place begins in
      let same = found.1 in first.0.before found.0 (omega arith) (omega (arith, same, less)) found.2

  pub none_up_to : (k : ℕ) → FindsNeedle rest begin 0 (Some k) → (BeginsBlock block (drop (offset + k) bytes) → ⊥) →
      (place : ℕ) → place < offset + k + 1 → BeginsBlock block (drop place bytes) → ⊥
  none_up_to k first never place less begins = at (cases_lt place (offset + k))
    where
      at : (place < offset + k) ⊎ (offset + k ≤ place) → ⊥
      at (inl earlier) = none_before k first place earlier begins
      at (inr later) =
          let same : place ≡ offset + k = omega arith in
          never (rw (← same) begins)
