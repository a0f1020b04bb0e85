-- What is counted of what is read, as far as it is kept.
use Rattle.std.proofs.Common.{◌≡◌, ℕ, zero, suc, ◌+◌, ◌*◌, ◌<◌, ◌≤◌, ◌-◌, arith, Bool, true, false, max, min, Option, None, Some, refl, sym, ap₂, ◌∙◌}
use Rattle.std.specs.Prelude.{nat_le, ◌&&◌, ◌^◌}
use Rattle.std.proofs.Math.Nat.{mul-le-mul_left}
use Rattle.lx_regex.specs.Expr.{times}
use Rattle.lx_token.specs.declared.numbers.Repeat.{Repeat}
use Rattle.lx_exprs.specs.declared.values.Room.{Room}
use Rattle.lx_exprs.specs.Defined.{Meaning, fits, is_built, kept}
use Rattle.lx_exprs.specs.Meanings.{alternated, choice_size, enclosed, followed, grouped, repeated_by}
use Rattle.lx_exprs.specs.Values.{IsCounted, IsRoom}

-- below the end of what is kept a bound holds of what is kept where it holds of all
pub le_kept : (n m : ℕ) → m ≤ 4096 → nat_le (kept n) m ≡ nat_le n m
le_kept n m small = at (nat_le n m) refl
  where
    at : (b : Bool) → nat_le n m ≡ b → nat_le (kept n) m ≡ nat_le n m
    at true e = let le : n ≤ m = search (arith, e) in search (arith, le, small)
    at false e = let lt : m < n = search (arith, e) in search (arith, lt, small)

fits_kept : (room : Room) (size nesting count : ℕ) → IsRoom room → fits room (kept size) (kept nesting) (kept count) ≡ fits room size nesting count
fits_kept room size nesting count is =
    let most : room.tags ≤ 4096 = omega (arith, is.1) in
    ap₂ (λ a b. a && b) (le_kept size room.size is.0)
    (ap₂ (λ a b. a && b) (le_kept nesting 256 (omega arith)) (le_kept count room.tags most))

-- so whether an expression is built is seen in what is kept of its numbers
pub built_seen : (room : Room) (meaning : Meaning) (size nesting groups tags : ℕ) → IsRoom room → IsCounted meaning size nesting groups tags
    → fits room size nesting tags ≡ is_built room meaning
built_seen room meaning size nesting groups tags is counted =
    rw counted.size_is (rw counted.nesting_is (rw counted.tags_is (fits_kept room meaning.size meaning.nesting meaning.count is)))

pub both_of : (a b : Bool) → (a && b) ≡ true → (a ≡ true) × (b ≡ true)
both_of true b e = (refl, e)
both_of false b e = absurd (let h : false ≡ true = e in cc)

-- what stands around an expression that is not built is not built either
pub grows : (room : Room) (part around : Meaning) → part.size ≤ around.size → part.nesting ≤ around.nesting → part.count ≤ around.count
    → is_built room part ≡ false → is_built room around ≡ false
grows room part around size nesting count off = at (is_built room around) refl
  where
    at : (b : Bool) → is_built room around ≡ b → is_built room around ≡ false
    at false e = e
    at true e =
        let both = both_of (nat_le around.size room.size) (nat_le around.nesting 256 && nat_le around.count room.tags) e in
        let more = both_of (nat_le around.nesting 256) (nat_le around.count room.tags) both.1 in
        let s : around.size ≤ room.size = search (arith, both.0) in
        let n : around.nesting ≤ 256 = search (arith, more.0) in
        let t : around.count ≤ room.tags = search (arith, more.1) in
        let s' : nat_le part.size room.size ≡ true = search (arith, s, size) in
        let n' : nat_le part.nesting 256 ≡ true = search (arith, n, nesting) in
        let t' : nat_le part.count room.tags ≡ true = search (arith, t, count) in
        let on : is_built room part ≡ true = rw (s', n', t') refl in
        absurd (let h : false ≡ true = sym off ∙ on in cc)

-- the numbers of what stands around
pub counted_enclosed : (meaning : Meaning) (size nesting groups tags : ℕ) → IsCounted meaning size nesting groups tags
    → IsCounted (enclosed meaning) size (min (2 ^ 40) (nesting + 1)) groups tags
counted_enclosed meaning size nesting groups tags counted = record {
  size_is = counted.size_is;
  nesting_is = rw counted.nesting_is (omega arith);
  groups_is = counted.groups_is;
  tags_is = counted.tags_is;
}

pub counted_grouped : (before : ℕ) (meaning : Meaning) (size nesting groups tags : ℕ) → IsCounted meaning size nesting groups tags
    → IsCounted (grouped (kept (suc before)) meaning) (min (2 ^ 40) (size + 2)) (min (2 ^ 40) (nesting + 1)) (min (2 ^ 40) (groups + 1))
    (max tags (min (2 ^ 40) (min (2 ^ 40) (before + 1) + min (2 ^ 40) (before + 1))))
counted_grouped before meaning size nesting groups tags counted = record {
  size_is = rw counted.size_is (omega arith);
  nesting_is = rw counted.nesting_is (omega arith);
  groups_is = rw counted.groups_is (omega arith);
  tags_is = rw counted.tags_is (omega arith);
}

pub counted_followed : (first second : Meaning) (s n g t s' n' g' t' : ℕ) → IsCounted first s n g t → IsCounted second s' n' g' t'
    → IsCounted (followed first second) (min (2 ^ 40) (s + s')) (max n n') (min (2 ^ 40) (g + g')) (max t t')
counted_followed first second s n g t s' n' g' t' a b = record {
  size_is = rw (a.size_is, b.size_is) (omega arith);
  nesting_is = rw (a.nesting_is, b.nesting_is) (omega arith);
  groups_is = rw (a.groups_is, b.groups_is) (omega arith);
  tags_is = rw (a.tags_is, b.tags_is) (omega arith);
}

pub counted_alternated : (first second : Meaning) (s n g t s' n' g' t' more : ℕ) → IsCounted first s n g t → IsCounted second s' n' g' t'
    → more ≡ choice_size first.shape
    → IsCounted (alternated first second) (min (2 ^ 40) (min (2 ^ 40) (s + more) + s')) (max n n') (min (2 ^ 40) (g + g')) (max t t')
counted_alternated first second s n g t s' n' g' t' more a b same = record {
  size_is = rw (a.size_is, b.size_is, same) (omega arith);
  nesting_is = rw (a.nesting_is, b.nesting_is) (omega arith);
  groups_is = rw (a.groups_is, b.groups_is) (omega arith);
  tags_is = rw (a.tags_is, b.tags_is) (omega arith);
}

-- a product by 1 at least
pub at_least : (n k : ℕ) → 1 ≤ k → n ≤ n * k
at_least n zero some = absurd (omega (arith, some))
at_least n (suc k) some =
    let more : n * 1 ≤ n * suc k = mul-le-mul_left n (omega arith) in
    let same : n * 1 ≡ n = omega arith in
    omega (arith, more, same)

pub times-some : (low : ℕ) (high : Option ℕ) → 1 ≤ times low high
times-some low None = omega arith
times-some low (Some high) = omega arith

-- what is kept of a product, as it is computed in 64 bits
pub kept_product : (n k : ℕ) → 1 ≤ k → min (2 ^ 40) (min (2 ^ 40) (min (kept n * k) (2 ^ 64 - 1)) + 1) ≡ kept (n * k + 1)
kept_product n k some = at (nat_le n (2 ^ 40)) refl
  where
    at : (b : Bool) → nat_le n (2 ^ 40) ≡ b → min (2 ^ 40) (min (2 ^ 40) (min (kept n * k) (2 ^ 64 - 1)) + 1) ≡ kept (n * k + 1)
    at true e =
        let le : n ≤ 2 ^ 40 = search (arith, e) in
        let same : kept n ≡ n = omega (arith, le) in
        rw same (omega arith)
    at false e =
        let lt : 2 ^ 40 < n = search (arith, e) in
        let same : kept n ≡ 2 ^ 40 = omega (arith, lt) in
        let first : 2 ^ 40 ≤ 2 ^ 40 * k = at_least (2 ^ 40) k some in
        let all : n ≤ n * k = at_least n k some in
        rw same (omega (arith, first, all, lt))

pub counted_repeated : (bounds : Repeat) (meaning : Meaning) (size nesting groups tags : ℕ) → IsCounted meaning size nesting groups tags
    → IsCounted (repeated_by bounds meaning)
    (min (2 ^ 40) (min (2 ^ 40) (min (size * times bounds.min bounds.max) (2 ^ 64 - 1)) + 1)) (min (2 ^ 40) (nesting + 1)) groups tags
counted_repeated bounds meaning size nesting groups tags counted = record {
  size_is = rw counted.size_is (kept_product meaning.size (times bounds.min bounds.max) (times-some bounds.min bounds.max));
  nesting_is = rw counted.nesting_is (omega arith);
  groups_is = counted.groups_is;
  tags_is = counted.tags_is;
}
