-- Shapes taken apart.
use Rattle.std.specs.Prelude.{◌≡◌, ℕ, ◌<◌, ◌≤◌, List}
use Rattle.lx_regex.specs.Dictionary.{IsBefore}
use Rattle.lx_regex.specs.Posix.{Shape, absent, leaf, inner, Shapes, none, more, size, shape_at, length_at}

abbrev pub kids : Shape → Shapes
kids absent = none
kids (leaf m) = none
kids (inner ks) = ks

abbrev pub head : Shapes → Shape
head none = absent
head (more s ks) = s

abbrev pub tail : Shapes → Shapes
tail none = none
tail (more s ks) = ks

abbrev pub Open : (n : ℕ) → Shape → Type 0
Open n s = (0 < n) × (n ≤ size s)

abbrev pub OpenAt : (n : ℕ) → Shape → List ℕ → Type 0
OpenAt n s q = Open (shape_at n s q).0 (shape_at n s q).1

abbrev pub Same : (n : ℕ) → Shape → Shape → Type 0
Same n s s' = (q : List ℕ) → length_at n s q ≡ length_at n s' q

abbrev pub Wins : (n : ℕ) → Shape → Shape → Type 0
Wins n s s' =
    (p : List ℕ) × (length_at n s' p < length_at n s p) × ((q : List ℕ) → IsBefore q p → length_at n s q ≡ length_at n s' q)
