-- Which places wait at which levels, as these are filled and emptied.
use Rattle.std.proofs.Common.{sym, ap, ap₂, ◌∙◌, append-nil, append_assoc, arith, ⊎_elim, drop, get_or, length, take}
use Rattle.std.proofs.Math.ListN.{drop_of_length-le}
use Rattle.std.proofs.lemmas.Bool.{cases_lt}
use Rattle.std.proofs.lemmas.List.{get_or-replicate, get_or-set_other, get_or-set_same, get_or_past, get_or_read, length-replicate, length-set, take_all}
use Rattle.std.specs.Prelude.{◌≡◌, ◌≢◌, ℕ, zero, suc, ◌+◌, ◌-◌, ◌<◌, ◌≤◌, min, List, [], ◌∷◌, ◌++◌, replicate, slice_set, refl}
use Rattle.lx_posix.specs.Sweeps.{emptied_above, level_at, number_at, starts_above, starts_at, waiting_at, with_place}
use Rattle.lx_posix.specs.declared.points.Beginning.{Beginning}
use Rattle.lx_posix.specs.declared.starts.Start.{Start as Found}

pub with_place-length : (levels : List (List ℕ)) (place count : ℕ) → length (with_place levels place count) ≡ length levels
with_place-length levels place zero = refl
with_place-length levels place (suc count) =
    length-set (with_place levels place count) count (waiting_at (with_place levels place count) count ++ place ∷ [])
    ∙ with_place-length levels place count

pub with_place-above : (levels : List (List ℕ)) (place count level : ℕ) → count ≤ level
    → waiting_at (with_place levels place count) level ≡ waiting_at levels level
with_place-above levels place zero level le = refl
with_place-above levels place (suc count) level le =
    let other : level ≢ count = λ e. omega arith in
    get_or-set_other (with_place levels place count) count level _ [] other ∙ with_place-above levels place count level (omega arith)

pub with_place-below : (levels : List (List ℕ)) (place count level : ℕ) → level < count → count ≤ length levels
    → waiting_at (with_place levels place count) level ≡ waiting_at levels level ++ place ∷ []
with_place-below levels place zero level lt le = absurd (omega arith)
with_place-below levels place (suc count) level lt le =
    ⊎_elim
    (λ less.
    let other : level ≢ count = λ e. omega arith in
    get_or-set_other (with_place levels place count) count level _ [] other
    ∙ with_place-below levels place count level less (omega arith))
    (λ more.
    let e : level ≡ count = omega arith in
    let n = with_place-length levels place count in
    ap (λ k. waiting_at (with_place levels place (suc count)) k) e
    ∙ get_or-set_same (with_place levels place count) count (waiting_at (with_place levels place count) count ++ place ∷ []) []
    (omega arith)
    ∙ ap (λ l. l ++ place ∷ []) (with_place-above levels place count count (omega arith))
    ∙ ap (λ k. waiting_at levels k ++ place ∷ []) (sym e))
    (cases_lt level count)

pub starts_above-set : (levels : List (List ℕ)) (lowest count level : ℕ) → lowest + count ≤ level
    → starts_above (slice_set levels level []) lowest count ≡ starts_above levels lowest count
starts_above-set levels lowest zero level le = refl
starts_above-set levels lowest (suc count) level le =
    let other : lowest + count ≢ level = λ e. omega arith in
    ap₂ (λ l rest. starts_at (lowest + count) l ++ rest) (get_or-set_other levels level (lowest + count) [] [] other)
    (starts_above-set levels lowest count level (omega arith))

pub emptied_above-length : (levels : List (List ℕ)) (lowest count : ℕ) → length (emptied_above levels lowest count) ≡ length levels
emptied_above-length levels lowest zero = refl
emptied_above-length levels lowest (suc count) =
    emptied_above-length (slice_set levels (lowest + count) []) lowest count ∙ length-set levels (lowest + count) []

pub none_waits : (count level : ℕ) → waiting_at (replicate count []) level ≡ []
none_waits count level =
    let none : List ℕ = [] in
    ⊎_elim (λ lt. get_or-replicate count level none none lt)
    (λ ge. let n = length-replicate count none in get_or_past (replicate count none) level none (omega arith)) (cases_lt level count)

-- one level more is taken
pub level_taken : (levels : List (List ℕ)) (lowest level : ℕ) (list left : List ℕ) (found more : List Found) → lowest < level
    → level - 1 < length levels → list ≡ get_or levels (level - 1) list → left ≡ [] → more ≡ found ++ starts_at (level - 1) list
    → (more ++ starts_above (slice_set levels (level - 1) left) lowest (level - 1 - lowest)
    ≡ found ++ starts_above levels lowest (level - lowest))
    × (emptied_above (slice_set levels (level - 1) left) lowest (level - 1 - lowest) ≡ emptied_above levels lowest (level - lowest))
level_taken levels lowest level list left found more lt within read none is =
    let count : ℕ = level - 1 - lowest in
    let all : level - lowest ≡ suc (level - 1 - lowest) = omega arith in
    let here : lowest + (level - 1 - lowest) ≡ level - 1 = omega arith in
    let waits : list ≡ waiting_at levels (level - 1) = get_or_read levels (level - 1) list within read [] in
    let rest = starts_above-set levels lowest (level - 1 - lowest) (level - 1) (omega arith) in (
      ap₂ (λ l k. l ++ starts_above (slice_set levels (level - 1) k) lowest (level - 1 - lowest)) is none
          ∙ append_assoc found (starts_at (level - 1) list) (starts_above (slice_set levels (level - 1) []) lowest (level - 1 - lowest))
          ∙ ap₂ (λ k l. found ++ (starts_at (level - 1) k ++ l)) waits rest
          ∙ ap (λ n. found ++ (starts_at n (waiting_at levels n) ++ starts_above levels lowest (level - 1 - lowest))) (sym here)
          ∙ ap (λ n. found ++ starts_above levels lowest n) (sym all),
      ap (λ k. emptied_above (slice_set levels (level - 1) k) lowest (level - 1 - lowest)) none
          ∙ ap (λ n. emptied_above (slice_set levels n []) lowest (level - 1 - lowest)) (sym here)
          ∙ ap (λ n. emptied_above levels lowest n) (sym all),
    )

-- what a beginning has
pub level_at-read : (bs : List Beginning) (index : ℕ) (b : Beginning) → index < length bs → b ≡ get_or bs index b
    → level_at bs index ≡ min b.open b.depth
level_at-read [] index b lt e = absurd (omega arith)
level_at-read (x ∷ bs) zero b lt e = ap (λ (y : Beginning). min y.open y.depth) (sym e)
level_at-read (x ∷ bs) (suc index) b lt e = level_at-read bs index b (omega arith) e

pub level_at-past : (bs : List Beginning) (index : ℕ) → length bs ≤ index → level_at bs index ≡ 0
level_at-past [] index le = refl
level_at-past (x ∷ bs) zero le = absurd (omega arith)
level_at-past (x ∷ bs) (suc index) le = level_at-past bs index (omega arith)

pub number_at-read : (bs : List Beginning) (index : ℕ) (b : Beginning) → index < length bs → b ≡ get_or bs index b
    → number_at bs index ≡ b.number
number_at-read [] index b lt e = absurd (omega arith)
number_at-read (x ∷ bs) zero b lt e = ap (λ (y : Beginning). y.number) (sym e)
number_at-read (x ∷ bs) (suc index) b lt e = number_at-read bs index b (omega arith) e

pub number_at-past : (bs : List Beginning) (index : ℕ) → length bs ≤ index → number_at bs index ≡ 0
number_at-past [] index le = refl
number_at-past (x ∷ bs) zero le = absurd (omega arith)
number_at-past (x ∷ bs) (suc index) le = number_at-past bs index (omega arith)

-- what is written back to a vector whose length stays
pub written_back : {X : Type 0} (old new : List X) (count : ℕ) → count ≡ length old → length new ≡ length old
    → take count (new ++ drop (length new) old) ≡ new
written_back old new count e same =
    ap₂ (λ n l. take n (new ++ l)) (e ∙ sym same) (drop_of_length-le old (omega arith)) ∙ ap (λ l. take (length new) l) (append-nil new)
    ∙ take_all (length new) new (omega arith)
