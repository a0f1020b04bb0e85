-- Lists of runs end to end and in parts.
use Rattle.std.proofs.Common.{◌≡◌, ℕ, ◌+◌, ◌<◌, ◌≤◌, ◌⊎◌, ◌↔◌, List, [], ◌∷◌, ◌++◌, length, get_or, take, drop, sym, ap, ◌∙◌, subst, inl, inr, ⊎_elim, arith}
use Rattle.std.proofs.lemmas.List.{take-append-drop, drop_more, take_more}
use Rattle.lx_encode.specs.declared.runs.Run.{Run}
use Rattle.lx_encode.specs.Runs.{InRun, LeadsTo, AreSortedFrom, AreSorted, AreBehind, IsRow}

pub LeadsTo-append : (xs ys : List Run) (n t : ℕ) → LeadsTo (xs ++ ys) n t ↔ (LeadsTo xs n t ⊎ LeadsTo ys n t)
LeadsTo-append [] ys n t = (λ at. inr at, λ at. ⊎_elim (λ none. absurd none) (λ back. back) at)
LeadsTo-append (x ∷ xs) ys n t =
    let rest = LeadsTo-append xs ys n t in (
      λ at. ⊎_elim (λ here. inl (inl here)) (λ later. ⊎_elim (λ front. inl (inr front)) (λ back. inr back) (rest.0 later)) at,
      λ at. ⊎_elim (λ front. ⊎_elim (λ here. inl here) (λ later. inr (rest.1 (inl later))) front) (λ back. inr (rest.1 (inr back))) at,
    )

-- no number lies before the first run
pub leads_from : (low : ℕ) (xs : List Run) (n t : ℕ) → AreSortedFrom low xs → LeadsTo xs n t → low ≤ n
leads_from low [] n t h at = absurd at
leads_from low (x ∷ xs) n t h at =
    ⊎_elim (λ here. omega arith) (λ later. let le = leads_from (x.hi + 1) xs n t h.3 later in omega arith) at

pub leads_within : (low : ℕ) (xs : List Run) (n t : ℕ) → AreSortedFrom low xs → LeadsTo xs n t → n ≤ 0x10FFFF
leads_within low [] n t h at = absurd at
leads_within low (x ∷ xs) n t h at =
    ⊎_elim (λ here. omega arith) (λ later. leads_within (x.hi + 1) xs n t h.3 later) at

-- a number leads to one target
pub leads_once : (low : ℕ) (xs : List Run) (n s t : ℕ) → AreSortedFrom low xs → LeadsTo xs n s → LeadsTo xs n t → s ≡ t
leads_once low [] n s t h at at' = absurd at
leads_once low (x ∷ xs) n s t h at at' =
    ⊎_elim
    (λ here. ⊎_elim (λ here'. sym here.1 ∙ here'.1) (λ later'. let le : x.hi + 1 ≤ n = leads_from (x.hi + 1) xs n t h.3 later' in absurd (omega arith)) at')
    (λ later. ⊎_elim (λ here'. let le : x.hi + 1 ≤ n = leads_from (x.hi + 1) xs n s h.3 later in absurd (omega arith))
    (λ later'. leads_once (x.hi + 1) xs n s t h.3 later later') at') at

pub AreSortedFrom-earlier : (m n : ℕ) (xs : List Run) → n ≤ m → AreSortedFrom m xs → AreSortedFrom n xs
AreSortedFrom-earlier m n [] le h = tt
AreSortedFrom-earlier m n (x ∷ xs) le h = (omega arith, h.1, h.2, h.3)

pub AreSortedFrom-back : (n : ℕ) (xs ys : List Run) → AreSortedFrom n (xs ++ ys) → AreSortedFrom n ys
AreSortedFrom-back n [] ys h = h
AreSortedFrom-back n (x ∷ xs) ys h =
    AreSortedFrom-back n xs ys (AreSortedFrom-earlier (x.hi + 1) n (xs ++ ys) (omega arith) h.3)

-- what stands before a run lies before it
pub leads_before : (low : ℕ) (xs : List Run) (x : Run) (ys : List Run) (n t : ℕ) → AreSortedFrom low (xs ++ x ∷ ys) → LeadsTo xs n t → n < x.lo
leads_before low [] x ys n t h at = absurd at
leads_before low (y ∷ xs) x ys n t h at =
    let back = AreSortedFrom-back (y.hi + 1) xs (x ∷ ys) h.3 in
    ⊎_elim (λ here. omega arith) (λ later. leads_before (y.hi + 1) xs x ys n t h.3 later) at

AreBehind-sorted : (x : Run) (xs : List Run) → AreBehind x xs → AreSortedFrom (x.hi + 1) xs
AreBehind-sorted x [] h = tt
AreBehind-sorted x (y ∷ xs) h = (omega arith, h.1, h.2, AreBehind-sorted y xs h.4)

-- a row is sorted
pub IsRow-sorted : (xs : List Run) → IsRow xs → AreSorted xs
IsRow-sorted [] h = tt
IsRow-sorted (x ∷ xs) h = (omega arith, h.0, h.1, AreBehind-sorted x xs h.2)

-- the run at a place, as code reads it
abbrev pub run_at : List Run → ℕ → Run
run_at xs i = get_or xs i (record { lo = 0; hi = 0; to = 0 })

module _ (xs : List Run) (i : ℕ) (lt : i < length xs) where
  pub rest_at : drop i xs ≡ run_at xs i ∷ drop (i + 1) xs
  rest_at = drop_more xs i (record { lo = 0; hi = 0; to = 0 }) lt

  pub taken_at : take (i + 1) xs ≡ take i xs ++ run_at xs i ∷ []
  taken_at = take_more xs i (record { lo = 0; hi = 0; to = 0 }) lt

  parts_at : xs ≡ take i xs ++ run_at xs i ∷ drop (i + 1) xs
  parts_at = sym (take-append-drop i xs) ∙ ap (λ back. take i xs ++ back) rest_at

  pub sorted_at : AreSorted xs → AreSortedFrom 0 (run_at xs i ∷ drop (i + 1) xs)
  sorted_at h =
      AreSortedFrom-back 0 (take i xs) (run_at xs i ∷ drop (i + 1) xs) (subst (λ l. AreSorted l) parts_at h)

  -- what was passed lies before the run
  pub before_at : (n t : ℕ) → AreSorted xs → LeadsTo (take i xs) n t → n < (run_at xs i).lo
  before_at n t h at =
      leads_before 0 (take i xs) (run_at xs i) (drop (i + 1) xs) n t (subst (λ l. AreSorted l) parts_at h) at

  pub LeadsTo-parts : (n t : ℕ) → LeadsTo xs n t ↔ (LeadsTo (take i xs) n t ⊎ LeadsTo (run_at xs i ∷ drop (i + 1) xs) n t)
  LeadsTo-parts n t =
      subst (λ l. LeadsTo l n t ↔ (LeadsTo (take i xs) n t ⊎ LeadsTo (run_at xs i ∷ drop (i + 1) xs) n t)) (sym parts_at)
      (LeadsTo-append (take i xs) (run_at xs i ∷ drop (i + 1) xs) n t)

  pub found_at : (n : ℕ) → (run_at xs i).lo ≤ n → n ≤ (run_at xs i).hi → LeadsTo xs n (run_at xs i).to
  found_at n from to =
      let here : InRun (run_at xs i) n = (from, to) in
      (LeadsTo-parts n (run_at xs i).to).1 (inr (inl (here, λ k. (run_at xs i).to)))

  -- its last number is one of those up to it
  pub leads_here : (run_at xs i).lo ≤ (run_at xs i).hi → LeadsTo (take (i + 1) xs) (run_at xs i).hi (run_at xs i).to
  leads_here filled =
      let here : InRun (run_at xs i) (run_at xs i).hi = (filled, omega arith) in
      subst (λ l. LeadsTo l (run_at xs i).hi (run_at xs i).to) (sym taken_at)
      ((LeadsTo-append (take i xs) (run_at xs i ∷ []) (run_at xs i).hi (run_at xs i).to).1 (inr (inl (here, λ k. (run_at xs i).to))))

  -- no number of what is left lies before the run
  pub from_here : (n t : ℕ) → AreSorted xs → LeadsTo (drop i xs) n t → (run_at xs i).lo ≤ n
  from_here n t h at =
      let parts = sorted_at h in
      leads_from (run_at xs i).lo (run_at xs i ∷ drop (i + 1) xs) n t (omega arith, parts.1, parts.2, parts.3)
      (subst (λ l. LeadsTo l n t) rest_at at)

  -- a number past the run is in no run up to it
  pub not_through : (n t : ℕ) → AreSorted xs → (run_at xs i).hi < n → LeadsTo (take (i + 1) xs) n t → ⊥
  not_through n t h after at =
      let parts = sorted_at h in
      ⊎_elim
      (λ front. let lt : n < (run_at xs i).lo = before_at n t h front in omega arith)
      (λ here. ⊎_elim (λ in_run. omega arith) (λ none. none) here)
      ((LeadsTo-append (take i xs) (run_at xs i ∷ []) n t).0 (subst (λ l. LeadsTo l n t) taken_at at))

-- the parts before a place and from there on
pub LeadsTo-split : (xs : List Run) (i n t : ℕ) → LeadsTo xs n t ↔ (LeadsTo (take i xs) n t ⊎ LeadsTo (drop i xs) n t)
LeadsTo-split xs i n t =
    subst (λ l. LeadsTo l n t ↔ (LeadsTo (take i xs) n t ⊎ LeadsTo (drop i xs) n t)) (take-append-drop i xs)
    (LeadsTo-append (take i xs) (drop i xs) n t)

pub same_sorted : (row runs : List Run) → runs ≡ row → IsRow row → AreSorted runs
same_sorted row runs same h = subst (λ l. AreSorted l) (sym same) (IsRow-sorted row h)
