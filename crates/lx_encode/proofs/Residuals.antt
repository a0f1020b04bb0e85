-- Residuals that are finished by the same lists are equal, and each is finished by some list.
use Rattle.std.proofs.Common.{◌≡◌, ℕ, zero, suc, ◌+◌, ◌<◌, ◌≤◌, ◌↔◌, List, [], ◌∷◌, length, Some, refl, sym, ◌∙◌, ap, ap₂, subst, inl, inr, ⊎_elim, arith}
use Rattle.std.proofs.lemmas.Bool.{cases_lt}
use Rattle.lx_encode.specs.declared.runs.Run.{Run}
use Rattle.lx_encode.specs.Runs.{InRun, LeadsTo, AreSortedFrom, AreSorted, AreBehind, IsRow, target_of}
use Rattle.lx_encode.specs.Table.{Rows, IsTable, Finishes, row_of}
use Rattle.lx_encode.proofs.RunLists.{IsRow-sorted, leads_from, leads_once}
use Rattle.lx_encode.proofs.Targets.{target_leads}
use Rattle.lx_encode.proofs.Meaning.{Finishes-cons}

-- what one list leads to, the other does too
abbrev Within : List Run → List Run → Type 0
Within xs ys = (n t : ℕ) → LeadsTo xs n t → LeadsTo ys n t

first_number : (low : ℕ) (x : Run) (xs : List Run) → AreSortedFrom low (x ∷ xs) → LeadsTo (x ∷ xs) x.lo x.to
first_number low x xs h = let here : InRun x x.lo = (omega arith, h.1) in inl (here, refl)

-- of two rows that lead alike, the first runs begin together, lead to the same, and the first ends no later
begins_within : (low low' : ℕ) (x y : Run) (xs ys : List Run) → AreSortedFrom low (x ∷ xs) → AreSortedFrom low' (y ∷ ys) → Within (x ∷ xs) (y ∷ ys) → y.lo ≤ x.lo
begins_within low low' x y xs ys hx hy within =
    leads_from y.lo (y ∷ ys) x.lo x.to (omega arith, hy.1, hy.2, hy.3) (within x.lo x.to (first_number low x xs hx))

targets_within : (low low' : ℕ) (x y : Run) (xs ys : List Run) → AreSortedFrom low (x ∷ xs) → AreSortedFrom low' (y ∷ ys) → Within (x ∷ xs) (y ∷ ys) → x.lo ≡ y.lo → x.to ≡ y.to
targets_within low low' x y xs ys hx hy within lo =
    leads_once low' (y ∷ ys) x.lo x.to y.to hy (within x.lo x.to (first_number low x xs hx))
    (subst (λ n. LeadsTo (y ∷ ys) n y.to) (sym lo) (first_number low' y ys hy))

-- a run does not end within another that leads to the same
ends_within : (low low' : ℕ) (x y : Run) (xs ys : List Run) → AreSortedFrom low (x ∷ xs) → AreSortedFrom low' (y ∷ ys) → AreBehind y ys →
    Within (x ∷ xs) (y ∷ ys) → x.lo ≡ y.lo → x.to ≡ y.to → x.hi ≤ y.hi
ends_within low low' x y xs ys hx hy behind within lo to =
    ⊎_elim (λ lt. absurd (go ys hy.3 behind
    (⊎_elim (λ here. absurd (let past : y.hi + 1 ≤ y.hi = here.0.1 in omega arith)) (λ later. later)
    (within (y.hi + 1) x.to (let at : InRun x (y.hi + 1) = (omega arith, omega arith) in inl (at, refl)))))) (λ le. le) (cases_lt y.hi x.hi)
  where
    go : (zs : List Run) → AreSortedFrom (y.hi + 1) zs → AreBehind y zs → LeadsTo zs (y.hi + 1) x.to → ⊥
    go [] h behind' at = at
    go (z ∷ zs) h behind' at = ⊎_elim
        (λ here. let touch : y.hi + 1 ≡ z.lo = omega (arith, here.0.0, h.0) in behind'.3 touch (sym to ∙ sym here.1))
        (λ later. let le : z.hi + 1 ≤ y.hi + 1 = leads_from (z.hi + 1) zs (y.hi + 1) x.to h.3 later in let filled : z.lo ≤ z.hi = h.1 in let from : y.hi + 1 ≤ z.lo = h.0 in omega arith) at

-- behind runs that are alike
rest_within : (low : ℕ) (x y : Run) (xs ys : List Run) → AreSortedFrom low (x ∷ xs) → x.hi ≡ y.hi → Within (x ∷ xs) (y ∷ ys) → Within xs ys
rest_within low x y xs ys hx hi within n t at =
    let past : x.hi + 1 ≤ n = leads_from (x.hi + 1) xs n t hx.3 at in
    ⊎_elim (λ here. absurd (let le : n ≤ y.hi = here.0.1 in omega arith)) (λ later. later) (within n t (inr at))

abbrev run : ℕ → ℕ → ℕ → Run
run lo hi to = record { lo = lo; hi = hi; to = to }

same_run : (x y : Run) → x.lo ≡ y.lo → x.hi ≡ y.hi → x.to ≡ y.to → x ≡ y
same_run x y lo hi to = ap (λ a. run a x.hi x.to) lo ∙ ap (λ a. run y.lo a x.to) hi ∙ ap (λ a. run y.lo y.hi a) to

IsRow-behind : (x : Run) (xs : List Run) → AreBehind x xs → IsRow xs
IsRow-behind x [] h = tt
IsRow-behind x (y ∷ xs) h = (h.1, h.2, h.4)

-- rows that lead alike are equal
pub same_rows : (xs ys : List Run) → IsRow xs → IsRow ys → Within xs ys → Within ys xs → xs ≡ ys
same_rows [] [] hx hy there back = refl
same_rows [] (y ∷ ys) hx hy there back = absurd (back y.lo y.to (first_number 0 y ys (IsRow-sorted (y ∷ ys) hy)))
same_rows (x ∷ xs) [] hx hy there back = absurd (there x.lo x.to (first_number 0 x xs (IsRow-sorted (x ∷ xs) hx)))
same_rows (x ∷ xs) (y ∷ ys) hx hy there back =
    let sx = IsRow-sorted (x ∷ xs) hx in
    let sy = IsRow-sorted (y ∷ ys) hy in
    let one : y.lo ≤ x.lo = begins_within 0 0 x y xs ys sx sy there in
    let other : x.lo ≤ y.lo = begins_within 0 0 y x ys xs sy sx back in
    let lo : x.lo ≡ y.lo = omega arith in
    let to : x.to ≡ y.to = targets_within 0 0 x y xs ys sx sy there lo in
    let one' : x.hi ≤ y.hi = ends_within 0 0 x y xs ys sx sy hy.2 there lo to in
    let other' : y.hi ≤ x.hi = ends_within 0 0 y x ys xs sy sx hx.2 back (sym lo) (sym to) in
    let hi : x.hi ≡ y.hi = omega arith in
    ap₂ ◌∷◌ (same_run x y lo hi to)
    (same_rows xs ys (IsRow-behind x xs hx.2) (IsRow-behind y ys hy.2) (rest_within 0 x y xs ys sx hi there) (rest_within 0 y x ys xs sy (sym hi) back))

module _ (rows : Rows) (table : IsTable rows) where
  -- by the number of a residual, which is greater than those that it leads to
  live_below : (k r : ℕ) → r < k → r < length rows → (units : List ℕ) × Finishes rows r units
  live_below zero r lt within = absurd (omega arith)
  live_below (suc k) r lt within = go (λ t earlier. live_below k t (omega arith) (omega arith)) (row_of rows r) refl
    where
      go : ((t : ℕ) → t < r → (units : List ℕ) × Finishes rows t units) → (row : List Run) → row_of rows r ≡ row → (units : List ℕ) × Finishes rows r units
      go before [] is = ([], is)
      go before (x ∷ xs) is =
          let sorted : AreSorted (x ∷ xs) = subst (λ l. AreSorted l) is (IsRow-sorted (row_of rows r) (table.row r within)) in
          let leads : LeadsTo (row_of rows r) x.lo x.to = subst (λ l. LeadsTo l x.lo x.to) (sym is) (first_number 0 x xs sorted) in
          let earlier : x.to < r = table.earlier r within x.lo x.to leads in
          let rest = before x.to earlier in
          (x.lo ∷ rest.0, (Finishes-cons rows table r within x.lo rest.0).1 (x.to, leads, rest.1))

  pub live : (r : ℕ) → r < length rows → (units : List ℕ) × Finishes rows r units
  live r lt = live_below (r + 1) r (omega arith) lt

  -- the same lists finish both
  abbrev Alike : ℕ → ℕ → Type 0
  Alike r s = (units : List ℕ) → Finishes rows r units ↔ Finishes rows s units

  -- two residuals are equal where those that they lead to are
  module _ (r s : ℕ) (wr : r < length rows) (ws : s < length rows) (alike : Alike r s)
      (before : (t q : ℕ) → t < r → t < length rows → q < length rows → Alike t q → t ≡ q) where
    sorted_r : AreSorted (row_of rows r)
    sorted_r = IsRow-sorted (row_of rows r) (table.row r wr)

    sorted_s : AreSorted (row_of rows s)
    sorted_s = IsRow-sorted (row_of rows s) (table.row s ws)

    -- what follows one unit is finished by the same lists too
    met : (n t q : ℕ) → LeadsTo (row_of rows r) n t → LeadsTo (row_of rows s) n q → t ≡ q
    met n t q at at' =
        let t_lt : t < r = table.earlier r wr n t at in
        let q_lt : q < s = table.earlier s ws n q at' in
        before t q t_lt (omega arith) (omega arith) (λ us. (
          λ fin.
              let other = (Finishes-cons rows table s ws n us).0 ((alike (n ∷ us)).0 ((Finishes-cons rows table r wr n us).1 (t, at, fin))) in
              subst (λ x. Finishes rows x us) (leads_once 0 (row_of rows s) n other.0 q sorted_s other.1 at') other.2,
          λ fin.
              let other = (Finishes-cons rows table r wr n us).0 ((alike (n ∷ us)).1 ((Finishes-cons rows table s ws n us).1 (q, at', fin))) in
              subst (λ x. Finishes rows x us) (leads_once 0 (row_of rows r) n other.0 t sorted_r other.1 at) other.2,
        ))

    there : Within (row_of rows r) (row_of rows s)
    there n t at =
        let t_lt : t < r = table.earlier r wr n t at in
        let some = live t (omega arith) in
        let other = (Finishes-cons rows table s ws n some.0).0 ((alike (n ∷ some.0)).0 ((Finishes-cons rows table r wr n some.0).1 (t, at, some.1))) in
        subst (λ x. LeadsTo (row_of rows s) n x) (sym (met n t other.0 at other.1)) other.1

    back : Within (row_of rows s) (row_of rows r)
    back n q at =
        let q_lt : q < s = table.earlier s ws n q at in
        let some = live q (omega arith) in
        let other = (Finishes-cons rows table r wr n some.0).0 ((alike (n ∷ some.0)).1 ((Finishes-cons rows table s ws n some.0).1 (q, at, some.1))) in
        subst (λ x. LeadsTo (row_of rows r) n x) (met n other.0 q other.1 at) other.1

    same_step : r ≡ s
    same_step = table.distinct r s wr ws (same_rows (row_of rows r) (row_of rows s) (table.row r wr) (table.row s ws) there back)

  same_below : (k r s : ℕ) → r < k → r < length rows → s < length rows → Alike r s → r ≡ s
  same_below zero r s lt wr ws alike = absurd (omega arith)
  same_below (suc k) r s lt wr ws alike =
      same_step r s wr ws alike (λ t q earlier wt wq alike'. same_below k t q (omega arith) wt wq alike')

  -- residuals that the same lists finish are equal
  pub same_residual : (r s : ℕ) → r < length rows → s < length rows → Alike r s → r ≡ s
  same_residual r s wr ws alike = same_below (r + 1) r s (omega arith) wr ws alike

  -- a step leads to a residual of the table
  pub step_within : (r : ℕ) → r < length rows → (u t : ℕ) → target_of (row_of rows r) u ≡ Some t → t < length rows
  step_within r lt u t is = let earlier : t < r = table.earlier r lt u t (target_leads (row_of rows r) u t is) in omega arith

  -- where there is a step, some list finishes after it
  pub step_lives : (r : ℕ) → r < length rows → (u t : ℕ) → target_of (row_of rows r) u ≡ Some t → (units : List ℕ) × Finishes rows r (u ∷ units)
  step_lives r lt u t is =
      let some = live t (step_within r lt u t is) in
      (some.0, (Finishes-cons rows table r lt u some.0).1 (t, target_leads (row_of rows r) u t is, some.1))
