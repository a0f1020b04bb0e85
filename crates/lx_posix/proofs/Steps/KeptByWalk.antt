-- What a walk to the next unit keeps open, read from the script.
use Rattle.lx_posix.specs.Walks.{lowest}
use Rattle.std.specs.Prelude.{◌≡◌, ℕ, zero, suc, ◌+◌, ◌-◌, ◌<◌, ◌≤◌, min, List, [], ◌∷◌, ◌++◌, map, length, Option, Bool, true, false, ◌&&◌, nat_le, nat_eq, if◌then◌else◌, refl}
use Rattle.std.proofs.Common.{sym, ap, ap₂, ◌∙◌, subst, arith, ⊎_elim, append_assoc}
use Rattle.std.proofs.lemmas.Bool.{cases_lt}
use Rattle.lx_base.specs.declared.settings.Enc.{Enc}
use Rattle.lx_base.specs.declared.settings.Enc.TheVariants.{Byte, Ucs2, Utf8, Utf16, Utf32}
use Rattle.lx_base.specs.Spelling.{spell}
use Rattle.lx_regex.specs.Term.{Term, Terms, parts}
use Rattle.lx_regex.specs.Tree.{Tree, blank, point, unit, row, chosen, iterations, event, inside, Row, row_end, beside, Choice, here, later, Iterations, stop, iteration}
use Rattle.lx_regex.specs.Script.{Symbol, begins, ends, reads, sets, unsets, picks, script, row_script, choice_script, iterations_script, leaf_choice, has_short, has_long, tags_in, tags_beside, may_iterate, iterate_choice, stop_choice, copy_part}
use Rattle.lx_regex.specs.Posix.{Shape, absent, leaf, inner, Shapes, none, more, size, sizes, shape_of, row_shapes, choice_shapes, iteration_shapes}
use Rattle.lx_posix.proofs.Steps.OneMoreUnit.{Kept, shut, still, KeptAmong, bottom, this, past}

-- the lowest depth between unit n and the next
abbrev pub low : (n d : ℕ) → List Symbol → ℕ
low zero d l = lowest d d l
low (suc n) d [] = 0
low (suc n) d (reads u ∷ l) = low n d l
low (suc n) d (begins p ∷ l) = low (suc n) (suc d) l
low (suc n) d (ends p ∷ l) = low (suc n) (d - 1) l
low (suc n) d (sets t ∷ l) = low (suc n) d l
low (suc n) d (unsets t ∷ l) = low (suc n) d l
low (suc n) d (picks t ∷ l) = low (suc n) d l

-- The beginnings, ends and units of a shape, and then y.
pub data Step : Type 0 where
  down : Step
  up : Step
  tick : Step

abbrev pub ticks : ℕ → List Step → List Step
ticks zero y = y
ticks (suc m) y = tick ∷ ticks m y

abbrev mutual
  pub steps : Shape → List Step → List Step
  steps absent y = y
  steps (leaf m) y = down ∷ ticks m (up ∷ y)
  steps (inner ks) y = down ∷ steps_all ks (up ∷ y)

  pub steps_all : Shapes → List Step → List Step
  steps_all none y = y
  steps_all (more s ks) y = steps s (steps_all ks y)

abbrev lowest' : (d m : ℕ) → List Step → ℕ
lowest' d m [] = m
lowest' d m (tick ∷ l) = m
lowest' d m (down ∷ l) = lowest' (suc d) m l
lowest' d m (up ∷ l) = lowest' (d - 1) (min m (d - 1)) l

abbrev low' : (n d : ℕ) → List Step → ℕ
low' zero d l = lowest' d d l
low' (suc n) d [] = 0
low' (suc n) d (tick ∷ l) = low' n d l
low' (suc n) d (down ∷ l) = low' (suc n) (suc d) l
low' (suc n) d (up ∷ l) = low' (suc n) (d - 1) l

-- up brings back what down took
back_up : (d m : ℕ) (y : List Step) → m ≤ d → lowest' (suc d) m (up ∷ y) ≡ lowest' d m y
back_up d m y h =
    let a : suc d - 1 ≡ d = omega arith in
    let b : min m (suc d - 1) ≡ m = omega arith in
    ap₂ (λ x z. lowest' x z y) a b

back_end : (d : ℕ) (y : List Step) → lowest' (suc d) (suc d) (up ∷ y) ≡ lowest' d d y
back_end d y =
    let a : suc d - 1 ≡ d = omega arith in
    let b : min (suc d) (suc d - 1) ≡ d = omega arith in
    ap₂ (λ x z. lowest' x z y) a b

mutual
  lowest_empty : (s : Shape) (d m : ℕ) (y : List Step) → size s ≡ 0 → m ≤ d → lowest' d m (steps s y) ≡ lowest' d m y
  lowest_empty absent d m y z h = refl
  lowest_empty (leaf zero) d m y z h = back_up d m y h
  lowest_empty (leaf (suc k)) d m y z h = absurd (omega arith)
  lowest_empty (inner ks) d m y z h = lowest_empty_all ks (suc d) m (up ∷ y) z (omega arith) ∙ back_up d m y h

  lowest_empty_all : (ks : Shapes) (d m : ℕ) (y : List Step) → sizes ks ≡ 0 → m ≤ d → lowest' d m (steps_all ks y) ≡ lowest' d m y
  lowest_empty_all none d m y z h = refl
  lowest_empty_all (more s ks) d m y z h = lowest_empty s d m (steps_all ks y) (omega arith) h ∙ lowest_empty_all ks d m y (omega arith) h

mutual
  lowest_unit : (s : Shape) (d m : ℕ) (y : List Step) → 0 < size s → m ≤ d → lowest' d m (steps s y) ≡ m
  lowest_unit absent d m y z h = absurd (omega arith)
  lowest_unit (leaf zero) d m y z h = absurd (omega arith)
  lowest_unit (leaf (suc k)) d m y z h = refl
  lowest_unit (inner ks) d m y z h = lowest_unit_all ks (suc d) m (up ∷ y) z (omega arith)

  lowest_unit_all : (ks : Shapes) (d m : ℕ) (y : List Step) → 0 < sizes ks → m ≤ d → lowest' d m (steps_all ks y) ≡ m
  lowest_unit_all none d m y z h = absurd (omega arith)
  lowest_unit_all (more s ks) d m y z h =
      ⊎_elim
      (λ lt. lowest_unit s d m (steps_all ks y) lt h)
      (λ ge. lowest_empty s d m (steps_all ks y) (omega arith) h ∙ lowest_unit_all ks d m y (omega arith) h)
      (cases_lt 0 (size s))

-- a shape that has ended before unit n
low_up : (n d : ℕ) (y : List Step) → 0 < n → low' n (suc d) (up ∷ y) ≡ low' n d y
low_up zero d y h = absurd (omega arith)
low_up (suc n) d y h = let a : suc d - 1 ≡ d = omega arith in ap (λ x. low' (suc n) x y) a

low_down : (n d : ℕ) (y : List Step) → 0 < n → low' n d (down ∷ y) ≡ low' n (suc d) y
low_down zero d y h = absurd (omega arith)
low_down (suc n) d y h = refl

low_ticks : (n m d : ℕ) (y : List Step) → m ≤ n → low' n d (ticks m y) ≡ low' (n - m) d y
low_ticks n zero d y h = let a : n ≡ n - 0 = omega arith in ap (λ x. low' x d y) a
low_ticks zero (suc m) d y h = absurd (omega arith)
low_ticks (suc n) (suc m) d y h = let a : n - m ≡ suc n - suc m = omega arith in low_ticks n m d y (omega arith) ∙ ap (λ x. low' x d y) a

mutual
  low_past : (s : Shape) (n d : ℕ) (y : List Step) → size s < n → low' n d (steps s y) ≡ low' (n - size s) d y
  low_past absent n d y h = let a : n ≡ n - 0 = omega arith in ap (λ x. low' x d y) a
  low_past (leaf m) n d y h = low_down n d _ (omega arith) ∙ low_ticks n m (suc d) (up ∷ y) (omega arith) ∙ low_up (n - m) d y (omega arith)
  low_past (inner ks) n d y h = low_down n d _ (omega arith) ∙ low_past_all ks n (suc d) (up ∷ y) h ∙ low_up (n - sizes ks) d y (omega arith)

  low_past_all : (ks : Shapes) (n d : ℕ) (y : List Step) → sizes ks < n → low' n d (steps_all ks y) ≡ low' (n - sizes ks) d y
  low_past_all none n d y h = let a : n ≡ n - 0 = omega arith in ap (λ x. low' x d y) a
  low_past_all (more s ks) n d y h =
      let a : n - size s - sizes ks ≡ n - (size s + sizes ks) = omega arith in
      low_past s n d (steps_all ks y) (omega arith) ∙ low_past_all ks (n - size s) d y (omega arith) ∙ ap (λ x. low' x d y) a

-- one that ends with unit n
mutual
  low_end : (s : Shape) (n d : ℕ) (y : List Step) → size s ≡ n → 0 < n → low' n d (steps s y) ≡ lowest' d d y
  low_end absent n d y e h = absurd (omega arith)
  low_end (leaf m) n d y e h =
      let a : n - m ≡ 0 = omega arith in
      low_down n d _ h ∙ low_ticks n m (suc d) (up ∷ y) (omega arith) ∙ ap (λ x. low' x (suc d) (up ∷ y)) a ∙ back_end d y
  low_end (inner ks) n d y e h = low_down n d _ h ∙ low_end_all ks n (suc d) (up ∷ y) e h ∙ back_end d y

  low_end_all : (ks : Shapes) (n d : ℕ) (y : List Step) → sizes ks ≡ n → 0 < n → low' n d (steps_all ks y) ≡ lowest' d d y
  low_end_all none n d y e h = absurd (omega arith)
  low_end_all (more s ks) n d y e h =
      ⊎_elim
      (λ lt. low_past s n d (steps_all ks y) lt ∙ low_end_all ks (n - size s) d y (omega arith) (omega arith))
      (λ ge. low_end s n d (steps_all ks y) (omega arith) h ∙ lowest_empty_all ks d d y (omega arith) (omega arith))
      (cases_lt (size s) n)

-- one that goes on behind it
mutual
  low_inside : (s : Shape) (n d : ℕ) (y : List Step) → 0 < n → n < size s → (h : ℕ) × Kept n s h × (low' n d (steps s y) ≡ d + h)
  low_inside absent n d y z l = absurd (omega arith)
  low_inside (leaf m) n d y z l =
      let a : d + 1 ≡ suc d = omega arith in
      (1, still l bottom, low_down n d _ z ∙ inside_ticks n m (suc d) (up ∷ y) l ∙ sym a)
    where
      inside_ticks : (n m d : ℕ) (y : List Step) → n < m → low' n d (ticks m y) ≡ d
      inside_ticks n zero d y l = absurd (omega arith)
      inside_ticks zero (suc m) d y l = refl
      inside_ticks (suc n) (suc m) d y l = inside_ticks n m d y (omega arith)
  low_inside (inner ks) n d y z l =
      let r = low_inside_all ks n (suc d) (up ∷ y) z l in
      let a : suc d + r.0 ≡ d + suc r.0 = omega arith in
      (suc r.0, still l r.1, low_down n d _ z ∙ r.2 ∙ a)

  low_inside_all : (ks : Shapes) (n d : ℕ) (y : List Step) → 0 < n → n < sizes ks → (h : ℕ) × KeptAmong n ks h × (low' n d (steps_all ks y) ≡ d + h)
  low_inside_all none n d y z l = absurd (omega arith)
  low_inside_all (more s ks) n d y z l =
      ⊎_elim
      (λ lt. let r = low_inside_all ks (n - size s) d y (omega arith) (omega arith) in (r.0, past lt r.1, low_past s n d (steps_all ks y) lt ∙ r.2))
      (λ ge. ⊎_elim
      (λ lt. let r = low_inside s n d (steps_all ks y) z lt in (r.0, this ge r.1, r.2))
      (λ le. let a : d ≡ d + 0 = omega arith in (0, this ge (shut le), low_end s n d (steps_all ks y) (omega arith) z ∙ lowest_unit_all ks d d y (omega arith) (omega arith) ∙ a))
      (cases_lt n (size s)))
      (cases_lt (size s) n)

-- The script has the steps of the shape.
abbrev pub erase : List Symbol → List Step
erase [] = []
erase (begins p ∷ l) = down ∷ erase l
erase (ends p ∷ l) = up ∷ erase l
erase (reads u ∷ l) = tick ∷ erase l
erase (sets t ∷ l) = erase l
erase (unsets t ∷ l) = erase l
erase (picks d ∷ l) = erase l

lowest_erase : (d m : ℕ) (l : List Symbol) → lowest d m l ≡ lowest' d m (erase l)
lowest_erase d m [] = refl
lowest_erase d m (begins p ∷ l) = lowest_erase (suc d) m l
lowest_erase d m (ends p ∷ l) = lowest_erase (d - 1) (min m (d - 1)) l
lowest_erase d m (reads u ∷ l) = refl
lowest_erase d m (sets t ∷ l) = lowest_erase d m l
lowest_erase d m (unsets t ∷ l) = lowest_erase d m l
lowest_erase d m (picks t ∷ l) = lowest_erase d m l

low_erase : (n d : ℕ) (l : List Symbol) → low n d l ≡ low' n d (erase l)
low_erase zero d l = lowest_erase d d l
low_erase (suc n) d [] = refl
low_erase (suc n) d (begins p ∷ l) = low_erase (suc n) (suc d) l
low_erase (suc n) d (ends p ∷ l) = low_erase (suc n) (d - 1) l
low_erase (suc n) d (reads u ∷ l) = low_erase n d l
low_erase (suc n) d (sets t ∷ l) = low_erase (suc n) d l
low_erase (suc n) d (unsets t ∷ l) = low_erase (suc n) d l
low_erase (suc n) d (picks t ∷ l) = low_erase (suc n) d l

erase_unsets : (ts : List ℕ) (l : List Symbol) → erase (map unsets ts ++ l) ≡ erase l
erase_unsets [] l = refl
erase_unsets (t ∷ ts) l = erase_unsets ts l

erase_reads : (us : List ℕ) (l : List Symbol) → erase (map reads us ++ l) ≡ ticks (length us) (erase l)
erase_reads [] l = refl
erase_reads (u ∷ us) l = ap (λ k. tick ∷ k) (erase_reads us l)

erase_pick : (b : Bool) (d : ℕ) (l : List Symbol) → erase ((if b then picks d ∷ [] else []) ++ l) ≡ erase l
erase_pick true d l = refl
erase_pick false d l = refl

erase_unset_if : (b : Bool) (ts : List ℕ) (l : List Symbol) → erase ((if b then map unsets ts else []) ++ l) ≡ erase l
erase_unset_if true ts l = erase_unsets ts l
erase_unset_if false ts l = refl

module _ (enc : Enc) where
  erase_leaf : (e : Enc) (ranges : List (ℕ × ℕ)) (c : ℕ) (l : List Symbol) → erase (leaf_choice e ranges c ++ l) ≡ erase l
  erase_leaf Byte ranges c l = refl
  erase_leaf Ucs2 ranges c l = refl
  erase_leaf Utf8 ranges c l = refl
  erase_leaf Utf32 ranges c l = refl
  erase_leaf Utf16 ranges c l = erase_pick (has_short ranges && has_long ranges) _ l

  mutual
    pub erase_script : {e : Term} → (p : ℕ) (t : Tree e) (l : List Symbol) → erase (script enc p t ++ l) ≡ steps (shape_of enc t) (erase l)
    erase_script p blank l = refl
    erase_script p (point {ranges} c h) l = ap (λ k. down ∷ k) (ap erase (append_assoc (leaf_choice enc ranges c) _ l) ∙ erase_leaf enc ranges c _ ∙ ap erase (append_assoc (map reads (spell enc c)) _ l) ∙ erase_reads (spell enc c) (ends p ∷ l))
    erase_script p (unit u) l = refl
    erase_script p (row ts) l = ap (λ k. down ∷ k) (ap erase (append_assoc (row_script enc (p + 1) ts) (ends p ∷ []) l) ∙ erase_row (p + 1) ts (ends p ∷ l))
    erase_script p (chosen c) l = ap (λ k. down ∷ k) (ap erase (append_assoc (map unsets (tags_beside c)) _ l) ∙ erase_unsets (tags_beside c) _ ∙ ap erase (append_assoc (choice_script enc (p + 1) c) (ends p ∷ []) l) ∙ erase_choice (p + 1) c (ends p ∷ l))
    erase_script p (iterations {low} {high} n ts a b) l = ap (λ k. down ∷ k) (ap erase (append_assoc (iterations_script enc p low high 0 ts) (ends p ∷ []) l) ∙ erase_iterations p low high 0 ts (ends p ∷ l))
    erase_script p event l = refl
    erase_script p (inside {opening} {closing} t) l = ap (λ k. down ∷ k) (ap erase (append_assoc (script enc (p + 1) t) _ l) ∙ erase_script (p + 1) t (sets closing ∷ ends p ∷ l))

    erase_row : {members : Terms} → (p : ℕ) (ts : Row members) (l : List Symbol) → erase (row_script enc p ts ++ l) ≡ steps_all (row_shapes enc ts) (erase l)
    erase_row p row_end l = refl
    erase_row p (beside {member = e} t ts) l = ap erase (append_assoc (script enc p t) (row_script enc (p + parts e) ts) l) ∙ erase_script p t _ ∙ ap (λ k. steps (shape_of enc t) k) (erase_row (p + parts e) ts l)

    erase_choice : {members : Terms} → (p : ℕ) (c : Choice members) (l : List Symbol) → erase (choice_script enc p c ++ l) ≡ steps_all (choice_shapes enc c) (erase l)
    erase_choice p (here t) l = erase_script p t l
    erase_choice p (later {member = e} c) l = erase_choice (p + parts e) c l

    erase_iterations : {body : Term} {m : ℕ} → (p low : ℕ) (high : Option ℕ) (n : ℕ) (ts : Iterations body m) (l : List Symbol) → erase (iterations_script enc p low high n ts ++ l) ≡ steps_all (iteration_shapes enc ts) (erase l)
    erase_iterations p low high n (stop {body}) l = ap erase (append_assoc (stop_choice n high) _ l) ∙ erase_pick (may_iterate n high) 1 _ ∙ erase_unset_if (nat_eq n 0) (tags_in body) l
    erase_iterations p low high n (iteration {body} t ts) l =
        let c = copy_part p body low high n in
        ap erase (append_assoc (iterate_choice low n) _ l) ∙ erase_pick (nat_le low n) 0 _ ∙ ap erase (append_assoc (script enc c t) (iterations_script enc p low high (suc n) ts) l) ∙ erase_script c t _ ∙ ap (λ k. steps (shape_of enc t) k) (erase_iterations p low high (suc n) ts l)

  -- What a walk to the next unit keeps open is its lowest depth.
  pub law_kept : {e : Term} → (p n : ℕ) (t : Tree e) (l : List Symbol) → 0 < n → n < size (shape_of enc t) → Kept n (shape_of enc t) (low n 0 (script enc p t ++ l))
  law_kept p n t l z h =
      let r = low_inside (shape_of enc t) n 0 (erase l) z h in
      let a : 0 + r.0 ≡ r.0 = omega arith in
      subst (λ k. Kept n (shape_of enc t) k) (sym (low_erase n 0 (script enc p t ++ l) ∙ ap (λ k. low' n 0 k) (erase_script p t l) ∙ r.2 ∙ a)) r.1
