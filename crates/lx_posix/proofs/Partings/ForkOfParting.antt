-- Where the events of two trees part, their shapes have a fork.
use Rattle.lx_posix.specs.Parting.{Event, Parting, by_digit, by_down, by_read, by_up, digit, down, keep, parts_here, up}
use Rattle.std.specs.Prelude.{◌≡◌, ℕ, zero, suc, ◌+◌, ◌-◌, ◌<◌, ◌≤◌, ◌⊎◌, min, List, [], ◌∷◌, length, Option, Bool, true, false, ◌&&◌, nat_lt, nat_le, if◌then◌else◌, refl}
use Rattle.std.proofs.Common.{sym, ap, ap₂, ◌∙◌, subst, arith, inl, inr, ⊎_elim}
use Rattle.std.proofs.lemmas.Bool.{cases_lt}
use Rattle.lx_base.specs.declared.settings.Enc.{Enc}
use Rattle.lx_base.specs.declared.settings.Enc.TheVariants.{Byte, Ucs2, Utf8, Utf16, Utf32}
use Rattle.lx_base.specs.Spelling.{spell, utf16}
use Rattle.lx_regex.specs.Term.{Term, Terms}
use Rattle.lx_regex.specs.Tree.{Tree, blank, point, unit, row, chosen, iterations, event, inside, Row, row_end, beside, Choice, here, later, Iterations, stop, iteration}
use Rattle.lx_regex.specs.Script.{has_short, has_long, chosen_place, may_iterate}
use Rattle.lx_regex.specs.Posix.{Shape, absent, leaf, inner, Shapes, none, more, size, sizes, measure, shape_of, row_shapes, choice_shapes, iteration_shapes}
use Rattle.lx_posix.proofs.Partings.Forks.{Fork, goes_on, tied, within, ForkAmong, child, in_head, behind_head, first_kept, first_among, second_kept, second_among, tick, tick_case}
use Rattle.lx_posix.proofs.Partings.Partings.{reads_of, pick_if, leaf_pick, track, track_row, track_choice, track_iterations, Keeps, keep_reads, keep_row, keep_choice, keep_iterations}

pub parting_some : {n d D h h' : ℕ} {l l' : List Event} → Parting n d l l' D h h' → 0 < n
parting_some (parts_here lt) = omega arith
parting_some (by_down r) = omega arith
parting_some (by_up r) = omega arith
parting_some (by_read r) = omega arith
parting_some (by_digit e r) = omega arith

up_out : {n d D h h' : ℕ} {y y' : List Event} → Parting n (suc d) (up ∷ y) (up ∷ y') D h h' → Parting n d y y' D h h'
up_out {d} {D} {h} {h'} {y} {y'} (by_up {n} r) = let z : suc d - 1 ≡ d = omega arith in subst (λ x. Parting (suc n) x y y' D h h') z r

parting_at : {n n' d D h h' : ℕ} {y y' : List Event} → n ≡ n' → Parting n d y y' D h h' → Parting n' d y y' D h h'
parting_at {d} {D} {h} {h'} {y} {y'} e r = subst (λ x. Parting x d y y' D h h') e r

keep_exit : (n d : ℕ) (y : List Event) → 0 < n → keep n (suc d) (suc d) (up ∷ y) ≡ keep n d d y
keep_exit zero d y z = absurd (omega arith)
keep_exit (suc n) d y z =
    let a : suc d - 1 ≡ d = omega arith in
    let b : min (suc d) (suc d - 1) ≡ d = omega arith in
    ap₂ (λ x v. keep (suc n) x v y) a b

-- h of all open positions are kept, g of them inside
abbrev Kp : (n d k : ℕ) (y : List Event) (h g : ℕ) → Type 0
Kp n d k y h g = ((n ≤ k) × (h ≡ d + g)) ⊎ ((k < n) × (h ≡ keep (n - k) d d y) × (g ≡ 0))

kp_of : (n d k : ℕ) (l y : List Event) → Keeps n d d k l y → Kp n d k y (keep n d d l) 0
kp_of n d k l y r = ⊎_elim (λ a. inl (a.0, let b = a.1 in omega arith)) (λ a. inr (a.0, a.1, refl)) r

kp_around : (n d k : ℕ) (y : List Event) (h g : ℕ) → Kp n (suc d) k (up ∷ y) h g → Kp n d k y h (tick n k g)
kp_around n d k y h g r = ⊎_elim
    (λ a. ⊎_elim (λ b. inl (a.0, let x = a.1 in let z = b.1 in omega arith)) (λ b. let x = a.0 in let z = b.0 in absurd (omega arith)) (tick_case n k g))
    (λ a. ⊎_elim (λ b. let x = a.0 in let z = b.0 in absurd (omega arith)) (λ b. inr (a.0, a.1 ∙ keep_exit (n - k) d y (let x = a.0 in omega arith), b.1)) (tick_case n k g))
    r

kp_then : (n d k k' : ℕ) (l y : List Event) (h g : ℕ) → Kp n d k l h g → Keeps (n - k) d d k' l y → Kp n d (k + k') y h g
kp_then n d k k' l y h g r q = ⊎_elim
    (λ a. inl (let x = a.0 in omega arith, a.1))
    (λ a. ⊎_elim
    (λ b. let x = a.0 in let z = b.0 in inl (omega arith, let u = a.1 in let v = b.1 in let w = a.2 in omega arith))
    (λ b. let x = a.0 in let z = b.0 in inr (omega arith, a.1 ∙ b.1 ∙ (let c : n - k - k' ≡ n - (k + k') = omega arith in ap (λ x. keep x d d y) c), a.2))
    q)
    r

kp_shift : (n d k k' : ℕ) (y : List Event) (h g : ℕ) → k < n → Kp (n - k) d k' y h g → Kp n d (k + k') y h g
kp_shift n d k k' y h g l r = ⊎_elim
    (λ a. inl (let x = a.0 in omega arith, a.1))
    (λ a. let x = a.0 in inr (omega arith, a.1 ∙ (let c : n - k - k' ≡ n - (k + k') = omega arith in ap (λ x. keep x d d y) c), a.2))
    r

-- a fork inside, or all alike inside and the parting behind
abbrev Res : (n d : ℕ) (s s' : Shape) (y y' : List Event) (D h h' : ℕ) → Type 0
Res n d s s' y y' D h h' = ((c : ℕ) × (f : Fork n s s' c) × (D ≡ d + c) × Kp n d (size s) y h (first_kept f) × Kp n d (size s') y' h' (second_kept f))
    ⊎ ((s ≡ s') × (size s < n) × Parting (n - size s) d y y' D h h')

abbrev ResAmong : (n d : ℕ) (ks ks' : Shapes) (y y' : List Event) (D h h' : ℕ) → Type 0
ResAmong n d ks ks' y y' D h h' = ((c : ℕ) × (f : ForkAmong n ks ks' c) × (D ≡ d + c) × Kp n d (sizes ks) y h (first_among f) × Kp n d (sizes ks') y' h' (second_among f))
    ⊎ ((ks ≡ ks') × (sizes ks < n) × Parting (n - sizes ks) d y y' D h h')

around : (n d : ℕ) (ks ks' : Shapes) (y y' : List Event) (D h h' : ℕ) → ResAmong (suc n) (suc d) ks ks' (up ∷ y) (up ∷ y') D h h' → Res (suc n) d (inner ks) (inner ks') y y' D h h'
around n d ks ks' y y' D h h' r = ⊎_elim
    (λ a. let e = a.2 in inl (suc a.0, within (omega arith) (omega arith) a.1, omega arith, kp_around (suc n) d (sizes ks) y h _ a.3, kp_around (suc n) d (sizes ks') y' h' _ a.4))
    (λ a. inr (ap inner a.0, a.1, up_out a.2))
    r

-- a head and what is behind it
followed : (n d : ℕ) (s s' : Shape) (ks ks' : Shapes) (l l' y y' : List Event) (D h h' : ℕ) → Res n d s s' l l' D h h' → Keeps (n - size s) d d (sizes ks) l y → Keeps (n - size s') d d (sizes ks') l' y' → (Parting (n - size s) d l l' D h h' → ResAmong (n - size s) d ks ks' y y' D h h') → ResAmong n d (more s ks) (more s' ks') y y' D h h'
followed n d s s' ks ks' l l' y y' D h h' r k k' rest = ⊎_elim
    (λ a. inl (a.0, in_head a.1, a.2, kp_then n d (size s) (sizes ks) l y h _ a.3 k, kp_then n d (size s') (sizes ks') l' y' h' _ a.4 k'))
    (λ a. ⊎_elim
    (λ b. inl (b.0, behind_head a.0 b.1, b.2, kp_shift n d (size s) (sizes ks) y h _ a.1 b.3, subst (λ m. Kp n d (m + sizes ks') y' h' (second_among b.1)) (ap size a.0) (kp_shift n d (size s) (sizes ks') y' h' _ a.1 b.4)))
    (λ b. let x = b.1 in let w = a.1 in inr (ap₂ more a.0 b.0, omega arith, parting_at (omega arith) b.2))
    (rest a.2))
    r

reads_part : (m m' n d D h h' : ℕ) (y y' : List Event) → Parting n d (reads_of m (up ∷ y)) (reads_of m' (up ∷ y')) D h h' → (m ≡ m') × (m < n) × Parting (n - m) d (up ∷ y) (up ∷ y') D h h'
reads_part zero zero n d D h h' y y' r = let z = parting_some r in (refl, z, parting_at (omega arith) r)
reads_part zero (suc m') n d D h h' y y' r = elim r [ ]
reads_part (suc m) zero n d D h h' y y' r = elim r [ ]
reads_part (suc m) (suc m') zero d D h h' y y' r = elim r [ ]
reads_part (suc m) (suc m') (suc n) d D h h' y y' (by_read r) =
    let q = reads_part m m' n d D h h' y y' r in
    let l = q.1 in
    (ap (λ x. suc x) q.0, omega arith, parting_at (omega arith) q.2)

strip : (b : Bool) (x n d D h h' : ℕ) (l l' : List Event) → Parting n d (pick_if b x l) (pick_if b x l') D h h' → Parting n d l l' D h h'
strip true x n d D h h' l l' (parts_here lt) = absurd (omega arith)
strip true x n d D h h' l l' (by_digit e r) = r
strip false x n d D h h' l l' r = r

leaf_alike : (n d D h h' m m' : ℕ) (y y' : List Event) → Parting (suc n) (suc d) (reads_of m (up ∷ y)) (reads_of m' (up ∷ y')) D h h' → Res (suc n) d (leaf m) (leaf m') y y' D h h'
leaf_alike n d D h h' m m' y y' r = let q = reads_part m m' (suc n) (suc d) D h h' y y' r in inr (ap leaf q.0, q.1, up_out q.2)

-- a leaf in which the first goes on
leaf_fork : (n d m m' : ℕ) (y y' : List Event) → m' < m → Res (suc n) d (leaf m) (leaf m') y y' (suc d) (keep (suc n) (suc d) (suc d) (reads_of m (up ∷ y))) (keep (suc n) (suc d) (suc d) (reads_of m' (up ∷ y')))
leaf_fork n d m m' y y' lt = ⊎_elim
    (λ g. inl (1, goes_on lt g, omega arith, kp_around (suc n) d m y _ 0 (kp_of (suc n) (suc d) m (reads_of m (up ∷ y)) (up ∷ y) (keep_reads m (suc n) (suc d) (suc d) (up ∷ y))), kp_around (suc n) d m' y' _ 0 (kp_of (suc n) (suc d) m' (reads_of m' (up ∷ y')) (up ∷ y') (keep_reads m' (suc n) (suc d) (suc d) (up ∷ y')))))
    (λ g. inl (1, tied lt (omega arith) g, omega arith, tied_kp m y (omega arith), tied_kp m' y' g))
    (cases_lt m' (suc n))
  where
    tied_kp : (k : ℕ) (z : List Event) → suc n ≤ k → Kp (suc n) d k z (keep (suc n) (suc d) (suc d) (reads_of k (up ∷ z))) 1
    tied_kp k z g = ⊎_elim (λ a. inl (a.0, let b = a.1 in omega arith)) (λ a. let b = a.0 in absurd (omega arith)) (keep_reads k (suc n) (suc d) (suc d) (up ∷ z))

short_digit : (b b' : Bool) (x y z x' y' z' : ℕ) → (if b then 1 else 0) < (if b' then 1 else 0) → length (if b' then x' ∷ [] else y' ∷ z' ∷ []) < length (if b then x ∷ [] else y ∷ z ∷ [])
short_digit true true x y z x' y' z' h = absurd (omega arith)
short_digit true false x y z x' y' z' h = absurd (omega arith)
short_digit false true x y z x' y' z' h = omega arith
short_digit false false x y z x' y' z' h = absurd (omega arith)

leaf_two : (two : Bool) (n d D h h' : ℕ) (y y' : List Event) (i j m m' : ℕ) → (i < j → m' < m) → Parting (suc n) (suc d) (pick_if two i (reads_of m (up ∷ y))) (pick_if two j (reads_of m' (up ∷ y'))) D h h' → Res (suc n) d (leaf m) (leaf m') y y' D h h'
leaf_two true n d D h h' y y' i j m m' g (parts_here lt) = leaf_fork n d m m' y y' (g lt)
leaf_two true n d D h h' y y' i j m m' g (by_digit e r) = leaf_alike n d D h h' m m' y y' r
leaf_two false n d D h h' y y' i j m m' g r = leaf_alike n d D h h' m m' y y' r

leaf_part : (e : Enc) (ranges : List (ℕ × ℕ)) (c c' n d D h h' : ℕ) (y y' : List Event) → Parting (suc n) (suc d) (leaf_pick e ranges c (reads_of (length (spell e c)) (up ∷ y))) (leaf_pick e ranges c' (reads_of (length (spell e c')) (up ∷ y'))) D h h' → Res (suc n) d (leaf (length (spell e c))) (leaf (length (spell e c'))) y y' D h h'
leaf_part Byte ranges c c' n d D h h' y y' r = leaf_alike n d D h h' _ _ y y' r
leaf_part Ucs2 ranges c c' n d D h h' y y' r = leaf_alike n d D h h' _ _ y y' r
leaf_part Utf8 ranges c c' n d D h h' y y' r = leaf_alike n d D h h' (length (spell Utf8 c)) (length (spell Utf8 c')) y y' r
leaf_part Utf32 ranges c c' n d D h h' y y' r = leaf_alike n d D h h' _ _ y y' r
leaf_part Utf16 ranges c c' n d D h h' y y' r = leaf_two (has_short ranges && has_long ranges) n d D h h' y y' _ _ (length (utf16 c)) (length (utf16 c')) (short_digit (nat_lt c 0x10000) (nat_lt c' 0x10000) _ _ _ _ _ _) r

nothing : {n d D h h' : ℕ} {y y' : List Event} → Parting n d y y' D h h' → ResAmong n d none none y y' D h h'
nothing r = let z = parting_some r in inr (refl, z, parting_at (omega arith) r)

no_down : {n d D h h' : ℕ} {z : List Event} → (b : Bool) (y' : List Event) → Parting n d (down ∷ z) (pick_if b 1 (up ∷ y')) D h h' → ⊥
no_down true y' r = elim r [ ]
no_down false y' r = elim r [ ]

-- a further iteration, and none
more_none : (b b' : Bool) (n d D h h' : ℕ) (s : Shape) (ks : Shapes) (l y y' : List Event) → (0 < n → 0 < measure n s) → ((z : List Event) × (l ≡ down ∷ z)) → Keeps n d d (size s + sizes ks) (pick_if b 0 l) (up ∷ y) → Parting n d (pick_if b 0 l) (pick_if b' 1 (up ∷ y')) D h h' → ResAmong n d (more s ks) none (up ∷ y) (up ∷ y') D h h'
more_none true true n d D h h' s ks l y y' p z q (parts_here {n = k} lt) = inl (0, child refl (p (omega arith)), omega arith, kp_of (suc k) d (size s + sizes ks) l (up ∷ y) q, kp_of (suc k) d 0 (up ∷ y') (up ∷ y') (keep_reads 0 (suc k) d d (up ∷ y')))
more_none true true n d D h h' s ks l y y' p z q (by_digit e r) = absurd (omega arith)
more_none true false n d D h h' s ks l y y' p z q r = elim r [ ]
more_none false b' n d D h h' s ks l y y' p z q r = absurd (no_down b' y' (subst (λ x. Parting n d x (pick_if b' 1 (up ∷ y')) D h h') z.1 r))

digit_down : {n d D h h' i : ℕ} {l l' : List Event} → Parting n d (digit i ∷ l) (down ∷ l') D h h' → ⊥
digit_down r = elim r [ ]

up_down : {n d D h h' : ℕ} {l l' : List Event} → Parting n d (up ∷ l) (down ∷ l') D h h' → ⊥
up_down r = elim r [ ]

none_more : (b b' : Bool) (n d D h h' : ℕ) (l y : List Event) → ((z : List Event) × (l ≡ down ∷ z)) → Parting n d (pick_if b' 1 (up ∷ y)) (pick_if b 0 l) D h h' → ⊥
none_more true true n d D h h' l y z (parts_here lt) = absurd (omega arith)
none_more true true n d D h h' l y z (by_digit e r) = absurd (omega arith)
none_more true false n d D h h' l y z r = elim r [ ]
none_more false true n d D h h' l y z r = digit_down (subst (λ x. Parting n d (digit 1 ∷ up ∷ y) x D h h') z.1 r)
none_more false false n d D h h' l y z r = up_down (subst (λ x. Parting n d (up ∷ y) x D h h') z.1 r)

module _ (enc : Enc) where
  pub begins_down : {e : Term} → (t : Tree e) (y : List Event) → (z : List Event) × (track enc t y ≡ down ∷ z)
  begins_down blank y = (_, refl)
  begins_down (point c h) y = (_, refl)
  begins_down (unit u) y = (_, refl)
  begins_down (row ts) y = (_, refl)
  begins_down (chosen c) y = (_, refl)
  begins_down (iterations n ts l h) y = (_, refl)
  begins_down event y = (_, refl)
  begins_down (inside t) y = (_, refl)

  begun : {e : Term} → (n : ℕ) (t : Tree e) → 0 < n → 0 < measure n (shape_of enc t)
  begun zero t h = absurd (omega arith)
  begun (suc n) blank h = omega arith
  begun (suc n) (point c i) h = omega arith
  begun (suc n) (unit u) h = omega arith
  begun (suc n) (row ts) h = omega arith
  begun (suc n) (chosen c) h = omega arith
  begun (suc n) (iterations m ts l i) h = omega arith
  begun (suc n) event h = omega arith
  begun (suc n) (inside t) h = omega arith

  fork_choice : {members : Terms} → (c c' : Choice members) (n : ℕ) → chosen_place c < chosen_place c' → 0 < n → ForkAmong n (choice_shapes enc c) (choice_shapes enc c') 0
  fork_choice (here t) (here t') n l z = absurd (omega arith)
  fork_choice (here t) (later c') n l z = child refl (begun n t z)
  fork_choice (later c) (here t') n l z = absurd (omega arith)
  fork_choice (later c) (later c') n l z =
      let a : n ≡ n - 0 = omega arith in
      behind_head refl (subst (λ m. ForkAmong m (choice_shapes enc c) (choice_shapes enc c') 0) a (fork_choice c c' n (omega arith) z))

  forks_none : {members : Terms} → (c c' : Choice members) (n : ℕ) (f : ForkAmong n (choice_shapes enc c) (choice_shapes enc c') 0) → (first_among f ≡ 0) × (second_among f ≡ 0)
  forks_none c c' n f = at_top f refl
    where
      at_top : {n : ℕ} {ks ks' : Shapes} {d : ℕ} → (f : ForkAmong n ks ks' d) → d ≡ 0 → (first_among f ≡ 0) × (second_among f ≡ 0)
      at_top (child a b) z = (refl, refl)
      at_top (in_head f) z = absurd (deep f z)
        where
          deep : {n : ℕ} {s s' : Shape} {d : ℕ} → Fork n s s' d → d ≡ 0 → ⊥
          deep (goes_on l g) z = absurd (omega arith)
          deep (tied l g k) z = absurd (omega arith)
          deep (within a b f) z = absurd (omega arith)
      at_top (behind_head e f) z = at_top f z

  mutual
    pub part_tree : {e : Term} → (t t' : Tree e) (n d D h h' : ℕ) (y y' : List Event) → Parting n d (track enc t y) (track enc t' y') D h h' → Res n d (shape_of enc t) (shape_of enc t') y y' D h h'
    part_tree blank blank n d D h h' y y' (by_down r) = leaf_alike _ d D h h' 0 0 y y' r
    part_tree (point {ranges} c i) (point c' i') n d D h h' y y' (by_down r) = leaf_part enc ranges c c' _ d D h h' y y' r
    part_tree (unit u) (unit u') n d D h h' y y' (by_down r) = leaf_alike _ d D h h' 1 1 y y' r
    part_tree (row ts) (row ts') n d D h h' y y' (by_down r) = around _ d _ _ y y' D h h' (part_row ts ts' _ (suc d) D h h' (up ∷ y) (up ∷ y') r)
    part_tree (chosen c) (chosen c') n d D h h' y y' (by_down {n = k} (parts_here lt)) =
        let f = fork_choice c c' (suc k) lt (omega arith) in
        let z = forks_none c c' (suc k) f in
        around k d _ _ y y' _ _ _ (inl (0, f, omega arith, subst (λ x. Kp (suc k) (suc d) (sizes (choice_shapes enc c)) (up ∷ y) (keep (suc k) (suc d) (suc d) (track_choice enc c (up ∷ y))) x) (sym z.0) (kp_of (suc k) (suc d) (sizes (choice_shapes enc c)) (track_choice enc c (up ∷ y)) (up ∷ y) (keep_choice enc c (suc k) (suc d) (suc d) (up ∷ y) (omega arith))), subst (λ x. Kp (suc k) (suc d) (sizes (choice_shapes enc c')) (up ∷ y') (keep (suc k) (suc d) (suc d) (track_choice enc c' (up ∷ y'))) x) (sym z.1) (kp_of (suc k) (suc d) (sizes (choice_shapes enc c')) (track_choice enc c' (up ∷ y')) (up ∷ y') (keep_choice enc c' (suc k) (suc d) (suc d) (up ∷ y') (omega arith)))))
    part_tree (chosen c) (chosen c') n d D h h' y y' (by_down (by_digit e r)) = around _ d _ _ y y' D h h' (part_choice c c' e _ (suc d) D h h' (up ∷ y) (up ∷ y') r)
    part_tree (iterations {low} {high} k ts a b) (iterations k' ts' a' b') n d D h h' y y' (by_down r) = around _ d _ _ y y' D h h' (part_iterations low high 0 ts ts' _ (suc d) D h h' y y' r)
    part_tree event event n d D h h' y y' (by_down r) = leaf_alike _ d D h h' 0 0 y y' r
    part_tree (inside t) (inside t') n d D h h' y y' (by_down r) = around _ d _ _ y y' D h h' (followed _ (suc d) (shape_of enc t) (shape_of enc t') none none (up ∷ y) (up ∷ y') (up ∷ y) (up ∷ y') D h h' (part_tree t t' _ (suc d) D h h' (up ∷ y) (up ∷ y') r) (keep_reads 0 _ (suc d) (suc d) (up ∷ y)) (keep_reads 0 _ (suc d) (suc d) (up ∷ y')) (λ q. nothing q))

    part_row : {members : Terms} → (ts ts' : Row members) (n d D h h' : ℕ) (y y' : List Event) → Parting n d (track_row enc ts y) (track_row enc ts' y') D h h' → ResAmong n d (row_shapes enc ts) (row_shapes enc ts') y y' D h h'
    part_row row_end row_end n d D h h' y y' r = nothing r
    part_row (beside t ts) (beside t' ts') n d D h h' y y' r = followed n d (shape_of enc t) (shape_of enc t') (row_shapes enc ts) (row_shapes enc ts') _ _ y y' D h h' (part_tree t t' n d D h h' _ _ r) (keep_row enc ts (n - size (shape_of enc t)) d d y (omega arith)) (keep_row enc ts' (n - size (shape_of enc t')) d d y' (omega arith)) (λ q. part_row ts ts' (n - size (shape_of enc t)) d D h h' y y' q)

    part_choice : {members : Terms} → (c c' : Choice members) → chosen_place c ≡ chosen_place c' → (n d D h h' : ℕ) (y y' : List Event) → Parting n d (track_choice enc c y) (track_choice enc c' y') D h h' → ResAmong n d (choice_shapes enc c) (choice_shapes enc c') y y' D h h'
    part_choice (here t) (here t') e n d D h h' y y' r = followed n d (shape_of enc t) (shape_of enc t') none none y y' y y' D h h' (part_tree t t' n d D h h' y y' r) (keep_reads 0 _ d d y) (keep_reads 0 _ d d y') (λ q. nothing q)
    part_choice (here t) (later c') e n d D h h' y y' r = absurd (omega arith)
    part_choice (later c) (here t') e n d D h h' y y' r = absurd (omega arith)
    part_choice (later c) (later c') e n d D h h' y y' r =
        let z : n ≡ n - 0 = omega arith in
        let l = parting_some r in
        followed n d absent absent (choice_shapes enc c) (choice_shapes enc c') (track_choice enc c y) (track_choice enc c' y') y y' D h h' (inr (refl, l, parting_at z r)) (keep_choice enc c (n - 0) d d y (omega arith)) (keep_choice enc c' (n - 0) d d y' (omega arith)) (λ q. subst (λ m. ResAmong m d (choice_shapes enc c) (choice_shapes enc c') y y' D h h') z (part_choice c c' (omega arith) n d D h h' y y' r))

    part_iterations : {body : Term} {k k' : ℕ} → (low : ℕ) (high : Option ℕ) (i : ℕ) (ts : Iterations body k) (ts' : Iterations body k') (n d D h h' : ℕ) (y y' : List Event) → Parting n d (track_iterations enc low high i ts (up ∷ y)) (track_iterations enc low high i ts' (up ∷ y')) D h h' → ResAmong n d (iteration_shapes enc ts) (iteration_shapes enc ts') (up ∷ y) (up ∷ y') D h h'
    part_iterations low high i stop stop n d D h h' y y' r = nothing (strip (may_iterate i high) 1 n d D h h' _ _ r)
    part_iterations low high i (iteration t ts) (iteration t' ts') n d D h h' y y' r = followed n d (shape_of enc t) (shape_of enc t') (iteration_shapes enc ts) (iteration_shapes enc ts') _ _ (up ∷ y) (up ∷ y') D h h' (part_tree t t' n d D h h' _ _ (strip (nat_le low i) 0 n d D h h' _ _ r)) (keep_iterations enc low high (suc i) ts (n - size (shape_of enc t)) d d (up ∷ y) (omega arith)) (keep_iterations enc low high (suc i) ts' (n - size (shape_of enc t')) d d (up ∷ y') (omega arith)) (λ q. part_iterations low high (suc i) ts ts' (n - size (shape_of enc t)) d D h h' y y' q)
    part_iterations low high i (iteration t ts) stop n d D h h' y y' r = more_none (nat_le low i) (may_iterate i high) n d D h h' (shape_of enc t) (iteration_shapes enc ts) _ y y' (λ z. begun n t z) (begins_down t _) (keep_iterations enc low high i (iteration t ts) n d d (up ∷ y) (omega arith)) r
    part_iterations low high i stop (iteration t' ts') n d D h h' y y' r = absurd (none_more (nat_le low i) (may_iterate i high) n d D h h' _ y (begins_down t' _) r)
