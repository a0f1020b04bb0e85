-- Two scripts that agree up to unit n have equal lengths there.
use Rattle.lx_posix.specs.Parting.{Event, digit, down, read, up}
use Rattle.std.specs.Prelude.{◌≡◌, ℕ, zero, suc, ◌-◌, ◌<◌, ◌≤◌, ◌⊎◌, List, ◌∷◌, length, Option, Bool, true, false, ◌&&◌, nat_le, refl}
use Rattle.std.proofs.Common.{sym, ap, ap₂, ◌∙◌, subst, arith, inl, inr, ⊎_elim}
use Rattle.std.proofs.lemmas.Bool.{cases_lt}
use Rattle.lx_base.specs.declared.settings.Enc.{Enc}
use Rattle.lx_base.specs.declared.settings.Enc.TheVariants.{Byte, Ucs2, Utf8, Utf16, Utf32}
use Rattle.lx_base.specs.Spelling.{spell, utf16}
use Rattle.lx_regex.specs.Term.{Term, Terms}
use Rattle.lx_regex.specs.Tree.{Tree, blank, point, unit, row, chosen, iterations, event, inside, Row, row_end, beside, Choice, here, later, Iterations, stop, iteration}
use Rattle.lx_regex.specs.Script.{has_short, has_long, chosen_place, may_iterate}
use Rattle.lx_regex.specs.Posix.{Shape, absent, leaf, inner, Shapes, none, more, size, sizes, length_at, shape_of, row_shapes, choice_shapes, iteration_shapes}
use Rattle.lx_regex.proofs.PosixTrees.PosixShapes.{Same}
use Rattle.lx_regex.proofs.PosixTrees.PosixAhead.{SameAmong, same_kids, same_among, at_zero, among_zero}
use Rattle.lx_posix.proofs.Steps.OneMoreUnit.{measure_open}
use Rattle.lx_posix.proofs.Partings.Forks.{leaf_tied}
use Rattle.lx_posix.proofs.Partings.Partings.{reads_of, pick_if, leaf_pick, track, track_row, track_choice, track_iterations}
use Rattle.lx_posix.proofs.Partings.ForkOfParting.{begins_down}

-- the same events up to unit n
pub data Agree : ℕ → List Event → List Event → Type 0 where
  enough : {l l' : List Event} → Agree 0 l l'
  on_down : {n : ℕ} {l l' : List Event} → Agree (suc n) l l' → Agree (suc n) (down ∷ l) (down ∷ l')
  on_up : {n : ℕ} {l l' : List Event} → Agree (suc n) l l' → Agree (suc n) (up ∷ l) (up ∷ l')
  on_read : {n : ℕ} {l l' : List Event} → Agree n l l' → Agree (suc n) (read ∷ l) (read ∷ l')
  on_digit : {n i j : ℕ} {l l' : List Event} → i ≡ j → Agree (suc n) l l' → Agree (suc n) (digit i ∷ l) (digit j ∷ l')

agree_at : {n n' : ℕ} {y y' : List Event} → n ≡ n' → Agree n y y' → Agree n' y y'
agree_at {y} {y'} e r = subst (λ x. Agree x y y') e r

out_up : {n : ℕ} {y y' : List Event} → 0 < n → Agree n (up ∷ y) (up ∷ y') → Agree n y y'
out_up z enough = absurd (omega arith)
out_up z (on_up r) = r

abbrev Same' : (n : ℕ) (s s' : Shape) (y y' : List Event) → Type 0
Same' n s s' y y' = ((n ≤ size s) × (n ≤ size s') × Same n s s') ⊎ ((s ≡ s') × (size s < n) × Agree (n - size s) y y')

abbrev SameAll : (n : ℕ) (ks ks' : Shapes) (y y' : List Event) → Type 0
SameAll n ks ks' y y' = ((n ≤ sizes ks) × (n ≤ sizes ks') × SameAmong n ks ks') ⊎ ((ks ≡ ks') × (sizes ks < n) × Agree (n - sizes ks) y y')

unread : (n : ℕ) (s s' : Shape) (y y' : List Event) → n ≡ 0 → Same' n s s' y y'
unread zero s s' y y' z = inl (omega arith, omega arith, λ q. at_zero s q ∙ sym (at_zero s' q))
unread (suc n) s s' y y' z = absurd (omega arith)

around : (n : ℕ) (ks ks' : Shapes) (y y' : List Event) → SameAll (suc n) ks ks' (up ∷ y) (up ∷ y') → Same' (suc n) (inner ks) (inner ks') y y'
around n ks ks' y y' r = ⊎_elim
    (λ a. inl (a.0, a.1, same_kids (suc n) (inner ks) (inner ks') (measure_open (suc n) (inner ks) (omega arith) a.0 ∙ sym (measure_open (suc n) (inner ks') (omega arith) a.1)) a.2))
    (λ a. inr (ap inner a.0, a.1, out_up (let x = a.1 in omega arith) a.2))
    r

spent : (n : ℕ) (ks ks' : Shapes) → n ≡ 0 → SameAmong n ks ks'
spent zero ks ks' z i q = among_zero ks i q ∙ sym (among_zero ks' i q)
spent (suc n) ks ks' z i q = absurd (omega arith)

followed : (n : ℕ) (s s' : Shape) (ks ks' : Shapes) (l l' y y' : List Event) → Same' n s s' l l' → (Agree (n - size s) l l' → SameAll (n - size s) ks ks' y y') → SameAll n (more s ks) (more s' ks') y y'
followed n s s' ks ks' l l' y y' r rest = ⊎_elim
    (λ a. let x = a.0 in let z = a.1 in inl (omega arith, omega arith, same_among n (more s ks) (more s' ks') a.2 (spent (n - size s) ks ks' (omega arith))))
    (λ a. ⊎_elim
    (λ b. let x = b.0 in let z = b.1 in let w = ap size a.0 in let v = a.1 in inl (omega arith, omega arith, same_among n (more s ks) (more s' ks') (λ q. ap (λ m. length_at n m q) a.0) b.2))
    (λ b. let x = b.1 in let w = a.1 in inr (ap₂ more a.0 b.0, omega arith, agree_at (omega arith) b.2))
    (rest a.2))
    r

nothing : {n : ℕ} {y y' : List Event} → Agree n y y' → SameAll n none none y y'
nothing {n} {y} {y'} r = ⊎_elim (λ z. inr (refl, z, agree_at (omega arith) r)) (λ z. inl (omega arith, omega arith, λ i q. refl)) (cases_lt 0 n)

reads_agree : (m m' n : ℕ) (y y' : List Event) → Agree n (reads_of m (up ∷ y)) (reads_of m' (up ∷ y')) → ((n ≤ m) × (n ≤ m')) ⊎ ((m ≡ m') × (m < n) × Agree (n - m) (up ∷ y) (up ∷ y'))
reads_agree m m' zero y y' r = inl (omega arith, omega arith)
reads_agree zero zero (suc n) y y' r = inr (refl, omega arith, agree_at (omega arith) r)
reads_agree zero (suc m') (suc n) y y' r = elim r [ ]
reads_agree (suc m) zero (suc n) y y' r = elim r [ ]
reads_agree (suc m) (suc m') (suc n) y y' (on_read r) = ⊎_elim
    (λ a. inl (omega arith, omega arith))
    (λ a. let l = a.1 in inr (ap (λ x. suc x) a.0, omega arith, agree_at (omega arith) a.2))
    (reads_agree m m' n y y' r)

strip : (b : Bool) (x n : ℕ) (l l' : List Event) → Agree n (pick_if b x l) (pick_if b x l') → Agree n l l'
strip true x n l l' enough = enough
strip true x n l l' (on_digit e r) = r
strip false x n l l' r = r

leaf_alike : (n m m' : ℕ) (y y' : List Event) → Agree (suc n) (reads_of m (up ∷ y)) (reads_of m' (up ∷ y')) → Same' (suc n) (leaf m) (leaf m') y y'
leaf_alike n m m' y y' r = ⊎_elim
    (λ a. inl (a.0, a.1, leaf_tied (suc n) m m' a.0 a.1))
    (λ a. inr (ap leaf a.0, a.1, out_up (let x = a.1 in omega arith) a.2))
    (reads_agree m m' (suc n) y y' r)

leaf_two : (two : Bool) (n : ℕ) (y y' : List Event) (i j m m' : ℕ) → Agree (suc n) (pick_if two i (reads_of m (up ∷ y))) (pick_if two j (reads_of m' (up ∷ y'))) → Same' (suc n) (leaf m) (leaf m') y y'
leaf_two true n y y' i j m m' (on_digit e r) = leaf_alike n m m' y y' r
leaf_two false n y y' i j m m' r = leaf_alike n m m' y y' r

leaf_agree : (e : Enc) (ranges : List (ℕ × ℕ)) (c c' n : ℕ) (y y' : List Event) → Agree (suc n) (leaf_pick e ranges c (reads_of (length (spell e c)) (up ∷ y))) (leaf_pick e ranges c' (reads_of (length (spell e c')) (up ∷ y'))) → Same' (suc n) (leaf (length (spell e c))) (leaf (length (spell e c'))) y y'
leaf_agree Byte ranges c c' n y y' r = leaf_alike n _ _ y y' r
leaf_agree Ucs2 ranges c c' n y y' r = leaf_alike n _ _ y y' r
leaf_agree Utf8 ranges c c' n y y' r = leaf_alike n (length (spell Utf8 c)) (length (spell Utf8 c')) y y' r
leaf_agree Utf32 ranges c c' n y y' r = leaf_alike n _ _ y y' r
leaf_agree Utf16 ranges c c' n y y' r = leaf_two (has_short ranges && has_long ranges) n y y' _ _ (length (utf16 c)) (length (utf16 c')) r

down_digit : {n i : ℕ} {l l' : List Event} → Agree (suc n) (down ∷ l) (digit i ∷ l') → ⊥
down_digit r = elim r [ ]

down_up : {n : ℕ} {l l' : List Event} → Agree (suc n) (down ∷ l) (up ∷ l') → ⊥
down_up r = elim r [ ]

turn : {n : ℕ} {l l' : List Event} → Agree n l l' → Agree n l' l
turn enough = enough
turn (on_down r) = on_down (turn r)
turn (on_up r) = on_up (turn r)
turn (on_read r) = on_read (turn r)
turn (on_digit e r) = on_digit (sym e) (turn r)

-- a further iteration does not agree with none
differ : (b b' : Bool) (n : ℕ) (l y : List Event) → ((z : List Event) × (l ≡ down ∷ z)) → Agree (suc n) (pick_if b 0 l) (pick_if b' 1 (up ∷ y)) → ⊥
differ true true n l y z (on_digit e r) = absurd (omega arith)
differ true false n l y z r = elim r [ ]
differ false true n l y z r = down_digit (subst (λ x. Agree (suc n) x (digit 1 ∷ up ∷ y)) z.1 r)
differ false false n l y z r = down_up (subst (λ x. Agree (suc n) x (up ∷ y)) z.1 r)

module _ (enc : Enc) where
  mutual
    pub agree_tree : {e : Term} → (t t' : Tree e) (n : ℕ) (y y' : List Event) → Agree n (track enc t y) (track enc t' y') → Same' n (shape_of enc t) (shape_of enc t') y y'
    agree_tree t t' zero y y' r = unread zero (shape_of enc t) (shape_of enc t') y y' refl
    agree_tree blank blank (suc n) y y' (on_down r) = leaf_alike n 0 0 y y' r
    agree_tree (point {ranges} c i) (point c' i') (suc n) y y' (on_down r) = leaf_agree enc ranges c c' n y y' r
    agree_tree (unit u) (unit u') (suc n) y y' (on_down r) = leaf_alike n 1 1 y y' r
    agree_tree (row ts) (row ts') (suc n) y y' (on_down r) = around n _ _ y y' (agree_row ts ts' (suc n) (up ∷ y) (up ∷ y') r)
    agree_tree (chosen c) (chosen c') (suc n) y y' (on_down (on_digit e r)) = around n _ _ y y' (agree_choice c c' e (suc n) (up ∷ y) (up ∷ y') r)
    agree_tree (iterations {low} {high} k ts a b) (iterations k' ts' a' b') (suc n) y y' (on_down r) = around n _ _ y y' (agree_iterations low high 0 ts ts' (suc n) y y' r)
    agree_tree event event (suc n) y y' (on_down r) = leaf_alike n 0 0 y y' r
    agree_tree (inside t) (inside t') (suc n) y y' (on_down r) = around n _ _ y y' (followed (suc n) (shape_of enc t) (shape_of enc t') none none (up ∷ y) (up ∷ y') (up ∷ y) (up ∷ y') (agree_tree t t' (suc n) (up ∷ y) (up ∷ y') r) (λ q. nothing q))

    agree_row : {members : Terms} → (ts ts' : Row members) (n : ℕ) (y y' : List Event) → Agree n (track_row enc ts y) (track_row enc ts' y') → SameAll n (row_shapes enc ts) (row_shapes enc ts') y y'
    agree_row row_end row_end n y y' r = nothing r
    agree_row (beside t ts) (beside t' ts') n y y' r = followed n (shape_of enc t) (shape_of enc t') (row_shapes enc ts) (row_shapes enc ts') _ _ y y' (agree_tree t t' n _ _ r) (λ q. agree_row ts ts' (n - size (shape_of enc t)) y y' q)

    agree_choice : {members : Terms} → (c c' : Choice members) → chosen_place c ≡ chosen_place c' → (n : ℕ) (y y' : List Event) → Agree n (track_choice enc c y) (track_choice enc c' y') → SameAll n (choice_shapes enc c) (choice_shapes enc c') y y'
    agree_choice (here t) (here t') e n y y' r = followed n (shape_of enc t) (shape_of enc t') none none y y' y y' (agree_tree t t' n y y' r) (λ q. nothing q)
    agree_choice (here t) (later c') e n y y' r = absurd (omega arith)
    agree_choice (later c) (here t') e n y y' r = absurd (omega arith)
    agree_choice (later c) (later c') e n y y' r =
        let z : n ≡ n - 0 = omega arith in
        ⊎_elim
        (λ a. followed n absent absent (choice_shapes enc c) (choice_shapes enc c') (track_choice enc c y) (track_choice enc c' y') y y' (inr (refl, a, agree_at z r)) (λ q. subst (λ m. SameAll m (choice_shapes enc c) (choice_shapes enc c') y y') z (agree_choice c c' (omega arith) n y y' r)))
        (λ a. inl (omega arith, omega arith, spent n (more absent (choice_shapes enc c)) (more absent (choice_shapes enc c')) (omega arith)))
        (cases_lt 0 n)

    agree_iterations : {body : Term} {k k' : ℕ} → (low : ℕ) (high : Option ℕ) (i : ℕ) (ts : Iterations body k) (ts' : Iterations body k') (n : ℕ) (y y' : List Event) → Agree n (track_iterations enc low high i ts (up ∷ y)) (track_iterations enc low high i ts' (up ∷ y')) → SameAll n (iteration_shapes enc ts) (iteration_shapes enc ts') (up ∷ y) (up ∷ y')
    agree_iterations low high i ts ts' zero y y' r = inl (omega arith, omega arith, spent 0 (iteration_shapes enc ts) (iteration_shapes enc ts') refl)
    agree_iterations low high i stop stop (suc n) y y' r = nothing (strip (may_iterate i high) 1 (suc n) _ _ r)
    agree_iterations low high i (iteration t ts) (iteration t' ts') (suc n) y y' r = followed (suc n) (shape_of enc t) (shape_of enc t') (iteration_shapes enc ts) (iteration_shapes enc ts') _ _ (up ∷ y) (up ∷ y') (agree_tree t t' (suc n) _ _ (strip (nat_le low i) 0 (suc n) _ _ r)) (λ q. agree_iterations low high (suc i) ts ts' (suc n - size (shape_of enc t)) y y' q)
    agree_iterations low high i (iteration t ts) stop (suc n) y y' r = absurd (differ (nat_le low i) (may_iterate i high) n _ y' (begins_down enc t _) r)
    agree_iterations low high i stop (iteration t' ts') (suc n) y y' r = absurd (differ (nat_le low i) (may_iterate i high) n _ y (begins_down enc t' _) (turn r))
