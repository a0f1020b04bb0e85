-- Two trees over the same units that have equal lengths at all positions have one script.
use Rattle.std.specs.Prelude.{◌≡◌, ℕ, zero, suc, ◌+◌, ◌-◌, ◌<◌, ◌⊎◌, List, [], ◌∷◌, ◌++◌, map, length, Option, None, Bool, true, false, ◌&&◌, nat_lt, nat_le, nat_eq, if◌then◌else◌, refl}
use Rattle.std.proofs.Common.{sym, ap, ap₂, ◌∙◌, subst, arith, inl, inr, ⊎_elim, append-nil, length-append}
use Rattle.lx_regex.specs.Posix.{HaveEqualLengths, IsLonger, Shape, Shapes, absent, shape_among, choice_shapes, inner, leaf, length_at, measure, more, iteration_shapes, row_shapes, shape_of, size, sizes, whole}
use Rattle.lx_regex.proofs.PosixTrees.PosixShapes.{Same}
use Rattle.lx_base.specs.declared.settings.Enc.{Enc}
use Rattle.lx_base.specs.declared.settings.Enc.TheVariants.{Byte, Ucs2, Utf8, Utf16, Utf32}
use Rattle.lx_base.specs.Spelling.{spell}
use Rattle.lx_regex.proofs.Walks.Fronts.{units_reads}
use Rattle.lx_regex.proofs.Walks.PlainWalk.{units_append, units_label}
use Rattle.lx_regex.proofs.PosixTrees.PosixAhead.{len, SameAmong}
use Rattle.lx_regex.proofs.PosixTrees.PosixOrder.{precedes_total}
use Rattle.lx_regex.proofs.Walks.Readings.{code_quiet}
use Rattle.lx_regex.specs.Reading.{of_point}
use Rattle.lx_regex.specs.Automaton.{move}
use Rattle.lx_regex.specs.Script.{Symbol, begins, ends, reads, sets, unsets, picks, script, row_script, choice_script, iterations_script, units, leaf_choice, has_short, has_long, chosen_place, merge_tags, tags_in, tags_beside, may_iterate, iterate_choice, stop_choice, copy_part}
use Rattle.lx_regex.specs.Order.{posix}
use Rattle.lx_regex.specs.Least.{IsLeast}
use Rattle.lx_regex.specs.Term.{Term, Terms, parts}
use Rattle.lx_regex.specs.Tree.{Tree, blank, point, unit, row, chosen, iterations, event, inside, Row, row_end, beside, Choice, here, later, Iterations, stop, iteration}

units_end : (l : List Symbol) (p : ℕ) → units (l ++ ends p ∷ []) ≡ units l
units_end l p = units_append l (ends p ∷ []) ∙ append-nil (units l)

units_iterate : (low n : ℕ) (l : List Symbol) → units (iterate_choice low n ++ l) ≡ units l
units_iterate low n l = by (nat_le low n)
  where
    by : (b : Bool) → units ((if b then picks 0 ∷ [] else []) ++ l) ≡ units l
    by true = refl
    by false = refl

units_unset : (ts : List ℕ) (l : List Symbol) → units (map unsets ts ++ l) ≡ units l
units_unset ts l = units_label (move None [] ts 0) l

units_stop :
    (n : ℕ) (high : Option ℕ) (ts : List ℕ) → units (stop_choice n high ++ (if nat_eq n 0 then map unsets ts else [])) ≡ []
units_stop n high ts = by (may_iterate n high) (nat_eq n 0)
  where
    none_left : units (map unsets ts) ≡ []
    none_left = ap units (sym (append-nil (map unsets ts))) ∙ units_unset ts []

    by : (b c : Bool) → units ((if b then picks 1 ∷ [] else []) ++ (if c then map unsets ts else [])) ≡ []
    by true true = none_left
    by true false = refl
    by false true = none_left
    by false false = refl

split_equal : (a a' b b' : List ℕ) → length a ≡ length a' → a ++ b ≡ a' ++ b' → (a ≡ a') × (b ≡ b')
split_equal [] [] b b' h e = (refl, e)
split_equal [] (x ∷ a') b b' h e = absurd (omega arith)
split_equal (x ∷ a) [] b b' h e = absurd (omega arith)
split_equal (x ∷ a) (x' ∷ a') b b' h e =
    let k : x ≡ x' = cc in
    let r = split_equal a a' b b' (omega arith) (cc) in
    (ap₂ (λ m n. m ∷ n) k r.0, r.1)

-- what has ended
size_same : (n : ℕ) (s s' : Shape) → size s < n → size s' < n → measure n s ≡ measure n s' → size s ≡ size s'
size_same zero s s' h h' e = absurd (omega arith)
size_same (suc n) absent absent h h' e = refl
size_same (suc n) absent (leaf m) h h' e = absurd (omega arith)
size_same (suc n) absent (inner ks) h h' e = absurd (omega arith)
size_same (suc n) (leaf m) absent h h' e = absurd (omega arith)
size_same (suc n) (leaf m) (leaf m') h h' e = omega arith
size_same (suc n) (leaf m) (inner ks) h h' e = omega arith
size_same (suc n) (inner ks) absent h h' e = absurd (omega arith)
size_same (suc n) (inner ks) (leaf m) h h' e = omega arith
size_same (suc n) (inner ks) (inner ks') h h' e = omega arith

module _ (enc : Enc) where
  units_point : (p : ℕ) (ranges : List (ℕ × ℕ)) (c : ℕ) (d : List Symbol) → units d ≡ []
      → units (begins p ∷ (d ++ (map reads (spell enc c) ++ ends p ∷ []))) ≡ spell enc c
  units_point p ranges c d q =
      units_append d _ ∙ ap₂ (λ x y. x ++ y) q (units_reads (spell enc c) (ends p ∷ [])) ∙ append-nil (spell enc c)

  -- a tree has as many units as its shape says
  mutual
    pub count : {e : Term} → (p : ℕ) (t : Tree e) → length (units (script enc p t)) ≡ size (shape_of enc t)
    count p blank = refl
    count p (point {ranges} c h) =
        ap length (units_point p ranges c (leaf_choice enc ranges c) (code_quiet enc (of_point c h)))
    count p (unit u) = refl
    count p (row ts) = ap length (units_end (row_script enc (p + 1) ts) p) ∙ row_count (p + 1) ts
    count p (chosen c) =
        ap length (units_unset (tags_beside c) _ ∙ units_end (choice_script enc (p + 1) c) p) ∙ choice_count (p + 1) c
    count p (iterations {low} {high} n ts l h) =
        ap length (units_end (iterations_script enc p low high 0 ts) p) ∙ rounds_count p low high 0 ts
    count p event = refl
    count p (inside {opening} {closing} t) =
        let a : units (script enc (p + 1) t ++ sets closing ∷ ends p ∷ []) ≡ units (script enc (p + 1) t) =
        units_append (script enc (p + 1) t) _ ∙ append-nil _ in
        let z = count (p + 1) t in
        omega (arith, ap length a, z)

    row_count :
        {members : Terms} → (p : ℕ) (ts : Row members) → length (units (row_script enc p ts)) ≡ sizes (row_shapes enc ts)
    row_count p row_end = refl
    row_count p (beside {member = e} t ts) =
        ap length (units_append (script enc p t) (row_script enc (p + parts e) ts))
        ∙ length-append (units (script enc p t)) _ ∙ ap₂ (λ x y. x + y) (count p t) (row_count (p + parts e) ts)

    choice_count : {members : Terms} → (p : ℕ) (c : Choice members)
        → length (units (choice_script enc p c)) ≡ sizes (choice_shapes enc c)
    choice_count p (here t) = let z = count p t in omega (arith, z)
    choice_count p (later {member = e} c) = let z = choice_count (p + parts e) c in omega (arith, z)

    rounds_count : {body : Term} {m : ℕ} → (p low : ℕ) (high : Option ℕ) (n : ℕ) (ts : Iterations body m)
        → length (units (iterations_script enc p low high n ts)) ≡ sizes (iteration_shapes enc ts)
    rounds_count p low high n (stop {body}) = ap length (units_stop n high (tags_in body))
    rounds_count p low high n (iteration {body} t ts) =
        ap length (units_iterate low n _ ∙ units_append (script enc (copy_part p body low high n) t) (iterations_script enc p low high (suc n) ts))
        ∙ length-append (units (script enc (copy_part p body low high n) t)) _
        ∙ ap₂ (λ x y. x + y) (count (copy_part p body low high n) t) (rounds_count p low high (suc n) ts)

  -- the units of two trees before others, of one length
  split_trees :
      {e : Term} → (p n : ℕ) (t t' : Tree e) (l l' : List Symbol) → size (shape_of enc t) < n → size (shape_of enc t') < n
      → Same n (shape_of enc t) (shape_of enc t') → units (script enc p t ++ l) ≡ units (script enc p t' ++ l')
      → (units (script enc p t) ≡ units (script enc p t')) × (units l ≡ units l')
      × (size (shape_of enc t) ≡ size (shape_of enc t'))
  split_trees p n t t' l l' h h' same e =
      let z = size_same n (shape_of enc t) (shape_of enc t') h h' (same []) in
      let r =
      split_equal _ _ _ _
      (count p t ∙ z ∙ sym (count p t'))
      (sym (units_append (script enc p t) l) ∙ e ∙ units_append (script enc p t') l') in
      (r.0, r.1, z)

  same_tail : (n : ℕ) (s s' : Shape) (ks ks' : Shapes) → size s ≡ size s' → SameAmong n (more s ks) (more s' ks')
      → SameAmong (n - size s) ks ks'
  same_tail n s s' ks ks' z h i q = h (suc i) q ∙ ap (λ m. len (shape_among (n - m) ks' i q)) (sym z)

  leaf_same : (e : Enc) (ranges : List (ℕ × ℕ)) (c c' : ℕ) → spell e c ≡ spell e c'
      → leaf_choice e ranges c ≡ leaf_choice e ranges c'
  leaf_same Byte ranges c c' h = refl
  leaf_same Ucs2 ranges c c' h = refl
  leaf_same Utf8 ranges c c' h = refl
  leaf_same Utf32 ranges c c' h = refl
  leaf_same Utf16 ranges c c' h =
      by (nat_lt c 0x10000) (nat_lt c' 0x10000) (has_short ranges && has_long ranges) _ _ _ _ _ _ h
    where
      by : (b b' two : Bool) (x y z x' y' z' : ℕ)
          → (if b then x ∷ [] else y ∷ z ∷ []) ≡ (if b' then x' ∷ [] else y' ∷ z' ∷ [])
          → (if two then picks (if b then 1 else 0) ∷ [] else []) ≡ (if two then picks (if b' then 1 else 0) ∷ [] else [])
      by true true two x y z x' y' z' e = refl
      by true false two x y z x' y' z' e =
          let k : length (x ∷ []) ≡ length (y' ∷ z' ∷ []) = ap length e in absurd (omega arith)
      by false true two x y z x' y' z' e =
          let k : length (y ∷ z ∷ []) ≡ length (x' ∷ []) = ap length e in absurd (omega arith)
      by false false two x y z x' y' z' e = refl

  begun : {e : Term} → (n : ℕ) (t : Tree e) → 0 < n → 0 < measure n (shape_of enc t)
  begun zero t h = absurd (omega arith)
  begun (suc n) blank h = omega arith
  begun (suc n) (point c i) h = omega arith
  begun (suc n) (unit u) h = omega arith
  begun (suc n) (row ts) h = omega arith
  begun (suc n) (chosen c) h = omega arith
  begun (suc n) (iterations m ts l i) h = omega arith
  begun (suc n) event h = omega arith
  begun (suc n) (inside t) h = omega arith

  mutual
    pub one_script : {e : Term} → (p n : ℕ) (t t' : Tree e) → size (shape_of enc t) < n → size (shape_of enc t') < n
        → Same n (shape_of enc t) (shape_of enc t') → units (script enc p t) ≡ units (script enc p t')
        → script enc p t ≡ script enc p t'
    one_script p n blank blank h h' s u = refl
    one_script p n (point {ranges} c i) (point c' i') h h' s u =
        let k : spell enc c ≡ spell enc c' =
        sym (units_point p ranges c (leaf_choice enc ranges c) (code_quiet enc (of_point c i))) ∙ u
        ∙ units_point p ranges c' (leaf_choice enc ranges c') (code_quiet enc (of_point c' i')) in
        ap₂ (λ x y. begins p ∷ (x ++ (map reads y ++ ends p ∷ []))) (leaf_same enc ranges c c' k) k
    one_script p n (unit x) (unit x') h h' s u = let k : x ≡ x' = cc in ap (λ y. begins p ∷ reads y ∷ ends p ∷ []) k
    one_script p n (row ts) (row ts') h h' s u =
        ap
        (λ l. begins p ∷ (l ++ ends p ∷ []))
        (one_row
        (p + 1) n ts ts' h h' (λ i q. s (i ∷ q))
        (sym (units_end (row_script enc (p + 1) ts) p) ∙ u ∙ units_end (row_script enc (p + 1) ts') p))
    one_script p n (chosen c) (chosen c') h h' s u =
        let r =
        one_choice
        (p + 1) n c c' h h' (λ i q. s (i ∷ q))
        (sym (units_unset (tags_beside c) _ ∙ units_end (choice_script enc (p + 1) c) p) ∙ u
        ∙ (units_unset (tags_beside c') _ ∙ units_end (choice_script enc (p + 1) c') p)) in
        ap₂ (λ x y. begins p ∷ picks x ∷ y) r.0 (ap₂ (λ x y. map unsets x ++ (y ++ ends p ∷ [])) r.1 r.2)
    one_script p n (iterations {low} {high} m ts l i) (iterations m' ts' l' i') h h' s u =
        ap
        (λ l. begins p ∷ (l ++ ends p ∷ []))
        (one_iterations p n low high 0 ts ts' h h'
        (λ i q. s (i ∷ q))
        (sym (units_end (iterations_script enc p low high 0 ts) p) ∙ u
        ∙ units_end (iterations_script enc p low high 0 ts') p))
    one_script p n event event h h' s u = refl
    one_script p n (inside {opening} {closing} t) (inside t') h h' s u =
        let k =
        split_trees
        (p + 1) n t t' (sets closing ∷ ends p ∷ []) (sets closing ∷ ends p ∷ []) (omega arith) (omega arith)
        (λ q. s (0 ∷ q)) u in
        ap
        (λ l. begins p ∷ sets opening ∷ (l ++ sets closing ∷ ends p ∷ []))
        (one_script (p + 1) n t t' (omega arith) (omega arith) (λ q. s (0 ∷ q)) k.0)

    one_row : {members : Terms} → (p n : ℕ) (ts ts' : Row members) → sizes (row_shapes enc ts) < n
        → sizes (row_shapes enc ts') < n → SameAmong n (row_shapes enc ts) (row_shapes enc ts')
        → units (row_script enc p ts) ≡ units (row_script enc p ts') → row_script enc p ts ≡ row_script enc p ts'
    one_row p n row_end row_end h h' s u = refl
    one_row p n (beside {member = e} t ts) (beside t' ts') h h' s u =
        let k =
        split_trees p n t t'
        (row_script enc (p + parts e) ts) (row_script enc (p + parts e) ts') (omega arith) (omega arith)
        (λ q. s 0 q) u in
        let z = k.2 in
        ap₂
        (λ x y. x ++ y) (one_script p n t t' (omega arith) (omega arith) (λ q. s 0 q) k.0)
        (one_row
        (p + parts e) (n - size (shape_of enc t)) ts ts' (omega arith) (omega arith) (same_tail n _ _ _ _ k.2 s) k.1)

    one_choice : {members : Terms} → (p n : ℕ) (c c' : Choice members) → sizes (choice_shapes enc c) < n
        → sizes (choice_shapes enc c') < n → SameAmong n (choice_shapes enc c) (choice_shapes enc c')
        → units (choice_script enc p c) ≡ units (choice_script enc p c')
        → (chosen_place c ≡ chosen_place c') × (tags_beside c ≡ tags_beside c')
        × (choice_script enc p c ≡ choice_script enc p c')
    one_choice p n (here t) (here t') h h' s u =
        (refl, refl, one_script p n t t' (omega arith) (omega arith) (λ q. s 0 q) u)
    one_choice p n (here t) (later c') h h' s u = let a = begun n t (omega arith) in let b = s 0 [] in absurd (omega arith)
    one_choice p n (later c) (here t') h h' s u = let a = begun n t' (omega arith) in let b = s 0 [] in absurd (omega arith)
    one_choice p n (later {member = e} {members} c) (later c') h h' s u =
        let z : n - 0 ≡ n = omega arith in
        let r =
        one_choice
        (p + parts e) n c c' (omega arith) (omega arith)
        (subst (λ m. SameAmong m (choice_shapes enc c) (choice_shapes enc c')) z (λ i q. s (suc i) q)) u in
        (ap (λ x. suc x) r.0, ap (λ x. merge_tags (tags_in e) x) r.1, r.2)

    one_iterations : {body : Term} {m m' : ℕ}
        → (p n low : ℕ) (high : Option ℕ) (k : ℕ) (ts : Iterations body m) (ts' : Iterations body m')
        → sizes (iteration_shapes enc ts) < n → sizes (iteration_shapes enc ts') < n
        → SameAmong n (iteration_shapes enc ts) (iteration_shapes enc ts')
        → units (iterations_script enc p low high k ts) ≡ units (iterations_script enc p low high k ts')
        → iterations_script enc p low high k ts ≡ iterations_script enc p low high k ts'
    one_iterations p n low high k stop stop h h' s u = refl
    one_iterations p n low high k stop (iteration t' ts') h h' s u =
        let a = begun n t' (omega arith) in let b = s 0 [] in absurd (omega arith)
    one_iterations p n low high k (iteration t ts) stop h h' s u =
        let a = begun n t (omega arith) in let b = s 0 [] in absurd (omega arith)
    one_iterations p n low high k (iteration {body} t ts) (iteration t' ts') h h' s u =
        let c = copy_part p body low high k in
        let u' =
        sym (units_iterate low k (script enc c t ++ iterations_script enc p low high (suc k) ts)) ∙ u
        ∙ units_iterate low k (script enc c t' ++ iterations_script enc p low high (suc k) ts') in
        let r =
        split_trees c n t t'
        (iterations_script enc p low high (suc k) ts) (iterations_script enc p low high (suc k) ts') (omega arith)
        (omega arith) (λ q. s 0 q) u' in
        let z = r.2 in
        ap₂
        (λ x y. iterate_choice low k ++ (x ++ y)) (one_script c n t t' (omega arith) (omega arith) (λ q. s 0 q) r.0)
        (one_iterations p
        (n - size (shape_of enc t)) low high (suc k) ts ts' (omega arith) (omega arith)
        (same_tail n _ _ _ _ r.2 s) r.1)

  -- trees over the same units with equal lengths have one script
  pub same_lengths_script :
      {e : Term} → (p : ℕ) (t t' : Tree e) → units (script enc p t) ≡ units (script enc p t') → HaveEqualLengths enc t t'
      → script enc p t ≡ script enc p t'
  same_lengths_script p t t' u s =
      let z : size (shape_of enc t) ≡ size (shape_of enc t') = sym (count p t) ∙ ap length u ∙ count p t' in
      one_script p
      (whole enc t) t t' (omega arith) (omega arith)
      (subst
      (λ m. (q : List ℕ) → length_at (whole enc t) (shape_of enc t) q ≡ length_at (suc m) (shape_of enc t') q)
      (sym z) s) u

  -- of two trees over the same units with different scripts one is longer
  pub scripts_longer : {e : Term} → (p : ℕ) (t t' : Tree e) → units (script enc p t) ≡ units (script enc p t')
      → (script enc p t ≡ script enc p t') ⊎ (IsLonger enc t t' ⊎ IsLonger enc t' t)
  scripts_longer p t t' u =
      ⊎_elim
      (λ s. inl (same_lengths_script p t t' u s)) (λ r. inr r)
      (precedes_total enc t t' (sym (count p t) ∙ ap length u ∙ count p t'))

  -- all least trees of a word under the POSIX order have one script
  pub posix_script :
      (e : Term) (p : ℕ) (w : List ℕ) (t t' : Tree e) → IsLeast posix enc p e w t → IsLeast posix enc p e w t'
      → script enc p t ≡ script enc p t'
  posix_script e p w t t' b b' =
      ⊎_elim
      (λ h. h)
      (λ r. ⊎_elim (λ a. absurd (b'.least t b.yields b.plain a)) (λ a. absurd (b.least t' b'.yields b'.plain a)) r)
      (scripts_longer p t t' (b.yields ∙ sym b'.yields))
