-- The copies at the first places of a list, where they wait.
use Rattle.std.proofs.Common.{◌≡◌, ℕ, zero, suc, ◌+◌, ◌<◌, ◌≤◌, arith, Bool, true, false, not, nat_eq, if◌then◌else◌, List, [], ◌∷◌, ◌++◌, length, take, Some, None, inl, inr, ◌⊎◌, ⊎_elim, refl, sym, ap, ◌∙◌, true≢false, append_assoc, zero-add, add-one, eq-eqb, ne_eqb, length-append}
use Rattle.std.proofs.lemmas.Bool.{cases_eq}
use Rattle.std.proofs.lemmas.Bool.Decides.{nat_tests}
use Rattle.std.proofs.lemmas.List.{take_more}
use Rattle.lx_sequence.specs.ParallelCopies.{Copies, is_in, read_from, sources, unread_target}
use Rattle.lx_sequence.specs.WaitingCopies.{copies_below, copy_of, count, is_unread, without}

-- ---- how often a register is read

sources-append : (front back : Copies) → sources (front ++ back) ≡ sources front ++ sources back
sources-append [] back = refl
sources-append (copy ∷ front) back = ap (λ l. copy.1 ∷ l) (sources-append front back)

count-append : (number : ℕ) (front back : List ℕ) → count number (front ++ back) ≡ count number front + count number back
count-append number [] back = omega arith
count-append number (other ∷ front) back = let again = count-append number front back in omega arith

pub count-sources-append : (number : ℕ) (front back : Copies)
    → count number (sources (front ++ back)) ≡ count number (sources front) + count number (sources back)
count-sources-append number front back =
    ap (λ l. count number l) (sources-append front back) ∙ count-append number (sources front) (sources back)

pub count-between : (number : ℕ) (front : Copies) (copy : ℕ × ℕ) (back : Copies)
    → count number (sources (front ++ copy ∷ back)) ≡ count number (sources (front ++ back)) + (if nat_eq number copy.1 then 1 else 0)
count-between number front copy back =
    let whole = count-sources-append number front (copy ∷ back) in
    let left = count-sources-append number front back in
    omega arith

pub count-le : (number : ℕ) (list : List ℕ) → count number list ≤ length list
count-le number [] = omega arith
count-le number (other ∷ list) = at (nat_eq number other) (count-le number list)
  where
    at : (b : Bool) → count number list ≤ length list → (if b then 1 else 0) + count number list ≤ suc (length list)
    at true h = omega arith
    at false h = omega arith

pub length-sources : (copies : Copies) → length (sources copies) ≡ length copies
length-sources [] = refl
length-sources (copy ∷ copies) = ap (λ n. suc n) (length-sources copies)

is_in-count : (number : ℕ) (list : List ℕ) → is_in number list ≡ not (nat_eq (count number list) 0)
is_in-count number [] = refl
is_in-count number (other ∷ list) = at (nat_eq number other) (is_in-count number list)
  where
    at : (b : Bool) → is_in number list ≡ not (nat_eq (count number list) 0)
        → (if b then true else is_in number list) ≡ not (nat_eq ((if b then 1 else 0) + count number list) 0)
    at true h = ap (λ b. not b) (sym (ne_eqb (1 + count number list) 0 (λ e. omega (arith, e))))
    at false h = h ∙ ap (λ n. not (nat_eq n 0)) (sym (zero-add (count number list)))

nat_eq-add : (n m : ℕ) → nat_eq (n + m) m ≡ nat_eq n 0
nat_eq-add n m =
    ⊎_elim (λ e. eq-eqb (n + m) m (omega (arith, e)) ∙ sym (eq-eqb n 0 e))
    (λ ne. ne_eqb (n + m) m (λ e. ne (omega (arith, e))) ∙ sym (ne_eqb n 0 ne)) (cases_eq n 0)

-- whether another copy reads the target of a copy among others
is_in-others : (front : Copies) (copy : ℕ × ℕ) (back : Copies)
    → is_in copy.0 (sources (front ++ back)) ≡ not (is_unread (front ++ copy ∷ back) copy)
is_in-others front copy back =
    is_in-count copy.0 (sources (front ++ back))
    ∙ ap (λ b. not b) (sym (nat_eq-add (count copy.0 (sources (front ++ back))) (if nat_eq copy.0 copy.1 then 1 else 0)))
    ∙ ap (λ n. not (nat_eq n (if nat_eq copy.0 copy.1 then 1 else 0))) (sym (count-between copy.0 front copy back))

-- ---- the next copy

abbrev Each : (ℕ × ℕ → Type 0) → Copies → Type 0
Each P [] = Unit {0}
Each P (copy ∷ copies) = P copy × Each P copies

Each-append : (P : ℕ × ℕ → Type 0) (front back : Copies) → Each P front → Each P back → Each P (front ++ back)
Each-append P [] back h g = g
Each-append P (copy ∷ front) back h g = (h.0, Each-append P front back h.1 g)

unread_target-behind : (all before front : Copies) (copy : ℕ × ℕ) (back : Copies) → before ++ (front ++ copy ∷ back) ≡ all
    → Each (λ other. is_unread all other ≡ false) front → is_unread all copy ≡ true
    → unread_target before (front ++ copy ∷ back) ≡ Some (copy, before ++ (front ++ back))
unread_target-behind all before [] copy back whole read free =
    ap (λ b. if b then unread_target (before ++ copy ∷ []) back else Some (copy, before ++ back))
    (is_in-others before copy back ∙ ap (λ l. not (is_unread l copy)) whole ∙ ap (λ b. not b) free)
unread_target-behind all before (other ∷ front) copy back whole read free =
    ap (λ b. if b then unread_target (before ++ other ∷ []) (front ++ copy ∷ back) else Some (other, before ++ (front ++ copy ∷ back)))
    (is_in-others before other (front ++ copy ∷ back) ∙ ap (λ l. not (is_unread l other)) whole ∙ ap (λ b. not b) read.0)
    ∙ unread_target-behind all (before ++ other ∷ []) front copy back (append_assoc before (other ∷ []) (front ++ copy ∷ back) ∙ whole)
    read.1 free
    ∙ ap (λ l. Some (copy, l)) (append_assoc before (other ∷ []) (front ++ back))

unread_target-read : (all before behind : Copies) → before ++ behind ≡ all → Each (λ other. is_unread all other ≡ false) behind
    → unread_target before behind ≡ None
unread_target-read all before [] whole read = refl
unread_target-read all before (other ∷ behind) whole read =
    ap (λ b. if b then unread_target (before ++ other ∷ []) behind else Some (other, before ++ behind))
    (is_in-others before other behind ∙ ap (λ l. not (is_unread l other)) whole ∙ ap (λ b. not b) read.0)
    ∙ unread_target-read all (before ++ other ∷ []) behind (append_assoc before (other ∷ []) behind ∙ whole) read.1

-- ---- the copies at the first places

pub copies_below-same : (w v : ℕ → Bool) (f g : ℕ → ℕ × ℕ) (n : ℕ) → ((place : ℕ) → place < n → w place ≡ v place)
    → ((place : ℕ) → place < n → f place ≡ g place) → copies_below w f n ≡ copies_below v g n
copies_below-same w v f g zero same alike = refl
copies_below-same w v f g (suc n) same alike =
    ap (λ l. l ++ (if w n then f n ∷ [] else []))
    (copies_below-same w v f g n (λ place. λ lt. same place (omega (arith, lt))) (λ place. λ lt. alike place (omega (arith, lt))))
    ∙ ap (λ b. copies_below v g n ++ (if b then f n ∷ [] else [])) (same n (omega arith))
    ∙ ap (λ copy. copies_below v g n ++ (if v n then copy ∷ [] else [])) (alike n (omega arith))

pub copies_below-take : (w : ℕ → Bool) (f : ℕ → ℕ × ℕ) (copies : Copies) (n : ℕ) → n ≤ length copies
    → ((place : ℕ) → place < n → w place ≡ true) → ((place : ℕ) → place < n → f place ≡ copy_of copies place)
    → copies_below w f n ≡ take n copies
copies_below-take w f copies zero le all alike = refl
copies_below-take w f copies (suc n) le all alike =
    ap (λ l. l ++ (if w n then f n ∷ [] else []))
    (copies_below-take w f copies n (omega (arith, le)) (λ place. λ lt. all place (omega (arith, lt)))
    (λ place. λ lt. alike place (omega (arith, lt))))
    ∙ ap (λ b. take n copies ++ (if b then f n ∷ [] else [])) (all n (omega arith))
    ∙ ap (λ copy. take n copies ++ copy ∷ []) (alike n (omega arith))
    ∙ sym (take_more copies n (0, 0) (omega (arith, le)))
    ∙ ap (λ m. take m copies) (add-one n)

pub copies_below-none : (w : ℕ → Bool) (f : ℕ → ℕ × ℕ) (n : ℕ) → ((place : ℕ) → w place ≡ false) → copies_below w f n ≡ []
copies_below-none w f zero none = refl
copies_below-none w f (suc n) none =
    ap (λ l. l ++ (if w n then f n ∷ [] else [])) (copies_below-none w f n none) ∙ ap (λ b. if b then f n ∷ [] else []) (none n)

pub length-copies_below : (w : ℕ → Bool) (f : ℕ → ℕ × ℕ) (n : ℕ) → length (copies_below w f n) ≤ n
length-copies_below w f zero = omega arith
length-copies_below w f (suc n) =
    let whole = length-append (copies_below w f n) (if w n then f n ∷ [] else []) in
    let again = length-copies_below w f n in
    let last = at (w n) in
    omega arith
  where
    at : (b : Bool) → length (if b then f n ∷ [] else []) ≤ 1
    at true = omega arith
    at false = omega arith

Each-below : (w : ℕ → Bool) (f : ℕ → ℕ × ℕ) (P : ℕ × ℕ → Type 0) (n : ℕ) → ((place : ℕ) → place < n → w place ≡ true → P (f place))
    → Each P (copies_below w f n)
Each-below w f P zero each = tt
Each-below w f P (suc n) each =
    Each-append P (copies_below w f n) (if w n then f n ∷ [] else [])
    (Each-below w f P n (λ place. λ lt. λ waits. each place (omega (arith, lt)) waits)) (at (w n) refl)
  where
    at : (b : Bool) → w n ≡ b → Each P (if b then f n ∷ [] else [])
    at true e = (each n (omega arith) e, tt)
    at false e = tt

-- the copies around the one at a place
record Around (P : ℕ × ℕ → Type 0) (copy : ℕ × ℕ) (all others : Copies) : Type 0 where
  front : Copies
  back : Copies
  whole : all ≡ front ++ copy ∷ back
  left : others ≡ front ++ back
  each : Each P front

module _ (w : ℕ → Bool) (f : ℕ → ℕ × ℕ) (place : ℕ) (waits : w place ≡ true) where
  without-other : (other : ℕ) → (other ≡ place → ⊥) → without place w other ≡ w other
  without-other other ne = ap (λ b. if b then false else w other) (ne_eqb other place ne)

  without-here : (other : ℕ) → other ≡ place → without place w other ≡ false
  without-here other e = ap (λ b. if b then false else w other) (eq-eqb other place e)

  around : (P : ℕ × ℕ → Type 0) → ((other : ℕ) → other < place → w other ≡ true → P (f other)) → (n : ℕ) → place < n
      → Around P (f place) (copies_below w f n) (copies_below (without place w) f n)
  around P each zero lt = absurd (omega (arith, lt))
  around P each (suc n) lt = at (λ less. around P each n less) (cases_eq n place)
    where
      at : (place < n → Around P (f place) (copies_below w f n) (copies_below (without place w) f n)) → (n ≡ place) ⊎ (n ≡ place → ⊥)
          → Around P (f place) (copies_below w f (suc n)) (copies_below (without place w) f (suc n))
      at again (inl e) =
          record {
            front = copies_below w f n;
            back = [];
            whole = ap (λ b. copies_below w f n ++ (if b then f n ∷ [] else [])) (ap w e ∙ waits)
                ∙ ap (λ p. copies_below w f n ++ f p ∷ []) e;
            left = ap (λ b. copies_below (without place w) f n ++ (if b then f n ∷ [] else [])) (without-here n e)
                ∙ ap (λ l. l ++ [])
                (copies_below-same (without place w) w f f n (λ other. λ below. without-other other (λ is. omega (arith, below, is, e)))
                (λ other. λ below. refl));
            each = Each-below w f P n (λ other. λ below. λ is. each other (omega (arith, below, e)) is);
          }
      at again (inr ne) =
          let before = again (omega (arith, lt, ne)) in
          let last : Copies = if w n then f n ∷ [] else [] in
          record {
            front = before.front;
            back = before.back ++ last;
            whole = ap (λ l. l ++ last) before.whole ∙ append_assoc before.front (f place ∷ before.back) last;
            left = ap (λ b. copies_below (without place w) f n ++ (if b then f n ∷ [] else [])) (without-other n ne)
                ∙ ap (λ l. l ++ last) before.left ∙ append_assoc before.front before.back last;
            each = before.each;
          }

  pub count-without : (n : ℕ) → place < n → (number : ℕ)
      → count number (sources (copies_below (without place w) f n)) + (if nat_eq number (f place).1 then 1 else 0)
      ≡ count number (sources (copies_below w f n))
  count-without n lt number =
      let cut = around (λ _. Unit {0}) (λ _ _ _. tt) n lt in
      ap (λ l. count number (sources l) + (if nat_eq number (f place).1 then 1 else 0)) cut.left
      ∙ sym (count-between number cut.front (f place) cut.back) ∙ ap (λ l. count number (sources l)) (sym cut.whole)

  pub unread_target-ready : (n : ℕ) → place < n → is_unread (copies_below w f n) (f place) ≡ true
      → ((other : ℕ) → other < place → w other ≡ true → is_unread (copies_below w f n) (f other) ≡ false)
      → unread_target [] (copies_below w f n) ≡ Some (f place, copies_below (without place w) f n)
  unread_target-ready n lt free read =
      let cut = around (λ copy. is_unread (copies_below w f n) copy ≡ false) read n lt in
      ap (λ l. unread_target [] l) cut.whole
      ∙ unread_target-behind (copies_below w f n) [] cut.front (f place) cut.back (sym cut.whole) cut.each free
      ∙ ap (λ l. Some (f place, l)) (sym cut.left)

  pub copies_below-first : (n : ℕ) → place < n → ((other : ℕ) → other < place → w other ≡ false)
      → copies_below w f n ≡ f place ∷ copies_below (without place w) f n
  copies_below-first n lt none =
      let cut = around (λ _. ⊥) (λ other. λ below. λ is. absurd (true≢false (sym is ∙ none other below))) n lt in
      at cut.front cut.each cut.back cut.whole cut.left
    where
      at : (front : Copies) → Each (λ _. ⊥) front → (back : Copies) → copies_below w f n ≡ front ++ f place ∷ back
          → copies_below (without place w) f n ≡ front ++ back → copies_below w f n ≡ f place ∷ copies_below (without place w) f n
      at [] none back whole left = whole ∙ ap (λ l. f place ∷ l) (sym left)
      at (copy ∷ front) none back whole left = absurd none.0

pub unread_target-none : (w : ℕ → Bool) (f : ℕ → ℕ × ℕ) (n : ℕ)
    → ((place : ℕ) → place < n → w place ≡ true → is_unread (copies_below w f n) (f place) ≡ false)
    → unread_target [] (copies_below w f n) ≡ None
unread_target-none w f n read =
    unread_target-read (copies_below w f n) [] (copies_below w f n) refl
    (Each-below w f (λ copy. is_unread (copies_below w f n) copy ≡ false) n read)

-- ---- another register holds what one held

read_from-append : (other old : ℕ) (front back : Copies)
    → read_from other old (front ++ back) ≡ read_from other old front ++ read_from other old back
read_from-append other old [] back = refl
read_from-append other old (copy ∷ front) back =
    ap (λ l. (copy.0, if nat_eq copy.1 old then other else copy.1) ∷ l) (read_from-append other old front back)

pub read_from-below : (other old : ℕ) (w : ℕ → Bool) (f g : ℕ → ℕ × ℕ) (n : ℕ)
    → ((place : ℕ) → ((f place).0, if nat_eq (f place).1 old then other else (f place).1) ≡ g place)
    → read_from other old (copies_below w f n) ≡ copies_below w g n
read_from-below other old w f g zero alike = refl
read_from-below other old w f g (suc n) alike =
    read_from-append other old (copies_below w f n) (if w n then f n ∷ [] else [])
    ∙ ap (λ l. l ++ read_from other old (if w n then f n ∷ [] else [])) (read_from-below other old w f g n alike)
    ∙ ap (λ l. copies_below w g n ++ l) (at (w n))
  where
    at : (b : Bool) → read_from other old (if b then f n ∷ [] else []) ≡ (if b then g n ∷ [] else [])
    at true = ap (λ copy. copy ∷ []) (alike n)
    at false = refl

pub count-read_from : (other old : ℕ) (copies : Copies) (number : ℕ)
    → count number (sources (read_from other old copies))
    ≡ (if nat_eq number old then 0 else count number (sources copies)) + (if nat_eq number other then count old (sources copies) else 0)
count-read_from other old [] number = at (nat_eq number old) (nat_eq number other)
  where
    at : (a b : Bool) → 0 ≡ (if a then 0 else 0) + (if b then 0 else 0)
    at true true = refl
    at true false = refl
    at false true = refl
    at false false = refl
count-read_from other old (copy ∷ copies) number =
    let again = count-read_from other old copies number in
    grind (arith, nat_tests)
