-- What is computed of two walks over a unit is their order, and their number.
use Rattle.std.proofs.Common.{inl, inr, sym, ap, ◌∙◌, subst, arith, append-nil, ⊎_elim}
use Rattle.std.proofs.lemmas.Bool.{leb-false, leb-true, ltb-false, ltb-true}
use Rattle.std.specs.Prelude.{◌≡◌, ℕ, zero, suc, ◌-◌, ◌<◌, ◌≤◌, ◌⊎◌, min, List, [], ◌∷◌, ◌++◌, Bool, true, false, not, nat_lt, if◌then◌else◌, refl}
use Rattle.lx_base.specs.declared.settings.Enc.{Enc}
use Rattle.lx_regex.specs.Cut.{Cut, IsCut}
use Rattle.lx_regex.specs.Script.{Symbol, choices, units}
use Rattle.lx_regex.specs.Term.{Term}
use Rattle.lx_regex.proofs.KernelCuts.Cuts.{cuts_differ}
use Rattle.lx_regex.proofs.Walks.Fronts.{DiffersBefore}
use Rattle.lx_posix.specs.Comparing.{Comparison, by_order, forked, turned, weighed}
use Rattle.lx_posix.specs.Numbers.{IsFirstOf}
use Rattle.lx_posix.specs.Parting.{Event, Parting, by_digit, by_down, by_read, by_up, digit, down, events, keep, parts_here, read, up}
use Rattle.lx_posix.specs.Walks.{after, depth}
use Rattle.lx_posix.proofs.Counted.NumbersOfCuts.{first_of}
use Rattle.lx_posix.proofs.Orders.CutOrder.{within}

pub by_order-each : {A : Type 0} (P : A → Type 0) (i j : ℕ) (x y z : A) → (i < j → P x) → (i ≡ j → P y) → (j < i → P z)
    → P (by_order i j x y z)
by_order-each {A} P i j x y z f g h = go (nat_lt i j) refl (nat_lt j i) refl
  where
    go : (b : Bool) → nat_lt i j ≡ b → (c : Bool) → nat_lt j i ≡ c → P (if b then x else if c then z else y)
    go true e c d = f (ltb-true i j e)
    go false e true d = h (ltb-true j i d)
    go false e false d = g (omega (arith, ltb-false i j e, ltb-false j i d))

by_order-less : {A : Type 0} (i j : ℕ) (x y z : A) → i < j → by_order i j x y z ≡ x
by_order-less i j x y z lt =
    by_order-each (λ a. a ≡ x) i j x y z (λ l. refl) (λ e. absurd (omega arith)) (λ l. absurd (omega arith))

by_order-same : {A : Type 0} (i j : ℕ) (x y z : A) → i ≡ j → by_order i j x y z ≡ y
by_order-same i j x y z e =
    by_order-each (λ a. a ≡ y) i j x y z (λ l. absurd (omega arith)) (λ e. refl) (λ l. absurd (omega arith))

by_order-more : {A : Type 0} (i j : ℕ) (x y z : A) → j < i → by_order i j x y z ≡ z
by_order-more i j x y z lt =
    by_order-each (λ a. a ≡ z) i j x y z (λ l. absurd (omega arith)) (λ e. absurd (omega arith)) (λ l. refl)

pub keep_most : (n d m : ℕ) (l : List Event) → keep n d m l ≤ m
keep_most zero d m l = omega arith
keep_most (suc n) d m [] = omega arith
keep_most (suc n) d m (down ∷ l) = keep_most (suc n) (suc d) m l
keep_most (suc n) d m (up ∷ l) = let h = keep_most (suc n) (d - 1) (min m (d - 1)) l in omega arith
keep_most (suc n) d m (read ∷ l) = keep_most n d m l
keep_most (suc n) d m (digit x ∷ l) = keep_most (suc n) d m l

pub no_parting : {n d D a a' : ℕ} {l l' : List Event} → n ≡ 0 → Parting n d l l' D a a' → ⊥
no_parting e (parts_here lt) = omega arith
no_parting e (by_down r) = omega arith
no_parting e (by_up r) = omega arith
no_parting e (by_read r) = omega arith
no_parting e (by_digit f r) = omega arith

-- what is computed of two lists that part, and of the two the other way round
pub record Forked (depth : ℕ) (walk way : List Event) (shared first second : ℕ) : Type 0 where
  pub there : forked depth walk way ≡ weighed shared first second
  pub back : forked depth way walk ≡ turned (weighed shared first second)
  pub first_most : first ≤ shared
  pub second_most : second ≤ shared

pub fork_of : {n d D a a' : ℕ} {l l' : List Event} → n ≡ 1 → Parting n d l l' D a a' → Forked d l l' D a a'
fork_of e (parts_here {n} {d} {i} {j} {l} {l'} lt) =
    let z : n ≡ 0 = omega arith in
    subst (λ m. Forked d (digit i ∷ l) (digit j ∷ l') d (keep (suc m) d d l) (keep (suc m) d d l')) (sym z) (record {
      there = by_order-less i j _ _ _ lt;
      back = by_order-more j i _ _ _ lt;
      first_most = keep_most 1 d d l;
      second_most = keep_most 1 d d l';
    })
fork_of e (by_down r) =
    let f = fork_of e r in record { there = f.there; back = f.back; first_most = f.first_most; second_most = f.second_most }
fork_of e (by_up r) =
    let f = fork_of e r in record { there = f.there; back = f.back; first_most = f.first_most; second_most = f.second_most }
fork_of e (by_read r) = absurd (no_parting (omega arith) r)
fork_of e (by_digit {n} {d} {i} {j} k r) =
    let f = fork_of e r in record {
      there = by_order-same i j _ _ _ k ∙ f.there;
      back = by_order-same j i _ _ _ (sym k) ∙ f.back;
      first_most = f.first_most;
      second_most = f.second_most;
    }

module _ (enc : Enc) (rules : List Term) where
  -- the comparison tells the order of two cuts of one rule, and their number, unless they are one
  pub record IsRight (cut other : Cut) (comparison : Comparison) : Type 0 where
    pub yes_first : comparison.is_first ≡ true → (cut ≡ other) ⊎ IsFirstOf enc rules cut other comparison.number
    pub not_first : comparison.is_first ≡ false → (cut ≡ other) ⊎ IsFirstOf enc rules other cut comparison.number

  pub weighed_right : (j k : Cut) (n h h' : ℕ) → (h < min n h' → IsFirstOf enc rules k j (min n (min h h')))
      → (min n h' ≤ h → IsFirstOf enc rules j k (min n (min h h'))) → IsRight j k (weighed n h h')
  weighed_right j k n h h' less more = record {
    yes_first = λ e. inr (more (leb-true (min n h') h e));
    not_first = λ e. inr (less (leb-false (min n h') h e));
  }

  pub turned_right : (j k : Cut) (c : Comparison) → IsRight j k c → IsRight k j (turned c)
  turned_right j k c r = record {
    yes_first = λ e. ⊎_elim (λ q. inl (sym q)) (λ f. inr f) (r.not_first (no c.is_first e));
    not_first = λ e. ⊎_elim (λ q. inl (sym q)) (λ f. inr f) (r.yes_first (yes c.is_first e));
  }
    where
      no : (b : Bool) → not b ≡ true → b ≡ false
      no true e = sym e
      no false e = refl

      yes : (b : Bool) → not b ≡ false → b ≡ true
      yes true e = refl
      yes false e = sym e

  -- two walks from one place
  pub forked_right : (w : List ℕ) (u : ℕ) (j : Cut) (y z : List Symbol) → units y ≡ u ∷ [] → units z ≡ u ∷ []
      → IsCut enc rules (w ++ u ∷ []) (after j y) → IsCut enc rules (w ++ u ∷ []) (after j z)
      → IsRight (after j y) (after j z) (forked (depth 0 j.front) (events y) (events z))
  forked_right w u j y z uy uz iy iz =
      ⊎_elim
      (λ e.
      let q : after j y ≡ after j z = ap (λ l. record { rule = j.rule; front = l }) e in
      record { yes_first = λ b. inl q; not_first = λ b. inl q })
      (λ d. ⊎_elim
      (λ h. (part y z uy uz iy iz h).0)
      (λ h. (part z y uz uy iz iy h).1) d)
      (cuts_differ enc rules (after j y) (after j z) iy.possible.0 iz.possible.0 refl iy.after_unit iz.after_unit
      (iy.reads_word ∙ sym iz.reads_word) iy.possible.1 iz.possible.1)
    where
      part : (y z : List Symbol) → units y ≡ u ∷ [] → units z ≡ u ∷ []
          → IsCut enc rules (w ++ u ∷ []) (after j y) → IsCut enc rules (w ++ u ∷ []) (after j z)
          → DiffersBefore (choices (j.front ++ y)) (choices (j.front ++ z))
          → IsRight (after j y) (after j z) (forked (depth 0 j.front) (events y) (events z))
          × IsRight (after j z) (after j y) (forked (depth 0 j.front) (events z) (events y))
      part y z uy uz iy iz h =
          let r = within enc rules j y z iy.possible.0 iz.possible.0 u iy.after_unit iz.after_unit uy uz iy.possible.1 iz.possible.1 h in
          let p : Parting 1 (depth 0 j.front) (events y) (events z) r.0 r.1 r.2 =
          subst (λ l. Parting 1 (depth 0 j.front) (events l) (events z) r.0 r.1 r.2) (append-nil y)
          (subst (λ l. Parting 1 (depth 0 j.front) (events (y ++ [])) (events l) r.0 r.1 r.2) (append-nil z) r.3) in
          let f = fork_of refl p in
          let low = f.first_most in
          let high = f.second_most in
          let even : min r.0 (min r.1 r.2) ≡ min r.1 r.2 = omega arith in
          let right : IsRight (after j y) (after j z) (weighed r.0 r.1 r.2) =
          weighed_right (after j y) (after j z) r.0 r.1 r.2
          (λ lt. subst (λ n. IsFirstOf enc rules (after j z) (after j y) n) (sym even)
          (first_of enc rules (w ++ u ∷ []) _ _ _ iz iy (r.4 (omega arith))))
          (λ ge. subst (λ n. IsFirstOf enc rules (after j y) (after j z) n) (sym even)
          (first_of enc rules (w ++ u ∷ []) _ _ _ iy iz (r.5 (omega arith)))) in (
            subst (λ c. IsRight (after j y) (after j z) c) (sym f.there) right,
            subst (λ c. IsRight (after j z) (after j y) c) (sym f.back) (turned_right (after j y) (after j z) (weighed r.0 r.1 r.2) right),
          )
