-- Copies at once, done one by one with one spare register.
use Rattle.std.specs.Prelude.{◌≡◌, ◌≢◌, ℕ, zero, suc, ◌+◌, ◌≤◌, List, [], ◌∷◌, ◌++◌, length, Option, Some, None, Bool, true, false, nat_eq, refl, if◌then◌else◌, ◌⊎◌}
use Rattle.std.proofs.Common.{sym, ap, ◌∙◌, subst, arith, inl, inr, ⊎_elim, eqb-true, eq-eqb, true≢false, length-append, append_assoc}
use Rattle.std.proofs.lemmas.Bool.{ne_eqb}
use Rattle.lx_sequence.specs.ParallelCopies.{Copies, targets, sources, is_in, read_from, unread_target, next_copies, in_sequence}

-- a number is none of a list
abbrev pub Fresh : ℕ → List ℕ → Type 0
Fresh r [] = Unit {0}
Fresh r (x ∷ xs) = (r ≢ x) × Fresh r xs

-- the numbers of a list are different
abbrev pub AllApart : List ℕ → Type 0
AllApart [] = Unit {0}
AllApart (x ∷ xs) = Fresh x xs × AllApart xs

-- a number is in a list
abbrev pub Mem : ℕ → List ℕ → Type 0
Mem r [] = ⊥
Mem r (x ∷ xs) = (r ≡ x) ⊎ Mem r xs

-- a function with another value at one place
abbrev updated : {A : Type 0} → ℕ → A → (ℕ → A) → ℕ → A
updated place value function other = if nat_eq other place then value else function other

-- what copies do at once, where their targets are apart
abbrev pub at_once : {A : Type 0} → Copies → (ℕ → A) → ℕ → A
at_once [] f r = f r
at_once (c ∷ l) f r = if nat_eq r c.0 then f c.1 else at_once l f r

-- and what they do one by one
abbrev pub each_copy : {A : Type 0} → Copies → (ℕ → A) → ℕ → A
each_copy [] f r = f r
each_copy (c ∷ l) f r = each_copy l (updated c.0 (f c.1) f) r

Fresh-is_in : (r : ℕ) (xs : List ℕ) → is_in r xs ≡ false → Fresh r xs
Fresh-is_in r [] e = tt
Fresh-is_in r (x ∷ xs) e = by (nat_eq r x) refl e (λ h. Fresh-is_in r xs h)
  where
    by : (t : Bool) → nat_eq r x ≡ t → (if t then true else is_in r xs) ≡ false → (is_in r xs ≡ false → Fresh r xs) → (r ≢ x) × Fresh r xs
    by true q h again = absurd (true≢false h)
    by false q h again = (λ z. true≢false (sym (eq-eqb r x z) ∙ q), again h)

Mem-is_in : (r : ℕ) (xs : List ℕ) → is_in r xs ≡ true → Mem r xs
Mem-is_in r [] e = absurd (true≢false (sym e))
Mem-is_in r (x ∷ xs) e = by (nat_eq r x) refl e (λ h. Mem-is_in r xs h)
  where
    by : (t : Bool) → nat_eq r x ≡ t → (if t then true else is_in r xs) ≡ true → (is_in r xs ≡ true → Mem r xs) → (r ≡ x) ⊎ Mem r xs
    by true q h again = inl (eqb-true r x q)
    by false q h again = inr (again h)

-- moving a copy to the front
Fresh-front : (r : ℕ) (pre : Copies) (c : ℕ × ℕ) (post : Copies) → Fresh r (targets (pre ++ c ∷ post)) → Fresh r (targets (pre ++ post)) × (r ≢ c.0)
Fresh-front r [] c post h = (h.1, h.0)
Fresh-front r (d ∷ pre) c post h = let g = Fresh-front r pre c post h.1 in ((h.0, g.0), g.1)

AllApart-front : (pre : Copies) (c : ℕ × ℕ) (post : Copies) → AllApart (targets (pre ++ c ∷ post))
    → AllApart (targets (pre ++ post)) × Fresh c.0 (targets (pre ++ post))
AllApart-front [] c post h = (h.1, h.0)
AllApart-front (d ∷ pre) c post h =
    let g = AllApart-front pre c post h.1 in
    let k = Fresh-front d.0 pre c post h.0 in
    ((k.0, g.0), (λ z. k.1 (sym z), g.1))

at_once-front : {A : Type 0} (pre : Copies) (c : ℕ × ℕ) (post : Copies) (f : ℕ → A) (r : ℕ) → AllApart (targets (pre ++ c ∷ post))
    → at_once (pre ++ c ∷ post) f r ≡ at_once (c ∷ (pre ++ post)) f r
at_once-front [] c post f r h = refl
at_once-front {A} (d ∷ pre) c post f r h = by (nat_eq r d.0) refl (nat_eq r c.0) refl (at_once-front pre c post f r h.1)
  where
    ne : d.0 ≢ c.0
    ne = (Fresh-front d.0 pre c post h.0).1

    by : (s : Bool) → nat_eq r d.0 ≡ s → (t : Bool) → nat_eq r c.0 ≡ t
        → at_once (pre ++ c ∷ post) f r ≡ (if t then f c.1 else at_once (pre ++ post) f r)
        → (if s then f d.1 else at_once (pre ++ c ∷ post) f r) ≡ (if t then f c.1 else (if s then f d.1 else at_once (pre ++ post) f r))
    by true s true t again = absurd (ne (sym (eqb-true r d.0 s) ∙ eqb-true r c.0 t))
    by true s false t again = refl
    by false s true t again = again
    by false s false t again = again

-- a write that nobody reads
at_once-updated : {A : Type 0} (l : Copies) (t : ℕ) (v : A) (f : ℕ → A) (r : ℕ) → Fresh t (sources l) → Fresh t (targets l)
    → at_once l (updated t v f) r ≡ (if nat_eq r t then v else at_once l f r)
at_once-updated [] t v f r h g = refl
at_once-updated {A} (c ∷ l) t v f r h g = by (nat_eq r c.0) refl (nat_eq r t) refl (at_once-updated l t v f r h.1 g.1)
  where
    src : updated t v f c.1 ≡ f c.1
    src = ap (λ z. if z then v else f c.1) (ne_eqb c.1 t (λ z. h.0 (sym z)))

    by : (s : Bool) → nat_eq r c.0 ≡ s → (y : Bool) → nat_eq r t ≡ y → at_once l (updated t v f) r ≡ (if y then v else at_once l f r)
        → (if s then updated t v f c.1 else at_once l (updated t v f) r) ≡ (if y then v else (if s then f c.1 else at_once l f r))
    by true s true y again = absurd (g.0 (sym (eqb-true r t y) ∙ eqb-true r c.0 s))
    by true s false y again = src
    by false s y q again = again

-- a broken cycle
at_once-read_from : {A : Type 0} (l : Copies) (t sp : ℕ) (f g : ℕ → A) (r : ℕ) → Fresh sp (sources l) → g sp ≡ f t
    → ((s : ℕ) → s ≢ t → s ≢ sp → g s ≡ f s) → Fresh r (targets l) ⊎ Unit {0}
    → at_once (read_from sp t l) g r ≡ (if is_in r (targets l) then at_once l f r else g r)
at_once-read_from [] t sp f g r h e k w = refl
at_once-read_from {A} (c ∷ l) t sp f g r h e k w = by (nat_eq r c.0) (nat_eq c.1 t) refl (at_once-read_from l t sp f g r h.1 e k (inr tt))
  where
    by : (s : Bool) → (y : Bool) → nat_eq c.1 t ≡ y → at_once (read_from sp t l) g r ≡ (if is_in r (targets l) then at_once l f r else g r)
        → (if s then g (if y then sp else c.1) else at_once (read_from sp t l) g r) ≡
        (if (if s then true else is_in r (targets l)) then (if s then f c.1 else at_once l f r) else g r)
    by true true y again = e ∙ ap f (sym (eqb-true c.1 t y))
    by true false y again = k c.1 (λ z. true≢false (sym (eq-eqb c.1 t z) ∙ y)) (λ z. h.0 (sym z))
    by false b y again = again

at_once-fresh : {A : Type 0} (l : Copies) (f : ℕ → A) (r : ℕ) → is_in r (targets l) ≡ false → at_once l f r ≡ f r
at_once-fresh [] f r e = refl
at_once-fresh {A} (c ∷ l) f r e = by (nat_eq r c.0) e (λ h. at_once-fresh l f r h)
  where
    by : (t : Bool) → (if t then true else is_in r (targets l)) ≡ false → (is_in r (targets l) ≡ false → at_once l f r ≡ f r)
        → (if t then f c.1 else at_once l f r) ≡ f r
    by true h again = absurd (true≢false h)
    by false h again = again h

-- what the search for a free copy finds
record Frees (l : Copies) (c : ℕ × ℕ) (rest : Copies) : Type 0 where
  before : Copies
  behind : Copies
  whole : l ≡ before ++ c ∷ behind
  others : rest ≡ before ++ behind
  unread : Fresh c.0 (sources rest)

unread_target-some : (pre l : Copies) (c : ℕ × ℕ) (rest : Copies) → unread_target pre l ≡ Some (c, rest) → Frees (pre ++ l) c rest
unread_target-some pre [] c rest e = cc
unread_target-some pre (d ∷ post) c rest e = by (is_in d.0 (sources (pre ++ post))) refl e
    (λ h. subst (λ z. Frees z c rest) (append_assoc pre (d ∷ []) post) (unread_target-some (pre ++ d ∷ []) post c rest h))
  where
    by : (t : Bool) → is_in d.0 (sources (pre ++ post)) ≡ t → (if t then unread_target (pre ++ d ∷ []) post else Some (d, pre ++ post)) ≡ Some
        (c, rest) → (unread_target (pre ++ d ∷ []) post ≡ Some (c, rest) → Frees (pre ++ d ∷ post) c rest) → Frees (pre ++ d ∷ post) c rest
    by true m h again = again h
    by false m h again =
        let p : (d, pre ++ post) ≡ (c, rest) = some_same _ _ h in
        let e1 : d ≡ c = ap (λ z. z.0) p in
        let e2 : pre ++ post ≡ rest = ap (λ z. z.1) p in
        record {
          before = pre;
          behind = post;
          whole = ap (λ z. pre ++ z ∷ post) e1;
          others = sym e2;
          unread = subst (λ z. Fresh c.0 (sources z)) e2
              (subst (λ z. Fresh z.0 (sources (pre ++ post))) e1 (Fresh-is_in d.0 (sources (pre ++ post)) m));
        }
      where
        or_else : ((ℕ × ℕ) × Copies) → Option ((ℕ × ℕ) × Copies) → ((ℕ × ℕ) × Copies)
        or_else x None = x
        or_else x (Some y) = y

        some_same : (x y : (ℕ × ℕ) × Copies) → Some x ≡ Some y → x ≡ y
        some_same x y e = ap (λ z. or_else x z) e

abbrev AllIn : List ℕ → List ℕ → Type 0
AllIn [] ys = Unit {0}
AllIn (x ∷ xs) ys = Mem x ys × AllIn xs ys

Mem-more : (r : ℕ) (pre : Copies) (c : ℕ × ℕ) (post : Copies) → Mem r (sources (pre ++ post)) → Mem r (sources (pre ++ c ∷ post))
Mem-more r [] c post h = inr h
Mem-more r (d ∷ pre) c post h = ⊎_elim (λ z. inl z) (λ z. inr (Mem-more r pre c post z)) h

unread_target-none : (pre l : Copies) → unread_target pre l ≡ None → AllIn (targets l) (sources (pre ++ l))
unread_target-none pre [] e = tt
unread_target-none pre (d ∷ post) e = by (is_in d.0 (sources (pre ++ post))) refl e
    (λ h. subst (λ z. AllIn (targets post) (sources z)) (append_assoc pre (d ∷ []) post) (unread_target-none (pre ++ d ∷ []) post h))
  where
    by : (t : Bool) → is_in d.0 (sources (pre ++ post)) ≡ t → (if t then unread_target (pre ++ d ∷ []) post else Some (d, pre ++ post)) ≡ None
        → (unread_target (pre ++ d ∷ []) post ≡ None → AllIn (targets post) (sources (pre ++ d ∷ post)))
        → Mem d.0 (sources (pre ++ d ∷ post)) × AllIn (targets post) (sources (pre ++ d ∷ post))
    by true m h again = (Mem-more d.0 pre d post (Mem-is_in d.0 (sources (pre ++ post)) m), again h)
    by false m h again = cc

-- as many different targets as sources, all of them sources: what is no target is no source
rem : (t : ℕ) (ss : List ℕ) → Mem t ss → (out : List ℕ) × (suc (length out) ≡ length ss) × ((y : ℕ) → Mem y ss → y ≢ t → Mem y out) × ((r : ℕ)
    → Fresh r out → r ≢ t → Fresh r ss)
rem t [] m = absurd m
rem t (x ∷ ss) (inl e) = (ss, refl, λ y h ne. ⊎_elim (λ z. absurd (ne (z ∙ sym e))) (λ z. z) h, λ r h ne. (λ z. ne (z ∙ sym e), h))
rem t (x ∷ ss) (inr m) =
    let g = rem t ss m in
    (x ∷ g.0, ap suc g.1, λ y h ne. ⊎_elim (λ z. inl z) (λ z. inr (g.2 y z ne)) h, λ r h ne. (h.0, g.3 r h.1 ne))

AllIn-without : (t : ℕ) (ts ss out : List ℕ) → Fresh t ts → AllIn ts ss → ((y : ℕ) → Mem y ss → y ≢ t → Mem y out) → AllIn ts out
AllIn-without t [] ss out f h g = tt
AllIn-without t (x ∷ ts) ss out f h g = (g x h.0 (λ z. f.0 (sym z)), AllIn-without t ts ss out f.1 h.1 g)

hole : (ts ss : List ℕ) → AllApart ts → AllIn ts ss → length ss ≤ length ts → (r : ℕ) → Fresh r ts → Fresh r ss
hole [] [] ap' al le r f = tt
hole [] (s ∷ ss) ap' al le r f = absurd (omega arith)
hole (t ∷ ts) ss ap' al le r f =
    let g = rem t ss al.0 in
    let n = g.1 in
    g.3 r (hole ts g.0 ap'.1 (AllIn-without t ts ss g.0 ap'.0 al.1 g.2) (omega (arith, n)) r f.1) f.0

length-sources : (l : Copies) → length (sources l) ≡ length (targets l)
length-sources [] = refl
length-sources (c ∷ l) = ap suc (length-sources l)

targets-read_from : (t sp : ℕ) (l : Copies) → targets (read_from sp t l) ≡ targets l
targets-read_from t sp [] = refl
targets-read_from t sp (c ∷ l) = ap (λ z. c.0 ∷ z) (targets-read_from t sp l)

pub length-read_from : (t sp : ℕ) (l : Copies) → length (read_from sp t l) ≡ length l
length-read_from t sp [] = refl
length-read_from t sp (c ∷ l) = ap suc (length-read_from t sp l)

is_in-fresh : (r : ℕ) (xs : List ℕ) → Fresh r xs → is_in r xs ≡ false
is_in-fresh r [] h = refl
is_in-fresh r (x ∷ xs) h = ap (λ t. if t then true else is_in r xs) (ne_eqb r x h.0) ∙ is_in-fresh r xs h.1

Fresh-part : (r : ℕ) (pre : Copies) (c : ℕ × ℕ) (post : Copies) → Fresh r (targets (pre ++ c ∷ post)) → Fresh r (targets (pre ++ post))
Fresh-part r pre c post h = (Fresh-front r pre c post h).0

-- one by one is at once, the spare aside
pub each_copy-in_sequence : {A : Type 0} (n sp : ℕ) (l : Copies) (f : ℕ → A) (r : ℕ) → length l ≤ n → AllApart (targets l) → Fresh sp (targets l)
    → r ≢ sp → each_copy (in_sequence n sp l) f r ≡ at_once l f r
each_copy-in_sequence zero sp [] f r le ap' fr ne = refl
each_copy-in_sequence zero sp (c ∷ l) f r le ap' fr ne = absurd (omega arith)
each_copy-in_sequence {A} (suc n) sp l f r le ap' fr ne = by (unread_target [] l) refl
    (λ k g le' ap1 fr1. each_copy-in_sequence n sp k g r le' ap1 fr1 ne)
  where
    by : (o : Option ((ℕ × ℕ) × Copies)) → unread_target [] l ≡ o
        → ((k : Copies) (g : ℕ → A) → length k ≤ n → AllApart (targets k) → Fresh sp (targets k) → each_copy (in_sequence n sp k) g r ≡ at_once k g r)
        → each_copy (next_copies sp o l (in_sequence n sp)) f r ≡ at_once l f r
    by (Some y) e again =
        let h = unread_target-some [] l y.0 y.1 e in
        let apl = subst (λ z. AllApart (targets z)) h.whole ap' in
        let fl = subst (λ z. Fresh sp (targets z)) h.whole fr in
        let a1 = AllApart-front h.before y.0 h.behind apl in
        let apr = subst (λ z. AllApart (targets z)) (sym h.others) a1.0 in
        let frr = subst (λ z. Fresh sp (targets z)) (sym h.others) (Fresh-part sp h.before y.0 h.behind fl) in
        let own = subst (λ z. Fresh y.0.0 (targets z)) (sym h.others) a1.1 in
        let n1 : length l ≡ length h.before + suc (length h.behind) = ap (λ z. length z) h.whole ∙ length-append h.before (y.0 ∷ h.behind) in
        let n2 : length y.1 ≡ length h.before + length h.behind = ap (λ z. length z) h.others ∙ length-append h.before h.behind in
        again y.1 (updated y.0.0 (f y.0.1) f) (omega arith) apr frr
        ∙ at_once-updated y.1 y.0.0 (f y.0.1) f r h.unread own
        ∙ ap (λ z. if nat_eq r y.0.0 then f y.0.1 else at_once z f r) h.others
        ∙ sym (at_once-front h.before y.0 h.behind f r apl)
        ∙ ap (λ z. at_once z f r) (sym h.whole)
    by None e again = cycle l e le ap' fr
      where
        cycle : (l : Copies) → unread_target [] l ≡ None → length l ≤ suc n → AllApart (targets l) → Fresh sp (targets l)
            → each_copy (next_copies sp None l (in_sequence n sp)) f r ≡ at_once l f r
        cycle [] e le ap' fr = refl
        cycle (c ∷ l) e le ap' fr =
            let nl = length-sources (c ∷ l) in
            let no_spare = hole (targets (c ∷ l)) (sources (c ∷ l)) ap' (unread_target-none [] (c ∷ l) e) (omega (arith, nl)) sp fr in
            let f1 : ℕ → A = updated sp (f c.0) f in
            let f2 : ℕ → A = updated c.0 (f1 c.1) f1 in
            let ni = length-read_from c.0 sp l in
            let it = targets-read_from c.0 sp l in
            let other = λ (s : ℕ) (h : s ≢ c.0) (k : s ≢ sp). ap (λ z. if z then f1 c.1 else f1 s) (ne_eqb s c.0 h)
            ∙ ap (λ z. if z then f c.0 else f s) (ne_eqb s sp k) in
            let at_spare : f2 sp ≡ f c.0 = ap (λ z. if z then f1 c.1 else f1 sp) (ne_eqb sp c.0 fr.0)
            ∙ ap (λ z. if z then f c.0 else f sp) (eq-eqb sp sp refl) in
            let src : f1 c.1 ≡ f c.1 = ap (λ z. if z then f c.0 else f c.1) (ne_eqb c.1 sp (λ z. no_spare.0 (sym z))) in
            again (read_from sp c.0 l) f2 (omega (arith, ni)) (subst (λ z. AllApart z) (sym it) ap'.1) (subst (λ z. Fresh sp z) (sym it) fr.1)
            ∙ at_once-read_from l c.0 sp f f2 r no_spare.1 at_spare other (inr tt)
            ∙ last (nat_eq r c.0) refl (is_in r (targets l)) refl (other r) src (is_in-fresh c.0 (targets l) ap'.0)
          where
            last : (y : Bool) → nat_eq r c.0 ≡ y → (m : Bool) → is_in r (targets l) ≡ m
                → (r ≢ c.0 → r ≢ sp → (if y then updated sp (f c.0) f c.1 else updated sp (f c.0) f r) ≡ f r) → updated sp (f c.0) f c.1 ≡ f c.1
                → is_in c.0 (targets l) ≡ false → (if m then at_once l f r else (if y then updated sp (f c.0) f c.1 else updated sp
                (f c.0) f r)) ≡ (if y then f c.1 else at_once l f r)
            last true q true k o s no_mem = absurd (true≢false (sym k ∙ ap (λ z. is_in z (targets l)) (eqb-true r c.0 q) ∙ no_mem))
            last true q false k o s no_mem = s
            last false q true k o s no_mem = refl
            last false q false k o s no_mem = o (λ z. true≢false (sym (eq-eqb r c.0 z) ∙ q)) ne ∙ sym (at_once-fresh l f r k)
