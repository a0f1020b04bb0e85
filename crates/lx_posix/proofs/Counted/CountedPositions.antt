-- The number by recursion is the count of the positions that are open in both before the first difference.
use Rattle.lx_posix.specs.Numbers.{IsAlikeBy, IsLongerBy}
use Rattle.lx_posix.specs.KernelSteps.{Pairs}
use Rattle.std.specs.Prelude.{◌≡◌, ℕ, zero, suc, ◌-◌, ◌<◌, ◌≤◌, List, [], ◌∷◌, map, length, Some, slice_get, nat_le, if◌then◌else◌, refl}
use Rattle.std.proofs.Common.{sym, ap, ◌∙◌, subst, arith, inr, ⊎_elim, le-leb}
use Rattle.std.proofs.lemmas.Bool.{cases_lt, lt-leb}
use Rattle.lx_regex.specs.Dictionary.{IsBefore}
use Rattle.lx_regex.specs.Posix.{Shape, Shapes, absent, leaf, inner, none, more, size, sizes, length_at, shape_among}
use Rattle.lx_regex.proofs.PosixTrees.PosixShapes.{Same, OpenAt, kids, head, tail}
use Rattle.lx_regex.proofs.PosixTrees.PosixAhead.{Ahead, longer, under, behind, AheadAmong, now, on, SameAmong, decide, len, at_kids, at_head, at_tail, rest_same}
use Rattle.lx_regex.proofs.PosixTrees.PosixOrder.{position_order, longer_asym}
use Rattle.lx_regex.proofs.KernelCuts.Kernels.{before_asym}
use Rattle.lx_posix.proofs.Steps.OneMoreUnit.{open_same}
use Rattle.lx_posix.proofs.Fronts.OutermostOpen.{place, place_among, Outer, outer_open, open_outer, first_place, lasts, op, to_head, from_head, tail_at, ended_open, ended_among}
use Rattle.lx_posix.proofs.Partings.Forks.{tick}
use Rattle.lx_posix.proofs.Orders.NumberBetween.{opened, opened_among, tick_open, head_open, head_ended}
use Rattle.lx_posix.proofs.Kernels.PairedLists.{Member, pair_up}

-- the fronts of a position that are shorter than k
abbrev prefixes : (k : ℕ) → List ℕ → List (List ℕ)
prefixes zero p = []
prefixes (suc k) [] = [] ∷ []
prefixes (suc k) (i ∷ p) = [] ∷ map (λ q. i ∷ q) (prefixes k p)

get_map : (f : List ℕ → List ℕ) (xs : List (List ℕ)) (i : ℕ) (q : List ℕ) → slice_get (map f xs) i ≡ Some q
    → (p : List ℕ) × (slice_get xs i ≡ Some p) × (q ≡ f p)
get_map f [] i q e = cc
get_map f (x ∷ xs) zero q e = (x, refl, cc)
get_map f (x ∷ xs) (suc i) q e = get_map f xs i q e

map_get : (f : List ℕ → List ℕ) (xs : List (List ℕ)) (i : ℕ) (p : List ℕ) → slice_get xs i ≡ Some p
    → slice_get (map f xs) i ≡ Some (f p)
map_get f [] i p e = cc
map_get f (x ∷ xs) zero p e = let z : x ≡ p = cc in ap (λ n. Some (f n)) z
map_get f (x ∷ xs) (suc i) p e = map_get f xs i p e

map_length : (f : List ℕ → List ℕ) (xs : List (List ℕ)) → length (map f xs) ≡ length xs
map_length f [] = refl
map_length f (x ∷ xs) = ap (λ n. suc n) (map_length f xs)

prefix_is : (k : ℕ) (p : List ℕ) (i : ℕ) (q : List ℕ) → slice_get (prefixes k p) i ≡ Some q → Outer k p q
prefix_is zero p i q e = cc
prefix_is (suc k) [] zero q e = let z : [] ≡ q = cc in subst (λ n. Outer (suc k) [] n) z tt
prefix_is (suc k) [] (suc i) q e = cc
prefix_is (suc k) (j ∷ p) zero q e = let z : [] ≡ q = cc in subst (λ n. Outer (suc k) (j ∷ p) n) z tt
prefix_is (suc k) (j ∷ p) (suc i) q e =
    let r = get_map (λ q. j ∷ q) (prefixes k p) i q e in
    subst (λ n. Outer (suc k) (j ∷ p) n) (sym r.2) (refl, prefix_is k p i r.0 r.1)

prefix_every : (k : ℕ) (p q : List ℕ) → Outer k p q → (i : ℕ) × (slice_get (prefixes k p) i ≡ Some q)
prefix_every zero p q o = absurd o
prefix_every (suc k) [] [] o = (0, refl)
prefix_every (suc k) [] (j ∷ q) o = absurd o
prefix_every (suc k) (i ∷ p) [] o = (0, refl)
prefix_every (suc k) (i ∷ p) (j ∷ q) o =
    let r = prefix_every k p q o.1 in
    (suc r.0, map_get (λ q. i ∷ q) (prefixes k p) r.0 q r.1 ∙ ap (λ n. Some (n ∷ q)) o.0)

prefix_ascend : (k : ℕ) (p : List ℕ) (i j : ℕ) (q r : List ℕ) → i < j → slice_get (prefixes k p) i ≡ Some q
    → slice_get (prefixes k p) j ≡ Some r → IsBefore q r
prefix_ascend zero p i j q r lt e f = cc
prefix_ascend (suc k) [] i zero q r lt e f = absurd (omega arith)
prefix_ascend (suc k) [] i (suc j) q r lt e f = cc
prefix_ascend (suc k) (a ∷ p) i zero q r lt e f = absurd (omega arith)
prefix_ascend (suc k) (a ∷ p) zero (suc j) q r lt e f =
    let y = get_map (λ q. a ∷ q) (prefixes k p) j r f in
    let z : [] ≡ q = cc in
    subst (λ n. IsBefore n r) z (subst (λ n. IsBefore [] n) (sym y.2) tt)
prefix_ascend (suc k) (a ∷ p) (suc i) (suc j) q r lt e f =
    let x = get_map (λ q. a ∷ q) (prefixes k p) i q e in
    let y = get_map (λ q. a ∷ q) (prefixes k p) j r f in
    subst
    (λ n. IsBefore n r) (sym x.2)
    (subst
    (λ n. IsBefore (a ∷ x.0) n) (sym y.2) (inr (refl, prefix_ascend k p i j x.0 y.0 (omega arith) x.1 y.1)))

prefix_count : (k : ℕ) (p : List ℕ) → k ≤ length p → length (prefixes k p) ≡ k
prefix_count zero p h = refl
prefix_count (suc k) [] h = absurd (omega arith)
prefix_count (suc k) (i ∷ p) h =
    ap (λ n. suc n) (map_length (λ q. i ∷ q) (prefixes k p) ∙ prefix_count k p (omega arith))

mutual
  deep : {n : ℕ} {s s' : Shape} {k : ℕ} → (a : Ahead n s s' k) → k ≤ length (place a)
  deep (longer h) = omega arith
  deep (under e o a) = let z = deep_among a in omega arith
  deep (behind e h a) = let z = deep_among a in omega arith

  deep_among : {n : ℕ} {ks ks' : Shapes} {k : ℕ} → (a : AheadAmong n ks ks' k) → k ≤ length (place_among a).1
  deep_among (now a) = deep a
  deep_among (on same a) = deep_among a

pub longer_by : (n : ℕ) (s s' : Shape) (k : ℕ) → Ahead n s s' k → IsLongerBy n s s' k
longer_by n s s' k a = record {
  position = place a;
  longer = lasts n (omega arith) a;
  alike = λ q b. first_place a q b;
  positions = prefixes k (place a);
  are_open = record {
    are = λ i q e. outer_open a q (prefix_is k (place a) i q e);
    every = λ q o o' b. prefix_every k (place a) q (open_outer a q o b);
    ascend = λ i j q r lt e f. prefix_ascend k (place a) i j q r lt e f;
  };
  counted = prefix_count k (place a) (deep a);
}

-- two ascending lists with the same members are as long
same_count : (xs ys : List (List ℕ))
    → ((i j : ℕ) (p q : List ℕ) → i < j → slice_get xs i ≡ Some p → slice_get xs j ≡ Some q → IsBefore p q)
    → ((i j : ℕ) (p q : List ℕ) → i < j → slice_get ys i ≡ Some p → slice_get ys j ≡ Some q → IsBefore p q)
    → ((p : List ℕ) → Member (List ℕ) p xs → Member (List ℕ) p ys) → ((p : List ℕ) → Member (List ℕ) p ys → Member (List ℕ) p xs)
    → length xs ≡ length ys
same_count xs ys h k to from =
    paired xs ys
    (pair_up
    (List ℕ) (λ p q. IsBefore p q) (λ p q. p ≡ q) xs ys h k (λ p q m n b c. before_asym p q b c) (λ p q m n b c. before_asym p q b c)
    (λ a b c d i j m n e f. (
      λ r. subst (λ x. IsBefore x d) e (subst (λ x. IsBefore a x) f r),
      λ r. subst (λ x. IsBefore x b) (sym e) (subst (λ x. IsBefore c x) (sym f) r),
    ))
    (λ p m. (p, to p m, refl)) (λ p m. (p, from p m, refl)))
  where
    paired : (xs ys : List (List ℕ)) → Pairs (List ℕ) (λ p q. p ≡ q) xs ys → length xs ≡ length ys
    paired [] [] p = refl
    paired [] (y ∷ ys) p = absurd p
    paired (x ∷ xs) [] p = absurd p
    paired (x ∷ xs) (y ∷ ys) p = ap (λ n. suc n) (paired xs ys p.1)

-- the count is one
pub one_count : (n : ℕ) (s s' : Shape) (k m : ℕ) → IsLongerBy n s s' k → IsLongerBy n s s' m → k ≡ m
one_count n s s' k m a b =
    let e : a.position ≡ b.position =
    ⊎_elim
    (λ e. e)
    (λ r. ⊎_elim
    (λ lt. let x = a.longer in let y = b.alike a.position lt in absurd (omega arith))
    (λ gt. let x = b.longer in let y = a.alike b.position gt in absurd (omega arith))
    r)
    (position_order a.position b.position) in
    let c =
    same_count a.positions b.positions
    (λ i j p q lt x y. a.are_open.ascend i j p q lt x y) (λ i j p q lt x y. b.are_open.ascend i j p q lt x y)
    (λ p q. let r = a.are_open.are q.0 p q.1 in b.are_open.every p r.0 r.1 (subst (λ x. IsBefore p x) e r.2))
    (λ p q. let r = b.are_open.are q.0 p q.1 in a.are_open.every p r.0 r.1 (subst (λ x. IsBefore p x) (sym e) r.2)) in
    sym a.counted ∙ c ∙ b.counted

pub by_longer : (n : ℕ) (s s' : Shape) (k : ℕ) → IsLongerBy n s s' k → Ahead n s s' k
by_longer n s s' k l =
    ⊎_elim
    (λ same. let x = l.longer in let y = same l.position in absurd (omega arith))
    (λ r. ⊎_elim
    (λ a. subst (λ m. Ahead n s s' m) (one_count n s s' a.0 k (longer_by n s s' a.0 a.1) l) a.1)
    (λ a.
    let b = longer_by n s' s a.0 a.1 in
    absurd (longer_asym (λ q. length_at n s q) (λ q. length_at n s' q) (l.position, l.longer, l.alike) (b.position, b.longer, b.alike)))
    r)
    (decide n s s')

-- what is open in one of two shapes of equal lengths is open in the other
alike_among :
    (q : List ℕ) → ((n : ℕ) (s s' : Shape) → Same n s s' → OpenAt n s q → OpenAt n s' q) → (n : ℕ) (ks ks' : Shapes) (i : ℕ)
    → SameAmong n ks ks' → op (shape_among n ks i q) → op (shape_among n ks' i q)
alike_among q inside n ks ks' zero same o =
    from_head n ks' q (inside n (head ks) (head ks') (λ p. sym (at_head n ks p) ∙ same 0 p ∙ at_head n ks' p) (to_head n ks q o))
alike_among q inside n ks ks' (suc i) same o =
    let heads : Same n (head ks) (head ks') = λ p. sym (at_head n ks p) ∙ same 0 p ∙ at_head n ks' p in
    let z = rest_same n (head ks) (head ks') (heads []) in
    let t =
    alike_among q inside
    (n - size (head ks)) (tail ks) (tail ks') i
    (λ j p. sym (at_tail n ks j p) ∙ same (suc j) p ∙ at_tail n ks' j p ∙ ap (λ m. len (shape_among m (tail ks') j p)) (sym z))
    (subst op (tail_at n ks i q) o) in
    subst op (sym (tail_at n ks' i q)) (subst (λ m. op (shape_among m (tail ks') i q)) z t)

pub open_alike : (q : List ℕ) (n : ℕ) (s s' : Shape) → Same n s s' → OpenAt n s q → OpenAt n s' q
open_alike [] n s s' same o = open_same n s s' (same []) o
open_alike (i ∷ q) n s s' same o =
    subst
    op (sym (at_kids n s' i q))
    (alike_among q
    (λ n s s' h o. open_alike q n s s' h o) n (kids s) (kids s') i
    (λ j p. sym (ap len (at_kids n s j p)) ∙ same (j ∷ p) ∙ ap len (at_kids n s' j p)) (subst op (at_kids n s i q) o))

-- where nothing is read nothing is open
mutual
  unread : (s : Shape) (q : List ℕ) (n : ℕ) → n ≡ 0 → OpenAt n s q → ⊥
  unread s [] n z o = let x = o.0 in absurd (omega arith)
  unread absent (i ∷ q) n z o = let x = o.0 in absurd (omega arith)
  unread (leaf m) (i ∷ q) n z o = let x = o.0 in absurd (omega arith)
  unread (inner ks) (i ∷ q) n z o = unread_among ks i q n z o

  unread_among : (ks : Shapes) (i : ℕ) (q : List ℕ) (n : ℕ) → n ≡ 0 → op (shape_among n ks i q) → ⊥
  unread_among none i q n z o = let x = o.0 in absurd (omega arith)
  unread_among (more s ks) zero q n z o = unread s q n z o
  unread_among (more s ks) (suc i) q n z o = unread_among ks i q (n - size s) (omega arith) o

-- the way to the innermost open position, and one further
abbrev mutual
  open_path : (n : ℕ) → Shape → List ℕ
  open_path n absent = []
  open_path n (leaf m) = 0 ∷ []
  open_path n (inner ks) = (path_among n ks).0 ∷ (path_among n ks).1

  path_among : (n : ℕ) → Shapes → ℕ × List ℕ
  path_among n none = (0, [])
  path_among n (more s ks) =
      if nat_le n (size s) then (0, open_path n s) else (suc (path_among (n - size s) ks).0, (path_among (n - size s) ks).1)

path_open : (n : ℕ) (s : Shape) (ks : Shapes) → n ≤ size s → path_among n (more s ks) ≡ (0, open_path n s)
path_open n s ks le =
    ap (λ b. if b then (0, open_path n s) else (suc (path_among (n - size s) ks).0, (path_among (n - size s) ks).1)) (le-leb n (size s) le)

path_ended : (n : ℕ) (s : Shape) (ks : Shapes) → size s < n
    → path_among n (more s ks) ≡ (suc (path_among (n - size s) ks).0, (path_among (n - size s) ks).1)
path_ended n s ks lt =
    ap (λ b. if b then (0, open_path n s) else (suc (path_among (n - size s) ks).0, (path_among (n - size s) ks).1)) (lt-leb n (size s) lt)

tick_ended : (n m h : ℕ) → m < n → tick n m h ≡ 0
tick_ended n m h lt = ap (λ b. if b then suc h else 0) (lt-leb n m lt)

mutual
  outer_is_open : (n : ℕ) (s : Shape) (q : List ℕ) → 0 < n → Outer (opened n s) (open_path n s) q → OpenAt n s q
  outer_is_open n absent q z o = absurd o
  outer_is_open n (leaf m) q z o =
      ⊎_elim
      (λ lt. absurd (subst (λ k. Outer k (0 ∷ []) q) (tick_ended n m 0 lt) o))
      (λ ge. at q (subst (λ k. Outer k (0 ∷ []) q) (tick_open n m 0 ge) o) ge) (cases_lt m n)
    where
      at : (q : List ℕ) → Outer 1 (0 ∷ []) q → n ≤ m → OpenAt n (leaf m) q
      at [] o ge = (z, ge)
      at (j ∷ q) o ge = absurd o.1
  outer_is_open n (inner ks) q z o =
      ⊎_elim
      (λ lt. absurd (subst (λ k. Outer k (open_path n (inner ks)) q) (tick_ended n (sizes ks) (opened_among n ks) lt) o))
      (λ ge. at q (subst (λ k. Outer k (open_path n (inner ks)) q) (tick_open n (sizes ks) (opened_among n ks) ge) o) ge (λ p h. among_is_open n ks p z h))
      (cases_lt (sizes ks) n)
    where
      at : (q : List ℕ) → Outer (suc (opened_among n ks)) ((path_among n ks).0 ∷ (path_among n ks).1) q → n ≤ sizes ks
          → ((p : List ℕ) → Outer (opened_among n ks) (path_among n ks).1 p → op (shape_among n ks (path_among n ks).0 p)) → OpenAt n (inner ks) q
      at [] o ge f = (z, ge)
      at (j ∷ q) o ge f = subst (λ i. op (shape_among n ks i q)) o.0 (f q o.1)

  among_is_open : (n : ℕ) (ks : Shapes) (q : List ℕ) → 0 < n → Outer (opened_among n ks) (path_among n ks).1 q
      → op (shape_among n ks (path_among n ks).0 q)
  among_is_open n none q z o = absurd o
  among_is_open n (more s ks) q z o =
      ⊎_elim
      (λ lt.
      let e = path_ended n s ks lt in
      let h : Outer (opened_among (n - size s) ks) (path_among (n - size s) ks).1 q =
      subst (λ k. Outer k (path_among (n - size s) ks).1 q) (head_ended n s ks lt) (subst (λ x. Outer (opened_among n (more s ks)) x.1 q) e o) in
      subst (λ x. op (shape_among n (more s ks) x.0 q)) (sym e) (among_is_open (n - size s) ks q (omega arith) h))
      (λ ge.
      let e = path_open n s ks ge in
      let h : Outer (opened n s) (open_path n s) q =
      subst (λ k. Outer k (open_path n s) q) (head_open n s ks ge) (subst (λ x. Outer (opened_among n (more s ks)) x.1 q) e o) in
      subst (λ x. op (shape_among n (more s ks) x.0 q)) (sym e) (outer_is_open n s q z h))
      (cases_lt (size s) n)

mutual
  open_is_outer : (n : ℕ) (s : Shape) (q : List ℕ) → OpenAt n s q → Outer (opened n s) (open_path n s) q
  open_is_outer n absent [] o = let x = o.0 in let y = o.1 in absurd (omega arith)
  open_is_outer n absent (i ∷ q) o = let x = o.0 in absurd (omega arith)
  open_is_outer n (leaf m) [] o = subst (λ k. Outer k (0 ∷ []) []) (sym (tick_open n m 0 o.1)) tt
  open_is_outer n (leaf m) (i ∷ q) o = let x = o.0 in absurd (omega arith)
  open_is_outer n (inner ks) [] o =
      subst (λ k. Outer k (open_path n (inner ks)) []) (sym (tick_open n (sizes ks) (opened_among n ks) o.1)) tt
  open_is_outer n (inner ks) (i ∷ q) o =
      ⊎_elim
      (λ lt. absurd (ended_among n ks i q lt o))
      (λ ge. subst (λ k. Outer k (open_path n (inner ks)) (i ∷ q)) (sym (tick_open n (sizes ks) (opened_among n ks) ge)) (among_is_outer n ks i q o))
      (cases_lt (sizes ks) n)

  among_is_outer : (n : ℕ) (ks : Shapes) (i : ℕ) (q : List ℕ) → op (shape_among n ks i q)
      → ((path_among n ks).0 ≡ i) × Outer (opened_among n ks) (path_among n ks).1 q
  among_is_outer n none i q o = let x = o.0 in absurd (omega arith)
  among_is_outer n (more s ks) zero q o =
      ⊎_elim
      (λ lt. absurd (ended_open n s q lt o))
      (λ ge.
      let e = path_open n s ks ge in
      let h = open_is_outer n s q o in (
        ap (λ x. x.0) e,
        subst (λ x. Outer (opened_among n (more s ks)) x.1 q) (sym e) (subst (λ k. Outer k (open_path n s) q) (sym (head_open n s ks ge)) h),
      ))
      (cases_lt (size s) n)
  among_is_outer n (more s ks) (suc i) q o =
      ⊎_elim
      (λ lt.
      let e = path_ended n s ks lt in
      let h = among_is_outer (n - size s) ks i q o in (
        ap (λ x. x.0) e ∙ ap (λ m. suc m) h.0,
        subst
            (λ x. Outer (opened_among n (more s ks)) x.1 q) (sym e)
            (subst (λ k. Outer k (path_among (n - size s) ks).1 q) (sym (head_ended n s ks lt)) h.1),
      ))
      (λ ge. absurd (unread_among ks i q (n - size s) (omega arith) o))
      (cases_lt (size s) n)

mutual
  path_deep : (n : ℕ) (s : Shape) → opened n s ≤ length (open_path n s)
  path_deep n absent = omega arith
  path_deep n (leaf m) =
      ⊎_elim (λ lt. let e = tick_ended n m 0 lt in omega arith) (λ ge. let e = tick_open n m 0 ge in omega arith) (cases_lt m n)
  path_deep n (inner ks) =
      let r = among_deep n ks in
      ⊎_elim
      (λ lt. let e = tick_ended n (sizes ks) (opened_among n ks) lt in omega arith)
      (λ ge. let e = tick_open n (sizes ks) (opened_among n ks) ge in omega arith) (cases_lt (sizes ks) n)

  among_deep : (n : ℕ) (ks : Shapes) → opened_among n ks ≤ length (path_among n ks).1
  among_deep n none = omega arith
  among_deep n (more s ks) =
      ⊎_elim
      (λ lt. let e = ap (λ x. length x.1) (path_ended n s ks lt) in let f = head_ended n s ks lt in let r = among_deep (n - size s) ks in omega arith)
      (λ ge. let e = ap (λ x. length x.1) (path_open n s ks ge) in let f = head_open n s ks ge in let r = path_deep n s in omega arith)
      (cases_lt (size s) n)

-- of two shapes of equal lengths so many positions are open in both as in the first
pub alike_by : (n : ℕ) (s s' : Shape) → 0 < n → Same n s s' → IsAlikeBy n s s' (opened n s)
alike_by n s s' z same = record {
  alike = same;
  positions = prefixes (opened n s) (open_path n s);
  are_open = record {
    are = λ i q e. let o = outer_is_open n s q z (prefix_is (opened n s) (open_path n s) i q e) in (o, open_alike q n s s' same o, tt);
    every = λ q o o' u. prefix_every (opened n s) (open_path n s) q (open_is_outer n s q o);
    ascend = λ i j q r lt e f. prefix_ascend (opened n s) (open_path n s) i j q r lt e f;
  };
  counted = prefix_count (opened n s) (open_path n s) (path_deep n s);
}

pub one_alike : (n : ℕ) (s s' : Shape) (k m : ℕ) → IsAlikeBy n s s' k → IsAlikeBy n s s' m → k ≡ m
one_alike n s s' k m a b =
    let c =
    same_count a.positions b.positions
    (λ i j p q lt x y. a.are_open.ascend i j p q lt x y) (λ i j p q lt x y. b.are_open.ascend i j p q lt x y)
    (λ p q. let r = a.are_open.are q.0 p q.1 in b.are_open.every p r.0 r.1 tt)
    (λ p q. let r = b.are_open.are q.0 p q.1 in a.are_open.every p r.0 r.1 tt) in
    sym a.counted ∙ c ∙ b.counted
