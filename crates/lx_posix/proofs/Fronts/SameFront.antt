-- The order of two cuts and its number depend on their fronts alone; and no two orders hold of two cuts.
use Rattle.lx_posix.proofs.Orders.Ordered.{Order}
use Rattle.lx_posix.specs.Parting.{Event, Parting, by_digit, by_down, by_read, by_up, digit, events, keep, parts_here}
use Rattle.lx_posix.specs.Walks.{depth}
use Rattle.std.specs.Prelude.{◌≡◌, ℕ, zero, suc, ◌+◌, ◌-◌, ◌≤◌, min, List, [], ◌∷◌, ◌++◌, length, refl}
use Rattle.std.proofs.Common.{sym, ap, ◌∙◌, subst, arith, inl, inr}
use Rattle.lx_base.specs.declared.settings.Enc.{Enc}
use Rattle.lx_regex.specs.Term.{Term}
use Rattle.lx_regex.specs.Tree.{Tree}
use Rattle.lx_regex.specs.Script.{Symbol, begins, ends, reads, sets, unsets, picks, script, units}
use Rattle.lx_regex.specs.Posix.{Shape, Shapes, shape_of, size, length_at}
use Rattle.lx_regex.proofs.PosixTrees.PosixShapes.{Same}
use Rattle.lx_regex.proofs.PosixTrees.PosixAhead.{Ahead, longer, under, behind, AheadAmong, now, on, ahead_wins}
use Rattle.lx_regex.proofs.PosixTrees.PosixOrder.{longer_asym}
use Rattle.lx_posix.proofs.Steps.CommonWalk.{ahead_alike}
use Rattle.lx_posix.proofs.Fronts.AlikeFronts.{Agree, enough, on_down, on_up, on_read, on_digit}
use Rattle.lx_posix.proofs.Orders.PosixLaws.{law_front}

pub agree_front : (b x x' : List Symbol) (n : ℕ) → n ≤ length (units b) → Agree n (events (b ++ x)) (events (b ++ x'))
agree_front b x x' zero h = enough
agree_front [] x x' (suc n) h = absurd (omega arith)
agree_front (begins p ∷ b) x x' (suc n) h = on_down (agree_front b x x' (suc n) h)
agree_front (ends p ∷ b) x x' (suc n) h = on_up (agree_front b x x' (suc n) h)
agree_front (reads u ∷ b) x x' (suc n) h = on_read (agree_front b x x' n (omega arith))
agree_front (sets t ∷ b) x x' (suc n) h = agree_front b x x' (suc n) h
agree_front (unsets t ∷ b) x x' (suc n) h = agree_front b x x' (suc n) h
agree_front (picks i ∷ b) x x' (suc n) h = on_digit refl (agree_front b x x' (suc n) h)

keep_agree : {n : ℕ} {l m : List Event} → Agree n l m → (d c : ℕ) → keep n d c l ≡ keep n d c m
keep_agree enough d c = refl
keep_agree (on_down r) d c = keep_agree r (suc d) c
keep_agree (on_up r) d c = keep_agree r (d - 1) (min c (d - 1))
keep_agree (on_read r) d c = keep_agree r d c
keep_agree (on_digit e r) d c = keep_agree r d c

-- a parting is one of all that agrees with both
by_agreement : {n d D a a' : ℕ} {l l' m m' : List Event} → Parting n d l l' D a a' → Agree n l m → Agree n l' m'
    → Parting n d m m' D a a'
by_agreement (parts_here {n} {d} lt) (on_digit {i = i} {j = i'} {l} {l' = m} e r) (on_digit {i = j} {j = j'} {l = l'} {l' = m'} e' r') =
    subst
    (λ x. Parting (suc n) d (digit i' ∷ m) (digit j' ∷ m') d x (keep (suc n) d d l')) (sym (keep_agree r d d))
    (subst
    (λ x. Parting (suc n) d (digit i' ∷ m) (digit j' ∷ m') d (keep (suc n) d d m) x) (sym (keep_agree r' d d))
    (parts_here (omega arith)))
by_agreement (by_down q) (on_down r) (on_down r') = by_down (by_agreement q r r')
by_agreement (by_up q) (on_up r) (on_up r') = by_up (by_agreement q r r')
by_agreement (by_read q) (on_read r) (on_read r') = by_read (by_agreement q r r')
by_agreement (by_digit i q) (on_digit e r) (on_digit e' r') = by_digit (sym e ∙ i ∙ e') (by_agreement q r r')

pub parting_alike : {n d D a a' : ℕ} {l l' m m' : List Event} → Agree n l m → Agree n l' m' → Parting n d l l' D a a'
    → Parting n d m m' D a a'
parting_alike r r' q = by_agreement q r r'

-- behind a common front
pub parting_behind :
    (b x x' : List Symbol) (n k d D a a' : ℕ) → k ≡ length (units b) + n
    → Parting k d (events (b ++ x)) (events (b ++ x')) D a a' → Parting n (depth d b) (events x) (events x') D a a'
parting_behind [] x x' n k d D a a' e r = let z : k ≡ n = omega arith in subst (λ m. Parting m d (events x) (events x') D a a') z r
parting_behind (begins p ∷ b) x x' n k d D a a' e (by_down r) = parting_behind b x x' n _ (suc d) D a a' e r
parting_behind (ends p ∷ b) x x' n k d D a a' e (by_up r) = parting_behind b x x' n _ (d - 1) D a a' e r
parting_behind (reads u ∷ b) x x' n k d D a a' e (by_read {n = m} r) = parting_behind b x x' n m d D a a' (omega arith) r
parting_behind (sets t ∷ b) x x' n k d D a a' e r = parting_behind b x x' n k d D a a' e r
parting_behind (unsets t ∷ b) x x' n k d D a a' e r = parting_behind b x x' n k d D a a' e r
parting_behind (picks i ∷ b) x x' n k d D a a' e (parts_here lt) = absurd (omega arith)
parting_behind (picks i ∷ b) x x' n k d D a a' e (by_digit z r) = parting_behind b x x' n _ d D a a' e r

pub one_way : {n d D a a' E c c' : ℕ} {l l' : List Event} → Parting n d l l' D a a' → Parting n d l' l E c c' → ⊥
one_way (parts_here lt) (parts_here lt') = absurd (omega arith)
one_way (parts_here lt) (by_digit e r) = absurd (omega arith)
one_way (by_digit e r) (parts_here lt) = absurd (omega arith)
one_way (by_digit e r) (by_digit e' r') = one_way r r'
one_way (by_down r) (by_down r') = one_way r r'
one_way (by_up r) (by_up r') = one_way r r'
one_way (by_read r) (by_read r') = one_way r r'

pub one_parting : {n d D a a' E c c' : ℕ} {l l' : List Event} → Parting n d l l' D a a' → Parting n d l l' E c c'
    → (D ≡ E) × (a ≡ c) × (a' ≡ c')
one_parting (parts_here lt) (parts_here lt') = (refl, refl, refl)
one_parting (parts_here lt) (by_digit e r) = absurd (omega arith)
one_parting (by_digit e r) (parts_here lt) = absurd (omega arith)
one_parting (by_digit e r) (by_digit e' r') = one_parting r r'
one_parting (by_down r) (by_down r') = one_parting r r'
one_parting (by_up r) (by_up r') = one_parting r r'
one_parting (by_read r) (by_read r') = one_parting r r'

-- where all lengths are equal nothing is ahead
pub not_ahead : {n : ℕ} {s s' : Shape} {k : ℕ} → Same n s s' → Ahead n s s' k → ⊥
not_ahead same a = let w = ahead_wins a in let lt = w.1 in let e = same w.0 in omega arith

pub ahead_asym : {n : ℕ} {s s' : Shape} {k k' : ℕ} → Ahead n s s' k → Ahead n s' s k' → ⊥
ahead_asym {n} {s} {s'} a b =
    longer_asym (λ q. length_at n s q) (λ q. length_at n s' q) (ahead_wins a) (ahead_wins b)

-- the number of two shapes is one
mutual
  pub one_number : {n : ℕ} {s s' : Shape} {k k' : ℕ} → Ahead n s s' k → Ahead n s s' k' → k ≡ k'
  one_number (longer h) (longer h') = refl
  one_number (longer h) (under e o a) = absurd (omega arith)
  one_number (longer h) (behind e l a) = absurd (omega arith)
  one_number (under e o a) (longer h) = absurd (omega arith)
  one_number (under e o a) (under e' o' a') = ap (λ x. suc x) (one_among a a')
  one_number (under e o a) (behind e' l a') = let z = o.1 in absurd (omega arith)
  one_number (behind e l a) (longer h) = absurd (omega arith)
  one_number (behind e l a) (under e' o a') = let z = o.1 in absurd (omega arith)
  one_number (behind e l a) (behind e' l' a') = one_among a a'

  one_among : {n : ℕ} {ks ks' : Shapes} {k k' : ℕ} → AheadAmong n ks ks' k → AheadAmong n ks ks' k' → k ≡ k'
  one_among (now a) (now a') = one_number a a'
  one_among (now a) (on same a') = absurd (not_ahead same a)
  one_among (on same a) (now a') = absurd (not_ahead same a')
  one_among (on same a) (on same' a') = one_among a a'

module _ (enc : Enc) {e : Term} (p : ℕ) where
  -- trees that go on from one front of n units have equal lengths there
  pub front_same : (t s : Tree e) (b x y : List Symbol) (n : ℕ) → script enc p t ≡ b ++ x → script enc p s ≡ b ++ y
      → n ≡ length (units b) → n ≤ size (shape_of enc t) → Same n (shape_of enc t) (shape_of enc s)
  front_same t s b x y n e e' z l =
      law_front enc p t s n l
      (subst (λ k. Agree n (events k) (events (script enc p s))) (sym e) (subst (λ k. Agree n (events (b ++ x)) (events k)) (sym e') (agree_front b x y n (omega arith))))

  -- so they stand in one order to others
  pub order_front :
      (t t' s s' : Tree e) (b b' x x' y y' : List Symbol) (n k : ℕ)
      → script enc p t ≡ b ++ x → script enc p s ≡ b ++ y → script enc p t' ≡ b' ++ x' → script enc p s' ≡ b' ++ y'
      → n ≡ length (units b) → n ≡ length (units b') → n ≤ size (shape_of enc t) → n ≤ size (shape_of enc t')
      → Order enc p n t t' k → Order enc p n s s' k
  order_front t t' s s' b b' x x' y y' n k e f e' f' z z' l l' (inl a) =
      inl (ahead_alike (front_same t s b x y n e f z l) (front_same t' s' b' x' y' n e' f' z' l') a)
  order_front t t' s s' b b' x x' y y' n k e f e' f' z z' l l' (inr a) =
      let one = front_same t s b x y n e f z l in
      let two = front_same t' s' b' x' y' n e' f' z' l' in
      let g : Agree n (events (script enc p t)) (events (script enc p s)) =
      subst (λ k. Agree n (events k) (events (script enc p s))) (sym e) (subst (λ k. Agree n (events (b ++ x)) (events k)) (sym f) (agree_front b x y n (omega arith))) in
      let g' : Agree n (events (script enc p t')) (events (script enc p s')) =
      subst (λ k. Agree n (events k) (events (script enc p s'))) (sym e') (subst (λ k. Agree n (events (b' ++ x')) (events k)) (sym f') (agree_front b' x' y' n (omega arith))) in
      inr (λ q. sym (one q) ∙ a.0 q ∙ two q, parting_alike g g' a.1)

  pub order_asym : (n k m : ℕ) (t t' : Tree e) → Order enc p n t t' k → Order enc p n t' t m → ⊥
  order_asym n k m t t' (inl a) (inl b) = ahead_asym a b
  order_asym n k m t t' (inl a) (inr b) = not_ahead (λ q. sym (b.0 q)) a
  order_asym n k m t t' (inr a) (inl b) = not_ahead (λ q. sym (a.0 q)) b
  order_asym n k m t t' (inr a) (inr b) = one_way a.1 b.1

  pub order_number : (n k m : ℕ) (t t' : Tree e) → Order enc p n t t' k → Order enc p n t t' m → k ≡ m
  order_number n k m t t' (inl a) (inl b) = one_number a b
  order_number n k m t t' (inl a) (inr b) = absurd (not_ahead b.0 a)
  order_number n k m t t' (inr a) (inl b) = absurd (not_ahead a.0 b)
  order_number n k m t t' (inr a) (inr b) = (one_parting a.1 b.1).0
