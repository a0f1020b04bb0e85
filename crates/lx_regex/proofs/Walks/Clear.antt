-- The choices of a state's moves tell which one is taken.
use Rattle.std.specs.Prelude.{◌≡◌, ℕ, zero, suc, ◌+◌, ◌*◌, ◌≤◌, ◌⊎◌, List, [], ◌∷◌, ◌++◌, Option, Some, None, Bool, true, false, nat_le, slice_get, refl}
use Rattle.std.proofs.Common.{subst, arith, ⊎_elim}
use Rattle.lx_regex.specs.Automaton.{Move, State, moves_after, member_moves, alternatives_table, copies_table, leaf, move, moves, unit_leaf, iteration_moves, members_table, table, final}
use Rattle.lx_regex.specs.Script.{may_iterate}
use Rattle.lx_regex.specs.Term.{Term, Terms, alt, any_unit, cat, class, cons, copies, empty, group, nil, parts, repeat, tag}
use Rattle.lx_regex.specs.Walk.{IsAmong, first, next}
use Rattle.lx_regex.proofs.Walks.WholeWalk.{blanks, alone}

abbrev pub picked : Move → Option ℕ
picked (move d set unset to) = d

-- two moves of which one is no choice, or which are the same choice, are the same
abbrev pub AreClear : List Move → Type 0
AreClear ms = (a b : Move) → IsAmong a ms → IsAmong b ms → (picked a ≡ None) ⊎ (picked a ≡ picked b) → a ≡ b

abbrev pub IsClear : State → Type 0
IsClear (moves ms) = AreClear ms
IsClear (leaf ranges) = Unit {0}
IsClear unit_leaf = Unit {0}

abbrev pub AllAreClear : List State → Type 0
AllAreClear [] = Unit {0}
AllAreClear (r ∷ rows) = IsClear r × AllAreClear rows

pub none_clear : AreClear []
none_clear a b i j e = elim i [ ]

pub one_clear : (m : Move) → AreClear (m ∷ [])
one_clear m a b first first e = refl
one_clear m a b first (next j) e = elim j [ ]
one_clear m a b (next i) j e = elim i [ ]

two_clear :
    (x y : ℕ) (s s' t t' : List ℕ) (p q : ℕ) → (x ≡ y → ⊥) → AreClear (move (Some x) s t p ∷ move (Some y) s' t' q ∷ [])
two_clear x y s s' t t' p q ne a b first first e = refl
two_clear x y s s' t t' p q ne a b first (next first) e =
    absurd (⊎_elim (λ (h : Some x ≡ None). cc) (λ (h : Some x ≡ Some y). ne (cc)) e)
two_clear x y s s' t t' p q ne a b first (next (next j)) e = elim j [ ]
two_clear x y s s' t t' p q ne a b (next first) first e =
    absurd (⊎_elim (λ (h : Some y ≡ None). cc) (λ (h : Some y ≡ Some x). ne (cc)) e)
two_clear x y s s' t t' p q ne a b (next first) (next first) e = refl
two_clear x y s s' t t' p q ne a b (next first) (next (next j)) e = elim j [ ]
two_clear x y s s' t t' p q ne a b (next (next i)) j e = elim i [ ]

iteration_clear : (may enough : Bool) (tags : List ℕ) (copy last : ℕ) → AreClear (iteration_moves may enough tags copy last)
iteration_clear true true tags copy last = two_clear 0 1 [] [] [] tags copy last (λ e. absurd (omega arith))
iteration_clear true false tags copy last = one_clear _
iteration_clear false true tags copy last = one_clear _
iteration_clear false false tags copy last = none_clear

moves_after_clear : (p : ℕ) (body : Term) (low : ℕ) (high : Option ℕ) (n : ℕ) → AreClear (moves_after p body low high n)
moves_after_clear p body low high n = iteration_clear (may_iterate n high) (nat_le low n) _ _ _

alt_above : (members : Terms) (i q : ℕ) (join : List ℕ → List ℕ) (a : Move) → IsAmong a (member_moves members i q join)
    → (k : ℕ) × (i ≤ k) × (picked a ≡ Some k)
alt_above nil i q join a h = elim h [ ]
alt_above (cons e members) i q join a first = (i, omega arith, refl)
alt_above (cons e members) i q join a (next h) = let r = alt_above members (suc i) _ _ a h in (r.0, omega (arith, r.1), r.2)

alt_clear : (members : Terms) (i q : ℕ) (join : List ℕ → List ℕ) → AreClear (member_moves members i q join)
alt_clear nil i q join a b x y h = elim x [ ]
alt_clear (cons e members) i q join a b first first h = refl
alt_clear (cons e members) i q join a b first (next y) h =
    let r = alt_above members (suc i) _ _ b y in
    absurd (⊎_elim (λ (n : Some i ≡ None). cc) (λ (n : Some i ≡ picked b). let k : i ≡ r.0 = cc (n, r.2) in omega (arith, r.1)) h)
alt_clear (cons e members) i q join a b (next x) first h =
    let r = alt_above members (suc i) _ _ a x in
    absurd (⊎_elim (λ (n : picked a ≡ None). cc (n, r.2)) (λ (n : picked a ≡ Some i). let k : i ≡ r.0 = cc (n, r.2) in omega (arith, r.1)) h)
alt_clear (cons e members) i q join a b (next x) (next y) h = alt_clear members (suc i) _ _ a b x y h

pub clear_append : (a b : List State) → AllAreClear a → AllAreClear b → AllAreClear (a ++ b)
clear_append [] b h k = k
clear_append (r ∷ a) b h k = (h.0, clear_append a b h.1 k)

copies_clear : (rows : ℕ → List Move → List State) (p : ℕ) (body : Term) (low : ℕ) (high : Option ℕ) (n c : ℕ)
    → ((q : ℕ) (ms : List Move) → AreClear ms → AllAreClear (rows q ms))
    → AllAreClear (copies_table rows p body low high n c)
copies_clear rows p body low high zero c h = tt
copies_clear rows p body low high (suc n) c h =
    clear_append
    (rows (p + 1 + c * parts body) (moves_after p body low high (suc c))) _
    (h _ _ (moves_after_clear p body low high (suc c))) (copies_clear rows p body low high n (suc c) h)

mutual
  pub table_clear : (e : Term) (p : ℕ) (ms : List Move) → AreClear ms → AllAreClear (table e p ms)
  table_clear empty p ms h = (one_clear _, (h, tt))
  table_clear (class ranges) p ms h = (tt, (h, tt))
  table_clear any_unit p ms h = (tt, (h, tt))
  table_clear (cat members) p ms h = (one_clear _, (h, row_clear members (p + 1) (2 * p + 1)))
  table_clear (alt members) p ms h = (alt_clear members 0 (p + 1) (λ ts. ts), (h, alts_clear members (p + 1) (2 * p + 1)))
  table_clear (repeat body low high) p ms h = (
    moves_after_clear p body low high 0,
    (h, copies_clear (λ q ms. table body q ms) p body low high (copies low high) 0 (λ q ms h. table_clear body q ms h)),
  )
  table_clear (tag t) p ms h = (one_clear _, (h, tt))
  table_clear (group opening closing body) p ms h = (one_clear _, (h, table_clear body (p + 1) _ (one_clear _)))

  row_clear : (members : Terms) (q last : ℕ) → AllAreClear (members_table members q last)
  row_clear nil q last = tt
  row_clear (cons e members) q last =
      clear_append (table e q _) _ (table_clear e q _ (one_clear _)) (row_clear members (q + parts e) last)

  alts_clear : (members : Terms) (q last : ℕ) → AllAreClear (alternatives_table members q last)
  alts_clear nil q last = tt
  alts_clear (cons e members) q last =
      clear_append (table e q _) _ (table_clear e q _ (one_clear _)) (alts_clear members (q + parts e) last)

pub alone_clear : (e : Term) (p : ℕ) → AllAreClear (alone e p)
alone_clear e p =
    clear_append (blanks p) (table e p final) (blanks_clear p) (table_clear e p final (one_clear (move None [] [] 0)))
  where
    blanks_clear : (p : ℕ) → AllAreClear (blanks p)
    blanks_clear zero = tt
    blanks_clear (suc p) = (none_clear, (none_clear, blanks_clear p))

pub clear_at : (rows : List State) (s : ℕ) (r : State) → AllAreClear rows → slice_get rows s ≡ Some r → IsClear r
clear_at [] s r h e = cc
clear_at (x ∷ rows) zero r h e = let k : x ≡ r = cc in subst IsClear k h.0
clear_at (x ∷ rows) (suc s) r h e = clear_at rows s r h.1 e
