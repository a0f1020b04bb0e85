-- The moves of a part's states stay in the part, or are its exits. So the part of a cut tells its rule.
use Rattle.std.specs.Prelude.{◌≡◌, ℕ, zero, suc, ◌+◌, ◌*◌, ◌<◌, ◌≤◌, ◌⊎◌, List, [], ◌∷◌, ◌++◌, length, Option, Some, None, Bool, true, false, slice_get, refl}
use Rattle.std.proofs.Common.{inl, inr, sym, ap, ◌∙◌, subst, arith, ⊎_elim, mul-le-mul_right}
use Rattle.std.proofs.lemmas.Bool.{cases_order}
use Rattle.lx_base.specs.declared.settings.Enc.{Enc}
use Rattle.lx_regex.specs.Automaton.{Move, target, State, moves, leaf, unit_leaf, iteration_moves, next_member, moves_after, member_moves, copies_table, table, members_table, alternatives_table, automaton, final}
use Rattle.lx_regex.specs.Cut.{rule_part, Cut, last_part, EndsInUnit, GoesOn}
use Rattle.lx_regex.specs.Script.{Symbol, may_iterate, copy_part}
use Rattle.lx_regex.specs.Term.{Term, empty, class, any_unit, cat, alt, repeat, tag, group, Terms, nil, cons, copies, parts, parts_of_all}
use Rattle.lx_regex.specs.Walk.{IsAmong, first, next}
use Rattle.lx_regex.proofs.KernelCuts.Cuts.{rule_stands, rule_positive, paired_rules, code_even, front_part, way_of, cutting_of}
use Rattle.lx_regex.proofs.Walks.Fronts.{Front, by_move, by_code, within, no_rows}
use Rattle.lx_regex.proofs.PartTables.PartLists.{parts_positive}
use Rattle.lx_regex.proofs.PartTables.Rows.{Stands, copy_within, table_length}

some_parts : (e : Term) → 0 < parts e
some_parts e = let one = parts_positive e in omega arith

none_among : {m : Move} (ms : List Move) → ms ≡ [] → IsAmong m ms → ⊥
none_among [] e i = elim i [ ]
none_among (n ∷ ms) e i = cc

module _ (P : ℕ → Type 0) where
  abbrev pub RowTo : State → Type 0
  RowTo (moves ms) = (m : Move) → IsAmong m ms → P (target m)
  RowTo (leaf ranges) = Unit {0}
  RowTo unit_leaf = Unit {0}

  abbrev pub AllTo : List State → Type 0
  AllTo [] = Unit {0}
  AllTo (r ∷ rows) = RowTo r × AllTo rows

  to_append : (a b : List State) → AllTo a → AllTo b → AllTo (a ++ b)
  to_append [] b x y = y
  to_append (r ∷ a) b x y = (x.0, to_append a b x.1 y)

  to_one : (x : Move) → P (target x) → RowTo (moves (x ∷ []))
  to_one x h m first = h
  to_one x h m (next i) = elim i [ ]

  round_to : (may enough : Bool) (tags : List ℕ) (copy last : ℕ) → (may ≡ true → P copy) → P last → RowTo (moves (iteration_moves may enough tags copy last))
  round_to true true tags copy last c l m first = c refl
  round_to true true tags copy last c l m (next first) = l
  round_to true true tags copy last c l m (next (next i)) = elim i [ ]
  round_to true false tags copy last c l m i = to_one _ (c refl) m i
  round_to false true tags copy last c l m i = to_one _ l m i
  round_to false false tags copy last c l m i = elim i [ ]

  -- the states of n parts from part p on
  abbrev pub Spans : ℕ → ℕ → Type 0
  Spans p n = (x : ℕ) → 2 * p ≤ x → x < 2 * (p + n) → P x

  narrow : (p n q k : ℕ) → p ≤ q → q + k ≤ p + n → Spans p n → Spans q k
  narrow p n q k a b h x l u = h x (omega arith) (omega arith)

  spot : (p n q : ℕ) → p ≤ q → q < p + n → Spans p n → P (2 * q)
  spot p n q a b h = h (2 * q) (omega arith) (omega arith)

  end_spot : (p n : ℕ) → 0 < n → Spans p n → P (2 * p + 1)
  end_spot p n a h = h (2 * p + 1) (omega arith) (omega arith)

  alt_to : (members : Terms) (i q : ℕ) (f : List ℕ → List ℕ) → Spans q (parts_of_all members) → RowTo (moves (member_moves members i q f))
  alt_to nil i q f h m j = elim j [ ]
  alt_to (cons e members) i q f h m first = let k : 0 < parts e = some_parts e in spot q (parts e + parts_of_all members) q (omega arith) (omega arith) h
  alt_to (cons e members) i q f h m (next j) = alt_to members (suc i) (q + parts e) _ (narrow q (parts e + parts_of_all members) (q + parts e) (parts_of_all members) (omega arith) (omega arith) h) m j

  after_to : (p : ℕ) (body : Term) (low : ℕ) (high : Option ℕ) (n : ℕ) → Spans p (1 + copies low high * parts body) → RowTo (moves (moves_after p body low high n))
  after_to p body low high n h =
      round_to (may_iterate n high) _ _ (2 * copy_part p body low high n) (2 * p + 1)
      (λ may.
      let k : copy_part p body low high n + parts body ≤ p + (1 + copies low high * parts body) = copy_within p body low high n may in
      let s : 0 < parts body = some_parts body in
      spot p (1 + copies low high * parts body) (copy_part p body low high n) (omega arith) (omega arith) h)
      (end_spot p (1 + copies low high * parts body) (omega arith) h)

  copies_to : (rows : ℕ → List Move → List State) (p : ℕ) (body : Term) (low : ℕ) (high : Option ℕ) (n c : ℕ) → c + n ≡ copies low high → Spans p (1 + copies low high * parts body) → ((q : ℕ) (ms : List Move) → Spans q (parts body) → RowTo (moves ms) → AllTo (rows q ms)) → AllTo (copies_table rows p body low high n c)
  copies_to rows p body low high zero c e h f = tt
  copies_to rows p body low high (suc n) c e h f =
      let lt : c < copies low high = omega arith in
      let k : suc c * parts body ≤ copies low high * parts body = mul-le-mul_right (parts body) lt in
      let k' : c * parts body + parts body ≤ copies low high * parts body = fit c (parts body) (copies low high * parts body) k in
      let e' : suc c + n ≡ copies low high = omega arith in
      to_append (rows (p + 1 + c * parts body) (moves_after p body low high (suc c))) (copies_table rows p body low high n (suc c))
      (f (p + 1 + c * parts body) (moves_after p body low high (suc c)) (narrow p (1 + copies low high * parts body) (p + 1 + c * parts body) (parts body) (omega arith) (omega arith) h) (after_to p body low high (suc c) h))
      (copies_to rows p body low high n (suc c) e' h f)
    where
      fit : (c s t : ℕ) → suc c * s ≤ t → c * s + s ≤ t
      fit c s t h = omega arith

  next_to : (members : Terms) (q last : ℕ) → Spans q (parts_of_all members) → P last → P (next_member q members last)
  next_to nil q last h l = l
  next_to (cons e members) q last h l = let k : 0 < parts e = some_parts e in spot q (parts e + parts_of_all members) q (omega arith) (omega arith) h

  mutual
    pub table_to : (e : Term) (p : ℕ) (ms : List Move) → Spans p (parts e) → RowTo (moves ms) → AllTo (table e p ms)
    table_to empty p ms h x = (to_one _ (end_spot p 1 (omega arith) h), (x, tt))
    table_to (class ranges) p ms h x = (tt, (x, tt))
    table_to any_unit p ms h x = (tt, (x, tt))
    table_to (cat members) p ms h x =
        let l : P (2 * p + 1) = end_spot p (1 + parts_of_all members) (omega arith) h in
        let i : Spans (p + 1) (parts_of_all members) = narrow p (1 + parts_of_all members) (p + 1) (parts_of_all members) (omega arith) (omega arith) h in
        (to_one _ (next_to members (p + 1) (2 * p + 1) i l), (x, row_to members (p + 1) (2 * p + 1) i l))
    table_to (alt members) p ms h x =
        let l : P (2 * p + 1) = end_spot p (1 + parts_of_all members) (omega arith) h in
        let i : Spans (p + 1) (parts_of_all members) = narrow p (1 + parts_of_all members) (p + 1) (parts_of_all members) (omega arith) (omega arith) h in
        (alt_to members 0 (p + 1) (λ ts. ts) i, (x, alts_to members (p + 1) (2 * p + 1) i l))
    table_to (repeat body low high) p ms h x =
        (after_to p body low high 0 h, (x, copies_to (λ q ms. table body q ms) p body low high (copies low high) 0 (omega arith) h (λ q ns i y. table_to body q ns i y)))
    table_to (tag t) p ms h x = (to_one _ (end_spot p 1 (omega arith) h), (x, tt))
    table_to (group opening closing body) p ms h x =
        let k : 0 < parts body = some_parts body in
        let l : P (2 * p + 1) = end_spot p (1 + parts body) (omega arith) h in
        let i : Spans (p + 1) (parts body) = narrow p (1 + parts body) (p + 1) (parts body) (omega arith) (omega arith) h in
        (to_one _ (spot p (1 + parts body) (p + 1) (omega arith) (omega arith) h), (x, table_to body (p + 1) _ i (to_one _ l)))

    row_to : (members : Terms) (q last : ℕ) → Spans q (parts_of_all members) → P last → AllTo (members_table members q last)
    row_to nil q last h l = tt
    row_to (cons e members) q last h l =
        let i : Spans (q + parts e) (parts_of_all members) = narrow q (parts e + parts_of_all members) (q + parts e) (parts_of_all members) (omega arith) (omega arith) h in
        to_append (table e q _) (members_table members (q + parts e) last)
        (table_to e q _ (narrow q (parts e + parts_of_all members) q (parts e) (omega arith) (omega arith) h) (to_one _ (next_to members (q + parts e) last i l)))
        (row_to members (q + parts e) last i l)

    alts_to : (members : Terms) (q last : ℕ) → Spans q (parts_of_all members) → P last → AllTo (alternatives_table members q last)
    alts_to nil q last h l = tt
    alts_to (cons e members) q last h l =
        let i : Spans (q + parts e) (parts_of_all members) = narrow q (parts e + parts_of_all members) (q + parts e) (parts_of_all members) (omega arith) (omega arith) h in
        to_append (table e q _) (alternatives_table members (q + parts e) last)
        (table_to e q _ (narrow q (parts e + parts_of_all members) q (parts e) (omega arith) (omega arith) h) (to_one _ l))
        (alts_to members (q + parts e) last i l)

  -- a row that stands in a table
  pub row_stands : (g : List State) (s0 : ℕ) (rows : List State) (s : ℕ) (r : State) → Stands g s0 rows → AllTo rows → s0 ≤ s → s < s0 + length rows → slice_get g s ≡ Some r → RowTo r
  row_stands g s0 [] s r h a l u e = absurd (omega arith)
  row_stands g s0 (x ∷ rows) s r h a l u e =
      ⊎_elim
      (λ j. let k : Some r ≡ Some x = sym e ∙ ap (slice_get g) (sym j) ∙ h.0 in subst RowTo (sym (drop k)) a.0)
      (λ d. ⊎_elim (λ lt. row_stands g (s0 + 1) rows s r h.1 a.1 (omega arith) (omega arith) e) (λ gt. absurd (omega arith)) d)
      (cases_order s0 s)
    where
      drop : {a b : State} → Some a ≡ Some b → a ≡ b
      drop k = cc

module _ (enc : Enc) (rules : List Term) (r : ℕ) (e : Term) (at : slice_get rules r ≡ Some e) where
  -- the states of rule r
  abbrev Within : ℕ → Type 0
  Within s = (2 * rule_part rules r ≤ s) × (s < 2 * (rule_part rules r + parts e))

  abbrev Goal : ℕ → Type 0
  Goal s = (s ≡ 0) ⊎ ((2 * rule_part rules r ≤ s) × (s < 2 * (rule_part rules r + parts e)))

  rows_to : AllTo Goal (table e (rule_part rules r) final)
  rows_to = table_to Goal e (rule_part rules r) final (λ x l u. inr (l, u)) (to_one Goal _ (inl refl))

  -- a front of the rule stands in the rule
  front_within : (f : ℕ) (v : List ℕ) {s : ℕ} {l : List Symbol} → Front enc (automaton rules) f v s l → Goal s → (2 * rule_part rules r ≤ f) × (f < 2 * (rule_part rules r + parts e))
  front_within f v (by_move {s} {l} ms m h i a) (inl z) = absurd (none_among ms (let k : Some (moves ms) ≡ Some (moves []) = sym h ∙ ap (slice_get (automaton rules)) z in cc) i)
  front_within f v (by_move {s} {l} ms m h i a) (inr b) =
      let n : length (table e (rule_part rules r) final) ≡ 2 * parts e = table_length e (rule_part rules r) final in
      front_within f v a (row_stands Goal (automaton rules) (2 * rule_part rules r) (table e (rule_part rules r) final) s (moves ms) (rule_stands rules r e at) rows_to b.0 (omega (arith, b.1)) h m i)
  front_within f v (by_code {s} {l} row d us h c a) (inl z) = absurd (no_rows enc (automaton rules) s [] row (ap (slice_get (automaton rules)) z) h c)
  front_within f v (by_code {s} {l} row d us h c a) (inr b) =
      let even = code_even enc (automaton rules) s row (paired_rules rules 1) h c in
      front_within f v a (inr (omega (arith, b.0), omega (arith, b.1, even.1)))
  front_within f v (within {s} same row d u us h c) (inl z) = absurd (no_rows enc (automaton rules) s [] row (ap (slice_get (automaton rules)) z) h c)
  front_within f v (within {s} same row d u us h c) (inr b) = subst (λ x. (2 * rule_part rules r ≤ x) × (x < 2 * (rule_part rules r + parts e))) same b

  pub cut_within : (k : Cut) (rest : List Symbol) → k.rule ≡ r → EndsInUnit k.front → GoesOn enc rules k rest → (rule_part rules r ≤ last_part 0 k.front) × (last_part 0 k.front < rule_part rules r + parts e)
  cut_within k rest same is go =
      let c = cutting_of enc rules k.rule k.front rest is (way_of enc rules k rest go) in
      let n : c.at ≡ 2 * last_part 0 k.front = front_part enc (automaton rules) (paired_rules rules 1) c.at c.left c.front 0 in
      let p : 0 < parts e = some_parts e in
      let b = front_within c.at c.left (subst (λ x. Front enc (automaton rules) c.at c.left (2 * rule_part rules x) k.front) same c.front) (inr (omega arith, omega arith)) in
      (omega (arith, n, b.0), omega (arith, n, b.1))

-- the rules' parts follow each other
rule_after : (rules : List Term) (r r' : ℕ) (e : Term) → slice_get rules r ≡ Some e → r < r' → rule_part rules r + parts e ≤ rule_part rules r' ⊎ (slice_get rules r' ≡ None)
rule_after [] r r' e h l = inr refl
rule_after (x ∷ rules) zero zero e h l = absurd (omega arith)
rule_after (x ∷ rules) zero (suc r') e h l =
    let k : x ≡ e = cc in
    let z : parts x ≡ parts e = ap parts k in
    inl (omega (arith, rule_positive rules r'))
rule_after (x ∷ rules) (suc r) zero e h l = absurd (omega arith)
rule_after (x ∷ rules) (suc r) (suc r') e h l = ⊎_elim (λ i. inl (omega (arith, i))) (λ n. inr n) (rule_after rules r r' e h (omega arith))

pub cuts_one_rule : (enc : Enc) (rules : List Term) (j k : Cut) (p q : List Symbol) → EndsInUnit j.front → EndsInUnit k.front
    → GoesOn enc rules j p → GoesOn enc rules k q → last_part 0 j.front ≡ last_part 0 k.front → j.rule ≡ k.rule
cuts_one_rule enc rules j k p q ij ik gj gk same =
    ⊎_elim
    (λ e. e)
    (λ d. ⊎_elim
    (λ l. absurd (⊎_elim (λ x. omega (arith, x, a.1, b.0, same)) (λ n. let z : Some gk.0 ≡ None = sym gk.2 ∙ n in cc) (rule_after rules j.rule k.rule gj.0 gj.2 l)))
    (λ l. absurd (⊎_elim (λ x. omega (arith, x, b.1, a.0, same)) (λ n. let z : Some gj.0 ≡ None = sym gj.2 ∙ n in cc) (rule_after rules k.rule j.rule gk.0 gk.2 l)))
    d)
    (cases_order j.rule k.rule)
  where
    a : (rule_part rules j.rule ≤ last_part 0 j.front) × (last_part 0 j.front < rule_part rules j.rule + parts gj.0)
    a = cut_within enc rules j.rule gj.0 gj.2 j p refl ij gj

    b : (rule_part rules k.rule ≤ last_part 0 k.front) × (last_part 0 k.front < rule_part rules k.rule + parts gk.0)
    b = cut_within enc rules k.rule gk.0 gk.2 k q refl ik gk
