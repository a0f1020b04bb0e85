-- Where the rows of the parts stand.
use Rattle.std.specs.Prelude.{◌≡◌, ℕ, zero, suc, ◌+◌, ◌-◌, ◌*◌, ◌%◌, ◌/◌, ◌<◌, ◌≤◌, min, max, List, [], ◌∷◌, ◌++◌, length, Option, Some, None, Bool, true, nat_le, nat_eq, if◌then◌else◌, slice_get, refl}
use Rattle.std.proofs.Common.{sym, ap, ◌∙◌, subst, arith, length-append, ⊎_elim, ltb-true, le-leb, eq-eqb, mul-le-mul_right}
use Rattle.std.proofs.lemmas.Bool.{cases_lt}
use Rattle.std.proofs.Math.Dec.{eqb-suc-zero}
use Rattle.lx_regex.specs.Automaton.{Move, State, moves_after, alternatives_table, copies_table, move, iteration_moves, next_member, members_table, table}
use Rattle.lx_regex.specs.Script.{begins, copy_part, ends, may_iterate, tags_in}
use Rattle.lx_regex.specs.Term.{Term, Terms, parts_of_all, alt, any_unit, cat, class, cons, copies, empty, group, nil, parts, repeat, tag}
use Rattle.lx_regex.specs.Walk.{mark}

-- these rows stand in the table from this state on
abbrev pub Stands : List State → ℕ → List State → Type 0
Stands states s [] = Unit {0}
Stands states s (r ∷ rows) = (slice_get states s ≡ Some r) × Stands states (s + 1) rows

pub stands_at : (states : List State) (s s' : ℕ) (rows : List State) → s ≡ s' → Stands states s rows → Stands states s' rows
stands_at states s s' rows e h = subst (λ n. Stands states n rows) e h

pub stands_front : (states : List State) (s : ℕ) (a b : List State) → Stands states s (a ++ b) → Stands states s a
stands_front states s [] b h = tt
stands_front states s (r ∷ a) b h = (h.0, stands_front states (s + 1) a b h.1)

pub stands_back :
    (states : List State) (s s' : ℕ) (a b : List State) → s + length a ≡ s' → Stands states s (a ++ b) → Stands states s' b
stands_back states s s' [] b e h = let e' : s ≡ s' = omega arith in stands_at states s s' b e' h
stands_back states s s' (r ∷ a) b e h =
    let e' : s + 1 + length a ≡ s' = omega arith in
    stands_back states (s + 1) s' a b e' h.1

pub mark_begins : (p : ℕ) → mark (2 * p) ≡ begins p
mark_begins p =
    let e : 2 * p % 2 ≡ 0 = omega arith in
    let d : 2 * p / 2 ≡ p = omega arith in
    ap (λ b. if b then begins (2 * p / 2) else ends (2 * p / 2)) (eq-eqb (2 * p % 2) 0 e) ∙ ap begins d

pub mark_ends : (p : ℕ) → mark (2 * p + 1) ≡ ends p
mark_ends p =
    let e : (2 * p + 1) % 2 ≡ 1 = omega arith in
    let d : (2 * p + 1) / 2 ≡ p = omega arith in
    ap (λ n. if nat_eq n 0 then begins ((2 * p + 1) / 2) else ends ((2 * p + 1) / 2)) e ∙ ap ends d

copies_length : (rows : ℕ → List Move → List State) (p : ℕ) (body : Term) (low : ℕ) (high : Option ℕ) (n c : ℕ)
    → ((q : ℕ) (ms : List Move) → length (rows q ms) ≡ 2 * parts body)
    → length (copies_table rows p body low high n c) ≡ 2 * (n * parts body)
copies_length rows p body low high zero c each = omega arith
copies_length rows p body low high (suc n) c each =
    let a = rows (p + 1 + c * parts body) (moves_after p body low high (suc c)) in
    omega (
      arith,
      length-append a (copies_table rows p body low high n (suc c)),
      each
          (p + 1 + c * parts body) (moves_after p body low high (suc c)),
      copies_length rows p body low high n (suc c) each,
    )

mutual
  pub table_length : (e : Term) (p : ℕ) (ms : List Move) → length (table e p ms) ≡ 2 * parts e
  table_length empty p ms = refl
  table_length (class ranges) p ms = refl
  table_length any_unit p ms = refl
  table_length (cat members) p ms = omega (arith, row_length members (p + 1) (2 * p + 1))
  table_length (alt members) p ms = omega (arith, alt_length members (p + 1) (2 * p + 1))
  table_length (repeat body low high) p ms =
      omega (arith, copies_length (λ q ms. table body q ms) p body low high (copies low high) 0 (λ q ms. table_length body q ms))
  table_length (tag t) p ms = refl
  table_length (group opening closing body) p ms =
      omega (arith, table_length body (p + 1) (move None (closing ∷ []) [] (2 * p + 1) ∷ []))

  pub row_length : (members : Terms) (q last : ℕ) → length (members_table members q last) ≡ 2 * parts_of_all members
  row_length nil q last = refl
  row_length (cons e members) q last =
      let ms = move None [] [] (next_member (q + parts e) members last) ∷ [] in
      omega (
        arith,
        length-append (table e q ms) (members_table members (q + parts e) last),
        table_length e q ms,
        row_length members (q + parts e) last,
      )

  pub alt_length : (members : Terms) (q last : ℕ) → length (alternatives_table members q last) ≡ 2 * parts_of_all members
  alt_length nil q last = refl
  alt_length (cons e members) q last =
      let ms = move None [] [] last ∷ [] in
      omega (
        arith,
        length-append (table e q ms) (alternatives_table members (q + parts e) last),
        table_length e q ms,
        alt_length members (q + parts e) last,
      )

-- the rows of copy c + j, among those from c on
copy_at : (states : List State) (p : ℕ) (body : Term) (low : ℕ) (high : Option ℕ) (n c j : ℕ) → j < n
    → Stands states (2 * (p + 1 + c * parts body)) (copies_table (λ q ms. table body q ms) p body low high n c)
    → Stands states
    (2 * (p + 1 + (c + j) * parts body))
    (table body (p + 1 + (c + j) * parts body) (moves_after p body low high (suc (c + j))))
copy_at states p body low high zero c j lt h = absurd (omega arith)
copy_at states p body low high (suc n) c zero lt h =
    let e : c ≡ c + 0 = omega arith in
    subst
    (λ k.
    Stands states
    (2 * (p + 1 + k * parts body)) (table body (p + 1 + k * parts body) (moves_after p body low high (suc k)))) e
    (stands_front states _ (table body (p + 1 + c * parts body) (moves_after p body low high (suc c))) _ h)
copy_at states p body low high (suc n) c (suc j) lt h =
    let a = table body (p + 1 + c * parts body) (moves_after p body low high (suc c)) in
    let len : 2 * (p + 1 + c * parts body) + length a ≡ 2 * (p + 1 + suc c * parts body) =
    omega (arith, table_length body (p + 1 + c * parts body) (moves_after p body low high (suc c))) in
    let h' =
    stands_back states _
    (2 * (p + 1 + suc c * parts body)) a (copies_table (λ q ms. table body q ms) p body low high n (suc c)) len h in
    let e : suc c + j ≡ c + suc j = omega arith in
    subst
    (λ k.
    Stands states
    (2 * (p + 1 + k * parts body)) (table body (p + 1 + k * parts body) (moves_after p body low high (suc k)))) e
    (copy_at states p body low high n (suc c) j (omega arith) h')

-- beyond the last copy the iterations go round in it
moves_after_cap : (p : ℕ) (body : Term) (low : ℕ) (high : Option ℕ) (n : ℕ) → may_iterate n high ≡ true
    → moves_after p body low high (suc (min n (copies low high - 1))) ≡ moves_after p body low high (suc n)
moves_after_cap p body low (Some high) n may =
    let lt : n < high = ltb-true n high may in
    let e : min n (high - 1) ≡ n = omega arith in
    ap (λ k. moves_after p body low (Some high) (suc k)) e
moves_after_cap p body low None n may = ⊎_elim (λ lt. below lt) (λ le. above le) (cases_lt n (max low 1))
  where
    tags_at : Bool → List ℕ
    tags_at b = if b then tags_in body else []

    below : n < max low 1 → moves_after p body low None (suc (min n (max low 1 - 1))) ≡ moves_after p body low None (suc n)
    below lt =
        let e : min n (max low 1 - 1) ≡ n = omega arith in
        ap (λ k. moves_after p body low None (suc k)) e

    above : max low 1 ≤ n → moves_after p body low None (suc (min n (max low 1 - 1))) ≡ moves_after p body low None (suc n)
    above le =
        let k = min n (max low 1 - 1) in
        let a : nat_le low (suc k) ≡ true = le-leb low (suc k) (omega arith) in
        let b : nat_le low (suc n) ≡ true = le-leb low (suc n) (omega arith) in
        let c : min (suc k) (max low 1 - 1) ≡ min (suc n) (max low 1 - 1) = omega arith in
        ap
        (λ t.
        iteration_moves true t
        (tags_at (nat_eq (suc k) 0)) (2 * (p + 1 + min (suc k) (max low 1 - 1) * parts body)) (2 * p + 1))
        (a ∙ sym b)
        ∙ ap (λ m. iteration_moves true (nat_le low (suc n)) (tags_at (nat_eq (suc k) 0)) (2 * (p + 1 + m * parts body)) (2 * p + 1)) c
        ∙ ap
        (λ t.
        iteration_moves true
        (nat_le low (suc n)) (tags_at t) (2 * (p + 1 + min (suc n) (max low 1 - 1) * parts body)) (2 * p + 1))
        (eqb-suc-zero k ∙ sym (eqb-suc-zero n))

copies_more :
    (low : ℕ) (high : Option ℕ) (n : ℕ) → may_iterate n high ≡ true → min n (copies low high - 1) < copies low high
copies_more low (Some high) n may = let lt : n < high = ltb-true n high may in omega arith
copies_more low None n may = omega arith

-- the copy to which iteration n belongs
pub copy_stands :
    (states : List State) (p : ℕ) (body : Term) (low : ℕ) (high : Option ℕ) (n : ℕ) → may_iterate n high ≡ true
    → Stands states (2 * (p + 1)) (copies_table (λ q ms. table body q ms) p body low high (copies low high) 0)
    → Stands states
    (2 * copy_part p body low high n) (table body (copy_part p body low high n) (moves_after p body low high (suc n)))
copy_stands states p body low high n may h =
    let k = min n (copies low high - 1) in
    let e : 2 * (p + 1) ≡ 2 * (p + 1 + 0 * parts body) = omega arith in
    let a =
    copy_at states p body low high (copies low high) 0 k (copies_more low high n may) (stands_at states _ _ _ e h) in
    let z : 0 + k ≡ k = omega arith in
    let b =
    subst (λ j. Stands states (2 * (p + 1 + j * parts body)) (table body (p + 1 + j * parts body) (moves_after p body low high (suc j)))) z a in
    subst
    (λ ms. Stands states (2 * (p + 1 + k * parts body)) (table body (p + 1 + k * parts body) ms))
    (moves_after_cap p body low high n may) b

-- the copies lie within the part
pub copy_within : (p : ℕ) (body : Term) (low : ℕ) (high : Option ℕ) (n : ℕ) → may_iterate n high ≡ true
    → copy_part p body low high n + parts body ≤ p + (1 + copies low high * parts body)
copy_within p body low high n may =
    within (min n (copies low high - 1)) (copies low high) (parts body) (copies_more low high n may)
  where
    within : (k n size : ℕ) → k < n → p + 1 + k * size + size ≤ p + (1 + n * size)
    within k n size lt = let h : suc k * size ≤ n * size = mul-le-mul_right size lt in omega arith
