-- The automaton of each rule list has depths of states.
use Rattle.std.proofs.Common.{sym, ap, ◌∙◌, subst, arith, mul-le-mul_right}
use Rattle.std.proofs.lemmas.Bool.{le-ltb, lt-ltb, ltb-true}
use Rattle.std.proofs.lemmas.Nat.{mod-mul-add}
use Rattle.std.specs.Prelude.{◌≡◌, ℕ, zero, suc, ◌+◌, ◌-◌, ◌*◌, ◌<◌, ◌≤◌, min, List, [], ◌∷◌, ◌++◌, length, Option, Some, None, Bool, true, false, nat_le, nat_lt, if◌then◌else◌, slice_get, refl}
use Rattle.lx_regex.specs.Automaton.{Move, State, alternatives_table, automaton, copies_table, final, iteration_moves, leaf, member_moves, members_table, move, moves, moves_after, next_member, rules_table, table, target, unit_leaf}
use Rattle.lx_regex.specs.Script.{copy_part, may_iterate, merge_tags, tags_in}
use Rattle.lx_regex.specs.Term.{Term, Terms, alt, any_unit, cat, class, cons, copies, empty, group, nil, parts, parts_of_all, repeat, tag}
use Rattle.lx_regex.specs.Walk.{first, mark, next}
use Rattle.lx_regex.proofs.KernelCuts.RuleCuts.{RowTo}
use Rattle.lx_regex.proofs.PartTables.Rows.{mark_begins, mark_ends, table_length}
use Rattle.lx_tnfa.specs.DepthFirst.{successors}
use Rattle.lx_tdfa.specs.Graph.{graph_of, move_at, moves_at}
use Rattle.lx_tdfa.proofs.Rules.StateOrder.{some_parts}
use Rattle.lx_tdfa.proofs.Walks.StatePaths.{at_move}
use Rattle.lx_tdfa.proofs.WordKernels.OrderedLists.{nth_at_zero}
use Rattle.lx_posix.specs.LevelPaths.{AreDepths, depth_among, depth_in, depth_of_rules, state_depth}
use Rattle.lx_posix.specs.Walks.{depth}

module _ (deep : ℕ → ℕ) where
  -- a state to which moves lead from where so many parts are open
  abbrev Leads : (d y : ℕ) → Type 0
  Leads d y = deep y ≡ depth d (mark y ∷ [])

  abbrev RowLeads : ℕ → State → Type 0
  RowLeads d row = RowTo (λ y. deep y ≡ depth d (mark y ∷ [])) row

  -- each row from one number on leads so
  abbrev AllLead : ℕ → List State → Type 0
  AllLead b [] = Unit {0}
  AllLead b (row ∷ rows) = RowLeads (deep b) row × AllLead (suc b) rows

  lead_append : (b c : ℕ) (xs ys : List State) → b + length xs ≡ c → AllLead b xs → AllLead c ys → AllLead b (xs ++ ys)
  lead_append b c [] ys e h k = let z : c ≡ b = omega arith in subst (λ n. AllLead n ys) z k
  lead_append b c (x ∷ xs) ys e h k = (h.0, lead_append (suc b) c xs ys (omega arith) h.1 k)

  lead_one : (d : ℕ) (x : Move) → Leads d (target x) → RowLeads d (moves (x ∷ []))
  lead_one d x h m first = h
  lead_one d x h m (next i) = elim i [ ]

  lead_none : (d : ℕ) → RowLeads d (moves [])
  lead_none d m i = elim i [ ]

  lead_two : (d : ℕ) (x y : Move) → Leads d (target x) → Leads d (target y) → RowLeads d (moves (x ∷ y ∷ []))
  lead_two d x y h k m first = h
  lead_two d x y h k m (next i) = lead_one d y k m i

  -- the depths are those of a term from one number on
  abbrev Holds : ℕ → Term → ℕ → Type 0
  Holds b e d = (k : ℕ) → k < 2 * parts e → deep (b + k) ≡ depth_in e d k

  abbrev HoldsAmong : ℕ → Terms → ℕ → Type 0
  HoldsAmong b ms d = (k : ℕ) → k < 2 * parts_of_all ms → deep (b + k) ≡ depth_among ms d k

  begin_depth : (p d : ℕ) (e : Term) → Holds (2 * p) e d → deep (2 * p) ≡ suc d
  begin_depth p d e h =
      let q : 0 < parts e = some_parts e in
      let z : 2 * p ≡ 2 * p + 0 = omega arith in
      ap deep z ∙ h 0 (omega arith)

  end_depth : (p d : ℕ) (e : Term) → Holds (2 * p) e d → deep (2 * p + 1) ≡ d
  end_depth p d e h = let q : 0 < parts e = some_parts e in h 1 (omega arith)

  -- to a beginning, and to an end
  leads_in : (p d : ℕ) → deep (2 * p) ≡ suc d → Leads d (2 * p)
  leads_in p d h = h ∙ ap (λ x. depth d (x ∷ [])) (sym (mark_begins p))

  leads_out : (p d : ℕ) → deep (2 * p + 1) ≡ d → Leads (suc d) (2 * p + 1)
  leads_out p d h =
      let z : d ≡ suc d - 1 = omega arith in h ∙ z ∙ ap (λ x. depth (suc d) (x ∷ [])) (sym (mark_ends p))

  if_less : (k n : ℕ) (x y : ℕ) → k < n → (if nat_lt k n then x else y) ≡ x
  if_less k n x y lt = ap (λ b. if b then x else y) (lt-ltb k n lt)

  if_more : (k n : ℕ) (x y : ℕ) → n ≤ k → (if nat_lt k n then x else y) ≡ y
  if_more k n x y le = ap (λ b. if b then x else y) (le-ltb k n le)

  among_first : (b d : ℕ) (e : Term) (ms : Terms) → HoldsAmong b (cons e ms) d → Holds b e d
  among_first b d e ms h k lt = h k (omega arith) ∙ if_less k (2 * parts e) (depth_in e d k) (depth_among ms d (k - 2 * parts e)) lt

  among_rest : (b c d : ℕ) (e : Term) (ms : Terms) → b + 2 * parts e ≡ c → HoldsAmong b (cons e ms) d → HoldsAmong c ms d
  among_rest b c d e ms z h k lt =
      let q : c + k ≡ b + (2 * parts e + k) = omega arith in
      let r : 2 * parts e + k - 2 * parts e ≡ k = omega arith in
      ap deep q ∙ h (2 * parts e + k) (omega arith)
      ∙ if_more (2 * parts e + k) (2 * parts e) (depth_in e d (2 * parts e + k)) (depth_among ms d (2 * parts e + k - 2 * parts e))
      (omega arith)
      ∙ ap (λ n. depth_among ms d n) r

  -- the moves between iterations
  iteration_leads : (may enough : Bool) (tags : List ℕ) (copy last d : ℕ) → (may ≡ true → Leads d copy) → Leads d last
      → RowLeads d (moves (iteration_moves may enough tags copy last))
  iteration_leads true true tags copy last d h k = lead_two d _ _ (h refl) k
  iteration_leads true false tags copy last d h k = lead_one d _ (h refl)
  iteration_leads false true tags copy last d h k = lead_one d _ k
  iteration_leads false false tags copy last d h k = lead_none d

  more_copies : (low : ℕ) (high : Option ℕ) (n : ℕ) → may_iterate n high ≡ true → min n (copies low high - 1) < copies low high
  more_copies low (Some high) n may = let lt : n < high = ltb-true n high may in omega arith
  more_copies low None n may = omega arith

  -- each copy of a body has the depths of the body
  abbrev HoldsCopies : ℕ → Term → ℕ → ℕ → Type 0
  HoldsCopies p body n d = (j : ℕ) → j < n → Holds (2 * (p + 1 + j * parts body)) body d

  copies_hold : (p d : ℕ) (body : Term) (low : ℕ) (high : Option ℕ) → Holds (2 * p) (repeat body low high) d
      → HoldsCopies p body (copies low high) (suc d)
  copies_hold p d body low high h j lt k less =
      let size : ℕ = parts body in
      let a : suc j * parts body ≤ copies low high * parts body = mul-le-mul_right (parts body) lt in
      let b : suc j * parts body ≡ j * parts body + parts body = omega arith in
      let c : j * (2 * parts body) ≡ 2 * (j * parts body) = omega arith in
      let q : 2 * (p + 1 + j * parts body) + k ≡ 2 * p + suc (suc (j * (2 * parts body) + k)) = omega arith in
      ap deep q ∙ h (suc (suc (j * (2 * parts body) + k))) (omega arith)
      ∙ ap (λ n. depth_in body (suc d) n) (mod-mul-add j (2 * parts body) k less)

  after_leads : (p d : ℕ) (body : Term) (low : ℕ) (high : Option ℕ) (n : ℕ) → HoldsCopies p body (copies low high) (suc d)
      → deep (2 * p + 1) ≡ d → RowLeads (suc d) (moves (moves_after p body low high n))
  after_leads p d body low high n h last =
      iteration_leads (may_iterate n high) (nat_le low n) _ (2 * copy_part p body low high n) (2 * p + 1) (suc d)
      (λ may.
      leads_in (copy_part p body low high n) (suc d)
      (begin_depth (copy_part p body low high n) (suc d) body (h (min n (copies low high - 1)) (more_copies low high n may))))
      (leads_out p d last)

  copies_lead : (p d : ℕ) (body : Term) (low : ℕ) (high : Option ℕ) (n c : ℕ)
      → ((q : ℕ) (ms : List Move) → Holds (2 * q) body (suc d) → RowLeads (suc d) (moves ms) → AllLead (2 * q) (table body q ms))
      → c + n ≡ copies low high → HoldsCopies p body (copies low high) (suc d) → deep (2 * p + 1) ≡ d
      → AllLead (2 * (p + 1 + c * parts body)) (copies_table (λ q ms. table body q ms) p body low high n c)
  copies_lead p d body low high zero c each e h last = tt
  copies_lead p d body low high (suc n) c each e h last =
      let a = table_length body (p + 1 + c * parts body) (moves_after p body low high (suc c)) in
      lead_append (2 * (p + 1 + c * parts body)) (2 * (p + 1 + suc c * parts body))
      (table body (p + 1 + c * parts body) (moves_after p body low high (suc c)))
      (copies_table (λ q ms. table body q ms) p body low high n (suc c)) (omega arith)
      (each (p + 1 + c * parts body) (moves_after p body low high (suc c)) (h c (omega arith))
      (after_leads p d body low high (suc c) h last))
      (copies_lead p d body low high n (suc c) each (omega arith) h last)

  -- the first member, or the end
  next_leads : (q d last : ℕ) (ms : Terms) → HoldsAmong (2 * q) ms d → Leads d last → Leads d (next_member q ms last)
  next_leads q d last nil h k = k
  next_leads q d last (cons e ms) h k = leads_in q d (begin_depth q d e (among_first (2 * q) d e ms h))

  members_lead : (ms : Terms) (i q d : ℕ) (f : List ℕ → List ℕ) → HoldsAmong (2 * q) ms d → RowLeads d (moves (member_moves ms i q f))
  members_lead nil i q d f h m k = elim k [ ]
  members_lead (cons e ms) i q d f h m first = leads_in q d (begin_depth q d e (among_first (2 * q) d e ms h))
  members_lead (cons e ms) i q d f h m (next k) =
      members_lead ms (suc i) (q + parts e) d (λ ts. f (merge_tags (tags_in e) ts))
      (among_rest (2 * q) (2 * (q + parts e)) d e ms (omega arith) h) m k

  two : (b d : ℕ) (x y : State) (rows : List State) → deep b ≡ suc d → deep (b + 1) ≡ d → RowLeads (suc d) x → RowLeads d y
      → AllLead (suc (suc b)) rows → AllLead b (x ∷ y ∷ rows)
  two b d x y rows e f h k l =
      let z : suc b ≡ b + 1 = omega arith in
      (subst (λ n. RowLeads n x) (sym e) h, (subst (λ n. RowLeads n y) (sym (ap deep z ∙ f)) k, l))

  mutual
    table_leads : (e : Term) (p d : ℕ) (ms : List Move) → Holds (2 * p) e d → RowLeads d (moves ms) → AllLead (2 * p) (table e p ms)
    table_leads empty p d ms h k =
        two (2 * p) d (moves (move None [] [] (2 * p + 1) ∷ [])) (moves ms) [] (begin_depth p d empty h) (end_depth p d empty h)
        (lead_one (suc d) _ (leads_out p d (end_depth p d empty h))) k tt
    table_leads (class ranges) p d ms h k =
        two (2 * p) d (leaf ranges) (moves ms) [] (begin_depth p d (class ranges) h) (end_depth p d (class ranges) h) tt k tt
    table_leads any_unit p d ms h k =
        two (2 * p) d unit_leaf (moves ms) [] (begin_depth p d any_unit h) (end_depth p d any_unit h) tt k tt
    table_leads (cat members) p d ms h k =
        let inner : HoldsAmong (2 * (p + 1)) members (suc d) = λ n lt. let q : 2 * (p + 1) + n
        ≡ 2 * p + suc (suc n) = omega arith in ap deep q ∙ h (suc (suc n)) (omega arith) in
        let last = end_depth p d (cat members) h in
        two (2 * p) d (moves (move None [] [] (next_member (p + 1) members (2 * p + 1)) ∷ [])) (moves ms)
        (members_table members (p + 1) (2 * p + 1)) (begin_depth p d (cat members) h) (end_depth p d (cat members) h)
        (lead_one (suc d) _ (next_leads (p + 1) (suc d) (2 * p + 1) members inner (leads_out p d last))) k
        (subst (λ n. AllLead n (members_table members (p + 1) (2 * p + 1))) (omega arith)
        (row_leads members (p + 1) (suc d) (2 * p + 1) inner (leads_out p d last)))
    table_leads (alt members) p d ms h k =
        let inner : HoldsAmong (2 * (p + 1)) members (suc d) = λ n lt. let q : 2 * (p + 1) + n
        ≡ 2 * p + suc (suc n) = omega arith in ap deep q ∙ h (suc (suc n)) (omega arith) in
        let last = end_depth p d (alt members) h in
        two (2 * p) d (moves (member_moves members 0 (p + 1) (λ tags. tags))) (moves ms)
        (alternatives_table members (p + 1) (2 * p + 1)) (begin_depth p d (alt members) h) (end_depth p d (alt members) h)
        (members_lead members 0 (p + 1) (suc d) (λ tags. tags) inner) k
        (subst (λ n. AllLead n (alternatives_table members (p + 1) (2 * p + 1))) (omega arith)
        (alternatives_lead members (p + 1) (suc d) (2 * p + 1) inner (leads_out p d last)))
    table_leads (repeat body low high) p d ms h k =
        let inner = copies_hold p d body low high h in
        let last = end_depth p d (repeat body low high) h in
        let start : 2 * (p + 1 + 0 * parts body) ≡ suc (suc (2 * p)) = omega arith in
        two (2 * p) d (moves (moves_after p body low high 0)) (moves ms)
        (copies_table (λ q ms. table body q ms) p body low high (copies low high) 0) (begin_depth p d (repeat body low high) h)
        (end_depth p d (repeat body low high) h) (after_leads p d body low high 0 inner last) k
        (subst (λ n. AllLead n (copies_table (λ q ms. table body q ms) p body low high (copies low high) 0)) start
        (copies_lead p d body low high (copies low high) 0 (λ q ms a b. table_leads body q (suc d) ms a b) (omega arith) inner last))
    table_leads (tag number) p d ms h k =
        two (2 * p) d (moves (move None (number ∷ []) [] (2 * p + 1) ∷ [])) (moves ms) [] (begin_depth p d (tag number) h)
        (end_depth p d (tag number) h) (lead_one (suc d) _ (leads_out p d (end_depth p d (tag number) h))) k tt
    table_leads (group opening closing body) p d ms h k =
        let inner : Holds (2 * (p + 1)) body (suc d) = λ n lt. let q : 2 * (p + 1) + n ≡ 2 * p + suc (suc n) = omega arith in ap deep q
        ∙ h (suc (suc n)) (omega arith) in
        let last = end_depth p d (group opening closing body) h in
        two (2 * p) d (moves (move None (opening ∷ []) [] (2 * (p + 1)) ∷ [])) (moves ms)
        (table body (p + 1) (move None (closing ∷ []) [] (2 * p + 1) ∷ [])) (begin_depth p d (group opening closing body) h)
        (end_depth p d (group opening closing body) h)
        (lead_one (suc d) _ (leads_in (p + 1) (suc d) (begin_depth (p + 1) (suc d) body inner))) k
        (subst (λ n. AllLead n (table body (p + 1) (move None (closing ∷ []) [] (2 * p + 1) ∷ []))) (omega arith)
        (table_leads body (p + 1) (suc d) _ inner (lead_one (suc d) _ (leads_out p d last))))

    row_leads : (ms : Terms) (q d last : ℕ) → HoldsAmong (2 * q) ms d → Leads d last → AllLead (2 * q) (members_table ms q last)
    row_leads nil q d last h k = tt
    row_leads (cons e ms) q d last h k =
        let exits = move None [] [] (next_member (q + parts e) ms last) ∷ [] in
        let rest = among_rest (2 * q) (2 * (q + parts e)) d e ms (omega arith) h in
        let l = table_length e q (move None [] [] (next_member (q + parts e) ms last) ∷ []) in
        lead_append (2 * q) (2 * (q + parts e)) (table e q (move None [] [] (next_member (q + parts e) ms last) ∷ []))
        (members_table ms (q + parts e) last) (omega arith)
        (table_leads e q d _ (among_first (2 * q) d e ms h) (lead_one d _ (next_leads (q + parts e) d last ms rest k)))
        (row_leads ms (q + parts e) d last rest k)

    alternatives_lead : (ms : Terms) (q d last : ℕ) → HoldsAmong (2 * q) ms d → Leads d last
        → AllLead (2 * q) (alternatives_table ms q last)
    alternatives_lead nil q d last h k = tt
    alternatives_lead (cons e ms) q d last h k =
        let rest = among_rest (2 * q) (2 * (q + parts e)) d e ms (omega arith) h in
        let l = table_length e q (move None [] [] last ∷ []) in
        lead_append (2 * q) (2 * (q + parts e)) (table e q (move None [] [] last ∷ [])) (alternatives_table ms (q + parts e) last)
        (omega arith) (table_leads e q d _ (among_first (2 * q) d e ms h) (lead_one d _ k))
        (alternatives_lead ms (q + parts e) d last rest k)

  abbrev HoldsRules : ℕ → List Term → Type 0
  HoldsRules b rules = (k : ℕ) → deep (b + k) ≡ depth_of_rules rules k

  rules_lead : (rules : List Term) (p : ℕ) → HoldsRules (2 * p) rules → deep 0 ≡ 1 → AllLead (2 * p) (rules_table rules p)
  rules_lead [] p h z = tt
  rules_lead (e ∷ rules) p h z =
      let l = table_length e p final in
      lead_append (2 * p) (2 * (p + parts e)) (table e p final) (rules_table rules (p + parts e)) (omega arith)
      (table_leads e p 0 final
      (λ k lt. h k ∙ if_less k (2 * parts e) (depth_in e 0 k) (depth_of_rules rules (k - 2 * parts e)) lt)
      (lead_one 0 (move None [] [] 0) (z ∙ ap (λ x. depth 0 (x ∷ [])) (sym (mark_begins 0)))))
      (rules_lead rules (p + parts e)
      (λ k.
      let q : 2 * (p + parts e) + k ≡ 2 * p + (2 * parts e + k) = omega arith in
      let r : 2 * parts e + k - 2 * parts e ≡ k = omega arith in
      ap deep q ∙ h (2 * parts e + k)
      ∙ if_more (2 * parts e + k) (2 * parts e) (depth_in e 0 (2 * parts e + k)) (depth_of_rules rules (2 * parts e + k - 2 * parts e))
      (omega arith)
      ∙ ap (λ n. depth_of_rules rules n) r) z)

  leads_at : (b s : ℕ) (rows : List State) (row : State) → AllLead b rows → slice_get rows s ≡ Some row → RowLeads (deep (b + s)) row
  leads_at b s [] row h e = cc
  leads_at b zero (x ∷ rows) row h e =
      let z : x ≡ row = cc in
      let q : b ≡ b + 0 = omega arith in
      subst (λ n. RowLeads (deep n) row) q (subst (λ y. RowLeads (deep b) y) z h.0)
  leads_at b (suc s) (x ∷ rows) row h e =
      let q : suc b + s ≡ b + suc s = omega arith in
      subst (λ n. RowLeads (deep n) row) q (leads_at (suc b) s rows row h.1 e)

pub are_depths : (rules : List Term) → AreDepths (automaton rules) (state_depth rules)
are_depths rules s i y h =
    let a = at_move (automaton rules) s i y (nth_at_zero (successors (graph_of (automaton rules)) s) i y h) in
    let all : AllLead (state_depth rules) 0 (automaton rules) =
    (lead_none (state_depth rules) 1, (lead_none (state_depth rules) 0, rules_lead (state_depth rules) rules 1 (λ k. two_on k) refl)) in
    let z : 0 + s ≡ s = omega arith in
    subst (λ x. state_depth rules x ≡ depth (state_depth rules s) (mark x ∷ [])) a.2
    (subst (λ n. state_depth rules (target (move_at (automaton rules) s i))
    ≡ depth (state_depth rules n) (mark (target (move_at (automaton rules) s i)) ∷ [])) z
    (leads_at (state_depth rules) 0 s (automaton rules) (moves (moves_at (automaton rules) s)) all a.0 (move_at (automaton rules) s i) a.1))
  where
    two_on : (k : ℕ) → state_depth rules (2 * 1 + k) ≡ depth_of_rules rules k
    two_on k = let q : 2 * 1 + k ≡ suc (suc k) = omega arith in ap (λ n. state_depth rules n) q
