-- No state has more moves than the automaton has states.
use Rattle.std.proofs.Common.{ap, arith, length-append, mul-le-mul_right}
use Rattle.std.proofs.lemmas.List.{length-map}
use Rattle.std.specs.Prelude.{◌≡◌, ℕ, zero, suc, ◌+◌, ◌*◌, ◌<◌, ◌≤◌, List, [], ◌∷◌, ◌++◌, Bool, true, false, None, Option, length, nat_eq, nat_le, if◌then◌else◌, refl}
use Rattle.lx_regex.specs.Automaton.{Move, State, alternatives_table, automaton, copies_table, final, iteration_moves, leaf, member_moves, members_table, move, moves, moves_after, next_member, rules_table, table, target, unit_leaf}
use Rattle.lx_regex.specs.Script.{copy_part, may_iterate, merge_tags, tags_in}
use Rattle.lx_regex.specs.Term.{Term, Terms, alt, any_unit, cat, class, cons, copies, empty, group, nil, parts, parts_of_all, repeat, tag}
use Rattle.lx_regex.proofs.PartTables.PartLists.{parts_positive}
use Rattle.lx_regex.proofs.PartTables.Rows.{table_length}
use Rattle.lx_tnfa.specs.DepthFirst.{successors}
use Rattle.lx_tnfa.specs.Live.{state_of}
use Rattle.lx_tnfa.specs.Moves.{moves_in}
use Rattle.lx_tnfa.specs.Rows.{RepresentEach}
use Rattle.lx_tnfa.specs.declared.classes.ClassGraph.{ClassGraph}
use Rattle.lx_tnfa.specs.declared.states.Move.{Move as HeldMove}
use Rattle.lx_tnfa.specs.declared.states.State.{State as HeldState}
use Rattle.lx_tnfa.proofs.Construction.WholeTable.{held_length}
use Rattle.lx_tdfa.specs.Graph.{graph_of, targets}
use Rattle.lx_tdfa.proofs.Rules.WithinStates.{rules_parts}
use Rattle.lx_posix.proofs.CodeSearch.HeldMoves.{successors_held}

members_few : (members : Terms) (i q : ℕ) (f : List ℕ → List ℕ) → length (member_moves members i q f) ≤ parts_of_all members
members_few nil i q f = omega arith
members_few (cons e members) i q f =
    omega (arith, parts_positive e, members_few members (suc i) (q + parts e) (λ tags. f (merge_tags (tags_in e) tags)))

rounds_few : (may enough : Bool) (tags : List ℕ) (copy last : ℕ) → length (iteration_moves may enough tags copy last) ≤ 2
rounds_few true true tags copy last = omega arith
rounds_few true false tags copy last = omega arith
rounds_few false true tags copy last = omega arith
rounds_few false false tags copy last = omega arith

-- no row has more than n moves
module _ (n : ℕ) (two : 2 ≤ n) where
  abbrev pub IsFew : State → Type 0
  IsFew (moves ms) = length ms ≤ n
  IsFew (leaf ranges) = Unit {0}
  IsFew unit_leaf = Unit {0}

  abbrev pub AreFew : List State → Type 0
  AreFew [] = Unit {0}
  AreFew (row ∷ rows) = IsFew row × AreFew rows

  few_append : (a b : List State) → AreFew a → AreFew b → AreFew (a ++ b)
  few_append [] b x y = y
  few_append (row ∷ a) b x y = (x.0, few_append a b x.1 y)

  one_few : 1 ≤ n
  one_few = omega arith

  after_few : (p : ℕ) (body : Term) (low : ℕ) (high : Option ℕ) (done : ℕ) → length (moves_after p body low high done) ≤ n
  after_few p body low high done =
      omega (
        arith,
        rounds_few (may_iterate done high) (nat_le low done) (if nat_eq done 0 then tags_in body else [])
            (2 * copy_part p body low high done) (2 * p + 1),
      )

  copies_few : (rows : ℕ → List Move → List State) (p : ℕ) (body : Term) (low : ℕ) (high : Option ℕ) (left number : ℕ)
      → (0 < left → (q : ℕ) (ms : List Move) → length ms ≤ n → AreFew (rows q ms)) → AreFew (copies_table rows p body low high left number)
  copies_few rows p body low high zero number f = tt
  copies_few rows p body low high (suc left) number f =
      few_append (rows (p + 1 + number * parts body) (moves_after p body low high (suc number)))
      (copies_table rows p body low high left (suc number))
      (f (omega arith) (p + 1 + number * parts body) (moves_after p body low high (suc number)) (after_few p body low high (suc number)))
      (copies_few rows p body low high left (suc number) (λ lt. f (omega arith)))

  mutual
    pub table_few : (e : Term) (p : ℕ) (ms : List Move) → parts e < n → length ms ≤ n → AreFew (table e p ms)
    table_few empty p ms lt le = (one_few, (le, tt))
    table_few (class ranges) p ms lt le = (tt, (le, tt))
    table_few any_unit p ms lt le = (tt, (le, tt))
    table_few (cat members) p ms lt le = (one_few, (le, row_few members (p + 1) (2 * p + 1) (omega arith)))
    table_few (alt members) p ms lt le =
        let few : length (member_moves members 0 (p + 1) (λ tags. tags)) ≤ parts_of_all members =
        members_few members 0 (p + 1) (λ tags. tags) in
        (omega arith, (le, alts_few members (p + 1) (2 * p + 1) (omega arith)))
    table_few (repeat body low high) p ms lt le = (
      after_few p body low high 0,
      (
        le,
        copies_few (λ q ns. table body q ns) p body low high (copies low high) 0
            (λ some q ns few. let h : 1 * parts body ≤ copies low high * parts body = mul-le-mul_right (parts body) some in
            table_few body q ns (omega arith) few),
      ),
    )
    table_few (tag number) p ms lt le = (one_few, (le, tt))
    table_few (group opening closing body) p ms lt le =
        (one_few, (le, table_few body (p + 1) (move None (closing ∷ []) [] (2 * p + 1) ∷ []) (omega arith) one_few))

    row_few : (members : Terms) (q last : ℕ) → parts_of_all members < n → AreFew (members_table members q last)
    row_few nil q last lt = tt
    row_few (cons e members) q last lt =
        few_append (table e q (move None [] [] (next_member (q + parts e) members last) ∷ [])) (members_table members (q + parts e) last)
        (table_few e q (move None [] [] (next_member (q + parts e) members last) ∷ []) (omega arith) one_few)
        (row_few members (q + parts e) last (omega arith))

    alts_few : (members : Terms) (q last : ℕ) → parts_of_all members < n → AreFew (alternatives_table members q last)
    alts_few nil q last lt = tt
    alts_few (cons e members) q last lt =
        few_append (table e q (move None [] [] last ∷ [])) (alternatives_table members (q + parts e) last)
        (table_few e q (move None [] [] last ∷ []) (omega arith) one_few)
        (alts_few members (q + parts e) last (omega arith))

  rules_few : (rules : List Term) (p : ℕ) → rules_parts rules < n → AreFew (rules_table rules p)
  rules_few [] p lt = tt
  rules_few (e ∷ rules) p lt =
      few_append (table e p final) (rules_table rules (p + parts e)) (table_few e p final (omega arith) one_few)
      (rules_few rules (p + parts e) (omega arith))

  row_targets : (row : State) → IsFew row → length (targets row) ≤ n
  row_targets (moves ms) le = omega (arith, le, length-map ms target)
  row_targets (leaf ranges) le = omega arith
  row_targets unit_leaf le = omega arith

  successors_few : (rows : List State) (s : ℕ) → AreFew rows → length (successors (graph_of rows) s) ≤ n
  successors_few [] s few = omega arith
  successors_few (row ∷ rows) zero few = row_targets row few.0
  successors_few (row ∷ rows) (suc s) few = successors_few rows s few.1

pub table_count : (rules : List Term) (p : ℕ) → length (rules_table rules p) ≡ 2 * rules_parts rules
table_count [] p = refl
table_count (e ∷ rules) p =
    omega
    (arith, length-append (table e p final) (rules_table rules (p + parts e)), table_length e p final, table_count rules (p + parts e))

automaton_few : (rules : List Term) (s : ℕ) → length (successors (graph_of (automaton rules)) s) ≤ length (automaton rules)
automaton_few rules s =
    let count : length (rules_table rules 1) ≡ 2 * rules_parts rules = table_count rules 1 in
    let all : length (automaton rules) ≡ 2 + length (rules_table rules 1) = omega arith in
    let two : 2 ≤ length (automaton rules) = omega arith in
    let n = length (automaton rules) in
    successors_few n two (automaton rules) s
    (omega arith, (omega arith, rules_few n two rules 1 (omega arith)))

pub moves_few : (classes : List ClassGraph) (rules : List Term) (states : List HeldState) (s : ℕ)
    → RepresentEach classes (automaton rules) states → length (moves_in (state_of states s)) ≤ length states
moves_few classes rules states s h =
    let few = automaton_few rules s in
    let same = ap length (successors_held classes (automaton rules) states s h) in
    let count = length-map (moves_in (state_of states s)) (λ (way : HeldMove). way.to) in
    let size = held_length classes (automaton rules) states h in
    omega (arith, few, same, count, size)
