-- Each move of the automaton of a rule list leads to one of its states, and each rule begins at one.
use Rattle.std.proofs.Common.{subst, arith, length-append}
use Rattle.std.specs.Prelude.{◌≡◌, ℕ, zero, suc, ◌+◌, ◌*◌, ◌<◌, ◌≤◌, List, [], ◌∷◌, ◌++◌, length, Some, slice_get, refl}
use Rattle.lx_regex.specs.Automaton.{Move, State, automaton, final, moves, rules_table, table, target}
use Rattle.lx_regex.specs.Cut.{rule_part}
use Rattle.lx_regex.specs.Term.{Term, parts}
use Rattle.lx_regex.specs.Walk.{IsAmong, first, next}
use Rattle.lx_regex.proofs.PartTables.Rows.{table_length}
use Rattle.lx_regex.proofs.KernelCuts.RuleCuts.{AllTo, RowTo, Spans, row_stands, table_to}
use Rattle.lx_regex.proofs.Walks.WholeWalk.{stands_all}
use Rattle.lx_tnfa.specs.LeafReadings.{IsNth}
use Rattle.lx_tnfa.specs.DepthFirst.{successors}
use Rattle.lx_tnfa.proofs.Searching.SimplePaths.{IsAt}
use Rattle.lx_tnfa.proofs.Searching.SearchBasics.{IsAt-row}
use Rattle.lx_tdfa.specs.Graph.{graph_of, move_at, moves_at, rule_starts}
use Rattle.lx_tdfa.proofs.Walks.PlacesRead.{start_is}
use Rattle.lx_tdfa.proofs.Rules.StateOrder.{some_parts}
use Rattle.lx_tdfa.proofs.Walks.StatePaths.{at_move, graph_of-length}

module _ (P : ℕ → Type 0) where
  to_append : (a b : List State) → AllTo P a → AllTo P b → AllTo P (a ++ b)
  to_append [] b x y = y
  to_append (r ∷ a) b x y = (x.0, to_append a b x.1 y)

  to_one : (x : Move) → P (target x) → RowTo P (moves (x ∷ []))
  to_one x h m first = h
  to_one x h m (next i) = elim i [ ]

  narrow : (p n q k : ℕ) → p ≤ q → q + k ≤ p + n → Spans P p n → Spans P q k
  narrow p n q k a b h x l u = h x (omega arith) (omega arith)

-- so many parts have all rules together
abbrev pub rules_parts : List Term → ℕ
rules_parts [] = 0
rules_parts (e ∷ rules) = parts e + rules_parts rules

rules_length : (rules : List Term) (p : ℕ) → length (rules_table rules p) ≡ 2 * rules_parts rules
rules_length [] p = refl
rules_length (e ∷ rules) p = omega (arith, length-append (table e p final) (rules_table rules (p + parts e)), table_length e p final, rules_length rules (p + parts e))

rules_to : (P : ℕ → Type 0) (rules : List Term) (p : ℕ) → P 0 → Spans P p (rules_parts rules) → AllTo P (rules_table rules p)
rules_to P [] p z h = tt
rules_to P (e ∷ rules) p z h =
    to_append P (table e p final) (rules_table rules (p + parts e))
    (table_to P e p final (narrow P p (parts e + rules_parts rules) p (parts e) (omega arith) (omega arith) h) (to_one P _ z))
    (rules_to P rules (p + parts e) z (narrow P p (parts e + rules_parts rules) (p + parts e) (rules_parts rules) (omega arith) (omega arith) h))

pub moves_stay_within : (rules : List Term) (s i c : ℕ) → IsAt 0 (successors (graph_of (automaton rules)) s) i c → c < length (automaton rules)
moves_stay_within rules s i c a =
    let P : ℕ → Type 0 = λ x. x < length (automaton rules) in
    let states : List State = automaton rules in
    let n : length (rules_table rules 1) ≡ 2 * rules_parts rules = rules_length rules 1 in
    let m = at_move states s i c a in
    let k : s < length (graph_of states) = IsAt-row (graph_of states) s 0 i c a in
    let l : length (graph_of states) ≡ length states = graph_of-length states in
    let all : AllTo P states = (none, (none, rules_to P rules 1 (omega arith) (λ x u v. below x (rules_table rules 1) (rules_parts rules) n v))) in
    let t = row_stands P states 0 states s (moves (moves_at states s)) (stands_all states []) all (omega arith) (omega arith) m.0 (move_at states s i) m.1 in
    subst P m.2 t
  where
    none : (m : Move) → IsAmong m [] → target m < length (automaton rules)
    none m j = elim j [ ]

    below : (x : ℕ) (rows : List State) (n : ℕ) → length rows ≡ 2 * n → x < 2 * (1 + n) → x < suc (suc (length rows))
    below x rows n e l = omega arith

pub rules_begin_within : (rules : List Term) (i q : ℕ) → IsNth (rule_starts rules) i q → q < length (automaton rules)
rules_begin_within rules i q h =
    let s = start_is rules i q h in
    let k : rule_part rules i < 1 + rules_parts rules = below rules i s.0 s.1 in
    let n : length (rules_table rules 1) ≡ 2 * rules_parts rules = rules_length rules 1 in
    let e : q ≡ 2 * rule_part rules i = s.2 in
    fit (rules_table rules 1) (rule_part rules i) (rules_parts rules) n k e
  where
    below : (rules : List Term) (i : ℕ) (e : Term) → slice_get rules i ≡ Some e → rule_part rules i < 1 + rules_parts rules
    below [] i e h = cc
    below (x ∷ rules) zero e h = let k : 0 < parts x = some_parts x in omega arith
    below (x ∷ rules) (suc i) e h = let k : rule_part rules i < 1 + rules_parts rules = below rules i e h in omega arith

    fit : (rows : List State) (p n : ℕ) → length rows ≡ 2 * n → p < 1 + n → q ≡ 2 * p → q < suc (suc (length rows))
    fit rows p n a b c = omega arith
