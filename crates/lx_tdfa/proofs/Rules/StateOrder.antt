-- The moves of each state stand in the order of their choices, and rules begin at different states.
use Rattle.std.proofs.Common.{sym, ap, ◌∙◌, arith}
use Rattle.std.specs.Prelude.{◌≡◌, ℕ, zero, suc, ◌+◌, ◌*◌, ◌<◌, ◌≤◌, List, [], ◌∷◌, ◌++◌, map, Option, Some, Bool, true, false, refl}
use Rattle.lx_regex.specs.Automaton.{Move, State, alternatives_table, automaton, copies_table, final, iteration_moves, leaf, member_moves, members_table, move, moves, moves_after, rules_table, table, target, unit_leaf}
use Rattle.lx_regex.specs.Script.{may_iterate, merge_tags, tags_in}
use Rattle.lx_regex.specs.Term.{Term, Terms, alt, any_unit, cat, class, cons, copies, empty, group, nil, parts, repeat, tag}
use Rattle.lx_regex.proofs.Walks.Clear.{picked}
use Rattle.lx_regex.proofs.PartTables.PartLists.{parts_positive}
use Rattle.lx_tnfa.specs.LeafReadings.{IsNth}
use Rattle.lx_tnfa.specs.DepthFirst.{successors}
use Rattle.lx_tdfa.specs.Graph.{graph_of, move_at, nth_move, rule_starts, starts_behind}
use Rattle.lx_tdfa.proofs.WordKernels.OrderedLists.{IsRising, at_zero_nth, each_from, member_nth}
use Rattle.lx_tdfa.proofs.Walks.StatePaths.{MovesInOrder}

pub some_parts : (e : Term) → 0 < parts e
some_parts e = let one = parts_positive e in omega arith

starts_above : (c : ℕ) (rules : List Term) (i q : ℕ) → IsNth (starts_behind c rules) i q → 2 * (c + 1) ≤ q
starts_above c [] i q h = absurd h
starts_above c (e ∷ rules) zero q h = omega (arith, h)
starts_above c (e ∷ rules) (suc i) q h = let k : 2 * (c + parts e + 1) ≤ q = starts_above (c + parts e) rules i q h in omega arith

apart_from : (c : ℕ) (rules : List Term) → IsRising (λ a b. a ≡ b → ⊥) (starts_behind c rules)
apart_from c [] = tt
apart_from c (e ∷ rules) = (
  each_from (λ b. 2 * (c + 1) ≡ b → ⊥) (starts_behind (c + parts e) rules) (λ b m k.
      let n = member_nth (starts_behind (c + parts e) rules) b m in
      let h : 2 * (c + parts e + 1) ≤ b = starts_above (c + parts e) rules n.0 b n.1 in
      let p : 0 < parts e = some_parts e in
      omega arith),
  apart_from (c + parts e) rules,
)

pub rule_starts-apart : (rules : List Term) → IsRising (λ a b. a ≡ b → ⊥) (rule_starts rules)
rule_starts-apart rules = apart_from 0 rules

-- moves in the order of their choices
abbrev pub AreInOrder : List Move → Type 0
AreInOrder ms = (i j : ℕ) (m n : Move) → IsNth ms i m → IsNth ms j n → i < j → (a b : ℕ) × (picked m ≡ Some a) × (picked n ≡ Some b) × (a < b)

none_in_order : AreInOrder []
none_in_order i j m n h k l = absurd h

one_in_order : (x : Move) → AreInOrder (x ∷ [])
one_in_order x i zero m n h k l = absurd (omega arith)
one_in_order x i (suc j) m n h k l = absurd k

two_in_order : (s s' t t' : List ℕ) (p q : ℕ) → AreInOrder (move (Some 0) s t p ∷ move (Some 1) s' t' q ∷ [])
two_in_order s s' t t' p q i zero m n h k l = absurd (omega arith)
two_in_order s s' t t' p q zero (suc zero) m n h k l = (0, 1, sym (ap picked h), sym (ap picked k), omega arith)
two_in_order s s' t t' p q (suc i) (suc zero) m n h k l = absurd (omega arith)
two_in_order s s' t t' p q i (suc (suc j)) m n h k l = absurd k

iteration_in_order : (may enough : Bool) (tags : List ℕ) (copy last : ℕ) → AreInOrder (iteration_moves may enough tags copy last)
iteration_in_order true true tags copy last = two_in_order [] [] [] tags copy last
iteration_in_order true false tags copy last = one_in_order _
iteration_in_order false true tags copy last = one_in_order _
iteration_in_order false false tags copy last = none_in_order

after_in_order : (p : ℕ) (body : Term) (low : ℕ) (high : Option ℕ) (n : ℕ) → AreInOrder (moves_after p body low high n)
after_in_order p body low high n = iteration_in_order (may_iterate n high) _ _ _ _

member_pick : (members : Terms) (i q : ℕ) (f : List ℕ → List ℕ) (k : ℕ) (m : Move) → IsNth (member_moves members i q f) k m → picked m ≡ Some (i + k)
member_pick nil i q f k m h = absurd h
member_pick (cons e members) i q f zero m h = let z : i ≡ i + 0 = omega arith in sym (ap picked h) ∙ ap Some z
member_pick (cons e members) i q f (suc k) m h = let z : suc i + k ≡ i + suc k = omega arith in member_pick members (suc i) (q + parts e) (λ ts. f (merge_tags (tags_in e) ts)) k m h ∙ ap Some z

members_in_order : (members : Terms) (i q : ℕ) (f : List ℕ → List ℕ) → AreInOrder (member_moves members i q f)
members_in_order members i q f k j m n h h' l = (i + k, i + j, member_pick members i q f k m h, member_pick members i q f j n h', omega arith)

abbrev pub IsInOrder : State → Type 0
IsInOrder (moves ms) = AreInOrder ms
IsInOrder (leaf ranges) = Unit {0}
IsInOrder unit_leaf = Unit {0}

abbrev pub AllInOrder : List State → Type 0
AllInOrder [] = Unit {0}
AllInOrder (r ∷ rows) = IsInOrder r × AllInOrder rows

in_order_append : (a b : List State) → AllInOrder a → AllInOrder b → AllInOrder (a ++ b)
in_order_append [] b x y = y
in_order_append (r ∷ a) b x y = (x.0, in_order_append a b x.1 y)

copies_in_order : (rows : ℕ → List Move → List State) (p : ℕ) (body : Term) (low : ℕ) (high : Option ℕ) (n c : ℕ)
    → ((q : ℕ) (ms : List Move) → AreInOrder ms → AllInOrder (rows q ms)) → AllInOrder (copies_table rows p body low high n c)
copies_in_order rows p body low high zero c h = tt
copies_in_order rows p body low high (suc n) c h = in_order_append (rows (p + 1 + c * parts body) (moves_after p body low high (suc c))) (copies_table rows p body low high n (suc c)) (h _ _ (after_in_order p body low high (suc c))) (copies_in_order rows p body low high n (suc c) h)

mutual
  table_in_order : (e : Term) (p : ℕ) (ms : List Move) → AreInOrder ms → AllInOrder (table e p ms)
  table_in_order empty p ms h = (one_in_order _, (h, tt))
  table_in_order (class ranges) p ms h = (tt, (h, tt))
  table_in_order any_unit p ms h = (tt, (h, tt))
  table_in_order (cat members) p ms h = (one_in_order _, (h, members_table_in_order members (p + 1) (2 * p + 1)))
  table_in_order (alt members) p ms h = (members_in_order members 0 (p + 1) (λ ts. ts), (h, alternatives_in_order members (p + 1) (2 * p + 1)))
  table_in_order (repeat body low high) p ms h = (after_in_order p body low high 0, (h, copies_in_order (λ q ms. table body q ms) p body low high (copies low high) 0 (λ q ms k. table_in_order body q ms k)))
  table_in_order (tag t) p ms h = (one_in_order _, (h, tt))
  table_in_order (group opening closing body) p ms h = (one_in_order _, (h, table_in_order body (p + 1) _ (one_in_order _)))

  members_table_in_order : (members : Terms) (q last : ℕ) → AllInOrder (members_table members q last)
  members_table_in_order nil q last = tt
  members_table_in_order (cons e members) q last = in_order_append (table e q _) (members_table members (q + parts e) last) (table_in_order e q _ (one_in_order _)) (members_table_in_order members (q + parts e) last)

  alternatives_in_order : (members : Terms) (q last : ℕ) → AllInOrder (alternatives_table members q last)
  alternatives_in_order nil q last = tt
  alternatives_in_order (cons e members) q last = in_order_append (table e q _) (alternatives_table members (q + parts e) last) (table_in_order e q _ (one_in_order _)) (alternatives_in_order members (q + parts e) last)

rules_in_order : (rules : List Term) (p : ℕ) → AllInOrder (rules_table rules p)
rules_in_order [] p = tt
rules_in_order (e ∷ rules) p = in_order_append (table e p final) (rules_table rules (p + parts e)) (table_in_order e p final (one_in_order _)) (rules_in_order rules (p + parts e))

nth_moves : (ms : List Move) (i c : ℕ) → IsNth (map target ms) i c → IsNth ms i (nth_move ms i)
nth_moves [] i c h = absurd h
nth_moves (m ∷ ms) zero c h = refl
nth_moves (m ∷ ms) (suc i) c h = nth_moves ms i c h

in_order_at : (states : List State) → AllInOrder states → (s i j c d : ℕ) → IsNth (successors (graph_of states) s) i c
    → IsNth (successors (graph_of states) s) j d → i < j
    → (a b : ℕ) × (picked (move_at states s i) ≡ Some a) × (picked (move_at states s j) ≡ Some b) × (a < b)
in_order_at [] al s i j c d h k l = absurd h
in_order_at (moves ms ∷ states) al zero i j c d h k l = al.0 i j (nth_move ms i) (nth_move ms j) (nth_moves ms i c h) (nth_moves ms j d k) l
in_order_at (leaf ranges ∷ states) al zero i j c d h k l = absurd h
in_order_at (unit_leaf ∷ states) al zero i j c d h k l = absurd h
in_order_at (r ∷ states) al (suc s) i j c d h k l = in_order_at states al.1 s i j c d h k l

pub automaton_in_order : (rules : List Term) → MovesInOrder (automaton rules)
automaton_in_order rules s i j c d h k l = in_order_at (automaton rules) (none_in_order, (none_in_order, rules_in_order rules 1)) s i j c d (at_zero_nth _ i c h) (at_zero_nth _ j d k) l
