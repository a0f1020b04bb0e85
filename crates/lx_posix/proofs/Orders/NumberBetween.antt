-- The number of two cuts is the lesser of the numbers between, so a number for each two neighbours is enough.
use Rattle.lx_posix.proofs.Orders.Ordered.{Before, Order, Tied}
use Rattle.lx_posix.specs.Parting.{Event, Parting, Parts, by_digit, by_down, by_read, by_up, events, parts_here}
use Rattle.std.specs.Prelude.{◌≡◌, ℕ, suc, ◌-◌, ◌<◌, ◌≤◌, min, List, [], ◌∷◌, ◌++◌, length, nat_le, if◌then◌else◌, Some, slice_get, refl}
use Rattle.std.proofs.Common.{sym, ap, ◌∙◌, subst, arith, inl, inr, ⊎_elim, le-leb}
use Rattle.std.proofs.lemmas.Bool.{cases_lt, lt-leb}
use Rattle.lx_base.specs.declared.settings.Enc.{Enc}
use Rattle.lx_regex.specs.Term.{Term}
use Rattle.lx_regex.specs.Tree.{Tree}
use Rattle.lx_regex.specs.Cut.{Cut, rule_part}
use Rattle.lx_regex.specs.Script.{script, units}
use Rattle.lx_regex.specs.Posix.{Shape, Shapes, absent, leaf, inner, none, more, shape_of, size, sizes, shape_among}
use Rattle.lx_regex.proofs.PosixTrees.PosixShapes.{Same, kids, head, tail}
use Rattle.lx_regex.proofs.PosixTrees.PosixAhead.{Ahead, SameAmong, len, at_head, at_kids, at_tail}
use Rattle.lx_posix.proofs.Steps.OneMoreUnit.{Shared, any, level, SharedAmong, any_among, here, later, shared_of, shared_sym, shared_open}
use Rattle.lx_posix.proofs.Partings.Forks.{Fork, goes_on, tied, within, ForkAmong, child, in_head, behind_head, tick, leaf_longer, first_none, first_none_among, second_none, second_none_among, some_left}
use Rattle.lx_posix.proofs.Partings.Partings.{track}
use Rattle.lx_posix.proofs.Partings.ForkOfParting.{part_tree}
use Rattle.lx_posix.proofs.Steps.CommonWalk.{ahead_alike}
use Rattle.lx_posix.proofs.Partings.LeastNumber.{law_least}
use Rattle.lx_posix.proofs.Orders.PosixLaws.{at_all, no_parting}
use Rattle.lx_posix.proofs.Orders.NumberedOrder.{fork_alike, fork_among, tied_fork}
use Rattle.lx_posix.proofs.Orders.CutOrder.{order_of, tree_size}

-- how many positions are open when n units are read, and n is not 0
abbrev mutual
  pub opened : (n : ℕ) → Shape → ℕ
  opened n absent = 0
  opened n (leaf m) = tick n m 0
  opened n (inner ks) = tick n (sizes ks) (opened_among n ks)

  pub opened_among : (n : ℕ) → Shapes → ℕ
  opened_among n none = 0
  opened_among n (more s ks) = if nat_le n (size s) then opened n s else opened_among (n - size s) ks

pub tick_open : (n m h : ℕ) → n ≤ m → tick n m h ≡ suc h
tick_open n m h le = ap (λ b. if b then suc h else 0) (le-leb n m le)

pub head_open : (n : ℕ) (s : Shape) (ks : Shapes) → n ≤ size s → opened_among n (more s ks) ≡ opened n s
head_open n s ks le = ap (λ b. if b then opened n s else opened_among (n - size s) ks) (le-leb n (size s) le)

pub head_ended : (n : ℕ) (s : Shape) (ks : Shapes) → size s < n → opened_among n (more s ks) ≡ opened_among (n - size s) ks
head_ended n s ks lt = ap (λ b. if b then opened n s else opened_among (n - size s) ks) (lt-leb n (size s) lt)

-- where there is nothing nothing is shared
shared_none : {n : ℕ} {ks' : Shapes} {k : ℕ} → SharedAmong n none ks' k → k ≡ 0
shared_none any_among = refl
shared_none (here {k} c) =
    ⊎_elim
    (λ some. let o = (shared_open c some).0 in let x = o.0 in let y = o.1 in absurd (omega arith))
    (λ no. omega arith) (cases_lt 0 k)
shared_none (later x same c) = shared_none c

-- no more positions are shared than are open
mutual
  shared_bound : {n : ℕ} {s s' : Shape} {k : ℕ} → Shared n s s' k → k ≤ opened n s
  shared_bound any = omega arith
  shared_bound (level {s = absent} e o o' c) = let x = o.0 in let y = o.1 in absurd (omega arith)
  shared_bound (level {n} {s = leaf m} e o o' c) =
      let z = shared_none c in let y = tick_open n m 0 o.1 in omega arith
  shared_bound (level {n} {s = inner ks} e o o' c) =
      let z = among_bound c in let y = tick_open n (sizes ks) (opened_among n ks) o.1 in omega arith

  among_bound : {n : ℕ} {ks ks' : Shapes} {k : ℕ} → SharedAmong n ks ks' k → k ≤ opened_among n ks
  among_bound any_among = omega arith
  among_bound (here {ks = none} {ks'} c) = let z = shared_none {ks' = ks'} (here {ks = none} {ks' = ks'} c) in omega arith
  among_bound (here {n} {ks = more s ks} {k} c) =
      ⊎_elim
      (λ some. let o = (shared_open c some).0 in let z = shared_bound c in let y = head_open n s ks o.1 in omega arith)
      (λ no. omega arith) (cases_lt 0 k)
  among_bound (later {ks = none} x same c) = let z = shared_none c in omega arith
  among_bound (later {n} {ks = more s ks} x same c) = let z = among_bound c in let y = head_ended n s ks x in omega arith

pub first_bound : {n : ℕ} {s s' : Shape} {k : ℕ} → Ahead n s s' k → k ≤ opened n s
first_bound a = shared_bound (shared_of a)

pub second_bound : {n : ℕ} {s s' : Shape} {k : ℕ} → Ahead n s s' k → k ≤ opened n s'
second_bound a = shared_bound (shared_sym (shared_of a))

same_kids' : (n : ℕ) (s s' : Shape) → Same n s s' → SameAmong n (kids s) (kids s')
same_kids' n s s' same i q = sym (ap len (at_kids n s i q)) ∙ same (i ∷ q) ∙ ap len (at_kids n s' i q)

same_head : (n : ℕ) (ks ks' : Shapes) → SameAmong n ks ks' → Same n (head ks) (head ks')
same_head n ks ks' same q = sym (at_head n ks q) ∙ same 0 q ∙ at_head n ks' q

same_rest : (n : ℕ) (ks ks' : Shapes) → head ks ≡ head ks' → SameAmong n ks ks' → SameAmong (n - size (head ks)) (tail ks) (tail ks')
same_rest n ks ks' e same i q =
    sym (at_tail n ks i q) ∙ same (suc i) q ∙ at_tail n ks' i q ∙ ap (λ s. len (shape_among (n - size s) (tail ks') i q)) (sym e)

-- of two that are tied, all that is open is open where they part
mutual
  pub tie_opened : {n : ℕ} {s s' : Shape} {d : ℕ} → (f : Fork n s s' d) → Same n s s' → opened n s ≡ d
  tie_opened (goes_on {n} {m} {m'} l g) same = let z = leaf_longer n m m' g l in let y = same [] in absurd (omega arith)
  tie_opened (tied {n} {m} {m'} l z g) same = tick_open n m 0 (omega arith)
  tie_opened (within {s = absent} a b f) same = absurd (omega arith)
  tie_opened (within {n} {s = leaf m} {s'} a b f) same =
      let r = tie_among f (same_kids' n (leaf m) s' same) in
      let k = (fork_among f (same_kids' n (leaf m) s' same)).2 in absurd (omega arith)
  tie_opened (within {n} {s = inner ks} {s'} a b f) same =
      let r = tie_among f (same_kids' n (inner ks) s' same) in
      let k = fork_among f (same_kids' n (inner ks) s' same) in
      let k0 = k.0 in
      let k2 = k.2 in
      ⊎_elim
      (λ lt. let z = first_none_among f lt in absurd (omega arith))
      (λ ge. tick_open n (sizes ks) (opened_among n ks) ge ∙ ap (λ m. suc m) r) (cases_lt (sizes ks) n)

  tie_among : {n : ℕ} {ks ks' : Shapes} {d : ℕ} → (f : ForkAmong n ks ks' d) → SameAmong n ks ks' → opened_among n ks ≡ d
  tie_among (child {n} {ks} {ks'} a b) same = let z = same_head n ks ks' same [] in absurd (omega arith)
  tie_among (in_head {n} {ks = none} {ks'} f) same =
      let r = tie_opened f (same_head n none ks' same) in omega arith
  tie_among (in_head {n} {ks = more s ks} {ks'} f) same =
      let r = tie_opened f (same_head n (more s ks) ks' same) in
      let k = fork_alike f (same_head n (more s ks) ks' same) in
      let k0 = k.0 in
      let k2 = k.2 in
      ⊎_elim
      (λ lt. let z = first_none f lt in absurd (omega arith))
      (λ ge. head_open n s ks ge ∙ r) (cases_lt (size s) n)
  tie_among (behind_head {n} {ks = none} {ks'} e f) same =
      tie_among f (same_rest n none ks' e same)
  tie_among (behind_head {n} {ks = more s ks} {ks'} e f) same =
      let z = some_left f in head_ended n s ks (omega arith) ∙ tie_among f (same_rest n (more s ks) ks' e same)

mutual
  pub tie_other : {n : ℕ} {s s' : Shape} {d : ℕ} → (f : Fork n s s' d) → Same n s s' → opened n s' ≡ d
  tie_other (goes_on {n} {m} {m'} l g) same = let z = leaf_longer n m m' g l in let y = same [] in absurd (omega arith)
  tie_other (tied {n} {m} {m'} l z g) same = tick_open n m' 0 g
  tie_other (within {s' = absent} a b f) same = absurd (omega arith)
  tie_other (within {n} {s} {s' = leaf m} a b f) same =
      let r = other_among f (same_kids' n s (leaf m) same) in
      let k = (fork_among f (same_kids' n s (leaf m) same)).2 in absurd (omega arith)
  tie_other (within {n} {s} {s' = inner ks} a b f) same =
      let r = other_among f (same_kids' n s (inner ks) same) in
      let k = fork_among f (same_kids' n s (inner ks) same) in
      let k0 = k.1 in
      let k2 = k.2 in
      ⊎_elim
      (λ lt. let z = second_none_among f lt in absurd (omega arith))
      (λ ge. tick_open n (sizes ks) (opened_among n ks) ge ∙ ap (λ m. suc m) r) (cases_lt (sizes ks) n)

  other_among : {n : ℕ} {ks ks' : Shapes} {d : ℕ} → (f : ForkAmong n ks ks' d) → SameAmong n ks ks' → opened_among n ks' ≡ d
  other_among (child {n} {ks} {ks'} a b) same = let z = same_head n ks ks' same [] in absurd (omega arith)
  other_among (in_head {n} {ks} {ks' = none} f) same =
      let r = tie_other f (same_head n ks none same) in omega arith
  other_among (in_head {n} {ks} {ks' = more s ks'} f) same =
      let r = tie_other f (same_head n ks (more s ks') same) in
      let k = fork_alike f (same_head n ks (more s ks') same) in
      let k0 = k.1 in
      let k2 = k.2 in
      ⊎_elim
      (λ lt. let z = second_none f lt in absurd (omega arith))
      (λ ge. head_open n s ks' ge ∙ r) (cases_lt (size s) n)
  other_among (behind_head {n} {ks} {ks' = none} e f) same =
      other_among f (same_rest n ks none e same)
  other_among (behind_head {n} {ks} {ks' = more s ks'} e f) same =
      let z = some_left f in
      let w = ap size e in
      let y : n - size (head ks) ≡ n - size s = ap (λ m. n - m) w in
      head_ended n s ks' (omega arith) ∙ ap (λ m. opened_among m ks') (sym y) ∙ other_among f (same_rest n ks (more s ks') e same)

parting_on : {n d D a a' E c c' : ℕ} {l l' l'' : List Event} → Parting n d l l' D a a' → Parting n d l' l'' E c c' → Parts n d l l''
parting_on (parts_here lt) (parts_here lt') = (_, _, _, parts_here (omega arith))
parting_on (parts_here lt) (by_digit e r) = (_, _, _, parts_here (omega arith))
parting_on (by_digit e r) (parts_here lt) = (_, _, _, parts_here (omega arith))
parting_on (by_digit e r) (by_digit e' r') = let q = parting_on r r' in (q.0, q.1, q.2, by_digit (e ∙ e') q.3)
parting_on (by_down r) (by_down r') = let q = parting_on r r' in (q.0, q.1, q.2, by_down q.3)
parting_on (by_up r) (by_up r') = let q = parting_on r r' in (q.0, q.1, q.2, by_up q.3)
parting_on (by_read r) (by_read r') = let q = parting_on r r' in (q.0, q.1, q.2, by_read q.3)

module _ (enc : Enc) {e : Term} (p : ℕ) where
  -- tied trees have a fork, above which k positions are open
  pub fork_of : (n k : ℕ) (t t' : Tree e) → Tied enc p n t t' k → Fork n (shape_of enc t) (shape_of enc t') k
  fork_of n k t t' a =
      ⊎_elim
      (λ b. let x = b.2 in let z : b.0 ≡ k = omega arith in subst (λ m. Fork n (shape_of enc t) (shape_of enc t') m) z b.1)
      (λ b. absurd (no_parting b.2))
      (part_tree enc t t' n 0 k k k [] [] (subst (λ x. Parting n 0 x (track enc t' []) k k k) (at_all enc p t t' t) (subst (λ x. Parting n 0 (events (script enc p t)) x k k k) (at_all enc p t t' t') a.1)))

  order_at : (n k m : ℕ) (t t' : Tree e) → k ≡ m → Order enc p n t t' k → Order enc p n t t' m
  order_at n k m t t' z o = subst (λ x. Order enc p n t t' x) z o

  pub order_between : (n k m : ℕ) (t t' t'' : Tree e) → 0 < n → n ≤ size (shape_of enc t) → n ≤ size (shape_of enc t'')
      → Order enc p n t t' k → Order enc p n t' t'' m → Order enc p n t t'' (min k m)
  order_between n k m t t' t'' z l l' (inl a) (inl b) = inl (law_least a b)
  order_between n k m t t' t'' z l l' (inl a) (inr b) =
      let x = second_bound a in
      let y = tie_opened (fork_of n m t' t'' b) b.0 in
      order_at n k (min k m) t t'' (omega arith) (inl (ahead_alike (λ q. refl) b.0 a))
  order_between n k m t t' t'' z l l' (inr a) (inl b) =
      let x = first_bound b in
      let y = tie_other (fork_of n k t t' a) a.0 in
      order_at n m (min k m) t t'' (omega arith) (inl (ahead_alike (λ q. sym (a.0 q)) (λ q. refl) b))
  order_between n k m t t' t'' z l l' (inr a) (inr b) =
      let r = parting_on a.1 b.1 in
      let tie = tied_fork enc p n r.0 r.1 r.2 t t'' z l l' (λ q. a.0 q ∙ b.0 q) r.3 in
      let x = tie_opened (fork_of n k t t' a) a.0 in
      let x' = tie_other (fork_of n k t t' a) a.0 in
      let y = tie_opened (fork_of n m t' t'' b) b.0 in
      let w = tie_opened (fork_of n r.0 t t'' tie) tie.0 in
      order_at n r.0 (min k m) t t'' (omega arith) (inr tie)

module _ (enc : Enc) (rules : List Term) where
  -- Of three cuts of one word in order the number of the outer two is the lesser of the two numbers between.
  pub number_between : (i j k : Cut) (n m : ℕ) → 0 < length (units i.front) → units i.front ≡ units j.front → units j.front ≡ units k.front
      → Before enc rules i j n → Before enc rules j k m → Before enc rules i k (min n m)
  number_between i j k n m some u v b c =
      let p = rule_part rules i.rule in
      let o = ap (λ x. slice_get rules x) b.one_rule ∙ c.of_rule in
      let z : b.term ≡ c.term = let s : Some b.term ≡ Some c.term = sym b.of_rule ∙ o in cc in
      let first =
      subst (λ g. (t : Tree g) × (script enc p t ≡ i.front ++ b.rest)) z (b.tree, b.goes) in
      let f : script enc p c.tree ≡ j.front ++ c.rest = ap (λ r. script enc (rule_part rules r) c.tree) b.one_rule ∙ c.goes in
      let g : script enc p c.other_tree ≡ k.front ++ c.other_rest = ap (λ r. script enc (rule_part rules r) c.other_tree) b.one_rule ∙ c.other_goes in
      let one = order_of enc rules i j n b u c.term o first.0 c.tree b.rest c.rest first.1 f in
      let two : Order enc p (length (units i.front)) c.tree c.other_tree m =
      subst
      (λ x. Order enc p x c.tree c.other_tree m) (ap length (sym u))
      (subst (λ r. Order enc (rule_part rules r) (length (units j.front)) c.tree c.other_tree m) (sym b.one_rule) c.order) in
      let l1 = tree_size enc rules p first.0 i.front b.rest first.1 in
      let l2 = tree_size enc rules p c.other_tree k.front c.other_rest g in
      let uv = ap length (u ∙ v) in
      record {
        term = c.term;
        tree = first.0;
        other_tree = c.other_tree;
        rest = b.rest;
        other_rest = c.other_rest;
        of_rule = o;
        one_rule = b.one_rule ∙ c.one_rule;
        goes = first.1;
        other_goes = g;
        order = order_between enc p (length (units i.front)) n m first.0 c.tree c.other_tree some l1 (omega arith) one two;
      }
