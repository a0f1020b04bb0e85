-- A tree gives a walk with its script.
use Rattle.std.specs.Prelude.{◌≡◌, ℕ, suc, ◌+◌, ◌*◌, ◌≤◌, List, [], ◌∷◌, ◌++◌, map, length, Option, Some, None, Bool, true, false, nat_le, nat_eq, if◌then◌else◌, slice_get, refl}
use Rattle.std.proofs.Common.{sym, ap, ap₂, ◌∙◌, subst, arith, append_assoc, le-leb, lt-ltb}
use Rattle.lx_base.specs.declared.settings.Enc.{Enc}
use Rattle.lx_base.specs.Spelling.{spell}
use Rattle.lx_regex.specs.Automaton.{Move, State, moves_after, member_moves, alternatives_table, copies_table, label, move, moves, iteration_moves, next_member, members_table, table, target}
use Rattle.lx_regex.specs.Script.{Symbol, begins, choice_script, copy_part, ends, iterate_choice, leaf_choice, may_iterate, merge_tags, picks, chosen_place, reads, iterations_script, row_script, script, sets, tags_among, tags_beside, tags_in, unsets}
use Rattle.lx_regex.specs.Term.{IsAtMost, Term, Terms, alt, any_unit, cat, class, copies, empty, group, parts, repeat, tag}
use Rattle.lx_regex.specs.Tree.{Choice, Iterations, Row, Tree, blank, beside, chosen, row_end, event, here, inside, later, point, iteration, iterations, row, stop, unit}
use Rattle.lx_regex.specs.Walk.{IsAmong, Walk, at_point, at_unit, first, moved, next, symbols}
use Rattle.lx_regex.proofs.PartTables.Rows.{copy_stands, mark_begins, mark_ends, stands_at, stands_back, stands_front, table_length, Stands}

-- the row at the end of a part
pub exit_row : (states : List State) (e : Term) (p : ℕ) (exits : List Move) → Stands states (2 * p) (table e p exits)
    → slice_get states (2 * p + 1) ≡ Some (moves exits)
exit_row states empty p exits h = h.1.0
exit_row states (class ranges) p exits h = h.1.0
exit_row states any_unit p exits h = h.1.0
exit_row states (cat members) p exits h = h.1.0
exit_row states (alt members) p exits h = h.1.0
exit_row states (repeat body low high) p exits h = h.1.0
exit_row states (tag t) p exits h = h.1.0
exit_row states (group opening closing body) p exits h = h.1.0

-- the rows of what is inside
pub inner_rows : (states : List State) (p : ℕ) (r x : State) (rows : List State) → Stands states (2 * p) (r ∷ x ∷ rows)
    → Stands states (2 * (p + 1)) rows
inner_rows states p r x rows h = let e : 2 * p + 1 + 1 ≡ 2 * (p + 1) = omega arith in stands_at states _ _ rows e h.1.1

-- the rows of a first member, and those of the others
pub member_back :
    (states : List State) (q : ℕ) (e : Term) (ms : List Move) (rows : List State) → Stands states (2 * q) (table e q ms ++ rows)
    → Stands states (2 * (q + parts e)) rows
member_back states q e ms rows h =
    let len : 2 * q + length (table e q ms) ≡ 2 * (q + parts e) = omega (arith, table_length e q ms) in
    stands_back states (2 * q) (2 * (q + parts e)) (table e q ms) rows len h

abbrev pub stop_move : Bool → List ℕ → ℕ → Move
stop_move may tags last = move (if may then Some 1 else None) [] tags last

abbrev pub iteration_move : Bool → ℕ → Move
iteration_move enough copy = move (if enough then Some 0 else None) [] [] copy

stop_among : (may enough : Bool) (tags : List ℕ) (copy last : ℕ) → enough ≡ true
    → IsAmong (stop_move may tags last) (iteration_moves may enough tags copy last)
stop_among true true tags copy last e = next first
stop_among false true tags copy last e = first
stop_among may false tags copy last e = cc

iteration_among : (may enough : Bool) (tags : List ℕ) (copy last : ℕ) → may ≡ true
    → IsAmong (iteration_move enough copy) (iteration_moves may enough tags copy last)
iteration_among true true tags copy last e = first
iteration_among true false tags copy last e = first
iteration_among false enough tags copy last e = cc

pub stop_label : (may n0 : Bool) (tags : List ℕ) (last : ℕ) (tail : List Symbol)
    → label
    (stop_move may (if n0 then tags else []) last) ++ tail ≡
    ((if may then picks 1 ∷ [] else []) ++ (if n0 then map unsets tags else [])) ++ tail
stop_label true true tags last tail = refl
stop_label true false tags last tail = refl
stop_label false true tags last tail = refl
stop_label false false tags last tail = refl

pub iteration_label : (enough : Bool) (copy : ℕ) (tail : List Symbol)
    → label (iteration_move enough copy) ++ tail ≡ (if enough then picks 0 ∷ [] else []) ++ tail
iteration_label true copy tail = refl
iteration_label false copy tail = refl

more_may : (n k : ℕ) (high : Option ℕ) → IsAtMost (n + suc k) high → may_iterate n high ≡ true
more_may n k None h = refl
more_may n k (Some high) h = lt-ltb n high (omega arith)

module _ (enc : Enc) (states : List State) (last_state : ℕ) (tail : List Symbol) where
  -- a walk from a state whose symbols, followed by the tail, are these
  pub record Tells (s : ℕ) (l : List Symbol) : Type 0 where
    pub walk : Walk states last_state s
    pub says : symbols enc walk tail ≡ l

  -- a move among some and a walk on from it
  pub record Enters (ms : List Move) (l : List Symbol) : Type 0 where
    pub by : Move
    pub among : IsAmong by ms
    pub walk : Walk states last_state (target by)
    pub says : label by ++ symbols enc walk tail ≡ l

  tells : (s : ℕ) (l l' : List Symbol) → l ≡ l' → Tells s l → Tells s l'
  tells s l l' e t = record { walk = t.walk; says = t.says ∙ e }

  -- out of a part by one of its exits
  pub leave :
      (e : Term) (p : ℕ) (exits : List Move) (l : List Symbol) → Stands states (2 * p) (table e p exits) → Enters exits l
      → Tells (2 * p + 1) (ends p ∷ l)
  leave e p exits l h r = record {
    walk = moved exits r.by (exit_row states e p exits h) r.among r.walk;
    says = ap₂ (λ x k. x ∷ k) (mark_ends p) r.says;
  }

  -- into a part by one of the moves of its first row
  enter : (p : ℕ) (ms : List Move) (l : List Symbol) → slice_get states (2 * p) ≡ Some (moves ms) → Enters ms l
      → Tells (2 * p) (begins p ∷ l)
  enter p ms l h r = record {
    walk = moved ms r.by h r.among r.walk;
    says = ap₂ (λ x k. x ∷ k) (mark_begins p) r.says;
  }

  pub by_only : (m : Move) (s : ℕ) (l : List Symbol) → target m ≡ s → Tells s l → Enters (m ∷ []) (label m ++ l)
  by_only m s l e t =
      let t' = subst (λ n. Tells n l) (sym e) t in
      record { by = m; among = first; walk = t'.walk; says = ap (λ k. label m ++ k) t'.says }

  mutual
    pub tree_walk :
        {e : Term} →
        (t : Tree e) → (p : ℕ) (exits : List Move) → Stands states (2 * p) (table e p exits) → (z : List Symbol)
        → Tells (2 * p + 1) (ends p ∷ z) → Tells (2 * p) (script enc p t ++ z)
    tree_walk blank p exits h z v = enter p _ _ h.0 (by_only (move None [] [] (2 * p + 1)) _ _ refl v)
    tree_walk (point {ranges} c i) p exits h z v = record {
      walk = at_point ranges c h.0 i v.walk;
      says =
          ap₂ (λ x k. x ∷ (leaf_choice enc ranges c ++ (map reads (spell enc c) ++ k))) (mark_begins p) v.says
          ∙ sym (simp append_assoc);
    }
    tree_walk (unit u) p exits h z v = record {
      walk = at_unit u h.0 v.walk;
      says = ap₂ (λ x k. x ∷ reads u ∷ k) (mark_begins p) v.says;
    }
    tree_walk (row {members} ts) p exits h z v =
        let r = row_walk ts (p + 1) (2 * p + 1) (inner_rows states p _ _ _ h) (ends p ∷ z) v in
        tells
        (2 * p) _ _ (ap (λ k. begins p ∷ k) (sym (append_assoc (row_script enc (p + 1) ts) (ends p ∷ []) z)))
        (enter p _ _ h.0 (by_only (move None [] [] (next_member (p + 1) members (2 * p + 1))) _ _ refl r))
    tree_walk (chosen {members} c) p exits h z v =
        let r = choice_walk c 0 (p + 1) (2 * p + 1) (λ ts. ts) (inner_rows states p _ _ _ h) (ends p ∷ z) v in
        let e : 0 + chosen_place c ≡ chosen_place c = omega arith in
        tells
        (2 * p) _ _
        (ap (λ k. begins p ∷ picks k ∷ (map unsets (tags_beside c) ++ (choice_script enc (p + 1) c ++ ends p ∷ z))) e
        ∙ sym (simp append_assoc))
        (enter p _ _ h.0 r)
    tree_walk (iterations {body} {low} {high} n ts l most) p exits h z v =
        let e : n ≡ 0 + n = omega arith in
        let r =
        iterations_walk ts p low high 0
        (inner_rows states p _ _ _ h) (omega arith) (subst (λ k. IsAtMost k high) e most) (ends p ∷ z) v in
        tells
        (2 * p) _ _ (ap (λ k. begins p ∷ k) (sym (append_assoc (iterations_script enc p low high 0 ts) (ends p ∷ []) z)))
        (enter p _ _ h.0 r)
    tree_walk (event {number = t}) p exits h z v = enter p _ _ h.0 (by_only (move None (t ∷ []) [] (2 * p + 1)) _ _ refl v)
    tree_walk (inside {opening} {closing} {body} t) p exits h z v =
        let hb = inner_rows states p _ _ _ h in
        let v' = leave body (p + 1) _ _ hb (by_only (move None (closing ∷ []) [] (2 * p + 1)) _ _ refl v) in
        let r = tree_walk t (p + 1) _ hb _ v' in
        tells
        (2 * p) _ _
        (ap (λ k. begins p ∷ sets opening ∷ k) (sym (append_assoc (script enc (p + 1) t) (sets closing ∷ ends p ∷ []) z)))
        (enter p _ _ h.0 (by_only (move None (opening ∷ []) [] (2 * (p + 1))) _ _ refl r))

    pub row_walk :
        {members : Terms} → (ts : Row members) → (q last : ℕ) → Stands states (2 * q) (members_table members q last)
        → (z : List Symbol) → Tells last z → Tells (next_member q members last) (row_script enc q ts ++ z)
    row_walk row_end q last h z v = v
    row_walk (beside {member = e} {members} t ts) q last h z v =
        let hf = stands_front states (2 * q) (table e q _) _ h in
        let r = row_walk ts (q + parts e) last (member_back states q e _ _ h) z v in
        let v' = leave e q _ _ hf (by_only (move None [] [] (next_member (q + parts e) members last)) _ _ refl r) in
        tells
        (2 * q) _ _ (sym (append_assoc (script enc q t) (row_script enc (q + parts e) ts) z)) (tree_walk t q _ hf _ v')

    pub choice_walk : {members : Terms} → (c : Choice members) → (i q last : ℕ) (join : List ℕ → List ℕ)
        → Stands states (2 * q) (alternatives_table members q last) → (z : List Symbol) → Tells last z
        → Enters
        (member_moves members i q join)
        (picks (i + chosen_place c) ∷ (map unsets (join (tags_beside c)) ++ (choice_script enc q c ++ z)))
    choice_walk (here {member = e} {members} t) i q last join h z v =
        let hf = stands_front states (2 * q) (table e q _) _ h in
        let v' = leave e q _ _ hf (by_only (move None [] [] last) _ _ refl v) in
        let r = tree_walk t q _ hf _ v' in
        let e : i ≡ i + 0 = omega arith in
        record {
          by = move (Some i) [] (join (tags_among members)) (2 * q);
          among = first;
          walk = r.walk;
          says = ap₂ (λ n k. picks n ∷ (map unsets (join (tags_among members)) ++ k)) e r.says;
        }
    choice_walk (later {member = e} {members} c) i q last join h z v =
        let r =
        choice_walk c
        (suc i) (q + parts e) last (λ ts. join (merge_tags (tags_in e) ts)) (member_back states q e _ _ h) z v in
        let n : suc i + chosen_place c ≡ i + suc (chosen_place c) = omega arith in
        record {
          by = r.by;
          among = next r.among;
          walk = r.walk;
          says =
              r.says
              ∙ ap (λ k. picks k ∷ (map unsets (join (merge_tags (tags_in e) (tags_beside c))) ++ (choice_script enc (q + parts e) c ++ z))) n;
        }

    pub iterations_walk : {body : Term} {m : ℕ} → (ts : Iterations body m) → (p low : ℕ) (high : Option ℕ) (n : ℕ)
        → Stands states
        (2 * (p + 1)) (copies_table (λ q ms. table body q ms) p body low high (copies low high) 0) → low ≤ n + m
        → IsAtMost (n + m) high → (z : List Symbol) → Tells (2 * p + 1) z
        → Enters (moves_after p body low high n) (iterations_script enc p low high n ts ++ z)
    iterations_walk (stop {body}) p low high n h l most z v =
        record {
          by = stop_move (may_iterate n high) (if nat_eq n 0 then tags_in body else []) (2 * p + 1);
          among = stop_among (may_iterate n high) (nat_le low n) _ _ _ (le-leb low n (omega arith));
          walk = v.walk;
          says =
              stop_label (may_iterate n high) (nat_eq n 0) (tags_in body) (2 * p + 1) (symbols enc v.walk tail)
              ∙ ap (λ k. ((if may_iterate n high then picks 1 ∷ [] else []) ++ (if nat_eq n 0 then map unsets (tags_in body) else [])) ++ k) v.says;
        }
    iterations_walk (iteration {body} {count = m} t ts) p low high n h l most z v =
        let may = more_may n m high most in
        let e : n + suc m ≡ suc n + m = omega arith in
        let r = iterations_walk ts p low high (suc n) h (omega arith) (subst (λ k. IsAtMost k high) e most) z v in
        let hc = copy_stands states p body low high n may h in
        let w =
        tree_walk t
        (copy_part p body low high n) (moves_after p body low high (suc n)) hc _
        (leave body (copy_part p body low high n) (moves_after p body low high (suc n)) _ hc r) in
        record {
          by = iteration_move (nat_le low n) (2 * copy_part p body low high n);
          among = iteration_among (may_iterate n high) (nat_le low n) _ _ _ may;
          walk = w.walk;
          says =
              iteration_label (nat_le low n) (2 * copy_part p body low high n) (symbols enc w.walk tail)
              ∙ ap (λ k. iterate_choice low n ++ k) w.says ∙ sym (simp append_assoc);
        }
