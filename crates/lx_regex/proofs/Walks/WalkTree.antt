-- A walk through a part goes through the script of a tree.
use Rattle.std.specs.Prelude.{◌≡◌, ℕ, zero, suc, ◌+◌, ◌*◌, ◌<◌, ◌≤◌, List, [], ◌∷◌, ◌++◌, map, Option, Some, None, Bool, true, false, nat_le, nat_eq, if◌then◌else◌, slice_get, refl}
use Rattle.std.proofs.Common.{sym, ap, ap₂, ◌∙◌, subst, arith, append_assoc, append-nil, leb-true, ltb-true}
use Rattle.lx_base.specs.declared.settings.Enc.{Enc}
use Rattle.lx_base.specs.Spelling.{spell}
use Rattle.lx_regex.specs.Automaton.{Move, State, moves_after, member_moves, alternatives_table, copies_table, label, leaf, moves, unit_leaf, iteration_moves, next_member, members_table, table, target}
use Rattle.lx_regex.specs.Script.{Symbol, begins, choice_script, copy_part, ends, iterate_choice, leaf_choice, may_iterate, merge_tags, picks, chosen_place, reads, iterations_script, row_script, script, sets, tags_among, tags_beside, tags_in, unsets}
use Rattle.lx_regex.specs.Term.{IsAtMost, IsInRanges, Term, Terms, parts_of_all, alt, any_unit, cat, class, cons, copies, empty, group, nil, parts, repeat, tag}
use Rattle.lx_regex.specs.Tree.{Choice, Iterations, Row, Tree, blank, beside, chosen, row_end, event, here, inside, later, point, iteration, iterations, row, stop, unit}
use Rattle.lx_regex.specs.Walk.{IsAmong, Walk, at_point, at_unit, first, mark, moved, next, stay, symbols}
use Rattle.lx_regex.proofs.PartTables.Rows.{copy_stands, copy_within, mark_begins, mark_ends, stands_front, Stands}
use Rattle.lx_regex.proofs.Walks.TreeWalk.{exit_row, inner_rows, member_back, iteration_label, iteration_move, stop_label, stop_move}

-- how many steps a walk has
abbrev pub steps : {states : List State} {last_state s : ℕ} → Walk states last_state s → ℕ
steps stay = 0
steps (moved ms m h i w) = suc (steps w)
steps (at_point ranges c h i w) = suc (steps w)
steps (at_unit u h w) = suc (steps w)

-- the last state of a walk isn't one of a part and what is inside, n parts in all
abbrev pub IsOutside : (last_state p n : ℕ) → Type 0
IsOutside last_state p n = 2 * p ≤ last_state → last_state < 2 * (p + n) → ⊥

below_high : (n : ℕ) (high : Option ℕ) → may_iterate n high ≡ true → IsAtMost (suc n) high
below_high n None e = tt
below_high n (Some high) e = ltb-true n high e

none_first : (high : Option ℕ) → IsAtMost 0 high
none_first None = tt
none_first (Some high) = omega arith

copy_outside : (last_state p : ℕ) (body : Term) (low : ℕ) (high : Option ℕ) (n : ℕ) → may_iterate n high ≡ true
    → IsOutside last_state p
    (1 + copies low high * parts body) → IsOutside last_state (copy_part p body low high n) (parts body)
copy_outside last_state p body low high n may out a b =
    let h = copy_within p body low high n may in
    out (omega arith) (omega arith)

module _ (enc : Enc) (states : List State) (last_state : ℕ) (tail : List Symbol) where
  -- the symbols l are front and those of a walk from s, which has fewer than n steps
  pub record Onward (front : List Symbol) (s : ℕ) (l : List Symbol) (n : ℕ) : Type 0 where
    pub walk : Walk states last_state s
    pub says : l ≡ front ++ symbols enc walk tail
    pub shorter : steps walk < n

  -- the same by one of some moves
  pub record Leaves (front : List Symbol) (ms : List Move) (l : List Symbol) (n : ℕ) : Type 0 where
    pub by : Move
    pub among : IsAmong by ms
    pub walk : Walk states last_state (target by)
    pub says : l ≡ front ++ (label by ++ symbols enc walk tail)
    pub shorter : steps walk < n

  -- the symbols of a tree, and those from one of the exits on
  pub record Split (e : Term) (p : ℕ) (exits : List Move) (l : List Symbol) (n : ℕ) : Type 0 where
    pub tree : Tree e
    pub by : Move
    pub among : IsAmong by exits
    pub walk : Walk states last_state (target by)
    pub says : l ≡ script enc p tree ++ (label by ++ symbols enc walk tail)
    pub shorter : steps walk < n

  -- the first step, by the row
  leave_moves : {s : ℕ} → (w : Walk states last_state s) → (ms : List Move) → slice_get states s ≡ Some (moves ms)
      → (s ≡ last_state → ⊥)
      → Leaves (mark s ∷ []) ms (symbols enc w tail) (steps w)
  leave_moves stay ms h out = absurd (out refl)
  leave_moves (moved ms' m h' i w) ms h out =
      let e : ms' ≡ ms = cc in
      record { by = m; among = subst (λ k. IsAmong m k) e i; walk = w; says = refl; shorter = omega arith }
  leave_moves (at_point ranges c h' i w) ms h out = cc
  leave_moves (at_unit u h' w) ms h out = cc

  record LeavesLeaf (s : ℕ) (ranges : List (ℕ × ℕ)) (l : List Symbol) (n : ℕ) : Type 0 where
    at : ℕ
    within : IsInRanges ranges at
    walk : Walk states last_state (s + 1)
    says : l ≡ mark s ∷ (leaf_choice enc ranges at ++ (map reads (spell enc at) ++ symbols enc walk tail))
    shorter : steps walk < n

  leave_leaf : {s : ℕ} → (w : Walk states last_state s) → (ranges : List (ℕ × ℕ)) → slice_get states s ≡ Some (leaf ranges)
      → (s ≡ last_state → ⊥)
      → LeavesLeaf s ranges (symbols enc w tail) (steps w)
  leave_leaf stay ranges h out = absurd (out refl)
  leave_leaf (moved ms m h' i w) ranges h out = cc
  leave_leaf (at_point {state = s} ranges' c h' i w) ranges h out =
      let e : ranges' ≡ ranges = cc in
      record {
        at = c;
        within = subst (λ k. IsInRanges k c) e i;
        walk = w;
        says = ap (λ k. mark s ∷ (leaf_choice enc k c ++ (map reads (spell enc c) ++ symbols enc w tail))) e;
        shorter = omega arith;
      }
  leave_leaf (at_unit u h' w) ranges h out = cc

  record LeavesUnit (s : ℕ) (l : List Symbol) (n : ℕ) : Type 0 where
    at : ℕ
    walk : Walk states last_state (s + 1)
    says : l ≡ mark s ∷ reads at ∷ symbols enc walk tail
    shorter : steps walk < n

  leave_unit :
      {s : ℕ} →
      (w : Walk states last_state s) → slice_get states s ≡ Some unit_leaf → (s ≡ last_state → ⊥) → LeavesUnit s
      (symbols enc w tail) (steps w)
  leave_unit stay h out = absurd (out refl)
  leave_unit (moved ms m h' i w) h out = cc
  leave_unit (at_point ranges c h' i w) h out = cc
  leave_unit (at_unit u h' w) h out = record { at = u; walk = w; says = refl; shorter = omega arith }

  -- the only move
  pub only :
      (front : List Symbol) (m by : Move) → IsAmong by (m ∷ []) → (w : Walk states last_state (target by)) → (l : List Symbol) (n : ℕ)
      → l ≡ front ++ (label by ++ symbols enc w tail) → steps w < n → Onward (front ++ label m) (target m) l n
  only front m by first w l n e lt =
      record { walk = w; says = e ∙ sym (append_assoc front (label m) (symbols enc w tail)); shorter = lt }
  only front m by (next i) w l n e lt = elim i [ ]

  only_of : (front : List Symbol) (m : Move) (l : List Symbol) (n : ℕ) → Leaves front (m ∷ []) l n
      → Onward (front ++ label m) (target m) l n
  only_of front m l n r = only front m r.by r.among r.walk l n r.says r.shorter

  -- from the beginning of a part by the only move of its first row
  begin_only : (p : ℕ) (m : Move) → slice_get states (2 * p) ≡ Some (moves (m ∷ [])) → (2 * p ≡ last_state → ⊥)
      → (w : Walk states last_state (2 * p))
      → Onward (begins p ∷ label m) (target m) (symbols enc w tail) (steps w)
  begin_only p m h out w =
      let r = only_of (mark (2 * p) ∷ []) m _ _ (leave_moves w (m ∷ []) h out) in
      record {
        walk = r.walk;
        says = r.says ∙ ap (λ x. x ∷ (label m ++ symbols enc r.walk tail)) (mark_begins p);
        shorter = r.shorter;
      }

  -- the end of a part, and an exit
  finish : (e : Term) (p : ℕ) (exits : List Move) → Stands states (2 * p) (table e p exits) → (2 * p + 1 ≡ last_state → ⊥)
      → (t : Tree e) (front : List Symbol) → script enc p t ≡ front ++ ends p ∷ [] → (l : List Symbol) (n : ℕ)
      → Onward front (2 * p + 1) l n → Split e p exits l n
  finish e p exits h out t front is l n r =
      let a = leave_moves r.walk exits (exit_row states e p exits h) out in
      record {
        tree = t;
        by = a.by;
        among = a.among;
        walk = a.walk;
        says =
            r.says
            ∙ ap (λ k. front ++ k) (a.says ∙ ap (λ x. x ∷ (label a.by ++ symbols enc a.walk tail)) (mark_ends p))
            ∙ sym (append_assoc front (ends p ∷ []) (label a.by ++ symbols enc a.walk tail))
            ∙ ap (λ k. k ++ (label a.by ++ symbols enc a.walk tail)) (sym is);
        shorter = omega (arith, a.shorter, r.shorter);
      }

  record RowSplit (members : Terms) (q last : ℕ) (l : List Symbol) (n : ℕ) : Type 0 where
    trees : Row members
    walk : Walk states last_state last
    says : l ≡ row_script enc q trees ++ symbols enc walk tail
    shorter : steps walk ≤ n

  record ChoiceSplit (members : Terms) (i q last : ℕ) (join : List ℕ → List ℕ) (l : List Symbol) (n : ℕ) : Type 0 where
    choice : Choice members
    walk : Walk states last_state last
    says :
        l ≡ picks
        (i + chosen_place choice) ∷
        (map unsets (join (tags_beside choice)) ++ (choice_script enc q choice ++ symbols enc walk tail))
    shorter : steps walk ≤ n

  record RepeatSplit (p : ℕ) (body : Term) (low : ℕ) (high : Option ℕ) (begun : ℕ) (l : List Symbol) (n : ℕ) : Type 0 where
    count : ℕ
    trees : Iterations body count
    least : low ≤ begun + count
    most : IsAtMost (begun + count) high
    walk : Walk states last_state (2 * p + 1)
    says : l ≡ iterations_script enc p low high begun trees ++ symbols enc walk tail
    shorter : steps walk ≤ n

  module _
      (p : ℕ) (body : Term) (low : ℕ) (high : Option ℕ)
      (ih :
      (q : ℕ) (ms : List Move) → Stands states (2 * q) (table body q ms) → IsOutside last_state q (parts body) →
      (w : Walk states last_state (2 * q))
      → Split body q ms (symbols enc w tail) (steps w))
      (h : Stands states (2 * (p + 1)) (copies_table (λ q ms. table body q ms) p body low high (copies low high) 0))
      (out : IsOutside last_state p (1 + copies low high * parts body)) where
    repeat_stop :
        (n : ℕ) (may : Bool) → may_iterate n high ≡ may → nat_le low n ≡ true → IsAtMost n high → (w : Walk states last_state (2 * p + 1))
        → RepeatSplit p body low high n
        (label (stop_move may (if nat_eq n 0 then tags_in body else []) (2 * p + 1)) ++ symbols enc w tail) (steps w)
    repeat_stop n may e1 e2 most w =
        let le : low ≤ n = leb-true low n e2 in
        let z : n ≡ n + 0 = omega arith in
        record {
          count = 0;
          trees = stop;
          least = omega arith;
          most = subst (λ k. IsAtMost k high) z most;
          walk = w;
          says =
              stop_label may (nat_eq n 0) (tags_in body) (2 * p + 1) (symbols enc w tail)
              ∙ ap
              (λ b.
              ((if b then picks 1 ∷ [] else []) ++ (if nat_eq n 0 then map unsets (tags_in body) else [])) ++ symbols enc w tail)
              (sym e1);
          shorter = omega arith;
        }

    repeat_iteration : (n fuel : ℕ) (enough : Bool) → may_iterate n high ≡ true → nat_le low n ≡ enough
        → ((m : Move) → IsAmong m (moves_after p body low high (suc n)) → (w : Walk states last_state (target m))
        → steps w < fuel → RepeatSplit p body low high (suc n) (label m ++ symbols enc w tail) (steps w))
        → (w : Walk states last_state (2 * copy_part p body low high n)) → steps w < suc fuel
        → RepeatSplit p body low high n
        (label (iteration_move enough (2 * copy_part p body low high n)) ++ symbols enc w tail) (steps w)
    repeat_iteration n fuel enough e1 e2 more w lt =
        let cp = copy_part p body low high n in
        let s =
        ih cp
        (moves_after p body low high (suc n)) (copy_stands states p body low high n e1 h)
        (copy_outside last_state p body low high n e1 out) w in
        let r = more s.by s.among s.walk (omega (arith, s.shorter)) in
        let c : suc n + r.count ≡ n + suc r.count = omega arith in
        record {
          count = suc r.count;
          trees = iteration s.tree r.trees;
          least = omega (arith, r.least);
          most = subst (λ k. IsAtMost k high) c r.most;
          walk = r.walk;
          says =
              iteration_label enough (2 * cp) (symbols enc w tail)
              ∙ ap (λ b. (if b then picks 0 ∷ [] else []) ++ symbols enc w tail) (sym e2)
              ∙ ap (λ k. iterate_choice low n ++ k) (s.says ∙ ap (λ k. script enc cp s.tree ++ k) r.says)
              ∙ sym (simp append_assoc);
          shorter = omega (arith, r.shorter, s.shorter);
        }

    repeat_step : (n fuel : ℕ) (may enough : Bool) → may_iterate n high ≡ may → nat_le low n ≡ enough → IsAtMost n high
        → ((m : Move) → may_iterate n high ≡ true → IsAmong m (moves_after p body low high (suc n))
        → (w : Walk states last_state (target m)) → steps w < fuel
        → RepeatSplit p body low high (suc n) (label m ++ symbols enc w tail) (steps w))
        → {m : Move}
        → IsAmong m (iteration_moves may enough (if nat_eq n 0 then tags_in body else []) (2 * copy_part p body low high n) (2 * p + 1))
        → (w : Walk states last_state (target m)) → steps w < suc fuel
        → RepeatSplit p body low high n (label m ++ symbols enc w tail) (steps w)
    repeat_step n fuel true true e1 e2 most more first w lt = repeat_iteration n fuel true e1 e2 (λ m. more m e1) w lt
    repeat_step n fuel true true e1 e2 most more (next first) w lt = repeat_stop n true e1 e2 most w
    repeat_step n fuel true true e1 e2 most more (next (next i)) w lt = elim i [ ]
    repeat_step n fuel true false e1 e2 most more first w lt = repeat_iteration n fuel false e1 e2 (λ m. more m e1) w lt
    repeat_step n fuel true false e1 e2 most more (next i) w lt = elim i [ ]
    repeat_step n fuel false true e1 e2 most more first w lt = repeat_stop n false e1 e2 most w
    repeat_step n fuel false true e1 e2 most more (next i) w lt = elim i [ ]
    repeat_step n fuel false false e1 e2 most more i w lt = elim i [ ]

    repeat_split :
        (fuel n : ℕ) → IsAtMost n high → (m : Move) → IsAmong m (moves_after p body low high n) → (w : Walk states last_state (target m))
        → steps w < fuel → RepeatSplit p body low high n (label m ++ symbols enc w tail) (steps w)
    repeat_split zero n most m i w lt = absurd (omega arith)
    repeat_split (suc fuel) n most m i w lt =
        repeat_step n fuel
        (may_iterate n high) (nat_le low n) refl refl most
        (λ m' may i' w' lt'. repeat_split fuel (suc n) (below_high n high may) m' i' w' lt') i w lt

  mutual
    pub split :
        (e : Term) (p : ℕ) (exits : List Move) → Stands states (2 * p) (table e p exits) → IsOutside last_state p (parts e)
        → (w : Walk states last_state (2 * p)) → Split e p exits (symbols enc w tail) (steps w)
    split empty p exits h out w =
        finish empty p exits h
        (λ e. out (omega arith) (omega arith)) blank (begins p ∷ []) refl _ _
        (begin_only p _ h.0 (λ e. out (omega arith) (omega arith)) w)
    split (class ranges) p exits h out w =
        let r = leave_leaf w ranges h.0 (λ e. out (omega arith) (omega arith)) in
        let front = begins p ∷ (leaf_choice enc ranges r.at ++ map reads (spell enc r.at)) in
        finish
        (class ranges) p exits h (λ e. out (omega arith) (omega arith)) (point r.at r.within) front
        (sym (simp append_assoc)) _ _ (record {
          walk = r.walk;
          says =
              r.says
              ∙ ap
              (λ x. x ∷ (leaf_choice enc ranges r.at ++ (map reads (spell enc r.at) ++ symbols enc r.walk tail)))
              (mark_begins p)
              ∙ sym (simp append_assoc);
          shorter = r.shorter;
        })
    split any_unit p exits h out w =
        let r = leave_unit w h.0 (λ e. out (omega arith) (omega arith)) in
        finish any_unit p exits h
        (λ e. out (omega arith) (omega arith)) (unit r.at) (begins p ∷ reads r.at ∷ []) refl _ _ (record {
          walk = r.walk;
          says = r.says ∙ ap (λ x. x ∷ reads r.at ∷ symbols enc r.walk tail) (mark_begins p);
          shorter = r.shorter;
        })
    split (cat members) p exits h out w =
        let a = begin_only p _ h.0 (λ e. out (omega arith) (omega arith)) w in
        let r =
        row_split members
        (p + 1) (2 * p + 1) (inner_rows states p _ _ _ h) (λ b c. out (omega arith) (omega arith)) a.walk in
        finish
        (cat members) p exits h (λ e. out (omega arith) (omega arith)) (row r.trees)
        (begins p ∷ row_script enc (p + 1) r.trees) refl _ _ (record {
          walk = r.walk;
          says = a.says ∙ ap (λ k. begins p ∷ k) r.says;
          shorter = omega (arith, r.shorter, a.shorter);
        })
    split (alt members) p exits h out w =
        let a = leave_moves w _ h.0 (λ e. out (omega arith) (omega arith)) in
        let r =
        choice_split members 0
        (p + 1) (2 * p + 1) (λ ts. ts) (inner_rows states p _ _ _ h)
        (λ b c. out (omega arith) (omega arith)) a.among a.walk in
        let e : 0 + chosen_place r.choice ≡ chosen_place r.choice = omega arith in
        let front =
        begins p ∷ picks
        (chosen_place r.choice) ∷ (map unsets (tags_beside r.choice) ++ choice_script enc (p + 1) r.choice) in
        finish
        (alt members) p exits h (λ e. out (omega arith) (omega arith)) (chosen r.choice) front
        (sym (simp append_assoc)) _ _ (record {
          walk = r.walk;
          says =
              a.says ∙ ap₂ (λ x k. x ∷ k) (mark_begins p) r.says
              ∙ ap (λ k. begins p ∷ picks k ∷ (map unsets (tags_beside r.choice) ++ (choice_script enc (p + 1) r.choice ++ symbols enc r.walk tail))) e
              ∙ sym (simp append_assoc);
          shorter = omega (arith, r.shorter, a.shorter);
        })
    split (repeat body low high) p exits h out w =
        let a = leave_moves w _ h.0 (λ e. out (omega arith) (omega arith)) in
        let r =
        repeat_split p body low high
        (λ q ms. split body q ms) (inner_rows states p _ _ _ h) out (steps w) 0
        (none_first high) a.by a.among a.walk a.shorter in
        let e : 0 + r.count ≡ r.count = omega arith in
        finish
        (repeat body low high) p exits h (λ e. out (omega arith) (omega arith))
        (iterations r.count r.trees (omega (arith, r.least)) (subst (λ k. IsAtMost k high) e r.most))
        (begins p ∷ iterations_script enc p low high 0 r.trees) refl _ _ (record {
          walk = r.walk;
          says = a.says ∙ ap₂ (λ x k. x ∷ k) (mark_begins p) r.says;
          shorter = omega (arith, r.shorter, a.shorter);
        })
    split (tag t) p exits h out w =
        finish
        (tag t) p exits h (λ e. out (omega arith) (omega arith)) event (begins p ∷ sets t ∷ []) refl _ _
        (begin_only p _ h.0 (λ e. out (omega arith) (omega arith)) w)
    split (group opening closing body) p exits h out w =
        let a = begin_only p _ h.0 (λ e. out (omega arith) (omega arith)) w in
        let s = split body (p + 1) _ (inner_rows states p _ _ _ h) (λ b c. out (omega arith) (omega arith)) a.walk in
        let o = only (script enc (p + 1) s.tree) _ s.by s.among s.walk _ _ s.says s.shorter in
        finish
        (group opening closing body) p exits h (λ e. out (omega arith) (omega arith)) (inside s.tree)
        (begins p ∷ sets opening ∷ (script enc (p + 1) s.tree ++ sets closing ∷ [])) (sym (simp append_assoc)) _ _
        (record {
          walk = o.walk;
          says = a.says ∙ ap (λ k. begins p ∷ sets opening ∷ k) o.says;
          shorter = omega (arith, o.shorter, a.shorter);
        })

    row_split : (members : Terms) (q last : ℕ) → Stands states (2 * q) (members_table members q last)
        → IsOutside last_state q (parts_of_all members) → (w : Walk states last_state (next_member q members last))
        → RowSplit members q last (symbols enc w tail) (steps w)
    row_split nil q last h out w = record { trees = row_end; walk = w; says = refl; shorter = omega arith }
    row_split (cons e members) q last h out w =
        let hf = stands_front states (2 * q) (table e q _) _ h in
        let s = split e q _ hf (λ b c. out (omega arith) (omega arith)) w in
        let o = only (script enc q s.tree) _ s.by s.among s.walk _ _ s.says s.shorter in
        let r =
        row_split members
        (q + parts e) last (member_back states q e _ _ h) (λ b c. out (omega arith) (omega arith)) o.walk in
        record {
          trees = beside s.tree r.trees;
          walk = r.walk;
          says = o.says ∙ ap (λ k. (script enc q s.tree ++ []) ++ k) r.says ∙ simp (append_assoc, append-nil);
          shorter = omega (arith, r.shorter, o.shorter);
        }

    choice_split :
        (members : Terms) (i q last : ℕ) (join : List ℕ → List ℕ) → Stands states (2 * q) (alternatives_table members q last)
        → IsOutside last_state q (parts_of_all members) → {m : Move} → IsAmong m (member_moves members i q join)
        → (w : Walk states last_state (target m))
        → ChoiceSplit members i q last join (label m ++ symbols enc w tail) (steps w)
    choice_split nil i q last join h out a w = elim a [ ]
    choice_split (cons e members) i q last join h out first w =
        let hf = stands_front states (2 * q) (table e q _) _ h in
        let s = split e q _ hf (λ b c. out (omega arith) (omega arith)) w in
        let o = only (script enc q s.tree) _ s.by s.among s.walk _ _ s.says s.shorter in
        let z : i ≡ i + 0 = omega arith in
        record {
          choice = here s.tree;
          walk = o.walk;
          says =
              ap₂
              (λ n k. picks n ∷ (map unsets (join (tags_among members)) ++ k)) z
              (o.says ∙ ap (λ k. k ++ symbols enc o.walk tail) (append-nil (script enc q s.tree)));
          shorter = omega (arith, o.shorter);
        }
    choice_split (cons e members) i q last join h out (next a) w =
        let r =
        choice_split members
        (suc i) (q + parts e) last (λ ts. join (merge_tags (tags_in e) ts)) (member_back states q e _ _ h)
        (λ b c. out (omega arith) (omega arith)) a w in
        let n : suc i + chosen_place r.choice ≡ i + suc (chosen_place r.choice) = omega arith in
        record {
          choice = later r.choice;
          walk = r.walk;
          says =
              r.says
              ∙ ap (λ k. picks k ∷ (map unsets (join (merge_tags (tags_in e) (tags_beside r.choice))) ++ (choice_script enc (q + parts e) r.choice ++ symbols enc r.walk tail))) n;
          shorter = r.shorter;
        }
