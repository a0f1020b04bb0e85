-- What a kernel accepts: the first rule that has a tree for the word, and the least tree of that rule.
use Rattle.std.proofs.Common.{inl, inr, sym, ap, ap₂, ◌∙◌, subst, arith, append-nil, ⊎_elim}
use Rattle.std.proofs.lemmas.Bool.{cases_lt}
use Rattle.std.specs.Prelude.{◌≡◌, ℕ, ◌+◌, ◌*◌, ◌<◌, ◌≤◌, ◌⊎◌, List, [], ◌∷◌, ◌++◌, map, length, Option, Some, slice_get, refl}
use Rattle.lx_base.specs.Spelling.{spell}
use Rattle.lx_base.specs.declared.settings.Enc.{Enc}
use Rattle.lx_regex.specs.Automaton.{State, automaton, label, leaf, moves, target, unit_leaf}
use Rattle.lx_regex.specs.Cut.{rule_part}
use Rattle.lx_regex.specs.Dictionary.{IsBefore}
use Rattle.lx_regex.specs.Plain.{IsPlain}
use Rattle.lx_regex.specs.Reading.{IsReading, of_point, of_unit}
use Rattle.lx_regex.specs.Order.{greedy}
use Rattle.lx_regex.specs.Script.{Symbol, begins, choices, ends, leaf_choice, picks, reads, script, sets, units, unsets}
use Rattle.lx_regex.specs.Term.{Term}
use Rattle.lx_regex.specs.Tree.{Tree}
use Rattle.lx_regex.specs.Walk.{Walk, at_point, at_unit, mark, moved, stay, symbols}
use Rattle.lx_regex.proofs.Walks.Candidates.{plain_mark_back, plain_tail, unseen_label_back, unseen_mark_back}
use Rattle.lx_regex.proofs.KernelCuts.Cuts.{rule_positive, rule_stands}
use Rattle.lx_regex.proofs.Walks.Exchange.{plain_from}
use Rattle.lx_regex.proofs.Walks.Fronts.{DiffersBefore, before_self, choices_append, differs-before, units_code, units_reads}
use Rattle.lx_regex.proofs.KernelCuts.Kernels.{before_asym}
use Rattle.lx_regex.proofs.Walks.PlainWalk.{IsPlainList, IsUnseen, cut, plain_list, units_append, units_label, units_mark, walk_plain}
use Rattle.lx_regex.proofs.Walks.Readings.{code_some}
use Rattle.lx_regex.proofs.Walks.Scripts.{differs_is_before, in_none}
use Rattle.lx_regex.proofs.Walks.WholeWalk.{tree_of, walk_of}
use Rattle.lx_tnfa.specs.LeafReadings.{IsLeft, NumbersLeaves}
use Rattle.lx_tnfa.specs.DepthFirst.{Found, IsIn}
use Rattle.lx_tnfa.proofs.Searching.SimplePaths.{SimplePath}
use Rattle.lx_tnfa.proofs.Searching.SearchUnique.{IsBefore-cases}
use Rattle.lx_tdfa.specs.Accepts.{Accepts, first_end, none, some}
use Rattle.lx_tdfa.specs.Graph.{graph_of, path_symbols, rule_starts}
use Rattle.lx_tdfa.specs.Kernels.{Entry, Key, rule_of, segment_symbols}
use Rattle.lx_tdfa.proofs.WordKernels.CutRuns.{Avoided, Reached, last_unit, reach}
use Rattle.lx_tdfa.proofs.Walks.FirstEnds.{IsFirstEnd, IsFirstRun, accepts, first_end-is, refuses}
use Rattle.lx_tdfa.proofs.WordKernels.OrderedLists.{IsLesser}
use Rattle.lx_tdfa.proofs.Walks.PlacesRead.{start_has}
use Rattle.lx_tdfa.proofs.WordKernels.RunCuts.{IsRunOf, StandsAtState, begin_at_state, leaf_at_state, plain_on, run_in_leaf, run_rule, run_word}
use Rattle.lx_tdfa.proofs.WordKernels.RunOrder.{path_order, run_cases, run_order, run_same}
use Rattle.lx_tdfa.proofs.WordKernels.RunSteps.{AreFirstRuns}
use Rattle.lx_tdfa.proofs.Rules.StateOrder.{automaton_in_order}
use Rattle.lx_tdfa.proofs.Walks.StatePaths.{move_edge, no_edge, path_plain, path_symbols-append, path_symbols-units, path_walk}
use Rattle.lx_tdfa.proofs.Values.ValueSteps.{forwards}

unseen_front : (x : Symbol) (a b : List Symbol) → IsUnseen x (a ++ b) → IsUnseen x a
unseen_front x [] b h = tt
unseen_front x (begins p ∷ a) b h = (h.0, unseen_front x a b h.1)
unseen_front x (ends p ∷ a) b h = (h.0, unseen_front x a b h.1)
unseen_front x (reads p ∷ a) b h = tt
unseen_front x (sets p ∷ a) b h = unseen_front x a b h
unseen_front x (unsets p ∷ a) b h = unseen_front x a b h
unseen_front x (picks p ∷ a) b h = unseen_front x a b h

plain_front : (a b : List Symbol) → IsPlainList (a ++ b) → IsPlainList a
plain_front [] b h = tt
plain_front (begins p ∷ a) b h = (unseen_front (begins p) a b h.0, plain_front a b h.1)
plain_front (ends p ∷ a) b h = (unseen_front (ends p) a b h.0, plain_front a b h.1)
plain_front (reads p ∷ a) b h = plain_front a b h
plain_front (sets p ∷ a) b h = plain_front a b h
plain_front (unsets p ∷ a) b h = plain_front a b h
plain_front (picks p ∷ a) b h = plain_front a b h

-- a walk to the end without units is a path of the graph
module _ (enc : Enc) (states : List State) (z : slice_get states 0 ≡ Some (moves [])) where
  code_units : (s : ℕ) (r : State) (d : List Symbol) (us : List ℕ) (l : List Symbol) → IsReading enc r d us
      → units (mark s ∷ (d ++ (map reads us ++ l))) ≡ [] → ⊥
  code_units s r d us l c e =
      let k = code_some enc c in
      let h : k.0 ∷ (k.1 ++ units l) ≡ [] = ap (λ n. n ++ units l) (sym k.2) ∙ sym (units_code enc states s r d us l c) ∙ e in
      cc

  pub path_to_end : (avoided : List ℕ) {s : ℕ} → (W : Walk states 0 s) → (IsIn avoided 0 → ⊥) → units (symbols enc W []) ≡ []
      → Avoided enc states avoided (symbols enc W []) → IsPlainList (symbols enc W [])
      → (ws : List ℕ) × SimplePath (graph_of states) avoided s ws 0 × (symbols enc W [] ≡ path_symbols states s ws [])
  path_to_end avoided stay n q a p = ([], (n, refl), refl)
  path_to_end avoided (moved {state = s} ms m h i w) n q a p =
      let pm = plain_mark_back s (label m ++ symbols enc w []) p in
      let av : Avoided enc states (s ∷ avoided) (symbols enc w []) = λ x k. elim k [ inl j ↦ subst (λ y. IsUnseen (mark y) (symbols enc w [])) j (unseen_label_back (mark s) m (symbols enc w []) pm.0) | inr j ↦ unseen_label_back (mark x) m (symbols enc w []) (unseen_mark_back (mark x) s (label m ++ symbols enc w []) (a x j)).1 ] in
      let n' : IsIn (s ∷ avoided) 0 → ⊥ = λ k. elim k [ inl j ↦ zero_none j | inr j ↦ n j ] in
      let r = path_to_end (s ∷ avoided) w n' (sym (units_mark s _ ∙ units_label m _) ∙ q) av (plain_tail (label m) (symbols enc w []) pm.1) in
      let ed = move_edge states s ms m h i in (
        ed.0 ∷ r.0,
        ((λ k. (unseen_mark_back (mark s) s (label m ++ symbols enc w []) (a s k)).0 refl), (target m, ed.1, r.1)),
        ap (λ k. mark s ∷ (label m ++ k)) r.2 ∙ ap (λ k. mark s ∷ (label k ++ path_symbols states (target k) r.0 [])) (sym ed.2),
      )
    where
      zero_none : s ≡ 0 → ⊥
      zero_none e = let k : ms ≡ [] = cc (h, z, ap (slice_get states) e) in in_none ms k i
  path_to_end avoided (at_point {state = s} ranges c h i w) n q a p = absurd (code_units s (leaf ranges) (leaf_choice enc ranges c) (spell enc c) (symbols enc w []) (of_point c i) q)
  path_to_end avoided (at_unit {state = s} x h w) n q a p = absurd (code_units s unit_leaf [] (x ∷ []) (symbols enc w []) (of_unit x) q)

module _ (enc : Enc) (rules : List Term) (after : ℕ → ℕ → List ℕ) (added : ℕ → ℕ → ℕ → List Symbol) (number : ℕ → List Symbol → ℕ) (numbers : NumbersLeaves enc rules after added number) where
  -- a run that goes on to the end stands at a state of the table
  run_at_state : (w : List ℕ) (ks : List Key) (F : List Symbol) (p : ℕ) (ws : List ℕ)
      → IsRunOf enc rules after added number numbers w ks F p → SimplePath (graph_of (automaton rules)) [] p ws 0
      → StandsAtState enc rules after added number numbers (rule_of ks) F p
  run_at_state [] ks F p ws r s = begin_at_state enc rules after added number numbers ks F p r
  run_at_state (u ∷ w) ks F p ws r s =
      ⊎_elim (λ lt. leaf_at_state enc rules after added number numbers (rule_of ks) F p (run_in_leaf enc rules after added number numbers u w ks F p r) lt) (λ le. absurd (above ws s le)) (cases_lt p (length (automaton rules)))
    where
      above : (ws : List ℕ) → SimplePath (graph_of (automaton rules)) [] p ws 0 → length (automaton rules) ≤ p → ⊥
      above [] s le = let e : p ≡ 0 = s.1 in omega arith
      above (i ∷ ws) s le = no_edge (automaton rules) p i s.1.0 le s.1.1

  -- a run to the end is a plain tree
  pub run_tree : (w : List ℕ) (ks : List Key) (F : List Symbol) (p : ℕ) (ws : List ℕ)
      → IsRunOf enc rules after added number numbers w ks F p → SimplePath (graph_of (automaton rules)) [] p ws 0
      → (e : Term) × (t : Tree e) × (slice_get rules (rule_of ks) ≡ Some e) × (script enc (rule_part rules (rule_of ks)) t ≡ F ++ path_symbols (automaton rules) p ws []) × IsPlainList (F ++ path_symbols (automaton rules) p ws [])
  run_tree w ks F p ws r s =
      let states : List State = automaton rules in
      let Fr = run_at_state w ks F p ws r s in
      let e = run_rule enc rules after added number numbers w ks F p r in
      let a = path_walk enc states [] p ws 0 s stay in
      let b = Fr.resume a.0 in
      let t = tree_of enc states e.0 (rule_part rules (rule_of ks)) (rule_stands rules (rule_of ks) e.0 e.1) (rule_positive rules (rule_of ks)) refl b.0 in
      let pl : IsPlainList (path_symbols states p ws []) = plain_front (path_symbols states p ws []) (mark 0 ∷ []) (subst IsPlainList (path_symbols-append states p ws [] (mark 0 ∷ [])) (path_plain states [] (λ x. tt) tt [] p ws 0 s)) in
      (e.0, t.0, e.1, sym t.1 ∙ b.1 ∙ ap (λ n. F ++ n) a.1, plain_on F _ Fr.unit Fr.plain pl)

  pub record RunToEnd (w : List ℕ) (r : ℕ) (l : List Symbol) : Type 0 where
    pub keys : List Key
    pub front : List Symbol
    pub place : ℕ
    pub way : List ℕ
    pub run : IsRunOf enc rules after added number numbers w keys front place
    pub rule : rule_of keys ≡ r
    pub path : SimplePath (graph_of (automaton rules)) [] place way 0
    pub says : l ≡ front ++ path_symbols (automaton rules) place way []

  -- a plain walk of a rule is a run to the end
  pub walk_run : (w : List ℕ) (r : ℕ) (e : Term) → slice_get rules r ≡ Some e → (W : Walk (automaton rules) 0 (2 * rule_part rules r))
      → IsPlainList (symbols enc W []) → units (symbols enc W []) ≡ forwards w → RunToEnd w r (symbols enc W [])
  walk_run [] r e at W pl us =
      let x = path_to_end enc (automaton rules) refl [] W (λ m. m) us (λ x m. absurd m) pl in
      record { keys = record { way = []; pick = r } ∷ []; front = []; place = 2 * rule_part rules r; way = x.0; run = (refl, refl, start_has rules r e at, refl); rule = refl; path = x.1; says = x.2 }
  walk_run (u ∷ w) r e at W pl us =
      ⊎_elim
      (λ q. absurd (none (forwards w) (sym us ∙ q)))
      (λ l.
      let usE : units l.0 ≡ forwards (u ∷ w) = sym (append-nil (units l.0)) ∙ ap (λ n. units l.0 ++ n) (sym l.4) ∙ sym (units_append l.0 l.1) ∙ sym (ap units l.2) ∙ us in
      let A = reach enc rules after added number numbers u w r e at W l.0 l.1 l.3 usE l.2 pl in
      on l.0 l.1 l.2 (plain_tail l.0 l.1 (subst IsPlainList l.2 pl)) l.4 A A.left refl)
      (last_unit (symbols enc W []))
    where
      none : (l : List ℕ) → l ++ u ∷ [] ≡ [] → ⊥
      none [] e = cc
      none (x ∷ l) e = cc

      on : (E m : List Symbol) → symbols enc W [] ≡ E ++ m → IsPlainList m → units m ≡ []
          → (A : Reached enc rules after added number numbers (u ∷ w) r E m) → (l : List ℕ) → A.left ≡ l
          → RunToEnd (u ∷ w) r (symbols enc W [])
      on E m says pm q A [] d =
          let fits : IsLeft enc rules A.leaf A.tail [] = subst (λ n. IsLeft enc rules A.leaf A.tail n) d A.fits in
          let p : A.place ≡ A.leaf + 1 = A.numbered ∙ numbers.full A.leaf A.tail fits A.begun in
          let o : m ≡ symbols enc A.walk [] = A.on ∙ ap (λ n. map reads n ++ symbols enc A.walk []) d in
          let x = path_to_end enc (automaton rules) refl [] A.walk (λ m. m) (ap units (sym o) ∙ q) (λ x m. absurd m) (subst IsPlainList o pm) in
          record { keys = A.keys; front = E; place = A.leaf + 1; way = x.0; run = subst (λ n. IsRunOf enc rules after added number numbers (u ∷ w) A.keys E n) p A.run; rule = A.rule; path = x.1; says = says ∙ ap (λ n. E ++ n) (o ∙ x.2) }
      on E m says pm q A (y ∷ l) d =
          let h : y ∷ (l ++ units (symbols enc A.walk [])) ≡ [] = ap (λ n. n ++ units (symbols enc A.walk [])) (sym d) ∙ sym (units_reads A.left (symbols enc A.walk [])) ∙ sym (ap units A.on) ∙ q in
          cc

  pub tree_run : (w : List ℕ) (r : ℕ) (e : Term) → slice_get rules r ≡ Some e → (t : Tree e) → IsPlain (script enc (rule_part rules r) t)
      → units (script enc (rule_part rules r) t) ≡ forwards w → RunToEnd w r (script enc (rule_part rules r) t)
  tree_run w r e at t pl us =
      let a = walk_of enc (automaton rules) e (rule_part rules r) (rule_stands rules r e at) t in
      subst (λ n. RunToEnd w r n) a.1 (walk_run w r e at a.0 (plain_from _ (subst IsPlain (sym a.1) pl)) (ap units a.1 ∙ us))

  -- where a word has a tree it has a plain run
  pub plain_run : (w : List ℕ) (r : ℕ) (e : Term) → slice_get rules r ≡ Some e → (t : Tree e)
      → units (script enc (rule_part rules r) t) ≡ forwards w → (l : List Symbol) × RunToEnd w r l
  plain_run w r e at t us =
      let a = walk_of enc (automaton rules) e (rule_part rules r) (rule_stands rules r e at) t in
      let c = cut enc (automaton rules) 0 a.0 in
      (symbols enc c.walk [], walk_run w r e at c.walk (walk_plain enc (automaton rules) 0 c.walk c.plain) (c.same ∙ ap units a.1 ∙ us))

  -- a run to the end that no other comes before is not behind one of lesser choices, or of an earlier rule
  least_run : (w : List ℕ) (ks : List Key) (F : List Symbol) (p : ℕ) (ws : List ℕ) → IsRunOf enc rules after added number numbers w ks F p
      → SimplePath (graph_of (automaton rules)) [] p ws 0
      → IsFirstRun (graph_of (automaton rules)) after (segment_symbols rules added) (rule_starts rules) (0 ∷ []) w ks ws
      → (r : ℕ) (l : List Symbol) → RunToEnd w r l
      → (r < rule_of ks) ⊎ ((r ≡ rule_of ks) × IsBefore (choices l) (choices (F ++ path_symbols (automaton rules) p ws []))) → ⊥
  least_run w ks F p ws run path first r l o h = go (run_cases enc rules after added number numbers w o.keys ks o.front F o.place p o.run run)
    where
      states : List State
      states = automaton rules

      L : List Symbol
      L = F ++ path_symbols states p ws []

      -- a run that comes behind
      behind : (rule_of ks < r) ⊎ IsBefore (choices L) (choices l) → (rule_of ks ≤ r) → ⊥
      behind b le =
          ⊎_elim
          (λ lt. absurd (omega arith))
          (λ e. ⊎_elim (λ lt. let k : r ≡ rule_of ks = e.0 in absurd (omega arith)) (λ c. before_asym (choices L) (choices l) c e.1) b)
          h

      go : IsLesser o.keys ks ⊎ ((o.keys ≡ ks) ⊎ IsLesser ks o.keys) → ⊥
      go (inl a) = first o.keys o.front o.place o.way 0 o.run o.path (inl refl) (inl a)
      go (inr (inr a)) =
          ⊎_elim
          (λ lt. let k : rule_of ks < r = subst (λ n. rule_of ks < n) o.rule lt in behind (inl k) (omega arith))
          (λ s.
          let k : rule_of ks ≡ r = s.0 ∙ o.rule in
          let b : IsBefore (choices F ++ choices (path_symbols states p ws [])) (choices o.front ++ choices (path_symbols states o.place o.way [])) = differs-before (choices F) (choices o.front) _ _ s.1 in
          behind (inr (subst (λ n. IsBefore n (choices l)) (sym (choices_append F _)) (subst (λ n. IsBefore (choices F ++ choices (path_symbols states p ws [])) n) (sym (ap choices o.says ∙ choices_append o.front _)) b))) (omega arith))
          (run_order enc rules after added number numbers w ks o.keys F o.front p o.place run o.run a)
      go (inr (inl a)) =
          let i = run_same enc rules after added number numbers w ks o.front F o.place p (subst (λ n. IsRunOf enc rules after added number numbers w n o.front o.place) a o.run) run in
          let k : rule_of ks ≡ r = sym (ap rule_of a) ∙ o.rule in
          let path' : SimplePath (graph_of states) [] p o.way 0 = subst (λ n. SimplePath (graph_of states) [] n o.way 0) i.1 o.path in
          let e : l ≡ F ++ path_symbols states p o.way [] = o.says ∙ ap₂ (λ x y. x ++ path_symbols states y o.way []) i.0 i.1 in
          ⊎_elim
          (λ b. first o.keys o.front o.place o.way 0 o.run o.path (inl refl) (inr (a, b)))
          (λ s. ⊎_elim
          (λ d.
          let f : l ≡ L = e ∙ ap (λ n. F ++ path_symbols states p n []) d in
          ⊎_elim (λ lt. absurd (omega arith)) (λ c. before_self (choices L) (subst (λ n. IsBefore (choices n) (choices L)) f c.1)) h)
          (λ b.
          let so : DiffersBefore (choices (path_symbols states p ws [])) (choices (path_symbols states p o.way [])) = path_order states (automaton_in_order rules) [] [] p ws o.way 0 0 (λ i c x. x) path path' b [] [] in
          let c : IsBefore (choices F ++ choices (path_symbols states p ws [])) (choices F ++ choices (path_symbols states p o.way [])) = under (choices F) _ _ (differs_is_before _ _ so) in
          behind (inr (subst (λ n. IsBefore n (choices l)) (sym (choices_append F _)) (subst (λ n. IsBefore (choices F ++ choices (path_symbols states p ws [])) n) (sym (ap choices e ∙ choices_append F _)) c))) (omega arith))
          s)
          (IsBefore-cases o.way ws)
        where
          under : (a x y : List ℕ) → IsBefore x y → IsBefore (a ++ x) (a ++ y)
          under [] x y b = b
          under (z ∷ a) x y b = inr (refl, under a x y b)

  -- the first end is accepted
  pub accepts_right : (w : List ℕ) (es : List Entry)
      → AreFirstRuns (graph_of (automaton rules)) after (segment_symbols rules added) (rule_starts rules) w es
      → Accepts greedy enc rules (forwards w) es (first_end (graph_of (automaton rules)) (0 ∷ []) es)
  accepts_right w es K = go (first_end (graph_of (automaton rules)) (0 ∷ []) es) (first_end-is (graph_of (automaton rules)) after (segment_symbols rules added) (rule_starts rules) (0 ∷ []) w es K)
    where
      go : (o : Option Found)
          → IsFirstEnd (graph_of (automaton rules)) after (segment_symbols rules added) (rule_starts rules) (0 ∷ []) w es o
          → Accepts greedy enc rules (forwards w) es o
      go o (refuses h) = none (λ r e at t. let a = plain_run w r e at t.0 t.1 in h a.1.keys a.1.front a.1.place a.1.way 0 a.1.run a.1.path (inl refl))
      go o (accepts x i ws f c n run path m first) =
          let path0 : SimplePath (graph_of (automaton rules)) [] f.place ws 0 = subst (λ t. SimplePath (graph_of (automaton rules)) [] f.place ws t) (sym (zero_is m)) path in
          let T = run_tree w f.keys f.front f.place ws run path0 in
          let us : units (f.front ++ path_symbols (automaton rules) f.place ws []) ≡ forwards w = units_append f.front _ ∙ ap₂ (λ a b. a ++ b) (run_word enc rules after added number numbers w f.keys f.front f.place run) (path_symbols-units (automaton rules) f.place ws []) ∙ append-nil (forwards w) in
          some x i ws f c n (record {
            term = T.0;
            tree = T.1;
            at = T.2;
            says = T.3;
            least = record {
              yields = ap units T.3 ∙ us;
              plain = subst IsPlain (sym T.3) (plain_list _ T.4);
              least = λ other us' pl b. least_run w f.keys f.front f.place ws run path0 first (rule_of f.keys) (script enc (rule_part rules (rule_of f.keys)) other) (tree_run w (rule_of f.keys) T.0 T.2 other pl us') (inr (refl, subst (λ n. IsBefore (choices (script enc (rule_part rules (rule_of f.keys)) other)) (choices n)) T.3 b));
            };
            first = λ r' e lt at t. let a = plain_run w r' e at t.0 t.1 in least_run w f.keys f.front f.place ws run path0 first r' a.0 a.1 (inl lt);
          })
        where
          zero_is : {t : ℕ} → IsIn (0 ∷ []) t → 0 ≡ t
          zero_is (inl e) = e
          zero_is (inr k) = absurd k
