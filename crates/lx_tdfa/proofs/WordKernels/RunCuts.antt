-- Each run of the automaton of places is a cut of its word.
use Rattle.std.proofs.Common.{inl, inr, sym, ap, ◌∙◌, subst, arith, append_assoc, ⊎_elim}
use Rattle.std.proofs.lemmas.Bool.{cases_lt}
use Rattle.std.specs.Prelude.{◌≡◌, ℕ, ◌+◌, ◌*◌, ◌<◌, ◌≤◌, ◌⊎◌, List, [], ◌∷◌, ◌++◌, map, length, Some, slice_get, refl}
use Rattle.lx_base.specs.declared.settings.Enc.{Enc}
use Rattle.lx_regex.specs.Automaton.{State, automaton, label, target}
use Rattle.lx_regex.specs.Cut.{EndsInUnit, GoesOn, IsCut, last_part, rule_part}
use Rattle.lx_regex.specs.Plain.{IsPlain}
use Rattle.lx_regex.specs.Reading.{IsReading}
use Rattle.lx_regex.specs.Script.{Symbol, reads, script, units}
use Rattle.lx_regex.specs.Term.{Term}
use Rattle.lx_regex.specs.Walk.{Walk, mark, symbols}
use Rattle.lx_regex.proofs.Walks.Candidates.{plain_code, unseen_code}
use Rattle.lx_regex.proofs.KernelCuts.Cuts.{code_even, last_append, last_code, paired_rules, rule_positive, rule_stands}
use Rattle.lx_regex.proofs.Walks.Exchange.{code_walk, plain_join, unseen_seam}
use Rattle.lx_regex.proofs.Walks.PlainWalk.{IsPlainList, IsUnseen, cut, plain_list, units_append, units_mark, walk_plain}
use Rattle.lx_regex.proofs.Walks.Readings.{code_quiet}
use Rattle.lx_regex.proofs.PartTables.Rows.{mark_begins}
use Rattle.lx_regex.proofs.Walks.WholeWalk.{tree_of}
use Rattle.lx_tnfa.specs.LeafReadings.{HasBegun, IsLeft, IsNth, NumbersLeaves}
use Rattle.lx_tnfa.proofs.Searching.SimplePaths.{SimplePath}
use Rattle.lx_tdfa.specs.Graph.{graph_of, move_at, path_end, path_symbols, rule_starts}
use Rattle.lx_tdfa.specs.Kernels.{Key, rule_of, segment_symbols}
use Rattle.lx_tdfa.proofs.Walks.PlacesRead.{left_before, start_is}
use Rattle.lx_tdfa.proofs.WordKernels.RunSteps.{IsRun, IsSegment}
use Rattle.lx_tdfa.proofs.Walks.StatePaths.{no_edge, path_end-is, path_plain, path_symbols-append, path_symbols-units, path_walk}
use Rattle.lx_tdfa.proofs.Values.ValueSteps.{forwards, run_units}
use Rattle.lx_tdfa.proofs.Rules.WithinStates.{moves_stay_within, rules_begin_within}

pub plain_on : (E Z : List Symbol) → EndsInUnit E ⊎ (E ≡ []) → IsPlainList E → IsPlainList Z → IsPlainList (E ++ Z)
plain_on E Z (inl is) p q =
    let e : (is.0 ++ reads is.1 ∷ []) ++ Z ≡ is.0 ++ reads is.1 ∷ Z = append_assoc is.0 (reads is.1 ∷ []) Z in
    subst IsPlainList (sym e ∙ ap (λ k. k ++ Z) (sym is.2)) (plain_join is.0 is.1 [] Z (subst IsPlainList is.2 p) q)
plain_on E Z (inr is) p q = subst IsPlainList (ap (λ k. k ++ Z) (sym is)) q

last_part_of_path : (states : List State) (q s : ℕ) (ws : List ℕ) (p : ℕ) (Z : List Symbol) → last_part p Z ≡ p
    → last_part q (path_symbols states s ws (mark (2 * p) ∷ Z)) ≡ p
last_part_of_path states q s [] p Z h = ap (λ x. last_part q (x ∷ Z)) (mark_begins p) ∙ h
last_part_of_path states q s (i ∷ ws) p Z h =
    last_append q (mark s ∷ label (move_at states s i)) (path_symbols states (target (move_at states s i)) ws (mark (2 * p) ∷ Z))
    ∙ last_part_of_path states (last_part q (mark s ∷ label (move_at states s i))) (target (move_at states s i)) ws p Z h

path_ends_in_unit : (states : List State) (s : ℕ) (ws : List ℕ) (Z : List Symbol) → EndsInUnit Z → EndsInUnit (path_symbols states s ws Z)
path_ends_in_unit states s ws Z is = (path_symbols states s ws is.0, is.1, ap (path_symbols states s ws) is.2 ∙ path_symbols-append states s ws is.0 (reads is.1 ∷ []))

ends_after : (E Z : List Symbol) → EndsInUnit Z → EndsInUnit (E ++ Z)
ends_after E Z is = (E ++ is.0, is.1, ap (λ k. E ++ k) is.2 ∙ sym (append_assoc E is.0 (reads is.1 ∷ [])))

module _ (enc : Enc) (rules : List Term) (after : ℕ → ℕ → List ℕ) (added : ℕ → ℕ → ℕ → List Symbol) (number : ℕ → List Symbol → ℕ) (numbers : NumbersLeaves enc rules after added number) where
  abbrev pub IsRunOf : List ℕ → List Key → List Symbol → ℕ → Type 0
  IsRunOf w ks F q = IsRun (graph_of (automaton rules)) after (segment_symbols rules added) (rule_starts rules) w ks F q

  abbrev pub IsSegmentOf : ℕ → ℕ → Key → ℕ → Type 0
  IsSegmentOf p u k q = IsSegment (graph_of (automaton rules)) after (segment_symbols rules added) (rule_starts rules) p u k q

  -- whatever goes on from a state goes on from a front
  abbrev pub Resumes : ℕ → List Symbol → ℕ → Type 0
  Resumes r E p = (W : Walk (automaton rules) 0 p) → (W' : Walk (automaton rules) 0 (2 * rule_part rules r)) × (symbols enc W' [] ≡ E ++ symbols enc W [])

  -- a front that stands at a state
  pub record StandsAtState (r : ℕ) (E : List Symbol) (p : ℕ) : Type 0 where
    pub low : p < length (automaton rules)
    pub plain : IsPlainList E
    pub unit : EndsInUnit E ⊎ (E ≡ [])
    pub resume : Resumes r E p

  -- a front that stands within a leaf or at its end
  pub record StandsInLeaf (r : ℕ) (F : List Symbol) (q : ℕ) : Type 0 where
    pub leaf : ℕ
    pub tail : List Symbol
    pub left : List ℕ
    pub rest : IsLeft enc rules leaf tail left
    pub begun : HasBegun tail
    pub place : q ≡ number leaf tail
    pub alive : Walk (automaton rules) 0 (leaf + 1)
    pub plain : IsPlainList F
    pub unit : EndsInUnit F
    pub part : leaf ≡ 2 * last_part 0 F
    pub resume : (v : List ℕ) → IsLeft enc rules leaf tail v → (W : Walk (automaton rules) 0 (leaf + 1))
        → (W' : Walk (automaton rules) 0 (2 * rule_part rules r)) × (symbols enc W' [] ≡ F ++ (map reads v ++ symbols enc W []))

  -- a leaf is finished where its place has the number of a state
  pub finished_at_state : (f : ℕ) (T : List Symbol) (v : List ℕ) → IsLeft enc rules f T v → HasBegun T
      → number f T < length (automaton rules) → IsLeft enc rules f T []
  finished_at_state f T [] r b l = r
  finished_at_state f T (u ∷ v) r b l = let h : length (automaton rules) ≤ number f T = (numbers.mid_has f T u v r b).2 in absurd (omega arith)

  pub leaf_at_state : (r : ℕ) (F : List Symbol) (q : ℕ) → StandsInLeaf r F q → q < length (automaton rules) → StandsAtState r F q
  leaf_at_state r F q H l =
      let z : IsLeft enc rules H.leaf H.tail [] = finished_at_state H.leaf H.tail H.left H.rest H.begun (subst (λ k. k < length (automaton rules)) H.place l) in
      let e : q ≡ H.leaf + 1 = H.place ∙ numbers.full H.leaf H.tail z H.begun in
      record { low = l; plain = H.plain; unit = inl H.unit; resume = subst (Resumes r F) (sym e) (λ W. H.resume [] z W) }

  pub path_within : (avoided : List ℕ) (p : ℕ) (ws : List ℕ) (t : ℕ) → p < length (automaton rules)
      → SimplePath (graph_of (automaton rules)) avoided p ws t → t < length (automaton rules)
  path_within avoided p [] t l s = subst (λ k. k < length (automaton rules)) s.1 l
  path_within avoided p (i ∷ ws) t l s = path_within (p ∷ avoided) s.1.0 ws t (moves_stay_within rules p i s.1.0 s.1.1) s.1.2

  -- over a unit from a state
  pub step_from_state : (r : ℕ) (E : List Symbol) (p u : ℕ) (k : Key) (q : ℕ) → StandsAtState r E p → IsSegmentOf p u k q
      → StandsInLeaf r (E ++ segment_symbols rules added p u k) q
  step_from_state r E p u k q Fr s =
      let states : List State = automaton rules in
      let t : ℕ = s.0 in
      let L = numbers.leaf_sound t u k.pick q (path_within [] p k.way t Fr.low s.1) s.2 in
      let d : List Symbol = L.1 in
      let Z : List Symbol = d ++ reads u ∷ [] in
      let c : IsReading enc L.0 d (u ∷ L.2) = L.4 in
      let even = code_even enc states t L.0 (paired_rules rules 1) L.3 c in
      let seg : segment_symbols rules added p u k ≡ path_symbols states p k.way (mark t ∷ Z) = ap (λ n. path_symbols states p k.way (added n u k.pick)) (path_end-is states [] p k.way t s.1) ∙ ap (path_symbols states p k.way) L.6 in
      let clean : (x : Symbol) → IsUnseen x Z = λ x. unseen_seam x d u (map reads L.2 ++ []) [] (unseen_code enc states refl c x []) in
      let flat : IsPlainList Z = plain_join d u (map reads L.2 ++ []) [] (plain_code enc states refl c [] tt) tt in
      let zl : last_part even.0 Z ≡ even.0 = last_append even.0 d (reads u ∷ []) ∙ last_code enc c even.0 in
      let lp : last_part 0 (E ++ path_symbols states p k.way (mark t ∷ Z)) ≡ even.0 =
      last_append 0 E (path_symbols states p k.way (mark t ∷ Z)) ∙ ap (λ n. last_part (last_part 0 E) (path_symbols states p k.way (mark n ∷ Z))) even.1 ∙ last_part_of_path states (last_part 0 E) p k.way even.0 Z zl in
      subst (λ l. StandsInLeaf r (E ++ l) q) (sym seg) (record {
        leaf = t;
        tail = Z;
        left = L.2;
        rest = record { row = L.0; choice = d; read = u ∷ []; at = L.3; is = refl; reading = c };
        begun = λ e. some d c e;
        place = L.5;
        alive = L.7;
        plain = plain_on E _ Fr.unit Fr.plain (path_plain states Z clean flat [] p k.way t s.1);
        unit = ends_after E _ (path_ends_in_unit states p k.way (mark t ∷ Z) (mark t ∷ d, u, refl));
        part = even.1 ∙ ap (λ n. 2 * n) (sym lp);
        resume = λ v rs W. on t Z d v rs W s.1;
      })
    where
      some : (d : List Symbol) {successors : State} {us : List ℕ} → IsReading enc successors d us → units (d ++ reads u ∷ []) ≡ [] → ⊥
      some d c e = let h : units d ++ u ∷ [] ≡ [] = sym (units_append d (reads u ∷ [])) ∙ e in let k : u ∷ [] ≡ [] = sym (ap (λ n. n ++ u ∷ []) (code_quiet enc c)) ∙ h in cc

      on : (t : ℕ) (Z d : List Symbol) (v : List ℕ) → IsLeft enc rules t Z v → (W : Walk (automaton rules) 0 (t + 1))
          → SimplePath (graph_of (automaton rules)) [] p k.way t
          → (W' : Walk (automaton rules) 0 (2 * rule_part rules r)) × (symbols enc W' [] ≡ (E ++ path_symbols (automaton rules) p k.way (mark t ∷ Z)) ++ (map reads v ++ symbols enc W []))
      on t Z d v rs W path =
          let states : List State = automaton rules in
          let a = code_walk enc states 0 rs.reading rs.at W in
          let b = path_walk enc states [] p k.way t path a.0 in
          let c = Fr.resume b.0 in
          let y : List Symbol = map reads v ++ symbols enc W [] in
          let e1 : mark t ∷ (rs.choice ++ (map reads (rs.read ++ v) ++ symbols enc W [])) ≡ (mark t ∷ Z) ++ y =
          ap (λ n. mark t ∷ (rs.choice ++ (n ++ symbols enc W []))) (map_append rs.read v)
          ∙ ap (λ n. mark t ∷ (rs.choice ++ n)) (append_assoc (map reads rs.read) (map reads v) (symbols enc W []))
          ∙ ap (λ n. mark t ∷ n) (sym (append_assoc rs.choice (map reads rs.read) y))
          ∙ ap (λ n. mark t ∷ (n ++ y)) (sym rs.is) in
          (c.0, c.1 ∙ ap (λ n. E ++ n) (b.1 ∙ ap (path_symbols states p k.way) (a.1 ∙ e1) ∙ path_symbols-append states p k.way (mark t ∷ Z) y) ∙ sym (append_assoc E (path_symbols states p k.way (mark t ∷ Z)) y))
        where
          map_append : (a b : List ℕ) → map reads (a ++ b) ≡ map reads a ++ map reads b
          map_append [] b = refl
          map_append (x ∷ a) b = ap (λ k. reads x ∷ k) (map_append a b)

  -- within a leaf a segment is the unit alone
  pub segment_within : (f : ℕ) (T : List Symbol) (v : List ℕ) (u : ℕ) (k : Key) (q : ℕ) → IsLeft enc rules f T v → HasBegun T
      → length (automaton rules) ≤ number f T → IsSegmentOf (number f T) u k q
      → (v' : List ℕ) × IsLeft enc rules f (T ++ reads u ∷ []) v' × (q ≡ number f (T ++ reads u ∷ [])) × (segment_symbols rules added (number f T) u k ≡ reads u ∷ []) × (k.way ≡ []) × (k.pick ≡ 0)
  segment_within f T v u k q rs b h s = at k.way refl s.1
    where
      at : (ws : List ℕ) → k.way ≡ ws → SimplePath (graph_of (automaton rules)) [] (number f T) ws s.0
          → (v' : List ℕ) × IsLeft enc rules f (T ++ reads u ∷ []) v' × (q ≡ number f (T ++ reads u ∷ [])) × (segment_symbols rules added (number f T) u k ≡ reads u ∷ []) × (k.way ≡ []) × (k.pick ≡ 0)
      at [] e p =
          let m = numbers.mid_sound f T v u k.pick q rs b h (subst (λ n. IsNth (after n u) k.pick q) (sym p.1) s.2) in
          let z : added (number f T) u k.pick ≡ reads u ∷ [] = m.3 in
          (m.0, m.1, m.2, ap (λ ws. path_symbols (automaton rules) (number f T) ws (added (path_end (automaton rules) (number f T) ws) u k.pick)) e ∙ z, e, m.4)
      at (i ∷ ws) e p = absurd (no_edge (automaton rules) (number f T) i p.1.0 h p.1.1)

  pub step_within : (r : ℕ) (E : List Symbol) (p u : ℕ) (k : Key) (q : ℕ) → StandsInLeaf r E p → length (automaton rules) ≤ p
      → IsSegmentOf p u k q → StandsInLeaf r (E ++ segment_symbols rules added p u k) q
  step_within r E p u k q H h s =
      let m = segment_within H.leaf H.tail H.left u k q H.rest H.begun (subst (λ n. length (automaton rules) ≤ n) H.place h) (subst (λ n. IsSegmentOf n u k q) H.place s) in
      let seg : segment_symbols rules added p u k ≡ reads u ∷ [] = ap (λ n. segment_symbols rules added n u k) H.place ∙ m.3 in
      subst (λ l. StandsInLeaf r (E ++ l) q) (sym seg) (record {
        leaf = H.leaf;
        tail = H.tail ++ reads u ∷ [];
        left = m.0;
        rest = m.1;
        begun = λ e. some H.tail e;
        place = m.2;
        alive = H.alive;
        plain = plain_on E (reads u ∷ []) (inl H.unit) H.plain tt;
        unit = (E, u, refl);
        part = H.part ∙ ap (λ n. 2 * n) (sym (last_append 0 E (reads u ∷ [])));
        resume = λ v rs W.
            let c = H.resume (u ∷ v) (left_before enc rules H.leaf H.tail u v rs) W in
            (c.0, c.1 ∙ sym (append_assoc E (reads u ∷ []) (map reads v ++ symbols enc W [])));
      })
    where
      some : (T : List Symbol) → units (T ++ reads u ∷ []) ≡ [] → ⊥
      some T e = none (units T) (sym (units_append T (reads u ∷ [])) ∙ e)
        where
          none : (l : List ℕ) → l ++ u ∷ [] ≡ [] → ⊥
          none [] e = cc
          none (x ∷ l) e = cc

  run_some : (w : List ℕ) (F : List Symbol) (q : ℕ) → IsRunOf w [] F q → ⊥
  run_some [] F q r = r
  run_some (u ∷ w) F q r = r

  pub rule_more : (w : List ℕ) (k : Key) (ks : List Key) (F : List Symbol) (q : ℕ) → IsRunOf w ks F q → rule_of (k ∷ ks) ≡ rule_of ks
  rule_more w k [] F q r = absurd (run_some w F q r)
  rule_more w k (l ∷ ks) F q r = refl

  pub begin_at_state : (ks : List Key) (F : List Symbol) (q : ℕ) → IsRunOf [] ks F q → StandsAtState (rule_of ks) F q
  begin_at_state [] F q r = absurd r
  begin_at_state (k ∷ ks) F q r =
      let s = start_is rules k.pick q r.2 in
      let e : k.pick ≡ rule_of (k ∷ ks) = ap (λ l. rule_of (k ∷ l)) (sym r.0) in
      subst (λ n. StandsAtState n F q) e (subst (λ E. StandsAtState k.pick E q) (sym r.3) (record {
        low = rules_begin_within rules k.pick q r.2;
        plain = tt;
        unit = inr refl;
        resume = λ W. subst (λ n. (W' : Walk (automaton rules) 0 n) × (symbols enc W' [] ≡ symbols enc W [])) s.2 (W, refl);
      }))

  -- every run over a word that is not empty
  pub run_in_leaf : (u : ℕ) (w : List ℕ) (ks : List Key) (F : List Symbol) (q : ℕ) → IsRunOf (u ∷ w) ks F q → StandsInLeaf (rule_of ks) F q
  run_in_leaf u w [] F q r = absurd r
  run_in_leaf u [] (k ∷ ks) F q r =
      let a = step_from_state (rule_of ks) r.1 r.0 u k q (begin_at_state ks r.1 r.0 r.2) r.4 in
      subst (λ n. StandsInLeaf n F q) (sym (rule_more [] k ks r.1 r.0 r.2)) (subst (λ l. StandsInLeaf (rule_of ks) l q) (sym r.3) a)
  run_in_leaf u (x ∷ w) (k ∷ ks) F q r =
      let H = run_in_leaf x w ks r.1 r.0 r.2 in
      let a = ⊎_elim (λ lt. step_from_state (rule_of ks) r.1 r.0 u k q (leaf_at_state (rule_of ks) r.1 r.0 H lt) r.4) (λ le. step_within (rule_of ks) r.1 r.0 u k q H le r.4) (cases_lt r.0 (length (automaton rules))) in
      subst (λ n. StandsInLeaf n F q) (sym (rule_more (x ∷ w) k ks r.1 r.0 r.2)) (subst (λ l. StandsInLeaf (rule_of ks) l q) (sym r.3) a)

  pub run_rule : (w : List ℕ) (ks : List Key) (F : List Symbol) (q : ℕ) → IsRunOf w ks F q → (e : Term) × (slice_get rules (rule_of ks) ≡ Some e)
  run_rule [] [] F q r = absurd r
  run_rule [] (k ∷ ks) F q r =
      let s = start_is rules k.pick q r.2 in
      (s.0, ap (λ l. slice_get rules (rule_of (k ∷ l))) r.0 ∙ s.1)
  run_rule (u ∷ w) [] F q r = absurd r
  run_rule (u ∷ w) (k ∷ ks) F q r = let i = run_rule w ks r.1 r.0 r.2 in (i.0, ap (slice_get rules) (rule_more w k ks r.1 r.0 r.2) ∙ i.1)

  -- what finishes the leaf goes on to a whole tree
  pub leaf_goes_on : (r : ℕ) (e : Term) (F : List Symbol) (q : ℕ) → slice_get rules r ≡ Some e → (H : StandsInLeaf r F q) → (v : List ℕ)
      → IsLeft enc rules H.leaf H.tail v
      → (W : Walk (automaton rules) 0 (H.leaf + 1)) × GoesOn enc rules (record { rule = r; front = F }) (map reads v ++ symbols enc W [])
  leaf_goes_on r e F q at H v rs =
      let states : List State = automaton rules in
      let c = cut enc states 0 H.alive in
      let W = c.walk in
      let a = H.resume v rs W in
      let t = tree_of enc states e (rule_part rules r) (rule_stands rules r e at) (rule_positive rules r) refl a.0 in
      let says : script enc (rule_part rules r) t.0 ≡ F ++ (map reads v ++ symbols enc W []) = sym t.1 ∙ a.1 in
      let plain : IsPlainList (F ++ (map reads v ++ symbols enc W [])) = plain_on F _ (inl H.unit) H.plain (flat v (symbols enc W []) (walk_plain enc states 0 W c.plain)) in
      (W, (e, t.0, at, says, subst IsPlain (sym says) (plain_list _ plain)))
    where
      flat : (v : List ℕ) (l : List Symbol) → IsPlainList l → IsPlainList (map reads v ++ l)
      flat [] l p = p
      flat (x ∷ v) l p = flat v l p

  units_from_state : (r : ℕ) (E : List Symbol) (p u : ℕ) (k : Key) (q : ℕ) → StandsAtState r E p → IsSegmentOf p u k q
      → units (segment_symbols rules added p u k) ≡ u ∷ []
  units_from_state r E p u k q Fr s =
      let states : List State = automaton rules in
      let L = numbers.leaf_sound s.0 u k.pick q (path_within [] p k.way s.0 Fr.low s.1) s.2 in
      let c : IsReading enc L.0 L.1 (u ∷ L.2) = L.4 in
      path_symbols-units states p k.way _ ∙ ap (λ n. units (added n u k.pick)) (path_end-is states [] p k.way s.0 s.1) ∙ ap units L.6
      ∙ units_mark s.0 _ ∙ units_append L.1 (reads u ∷ []) ∙ ap (λ n. n ++ u ∷ []) (code_quiet enc c)

  -- each segment of a run has its one unit
  pub one_unit : (w : List ℕ) (ks : List Key) (E : List Symbol) (p : ℕ) → IsRunOf w ks E p → (u : ℕ) (k : Key) (q : ℕ) → IsSegmentOf p u k q
      → units (segment_symbols rules added p u k) ≡ u ∷ []
  one_unit [] ks E p r u k q s = units_from_state (rule_of ks) E p u k q (begin_at_state ks E p r) s
  one_unit (x ∷ w) ks E p r u k q s =
      let H = run_in_leaf x w ks E p r in
      ⊎_elim
      (λ lt. units_from_state (rule_of ks) E p u k q (leaf_at_state (rule_of ks) E p H lt) s)
      (λ le.
      let m = segment_within H.leaf H.tail H.left u k q H.rest H.begun (subst (λ n. length (automaton rules) ≤ n) H.place le) (subst (λ n. IsSegmentOf n u k q) H.place s) in
      ap units (ap (λ n. segment_symbols rules added n u k) H.place ∙ m.3))
      (cases_lt p (length (automaton rules)))

  pub run_word : (w : List ℕ) (ks : List Key) (F : List Symbol) (q : ℕ) → IsRunOf w ks F q → units F ≡ forwards w
  run_word = run_units (graph_of (automaton rules)) after (segment_symbols rules added) (rule_starts rules) one_unit

  -- Each run over a word that is not empty is a cut of it.
  pub run_cut : (u : ℕ) (w : List ℕ) (ks : List Key) (F : List Symbol) (q : ℕ) → IsRunOf (u ∷ w) ks F q
      → IsCut enc rules (forwards (u ∷ w)) (record { rule = rule_of ks; front = F })
  run_cut u w ks F q r =
      let H = run_in_leaf u w ks F q r in
      let e = run_rule (u ∷ w) ks F q r in
      let h = leaf_goes_on (rule_of ks) e.0 F q e.1 H H.left H.rest in
      record { reads_word = run_word (u ∷ w) ks F q r; after_unit = H.unit; possible = (map reads H.left ++ symbols enc h.0 [], h.1) }
