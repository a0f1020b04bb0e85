-- Each cut of a word is a run of the automaton of places.
use Rattle.std.proofs.Common.{inl, inr, sym, ap, ap₂, ◌∙◌, subst, append_assoc, append-nil, ⊎_elim}
use Rattle.std.specs.Prelude.{◌≡◌, ℕ, ◌+◌, ◌*◌, ◌⊎◌, List, [], ◌∷◌, ◌++◌, map, Some, slice_get, refl}
use Rattle.lx_base.specs.Spelling.{spell}
use Rattle.lx_base.specs.declared.settings.Enc.{Enc}
use Rattle.lx_regex.specs.Automaton.{State, automaton, label, leaf, target, unit_leaf}
use Rattle.lx_regex.specs.Cut.{Cut, EndsInUnit, GoesOn, rule_part}
use Rattle.lx_regex.specs.Plain.{IsPlain}
use Rattle.lx_regex.specs.Reading.{IsReading, of_point, of_unit}
use Rattle.lx_regex.specs.Script.{Symbol, begins, ends, leaf_choice, picks, reads, sets, units, unsets}
use Rattle.lx_regex.specs.Term.{Term}
use Rattle.lx_regex.specs.Walk.{Walk, at_point, at_unit, mark, moved, stay, symbols}
use Rattle.lx_regex.proofs.Walks.Candidates.{plain_mark_back, plain_tail, unseen_label_back, unseen_mark_back}
use Rattle.lx_regex.proofs.KernelCuts.Cuts.{rule_stands}
use Rattle.lx_regex.proofs.Walks.Exchange.{plain_from, quiet_split}
use Rattle.lx_regex.proofs.Walks.PlainWalk.{IsPlainList, IsUnseen, units_append, units_label, units_mark}
use Rattle.lx_regex.proofs.Walks.Readings.{code_quiet, code_some}
use Rattle.lx_regex.proofs.Walks.WholeWalk.{walk_of}
use Rattle.lx_tnfa.specs.LeafReadings.{HasBegun, IsLeft, NumbersLeaves}
use Rattle.lx_tnfa.specs.DepthFirst.{IsIn}
use Rattle.lx_tnfa.proofs.Searching.SimplePaths.{SimplePath}
use Rattle.lx_tdfa.specs.Graph.{graph_of, path_symbols}
use Rattle.lx_tdfa.specs.Kernels.{Key, rule_of, segment_symbols}
use Rattle.lx_tdfa.proofs.Walks.PlacesRead.{left_after, start_has}
use Rattle.lx_tdfa.proofs.WordKernels.RunCuts.{IsRunOf, IsSegmentOf, rule_more}
use Rattle.lx_tdfa.proofs.Walks.StatePaths.{move_edge, path_end-is, path_symbols-append}
use Rattle.lx_tdfa.proofs.Values.ValueSteps.{forwards}

-- a walk up to its first unit
module _ (enc : Enc) (states : List State) where
  pub record FirstUnit (avoided : List ℕ) (s : ℕ) (before : List Symbol) (u : ℕ) (rest : List Symbol) : Type 0 where
    pub way : List ℕ
    pub state : ℕ
    pub path : SimplePath (graph_of states) avoided s way state
    pub row : State
    pub choice : List Symbol
    pub left : List ℕ
    pub at : slice_get states state ≡ Some row
    pub reading : IsReading enc row choice (u ∷ left)
    pub walk : Walk states 0 (state + 1)
    pub says : before ≡ path_symbols states s way (mark state ∷ choice)
    pub on : rest ≡ map reads left ++ symbols enc walk []

  abbrev pub Avoided : List ℕ → List Symbol → Type 0
  Avoided avoided l = (x : ℕ) → IsIn avoided x → IsUnseen (mark x) l

  first_unit_in_leaf : (avoided : List ℕ) (s : ℕ) (r : State) (d : List Symbol) (us : List ℕ) → slice_get states s ≡ Some r
      → IsReading enc r d us → (w : Walk states 0 (s + 1)) → (before : List Symbol) (u : ℕ) (rest : List Symbol) → units before ≡ []
      → (IsIn avoided s → ⊥) → mark s ∷ (d ++ (map reads us ++ symbols enc w [])) ≡ before ++ reads u ∷ rest
      → FirstUnit avoided s before u rest
  first_unit_in_leaf avoided s r d us h c w before u rest q n e =
      let quiet : units (mark s ∷ d) ≡ [] = units_mark s d ∙ code_quiet enc c in
      let a = quiet_split (mark s ∷ d) quiet (map reads us ++ symbols enc w []) before u rest e in
      let z : units a.0 ≡ [] = sym (units_append (mark s ∷ d) a.0 ∙ ap (λ k. k ++ units a.0) quiet) ∙ sym (ap units a.1) ∙ q in
      let k = code_some enc c in
      let f : reads k.0 ∷ (map reads k.1 ++ symbols enc w []) ≡ a.0 ++ reads u ∷ rest = ap (λ n. map reads n ++ symbols enc w []) (sym k.2) ∙ a.2 in
      at a.0 k.0 k.1 z f a.1 (subst (λ n. IsReading enc r d n) k.2 c)
    where
      at : (l : List Symbol) (x : ℕ) (xs : List ℕ) → units l ≡ [] → reads x ∷ (map reads xs ++ symbols enc w []) ≡ l ++ reads u ∷ rest
          → before ≡ (mark s ∷ d) ++ l → IsReading enc r d (x ∷ xs) → FirstUnit avoided s before u rest
      at [] x xs z f b c =
          let i : x ≡ u = cc in
          let j : rest ≡ map reads xs ++ symbols enc w [] = cc in
          record { way = []; state = s; path = (n, refl); row = r; choice = d; left = xs; at = h; reading = subst (λ y. IsReading enc r d (y ∷ xs)) i c; walk = w; says = b ∙ append-nil (mark s ∷ d); on = j }
      at (y ∷ l) x xs z f b c = let i : y ≡ reads x = cc in let k : units (reads x ∷ l) ≡ [] = subst (λ m. units (m ∷ l) ≡ []) i z in cc

  pub first_unit : (avoided : List ℕ) {s : ℕ} → (W : Walk states 0 s) → (before : List Symbol) (u : ℕ) (rest : List Symbol)
      → units before ≡ [] → Avoided avoided (symbols enc W []) → IsPlainList (symbols enc W [])
      → symbols enc W [] ≡ before ++ reads u ∷ rest → FirstUnit avoided s before u rest
  first_unit avoided stay [] u rest q a p e = cc
  first_unit avoided stay (x ∷ before) u rest q a p e = cc
  first_unit avoided (moved {state = s} ms m h i w) before u rest q a p e =
      let quiet : units (mark s ∷ label m) ≡ [] = units_mark s (label m) ∙ ap units (sym (append-nil (label m))) ∙ units_label m [] in
      let b = quiet_split (mark s ∷ label m) quiet (symbols enc w []) before u rest e in
      let z : units b.0 ≡ [] = sym (units_append (mark s ∷ label m) b.0 ∙ ap (λ k. k ++ units b.0) quiet) ∙ sym (ap units b.1) ∙ q in
      let pm = plain_mark_back s (label m ++ symbols enc w []) p in
      let av : Avoided (s ∷ avoided) (symbols enc w []) = λ x k. elim k [ inl j ↦ subst (λ y. IsUnseen (mark y) (symbols enc w [])) j (unseen_label_back (mark s) m (symbols enc w []) pm.0) | inr j ↦ unseen_label_back (mark x) m (symbols enc w []) (unseen_mark_back (mark x) s (label m ++ symbols enc w []) (a x j)).1 ] in
      let r = first_unit (s ∷ avoided) w b.0 u rest z av (plain_tail (label m) (symbols enc w []) pm.1) b.2 in
      let ed = move_edge states s ms m h i in
      let e2 : mark s ∷ (label m ++ path_symbols states (target m) r.way (mark r.state ∷ r.choice)) ≡ path_symbols states s (ed.0 ∷ r.way) (mark r.state ∷ r.choice) =
      ap (λ n. mark s ∷ (label n ++ path_symbols states (target n) r.way (mark r.state ∷ r.choice))) (sym ed.2) in
      record {
        way = ed.0 ∷ r.way;
        state = r.state;
        path = ((λ k. (unseen_mark_back (mark s) s (label m ++ symbols enc w []) (a s k)).0 refl), (target m, ed.1, r.path));
        row = r.row;
        choice = r.choice;
        left = r.left;
        at = r.at;
        reading = r.reading;
        walk = r.walk;
        says = b.1 ∙ ap (λ k. mark s ∷ (label m ++ k)) r.says ∙ e2;
        on = r.on;
      }
  first_unit avoided (at_point {state = s} ranges c h i w) before u rest q a p e =
      first_unit_in_leaf avoided s (leaf ranges) (leaf_choice enc ranges c) (spell enc c) h (of_point c i) w before u rest q (λ k. (unseen_mark_back (mark s) s _ (a s k)).0 refl) e
  first_unit avoided (at_unit {state = s} x h w) before u rest q a p e =
      first_unit_in_leaf avoided s unit_leaf [] (x ∷ []) h (of_unit x) w before u rest q (λ k. (unseen_mark_back (mark s) s _ (a s k)).0 refl) e

-- a list up to its last unit
abbrev pub LastUnit : List Symbol → Type 0
LastUnit b = (E m : List Symbol) × (b ≡ E ++ m) × EndsInUnit E × (units m ≡ [])

last_behind : (y : Symbol) (b : List Symbol) → LastUnit b → LastUnit (y ∷ b)
last_behind y b r = (y ∷ r.0, r.1, ap (λ k. y ∷ k) r.2, (y ∷ r.3.0, r.3.1, ap (λ k. y ∷ k) r.3.2), r.4)

pub last_unit : (b : List Symbol) → (units b ≡ []) ⊎ LastUnit b
last_unit [] = inl refl
last_unit (reads u ∷ b) = ⊎_elim (λ q. inr (reads u ∷ [], b, refl, ([], u, refl), q)) (λ r. inr (last_behind (reads u) b r)) (last_unit b)
last_unit (begins u ∷ b) = ⊎_elim (λ q. inl q) (λ r. inr (last_behind (begins u) b r)) (last_unit b)
last_unit (ends u ∷ b) = ⊎_elim (λ q. inl q) (λ r. inr (last_behind (ends u) b r)) (last_unit b)
last_unit (sets u ∷ b) = ⊎_elim (λ q. inl q) (λ r. inr (last_behind (sets u) b r)) (last_unit b)
last_unit (unsets u ∷ b) = ⊎_elim (λ q. inl q) (λ r. inr (last_behind (unsets u) b r)) (last_unit b)
last_unit (picks u ∷ b) = ⊎_elim (λ q. inl q) (λ r. inr (last_behind (picks u) b r)) (last_unit b)

pub snoc_same : (a b : List ℕ) (x y : ℕ) → a ++ x ∷ [] ≡ b ++ y ∷ [] → (a ≡ b) × (x ≡ y)
snoc_same [] [] x y e = (refl, cc)
snoc_same [] (z ∷ []) x y e = cc
snoc_same [] (z ∷ c ∷ b) x y e = cc
snoc_same (z ∷ []) [] x y e = cc
snoc_same (z ∷ c ∷ a) [] x y e = cc
snoc_same (z ∷ a) (c ∷ b) x y e = let h : z ≡ c = cc in let r = snoc_same a b x y (cc) in (ap₂ (λ m n. m ∷ n) h r.0, r.1)

module _ (enc : Enc) (rules : List Term) (after : ℕ → ℕ → List ℕ) (added : ℕ → ℕ → ℕ → List Symbol) (number : ℕ → List Symbol → ℕ) (numbers : NumbersLeaves enc rules after added number) where
  -- a run with these symbols, and where it stands before what goes on
  pub record Reached (w : List ℕ) (r : ℕ) (F rest : List Symbol) : Type 0 where
    pub keys : List Key
    pub place : ℕ
    pub run : IsRunOf enc rules after added number numbers w keys F place
    pub rule : rule_of keys ≡ r
    pub leaf : ℕ
    pub tail : List Symbol
    pub left : List ℕ
    pub fits : IsLeft enc rules leaf tail left
    pub begun : HasBegun tail
    pub numbered : place ≡ number leaf tail
    pub walk : Walk (automaton rules) 0 (leaf + 1)
    pub on : rest ≡ map reads left ++ symbols enc walk []

  -- from a state over a unit
  reach_from_state : (w : List ℕ) (r : ℕ) (ks : List Key) (E : List Symbol) (p : ℕ) → IsRunOf enc rules after added number numbers w ks E p
      → rule_of ks ≡ r → (W : Walk (automaton rules) 0 p) → (before : List Symbol) (u : ℕ) (rest : List Symbol) → units before ≡ []
      → IsPlainList (symbols enc W []) → symbols enc W [] ≡ before ++ reads u ∷ rest
      → Reached (u ∷ w) r (E ++ (before ++ reads u ∷ [])) rest
  reach_from_state w r ks E p run rule W before u rest q pl e =
      let states : List State = automaton rules in
      let L = first_unit enc states [] W before u rest q (λ x k. absurd k) pl e in
      let h = numbers.leaf_has L.state u L.row L.choice L.left L.at L.reading L.walk in
      let k : Key = record { way = L.way; pick = h.0 } in
      let seg : segment_symbols rules added p u k ≡ before ++ reads u ∷ [] =
      ap (λ n. path_symbols states p L.way (added n u h.0)) (path_end-is states [] p L.way L.state L.path) ∙ ap (path_symbols states p L.way) h.2
      ∙ path_symbols-append states p L.way (mark L.state ∷ L.choice) (reads u ∷ []) ∙ ap (λ n. n ++ reads u ∷ []) (sym L.says) in
      record {
        keys = k ∷ ks;
        place = number L.state (L.choice ++ reads u ∷ []);
        run = (p, E, run, ap (λ n. E ++ n) (sym seg), (L.state, L.path, h.1));
        rule = rule_more enc rules after added number numbers w k ks E p run ∙ rule;
        leaf = L.state;
        tail = L.choice ++ reads u ∷ [];
        left = L.left;
        fits = record { row = L.row; choice = L.choice; read = u ∷ []; at = L.at; is = refl; reading = L.reading };
        begun = λ z. some L.choice z;
        numbered = refl;
        walk = L.walk;
        on = L.on;
      }
    where
      some : (d : List Symbol) → units (d ++ reads u ∷ []) ≡ [] → ⊥
      some d z = none (units d) (sym (units_append d (reads u ∷ [])) ∙ z)
        where
          none : (l : List ℕ) → l ++ u ∷ [] ≡ [] → ⊥
          none [] e = cc
          none (x ∷ l) e = cc

  -- from a run over a word that is not empty
  reach_further : (w : List ℕ) (r : ℕ) (E before : List Symbol) (u : ℕ) (rest : List Symbol) → units before ≡ []
      → IsPlainList (E ++ (before ++ reads u ∷ rest)) → Reached w r E (before ++ reads u ∷ rest)
      → Reached (u ∷ w) r (E ++ (before ++ reads u ∷ [])) rest
  reach_further w r E before u rest q pl A = at A.left refl
    where
      mid : (x : ℕ) (v : List ℕ) → A.left ≡ x ∷ v → (b : List Symbol) → b ≡ before → Reached (u ∷ w) r (E ++ (before ++ reads u ∷ [])) rest
      mid x v e [] z =
          let o : [] ++ reads u ∷ rest ≡ reads x ∷ (map reads v ++ symbols enc A.walk []) = ap (λ n. n ++ reads u ∷ rest) z ∙ A.on ∙ ap (λ n. map reads n ++ symbols enc A.walk []) e in
          let j : x ≡ u = cc in
          let o' : rest ≡ map reads v ++ symbols enc A.walk [] = cc in
          let fits : IsLeft enc rules A.leaf A.tail (u ∷ v) = subst (λ n. IsLeft enc rules A.leaf A.tail n) (e ∙ ap (λ n. n ∷ v) j) A.fits in
          let h = numbers.mid_has A.leaf A.tail u v fits A.begun in
          let k : Key = record { way = []; pick = 0 } in
          let s : IsSegmentOf enc rules after added number numbers A.place u k (number A.leaf (A.tail ++ reads u ∷ [])) = subst (λ n. IsSegmentOf enc rules after added number numbers n u k (number A.leaf (A.tail ++ reads u ∷ []))) (sym A.numbered) (number A.leaf A.tail, ((λ m. m), refl), h.0) in
          let seg : segment_symbols rules added A.place u k ≡ reads u ∷ [] = ap (λ n. added n u 0) A.numbered ∙ h.1 in
          let F : E ++ segment_symbols rules added A.place u k ≡ E ++ (before ++ reads u ∷ []) = ap (λ n. E ++ n) seg ∙ ap (λ n. E ++ (n ++ reads u ∷ [])) z in
          record {
            keys = k ∷ A.keys;
            place = number A.leaf (A.tail ++ reads u ∷ []);
            run = (A.place, E, A.run, sym F, s);
            rule = rule_more enc rules after added number numbers w k A.keys E A.place A.run ∙ A.rule;
            leaf = A.leaf;
            tail = A.tail ++ reads u ∷ [];
            left = v;
            fits = left_after enc rules A.leaf A.tail u v fits;
            begun = λ y. none (units A.tail) (sym (units_append A.tail (reads u ∷ [])) ∙ y);
            numbered = refl;
            walk = A.walk;
            on = o';
          }
        where
          none : (l : List ℕ) → l ++ u ∷ [] ≡ [] → ⊥
          none [] e = cc
          none (x ∷ l) e = cc
      mid x v e (y ∷ b) z =
          let o : y ∷ (b ++ reads u ∷ rest) ≡ reads x ∷ (map reads v ++ symbols enc A.walk []) = ap (λ n. n ++ reads u ∷ rest) z ∙ A.on ∙ ap (λ n. map reads n ++ symbols enc A.walk []) e in
          let i : y ≡ reads x = cc in
          let k : units (reads x ∷ b) ≡ [] = subst (λ m. units (m ∷ b) ≡ []) i (ap units z ∙ q) in
          cc

      at : (l : List ℕ) → A.left ≡ l → Reached (u ∷ w) r (E ++ (before ++ reads u ∷ [])) rest
      at [] e =
          let fits : IsLeft enc rules A.leaf A.tail [] = subst (λ n. IsLeft enc rules A.leaf A.tail n) e A.fits in
          let p : A.place ≡ A.leaf + 1 = A.numbered ∙ numbers.full A.leaf A.tail fits A.begun in
          let o : symbols enc A.walk [] ≡ before ++ reads u ∷ rest = sym (A.on ∙ ap (λ n. map reads n ++ symbols enc A.walk []) e) in
          reach_from_state w r A.keys E (A.leaf + 1) (subst (λ n. IsRunOf enc rules after added number numbers w A.keys E n) p A.run) A.rule A.walk before u rest q (subst IsPlainList (sym o) (plain_tail E (before ++ reads u ∷ rest) pl)) o
      at (x ∷ v) e = mid x v e before refl

  -- every front of a plain walk up to a unit is a run
  pub reach : (u : ℕ) (w : List ℕ) (r : ℕ) (e : Term) → slice_get rules r ≡ Some e → (W : Walk (automaton rules) 0 (2 * rule_part rules r))
      → (F rest : List Symbol) → EndsInUnit F → units F ≡ forwards (u ∷ w) → symbols enc W [] ≡ F ++ rest → IsPlainList (symbols enc W [])
      → Reached (u ∷ w) r F rest
  reach u [] r e at W F rest is us says pl =
      let b : List Symbol = is.0 in
      let s = snoc_same (units b) [] is.1 u (sym (units_append b (reads is.1 ∷ [])) ∙ sym (ap units is.2) ∙ us) in
      let F' : F ≡ b ++ reads u ∷ [] = is.2 ∙ ap (λ n. b ++ reads n ∷ []) s.1 in
      subst (λ n. Reached (u ∷ []) r n rest) (sym F')
      (reach_from_state [] r (record { way = []; pick = r } ∷ []) [] (2 * rule_part rules r) (refl, refl, start_has rules r e at, refl) refl W b u rest s.0 pl (says ∙ ap (λ n. n ++ rest) F' ∙ append_assoc b (reads u ∷ []) rest))
  reach u (x ∷ w) r e at W F rest is us says pl =
      let b : List Symbol = is.0 in
      let s = snoc_same (units b) (forwards (x ∷ w)) is.1 u (sym (units_append b (reads is.1 ∷ [])) ∙ sym (ap units is.2) ∙ us) in
      let F' : F ≡ b ++ reads u ∷ [] = is.2 ∙ ap (λ n. b ++ reads n ∷ []) s.1 in
      subst (λ n. Reached (u ∷ x ∷ w) r n rest) (sym F') (by b s.0 (says ∙ ap (λ n. n ++ rest) F' ∙ append_assoc b (reads u ∷ []) rest) (λ E us' is' rest' says'. reach x w r e at W E rest' is' us' says' pl))
    where
      none : (l : List ℕ) → l ++ x ∷ [] ≡ [] → ⊥
      none [] e = cc
      none (y ∷ l) e = cc

      by : (b : List Symbol) → units b ≡ forwards (x ∷ w) → symbols enc W [] ≡ b ++ reads u ∷ rest
          → ((E : List Symbol) → units E ≡ forwards (x ∷ w) → EndsInUnit E → (rest' : List Symbol) → symbols enc W [] ≡ E ++ rest' → Reached (x ∷ w) r E rest')
          → Reached (u ∷ x ∷ w) r (b ++ reads u ∷ []) rest
      by b us says ih =
          ⊎_elim
          (λ q. absurd (none (forwards w) (sym us ∙ q)))
          (λ l.
          let says2 : symbols enc W [] ≡ l.0 ++ (l.1 ++ reads u ∷ rest) = says ∙ ap (λ n. n ++ reads u ∷ rest) l.2 ∙ append_assoc l.0 l.1 (reads u ∷ rest) in
          let us2 : units l.0 ≡ forwards (x ∷ w) = sym (append-nil (units l.0)) ∙ ap (λ n. units l.0 ++ n) (sym l.4) ∙ sym (units_append l.0 l.1) ∙ sym (ap units l.2) ∙ us in
          let i = ih l.0 us2 l.3 (l.1 ++ reads u ∷ rest) says2 in
          subst (λ n. Reached (u ∷ x ∷ w) r n rest) (sym (ap (λ n. n ++ reads u ∷ []) l.2 ∙ append_assoc l.0 l.1 (reads u ∷ []))) (reach_further (x ∷ w) r l.0 l.1 u rest l.4 (subst IsPlainList says2 pl) i))
          (last_unit b)

  -- Each cut of a word is a run over it.
  pub cut_run : (u : ℕ) (w : List ℕ) (k : Cut) (rest : List Symbol) → EndsInUnit k.front → units k.front ≡ forwards (u ∷ w)
      → GoesOn enc rules k rest → Reached (u ∷ w) k.rule k.front rest
  cut_run u w k rest is us go =
      let a = walk_of enc (automaton rules) go.0 (rule_part rules k.rule) (rule_stands rules k.rule go.0 go.2) go.1 in
      reach u w k.rule go.0 go.2 a.0 k.front rest is us (a.1 ∙ go.3) (plain_from _ (subst IsPlain (sym a.1) go.4))
