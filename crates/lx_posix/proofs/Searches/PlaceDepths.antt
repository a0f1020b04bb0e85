-- The depth that is kept of a place is that before the state at which it stands.
use Rattle.std.proofs.Common.{sym, ap, ap₂, ◌∙◌, subst, arith, ⊎_elim}
use Rattle.std.proofs.lemmas.Bool.{cases_lt, le-ltb, lt-ltb, ltb-false}
use Rattle.std.proofs.lemmas.Nat.{mod-mul-add}
use Rattle.std.specs.Prelude.{◌≡◌, ℕ, zero, suc, ◌+◌, ◌-◌, ◌*◌, ◌/◌, ◌%◌, ◌<◌, ◌≤◌, List, [], ◌∷◌, ◌++◌, length, Bool, true, false, ◌&&◌, nat_eq, nat_lt, if◌then◌else◌, slice_get, map, Option, Some, None, refl}
use Rattle.lx_base.specs.declared.settings.Enc.{Enc}
use Rattle.lx_base.specs.declared.settings.Enc.TheVariants.{Byte, Ucs2, Utf16, Utf32, Utf8}
use Rattle.lx_regex.specs.Automaton.{Move, State, automaton, label, move, target}
use Rattle.lx_regex.specs.Cut.{last_part, rule_part}
use Rattle.lx_regex.specs.Reading.{IsReading, of_point, of_unit}
use Rattle.lx_regex.specs.Script.{Symbol, begins, ends, has_long, has_short, leaf_choice, picks, reads, sets, units, unsets}
use Rattle.lx_regex.specs.Term.{Term, Terms, alt, any_unit, cat, class, cons, empty, group, nil, parts, repeat, tag}
use Rattle.lx_regex.specs.Walk.{mark}
use Rattle.lx_regex.proofs.KernelCuts.Cuts.{last_append, rule_positive}
use Rattle.lx_regex.proofs.PartTables.Rows.{mark_begins, mark_ends}
use Rattle.lx_regex.proofs.Walks.PlainWalk.{units_append}
use Rattle.lx_regex.proofs.Walks.Readings.{code_quiet}
use Rattle.lx_tnfa.specs.DepthFirst.{successors}
use Rattle.lx_tnfa.specs.LeafReadings.{IsLeft, NumbersLeaves}
use Rattle.lx_tnfa.proofs.Searching.SimplePaths.{SimplePath}
use Rattle.lx_tdfa.specs.Graph.{graph_of, move_at, path_symbols}
use Rattle.lx_tdfa.specs.Kernels.{Key, segment_symbols}
use Rattle.lx_tdfa.proofs.Rules.StateOrder.{some_parts}
use Rattle.lx_tdfa.proofs.Rules.WithinStates.{rules_begin_within}
use Rattle.lx_tdfa.proofs.Walks.PlacesRead.{start_is}
use Rattle.lx_tdfa.proofs.Walks.StatePaths.{at_move, path_end-is}
use Rattle.lx_tdfa.proofs.WordKernels.OrderedLists.{at_zero_nth}
use Rattle.lx_tdfa.proofs.WordKernels.RunCuts.{IsRunOf, IsSegmentOf, finished_at_state, path_within, run_in_leaf, segment_within}
use Rattle.lx_posix.specs.LevelPaths.{depth_among, depth_in, depth_of_rules, state_depth}
use Rattle.lx_posix.specs.Walks.{depth}
use Rattle.lx_posix.proofs.Fronts.PartDepth.{depth_append}
use Rattle.lx_posix.proofs.Searches.StateDepths.{are_depths}

mark_either : (s : ℕ) (P : Symbol → Type 0) → ((p : ℕ) → P (begins p)) → ((p : ℕ) → P (ends p)) → P (mark s)
mark_either s P f g = go (nat_eq (s % 2) 0)
  where
    go : (b : Bool) → P (if b then begins (s / 2) else ends (s / 2))
    go true = f (s / 2)
    go false = g (s / 2)

-- over the symbol of a state, and over those of a move
mark_depth : (s d : ℕ) (l : List Symbol) → depth d (mark s ∷ l) ≡ depth (depth d (mark s ∷ [])) l
mark_depth s d l = mark_either s (λ x. depth d (x ∷ l) ≡ depth (depth d (x ∷ [])) l) (λ p. refl) (λ p. refl)

label_depth : (m : Move) (d : ℕ) (l : List Symbol) → depth d (label m ++ l) ≡ depth d l
label_depth (move picked set unset to) d l = from picked
  where
    unset_only : (us : List ℕ) → depth d (map unsets us ++ l) ≡ depth d l
    unset_only [] = refl
    unset_only (x ∷ us) = unset_only us

    quiet : (ss us : List ℕ) → depth d ((map sets ss ++ map unsets us) ++ l) ≡ depth d l
    quiet [] us = unset_only us
    quiet (x ∷ ss) us = quiet ss us

    from : (o : Option ℕ) → depth d (label (move o set unset to) ++ l) ≡ depth d l
    from None = quiet set unset
    from (Some a) = quiet set unset

reading_depth : (enc : Enc) (row : State) (choice : List Symbol) (us : List ℕ) (u d : ℕ) → IsReading enc row choice us
    → depth d (choice ++ reads u ∷ []) ≡ d
reading_depth enc row choice us u d (of_point {ranges} c i) = by enc
  where
    picked_or : (b : Bool) (n : ℕ) → depth d ((if b then picks n ∷ [] else []) ++ reads u ∷ []) ≡ d
    picked_or true n = refl
    picked_or false n = refl

    by : (enc : Enc) → depth d (leaf_choice enc ranges c ++ reads u ∷ []) ≡ d
    by Byte = refl
    by Ucs2 = refl
    by Utf8 = refl
    by Utf16 = picked_or (has_short ranges && has_long ranges) _
    by Utf32 = refl
reading_depth enc row choice us u d (of_unit x) = refl

-- the number of an end is odd: there one part less is open than behind the beginning
if_same : (b c : Bool) (x y x' y' : ℕ) → b ≡ c → (b ≡ true → x' ≡ x - 1) → (b ≡ false → y' ≡ y - 1)
    → (if c then x' else y') ≡ (if b then x else y) - 1
if_same true c x y x' y' e p q = subst (λ k. (if k then x' else y') ≡ x - 1) e (p refl)
if_same false c x y x' y' e p q = subst (λ k. (if k then x' else y') ≡ y - 1) e (q refl)

odd_less : (k n : ℕ) → nat_lt (2 * k) (2 * n) ≡ nat_lt (2 * k + 1) (2 * n)
odd_less k n =
    ⊎_elim
    (λ lt. lt-ltb (2 * k) (2 * n) (omega arith) ∙ sym (lt-ltb (2 * k + 1) (2 * n) (omega arith)))
    (λ le. le-ltb (2 * k) (2 * n) (omega arith) ∙ sym (le-ltb (2 * k + 1) (2 * n) (omega arith)))
    (cases_lt k n)

one_more : (e : Term) (d k : ℕ) → depth_in e d (suc (suc (2 * k + 1))) ≡ depth_in e d (suc (suc (2 * k))) - 1
    → depth_in e d (2 * suc k + 1) ≡ depth_in e d (2 * suc k) - 1
one_more e d k h =
    let a : 2 * suc k + 1 ≡ suc (suc (2 * k + 1)) = omega arith in
    let b : suc (suc (2 * k)) ≡ 2 * suc k = omega arith in
    ap (λ n. depth_in e d n) a ∙ h ∙ ap (λ n. depth_in e d n - 1) b

-- the remainder of an even number by an even one
half_of : (k n : ℕ) → 0 < n → (m : ℕ) × (2 * k % (2 * n) ≡ 2 * m) × ((2 * k + 1) % (2 * n) ≡ 2 * m + 1)
half_of k n some =
    let r : ℕ = k % n in
    let less : k % n < n = omega arith in
    let whole : k ≡ k / n * n + k % n = omega arith in
    let a : 2 * k ≡ k / n * (2 * n) + 2 * (k % n) = omega arith in
    let b : 2 * k + 1 ≡ k / n * (2 * n) + (2 * (k % n) + 1) = omega arith in (
      k % n,
      ap (λ x. x % (2 * n)) a ∙ mod-mul-add (k / n) (2 * n) (2 * (k % n)) (omega arith),
      ap (λ x. x % (2 * n)) b ∙ mod-mul-add (k / n) (2 * n) (2 * (k % n) + 1) (omega arith),
    )

mutual
  end_in : (e : Term) (d k : ℕ) → depth_in e d (2 * k + 1) ≡ depth_in e d (2 * k) - 1
  end_in e d zero = omega arith
  end_in empty d (suc k) = one_more empty d k refl
  end_in (class ranges) d (suc k) = one_more (class ranges) d k refl
  end_in any_unit d (suc k) = one_more any_unit d k refl
  end_in (cat members) d (suc k) = one_more (cat members) d k (end_among members (suc d) k)
  end_in (alt members) d (suc k) = one_more (alt members) d k (end_among members (suc d) k)
  end_in (repeat body low high) d (suc k) =
      let h = half_of k (parts body) (some_parts body) in
      one_more (repeat body low high) d k
      (ap (λ n. depth_in body (suc d) n) h.2 ∙ end_in body (suc d) h.0 ∙ ap (λ n. depth_in body (suc d) n - 1) (sym h.1))
  end_in (tag number) d (suc k) = one_more (tag number) d k refl
  end_in (group opening closing body) d (suc k) = one_more (group opening closing body) d k (end_in body (suc d) k)

  end_among : (ms : Terms) (d k : ℕ) → depth_among ms d (2 * k + 1) ≡ depth_among ms d (2 * k) - 1
  end_among nil d k = refl
  end_among (cons e ms) d k =
      if_same (nat_lt (2 * k) (2 * parts e)) (nat_lt (2 * k + 1) (2 * parts e)) (depth_in e d (2 * k))
      (depth_among ms d (2 * k - 2 * parts e))
      (depth_in e d (2 * k + 1)) (depth_among ms d (2 * k + 1 - 2 * parts e)) (odd_less k (parts e)) (λ t. end_in e d k)
      (λ f.
      let le : 2 * parts e ≤ 2 * k = ltb-false (2 * k) (2 * parts e) f in
      let x : 2 * k + 1 - 2 * parts e ≡ 2 * (k - parts e) + 1 = omega arith in
      let y : 2 * (k - parts e) ≡ 2 * k - 2 * parts e = omega arith in
      ap (λ n. depth_among ms d n) x ∙ end_among ms d (k - parts e) ∙ ap (λ n. depth_among ms d n - 1) y)

end_of_rules : (rules : List Term) (k : ℕ) → depth_of_rules rules (2 * k + 1) ≡ depth_of_rules rules (2 * k) - 1
end_of_rules [] k = refl
end_of_rules (e ∷ rules) k =
    if_same (nat_lt (2 * k) (2 * parts e)) (nat_lt (2 * k + 1) (2 * parts e)) (depth_in e 0 (2 * k))
    (depth_of_rules rules (2 * k - 2 * parts e)) (depth_in e 0 (2 * k + 1)) (depth_of_rules rules (2 * k + 1 - 2 * parts e))
    (odd_less k (parts e)) (λ t. end_in e 0 k)
    (λ f.
    let le : 2 * parts e ≤ 2 * k = ltb-false (2 * k) (2 * parts e) f in
    let x : 2 * k + 1 - 2 * parts e ≡ 2 * (k - parts e) + 1 = omega arith in
    let y : 2 * (k - parts e) ≡ 2 * k - 2 * parts e = omega arith in
    ap (λ n. depth_of_rules rules n) x ∙ end_of_rules rules (k - parts e) ∙ ap (λ n. depth_of_rules rules n - 1) y)

end_state : (rules : List Term) (k : ℕ) → state_depth rules (2 * k + 1) ≡ state_depth rules (2 * k) - 1
end_state rules zero = refl
end_state rules (suc k) =
    let a : 2 * suc k + 1 ≡ suc (suc (2 * k + 1)) = omega arith in
    let b : suc (suc (2 * k)) ≡ 2 * suc k = omega arith in
    ap (λ n. state_depth rules n) a ∙ end_of_rules rules k ∙ ap (λ n. state_depth rules n - 1) b

rule_depth : (rules : List Term) (r : ℕ) (e : Term) → slice_get rules r ≡ Some e → depth_of_rules rules (2 * rule_part rules r - 2) ≡ 1
rule_depth [] r e h = cc
rule_depth (x ∷ rules) zero e h =
    let some : 0 < parts x = some_parts x in
    ap (λ b. if b then depth_in x 0 0 else depth_of_rules rules (0 - 2 * parts x)) (lt-ltb 0 (2 * parts x) (omega arith))
rule_depth (x ∷ rules) (suc r) e h =
    let one = rule_positive rules r in
    let n : ℕ = 2 * (parts x + rule_part rules r) - 2 in
    let y : 2 * (parts x + rule_part rules r) - 2 - 2 * parts x ≡ 2 * rule_part rules r - 2 = omega arith in
    ap
    (λ b. if b then depth_in x 0 (2 * (parts x + rule_part rules r) - 2)
    else depth_of_rules rules (2 * (parts x + rule_part rules r) - 2 - 2 * parts x))
    (le-ltb (2 * (parts x + rule_part rules r) - 2) (2 * parts x) (omega arith))
    ∙ ap (λ n. depth_of_rules rules n) y ∙ rule_depth rules r e h

start_depth : (rules : List Term) (r : ℕ) (e : Term) → slice_get rules r ≡ Some e → state_depth rules (2 * rule_part rules r) ≡ 1
start_depth rules r e h =
    let one = rule_positive rules r in
    let z : 2 * rule_part rules r ≡ suc (suc (2 * rule_part rules r - 2)) = omega arith in
    ap (λ n. state_depth rules n) z ∙ rule_depth rules r e h

path_depth : (rules : List Term) (ws avoided : List ℕ) (s t d : ℕ) (Z : List Symbol)
    → SimplePath (graph_of (automaton rules)) avoided s ws t → state_depth rules s ≡ depth d (mark s ∷ [])
    → depth d (path_symbols (automaton rules) s ws (mark t ∷ Z)) ≡ depth (state_depth rules t) Z
path_depth rules [] avoided s t d Z p e =
    mark_depth t d Z
    ∙ ap (λ x. depth x Z) (ap (λ n. depth d (mark n ∷ [])) (sym p.1) ∙ sym e ∙ ap (λ n. state_depth rules n) p.1)
path_depth rules (i ∷ ws) avoided s t d Z p e =
    let m = at_move (automaton rules) s i p.1.0 p.1.1 in
    let rest : List Symbol = path_symbols (automaton rules) (target (move_at (automaton rules) s i)) ws (mark t ∷ Z) in
    mark_depth s d (label (move_at (automaton rules) s i) ++ rest)
    ∙ ap (λ n. depth n (label (move_at (automaton rules) s i) ++ rest)) (sym e)
    ∙ label_depth (move_at (automaton rules) s i) (state_depth rules s) rest
    ∙ ap (λ x. depth (state_depth rules s) (path_symbols (automaton rules) x ws (mark t ∷ Z))) m.2
    ∙ path_depth rules ws (s ∷ avoided) p.1.0 t (state_depth rules s) Z p.1.2
    (are_depths rules s i p.1.0 (at_zero_nth (successors (graph_of (automaton rules)) s) i p.1.0 p.1.1))

module _ (enc : Enc) (rules : List Term) (next : ℕ → ℕ → List ℕ) (added : ℕ → ℕ → ℕ → List Symbol) (number : ℕ → List Symbol → ℕ)
    (numbers : NumbersLeaves enc rules next added number) where
  abbrev Run : List ℕ → List Key → List Symbol → ℕ → Type 0
  Run w ks F q = IsRunOf enc rules next added number numbers w ks F q

  -- by a segment from a state
  from_state : (u : ℕ) (v : List ℕ) (k : Key) (ks : List Key) (F : List Symbol) (q : ℕ) (r : Run (u ∷ v) (k ∷ ks) F q)
      → r.0 < length (automaton rules) → state_depth rules r.0 ≡ depth (depth 0 r.1) (mark r.0 ∷ [])
      → state_depth rules (2 * last_part 0 F) ≡ depth 0 F
  from_state u v k ks F q r lt e =
      let s = r.4 in
      let L = numbers.leaf_sound s.0 u k.pick q (path_within enc rules next added number numbers [] r.0 k.way s.0 lt s.1) s.2 in
      let Z : List Symbol = L.1 ++ reads u ∷ [] in
      let H = run_in_leaf enc rules next added number numbers u v (k ∷ ks) F q r in
      let fits : IsLeft enc rules s.0 (L.1 ++ reads u ∷ []) L.2 =
      record { row = L.0; choice = L.1; read = u ∷ []; at = L.3; is = refl; reading = L.4 } in
      let one = (numbers.same H.leaf s.0 H.tail (L.1 ++ reads u ∷ []) H.left L.2 H.rest fits H.begun (begun L.1 (code_quiet enc L.4))
      (sym H.place ∙ L.5)).0 in
      let seg : segment_symbols rules added r.0 u k ≡ path_symbols (automaton rules) r.0 k.way (mark s.0 ∷ (L.1 ++ reads u ∷ [])) =
      ap (λ n. path_symbols (automaton rules) r.0 k.way (added n u k.pick)) (path_end-is (automaton rules) [] r.0 k.way s.0 s.1)
      ∙ ap (path_symbols (automaton rules) r.0 k.way) L.6 in
      ap (λ n. state_depth rules n) (sym H.part ∙ one)
      ∙ sym (reading_depth enc L.0 L.1 (u ∷ L.2) u (state_depth rules s.0) L.4)
      ∙ sym (path_depth rules k.way [] r.0 s.0 (depth 0 r.1) (L.1 ++ reads u ∷ []) s.1 e)
      ∙ ap (λ l. depth (depth 0 r.1) l) (sym seg)
      ∙ sym (depth_append enc r.1 (segment_symbols rules added r.0 u k) 0)
      ∙ ap (λ l. depth 0 l) (sym r.3)
    where
      begun : (d : List Symbol) → units d ≡ [] → units (d ++ reads u ∷ []) ≡ [] → ⊥
      begun d q e = let z : u ∷ [] ≡ [] = ap (λ l. l ++ u ∷ []) (sym q) ∙ sym (units_append d (reads u ∷ [])) ∙ e in cc

  begin_deep : (ks : List Key) (F : List Symbol) (q : ℕ) → Run [] ks F q → state_depth rules q ≡ depth (depth 0 F) (mark q ∷ [])
  begin_deep [] F q r = absurd r
  begin_deep (k ∷ ks) F q r =
      let s = start_is rules k.pick q r.2 in
      ap (λ n. state_depth rules n) s.2 ∙ start_depth rules k.pick s.0 s.1
      ∙ ap (λ x. depth 0 (x ∷ [])) (sym (mark_begins (rule_part rules k.pick)))
      ∙ ap₂ (λ l n. depth (depth 0 l) (mark n ∷ [])) (sym r.3) (sym s.2)

  begins_low : (ks : List Key) (E : List Symbol) (p : ℕ) → Run [] ks E p → p < length (automaton rules)
  begins_low [] E p r = absurd r
  begins_low (k ∷ ks) E p r = rules_begin_within rules k.pick p r.2

  -- behind a finished leaf
  place_from : (u : ℕ) (w : List ℕ) (ks : List Key) (F : List Symbol) (q : ℕ) → Run (u ∷ w) ks F q → q < length (automaton rules)
      → state_depth rules (2 * last_part 0 F) ≡ depth 0 F → state_depth rules q ≡ depth (depth 0 F) (mark q ∷ [])
  place_from u w ks F q r lt e =
      let H = run_in_leaf enc rules next added number numbers u w ks F q r in
      let z =
      finished_at_state enc rules next added number numbers H.leaf H.tail H.left H.rest H.begun
      (subst (λ n. n < length (automaton rules)) H.place lt) in
      let at : q ≡ 2 * last_part 0 F + 1 =
      H.place ∙ numbers.full H.leaf H.tail z H.begun ∙ ap (λ n. n + 1) H.part in
      ap (λ n. state_depth rules n) at ∙ end_state rules (last_part 0 F) ∙ ap (λ n. n - 1) e
      ∙ ap (λ x. depth (depth 0 F) (x ∷ [])) (sym (mark_ends (last_part 0 F)))
      ∙ ap (λ n. depth (depth 0 F) (mark n ∷ [])) (sym at)

  -- the depth of a front is that behind the beginning of its leaf
  pub leaf_depth : (w : List ℕ) (u : ℕ) (ks : List Key) (F : List Symbol) (q : ℕ) → Run (u ∷ w) ks F q
      → state_depth rules (2 * last_part 0 F) ≡ depth 0 F
  leaf_depth w u [] F q r = absurd r
  leaf_depth [] u (k ∷ ks) F q r = from_state u [] k ks F q r (begins_low ks r.1 r.0 r.2) (begin_deep ks r.1 r.0 r.2)
  leaf_depth (x ∷ w) u (k ∷ ks) F q r =
      let before = leaf_depth w x ks r.1 r.0 r.2 in
      ⊎_elim
      (λ lt. from_state u (x ∷ w) k ks F q r lt (place_from x w ks r.1 r.0 r.2 lt before))
      (λ le.
      let H = run_in_leaf enc rules next added number numbers x w ks r.1 r.0 r.2 in
      let m =
      segment_within enc rules next added number numbers H.leaf H.tail H.left u k q H.rest H.begun
      (subst (λ n. length (automaton rules) ≤ n) H.place le)
      (subst (λ n. IsSegmentOf enc rules next added number numbers n u k q) H.place r.4) in
      let seg : F ≡ r.1 ++ reads u ∷ [] =
      r.3 ∙ ap (λ l. r.1 ++ l) (ap (λ n. segment_symbols rules added n u k) H.place ∙ m.3) in
      let same : last_part 0 F ≡ last_part 0 r.1 = ap (λ l. last_part 0 l) seg ∙ last_append 0 r.1 (reads u ∷ []) in
      ap (λ n. state_depth rules (2 * n)) same ∙ before
      ∙ sym (ap (λ l. depth 0 l) seg ∙ depth_append enc r.1 (reads u ∷ []) 0))
      (cases_lt r.0 (length (automaton rules)))

  -- the depth before the state of a place is that of its front
  pub place_deep : (w : List ℕ) (ks : List Key) (F : List Symbol) (q : ℕ) → Run w ks F q → q < length (automaton rules)
      → state_depth rules q ≡ depth (depth 0 F) (mark q ∷ [])
  place_deep [] ks F q r lt = begin_deep ks F q r
  place_deep (u ∷ w) ks F q r lt = place_from u w ks F q r lt (leaf_depth w u ks F q r)
