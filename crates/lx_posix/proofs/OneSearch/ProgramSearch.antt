-- The search from the places after a word, by the numbers of places of the automaton of the program.
use Rattle.std.proofs.Common.{sym, ap, ap₂, ◌∙◌, subst, arith, ⊎_elim}
use Rattle.std.proofs.lemmas.Bool.{cases_lt, eqb-false, eqb-true, ltb-false, ltb-true}
use Rattle.std.specs.Prelude.{◌≡◌, ℕ, zero, suc, ◌+◌, ◌*◌, ◌<◌, ◌≤◌, List, [], ◌∷◌, ◌++◌, length, reverse, Bool, true, false, nat_eq, nat_lt, if◌then◌else◌, refl}
use Rattle.lx_base.specs.declared.settings.Enc.{Enc}
use Rattle.lx_regex.specs.Automaton.{automaton}
use Rattle.lx_regex.specs.ClassLimits.{AllClassesFit}
use Rattle.lx_regex.specs.Pattern.{Pattern, terms_of}
use Rattle.lx_regex.specs.Script.{Symbol}
use Rattle.lx_regex.specs.Term.{Term}
use Rattle.lx_regex.specs.Walk.{mark}
use Rattle.lx_tnfa.specs.DepthFirst.{successors}
use Rattle.lx_tnfa.specs.LeafReadings.{IsNth, NumbersLeaves}
use Rattle.lx_tnfa.specs.PlaceNumbers.{number_behind, numbers_after, symbols_added}
use Rattle.lx_tnfa.specs.Tnfa.{IsTnfaOf, Tnfa}
use Rattle.lx_tnfa.proofs.Construction.NthLists.{nth_map, nth_unmap}
use Rattle.lx_tnfa.proofs.Leaves.LeafNumbering.{automaton_numbers}
use Rattle.lx_tnfa.proofs.Searching.SearchBasics.{IsAt-row}
use Rattle.lx_tdfa.specs.Graph.{graph_of}
use Rattle.lx_tdfa.specs.Kernels.{Entry, Key}
use Rattle.lx_tdfa.proofs.Rules.WithinStates.{moves_stay_within}
use Rattle.lx_tdfa.proofs.Walks.StatePaths.{graph_of-length}
use Rattle.lx_tdfa.proofs.WordKernels.KernelsListed.{same_place}
use Rattle.lx_tdfa.proofs.WordKernels.OrderedLists.{nth_at_zero}
use Rattle.lx_tdfa.proofs.WordKernels.RunCuts.{IsRunOf}
use Rattle.lx_posix.specs.Comparing.{Ranked, ranked_at}
use Rattle.lx_posix.specs.KernelLists.{posix_kernel_after, posix_segments, ranks_after}
use Rattle.lx_posix.specs.LevelPaths.{AreDepths, state_depth}
use Rattle.lx_posix.specs.LevelSearch.{ArePlaceDepths, depth_among_places, level_segments, place_depth, ranks_by}
use Rattle.lx_posix.specs.Walks.{depth}
use Rattle.lx_posix.proofs.Lists.ProgramLists.{place_depth as depth_of_place, ranked_after, ranks_go_on}
use Rattle.lx_posix.proofs.Lists.RankedCuts.{AreRanked}
use Rattle.lx_posix.proofs.OneSearch.FoundWays.{ranked_is}
use Rattle.lx_posix.proofs.OneSearch.SameSegments.{same_segments}
use Rattle.lx_posix.proofs.Searches.PlaceDepths.{leaf_depth}
use Rattle.lx_posix.proofs.Searches.StateDepths.{are_depths}

-- numbers below one have a bound
bound_below : (f : ℕ → ℕ) (n : ℕ) → (w : ℕ) × ((s : ℕ) → s < n → f s < w)
bound_below f zero = (0, λ s lt. absurd (omega arith))
bound_below f (suc n) =
    let r = bound_below f n in (
      r.0 + suc (f n),
      λ s lt.
          ⊎_elim (λ l. let h = r.1 s l in omega arith)
          (λ ge. let e : s ≡ n = omega arith in let h : f s ≡ f n = ap f e in omega arith) (cases_lt s n),
    )

bound_among : (ss : List Ranked) → (w : ℕ) × ((s : ℕ) → depth_among_places ss s < w)
bound_among [] = (1, λ s. omega arith)
bound_among (r ∷ ss) =
    let b = bound_among ss in (b.0 + suc r.depth, λ s. by b.0 b.1 s (nat_eq r.place s))
  where
    by : (w : ℕ) → ((s : ℕ) → depth_among_places ss s < w) → (s : ℕ) (b : Bool)
        → (if b then r.depth else depth_among_places ss s) < w + suc r.depth
    by w h s true = omega arith
    by w h s false = let l = h s in omega arith

among_is : (ss : List Ranked)
    → ((i j : ℕ) (r s : Ranked) → IsNth ss i r → IsNth ss j s → r.place ≡ s.place → r.depth ≡ s.depth) → (i : ℕ) (r : Ranked)
    → IsNth ss i r → depth_among_places ss r.place ≡ r.depth
among_is [] one i r at = absurd at
among_is (x ∷ ss) one i r at =
    go (nat_eq x.place r.place) refl i at (λ k h. among_is ss (λ i j r s h k. one (suc i) (suc j) r s h k) k r h)
  where
    go : (b : Bool) → nat_eq x.place r.place ≡ b → (i : ℕ) → IsNth (x ∷ ss) i r
        → ((k : ℕ) → IsNth ss k r → depth_among_places ss r.place ≡ r.depth)
        → (if b then x.depth else depth_among_places ss r.place) ≡ r.depth
    go true e i h f = one 0 i x r refl h (eqb-true _ _ e)
    go false e zero h f = absurd (eqb-false _ _ e (ap (λ (y : Ranked). y.place) h))
    go false e (suc i) h f = f i h

module _ (rules : List Term) (ss : List Ranked) where
  low_depth : (s : ℕ) → s < length (automaton rules) → place_depth rules ss s ≡ state_depth rules s
  low_depth s lt = go (nat_lt s (length (automaton rules))) refl
    where
      go : (b : Bool) → nat_lt s (length (automaton rules)) ≡ b
          → (if b then state_depth rules s else depth_among_places ss s) ≡ state_depth rules s
      go true e = refl
      go false e = absurd (let g = ltb-false s (length (automaton rules)) e in omega arith)

  high_depth : (s : ℕ) → length (automaton rules) ≤ s → place_depth rules ss s ≡ depth_among_places ss s
  high_depth s ge = go (nat_lt s (length (automaton rules))) refl
    where
      go : (b : Bool) → nat_lt s (length (automaton rules)) ≡ b
          → (if b then state_depth rules s else depth_among_places ss s) ≡ depth_among_places ss s
      go true e = absurd (let g = ltb-true s (length (automaton rules)) e in omega arith)
      go false e = refl

  pub are_state_depths : AreDepths (automaton rules) (place_depth rules ss)
  are_state_depths s i y h =
      let a = nth_at_zero (successors (graph_of (automaton rules)) s) i y h in
      let low = moves_stay_within rules s i y a in
      let at = IsAt-row (graph_of (automaton rules)) s 0 i y a in
      let n = graph_of-length (automaton rules) in
      low_depth y low ∙ are_depths rules s i y h ∙ ap (λ d. depth d (mark y ∷ [])) (sym (low_depth s (omega arith)))

  pub has_width : (w : ℕ) × ((s : ℕ) → place_depth rules ss s < w)
  has_width =
      let a = bound_below (state_depth rules) (length (automaton rules)) in
      let b = bound_among ss in (
        a.0 + b.0,
        λ s.
            ⊎_elim
            (λ lt. let h = a.1 s lt in let e = low_depth s lt in omega arith)
            (λ ge. let h = b.1 s in let e = high_depth s ge in omega arith) (cases_lt s (length (automaton rules))),
      )

module _ (enc : Enc) (rules : List Term) (next : ℕ → ℕ → List ℕ) (added : ℕ → ℕ → ℕ → List Symbol) (number : ℕ → List Symbol → ℕ)
    (numbers : NumbersLeaves enc rules next added number) (w : List ℕ) (es : List Entry) (ss : List Ranked)
    (are : AreRanked enc rules next added number numbers w es ss) where
  -- the entry of a place
  pub entry_of_place : (i : ℕ) (r : Ranked) → IsNth ss i r → (e : Entry) × IsNth es i e × (r.place ≡ e.place) × (r.depth ≡ depth 0 e.front)
  entry_of_place i r at =
      let o =
      nth_unmap (λ (e : Entry). e.place) es i r.place
      (subst (λ l. IsNth l i r.place) are.places (nth_map (λ (r : Ranked). r.place) ss i r at)) in
      (o.0, o.1, sym o.2, ap (λ (x : Ranked). x.depth) (sym (ranked_is ss i r at)) ∙ are.depth i o.0 o.1)

  abbrev Run : List ℕ → List Key → List Symbol → ℕ → Type 0
  Run w ks F q = IsRunOf enc rules next added number numbers w ks F q

  -- fronts that stand at one place have one depth
  one_depth : (w : List ℕ) (ks ls : List Key) (F G : List Symbol) (p q : ℕ) → Run w ks F p → Run w ls G q → p ≡ q → depth 0 F ≡ depth 0 G
  one_depth [] [] ls F G p q r r' e = absurd r
  one_depth [] (k ∷ ks) [] F G p q r r' e = absurd r'
  one_depth [] (k ∷ ks) (l ∷ ls) F G p q r r' e = ap (λ f. depth 0 f) (r.3 ∙ sym r'.3)
  one_depth (u ∷ v) ks ls F G p q r r' e =
      let s = same_place enc rules next added number numbers u v u v ks ls F G p q r r' e in
      sym (leaf_depth enc rules next added number numbers v u ks F p r) ∙ ap (λ n. state_depth rules (2 * n)) s.part
      ∙ leaf_depth enc rules next added number numbers v u ls G q r'

  pub places_deep : ((i : ℕ) (e : Entry) → IsNth es i e → e.place < length (automaton rules)
      → state_depth rules e.place ≡ depth (ranked_at ss i).depth (mark e.place ∷ []))
      → ArePlaceDepths (automaton rules) ss (place_depth rules ss)
  places_deep known i r at = (
    λ lt.
        let o = entry_of_place i r at in
        low_depth rules ss r.place lt ∙ ap (λ s. state_depth rules s) o.2
        ∙ known i o.0 o.1 (subst (λ s. s < length (automaton rules)) o.2 lt)
        ∙ ap₂ (λ (x : Ranked) s. depth x.depth (mark s ∷ [])) (ranked_is ss i r at) (sym o.2),
    λ ge. high_depth rules ss r.place ge ∙ among_is ss one i r at,
  )
    where
      one : (i j : ℕ) (r s : Ranked) → IsNth ss i r → IsNth ss j s → r.place ≡ s.place → r.depth ≡ s.depth
      one i j r s h k e =
          let a = entry_of_place i r h in
          let b = entry_of_place j s k in
          a.3
          ∙ one_depth w a.0.keys b.0.keys a.0.front b.0.front a.0.place b.0.place (are.run i a.0 a.1) (are.run j b.0 b.1)
          (sym a.2 ∙ e ∙ b.2)
          ∙ sym b.3

module _ (enc : Enc) (patterns : List Pattern) (tnfa : Tnfa) (of : IsTnfaOf enc patterns tnfa)
    (fits : AllClassesFit enc (terms_of patterns)) (word : List ℕ) where
  pub program_places : ArePlaceDepths (automaton (terms_of patterns)) (ranks_after tnfa (terms_of patterns) word)
      (place_depth (terms_of patterns) (ranks_after tnfa (terms_of patterns) word))
  program_places =
      places_deep enc (terms_of patterns) (numbers_after tnfa) (symbols_added tnfa) (number_behind tnfa)
      (automaton_numbers enc patterns tnfa of fits) (reverse word) (posix_kernel_after tnfa (terms_of patterns) word)
      (ranks_after tnfa (terms_of patterns) word) (ranked_after enc patterns tnfa of fits word)
      (λ i e at lt. depth_of_place enc patterns tnfa of fits word i e at lt)

  pub program_segments : (unit : ℕ) (deep : ℕ → ℕ) (width : ℕ) → AreDepths (automaton (terms_of patterns)) deep
      → ArePlaceDepths (automaton (terms_of patterns)) (ranks_after tnfa (terms_of patterns) word) deep
      → ((state : ℕ) → deep state < width)
      → level_segments tnfa (terms_of patterns) deep width (ranks_after tnfa (terms_of patterns) word) unit
      ≡ posix_segments tnfa (terms_of patterns) (ranks_after tnfa (terms_of patterns) word) unit
  program_segments unit deep width depths placed small =
      same_segments enc (terms_of patterns) (numbers_after tnfa) (symbols_added tnfa) (number_behind tnfa)
      (automaton_numbers enc patterns tnfa of fits) (reverse word) (posix_kernel_after tnfa (terms_of patterns) word)
      (ranks_after tnfa (terms_of patterns) word) unit (ranked_after enc patterns tnfa of fits word) deep depths placed width small

  pub program_ranks : (unit : ℕ) (deep : ℕ → ℕ) (width : ℕ) → AreDepths (automaton (terms_of patterns)) deep
      → ArePlaceDepths (automaton (terms_of patterns)) (ranks_after tnfa (terms_of patterns) word) deep
      → ((state : ℕ) → deep state < width)
      → ranks_after tnfa (terms_of patterns) (word ++ unit ∷ [])
      ≡ ranks_by tnfa (terms_of patterns) (ranks_after tnfa (terms_of patterns) word) unit
      (level_segments tnfa (terms_of patterns) deep width (ranks_after tnfa (terms_of patterns) word) unit)
  program_ranks unit deep width depths placed small =
      ranks_go_on tnfa (terms_of patterns) word unit
      ∙ ap (λ ns. ranks_by tnfa (terms_of patterns) (ranks_after tnfa (terms_of patterns) word) unit ns)
      (sym (program_segments unit deep width depths placed small))
