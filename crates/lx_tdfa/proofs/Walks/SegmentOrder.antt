-- Segments from one place stand in the order of their walks.
use Rattle.std.proofs.Common.{◌≡◌, ℕ, ◌<◌, ◌⊎◌, inl, inr, arith, List, [], ◌∷◌, ◌++◌, refl, sym, ap, ap₂, ◌∙◌, subst, Some}
use Rattle.std.specs.Option.{option_map}
use Rattle.lx_encode.specs.declared.graph.Residual.{Residual}
use Rattle.lx_regex.specs.Automaton.{automaton}
use Rattle.lx_regex.specs.Dictionary.{IsBefore}
use Rattle.lx_regex.specs.Term.{Term}
use Rattle.lx_tnfa.specs.DepthFirst.{successors}
use Rattle.lx_tnfa.specs.LeafReadings.{IsNth}
use Rattle.lx_tnfa.specs.Live.{state_of}
use Rattle.lx_tnfa.specs.PlaceNumbers.{leaf_starts}
use Rattle.lx_tnfa.specs.Tnfa.{Tnfa, rest_after}
use Rattle.lx_tnfa.proofs.Leaves.LeafNumbers.{way_of}
use Rattle.lx_tnfa.proofs.Searching.SearchUnique.{three_cases}
use Rattle.lx_tnfa.proofs.Searching.SimplePaths.{IsAt, SimplePath}
use Rattle.lx_tdfa.specs.Graph.{graph_of, path_end}
use Rattle.lx_tdfa.specs.Kernels.{Key}
use Rattle.lx_tdfa.proofs.Walks.LeafReads.{pick_of, start_choice}
use Rattle.lx_tdfa.proofs.WordKernels.OrderedLists.{IsLesserKey, at_zero_nth, nth_same}
use Rattle.lx_tdfa.proofs.Walks.RunSegments.{Shape, inside, outside}
use Rattle.lx_tdfa.proofs.Walks.StartLists.{rank_less}
use Rattle.lx_tdfa.proofs.Walks.StatePaths.{path_end-is}
use Rattle.lx_tdfa.proofs.Walks.StopSteps.{Holds, start_no_edge, starts_in}

-- no edge leads on from the state
abbrev IsStuck : List (List ℕ) → ℕ → Type 0
IsStuck graph number = (choice to : ℕ) → IsAt 0 (successors graph number) choice to → ⊥

edge_same : (graph : List (List ℕ)) (number choice other to next : ℕ) → choice ≡ other → IsAt 0 (successors graph number) choice to
    → IsAt 0 (successors graph number) other next → next ≡ to
edge_same graph number choice other to next e edge edge' =
    nth_same (successors graph number) other next to (at_zero_nth (successors graph number) other next edge')
    (subst (λ n. IsNth (successors graph number) n to) e (at_zero_nth (successors graph number) choice to edge))

-- of two paths to states from which none leads on, each with one more choice, neither goes on from the other
ways_before : (graph : List (List ℕ)) (avoided others : List ℕ) (number : ℕ) (way second : List ℕ) (last end index later : ℕ)
    → SimplePath graph avoided number way last → SimplePath graph others number second end → IsStuck graph last → IsStuck graph end
    → IsBefore (way ++ index ∷ []) (second ++ later ∷ []) → IsBefore way second ⊎ ((way ≡ second) × (last ≡ end) × (index < later))
ways_before graph avoided others number [] [] last end index later p q s t (inl lt) = inr (refl, sym p.1 ∙ q.1, lt)
ways_before graph avoided others number [] [] last end index later p q s t (inr b) = absurd b.1
ways_before graph avoided others number [] (choice ∷ second) last end index later p q s t b =
    absurd (s choice q.1.0 (subst (λ n. IsAt 0 (successors graph n) choice q.1.0) p.1 q.1.1))
ways_before graph avoided others number (choice ∷ way) [] last end index later p q s t b =
    absurd (t choice p.1.0 (subst (λ n. IsAt 0 (successors graph n) choice p.1.0) q.1 p.1.1))
ways_before graph avoided others number (choice ∷ way) (other ∷ second) last end index later p q s t (inl lt) = inl (inl lt)
ways_before graph avoided others number (choice ∷ way) (other ∷ second) last end index later p q s t (inr b) =
    at
    (ways_before graph (number ∷ avoided) (number ∷ others) p.1.0 way second last end index later p.1.2
    (subst (λ n. SimplePath graph (number ∷ others) n second end) (edge_same graph number choice other p.1.0 q.1.0 b.0 p.1.1 q.1.1) q.1.2) s t b.1)
  where
    at : IsBefore way second ⊎ ((way ≡ second) × (last ≡ end) × (index < later))
        → IsBefore (choice ∷ way) (other ∷ second) ⊎ (((choice ∷ way) ≡ (other ∷ second)) × (last ≡ end) × (index < later))
    at (inl less) = inl (inr (b.0, less))
    at (inr same) = inr (ap₂ (λ x y. x ∷ y) b.0 same.0, same.1, same.2)

ways_behind : (graph : List (List ℕ)) (avoided others : List ℕ) (number : ℕ) (way second : List ℕ) (last end index later : ℕ)
    → SimplePath graph avoided number way last → SimplePath graph others number second end → IsStuck graph last → IsStuck graph end
    → IsBefore way second ⊎ ((way ≡ second) × (index < later)) → IsBefore (way ++ index ∷ []) (second ++ later ∷ [])
ways_behind graph avoided others number [] [] last end index later p q s t (inl b) = absurd b
ways_behind graph avoided others number [] [] last end index later p q s t (inr b) = inl b.1
ways_behind graph avoided others number [] (choice ∷ second) last end index later p q s t b =
    absurd (s choice q.1.0 (subst (λ n. IsAt 0 (successors graph n) choice q.1.0) p.1 q.1.1))
ways_behind graph avoided others number (choice ∷ way) [] last end index later p q s t b =
    absurd (t choice p.1.0 (subst (λ n. IsAt 0 (successors graph n) choice p.1.0) q.1 p.1.1))
ways_behind graph avoided others number (choice ∷ way) (other ∷ second) last end index later p q s t b =
    at b
    (λ e c. ways_behind graph (number ∷ avoided) (number ∷ others) p.1.0 way second last end index later p.1.2
    (subst (λ n. SimplePath graph (number ∷ others) n second end) (edge_same graph number choice other p.1.0 q.1.0 e p.1.1 q.1.1) q.1.2) s t c)
  where
    at : IsBefore (choice ∷ way) (other ∷ second) ⊎ (((choice ∷ way) ≡ (other ∷ second)) × (index < later))
        → (choice ≡ other → IsBefore way second ⊎ ((way ≡ second) × (index < later)) → IsBefore (way ++ index ∷ []) (second ++ later ∷ []))
        → IsBefore ((choice ∷ way) ++ index ∷ []) ((other ∷ second) ++ later ∷ [])
    at (inl (inl lt)) onward = inl lt
    at (inl (inr less)) onward = inr (less.0, onward less.0 (inl less.1))
    at (inr same) onward =
        let e : choice ≡ other = let w = same.0 in cc in
        let rest : way ≡ second = let w = same.0 in cc in
        inr (e, onward e (inr (rest, same.1)))

module _ (tnfa : Tnfa) (rules : List Term) (is : Holds tnfa rules) where
  stuck : (number index : ℕ) (rest : Residual) → IsNth (starts_in tnfa.classes (state_of tnfa.states number)) index rest
      → IsStuck (graph_of (automaton rules)) number
  stuck number index rest nth choice to edge = start_no_edge tnfa rules is number index choice to rest nth edge

  pick_less : (number unit index later : ℕ) (rest : Residual) (next : ℕ) → IsNth (starts_in tnfa.classes (state_of tnfa.states number)) index rest
      → rest_after tnfa.classes (state_of tnfa.states number) rest.0 unit ≡ Some next → index < later
      → pick_of tnfa rules is number unit index < pick_of tnfa rules is number unit later
  pick_less number unit index later rest next nth leads lt =
      let choice = start_choice tnfa rules is number index rest nth in
      rank_less (way_of tnfa (state_of tnfa.states number) unit) (leaf_starts tnfa (state_of tnfa.states number)) index later (choice.0, rest.0)
      (choice.0, next) choice.1 (ap (option_map (λ left. (choice.0, left))) leads) lt

  pub shape_before : (number unit : ℕ) (choices others : List ℕ) (key other : Key) → Shape tnfa rules is number unit choices key
      → Shape tnfa rules is number unit others other → IsBefore choices others → IsLesserKey key other
  shape_before number unit choices others key other (outside le none way pick) (outside le' none' way' pick') before =
      absurd (subst (λ l. IsBefore l []) none (subst (IsBefore choices) none' before))
  shape_before number unit choices others key other (outside le none way pick) (inside last index rest next lt path chosen nth leads at) before =
      absurd (omega arith)
  shape_before number unit choices others key other (inside last index rest next lt path chosen nth leads at) (outside le none way pick) before =
      absurd (omega arith)
  shape_before number unit choices others key other (inside last index rest next lt path chosen nth leads at) (inside end later left after lt' path' chosen' nth' leads' at') before =
      one
      (ways_before (graph_of (automaton rules)) [] [] number key.way other.way last end index later path path' (stuck last index rest nth)
      (stuck end later left nth')
      (subst (λ l. IsBefore l (other.way ++ later ∷ [])) chosen (subst (IsBefore choices) chosen' before)))
    where
      one : IsBefore key.way other.way ⊎ ((key.way ≡ other.way) × (last ≡ end) × (index < later)) → IsLesserKey key other
      one (inl less) = inl less
      one (inr same) =
          let less = pick_less last unit index later rest next nth leads same.2 in
          let second : pick_of tnfa rules is last unit later ≡ other.pick = ap (λ n. pick_of tnfa rules is n unit later) same.1 ∙ sym at' in
          inr (same.0, subst (λ n. key.pick < n) second (subst (λ n. n < pick_of tnfa rules is last unit later) (sym at) less))

  pub shape_behind : (number unit : ℕ) (choices others : List ℕ) (key other : Key) → Shape tnfa rules is number unit choices key
      → Shape tnfa rules is number unit others other → IsLesserKey key other → IsBefore choices others
  shape_behind number unit choices others key other (outside le none way pick) (outside le' none' way' pick') less = absurd (never less)
    where
      never : IsLesserKey key other → ⊥
      never (inl before) = subst (λ l. IsBefore l []) way (subst (IsBefore key.way) way' before)
      never (inr same) = omega (arith, same.1, pick, pick')
  shape_behind number unit choices others key other (outside le none way pick) (inside last index rest next lt path chosen nth leads at) less =
      absurd (omega arith)
  shape_behind number unit choices others key other (inside last index rest next lt path chosen nth leads at) (outside le none way pick) less =
      absurd (omega arith)
  shape_behind number unit choices others key other (inside last index rest next lt path chosen nth leads at) (inside end later left after lt' path' chosen' nth' leads' at') less =
      subst (λ l. IsBefore l others) (sym chosen)
      (subst (IsBefore (key.way ++ index ∷ [])) (sym chosen')
      (ways_behind (graph_of (automaton rules)) [] [] number key.way other.way last end index later path path' (stuck last index rest nth)
      (stuck end later left nth') (one less)))
    where
      one : IsLesserKey key other → IsBefore key.way other.way ⊎ ((key.way ≡ other.way) × (index < later))
      one (inl before) = inl before
      one (inr same) = inr (same.0, at_index (three_cases index later))
        where
          ends : end ≡ last
          ends =
              sym (path_end-is (automaton rules) [] number other.way end path') ∙ ap (path_end (automaton rules) number) (sym same.0)
              ∙ path_end-is (automaton rules) [] number key.way last path

          second : other.pick ≡ pick_of tnfa rules is last unit later
          second = at' ∙ ap (λ n. pick_of tnfa rules is n unit later) ends

          lesser : pick_of tnfa rules is last unit index < pick_of tnfa rules is last unit later
          lesser = subst (λ n. pick_of tnfa rules is last unit index < n) second (subst (λ n. n < other.pick) at same.1)

          at_index : (index < later) ⊎ ((index ≡ later) ⊎ (later < index)) → index < later
          at_index (inl before) = before
          at_index (inr (inl e)) =
              absurd (not_less (pick_of tnfa rules is last unit later) (subst (λ n. pick_of tnfa rules is last unit n < pick_of tnfa rules is last unit later) e lesser))
            where
              not_less : (n : ℕ) → n < n → ⊥
              not_less n lt = omega arith
          at_index (inr (inr behind)) =
              absurd (not_both (pick_of tnfa rules is last unit index) (pick_of tnfa rules is last unit later) lesser
              (pick_less last unit later index left after
              (subst (λ n. IsNth (starts_in tnfa.classes (state_of tnfa.states n)) later left) ends nth')
              (subst (λ n. rest_after tnfa.classes (state_of tnfa.states n) left.0 unit ≡ Some after) ends leads') behind))
            where
              not_both : (n m : ℕ) → n < m → m < n → ⊥
              not_both n m lt lt' = omega arith
