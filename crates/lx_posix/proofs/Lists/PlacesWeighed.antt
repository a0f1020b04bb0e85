-- Which of two walks over a unit comes first, from two places of what is kept after a word.
use Rattle.std.proofs.Common.{inl, inr, sym, ap, ◌∙◌, subst, arith, ⊎_elim}
use Rattle.std.proofs.lemmas.Bool.{cases_lt}
use Rattle.std.specs.Prelude.{◌≡◌, ℕ, ◌<◌, ◌≤◌, min, List, [], ◌∷◌, ◌++◌, map, Some, slice_get}
use Rattle.lx_base.specs.declared.settings.Enc.{Enc}
use Rattle.lx_regex.specs.Cut.{Cut, EndsInUnit, IsCut}
use Rattle.lx_regex.specs.Script.{Symbol}
use Rattle.lx_regex.specs.Term.{Term}
use Rattle.lx_tnfa.specs.LeafReadings.{IsNth, NumbersLeaves}
use Rattle.lx_tnfa.proofs.Construction.NthLists.{nth_unmap}
use Rattle.lx_tdfa.specs.Kernels.{Entry, cut_of}
use Rattle.lx_tdfa.proofs.Values.ValueSteps.{forwards}
use Rattle.lx_posix.specs.Comparing.{Ranked, number_between, ranked_at}
use Rattle.lx_posix.specs.Numbers.{PosixPrecedes}
use Rattle.lx_posix.specs.Starts.{AreWeighed, level_from}
use Rattle.lx_posix.specs.Walks.{after, kept, lowest}
use Rattle.lx_posix.proofs.Counted.NumbersOfCuts.{before_of, first_of}
use Rattle.lx_posix.proofs.Fronts.LesserWalks.{walk_units}
use Rattle.lx_posix.proofs.Kernels.ListedKernels.{precedes_asym}
use Rattle.lx_posix.proofs.Lists.RankedCuts.{AreRanked, InOrder}
use Rattle.lx_posix.proofs.Lists.RankedSteps.{nth_of_slice}
use Rattle.lx_posix.proofs.Orders.CutOrder.{across}

module _ (enc : Enc) (rules : List Term) where
  -- one cut comes first by this comparison of numbers, and the other by its contrary
  weigh : (w : List ℕ) (j k : Cut) (n h : ℕ) → IsCut enc rules w j → IsCut enc rules w k → (h < n → PosixPrecedes enc rules k j)
      → (n ≤ h → PosixPrecedes enc rules j k)
      → ((PosixPrecedes enc rules j k → n ≤ h) × (n ≤ h → PosixPrecedes enc rules j k))
      × ((PosixPrecedes enc rules k j → h < n) × (h < n → PosixPrecedes enc rules k j))
  weigh w j k n h ij ik less more = (
    (λ p. ⊎_elim (λ lt. absurd (precedes_asym enc rules w j k ij ik p (less lt))) (λ ge. ge) (cases_lt h n), more),
    (λ p. ⊎_elim (λ lt. lt) (λ ge. absurd (precedes_asym enc rules w j k ij ik (more ge) p)) (cases_lt h n), less),
  )

module _ (enc : Enc) (rules : List Term) (next : ℕ → ℕ → List ℕ) (added : ℕ → ℕ → ℕ → List Symbol) (number : ℕ → List Symbol → ℕ)
    (numbers : NumbersLeaves enc rules next added number) (w : List ℕ) (es : List Entry) (ss : List Ranked)
    (are : AreRanked enc rules next added number numbers w es ss) where
  pub entries_weighed : (u i j : ℕ) (e f : Entry) (y z : List Symbol) → i < j → IsNth es i e → IsNth es j f → EndsInUnit y → EndsInUnit z
      → IsCut enc rules (forwards w ++ u ∷ []) (after (cut_of e) y) → IsCut enc rules (forwards w ++ u ∷ []) (after (cut_of f) z)
      → AreWeighed enc rules ss i y j z (after (cut_of e) y) (after (cut_of f) z)
  entries_weighed u i j e f y z lt at at' iy iz jy kz = (
    λ less.
        let a = are.rule i e at in
        let b = are.rule j f at' in
        inl (omega arith),
    λ same. by same (are.order i j e f lt at at'),
  )
    where
      n : ℕ
      n = number_between ss i j

      by : (ranked_at ss i).rule ≡ (ranked_at ss j).rule → InOrder enc rules next added number numbers w e f n
          → ((PosixPrecedes enc rules (after (cut_of e) y) (after (cut_of f) z) → min n (level_from ss j z) ≤ level_from ss i y)
          × (min n (level_from ss j z) ≤ level_from ss i y → PosixPrecedes enc rules (after (cut_of e) y) (after (cut_of f) z)))
          × ((PosixPrecedes enc rules (after (cut_of f) z) (after (cut_of e) y) → level_from ss i y < min n (level_from ss j z))
          × (level_from ss i y < min n (level_from ss j z) → PosixPrecedes enc rules (after (cut_of f) z) (after (cut_of e) y)))
      by same (inl less) =
          let a = are.rule i e at in
          let b = are.rule j f at' in
          absurd (omega arith)
      by same (inr o) =
          let a = o.1 in
          let b = o.2 in
          let s =
          across enc rules (cut_of e) (cut_of f) y z jy.possible.0 kz.possible.0 u u n a.after_unit b.after_unit
          (a.reads_word ∙ sym b.reads_word) iy iz (walk_units enc rules (forwards w) (cut_of e) y u a jy)
          (walk_units enc rules (forwards w) (cut_of f) z u b kz) jy.possible.1 kz.possible.1
          (before_of enc rules (forwards w) (cut_of e) (cut_of f) n a b o.3) in
          let p : level_from ss i y ≡ kept (cut_of e) y = ap (λ d. lowest d d y) (are.depth i e at) in
          let q : level_from ss j z ≡ kept (cut_of f) z = ap (λ d. lowest d d z) (are.depth j f at') in
          weigh enc rules (forwards w ++ u ∷ []) (after (cut_of e) y) (after (cut_of f) z) (min n (level_from ss j z)) (level_from ss i y)
          jy kz
          (λ less. inr (_, first_of enc rules (forwards w ++ u ∷ []) _ _ _ kz jy (s.0 (omega arith))))
          (λ more. inr (_, first_of enc rules (forwards w ++ u ∷ []) _ _ _ jy kz (s.1 (omega arith))))

  pub places_weighed : (u i j : ℕ) (cut other : Cut) (y z : List Symbol) → i < j → slice_get (map cut_of es) i ≡ Some cut
      → slice_get (map cut_of es) j ≡ Some other → EndsInUnit y → EndsInUnit z
      → IsCut enc rules (forwards w ++ u ∷ []) (after cut y) → IsCut enc rules (forwards w ++ u ∷ []) (after other z)
      → AreWeighed enc rules ss i y j z (after cut y) (after other z)
  places_weighed u i j cut other y z lt h k iy iz jy kz =
      let a = nth_unmap cut_of es i cut (nth_of_slice (map cut_of es) i cut h) in
      let b = nth_unmap cut_of es j other (nth_of_slice (map cut_of es) j other k) in
      subst (λ c. AreWeighed enc rules ss i y j z (after c y) (after other z)) a.2
      (subst (λ c. AreWeighed enc rules ss i y j z (after (cut_of a.0) y) (after c z)) b.2
      (entries_weighed u i j a.0 b.0 y z lt a.1 b.1 iy iz
      (subst (λ c. IsCut enc rules (forwards w ++ u ∷ []) (after c y)) (sym a.2) jy)
      (subst (λ c. IsCut enc rules (forwards w ++ u ∷ []) (after c z)) (sym b.2) kz)))
