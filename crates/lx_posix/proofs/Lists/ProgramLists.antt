-- The lists that are computed for words by the numbers of places of the automaton of the program are their kernels.
use Rattle.std.proofs.Common.{sym, ap, ◌∙◌, subst, arith, ⊎_elim}
use Rattle.std.proofs.lemmas.List.{length-reverse, reverse-append}
use Rattle.std.specs.Prelude.{◌≡◌, ◌≢◌, ◌↔◌, ℕ, ◌<◌, List, [], ◌∷◌, ◌++◌, length, map, reverse, None, Some, slice_get, refl}
use Rattle.lx_base.specs.declared.settings.Enc.{Enc}
use Rattle.lx_regex.specs.Automaton.{automaton}
use Rattle.lx_regex.specs.ClassLimits.{AllClassesFit}
use Rattle.lx_regex.specs.Cut.{Cut}
use Rattle.lx_regex.specs.Order.{posix}
use Rattle.lx_regex.specs.Pattern.{Pattern, terms_of}
use Rattle.lx_regex.specs.Script.{Symbol}
use Rattle.lx_regex.specs.Term.{Term}
use Rattle.lx_regex.specs.Values.{all_events, last_event}
use Rattle.lx_regex.specs.Walk.{mark}
use Rattle.lx_tnfa.specs.LeafReadings.{IsNth}
use Rattle.lx_tnfa.specs.PlaceNumbers.{number_behind, numbers_after, symbols_added}
use Rattle.lx_tnfa.specs.Tnfa.{IsTnfaOf, Tnfa}
use Rattle.lx_tnfa.proofs.Construction.NthLists.{nth_unmap}
use Rattle.lx_tnfa.proofs.Leaves.LeafNumbering.{automaton_numbers}
use Rattle.lx_tdfa.specs.Accepts.{Accepts}
use Rattle.lx_tdfa.specs.Graph.{graph_of, rule_starts}
use Rattle.lx_tdfa.specs.Kernels.{Entry, cut_of, segment_symbols}
use Rattle.lx_tdfa.specs.Values.{value_at}
use Rattle.lx_tdfa.proofs.Values.ValueSteps.{forwards}
use Rattle.lx_tdfa.proofs.WordKernels.ProgramKernels.{forwards-reverse}
use Rattle.lx_posix.specs.Accepts.{posix_accept_after}
use Rattle.lx_posix.specs.Comparing.{Ranked, number_between, ranked_at}
use Rattle.lx_posix.specs.KernelLists.{entries_by, entry_list, posix_kernel_after, posix_segments, rank_list, ranks_after, ranks_step}
use Rattle.lx_posix.specs.KernelValues.{posix_all_values_after, posix_last_values_after}
use Rattle.lx_posix.specs.LevelPaths.{state_depth}
use Rattle.lx_posix.specs.Numbers.{IsFirstOf}
use Rattle.lx_posix.specs.PosixKernel.{IsPosixKernel, IsSameKernel}
use Rattle.lx_posix.specs.Walks.{depth}
use Rattle.lx_posix.proofs.Kernels.FirstUnit.{empty_kernel}
use Rattle.lx_posix.proofs.Lists.RankedAccepts.{accepts_best}
use Rattle.lx_posix.proofs.Lists.RankedAlike.{one_kernel, one_list}
use Rattle.lx_posix.proofs.Lists.RankedCuts.{AreRanked}
use Rattle.lx_posix.proofs.Lists.RankedKernels.{each_kernel, each_ranked, entries_of, ranks_of}
use Rattle.lx_posix.proofs.Lists.RankedSteps.{nth_of_slice}
use Rattle.lx_posix.proofs.Lists.RankedValues.{all_kept, last_kept}
use Rattle.lx_posix.proofs.Searches.PlaceDepths.{place_deep}

module _ (enc : Enc) (patterns : List Pattern) (tnfa : Tnfa) (of : IsTnfaOf enc patterns tnfa)
    (fits : AllClassesFit enc (terms_of patterns)) where
  -- what is kept after a word is right of its list
  pub ranked_after : (word : List ℕ)
      → AreRanked enc (terms_of patterns) (numbers_after tnfa) (symbols_added tnfa) (number_behind tnfa)
      (automaton_numbers enc patterns tnfa of fits)
      (reverse word) (posix_kernel_after tnfa (terms_of patterns) word) (ranks_after tnfa (terms_of patterns) word)
  ranked_after word =
      each_ranked enc (terms_of patterns) (numbers_after tnfa) (symbols_added tnfa) (number_behind tnfa)
      (automaton_numbers enc patterns tnfa of fits)
      (reverse word)

  listed : (w word : List ℕ) → forwards w ≡ word → word ≢ []
      → IsPosixKernel enc (terms_of patterns) word
      (map cut_of (entries_of enc (terms_of patterns) (numbers_after tnfa) (symbols_added tnfa) (number_behind tnfa)
      (automaton_numbers enc patterns tnfa of fits) w))
  listed [] word e ne = absurd (ne (sym e))
  listed (u ∷ w) word e ne =
      subst
      (λ l. IsPosixKernel enc (terms_of patterns) l
      (map cut_of (entries_of enc (terms_of patterns) (numbers_after tnfa) (symbols_added tnfa) (number_behind tnfa)
      (automaton_numbers enc patterns tnfa of fits) (u ∷ w)))) e
      (each_kernel enc (terms_of patterns) (numbers_after tnfa) (symbols_added tnfa) (number_behind tnfa)
      (automaton_numbers enc patterns tnfa of fits) u w)

  pub listed_kernel : (word : List ℕ) → word ≢ []
      → IsPosixKernel enc (terms_of patterns) word (map cut_of (posix_kernel_after tnfa (terms_of patterns) word))
  listed_kernel word ne = listed (reverse word) word (forwards-reverse word) ne

  pub some_kernel : (word : List ℕ) → (kernel : List Cut) × IsPosixKernel enc (terms_of patterns) word kernel
  some_kernel [] = (record { rule = 0; front = [] } ∷ [], empty_kernel enc (terms_of patterns) _ refl)
  some_kernel (u ∷ word) = (map cut_of (posix_kernel_after tnfa (terms_of patterns) (u ∷ word)), listed_kernel (u ∷ word) (none u word))
    where
      none : (u : ℕ) (word : List ℕ) → u ∷ word ≢ []
      none u word e = cc

  -- with two places of one rule the kernel keeps the number that is computed
  pub listed_numbers : (word : List ℕ) (i j : ℕ) (cut other : Cut) → i < j
      → slice_get (map cut_of (posix_kernel_after tnfa (terms_of patterns) word)) i ≡ Some cut
      → slice_get (map cut_of (posix_kernel_after tnfa (terms_of patterns) word)) j ≡ Some other → cut.rule ≡ other.rule
      → IsFirstOf enc (terms_of patterns) cut other (number_between (ranks_after tnfa (terms_of patterns) word) i j)
  listed_numbers word i j cut other lt h k same =
      let es : List Entry = posix_kernel_after tnfa (terms_of patterns) word in
      let a = nth_unmap cut_of es i cut (nth_of_slice (map cut_of es) i cut h) in
      let b = nth_unmap cut_of es j other (nth_of_slice (map cut_of es) j other k) in
      ⊎_elim
      (λ less.
      let x = ap (λ (c : Cut). c.rule) a.2 in
      let y = ap (λ (c : Cut). c.rule) b.2 in
      absurd (omega arith))
      (λ o.
      subst (λ c. IsFirstOf enc (terms_of patterns) c other (number_between (ranks_after tnfa (terms_of patterns) word) i j)) a.2
      (subst (λ c. IsFirstOf enc (terms_of patterns) (cut_of a.0) c
      (number_between (ranks_after tnfa (terms_of patterns) word) i j)) b.2 o.3))
      ((ranked_after word).order i j a.0 b.0 lt a.1 b.1)

  abbrev list : List ℕ → List Entry
  list w = entries_of enc (terms_of patterns) (numbers_after tnfa) (symbols_added tnfa) (number_behind tnfa)
      (automaton_numbers enc patterns tnfa of fits) w

  abbrev ranks : List ℕ → List Ranked
  ranks w = ranks_of enc (terms_of patterns) (numbers_after tnfa) (symbols_added tnfa) (number_behind tnfa)
      (automaton_numbers enc patterns tnfa of fits) w

  pub alike_lists : (word other : List ℕ) → word ≢ [] → other ≢ []
      → (ranks_after tnfa (terms_of patterns) word ≡ ranks_after tnfa (terms_of patterns) other)
      ↔ IsSameKernel enc (terms_of patterns) (map cut_of (posix_kernel_after tnfa (terms_of patterns) word))
      (map cut_of (posix_kernel_after tnfa (terms_of patterns) other))
  alike_lists word other ne ne' = at (reverse word) (reverse other) (some word ne) (some other ne')
    where
      some : (word : List ℕ) → word ≢ [] → reverse word ≢ []
      some word ne e = ne (sym (forwards-reverse word) ∙ ap forwards e)

      right : (w : List ℕ)
          → AreRanked enc (terms_of patterns) (numbers_after tnfa) (symbols_added tnfa) (number_behind tnfa)
          (automaton_numbers enc patterns tnfa of fits) w (list w) (ranks w)
      right w =
          each_ranked enc (terms_of patterns) (numbers_after tnfa) (symbols_added tnfa) (number_behind tnfa)
          (automaton_numbers enc patterns tnfa of fits) w

      at : (w v : List ℕ) → w ≢ [] → v ≢ []
          → (ranks w ≡ ranks v) ↔ IsSameKernel enc (terms_of patterns) (map cut_of (list w)) (map cut_of (list v))
      at [] v n m = absurd (n refl)
      at (u ∷ w) [] n m = absurd (m refl)
      at (u ∷ w) (x ∷ v) n m = (
        one_kernel enc (terms_of patterns) (numbers_after tnfa) (symbols_added tnfa) (number_behind tnfa)
            (automaton_numbers enc patterns tnfa of fits) u w x v (list (u ∷ w)) (list (x ∷ v)) (ranks (u ∷ w)) (ranks (x ∷ v))
            (right (u ∷ w)) (right (x ∷ v)),
        one_list enc (terms_of patterns) (numbers_after tnfa) (symbols_added tnfa) (number_behind tnfa)
            (automaton_numbers enc patterns tnfa of fits) u w x v (list (u ∷ w)) (list (x ∷ v)) (ranks (u ∷ w)) (ranks (x ∷ v))
            (right (u ∷ w)) (right (x ∷ v)),
      )

  pub accepted_best : (word : List ℕ)
      → Accepts posix enc (terms_of patterns) word (posix_kernel_after tnfa (terms_of patterns) word)
      (posix_accept_after tnfa (terms_of patterns) word)
  accepted_best word =
      subst
      (λ l. Accepts posix enc (terms_of patterns) l (posix_kernel_after tnfa (terms_of patterns) word)
      (posix_accept_after tnfa (terms_of patterns) word)) (forwards-reverse word)
      (accepts_best enc (terms_of patterns) (numbers_after tnfa) (symbols_added tnfa) (number_behind tnfa)
      (automaton_numbers enc patterns tnfa of fits) (reverse word))

  pub last_value : (word : List ℕ) (tag from : ℕ) (entry : Entry) (rest : List Symbol)
      → IsNth (posix_kernel_after tnfa (terms_of patterns) word) from entry
      → last_event tag 0 None (entry.front ++ rest)
      ≡ last_event tag (length word) (value_at None (posix_last_values_after tnfa (terms_of patterns) word tag) from) rest
  last_value word tag from entry rest at =
      last_kept enc (terms_of patterns) (numbers_after tnfa) (symbols_added tnfa) (number_behind tnfa)
      (automaton_numbers enc patterns tnfa of fits) tag (reverse word) from entry rest at
      ∙ ap (λ n. last_event tag n (value_at None (posix_last_values_after tnfa (terms_of patterns) word tag) from) rest)
      (length-reverse word)

  pub all_values : (word : List ℕ) (tag from : ℕ) (entry : Entry) (rest : List Symbol)
      → IsNth (posix_kernel_after tnfa (terms_of patterns) word) from entry
      → all_events tag 0 (entry.front ++ rest)
      ≡ value_at [] (posix_all_values_after tnfa (terms_of patterns) word tag) from ++ all_events tag (length word) rest
  all_values word tag from entry rest at =
      all_kept enc (terms_of patterns) (numbers_after tnfa) (symbols_added tnfa) (number_behind tnfa)
      (automaton_numbers enc patterns tnfa of fits) tag (reverse word) from entry rest at
      ∙ ap (λ n. value_at [] (posix_all_values_after tnfa (terms_of patterns) word tag) from ++ all_events tag n rest) (length-reverse word)

  pub place_depth : (word : List ℕ) (index : ℕ) (entry : Entry) → IsNth (posix_kernel_after tnfa (terms_of patterns) word) index entry
      → entry.place < length (automaton (terms_of patterns))
      → state_depth (terms_of patterns) entry.place
      ≡ depth (ranked_at (ranks_after tnfa (terms_of patterns) word) index).depth (mark entry.place ∷ [])
  place_depth word index entry at low =
      place_deep enc (terms_of patterns) (numbers_after tnfa) (symbols_added tnfa) (number_behind tnfa)
      (automaton_numbers enc patterns tnfa of fits) (reverse word) entry.keys entry.front entry.place
      ((ranked_after word).run index entry at) low
      ∙ ap (λ d. depth d (mark entry.place ∷ [])) (sym ((ranked_after word).depth index entry at))

pub kernels_go_on : (tnfa : Tnfa) (rules : List Term) (word : List ℕ) (unit : ℕ)
    → posix_kernel_after tnfa rules (word ++ unit ∷ [])
    ≡ entries_by tnfa rules (posix_kernel_after tnfa rules word) unit (posix_segments tnfa rules (ranks_after tnfa rules word) unit)
kernels_go_on tnfa rules word unit =
    ap
    (λ w. entry_list (graph_of (automaton rules)) (numbers_after tnfa) (segment_symbols rules (symbols_added tnfa)) (rule_starts rules) w)
    (reverse-append word (unit ∷ []))

pub ranks_go_on : (tnfa : Tnfa) (rules : List Term) (word : List ℕ) (unit : ℕ)
    → ranks_after tnfa rules (word ++ unit ∷ []) ≡ ranks_step tnfa rules (ranks_after tnfa rules word) unit
ranks_go_on tnfa rules word unit =
    ap
    (λ w. rank_list (graph_of (automaton rules)) (numbers_after tnfa) (segment_symbols rules (symbols_added tnfa)) (rule_starts rules) w)
    (reverse-append word (unit ∷ []))
