-- The lists that are computed for words by their places in the automaton of the program are their kernels.
use Rattle.std.proofs.Common.{sym, ap, ◌∙◌, subst, inl, inr}
use Rattle.std.proofs.lemmas.List.{reverse-append, reverse-reverse}
use Rattle.std.specs.Prelude.{◌≡◌, ◌≢◌, ◌↔◌, ℕ, List, [], ◌∷◌, ◌++◌, map, reverse, Some, slice_get, refl}
use Rattle.lx_regex.specs.ClassLimits.{AllClassesFit}
use Rattle.lx_base.specs.declared.settings.Enc.{Enc}
use Rattle.lx_regex.specs.Automaton.{automaton}
use Rattle.lx_regex.specs.Cut.{BeginsMatch, Precedes}
use Rattle.lx_regex.specs.Kernel.{IsKernel, SamePlaces}
use Rattle.lx_regex.specs.Pattern.{Pattern, terms_of}
use Rattle.lx_regex.specs.Script.{Symbol}
use Rattle.lx_regex.specs.Term.{Term}
use Rattle.lx_tnfa.specs.LeafReadings.{NumbersLeaves}
use Rattle.lx_tnfa.specs.PlaceNumbers.{number_behind, numbers_after, symbols_added}
use Rattle.lx_tnfa.specs.Tnfa.{IsTnfaOf, Tnfa}
use Rattle.lx_tnfa.proofs.Leaves.LeafNumbering.{automaton_numbers}
use Rattle.lx_tdfa.specs.Graph.{graph_of, rule_starts}
use Rattle.lx_tdfa.specs.Kernels.{Entry, cut_of, kernel_after, kernel_list, next_candidates, places, places_step, segment_symbols}
use Rattle.lx_tdfa.proofs.WordKernels.KernelsListed.{kernel_is_listed}
use Rattle.lx_tdfa.proofs.Loops.PlaceLists.{lists_alike, places_of_entries}
use Rattle.lx_tdfa.proofs.Values.ValueSteps.{forwards}

forwards-is : (w : List ℕ) → forwards w ≡ reverse w
forwards-is [] = refl
forwards-is (u ∷ w) = ap (λ l. l ++ u ∷ []) (forwards-is w) ∙ sym (reverse-append (u ∷ []) w)

pub forwards-reverse : (w : List ℕ) → forwards (reverse w) ≡ w
forwards-reverse w = forwards-is (reverse w) ∙ reverse-reverse w

module _ (enc : Enc) (rules : List Term) (after : ℕ → ℕ → List ℕ) (added : ℕ → ℕ → ℕ → List Symbol) (number : ℕ → List Symbol → ℕ) (numbers : NumbersLeaves enc rules after added number) where
  abbrev list_of : List ℕ → List Entry
  list_of w = kernel_list (graph_of (automaton rules)) after (segment_symbols rules added) (rule_starts rules) w

  -- of a word whose last unit comes first
  listed : (w word : List ℕ) → forwards w ≡ word → word ≢ [] → IsKernel Precedes enc rules word (map cut_of (list_of w))
  listed [] word e ne = absurd (ne (sym e))
  listed (u ∷ w) word e ne =
      subst (λ l. IsKernel Precedes enc rules l (map cut_of (list_of (u ∷ w)))) e (kernel_is_listed enc rules after added number numbers u w)

  -- a kernel is empty exactly where there is no cut
  empty_cuts : (word : List ℕ) (es : List Entry) → word ≢ [] → IsKernel Precedes enc rules word (map cut_of es)
      → (es ≡ []) ↔ (BeginsMatch enc rules word → ⊥)
  empty_cuts word es ne kernel = ((λ e begins. bare e begins), (λ not. none es kernel not))
    where
      bare : es ≡ [] → BeginsMatch enc rules word → ⊥
      bare e (inl is) = ne is
      bare e (inr cut) =
          let r = kernel.every cut.0 ne cut.1 in
          let z : slice_get (map cut_of []) r.0 ≡ Some r.1 = subst (λ l. slice_get (map cut_of l) r.0 ≡ Some r.1) e r.2 in
          cc

      none : (es : List Entry) → IsKernel Precedes enc rules word (map cut_of es) → (BeginsMatch enc rules word → ⊥) → es ≡ []
      none [] kernel not = refl
      none (x ∷ es) kernel not = absurd (not (inr (cut_of x, kernel.cuts 0 (cut_of x) ne refl)))

module _ (enc : Enc) (patterns : List Pattern) (tnfa : Tnfa) (of : IsTnfaOf enc patterns tnfa) (fits : AllClassesFit enc (terms_of patterns)) (word : List ℕ) (ne : word ≢ []) where
  pub kernel_after-kernel : IsKernel Precedes enc (terms_of patterns) word (map cut_of (kernel_after tnfa (terms_of patterns) word))
  kernel_after-kernel =
      listed enc (terms_of patterns) (numbers_after tnfa) (symbols_added tnfa) (number_behind tnfa) (automaton_numbers enc patterns tnfa of fits)
      (reverse word) word (forwards-reverse word) ne

  pub kernel_after-empty : (kernel_after tnfa (terms_of patterns) word ≡ []) ↔ (BeginsMatch enc (terms_of patterns) word → ⊥)
  kernel_after-empty =
      empty_cuts enc (terms_of patterns) (numbers_after tnfa) (symbols_added tnfa) (number_behind tnfa) (automaton_numbers enc patterns tnfa of fits)
      word (kernel_after tnfa (terms_of patterns) word) ne kernel_after-kernel

-- of a word whose last unit comes first
abbrev list_behind : Tnfa → List Term → List ℕ → List Entry
list_behind tnfa rules w =
    kernel_list (graph_of (automaton rules)) (numbers_after tnfa) (segment_symbols rules (symbols_added tnfa)) (rule_starts rules) w

module _ (enc : Enc) (patterns : List Pattern) (tnfa : Tnfa) (of : IsTnfaOf enc patterns tnfa) (fits : AllClassesFit enc (terms_of patterns)) where
  abbrev rules : List Term
  rules = terms_of patterns

  abbrev after_word : List ℕ → List Entry
  after_word word = kernel_after tnfa rules word

  pub kernel_after-alike : (word other : List ℕ) → word ≢ [] → other ≢ []
      → (places (after_word word) ≡ places (after_word other)) ↔ SamePlaces enc (terms_of patterns) (map cut_of (after_word word)) (map cut_of (after_word other))
  kernel_after-alike word other ne ne' = at (reverse word) (reverse other) (some word ne) (some other ne')
    where
      some : (word : List ℕ) → word ≢ [] → reverse word ≢ []
      some word ne e = ne (sym (forwards-reverse word) ∙ ap forwards e)

      at : (w v : List ℕ) → w ≢ [] → v ≢ []
          → (places (list_behind tnfa rules w) ≡ places (list_behind tnfa rules v)) ↔ SamePlaces enc rules (map cut_of (list_behind tnfa rules w)) (map cut_of (list_behind tnfa rules v))
      at [] v n m = absurd (n refl)
      at (u ∷ w) [] n m = absurd (m refl)
      at (u ∷ w) (x ∷ v) n m =
          lists_alike enc (terms_of patterns) (numbers_after tnfa) (symbols_added tnfa) (number_behind tnfa) (automaton_numbers enc patterns tnfa of fits) u w x v

pub kernel_after-step : (tnfa : Tnfa) (rules : List Term) (word : List ℕ) (unit : ℕ)
    → places (kernel_after tnfa rules (word ++ unit ∷ [])) ≡ places_step tnfa rules (places (kernel_after tnfa rules word)) unit
kernel_after-step tnfa rules word unit =
    ap (λ w. places (list_behind tnfa rules w)) (reverse-append word (unit ∷ []))
    ∙ places_of_entries (graph_of (automaton rules)) (numbers_after tnfa) (segment_symbols rules (symbols_added tnfa)) (rule_starts rules)
    (kernel_after tnfa rules word) unit
    (next_candidates (graph_of (automaton rules)) (numbers_after tnfa) (segment_symbols rules (symbols_added tnfa)) (rule_starts rules)
    (places (kernel_after tnfa rules word)) unit)
