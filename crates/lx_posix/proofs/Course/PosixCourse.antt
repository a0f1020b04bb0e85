-- The course of words under the POSIX order: their kernels as lists, and what is kept beside the places.
use Rattle.std.proofs.Common.{inl, inr, ap, ◌∙◌, subst}
use Rattle.std.proofs.lemmas.List.{length-reverse, reverse-append}
use Rattle.std.specs.Prelude.{◌≡◌, ◌≢◌, ◌↔◌, ℕ, zero, suc, List, [], ◌∷◌, ◌++◌, length, map, Option, None, Some, Bool, slice_get, refl}
use Rattle.lx_base.specs.declared.settings.Enc.{Enc}
use Rattle.lx_regex.specs.Automaton.{automaton}
use Rattle.lx_regex.specs.ClassLimits.{AllClassesFit}
use Rattle.lx_regex.specs.Cut.{BeginsMatch}
use Rattle.lx_regex.specs.Order.{posix}
use Rattle.lx_regex.specs.Pattern.{Pattern, terms_of}
use Rattle.lx_regex.specs.Term.{Term}
use Rattle.lx_regex.specs.Values.{all_events, last_event}
use Rattle.lx_tnfa.specs.PlaceNumbers.{numbers_after, symbols_added}
use Rattle.lx_tnfa.specs.Tnfa.{IsTnfaOf, Tnfa}
use Rattle.lx_tdfa.specs.Graph.{graph_of, rule_starts}
use Rattle.lx_tdfa.specs.Kernels.{Candidate, Entry, cut_of, places, segment_symbols}
use Rattle.lx_tdfa.specs.Values.{value_at}
use Rattle.lx_tdfa.proofs.Loops.PlaceLists.{places_of_entries}
use Rattle.lx_tdfa.proofs.Tables.Courses.{Course}
use Rattle.lx_tdfa.proofs.Tables.TableBegins.{nil_of_map}
use Rattle.lx_tdfa.proofs.Values.StepValues.{all_on, last_on}
use Rattle.lx_posix.specs.Accepts.{posix_accept_after}
use Rattle.lx_posix.specs.Comparing.{Ranked}
use Rattle.lx_posix.specs.KernelLists.{places_of, posix_kernel_after, posix_segments, ranks_after}
use Rattle.lx_posix.specs.KernelValues.{posix_all_values_after, posix_last_values_after, values_beside}
use Rattle.lx_posix.specs.PosixKernel.{IsPosixKernel}
use Rattle.lx_posix.proofs.Lists.ProgramLists.{accepted_best, all_values, kernels_go_on, last_value, listed_kernel, ranked_after}

-- ---- word by word

module _ (tnfa : Tnfa) (rules : List Term) (word : List ℕ) (unit : ℕ) where
  -- the places after one more unit are those to which segments lead
  pub posix_places-more : places (posix_kernel_after tnfa rules (word ++ unit ∷ []))
      ≡ map (λ (candidate : Candidate). candidate.to) (posix_segments tnfa rules (ranks_after tnfa rules word) unit)
  posix_places-more =
      ap places (kernels_go_on tnfa rules word unit)
      ∙ places_of_entries (graph_of (automaton rules)) (numbers_after tnfa) (segment_symbols rules (symbols_added tnfa)) (rule_starts rules)
      (posix_kernel_after tnfa rules word) unit (posix_segments tnfa rules (ranks_after tnfa rules word) unit)

  -- and the values beside them
  pub posix_last_values-more : (first : Bool) (tag : ℕ) → posix_last_values_after tnfa rules (word ++ unit ∷ []) tag
      ≡ last_on tnfa rules first unit (length word) tag (posix_kernel_after tnfa rules word) (posix_last_values_after tnfa rules word tag)
      (posix_segments tnfa rules (ranks_after tnfa rules word) unit)
  posix_last_values-more first tag =
      ap (λ w. values_beside (Option ℕ) None (λ here value symbols. last_event tag here value symbols) (graph_of (automaton rules))
      (numbers_after tnfa) (segment_symbols rules (symbols_added tnfa)) (rule_starts rules) w) (reverse-append word (unit ∷ []))
      ∙ ap (λ here. last_on tnfa rules first unit here tag (posix_kernel_after tnfa rules word)
      (posix_last_values_after tnfa rules word tag) (posix_segments tnfa rules (ranks_after tnfa rules word) unit)) (length-reverse word)

  pub posix_all_values-more : (first : Bool) (tag : ℕ) → posix_all_values_after tnfa rules (word ++ unit ∷ []) tag
      ≡ all_on tnfa rules first unit (length word) tag (posix_kernel_after tnfa rules word) (posix_all_values_after tnfa rules word tag)
      (posix_segments tnfa rules (ranks_after tnfa rules word) unit)
  posix_all_values-more first tag =
      ap (λ w. values_beside (List (Option ℕ)) [] (λ here value symbols. value ++ all_events tag here symbols) (graph_of (automaton rules))
      (numbers_after tnfa) (segment_symbols rules (symbols_added tnfa)) (rule_starts rules) w) (reverse-append word (unit ∷ []))
      ∙ ap (λ here. all_on tnfa rules first unit here tag (posix_kernel_after tnfa rules word)
      (posix_all_values_after tnfa rules word tag) (posix_segments tnfa rules (ranks_after tnfa rules word) unit)) (length-reverse word)

-- beside places with no values
pub value_at-bare : {X Y : Type 0} (none : X) (ys : List Y) (from : ℕ) → value_at none (map (λ (y : Y). none) ys) from ≡ none
value_at-bare none [] from = refl
value_at-bare none (y ∷ ys) zero = refl
value_at-bare none (y ∷ ys) (suc from) = value_at-bare none ys from

-- ---- the course

module _ (enc : Enc) (patterns : List Pattern) (tnfa : Tnfa) (of : IsTnfaOf enc patterns tnfa)
    (fits : AllClassesFit enc (terms_of patterns)) where
  -- what is kept after a word has the places of its list
  pub ranks_after-places : (word : List ℕ)
      → places_of (ranks_after tnfa (terms_of patterns) word) ≡ places (posix_kernel_after tnfa (terms_of patterns) word)
  ranks_after-places word = (ranked_after enc patterns tnfa of fits word).places

  pub ranks_after-none : (word : List ℕ) → posix_kernel_after tnfa (terms_of patterns) word ≡ []
      → ranks_after tnfa (terms_of patterns) word ≡ []
  ranks_after-none word none =
      nil_of_map (λ (ranked : Ranked). ranked.place) (ranks_after tnfa (terms_of patterns) word) (ranks_after-places word ∙ ap places none)

  pub segments-stuck : (word : List ℕ) (unit : ℕ) → posix_kernel_after tnfa (terms_of patterns) word ≡ []
      → posix_segments tnfa (terms_of patterns) (ranks_after tnfa (terms_of patterns) word) unit ≡ []
  segments-stuck word unit none = ap (λ ranks. posix_segments tnfa (terms_of patterns) ranks unit) (ranks_after-none word none)

  pub kernel-begins : (word : List ℕ) (es : List Entry) → word ≢ [] → es ≢ [] → IsPosixKernel enc (terms_of patterns) word (map cut_of es)
      → BeginsMatch enc (terms_of patterns) word
  kernel-begins word [] ne some kernel = absurd (some refl)
  kernel-begins word (e ∷ es) ne some kernel = inr (cut_of e, kernel.cuts 0 (cut_of e) ne refl)

  -- a kernel is empty where its word begins no match
  pub kernel-empty : (word : List ℕ) (es : List Entry) → word ≢ [] → IsPosixKernel enc (terms_of patterns) word (map cut_of es)
      → (es ≡ []) ↔ (BeginsMatch enc (terms_of patterns) word → ⊥)
  kernel-empty word es ne kernel = ((λ e begins. bare e begins), (λ not. none es kernel not))
    where
      bare : es ≡ [] → BeginsMatch enc (terms_of patterns) word → ⊥
      bare e (inl is) = ne is
      bare e (inr cut) =
          let r = kernel.every cut.0 ne cut.1 in
          let z : slice_get (map cut_of []) r.0 ≡ Some r.1 = subst (λ l. slice_get (map cut_of l) r.0 ≡ Some r.1) e r.2 in
          cc

      none : (es : List Entry) → IsPosixKernel enc (terms_of patterns) word (map cut_of es)
          → (BeginsMatch enc (terms_of patterns) word → ⊥) → es ≡ []
      none [] kernel not = refl
      none (x ∷ es) kernel not = absurd (not (inr (cut_of x, kernel.cuts 0 (cut_of x) ne refl)))

  unfoldable pub posix_course : Course posix enc patterns tnfa
  posix_course = record {
    entries = posix_kernel_after tnfa (terms_of patterns);
    segments = λ word unit. posix_segments tnfa (terms_of patterns) (ranks_after tnfa (terms_of patterns) word) unit;
    last = posix_last_values_after tnfa (terms_of patterns);
    all = posix_all_values_after tnfa (terms_of patterns);
    accept = posix_accept_after tnfa (terms_of patterns);
    start = refl;
    onward = posix_places-more tnfa (terms_of patterns);
    stuck = segments-stuck;
    begins = λ word ne.
        kernel-empty word (posix_kernel_after tnfa (terms_of patterns) word) ne (listed_kernel enc patterns tnfa of fits word ne);
    full = λ word ne some.
        kernel-begins word (posix_kernel_after tnfa (terms_of patterns) word) ne some (listed_kernel enc patterns tnfa of fits word ne);
    last_start = λ tag from. value_at-bare None (posix_kernel_after tnfa (terms_of patterns) []) from;
    all_start = λ tag from. value_at-bare [] (posix_kernel_after tnfa (terms_of patterns) []) from;
    last_onward = posix_last_values-more tnfa (terms_of patterns);
    all_onward = posix_all_values-more tnfa (terms_of patterns);
    last_kept = last_value enc patterns tnfa of fits;
    all_kept = all_values enc patterns tnfa of fits;
    accepts = accepted_best enc patterns tnfa of fits;
  }
