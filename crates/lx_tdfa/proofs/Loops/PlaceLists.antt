-- Lists of places tell kernels apart, and a step is one from a list of places to the next.
use Rattle.std.proofs.Common.{ap, ap₂}
use Rattle.std.specs.Prelude.{◌≡◌, ◌↔◌, ℕ, List, [], ◌∷◌, map, refl}
use Rattle.lx_base.specs.declared.settings.Enc.{Enc}
use Rattle.lx_regex.specs.Automaton.{automaton}
use Rattle.lx_regex.specs.Kernel.{SamePlaces}
use Rattle.lx_regex.specs.Script.{Symbol}
use Rattle.lx_regex.specs.Term.{Term}
use Rattle.lx_tnfa.specs.LeafReadings.{NumbersLeaves}
use Rattle.lx_tnfa.proofs.Searching.SearchBasics.{Each}
use Rattle.lx_tdfa.specs.Graph.{graph_of, rule_starts}
use Rattle.lx_tdfa.specs.Kernels.{Candidate, Entry, Key, cut_of, entries, kernel_list, places, segment_symbols}
use Rattle.lx_tdfa.proofs.WordKernels.KernelSteps.{kernel_list-first_runs}
use Rattle.lx_tdfa.proofs.WordKernels.KernelsListed.{same_number, same_place}
use Rattle.lx_tdfa.proofs.WordKernels.OrderedLists.{each_from}
use Rattle.lx_tdfa.proofs.WordKernels.RunCuts.{IsRunOf}
use Rattle.lx_tdfa.proofs.Rules.StateOrder.{rule_starts-apart}

pub places_of_entries :
    (graph : List (List ℕ)) (after : ℕ → ℕ → List ℕ) (said : ℕ → ℕ → Key → List Symbol) (starts : List ℕ) (before : List Entry) (u : ℕ)
    (ns : List Candidate)
    → places (entries graph after said starts before u ns) ≡ map (λ (n : Candidate). n.to) ns
places_of_entries graph after said starts before u [] = refl
places_of_entries graph after said starts before u (n ∷ ns) = ap (λ l. n.to ∷ l) (places_of_entries graph after said starts before u ns)

module _ (enc : Enc) (rules : List Term) (after : ℕ → ℕ → List ℕ) (added : ℕ → ℕ → ℕ → List Symbol) (number : ℕ → List Symbol → ℕ) (numbers : NumbersLeaves enc rules after added number) where
  -- the entry is one of a run over the word
  abbrev Stands : List ℕ → Entry → Type 0
  Stands w e = IsRunOf enc rules after added number numbers w e.keys e.front e.place

  abbrev list_of : List ℕ → List Entry
  list_of w = kernel_list (graph_of (automaton rules)) after (segment_symbols rules added) (rule_starts rules) w

  stand : (w : List ℕ) → Each (Stands w) (list_of w)
  stand w =
      each_from (Stands w) (list_of w)
      (kernel_list-first_runs (graph_of (automaton rules)) after (segment_symbols rules added) (rule_starts rules) (rule_starts-apart rules) w).sound

  entries_alike : (u : ℕ) (w : List ℕ) (x : ℕ) (z : List ℕ) (es fs : List Entry) → Each (Stands (u ∷ w)) es → Each (Stands (x ∷ z)) fs
      → (places es ≡ places fs) ↔ SamePlaces enc rules (map cut_of es) (map cut_of fs)
  entries_alike u w x z [] [] r r' = ((λ e. tt), (λ s. refl))
  entries_alike u w x z [] (f ∷ fs) r r' = ((λ e. cc), (λ s. absurd s))
  entries_alike u w x z (e ∷ es) [] r r' = ((λ e. cc), (λ s. absurd s))
  entries_alike u w x z (e ∷ es) (f ∷ fs) r r' =
      let more = entries_alike u w x z es fs r.1 r'.1 in (
        (λ h.
            let head : e.place ≡ f.place = cc in
            let tail : places es ≡ places fs = cc in
            (same_place enc rules after added number numbers u w x z e.keys f.keys e.front f.front e.place f.place r.0 r'.0 head, more.0 tail)),
        (λ s.
            ap₂ (λ a b. a ∷ b) (same_number enc rules after added number numbers u w x z e.keys f.keys e.front f.front e.place f.place r.0 r'.0 s.0)
            (more.1 s.1)),
      )

  -- kernels have the same places where the lists have the same numbers
  pub lists_alike : (u : ℕ) (w : List ℕ) (x : ℕ) (z : List ℕ)
      → (places (list_of (u ∷ w)) ≡ places (list_of (x ∷ z))) ↔ SamePlaces enc rules (map cut_of (list_of (u ∷ w))) (map cut_of (list_of (x ∷ z)))
  lists_alike u w x z = entries_alike u w x z (list_of (u ∷ w)) (list_of (x ∷ z)) (stand (u ∷ w)) (stand (x ∷ z))
