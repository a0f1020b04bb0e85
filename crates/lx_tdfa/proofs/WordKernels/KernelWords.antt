-- Lists of places that are found from the start are the places of words.
use Rattle.std.proofs.Common.{ap, ap₂, sym, ◌∙◌, subst, inl, inr, ⊎_elim}
use Rattle.std.specs.Prelude.{◌≡◌, ◌≢◌, ℕ, suc, ◌⊎◌, List, [], ◌∷◌, ◌++◌, map, Bool, true, false, All, refl}
use Rattle.lx_base.specs.declared.settings.Enc.{Enc}
use Rattle.lx_base.specs.Spelling.{greatest_unit}
use Rattle.lx_regex.specs.Kernel.{IsWord}
use Rattle.lx_regex.specs.Pattern.{Pattern, terms_of}
use Rattle.lx_regex.specs.Term.{Term}
use Rattle.lx_tnfa.specs.Closure.{IsClosureOf}
use Rattle.lx_tnfa.specs.Tnfa.{IsPlace, IsTnfaOf, Tnfa}
use Rattle.lx_tnfa.specs.declared.closure.Reach.{Reach}
use Rattle.lx_tnfa.specs.declared.places.Place.{Place}
use Rattle.lx_tnfa.proofs.Searching.SearchBasics.{Each}
use Rattle.lx_tnfa.proofs.Searching.SearchPaths.{All-from_each}
use Rattle.lx_tdfa.specs.Graph.{rule_starts}
use Rattle.lx_tdfa.specs.Kernels.{Candidate, first_entries, kernel_after, places, places_step}
use Rattle.lx_tdfa.specs.Steps.{IsFound, IsInLeaf, Step, at_start, next_steps, onward, places_of, start_place}
use Rattle.lx_tdfa.proofs.Walks.ClosureSearches.{AreAlike, SearchesAlike, candidates_from, number_of}
use Rattle.lx_tdfa.proofs.WordKernels.ProgramKernels.{kernel_after-step}
use Rattle.lx_tdfa.proofs.Rules.StepPlaces.{next_steps-in_leaf, start_place-place}

pub word_append : (enc : Enc) (rules : List Term) (a b : List ℕ) → IsWord enc rules a → IsWord enc rules b → IsWord enc rules (a ++ b)
word_append enc rules [] b p q = q
word_append enc rules (x ∷ a) b p q = (p.0, word_append enc rules a b p.1 q)

first_entries-places : (number : ℕ) (starts : List ℕ) → places (first_entries number starts) ≡ starts
first_entries-places number [] = refl
first_entries-places number (start ∷ starts) = ap (λ l. start ∷ l) (first_entries-places (suc number) starts)

-- alike candidates and steps lead to the same numbers
alike-numbers : (tnfa : Tnfa) (rules : List Term) (first : Bool) (numbers : List ℕ) (unit : ℕ) (candidates : List Candidate) (steps : List Step)
    → AreAlike tnfa rules first numbers unit candidates steps
    → map (number_of tnfa) (places_of steps) ≡ map (λ (candidate : Candidate). candidate.to) candidates
alike-numbers tnfa rules first numbers unit [] [] alike = refl
alike-numbers tnfa rules first numbers unit [] (step ∷ steps) alike = absurd alike
alike-numbers tnfa rules first numbers unit (candidate ∷ candidates) [] alike = absurd alike
alike-numbers tnfa rules first numbers unit (candidate ∷ candidates) (step ∷ steps) alike =
    ap₂ (λ a b. a ∷ b) (sym alike.0) (alike-numbers tnfa rules first numbers unit candidates steps alike.3)

-- these places in leaves have the numbers of the places of a word that is not empty
pub record HasWord (enc : Enc) (patterns : List Pattern) (tnfa : Tnfa) (kernel : List Place) : Type 0 where
  pub word : List ℕ
  pub some : word ≢ []
  pub spelled : IsWord enc (terms_of patterns) word
  pub numbers : map (number_of tnfa) kernel ≡ places (kernel_after tnfa (terms_of patterns) word)
  pub in_leaf : All (IsInLeaf tnfa) kernel
  pub full : kernel ≢ []

module _ (enc : Enc) (patterns : List Pattern) (tnfa : Tnfa) (of : IsTnfaOf enc patterns tnfa) (alike : SearchesAlike patterns tnfa) where
  abbrev rules : List Term
  rules = terms_of patterns

  -- the places after one more unit have the numbers of the word after one more unit
  pub numbers_on : (kernel : List Place) (reaches : List Reach) (word : List ℕ) (unit : ℕ) → All (IsInLeaf tnfa) kernel
      → IsClosureOf tnfa kernel reaches → map (number_of tnfa) kernel ≡ places (kernel_after tnfa (terms_of patterns) word)
      → map (number_of tnfa) (places_of (next_steps tnfa unit reaches)) ≡ places (kernel_after tnfa (terms_of patterns) (word ++ unit ∷ []))
  numbers_on kernel reaches word unit are is same =
      alike-numbers tnfa rules false (map (number_of tnfa) kernel) unit (candidates_from tnfa rules (map (number_of tnfa) kernel) unit)
      (next_steps tnfa unit reaches) (alike.steps kernel reaches unit are is)
      ∙ ap (λ l. places_step tnfa rules l unit) same ∙ sym (kernel_after-step tnfa rules word unit)

  -- and so do those after the first unit
  pub first_numbers : (reaches : List Reach) (unit : ℕ) → IsClosureOf tnfa (start_place ∷ []) reaches
      → map (number_of tnfa) (places_of (next_steps tnfa unit reaches)) ≡ places (kernel_after tnfa (terms_of patterns) (unit ∷ []))
  first_numbers reaches unit is =
      alike-numbers tnfa rules true (rule_starts rules) unit (candidates_from tnfa rules (rule_starts rules) unit)
      (next_steps tnfa unit reaches) (alike.first_steps reaches unit is)
      ∙ ap (λ l. places_step tnfa rules l unit) (sym (first_entries-places 0 (rule_starts rules))) ∙ sym (kernel_after-step tnfa rules [] unit)

  places_are : (kernel : List Place) → All (IsInLeaf tnfa) kernel → All (IsPlace tnfa) kernel
  places_are kernel are k d lt = (are k d lt).0

  steps_places : (steps : List Step) → Each (λ (step : Step). IsInLeaf tnfa step.to) steps → Each (IsInLeaf tnfa) (places_of steps)
  steps_places [] each = tt
  steps_places (step ∷ steps) each = (each.0, steps_places steps each.1)

  -- steps from places lead into leaves
  pub places_of-in_leaf : (kernel : List Place) (reaches : List Reach) (unit : ℕ) → All (IsPlace tnfa) kernel → IsClosureOf tnfa kernel reaches
      → All (IsInLeaf tnfa) (places_of (next_steps tnfa unit reaches))
  places_of-in_leaf kernel reaches unit are is =
      All-from_each (IsInLeaf tnfa) (places_of (next_steps tnfa unit reaches))
      (steps_places (next_steps tnfa unit reaches) (next_steps-in_leaf enc patterns tnfa of kernel reaches unit are is))

  start_places : All (IsPlace tnfa) (start_place ∷ [])
  start_places = All-from_each (IsPlace tnfa) (start_place ∷ []) (start_place-place enc patterns tnfa of, tt)

  -- what is found is the start, or the places of a word
  pub found_words : (kernel : List Place) → IsFound tnfa (greatest_unit enc) kernel
      → (kernel ≡ start_place ∷ []) ⊎ HasWord enc patterns tnfa kernel
  found_words kernel at_start = inl refl
  found_words kernel (onward from reaches unit step others found is le steps) =
      inr (⊎_elim first later (found_words from found))
    where
      first : from ≡ start_place ∷ [] → HasWord enc patterns tnfa (places_of (step ∷ others))
      first start =
          let closed = subst (λ l. IsClosureOf tnfa l reaches) start is in record {
            word = unit ∷ [];
            some = λ e. cc;
            spelled = (le, tt);
            numbers =
                subst (λ l. map (number_of tnfa) (places_of l) ≡ places (kernel_after tnfa (terms_of patterns) (unit ∷ []))) steps
                (first_numbers reaches unit closed);
            in_leaf = subst (λ l. All (IsInLeaf tnfa) (places_of l)) steps (places_of-in_leaf (start_place ∷ []) reaches unit start_places closed);
            full = λ e. cc;
          }

      none : (word : List ℕ) → word ++ unit ∷ [] ≡ [] → ⊥
      none [] e = cc
      none (x ∷ word) e = cc

      later : HasWord enc patterns tnfa from → HasWord enc patterns tnfa (places_of (step ∷ others))
      later has = record {
        word = has.word ++ unit ∷ [];
        some = none has.word;
        spelled = word_append enc rules has.word (unit ∷ []) has.spelled (le, tt);
        numbers =
            subst (λ l. map (number_of tnfa) (places_of l) ≡ places (kernel_after tnfa (terms_of patterns) (has.word ++ unit ∷ []))) steps
            (numbers_on from reaches has.word unit has.in_leaf is has.numbers);
        in_leaf = subst (λ l. All (IsInLeaf tnfa) (places_of l)) steps (places_of-in_leaf from reaches unit (places_are from has.in_leaf) is);
        full = λ e. cc;
      }
