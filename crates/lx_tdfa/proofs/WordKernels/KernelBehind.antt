-- What tells the kernels of words, and the lists of places that stand for them.
use Rattle.std.proofs.Common.{◌≡◌, ◌≢◌, inl, inr, ℕ, ◌<◌, ◌↔◌, List, [], ◌∷◌, ◌++◌, map, Some, refl, sym, ap, ◌∙◌, subst, arith}
use Rattle.std.specs.Prelude.{All}
use Rattle.lx_base.specs.declared.settings.Enc.{Enc}
use Rattle.lx_regex.specs.ClassLimits.{AllClassesFit}
use Rattle.lx_regex.specs.Cut.{BeginsMatch, Cut, Precedes}
use Rattle.lx_regex.specs.Kernel.{IsKernel, SamePlaces}
use Rattle.lx_regex.specs.Pattern.{Pattern, terms_of}
use Rattle.lx_regex.specs.Term.{Term}
use Rattle.lx_regex.proofs.KernelCuts.Kernels.{kernel_is_unique}
use Rattle.lx_tnfa.specs.Closure.{IsClosureOf}
use Rattle.lx_tnfa.specs.RuleNumbers.{HaveApartNumbers}
use Rattle.lx_tnfa.specs.Tnfa.{IsPlace, IsTnfaOf, Tnfa}
use Rattle.lx_tnfa.specs.declared.closure.Reach.{Reach}
use Rattle.lx_tnfa.specs.declared.places.Place.{Place}
use Rattle.lx_tnfa.proofs.Searching.SearchPaths.{All-from_each, Each-from_all}
use Rattle.lx_tdfa.specs.Kernels.{Entry, cut_of, kernel_after, places, places_step}
use Rattle.lx_tdfa.specs.KernelStates.{HaveOneKernel}
use Rattle.lx_tdfa.specs.Steps.{IsInLeaf, next_steps, places_of, start_place}
use Rattle.lx_tdfa.specs.WordLists.{IsListOf, TellsKernels, kernel_behind, place_numbers}
use Rattle.lx_tdfa.proofs.Rules.KeptRules.{rules_kept}
use Rattle.lx_tdfa.proofs.Rules.StepPlaces.{start_place-place}
use Rattle.lx_tdfa.proofs.Tables.TableBegins.{nil_of_map}
use Rattle.lx_tdfa.proofs.Walks.ClosureSearches.{RulesKept, SearchesAlike}
use Rattle.lx_tdfa.proofs.Walks.Searches.{searches_alike}
use Rattle.lx_tdfa.proofs.WordKernels.KernelWords.{first_numbers, numbers_on, places_of-in_leaf}
use Rattle.lx_tdfa.proofs.WordKernels.ManyKernels.{first_apart, first_cut, first_kernel, numbers_same}
use Rattle.lx_tdfa.proofs.WordKernels.ProgramKernels.{kernel_after-alike, kernel_after-empty, kernel_after-kernel, kernel_after-step}

turned : (enc : Enc) (rules : List Term) (cuts others : List Cut) → SamePlaces enc rules cuts others → SamePlaces enc rules others cuts
turned enc rules [] [] same = tt
turned enc rules [] (other ∷ others) same = absurd same
turned enc rules (cut ∷ cuts) [] same = absurd same
turned enc rules (cut ∷ cuts) (other ∷ others) same = (
  record { rule = sym same.0.rule; part = sym same.0.part; left = λ left. ((same.0.left left).1, (same.0.left left).0) },
  turned enc rules cuts others same.1,
)

some_same : {A : Type 0} (one other : A) → Some one ≡ Some other → one ≡ other
some_same one other same = cc

module _ (enc : Enc) (patterns : List Pattern) (tnfa : Tnfa) (of : IsTnfaOf enc patterns tnfa) (fits : AllClassesFit enc (terms_of patterns)) where
  abbrev rules : List Term
  rules = terms_of patterns

  abbrev after_word : List ℕ → List Entry
  after_word word = kernel_after tnfa rules word

  -- ---- what tells kernels

  same-one : (word other : List ℕ) → kernel_behind tnfa rules word ≡ kernel_behind tnfa rules other → HaveOneKernel enc rules word other
  same-one [] [] same = record {
    kernel = first_cut ∷ [];
    others = first_cut ∷ [];
    of_word = first_kernel enc rules;
    of_other = first_kernel enc rules;
    same = (record { rule = refl; part = refl; left = λ left. ((λ h. h), (λ h. h)) }, tt);
  }
  same-one [] (first ∷ other) same = absurd (cc same)
  same-one (unit ∷ word) [] same = absurd (cc same)
  same-one (unit ∷ word) (first ∷ other) same = record {
    kernel = map cut_of (after_word (unit ∷ word));
    others = map cut_of (after_word (first ∷ other));
    of_word = kernel_after-kernel enc patterns tnfa of fits (unit ∷ word) (λ e. cc);
    of_other = kernel_after-kernel enc patterns tnfa of fits (first ∷ other) (λ e. cc);
    same =
        (kernel_after-alike enc patterns tnfa of fits (unit ∷ word) (first ∷ other) (λ e. cc) (λ e. cc)).0
        (some_same (places (after_word (unit ∷ word))) (places (after_word (first ∷ other))) same);
  }

  one-same : (word other : List ℕ) → HaveOneKernel enc rules word other → kernel_behind tnfa rules word ≡ kernel_behind tnfa rules other
  one-same [] [] one = refl
  one-same [] (first ∷ other) one =
      absurd (first_apart enc rules (first ∷ other) one.others (λ e. cc) one.of_other
      (subst (λ l. SamePlaces enc rules l one.others) (one.of_word.start refl) one.same))
  one-same (unit ∷ word) [] one =
      absurd (first_apart enc rules (unit ∷ word) one.kernel (λ e. cc) one.of_word
      (subst (λ l. SamePlaces enc rules l one.kernel) (one.of_other.start refl) (turned enc rules one.kernel one.others one.same)))
  one-same (unit ∷ word) (first ∷ other) one =
      ap Some
      ((kernel_after-alike enc patterns tnfa of fits (unit ∷ word) (first ∷ other) (λ e. cc) (λ e. cc)).1
      (subst (λ l. SamePlaces enc rules l (map cut_of (after_word (first ∷ other)))) (cuts-are (unit ∷ word) one.kernel (λ e. cc) one.of_word)
      (subst (λ l. SamePlaces enc rules one.kernel l) (cuts-are (first ∷ other) one.others (λ e. cc) one.of_other) one.same)))
    where
      cuts-are : (word : List ℕ) (cuts : List Cut) → word ≢ [] → IsKernel Precedes enc rules word cuts → cuts ≡ map cut_of (after_word word)
      cuts-are word cuts ne is =
          kernel_is_unique enc rules word cuts (map cut_of (after_word word)) is (kernel_after-kernel enc patterns tnfa of fits word ne)

  some-begins : (word : List ℕ) (entries : List Entry) → word ≢ [] → IsKernel Precedes enc rules word (map cut_of entries)
      → places entries ≢ [] → BeginsMatch enc rules word
  some-begins word [] ne is some = absurd (some refl)
  some-begins word (entry ∷ entries) ne is some = inr (cut_of entry, is.cuts 0 (cut_of entry) ne refl)

  begins-some : (word : List ℕ) → BeginsMatch enc rules word ↔ (kernel_behind tnfa rules word ≢ Some [])
  begins-some [] = ((λ begins e. cc e), (λ some. inl refl))
  begins-some (unit ∷ word) = (
    (λ begins e.
        (kernel_after-empty enc patterns tnfa of fits (unit ∷ word) (λ ne. cc)).0
        (nil_of_map (λ (entry : Entry). entry.place) (after_word (unit ∷ word)) (some_same (places (after_word (unit ∷ word))) [] e)) begins),
    (λ some.
        some-begins (unit ∷ word) (after_word (unit ∷ word)) (λ ne. cc) (kernel_after-kernel enc patterns tnfa of fits (unit ∷ word) (λ ne. cc))
        (λ none. some (ap Some none))),
  )

  goes-on : (word other : List ℕ) (unit : ℕ) → kernel_behind tnfa rules word ≡ kernel_behind tnfa rules other
      → kernel_behind tnfa rules (word ++ unit ∷ []) ≡ kernel_behind tnfa rules (other ++ unit ∷ [])
  goes-on [] [] unit same = refl
  goes-on [] (first ∷ other) unit same = absurd (cc same)
  goes-on (first ∷ word) [] unit same = absurd (cc same)
  goes-on (first ∷ word) (second ∷ other) unit same =
      ap Some
      (kernel_after-step tnfa rules (first ∷ word) unit
      ∙ ap (λ l. places_step tnfa rules l unit) (some_same (places (after_word (first ∷ word))) (places (after_word (second ∷ other))) same)
      ∙ sym (kernel_after-step tnfa rules (second ∷ other) unit))

  stays-none : (word : List ℕ) (unit : ℕ) → kernel_behind tnfa rules word ≡ Some [] → kernel_behind tnfa rules (word ++ unit ∷ []) ≡ Some []
  stays-none [] unit none = absurd (cc none)
  stays-none (first ∷ word) unit none =
      ap Some
      (kernel_after-step tnfa rules (first ∷ word) unit
      ∙ ap (λ l. places_step tnfa rules l unit) (some_same (places (after_word (first ∷ word))) [] none))

  pub kernel_behind-tells : TellsKernels enc rules (kernel_behind tnfa rules)
  kernel_behind-tells = record {
    same = λ word other. (same-one word other, one-same word other);
    begins = begins-some;
    onward = goes-on;
    none = stays-none;
  }

  -- ---- lists of places

  -- a list without places, and one with places
  pub list-none : (word : List ℕ) → IsListOf tnfa rules word [] → kernel_behind tnfa rules word ≡ Some []
  list-none [] is = absurd (cc is)
  list-none (unit ∷ word) is = ap Some (sym is.1)

  pub list-some : (word : List ℕ) (place : Place) (list : List Place) → IsListOf tnfa rules word (place ∷ list)
      → kernel_behind tnfa rules word ≢ Some []
  list-some [] place list is none = cc none
  list-some (unit ∷ word) place list is none =
      let numbers : place_numbers tnfa (place ∷ list) ≡ [] = is.1 ∙ some_same (places (after_word (unit ∷ word))) [] none in cc numbers

  -- words with one list have one kernel
  start-apart : (list : List Place) → list ≡ start_place ∷ [] → All (IsInLeaf tnfa) list → ⊥
  start-apart list is leaves =
      let part : 0 < 0 = ((subst (All (IsInLeaf tnfa)) is leaves) 0 start_place (omega arith)).1 in omega (arith, part)

  pub lists-one : (word other : List ℕ) (list : List Place) → IsListOf tnfa rules word list → IsListOf tnfa rules other list
      → kernel_behind tnfa rules word ≡ kernel_behind tnfa rules other
  lists-one [] [] list is also = refl
  lists-one [] (first ∷ other) list is also = absurd (start-apart list is also.0)
  lists-one (unit ∷ word) [] list is also = absurd (start-apart list also is.0)
  lists-one (unit ∷ word) (first ∷ other) list is also = ap Some (sym is.1 ∙ also.1)

  module _ (apart : HaveApartNumbers tnfa.rules) where
    kept : RulesKept enc patterns tnfa
    kept = rules_kept enc patterns tnfa of apart

    alike : SearchesAlike patterns tnfa
    alike = searches_alike enc patterns tnfa of fits kept.numbers

    -- words with one kernel have one list
    pub lists-same : (word other : List ℕ) (list others : List Place) → IsListOf tnfa rules word list → IsListOf tnfa rules other others
        → kernel_behind tnfa rules word ≡ kernel_behind tnfa rules other → list ≡ others
    lists-same [] [] list others is also same = is ∙ sym also
    lists-same [] (first ∷ other) list others is also same = absurd (cc same)
    lists-same (unit ∷ word) [] list others is also same = absurd (cc same)
    lists-same (unit ∷ word) (first ∷ other) list others is also same =
        numbers_same enc patterns tnfa of fits kept list others (Each-from_all (IsInLeaf tnfa) list is.0) (Each-from_all (IsInLeaf tnfa) others also.0)
        (is.1 ∙ some_same (places (after_word (unit ∷ word))) (places (after_word (first ∷ other))) same ∙ sym also.1)

    start_places : All (IsPlace tnfa) (start_place ∷ [])
    start_places = All-from_each (IsPlace tnfa) (start_place ∷ []) (start_place-place enc patterns tnfa of, tt)

    -- the list of a word goes on to that of the word with one more unit
    pub list-onward : (word : List ℕ) (list : List Place) (reaches : List Reach) (unit : ℕ) → IsListOf tnfa rules word list
        → IsClosureOf tnfa list reaches → IsListOf tnfa rules (word ++ unit ∷ []) (places_of (next_steps tnfa unit reaches))
    list-onward [] list reaches unit is closure =
        let closed : IsClosureOf tnfa (start_place ∷ []) reaches = subst (λ l. IsClosureOf tnfa l reaches) is closure in (
          places_of-in_leaf enc patterns tnfa of alike (start_place ∷ []) reaches unit start_places closed,
          first_numbers enc patterns tnfa of alike reaches unit closed,
        )
    list-onward (first ∷ word) list reaches unit is closure = (
      places_of-in_leaf enc patterns tnfa of alike list reaches unit (λ k d lt. (is.0 k d lt).0) closure,
      numbers_on enc patterns tnfa of alike list reaches (first ∷ word) unit is.0 closure is.1,
    )

    -- its places are places
    pub list-places : (word : List ℕ) (list : List Place) → IsListOf tnfa rules word list → All (IsPlace tnfa) list
    list-places [] list is = subst (All (IsPlace tnfa)) (sym is) start_places
    list-places (unit ∷ word) list is = λ k d lt. (is.0 k d lt).0
