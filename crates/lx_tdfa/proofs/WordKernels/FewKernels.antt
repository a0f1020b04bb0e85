-- A table of few lists of places is one of few kernels.
use Rattle.std.proofs.Common.{ap, sym, ◌∙◌, subst, inl, inr, ⊎_elim, arith}
use Rattle.std.proofs.lemmas.List.{length-map}
use Rattle.std.proofs.lemmas.List.Sums.{sum_by-cons}
use Rattle.std.specs.Prelude.{◌≡◌, ◌≢◌, ℕ, ◌+◌, ◌≤◌, List, [], ◌∷◌, map, length, sum_by, refl}
use Rattle.lx_regex.specs.ClassLimits.{AllClassesFit}
use Rattle.lx_auto.specs.declared.automaton.Auto.{Auto}
use Rattle.lx_base.specs.declared.settings.Enc.{Enc}
use Rattle.lx_base.specs.Spelling.{greatest_unit}
use Rattle.lx_regex.specs.Cut.{Cut, Precedes}
use Rattle.lx_regex.specs.Kernel.{AllDiffer, AreKernels, DiffersFrom, HasTooManyKernels, IsKernel, IsWord, SamePlaces}
use Rattle.lx_regex.specs.Pattern.{Pattern, terms_of}
use Rattle.lx_regex.proofs.KernelCuts.Kernels.{kernel_is_unique}
use Rattle.lx_tnfa.specs.Tnfa.{IsTnfaOf, Tnfa}
use Rattle.lx_tnfa.specs.declared.places.Place.{Place}
use Rattle.lx_tdfa.specs.Kernels.{Entry, cut_of, kernel_after, places}
use Rattle.lx_tdfa.specs.Steps.{start_place}
use Rattle.lx_tdfa.specs.Table.{IsTable}
use Rattle.lx_tdfa.proofs.Walks.ClosureSearches.{SearchesAlike, number_of}
use Rattle.lx_tdfa.proofs.WordKernels.DistinctLists.{AreDistinct, distinct-total, indexed, indexed-member, indexed-total, total, total-length, total-sum}
use Rattle.lx_tdfa.proofs.WordKernels.OrderedLists.{IsMember}
use Rattle.lx_tdfa.proofs.WordKernels.ProgramKernels.{kernel_after-alike, kernel_after-kernel}
use Rattle.lx_tdfa.proofs.Tables.TableWords.{InTable, StandsAt, at_first, at_word, word_in_table}

module _ (enc : Enc) (patterns : List Pattern) (tnfa : Tnfa) (of : IsTnfaOf enc patterns tnfa) (fits : AllClassesFit enc (terms_of patterns))
    (alike : SearchesAlike patterns tnfa) (kernels : List (List Place)) (auto : Auto) (table : IsTable tnfa (greatest_unit enc) kernels auto) where
  abbrev Stands : List ℕ → ℕ → List Place → Type 0
  Stands word index kernel = StandsAt enc patterns tnfa kernels word index kernel

  abbrev after_word : List ℕ → List Entry
  after_word word = kernel_after tnfa (terms_of patterns) word

  -- the kernel of a word is that of its list of places
  cuts_are : (word : List ℕ) (cuts : List Cut) → word ≢ [] → IsKernel Precedes enc (terms_of patterns) word cuts
      → cuts ≡ map cut_of (after_word word)
  cuts_are word cuts ne is =
      kernel_is_unique enc (terms_of patterns) word cuts (map cut_of (after_word word)) is (kernel_after-kernel enc patterns tnfa of fits word ne)

  some_in_table : (word : List ℕ) (cuts : List Cut) → IsWord enc (terms_of patterns) word → IsKernel Precedes enc (terms_of patterns) word cuts
      → cuts ≢ [] → InTable enc patterns tnfa kernels word
  some_in_table [] cuts spelled is full = record { index = 0; kernel = start_place ∷ []; at = table.start; stands = at_first; full = λ e. cc }
  some_in_table (unit ∷ word) cuts spelled is full =
      ⊎_elim
      (λ none. absurd (full (cuts_are (unit ∷ word) cuts (λ e. cc) is ∙ bare (after_word (unit ∷ word)) none)))
      (λ has. has) (word_in_table enc patterns tnfa of alike kernels auto table (unit ∷ word) spelled)
    where
      bare : (entries : List Entry) → places entries ≡ [] → map cut_of entries ≡ []
      bare [] e = refl
      bare (entry ∷ entries) e = cc

  -- it has as many places as the list
  lengths : (word : List ℕ) (cuts : List Cut) (index : ℕ) (kernel : List Place) → IsKernel Precedes enc (terms_of patterns) word cuts
      → Stands word index kernel → length cuts ≡ length kernel
  lengths word cuts index kernel is at_first = ap length (is.start refl)
  lengths word cuts index kernel is (at_word w number k some same) =
      ap length (cuts_are word cuts some is)
      ∙ length-map (after_word word) cut_of
      ∙ sym (length-map (after_word word) (λ (entry : Entry). entry.place))
      ∙ ap length (sym same) ∙ length-map kernel (number_of tnfa)

  -- kernels at one place of the table are the same
  pub one_place : (word other : List ℕ) (cuts others : List Cut) (index at : ℕ) (kernel list : List Place)
      → IsKernel Precedes enc (terms_of patterns) word cuts → IsKernel Precedes enc (terms_of patterns) other others
      → Stands word index kernel → Stands other at list → index ≡ at → kernel ≡ list → SamePlaces enc (terms_of patterns) cuts others
  one_place word other cuts others index at kernel list is too at_first at_first e f =
      subst (λ l. SamePlaces enc (terms_of patterns) l others) (sym (is.start refl))
      (subst (λ l. SamePlaces enc (terms_of patterns) (record { rule = 0; front = [] } ∷ []) l) (sym (too.start refl))
      (record { rule = refl; part = refl; left = λ left. ((λ h. h), (λ h. h)) }, tt))
  one_place word other cuts others index at kernel list is too at_first (at_word v n l some same) e f = absurd (omega arith)
  one_place word other cuts others index at kernel list is too (at_word w n k some same) at_first e f = absurd (omega arith)
  one_place word other cuts others index at kernel list is too (at_word w n k some same) (at_word v m l also still) e f =
      subst (λ l. SamePlaces enc (terms_of patterns) l others) (sym (cuts_are word cuts some is))
      (subst (λ l. SamePlaces enc (terms_of patterns) (map cut_of (after_word word)) l) (sym (cuts_are other others also too))
      ((kernel_after-alike enc patterns tnfa of fits word other some also).0 (sym same ∙ ap (map (number_of tnfa)) f ∙ still)))

  -- the places in the table of words with kernels
  spots : (words : List (List ℕ)) (cuts : List (List Cut)) → AreKernels enc (terms_of patterns) words cuts → List (ℕ × List Place)
  spots [] [] are = []
  spots [] (one ∷ cuts) are = []
  spots (word ∷ words) [] are = []
  spots (word ∷ words) (one ∷ cuts) are =
      let has = some_in_table word one are.0 are.1 are.2 in (has.index, has.kernel) ∷ spots words cuts are.3

  spots_within : (words : List (List ℕ)) (cuts : List (List Cut)) (are : AreKernels enc (terms_of patterns) words cuts) (spot : ℕ × List Place)
      → IsMember (spots words cuts are) spot → IsMember (indexed 0 kernels) spot
  unfolding spots
  spots_within [] [] are spot member = absurd member
  spots_within [] (one ∷ cuts) are spot member = absurd member
  spots_within (word ∷ words) [] are spot member = absurd member
  spots_within (word ∷ words) (one ∷ cuts) are spot (inl e) =
      let has = some_in_table word one are.0 are.1 are.2 in
      let zero : 0 + has.index ≡ has.index = omega arith in
      subst (IsMember (indexed 0 kernels)) e
      (subst (λ n. IsMember (indexed 0 kernels) (n, has.kernel)) zero (indexed-member 0 kernels has.index has.kernel has.at))
  spots_within (word ∷ words) (one ∷ cuts) are spot (inr m) = spots_within words cuts are.3 spot m

  spot_differs : (word : List ℕ) (one : List Cut) → IsKernel Precedes enc (terms_of patterns) word one
      → (has : InTable enc patterns tnfa kernels word) (words : List (List ℕ)) (cuts : List (List Cut))
      → (are : AreKernels enc (terms_of patterns) words cuts) → DiffersFrom enc (terms_of patterns) one cuts
      → IsMember (spots words cuts are) (has.index, has.kernel) → ⊥
  unfolding spots
  spot_differs word one is has [] [] are differ member = member
  spot_differs word one is has [] (other ∷ cuts) are differ member = member
  spot_differs word one is has (next ∷ words) [] are differ member = member
  spot_differs word one is has (next ∷ words) (other ∷ cuts) are differ (inl e) =
      let also = some_in_table next other are.0 are.1 are.2 in
      differ.0
      (one_place word next one other has.index also.index has.kernel also.kernel is are.1 has.stands also.stands
      (ap (λ (pair : ℕ × List Place). pair.0) (sym e)) (ap (λ (pair : ℕ × List Place). pair.1) (sym e)))
  spot_differs word one is has (next ∷ words) (other ∷ cuts) are differ (inr m) = spot_differs word one is has words cuts are.3 differ.1 m

  spots_distinct : (words : List (List ℕ)) (cuts : List (List Cut)) (are : AreKernels enc (terms_of patterns) words cuts)
      → AllDiffer enc (terms_of patterns) cuts → AreDistinct (spots words cuts are)
  unfolding spots
  spots_distinct [] [] are differ = tt
  spots_distinct [] (one ∷ cuts) are differ = tt
  spots_distinct (word ∷ words) [] are differ = tt
  spots_distinct (word ∷ words) (one ∷ cuts) are differ = (
    spot_differs word one are.1 (some_in_table word one are.0 are.1 are.2) words cuts are.3 differ.0,
    spots_distinct words cuts are.3 differ.1,
  )

  spots_count : (words : List (List ℕ)) (cuts : List (List Cut)) (are : AreKernels enc (terms_of patterns) words cuts)
      → total (λ (pair : ℕ × List Place). 1) (spots words cuts are) ≡ length words
  unfolding spots
  spots_count [] [] are = refl
  spots_count [] (one ∷ cuts) are = absurd are
  spots_count (word ∷ words) [] are = absurd are
  spots_count (word ∷ words) (one ∷ cuts) are = let rest = spots_count words cuts are.3 in omega (arith, rest)

  spots_places : (words : List (List ℕ)) (cuts : List (List Cut)) (are : AreKernels enc (terms_of patterns) words cuts)
      → total (λ (pair : ℕ × List Place). length pair.1) (spots words cuts are) ≡ sum_by length cuts
  unfolding spots
  spots_places [] [] are = refl
  spots_places [] (one ∷ cuts) are = absurd are
  spots_places (word ∷ words) [] are = absurd are
  spots_places (word ∷ words) (one ∷ cuts) are =
      let has = some_in_table word one are.0 are.1 are.2 in
      let rest = spots_places words cuts are.3 in
      let here = lengths word one has.index has.kernel are.1 has.stands in
      let sums = sum_by-cons (length {A = Cut}) one cuts in
      omega (arith, rest, here, sums)

  -- few lists of few places are few kernels
  pub few_found : length kernels ≤ 4096 → sum_by length kernels ≤ 1048576 → HasTooManyKernels enc (terms_of patterns) → ⊥
  few_found few small many =
      ⊎_elim
      (λ lt. omega (arith, count, spots_count many.0 many.1 many.2, indexed-total (λ (l : List Place). 1) 0 kernels, total-length kernels, lt))
      (λ lt. omega (arith, places_count, spots_places many.0 many.1 many.2, indexed-total (length {A = Place}) 0 kernels, total-sum (length {A = Place}) kernels, lt))
      many.4
    where
      distinct : AreDistinct (spots many.0 many.1 many.2)
      distinct = spots_distinct many.0 many.1 many.2 many.3

      count : total (λ (pair : ℕ × List Place). 1) (spots many.0 many.1 many.2) ≤ total (λ (pair : ℕ × List Place). 1) (indexed 0 kernels)
      count = distinct-total (λ (pair : ℕ × List Place). 1) (spots many.0 many.1 many.2) (indexed 0 kernels) distinct (spots_within many.0 many.1 many.2)

      places_count : total (λ (pair : ℕ × List Place). length pair.1) (spots many.0 many.1 many.2)
          ≤ total (λ (pair : ℕ × List Place). length pair.1) (indexed 0 kernels)
      places_count =
          distinct-total (λ (pair : ℕ × List Place). length pair.1) (spots many.0 many.1 many.2) (indexed 0 kernels) distinct
          (spots_within many.0 many.1 many.2)
