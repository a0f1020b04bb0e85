-- The kernels of a table count: they are those of words after which different places and numbers are kept.
use Rattle.std.proofs.Common.{inl, inr, sym, ap, ap₂, ◌∙◌, subst, arith, ⊎_elim}
use Rattle.std.proofs.lemmas.List.{length-map}
use Rattle.std.proofs.lemmas.List.Sums.{sum_by-cons}
use Rattle.std.specs.Prelude.{◌≡◌, ◌≢◌, ℕ, zero, suc, ◌+◌, ◌<◌, ◌≤◌, List, [], ◌∷◌, ◌++◌, length, map, Some, true, false, AllPairs, slice_get, slice_index_or, sum_by, refl}
use Rattle.lx_base.specs.declared.limits.TheConstants.{KERNEL_LIMIT, PLACE_LIMIT}
use Rattle.lx_base.specs.declared.settings.Enc.{Enc}
use Rattle.lx_regex.specs.ClassLimits.{AllClassesFit}
use Rattle.lx_regex.specs.Kernel.{IsWord}
use Rattle.lx_regex.specs.Pattern.{Pattern, terms_of}
use Rattle.lx_regex.specs.Term.{Term}
use Rattle.lx_tnfa.specs.Tnfa.{IsTnfaOf, Tnfa}
use Rattle.lx_tdfa.specs.Making.{AreMany}
use Rattle.lx_tdfa.specs.Table.{is_first}
use Rattle.lx_tdfa.proofs.Tables.TableBegins.{nil_of_map}
use Rattle.lx_posix.specs.KernelLists.{ranks_after}
use Rattle.lx_posix.specs.KeptKernels.{AreClosed, AreReached, IsAfter, Keeps, rank_of, start_kernel}
use Rattle.lx_posix.specs.PosixKernel.{HasTooManyPosixKernels}
use Rattle.lx_posix.specs.RankTables.{AreTooManyRanks, DiffersFromRanks, HaveAllRanks, HaveDifferentRanks}
use Rattle.lx_posix.specs.declared.kept.Kept.{Kept}
use Rattle.lx_posix.proofs.Course.PlaceRules.{one_kernel_kept}
use Rattle.lx_posix.proofs.Lists.CountedRanks.{all_ranks, many_ranks}

module _ (enc : Enc) (rules : List Term) (tnfa : Tnfa) where
  -- the kernels are those of the words, of which none is empty
  abbrev AreAfter : List (List ℕ) → List (List Kept) → Type 0
  AreAfter [] [] = Unit {0}
  AreAfter [] (kernel ∷ kernels) = ⊥
  AreAfter (word ∷ words) [] = ⊥
  AreAfter (word ∷ words) (kernel ∷ kernels) = IsWord enc rules word × IsAfter tnfa rules false kernel word × AreAfter words kernels

  have_words : (kernels : List (List Kept))
      → ((i : ℕ) (kernel : List Kept) → slice_get kernels i ≡ Some kernel
      → (word : List ℕ) × IsWord enc rules word × IsAfter tnfa rules false kernel word)
      → (words : List (List ℕ)) × AreAfter words kernels
  have_words [] reached = ([], tt)
  have_words (kernel ∷ kernels) reached =
      let one = reached 0 kernel refl in
      let more = have_words kernels (λ i k at. reached (suc i) k at) in
      (one.0 ∷ more.0, (one.1, one.2, more.1))

  kernel_of_word : (words : List (List ℕ)) (kernels : List (List Kept)) → AreAfter words kernels → (i : ℕ) (word : List ℕ)
      → slice_get words i ≡ Some word
      → (kernel : List Kept) × (slice_get kernels i ≡ Some kernel) × IsAfter tnfa rules false kernel word
  kernel_of_word [] kernels are i word at = cc
  kernel_of_word (x ∷ words) [] are i word at = absurd are
  kernel_of_word (x ∷ words) (kernel ∷ kernels) are zero word at =
      let same : x ≡ word = cc in
      (kernel, refl, subst (λ w. IsAfter tnfa rules false kernel w) same are.1)
  kernel_of_word (x ∷ words) (kernel ∷ kernels) are (suc i) word at = kernel_of_word words kernels are.2 i word at

  word_of_kernel : (words : List (List ℕ)) (kernels : List (List Kept)) → AreAfter words kernels → (i : ℕ) (kernel : List Kept)
      → slice_get kernels i ≡ Some kernel
      → (word : List ℕ) × (slice_get words i ≡ Some word) × IsAfter tnfa rules false kernel word
  word_of_kernel words [] are i kernel at = cc
  word_of_kernel [] (x ∷ kernels) are i kernel at = absurd are
  word_of_kernel (word ∷ words) (x ∷ kernels) are zero kernel at =
      let same : x ≡ kernel = cc in
      (word, refl, subst (λ k. IsAfter tnfa rules false k word) same are.1)
  word_of_kernel (word ∷ words) (x ∷ kernels) are (suc i) kernel at = word_of_kernel words kernels are.2 i kernel at

  as_many_words : (words : List (List ℕ)) (kernels : List (List Kept)) → AreAfter words kernels → length words ≡ length kernels
  as_many_words [] [] are = refl
  as_many_words [] (kernel ∷ kernels) are = absurd are
  as_many_words (word ∷ words) [] are = absurd are
  as_many_words (word ∷ words) (kernel ∷ kernels) are = ap suc (as_many_words words kernels are.2)

  -- as much is kept as there are places
  as_many_kept : (words : List (List ℕ)) (kernels : List (List Kept)) → AreAfter words kernels
      → sum_by length (map (ranks_after tnfa rules) words) ≡ sum_by length kernels
  as_many_kept [] [] are = refl
  as_many_kept [] (kernel ∷ kernels) are = absurd are
  as_many_kept (word ∷ words) [] are = absurd are
  as_many_kept (word ∷ words) (kernel ∷ kernels) are =
      let keeps = are.1.keeps in
      sum_by-cons length (ranks_after tnfa rules word) (map (ranks_after tnfa rules) words)
      ∙ ap₂ (λ a b. a + b) (ap length (sym keeps.0) ∙ length-map kernel (rank_of tnfa rules)) (as_many_kept words kernels are.2)
      ∙ sym (sum_by-cons length kernel kernels)

  keeps_some : (kernel : List Kept) (word : List ℕ) → IsAfter tnfa rules false kernel word → ranks_after tnfa rules word ≢ []
  keeps_some kernel word after none =
      let keeps = after.keeps in after.some (nil_of_map (rank_of tnfa rules) kernel (keeps.0 ∙ none))

module _ (enc : Enc) (patterns : List Pattern) (tnfa : Tnfa) (of : IsTnfaOf enc patterns tnfa)
    (fits : AllClassesFit enc (terms_of patterns)) where
  -- a kernel that is none of some keeps something else
  differs : (kernel : List Kept) (word : List ℕ) → IsAfter tnfa (terms_of patterns) false kernel word → (words : List (List ℕ))
      (kernels : List (List Kept)) → AreAfter enc (terms_of patterns) tnfa words kernels
      → ((i : ℕ) (d : List Kept) → i < length kernels → kernel ≢ slice_index_or kernels i d)
      → DiffersFromRanks enc (terms_of patterns) tnfa (ranks_after tnfa (terms_of patterns) word) words
  differs kernel word after [] kernels are apart = tt
  differs kernel word after (other ∷ words) [] are apart = absurd are
  differs kernel word after (other ∷ words) (k ∷ kernels) are apart = (
    λ same. apart 0 k (omega arith)
        (one_kernel_kept enc patterns tnfa of kernel k (ranks_after tnfa (terms_of patterns) word) after.keeps
        (subst (λ r. Keeps tnfa (terms_of patterns) false k r) (sym same) are.1.keeps)),
    differs kernel word after words kernels are.2 (λ i d lt. apart (suc i) d (omega arith)),
  )

  different : (words : List (List ℕ)) (kernels : List (List Kept)) → AreAfter enc (terms_of patterns) tnfa words kernels
      → AllPairs (λ list other. list ≢ other) kernels → HaveDifferentRanks enc (terms_of patterns) tnfa words
  different [] kernels are apart = tt
  different (word ∷ words) [] are apart = absurd are
  different (word ∷ words) (kernel ∷ kernels) are apart = (
    are.0,
    are.1.later refl,
    keeps_some enc (terms_of patterns) tnfa kernel word are.1,
    differs kernel word are.1 words kernels are.2 (λ i d lt. apart 0 (suc i) d (omega arith) (omega arith)),
    different words kernels are.2 (λ i j d less lt. apart (suc i) (suc j) d (omega arith) (omega arith)),
  )

  -- the words of the kernels behind the start
  later_words : (kernels : List (List Kept)) → AreReached enc (terms_of patterns) tnfa (start_kernel ∷ kernels)
      → (words : List (List ℕ)) × AreAfter enc (terms_of patterns) tnfa words kernels
  later_words kernels reached = have_words enc (terms_of patterns) tnfa kernels (λ i kernel at. reached (suc i) kernel at)

  later_apart : (kernels : List (List Kept)) → AllPairs (λ list other. list ≢ other) (start_kernel ∷ kernels)
      → AllPairs (λ list other. list ≢ other) kernels
  later_apart kernels apart i j d less lt = apart (suc i) (suc j) d (omega arith) (omega arith)

  many_kept : (kernels : List (List Kept)) (words : List (List ℕ)) → AreAfter enc (terms_of patterns) tnfa words kernels
      → AreMany (start_kernel ∷ kernels) → AreTooManyRanks enc (terms_of patterns) tnfa words
  many_kept kernels words are many =
      let count = as_many_words enc (terms_of patterns) tnfa words kernels are in
      let sum = as_many_kept enc (terms_of patterns) tnfa words kernels are in
      let all = sum_by-cons length start_kernel kernels in
      ⊎_elim (λ a. inl (omega arith)) (λ b. inr (omega arith)) many

  few_kept : (kernels : List (List Kept)) (words : List (List ℕ)) → AreAfter enc (terms_of patterns) tnfa words kernels
      → length (start_kernel ∷ kernels) ≤ KERNEL_LIMIT → sum_by length (start_kernel ∷ kernels) ≤ PLACE_LIMIT
      → AreTooManyRanks enc (terms_of patterns) tnfa words → ⊥
  few_kept kernels words are few few_places many =
      let count = as_many_words enc (terms_of patterns) tnfa words kernels are in
      let sum = as_many_kept enc (terms_of patterns) tnfa words kernels are in
      let all = sum_by-cons length start_kernel kernels in
      ⊎_elim (λ a. omega arith) (λ b. omega arith) many

  module _ (kernels : List (List Kept)) (reached : AreReached enc (terms_of patterns) tnfa (start_kernel ∷ kernels))
      (words : List (List ℕ)) (are : AreAfter enc (terms_of patterns) tnfa words kernels) where
    at_start : IsAfter tnfa (terms_of patterns) true start_kernel []
    at_start =
        let start = reached 0 start_kernel refl in
        subst (λ w. IsAfter tnfa (terms_of patterns) true start_kernel w) (start.2.empty refl) start.2

    kernel_at : (i : ℕ) (word : List ℕ) → slice_get ([] ∷ words) i ≡ Some word
        → (kernel : List Kept) × (slice_get (start_kernel ∷ kernels) i ≡ Some kernel)
        × IsAfter tnfa (terms_of patterns) (is_first i) kernel word
    kernel_at zero word at =
        let same : [] ≡ word = cc in
        (start_kernel, refl, subst (λ w. IsAfter tnfa (terms_of patterns) true start_kernel w) same at_start)
    kernel_at (suc i) word at = kernel_of_word enc (terms_of patterns) tnfa words kernels are i word at

    all_kept : AreClosed enc (terms_of patterns) tnfa (start_kernel ∷ kernels) → HaveAllRanks enc (terms_of patterns) tnfa words
    all_kept closed i word unit at le some =
        let k = kernel_at i word at in
        ⊎_elim
        (λ none. absurd (some none))
        (λ next. found next.0 next.1 next.2 next.3)
        (closed i k.0 word unit k.1 k.2 le)
      where
        found : (later : ℕ) (next : List Kept) → slice_get kernels later ≡ Some next
            → IsAfter tnfa (terms_of patterns) false next (word ++ unit ∷ [])
            → (j : ℕ) × (found : List ℕ) × (slice_get words j ≡ Some found)
            × (ranks_after tnfa (terms_of patterns) (word ++ unit ∷ []) ≡ ranks_after tnfa (terms_of patterns) found)
        found later next at after =
            let w = word_of_kernel enc (terms_of patterns) tnfa words kernels are later next at in
            let one = after.keeps in
            let other = w.2.keeps in
            (later, w.0, w.1, sym one.0 ∙ other.0)

  -- ---- tables

  many_from_start : (kernels : List (List Kept)) → AreReached enc (terms_of patterns) tnfa (start_kernel ∷ kernels)
      → AllPairs (λ list other. list ≢ other) (start_kernel ∷ kernels) → AreMany (start_kernel ∷ kernels)
      → HasTooManyPosixKernels enc (terms_of patterns)
  many_from_start kernels reached apart many =
      let words = later_words kernels reached in
      many_ranks enc patterns tnfa of fits words.0 (different words.0 kernels words.1 (later_apart kernels apart))
      (many_kept kernels words.0 words.1 many)

  few_from_start : (kernels : List (List Kept)) → AreReached enc (terms_of patterns) tnfa (start_kernel ∷ kernels)
      → AllPairs (λ list other. list ≢ other) (start_kernel ∷ kernels) → AreClosed enc (terms_of patterns) tnfa (start_kernel ∷ kernels)
      → length (start_kernel ∷ kernels) ≤ KERNEL_LIMIT → sum_by length (start_kernel ∷ kernels) ≤ PLACE_LIMIT
      → HasTooManyPosixKernels enc (terms_of patterns) → ⊥
  few_from_start kernels reached apart closed few few_places many =
      let words = later_words kernels reached in
      let all = all_kept kernels reached words.0 words.1 closed in
      let counted = all_ranks enc patterns tnfa of fits words.0 (different words.0 kernels words.1 (later_apart kernels apart)) all in
      few_kept kernels words.0 words.1 few few_places (counted.0 many)

  -- a table that is too large shows that there are too many kernels
  pub many_kernels : (kernels : List (List Kept)) → AreReached enc (terms_of patterns) tnfa kernels
      → slice_get kernels 0 ≡ Some start_kernel → AllPairs (λ list other. list ≢ other) kernels → AreMany kernels
      → HasTooManyPosixKernels enc (terms_of patterns)
  many_kernels [] reached start apart many = cc
  many_kernels (kernel ∷ kernels) reached start apart many =
      let same : kernel ≡ start_kernel = cc in
      subst (λ k. AreReached enc (terms_of patterns) tnfa (k ∷ kernels) → AllPairs (λ list other. list ≢ other) (k ∷ kernels)
      → AreMany (k ∷ kernels) → HasTooManyPosixKernels enc (terms_of patterns)) (sym same) (many_from_start kernels) reached apart many

  -- and one that is whole that there are not
  pub few_kernels : (kernels : List (List Kept)) → AreReached enc (terms_of patterns) tnfa kernels
      → slice_get kernels 0 ≡ Some start_kernel → AllPairs (λ list other. list ≢ other) kernels
      → AreClosed enc (terms_of patterns) tnfa kernels → length kernels ≤ KERNEL_LIMIT → sum_by length kernels ≤ PLACE_LIMIT
      → HasTooManyPosixKernels enc (terms_of patterns) → ⊥
  few_kernels [] reached start apart closed few few_places many = cc
  few_kernels (kernel ∷ kernels) reached start apart closed few few_places many =
      let same : kernel ≡ start_kernel = cc in
      subst (λ k. AreReached enc (terms_of patterns) tnfa (k ∷ kernels) → AllPairs (λ list other. list ≢ other) (k ∷ kernels)
      → AreClosed enc (terms_of patterns) tnfa (k ∷ kernels) → length (k ∷ kernels) ≤ KERNEL_LIMIT
      → sum_by length (k ∷ kernels) ≤ PLACE_LIMIT → HasTooManyPosixKernels enc (terms_of patterns) → ⊥) (sym same)
      (few_from_start kernels) reached apart closed few few_places many
