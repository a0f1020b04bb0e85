-- Words after which different places and numbers are kept have different kernels; where these are all, they are the count.
use Rattle.std.proofs.Common.{inl, inr, sym, ap, ap₂, ◌∙◌, subst, arith, ⊎_elim}
use Rattle.std.proofs.lemmas.List.Sums.{sum_by-cons}
use Rattle.std.specs.Prelude.{◌≡◌, ◌≢◌, ◌↔◌, ℕ, zero, suc, ◌+◌, ◌<◌, ◌⊎◌, List, [], ◌∷◌, ◌++◌, length, map, Some, slice_get, sum_by, refl}
use Rattle.lx_base.specs.declared.limits.TheConstants.{KERNEL_LIMIT, PLACE_LIMIT}
use Rattle.lx_base.specs.declared.settings.Enc.{Enc}
use Rattle.lx_regex.specs.ClassLimits.{AllClassesFit}
use Rattle.lx_regex.specs.Cut.{Cut}
use Rattle.lx_regex.specs.Pattern.{Pattern, terms_of}
use Rattle.lx_regex.specs.Term.{Term}
use Rattle.lx_tnfa.specs.Tnfa.{IsTnfaOf, Tnfa}
use Rattle.lx_tdfa.specs.Kernels.{Entry, cut_of, places}
use Rattle.lx_posix.specs.Comparing.{Ranked}
use Rattle.lx_posix.specs.KernelLists.{places_of, posix_kernel_after, ranks_after}
use Rattle.lx_posix.specs.PosixKernel.{AllDifferByNumbers, AreClosed, ArePosixKernels, DiffersFromAll, HasTooManyPosixKernels, IsPosixKernel, IsSameKernel}
use Rattle.lx_posix.specs.RankTables.{AreTooManyRanks, DiffersFromRanks, HaveAllRanks, HaveDifferentRanks}
use Rattle.lx_posix.proofs.Kernels.ClosedKernels.{closed_all, in_some_part}
use Rattle.lx_posix.proofs.Kernels.CountedKernels.{kernels_counted}
use Rattle.lx_posix.proofs.Kernels.FirstUnit.{empty_kernel}
use Rattle.lx_posix.proofs.Kernels.PosixKernels.{posix_unique}
use Rattle.lx_posix.proofs.Lists.ProgramLists.{alike_lists, listed_kernel, ranked_after, some_kernel}

module _ (enc : Enc) (patterns : List Pattern) (tnfa : Tnfa) (of : IsTnfaOf enc patterns tnfa)
    (fits : AllClassesFit enc (terms_of patterns)) where
  abbrev rules : List Term
  rules = terms_of patterns

  abbrev kernel : List ℕ → List Cut
  kernel word = map cut_of (posix_kernel_after tnfa rules word)

  abbrev ranks : List ℕ → List Ranked
  ranks word = ranks_after tnfa rules word

  abbrev start : List Cut
  start = record { rule = 0; front = [] } ∷ []

  abbrev kernels : List (List ℕ) → List (List Cut)
  kernels words = map kernel words

  ranks_length : (ss : List Ranked) (es : List Entry) → places_of ss ≡ places es → length (map cut_of es) ≡ length ss
  ranks_length [] [] e = refl
  ranks_length [] (x ∷ es) e = cc
  ranks_length (s ∷ ss) [] e = cc
  ranks_length (s ∷ ss) (x ∷ es) e = ap suc (ranks_length ss es (cc))

  kernel_length : (word : List ℕ) → length (kernel word) ≡ length (ranks word)
  kernel_length word =
      ranks_length (ranks_after tnfa (terms_of patterns) word) (posix_kernel_after tnfa (terms_of patterns) word)
      (ranked_after enc patterns tnfa of fits word).places

  none_empty : {A : Type 0} (xs : List A) → length xs ≡ 0 → xs ≡ []
  none_empty [] e = refl
  none_empty (x ∷ xs) e = absurd (omega arith)

  some_kept : (word : List ℕ) → (ranks_after tnfa (terms_of patterns) word ≢ [])
      → (map cut_of (posix_kernel_after tnfa (terms_of patterns) word) ≢ [])
  some_kept word ne e =
      let z : length (map cut_of (posix_kernel_after tnfa (terms_of patterns) word)) ≡ 0 = ap length e in
      ne (none_empty (ranks_after tnfa (terms_of patterns) word) (sym (kernel_length word) ∙ z))

  some_ranks : (word : List ℕ) → (map cut_of (posix_kernel_after tnfa (terms_of patterns) word) ≢ [])
      → (ranks_after tnfa (terms_of patterns) word ≢ [])
  some_ranks word ne e =
      let z : length (ranks_after tnfa (terms_of patterns) word) ≡ 0 = ap length e in
      ne (none_empty (map cut_of (posix_kernel_after tnfa (terms_of patterns) word)) (kernel_length word ∙ z))

  have_kernels : (words : List (List ℕ)) → HaveDifferentRanks enc (terms_of patterns) tnfa words
      → ArePosixKernels enc (terms_of patterns) words (map kernel words)
  have_kernels [] h = tt
  have_kernels (word ∷ words) h =
      (h.0, listed_kernel enc patterns tnfa of fits word h.1, some_kept word h.2, have_kernels words h.4)

  kernels_are : (words : List (List ℕ)) → HaveDifferentRanks enc (terms_of patterns) tnfa words
      → ArePosixKernels enc (terms_of patterns) ([] ∷ words) (start ∷ map kernel words)
  kernels_are words h = (tt, empty_kernel enc (terms_of patterns) start refl, bare, have_kernels words h)
    where
      bare : start ≢ []
      bare e = cc

  -- the start is the kernel of no other word
  start_differs : (words : List (List ℕ)) → HaveDifferentRanks enc (terms_of patterns) tnfa words
      → DiffersFromAll enc (terms_of patterns) start (map kernel words)
  start_differs [] h = tt
  start_differs (word ∷ words) h = (
    at (map cut_of (posix_kernel_after tnfa (terms_of patterns) word))
        (listed_kernel enc patterns tnfa of fits word h.1),
    start_differs words h.4,
  )
    where
      at : (ks : List Cut) → IsPosixKernel enc (terms_of patterns) word ks → IsSameKernel enc (terms_of patterns) start ks → ⊥
      at [] is same = same.0
      at (k ∷ ks) is same = in_some_part enc (terms_of patterns) word k (is.cuts 0 k h.1 refl) (sym same.0.0.part)

  word_differs : (word : List ℕ) → word ≢ [] → (words : List (List ℕ)) → HaveDifferentRanks enc (terms_of patterns) tnfa words
      → DiffersFromRanks enc (terms_of patterns) tnfa (ranks_after tnfa (terms_of patterns) word) words
      → DiffersFromAll enc (terms_of patterns) (map cut_of (posix_kernel_after tnfa (terms_of patterns) word)) (map kernel words)
  word_differs word ne [] h d = tt
  word_differs word ne (other ∷ words) h d =
      (λ same. d.0 ((alike_lists enc patterns tnfa of fits word other ne h.1).1 same), word_differs word ne words h.4 d.1)

  all_differ : (words : List (List ℕ)) → HaveDifferentRanks enc (terms_of patterns) tnfa words
      → AllDifferByNumbers enc (terms_of patterns) (map kernel words)
  all_differ [] h = tt
  all_differ (word ∷ words) h = (word_differs word h.1 words h.4 h.3, all_differ words h.4)

  same_sum : (words : List (List ℕ)) → sum_by length (map kernel words) ≡ sum_by length (map (ranks_after tnfa (terms_of patterns)) words)
  same_sum [] = refl
  same_sum (word ∷ words) =
      sum_by-cons length (kernel word) (map kernel words) ∙ ap₂ (λ a b. a + b) (kernel_length word) (same_sum words)
      ∙ sym (sum_by-cons length (ranks_after tnfa (terms_of patterns) word) (map (ranks_after tnfa (terms_of patterns)) words))

  whole_sum : (words : List (List ℕ))
      → sum_by length (start ∷ map kernel words) ≡ suc (sum_by length (map (ranks_after tnfa (terms_of patterns)) words))
  whole_sum words =
      let a = sum_by-cons length start (map kernel words) in
      let b = same_sum words in
      omega arith

  counted : (words : List (List ℕ))
      → ((KERNEL_LIMIT < length ([] ∷ words)) ⊎ (PLACE_LIMIT < sum_by length (start ∷ map kernel words)))
      ↔ AreTooManyRanks enc (terms_of patterns) tnfa words
  counted words =
      let s = whole_sum words in (
        λ h. ⊎_elim (λ a. inl a) (λ b. inr (omega arith)) h,
        λ h. ⊎_elim (λ a. inl a) (λ b. inr (omega arith)) h,
      )

  pub many_ranks : (words : List (List ℕ)) → HaveDifferentRanks enc (terms_of patterns) tnfa words
      → AreTooManyRanks enc (terms_of patterns) tnfa words → HasTooManyPosixKernels enc (terms_of patterns)
  many_ranks words h many =
      ([] ∷ words, start ∷ map kernel words, kernels_are words h, (start_differs words h, all_differ words h), (counted words).1 many)

  slice_map : (words : List (List ℕ)) (j : ℕ) (word : List ℕ) → slice_get words j ≡ Some word
      → slice_get (map kernel words) j ≡ Some (kernel word)
  slice_map [] j word e = cc
  slice_map (x ∷ words) zero word e = let z : x ≡ word = cc in ap (λ w. Some (kernel w)) z
  slice_map (x ∷ words) (suc j) word e = slice_map words j word e

  word_at : (words : List (List ℕ)) → HaveDifferentRanks enc (terms_of patterns) tnfa words → (j : ℕ) (word : List ℕ)
      → slice_get words j ≡ Some word → word ≢ []
  word_at [] h j word e = cc
  word_at (x ∷ words) h zero word e = let z : x ≡ word = cc in subst (λ w. w ≢ []) z h.1
  word_at (x ∷ words) h (suc j) word e = word_at words h.4 j word e

  are_closed : (words : List (List ℕ)) → HaveDifferentRanks enc (terms_of patterns) tnfa words
      → HaveAllRanks enc (terms_of patterns) tnfa words
      → AreClosed enc (terms_of patterns) ([] ∷ words) (start ∷ map kernel words)
  are_closed words h all i word unit next at is own ne =
      let v : List ℕ = word ++ unit ∷ [] in
      let some = some_unit word in
      let e = posix_unique enc (terms_of patterns) (word ++ unit ∷ []) next (kernel (word ++ unit ∷ [])) own
      (listed_kernel enc patterns tnfa of fits (word ++ unit ∷ []) some) in
      let r = all i word unit at is.0 (some_ranks (word ++ unit ∷ []) (λ z. ne (e ∙ z))) in
      let same = (alike_lists enc patterns tnfa of fits (word ++ unit ∷ []) r.1 some (word_at words h r.0 r.1 r.2)).0 r.3 in
      (suc r.0, kernel r.1, slice_map words r.0 r.1 r.2, subst (λ k. IsSameKernel enc (terms_of patterns) k (kernel r.1)) (sym e) same)
    where
      some_unit : (l : List ℕ) → l ++ unit ∷ [] ≢ []
      some_unit [] e = cc
      some_unit (x ∷ l) e = cc

  pub all_ranks : (words : List (List ℕ)) → HaveDifferentRanks enc (terms_of patterns) tnfa words
      → HaveAllRanks enc (terms_of patterns) tnfa words
      → HasTooManyPosixKernels enc (terms_of patterns) ↔ AreTooManyRanks enc (terms_of patterns) tnfa words
  all_ranks words h all =
      let are = kernels_are words h in
      let holds =
      closed_all enc (terms_of patterns) ([] ∷ words) (start ∷ map kernel words) 0 (some_kernel enc patterns tnfa of fits)
      (kernels_are words h) (are_closed words h all) refl in
      let c = kernels_counted enc (terms_of patterns) ([] ∷ words) (start ∷ map kernel words) (kernels_are words h)
      (start_differs words h, all_differ words h) holds in
      (λ m. (counted words).0 (c.0 m), λ m. many_ranks words h m)
