-- Many different lists of places that are found are many different kernels.
use Rattle.std.proofs.Common.{ap, sym, ◌∙◌, inl, inr, ⊎_elim, arith}
use Rattle.std.proofs.lemmas.List.{length-map}
use Rattle.std.proofs.lemmas.List.Sums.{sum_by-cons}
use Rattle.std.specs.Prelude.{◌≡◌, ◌≢◌, ℕ, zero, suc, ◌<◌, ◌⊎◌, List, [], ◌∷◌, map, length, All, AllPairs, Some, slice_get, sum_by, refl}
use Rattle.lx_regex.specs.ClassLimits.{AllClassesFit}
use Rattle.lx_base.specs.declared.settings.Enc.{Enc}
use Rattle.lx_base.specs.Spelling.{greatest_unit}
use Rattle.lx_regex.specs.Cut.{Cut, Precedes, last_part}
use Rattle.lx_regex.specs.Kernel.{AllDiffer, AreKernels, DiffersFrom, HasTooManyKernels, IsKernel, IsWord, SamePlaces}
use Rattle.lx_regex.specs.Pattern.{Pattern, terms_of}
use Rattle.lx_regex.specs.Term.{Term}
use Rattle.lx_regex.proofs.KernelCuts.Cuts.{rule_positive}
use Rattle.lx_regex.proofs.KernelCuts.RuleCuts.{cut_within}
use Rattle.lx_tnfa.specs.Tnfa.{IsTnfaOf, Tnfa}
use Rattle.lx_tnfa.specs.declared.places.Place.{Place}
use Rattle.lx_tnfa.proofs.Searching.SearchBasics.{Each}
use Rattle.lx_tnfa.proofs.Searching.SearchPaths.{Each-from_all}
use Rattle.lx_tdfa.specs.Kernels.{Entry, cut_of, kernel_after}
use Rattle.lx_tdfa.specs.Steps.{IsFound, IsInLeaf, start_place}
use Rattle.lx_tdfa.proofs.Walks.ClosureSearches.{RulesKept, SearchesAlike, number_of}
use Rattle.lx_tdfa.proofs.WordKernels.KernelWords.{HasWord, found_words}
use Rattle.lx_tdfa.proofs.WordKernels.ProgramKernels.{kernel_after-alike, kernel_after-kernel}

-- the cut of the empty word
abbrev pub first_cut : Cut
first_cut = record { rule = 0; front = [] }

pub first_kernel : (enc : Enc) (rules : List Term) → IsKernel Precedes enc rules [] (first_cut ∷ [])
first_kernel enc rules = record {
  start = λ e. refl;
  cuts = λ i cut ne at. absurd (ne refl);
  every = λ cut ne is. absurd (ne refl);
  ordered = λ i j cut other lt at also. absurd (beyond i j cut other lt at also);
}
  where
    beyond : (i j : ℕ) (cut other : Cut) → i < j → slice_get (first_cut ∷ []) i ≡ Some cut → slice_get (first_cut ∷ []) j ≡ Some other → ⊥
    beyond i zero cut other lt at also = omega arith
    beyond i (suc j) cut other lt at also = cc

-- the kernel of no other word has its place
pub first_apart : (enc : Enc) (rules : List Term) (word : List ℕ) (cuts : List Cut) → word ≢ [] → IsKernel Precedes enc rules word cuts
    → SamePlaces enc rules (first_cut ∷ []) cuts → ⊥
first_apart enc rules word [] ne is same = same
first_apart enc rules word (cut ∷ cuts) ne is same =
    let at = is.cuts 0 cut ne refl in
    let goes = at.possible.1 in
    let within = cut_within enc rules cut.rule goes.0 goes.2 cut at.possible.0 refl at.after_unit goes in
    let positive = rule_positive rules cut.rule in
    let part : 0 ≡ last_part 0 cut.front = same.0.part in
    omega (arith, within.0, positive, part)

module _ (enc : Enc) (patterns : List Pattern) (tnfa : Tnfa) (of : IsTnfaOf enc patterns tnfa) (fits : AllClassesFit enc (terms_of patterns))
    (kept : RulesKept enc patterns tnfa) where
  -- where a list of places comes from: from the start, or from a word
  abbrev pub Origin : List Place → Type 0
  Origin kernel = (kernel ≡ start_place ∷ []) ⊎ HasWord enc patterns tnfa kernel

  word_from : (kernel : List Place) → Origin kernel → List ℕ
  word_from kernel (inl start) = []
  word_from kernel (inr has) = has.word

  unfoldable pub cuts_from : (kernel : List Place) → Origin kernel → List Cut
  cuts_from kernel (inl start) = first_cut ∷ []
  cuts_from kernel (inr has) = map cut_of (kernel_after tnfa (terms_of patterns) has.word)

  spelled : (kernel : List Place) (origin : Origin kernel) → IsWord enc (terms_of patterns) (word_from kernel origin)
  unfolding word_from
  spelled kernel (inl start) = tt
  spelled kernel (inr has) = has.spelled

  is_kernel : (kernel : List Place) (origin : Origin kernel)
      → IsKernel Precedes enc (terms_of patterns) (word_from kernel origin) (cuts_from kernel origin)
  unfolding word_from cuts_from
  is_kernel kernel (inl start) = first_kernel enc (terms_of patterns)
  is_kernel kernel (inr has) = kernel_after-kernel enc patterns tnfa of fits has.word has.some

  lengths : (kernel : List Place) (origin : Origin kernel) → length (cuts_from kernel origin) ≡ length kernel
  unfolding cuts_from
  lengths kernel (inl start) = ap length (sym start)
  lengths kernel (inr has) =
      length-map (kernel_after tnfa (terms_of patterns) has.word) cut_of
      ∙ sym (length-map (kernel_after tnfa (terms_of patterns) has.word) (λ (entry : Entry). entry.place))
      ∙ ap length (sym has.numbers) ∙ length-map kernel (number_of tnfa)

  full : (kernel : List Place) (origin : Origin kernel) → cuts_from kernel origin ≢ []
  full kernel origin none = bare kernel origin (sym (lengths kernel origin) ∙ ap length none)
    where
      bare : (kernel : List Place) → Origin kernel → length kernel ≡ 0 → ⊥
      bare [] (inl start) e = cc
      bare [] (inr has) e = has.full refl
      bare (place ∷ kernel) origin e = omega arith

  -- numbers tell lists of places in leaves apart
  pub numbers_same : (kernel other : List Place) → Each (IsInLeaf tnfa) kernel → Each (IsInLeaf tnfa) other
      → map (number_of tnfa) kernel ≡ map (number_of tnfa) other → kernel ≡ other
  numbers_same [] [] are also e = refl
  numbers_same [] (there ∷ other) are also e = cc
  numbers_same (place ∷ kernel) [] are also e = cc
  numbers_same (place ∷ kernel) (there ∷ other) are also e =
      let head : number_of tnfa place ≡ number_of tnfa there = cc in
      let tail : map (number_of tnfa) kernel ≡ map (number_of tnfa) other = cc in
      let first = kept.numbers place there are.0 also.0 head in
      let rest = numbers_same kernel other are.1 also.1 tail in cc

  -- different lists are different kernels
  pub apart : (kernel other : List Place) (origin : Origin kernel) (also : Origin other) → kernel ≢ other
      → SamePlaces enc (terms_of patterns) (cuts_from kernel origin) (cuts_from other also) → ⊥
  unfolding cuts_from
  apart kernel other (inl start) (inl first) ne same = ne (start ∙ sym first)
  apart kernel other (inl start) (inr has) ne same =
      first_apart enc (terms_of patterns) has.word (map cut_of (kernel_after tnfa (terms_of patterns) has.word)) has.some
      (kernel_after-kernel enc patterns tnfa of fits has.word has.some) same
  apart kernel other (inr has) (inl start) ne same =
      first_apart enc (terms_of patterns) has.word (map cut_of (kernel_after tnfa (terms_of patterns) has.word)) has.some
      (kernel_after-kernel enc patterns tnfa of fits has.word has.some)
      (turned (map cut_of (kernel_after tnfa (terms_of patterns) has.word)) same)
    where
      turned : (cuts : List Cut) → SamePlaces enc (terms_of patterns) cuts (first_cut ∷ [])
          → SamePlaces enc (terms_of patterns) (first_cut ∷ []) cuts
      turned [] same = same
      turned (cut ∷ []) same =
          (record { rule = sym same.0.rule; part = sym same.0.part; left = λ left. ((same.0.left left).1, (same.0.left left).0) }, tt)
      turned (cut ∷ more ∷ cuts) same = absurd same.1
  apart kernel other (inr has) (inr too) ne same =
      let places_same = (kernel_after-alike enc patterns tnfa of fits has.word too.word has.some too.some).1 same in
      ne
      (numbers_same kernel other (Each-from_all (IsInLeaf tnfa) kernel has.in_leaf) (Each-from_all (IsInLeaf tnfa) other too.in_leaf)
      (has.numbers ∙ places_same ∙ sym too.numbers))

  -- the same of many
  words_from : (kernels : List (List Place)) → Each Origin kernels → List (List ℕ)
  words_from [] origins = []
  words_from (kernel ∷ kernels) origins = word_from kernel origins.0 ∷ words_from kernels origins.1

  all_cuts : (kernels : List (List Place)) → Each Origin kernels → List (List Cut)
  all_cuts [] origins = []
  all_cuts (kernel ∷ kernels) origins = cuts_from kernel origins.0 ∷ all_cuts kernels origins.1

  all_kernels : (kernels : List (List Place)) (origins : Each Origin kernels)
      → AreKernels enc (terms_of patterns) (words_from kernels origins) (all_cuts kernels origins)
  unfolding words_from all_cuts
  all_kernels [] origins = tt
  all_kernels (kernel ∷ kernels) origins =
      (spelled kernel origins.0, is_kernel kernel origins.0, full kernel origins.0, all_kernels kernels origins.1)

  differs_from : (kernel : List Place) (origin : Origin kernel) (kernels : List (List Place)) (origins : Each Origin kernels)
      → Each (λ other. kernel ≢ other) kernels → DiffersFrom enc (terms_of patterns) (cuts_from kernel origin) (all_cuts kernels origins)
  unfolding all_cuts
  differs_from kernel origin [] origins differ = tt
  differs_from kernel origin (other ∷ kernels) origins differ =
      (apart kernel other origin origins.0 differ.0, differs_from kernel origin kernels origins.1 differ.1)

  all_differ : (kernels : List (List Place)) (origins : Each Origin kernels) → AllPairs (λ kernel other. kernel ≢ other) kernels
      → AllDiffer enc (terms_of patterns) (all_cuts kernels origins)
  unfolding all_cuts
  all_differ [] origins differ = tt
  all_differ (kernel ∷ kernels) origins differ = (
    differs_from kernel origins.0 kernels origins.1
        (Each-from_all (λ other. kernel ≢ other) kernels (λ k d lt. differ 0 (suc k) d (omega arith) (omega arith))),
    all_differ kernels origins.1 (λ i j d lt within. differ (suc i) (suc j) d (omega arith) (omega arith)),
  )

  words_count : (kernels : List (List Place)) (origins : Each Origin kernels) → length (words_from kernels origins) ≡ length kernels
  unfolding words_from
  words_count [] origins = refl
  words_count (kernel ∷ kernels) origins = ap suc (words_count kernels origins.1)

  places_count : (kernels : List (List Place)) (origins : Each Origin kernels) → sum_by length (all_cuts kernels origins) ≡ sum_by length kernels
  unfolding all_cuts
  places_count [] origins = refl
  places_count (kernel ∷ kernels) origins =
      let rest = places_count kernels origins.1 in
      let one = lengths kernel origins.0 in
      let here = sum_by-cons (length {A = Place}) kernel kernels in
      let there = sum_by-cons (length {A = Cut}) (cuts_from kernel origins.0) (all_cuts kernels origins.1) in
      omega arith

  -- too many lists of places that are found are too many kernels
  pub many_found : SearchesAlike patterns tnfa → (kernels : List (List Place)) → All (IsFound tnfa (greatest_unit enc)) kernels
      → AllPairs (λ kernel other. kernel ≢ other) kernels → (4096 < length kernels) ⊎ (1048576 < sum_by length kernels)
      → HasTooManyKernels enc (terms_of patterns)
  many_found alike kernels found differ many = (
    words_from kernels origins,
    all_cuts kernels origins,
    all_kernels kernels origins,
    all_differ kernels origins differ,
    ⊎_elim (λ lt. inl (omega (arith, lt, words_count kernels origins))) (λ lt. inr (omega (arith, lt, places_count kernels origins))) many,
  )
    where
      each : (kernels : List (List Place)) → Each (IsFound tnfa (greatest_unit enc)) kernels → Each Origin kernels
      each [] found = tt
      each (kernel ∷ kernels) found = (found_words enc patterns tnfa of alike kernel found.0, each kernels found.1)

      origins : Each Origin kernels
      origins = each kernels (Each-from_all (IsFound tnfa (greatest_unit enc)) kernels found)
