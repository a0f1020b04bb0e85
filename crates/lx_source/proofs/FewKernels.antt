-- Generated rules have few kernels: their numbers are different, and less than 4,096.
use Rattle.std.specs.Prelude.{◌≡◌, ◌≢◌, ℕ, ◌*◌, ◌<◌, ◌≤◌, ◌⊎◌, Bool, true, false, ◌||◌, List, [], ◌∷◌, length, sum_by, refl}
use Rattle.std.proofs.Common.{arith, inl, inr, ⊎_elim}
use Rattle.std.specs.List.{AllByRecursion, IsDistinct, list_any}
use Rattle.std.proofs.Math.Dec.{eqb}
use Rattle.std.proofs.lemmas.Bool.{eqb-true}
use Rattle.std.proofs.lemmas.List.Sums.{sum_by-cons}
use Rattle.std.proofs.lemmas.Map.Steps.{length-le_from_distinct_below}
use Rattle.lx_base.specs.declared.settings.Enc.TheVariants.{Byte}
use Rattle.lx_regex.specs.Cut.{Cut, Precedes}
use Rattle.lx_regex.specs.Kernel.{AllDiffer, AreKernels, DiffersFrom, HasTooManyKernels, IsKernel}
use Rattle.lx_source.specs.GeneratedRules.{rule_terms}
use Rattle.lx_source.proofs.KernelNumbers.{kernel_number, kernel_short, number_below, number_places}

-- the numbers of the kernels of words
abbrev numbers : (count : ℕ) → (words : List (List ℕ)) → (kernels : List (List Cut)) → List ℕ
numbers count [] kernels = []
numbers count (word ∷ words) [] = []
numbers count (word ∷ words) (kernel ∷ kernels) = kernel_number count word kernel ∷ numbers count words kernels

not_true : (test : Bool) → (test ≡ true → ⊥) → test ≡ false
not_true true wrong = absurd (wrong refl)
not_true false wrong = refl

one_true : (test rest : Bool) → (test || rest) ≡ true → (test ≡ true) ⊎ (rest ≡ true)
one_true true rest e = inl refl
one_true false rest e = inr e

module _ (count : ℕ) (most : count ≤ 200) where
  numbers_length : (words : List (List ℕ)) (kernels : List (List Cut)) → AreKernels Byte (rule_terms count) words kernels
      → (length (numbers count words kernels) ≡ length words) × (length words ≡ length kernels)
  numbers_length [] [] are = (refl, refl)
  numbers_length [] (kernel ∷ kernels) are = absurd are
  numbers_length (word ∷ words) [] are = absurd are
  numbers_length (word ∷ words) (kernel ∷ kernels) are =
      let rest = numbers_length words kernels are.3 in (omega (arith, rest.0), omega (arith, rest.1))

  numbers_below : (words : List (List ℕ)) (kernels : List (List Cut)) → AreKernels Byte (rule_terms count) words kernels
      → (number : ℕ) → list_any (eqb number) (numbers count words kernels) ≡ true → number < 4096
  numbers_below [] kernels are number has = cc
  numbers_below (word ∷ words) [] are number has = absurd are
  numbers_below (word ∷ words) (kernel ∷ kernels) are number has =
      ⊎_elim
      (λ here.
      let same = eqb-true number (kernel_number count word kernel) here in
      let low = number_below count most word kernel are.1 in omega arith)
      (λ rest. numbers_below words kernels are.3 number rest)
      (one_true (eqb number (kernel_number count word kernel)) (list_any (eqb number) (numbers count words kernels)) has)

  differs_number : (word : List ℕ) (kernel : List Cut) → IsKernel Precedes Byte (rule_terms count) word kernel → kernel ≢ []
      → (words : List (List ℕ)) (kernels : List (List Cut)) → AreKernels Byte (rule_terms count) words kernels
      → DiffersFrom Byte (rule_terms count) kernel kernels
      → AllByRecursion (λ number. eqb (kernel_number count word kernel) number ≡ false) (numbers count words kernels)
  differs_number word kernel is full [] kernels are differ = tt
  differs_number word kernel is full (next ∷ words) [] are differ = tt
  differs_number word kernel is full (next ∷ words) (other ∷ kernels) are differ = (
    not_true
        (eqb (kernel_number count word kernel) (kernel_number count next other))
        (λ same.
        differ.0
        (number_places count most word next kernel other is are.1 full are.2
        (eqb-true (kernel_number count word kernel) (kernel_number count next other) same))),
    differs_number word kernel is full words kernels are.3 differ.1,
  )

  numbers_distinct : (words : List (List ℕ)) (kernels : List (List Cut)) → AreKernels Byte (rule_terms count) words kernels
      → AllDiffer Byte (rule_terms count) kernels → IsDistinct eqb (numbers count words kernels)
  unfolding IsDistinct
  numbers_distinct [] kernels are differ = tt
  numbers_distinct (word ∷ words) [] are differ = tt
  numbers_distinct (word ∷ words) (kernel ∷ kernels) are differ =
      (differs_number word kernel are.1 are.2 words kernels are.3 differ.0, numbers_distinct words kernels are.3 differ.1)

  places_count : (words : List (List ℕ)) (kernels : List (List Cut)) → AreKernels Byte (rule_terms count) words kernels
      → sum_by length kernels ≤ 201 * length kernels
  places_count [] [] are = omega arith
  places_count [] (kernel ∷ kernels) are = absurd are
  places_count (word ∷ words) [] are = absurd are
  places_count (word ∷ words) (kernel ∷ kernels) are =
      let short = kernel_short count most word kernel are.1 in
      let rest = places_count words kernels are.3 in
      let sum = sum_by-cons (length {A = Cut}) kernel kernels in omega arith

  -- no more kernels than a scanner may have, and no more places
  pub few_kernels : HasTooManyKernels Byte (rule_terms count) → ⊥
  few_kernels many =
      let lengths = numbers_length many.0 many.1 many.2 in
      let all =
      length-le_from_distinct_below
      (numbers count many.0 many.1) 4096 (numbers_distinct many.0 many.1 many.2 many.3) (numbers_below many.0 many.1 many.2) in
      let places = places_count many.0 many.1 many.2 in
      ⊎_elim (λ more. omega (arith, lengths.0, lengths.1)) (λ more. omega (arith, lengths.0, lengths.1)) many.4
