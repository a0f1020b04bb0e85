-- The number of a kernel: that of the place of its first cut, which tells all places of the kernel.
use Rattle.std.specs.Prelude.{◌≡◌, ◌≢◌, ℕ, suc, ◌+◌, ◌-◌, ◌*◌, ◌<◌, ◌≤◌, ◌^◌, List, [], ◌∷◌, ◌++◌, length, Some, slice_get, refl}
use Rattle.std.proofs.Common.{sym, ap, ◌∙◌, subst, arith, length-append, ⊎_elim}
use Rattle.std.proofs.lemmas.Fmt.{decimal_injective}
use Rattle.std.specs.Fmt.{decimal}
use Rattle.lx_base.specs.declared.settings.Enc.TheVariants.{Byte}
use Rattle.lx_regex.specs.Cut.{Cut, IsCut, Precedes, SamePlace, last_part, rule_part}
use Rattle.lx_regex.specs.Kernel.{IsKernel, SamePlaces}
use Rattle.lx_regex.proofs.KernelCuts.Kernels.{kernel_is_unique}
use Rattle.lx_source.specs.GeneratedRules.{rule_terms, word_letters}
use Rattle.lx_source.proofs.ByteLeaves.{part_place}
use Rattle.lx_source.proofs.Decimals.{decimal_digits, decimal_short}
use Rattle.lx_source.proofs.RuleCuts.{AnyCut, SpotIn, WordCut, cut_cases}
use Rattle.lx_source.proofs.Spots.{HasLetters, letters_known, one_part, part_words, spot_range}

-- the number of the place of a cut: a rule has less than 19 of them
abbrev pub place_number : (count : ℕ) → Cut → ℕ
place_number count cut = suc (19 * cut.rule + (last_part 0 cut.front - (rule_part (rule_terms count) cut.rule + 3)))

-- the number of the kernel of a word
abbrev pub kernel_number : (count : ℕ) → (word : List ℕ) → (kernel : List Cut) → ℕ
kernel_number count [] kernel = 0
kernel_number count (unit ∷ word) [] = 0
kernel_number count (unit ∷ word) (cut ∷ cuts) = place_number count cut

letters_short : (number : ℕ) → number ≤ 200 → length (word_letters number) ≤ 5
letters_short number few = omega (arith, decimal_short number (omega arith), length-append (decimal number) (120 ∷ []))

number_small : (number : ℕ) → number ≤ 200 → number < 2 ^ 64
number_small number few = omega arith

module _ (count : ℕ) (most : count ≤ 200) where
  -- the offset of the part of a word's cut is less than 19
  word_range : (word : List ℕ) (cut : Cut) → WordCut count word cut
      → (rule_part (rule_terms count) cut.rule + 3 ≤ last_part 0 cut.front)
      × (last_part 0 cut.front < rule_part (rule_terms count) cut.rule + 3 + 19)
  word_range word cut is =
      let few = is.few in
      let short = letters_short (suc cut.rule) (omega arith) in
      let range = spot_range (word_letters (suc cut.rule)) _ 3 _ word _ is.spot refl in
      (range.0, omega (arith, range.1, short))

  -- a word has one place in each rule
  rule_place : (word : List ℕ) (cut other : Cut) → IsCut Byte (rule_terms count) word cut → IsCut Byte (rule_terms count) word other
      → cut.rule ≡ other.rule → SamePlace Byte (rule_terms count) cut other
  rule_place word cut other is too same =
      part_place (rule_terms count) word word cut other is too same
      (⊎_elim
      (λ a.
      ⊎_elim
      (λ b.
      one_part
      (decimal (suc cut.rule)) _ 3 _ word _ _
      (WordCut.spot a) (subst (λ r. SpotIn count r word (last_part 0 other.front)) (sym same) (WordCut.spot b)))
      (λ b. absurd (let x = WordCut.few a in let y = AnyCut.last b in omega arith)) (cut_cases count word other too))
      (λ a.
      ⊎_elim
      (λ b. absurd (let x = WordCut.few b in let y = AnyCut.last a in omega arith))
      (λ b. AnyCut.part a ∙ ap (rule_part (rule_terms count)) same ∙ sym (AnyCut.part b)) (cut_cases count word other too))
      (cut_cases count word cut is))

  place_below : (word : List ℕ) (cut : Cut) → IsCut Byte (rule_terms count) word cut → place_number count cut < 4096
  place_below word cut is =
      ⊎_elim
      (λ a. let few = WordCut.few a in let range = word_range word cut a in omega (arith, range.0, range.1))
      (λ b. let last = AnyCut.last b in let part = AnyCut.part b in omega arith) (cut_cases count word cut is)

  -- cuts whose places have one number are of one rule, and stand in one part
  place_same : (word next : List ℕ) (cut other : Cut) → IsCut Byte (rule_terms count) word cut → IsCut Byte (rule_terms count) next other
      → place_number count cut ≡ place_number count other → (cut.rule ≡ other.rule) × (last_part 0 cut.front ≡ last_part 0 other.front)
  place_same word next cut other is too same =
      ⊎_elim
      (λ a.
      let few = WordCut.few a in
      let range = word_range word cut a in
      ⊎_elim
      (λ b.
      let range' = word_range next other b in
      let rule : cut.rule ≡ other.rule = omega (arith, range.0, range.1, range'.0, range'.1) in
      let start = ap (rule_part (rule_terms count)) rule in
      (rule, omega (arith, range.0, range.1, range'.0, range'.1)))
      (λ b.
      let last = AnyCut.last b in let part = AnyCut.part b in absurd (omega (arith, range.0, range.1))) (cut_cases count next other too))
      (λ a.
      let last = AnyCut.last a in
      let part = AnyCut.part a in
      ⊎_elim
      (λ b.
      let few = WordCut.few b in
      let range = word_range next other b in absurd (omega (arith, range.0, range.1)))
      (λ b.
      let rule : cut.rule ≡ other.rule = last ∙ sym (AnyCut.last b) in
      (rule, part ∙ ap (rule_part (rule_terms count)) rule ∙ sym (AnyCut.part b)))
      (cut_cases count next other too))
      (cut_cases count word cut is)

  -- the first cut of a kernel is the only one, if no later rule has a cut at the word
  alone : (word : List ℕ) (cut : Cut) (cuts : List Cut) → IsKernel Precedes Byte (rule_terms count) word (cut ∷ cuts) → word ≢ []
      → ((other : Cut) → IsCut Byte (rule_terms count) word other → cut.rule ≤ other.rule → cut.rule ≡ other.rule) → cuts ≡ []
  alone word cut [] kernel some only = refl
  alone word cut (next ∷ cuts) kernel some only =
      let order = kernel.ordered 0 1 cut next (omega arith) refl refl in
      let is = kernel.cuts 0 cut some refl in
      let too = kernel.cuts 1 next some refl in
      let rule : cut.rule ≤ next.rule = ⊎_elim (λ before. omega arith) (λ both. let e = both.0 in omega arith) order.0 in
      absurd (order.1 (rule_place word cut next is too (only next too rule)))

  -- where a word has all letters of a rule, no other rule has a cut at it
  letters_alone : (word : List ℕ) (cut : Cut) → cut.rule < count → HasLetters (decimal (suc cut.rule)) word
      → (other : Cut) → IsCut Byte (rule_terms count) word other → cut.rule ≡ other.rule
  letters_alone word cut few has other is =
      ⊎_elim
      (λ a.
      let few' = WordCut.few a in
      let first = number_small (suc cut.rule) (omega arith) in
      let second = number_small (suc other.rule) (omega arith) in
      let same =
      letters_known
      (decimal (suc cut.rule)) (decimal (suc other.rule)) _ _ word _ (decimal_digits (suc cut.rule) first)
      (decimal_digits (suc other.rule) second) refl has (WordCut.spot a) in
      let number = decimal_injective (suc cut.rule) (suc other.rule) first second same in
      omega arith)
      (λ b.
      let long = ap length (sym has.1 ∙ AnyCut.one b) in
      let front = length-append (decimal (suc cut.rule) ++ 120 ∷ []) has.0 in
      let back = length-append (decimal (suc cut.rule)) (120 ∷ []) in
      absurd (omega arith))
      (cut_cases count word other is)

  -- of the rule `*` there is no later one
  any_alone : (word : List ℕ) (cut : Cut) → cut.rule ≡ count → (other : Cut) → IsCut Byte (rule_terms count) word other
      → cut.rule ≤ other.rule → cut.rule ≡ other.rule
  any_alone word cut last other is order =
      ⊎_elim
      (λ a. let few = WordCut.few a in absurd (omega arith)) (λ b. last ∙ sym (AnyCut.last b)) (cut_cases count word other is)

  same_self : (kernel : List Cut) → SamePlaces Byte (rule_terms count) kernel kernel
  same_self [] = tt
  same_self (cut ∷ cuts) = (record { rule = refl; part = refl; left = λ left. ((λ h. h), (λ h. h)) }, same_self cuts)

  same_one : (cut other : Cut) (cuts others : List Cut) → cuts ≡ [] → others ≡ [] → SamePlace Byte (rule_terms count) cut other
      → SamePlaces Byte (rule_terms count) (cut ∷ cuts) (other ∷ others)
  same_one cut other [] [] e f same = (same, tt)
  same_one cut other [] (next ∷ others) e f same = cc
  same_one cut other (next ∷ cuts) others e f same = cc

  -- kernels whose first cuts are in one part of one rule have the same places
  same_first : (word next : List ℕ) (cut other : Cut) (cuts others : List Cut) → word ≢ [] → next ≢ []
      → IsKernel Precedes Byte (rule_terms count) word (cut ∷ cuts) → IsKernel Precedes Byte (rule_terms count) next (other ∷ others)
      → cut.rule ≡ other.rule → last_part 0 cut.front ≡ last_part 0 other.front
      → SamePlaces Byte (rule_terms count) (cut ∷ cuts) (other ∷ others)
  same_first word next cut other cuts others some more kernel too rule part =
      ⊎_elim
      (λ a.
      ⊎_elim
      (λ b.
      ⊎_elim
      (λ same.
      subst
      (λ k. SamePlaces Byte (rule_terms count) (cut ∷ cuts) k)
      (kernel_is_unique Byte
      (rule_terms count) word (cut ∷ cuts) (other ∷ others) kernel
      (subst (λ w. IsKernel Precedes Byte (rule_terms count) w (other ∷ others)) (sym same) too))
      (same_self (cut ∷ cuts)))
      (λ both.
      one
      (λ o i order. letters_alone word cut (WordCut.few a) both.0 o i)
      (λ o i order.
      letters_alone next other
      (WordCut.few b) (subst (λ r. HasLetters (decimal (suc r)) next) rule both.1) o i))
      (part_words
      (decimal (suc cut.rule)) _ _ word next (last_part 0 cut.front) refl (WordCut.spot a)
      (subst
      (λ p. SpotIn count cut.rule next p) (sym part)
      (subst (λ r. SpotIn count r next (last_part 0 other.front)) (sym rule) (WordCut.spot b)))))
      (λ b. absurd (let few = WordCut.few a in let last = AnyCut.last b in omega arith)) (cut_cases count next other is'))
      (λ a.
      one
      (any_alone word cut (AnyCut.last a)) (any_alone next other (sym rule ∙ AnyCut.last a)))
      (cut_cases count word cut is)
    where
      is : IsCut Byte (rule_terms count) word cut
      is = kernel.cuts 0 cut some refl

      is' : IsCut Byte (rule_terms count) next other
      is' = too.cuts 0 other more refl

      one : ((o : Cut) → IsCut Byte (rule_terms count) word o → cut.rule ≤ o.rule → cut.rule ≡ o.rule)
          → ((o : Cut) → IsCut Byte (rule_terms count) next o → other.rule ≤ o.rule → other.rule ≡ o.rule)
          → SamePlaces Byte (rule_terms count) (cut ∷ cuts) (other ∷ others)
      one first second =
          same_one cut other cuts
          others (alone word cut cuts kernel some first) (alone next other others too more second)
          (part_place (rule_terms count) word next cut other is is' rule part)

  some_unit : (unit : ℕ) (word : List ℕ) → unit ∷ word ≢ []
  some_unit unit word e = cc

  -- kernels of one number have the same places
  pub number_places : (word next : List ℕ) (kernel other : List Cut) → IsKernel Precedes Byte (rule_terms count) word kernel
      → IsKernel Precedes Byte (rule_terms count) next other → kernel ≢ [] → other ≢ []
      → kernel_number count word kernel ≡ kernel_number count next other → SamePlaces Byte (rule_terms count) kernel other
  number_places [] [] kernel other is too full full' same =
      subst (SamePlaces Byte (rule_terms count) kernel) (is.start refl ∙ sym (too.start refl)) (same_self kernel)
  number_places [] (unit ∷ next) kernel [] is too full full' same = absurd (full' refl)
  number_places [] (unit ∷ next) kernel (cut ∷ cuts) is too full full' same = absurd (omega arith)
  number_places (unit ∷ word) [] [] other is too full full' same = absurd (full refl)
  number_places (unit ∷ word) [] (cut ∷ cuts) other is too full full' same = absurd (omega arith)
  number_places (unit ∷ word) (unit' ∷ next) [] other is too full full' same = absurd (full refl)
  number_places (unit ∷ word) (unit' ∷ next) (cut ∷ cuts) [] is too full full' same = absurd (full' refl)
  number_places (unit ∷ word) (unit' ∷ next) (cut ∷ cuts) (cut' ∷ others) is too full full' same =
      let place =
      place_same
      (unit ∷ word) (unit' ∷ next) cut cut' (is.cuts 0 cut (some_unit unit word) refl) (too.cuts 0 cut' (some_unit unit' next) refl) same in
      same_first
      (unit ∷ word) (unit' ∷ next) cut cut' cuts others (some_unit unit word) (some_unit unit' next) is too place.0 place.1

  pub number_below : (word : List ℕ) (kernel : List Cut) → IsKernel Precedes Byte (rule_terms count) word kernel
      → kernel_number count word kernel < 4096
  number_below [] kernel is = omega arith
  number_below (unit ∷ word) [] is = omega arith
  number_below (unit ∷ word) (cut ∷ cuts) is = place_below (unit ∷ word) cut (is.cuts 0 cut (some_unit unit word) refl)

  -- cuts of rules that ascend, within a bound, are not more than it
  rules_count : (low top : ℕ) (cuts : List Cut) → low ≤ top
      → ((i : ℕ) (cut : Cut) → slice_get cuts i ≡ Some cut → (low ≤ cut.rule) × (cut.rule < top))
      → ((i j : ℕ) (cut other : Cut) → i < j → slice_get cuts i ≡ Some cut → slice_get cuts j ≡ Some other → cut.rule < other.rule)
      → low + length cuts ≤ top
  rules_count low top [] order bounds ascends = omega arith
  rules_count low top (cut ∷ cuts) order bounds ascends =
      let here = bounds 0 cut refl in
      let rest =
      rules_count
      (suc cut.rule) top cuts (omega (arith, here.1))
      (λ i next at. (ascends 0 (suc i) cut next (omega arith) refl at, (bounds (suc i) next at).1))
      (λ i j a b lt at at'. ascends (suc i) (suc j) a b (omega arith) at at') in
      omega (arith, here.0, rest)

  -- a kernel has no more cuts than there are rules
  pub kernel_short : (word : List ℕ) (kernel : List Cut) → IsKernel Precedes Byte (rule_terms count) word kernel → length kernel ≤ 201
  kernel_short [] kernel is = omega (arith, ap length (is.start refl))
  kernel_short (unit ∷ word) kernel is =
      let some = some_unit unit word in
      let short =
      rules_count 0
      (suc count) kernel (omega arith) (λ i cut at. (omega arith, rule_below cut (is.cuts i cut some at)))
      (λ i j cut other lt at at'.
      let order = is.ordered i j cut other lt at at' in
      ⊎_elim
      (λ before. before)
      (λ both. absurd (order.1 (rule_place (unit ∷ word) cut other (is.cuts i cut some at) (is.cuts j other some at') both.0))) order.0) in
      omega arith
    where
      rule_below : (cut : Cut) → IsCut Byte (rule_terms count) (unit ∷ word) cut → cut.rule < suc count
      rule_below cut is =
          ⊎_elim
          (λ a. let few = WordCut.few a in omega arith) (λ b. let last = AnyCut.last b in omega arith)
          (cut_cases count (unit ∷ word) cut is)
