-- The states of the automaton of a table are the kernels of words, where no list stands in the table twice.
use Rattle.std.proofs.Common.{◌≡◌, ◌≢◌, ◌⊎◌, inl, inr, ℕ, ◌<◌, ◌↔◌, List, [], ◌∷◌, map, Option, Some, None, IsSome, refl, sym, ap, ◌∙◌, subst}
use Rattle.std.proofs.lemmas.Bool.{cases_order}
use Rattle.std.proofs.lemmas.Option.{get_or_from_slice_get, slice_get_within}
use Rattle.std.specs.Prelude.{AllPairs, slice_get}
use Rattle.lx_auto.specs.declared.automaton.Auto.{Auto}
use Rattle.lx_base.specs.Spelling.{greatest_unit}
use Rattle.lx_base.specs.declared.settings.Enc.{Enc}
use Rattle.lx_regex.specs.ClassLimits.{AllClassesFit}
use Rattle.lx_regex.specs.Cut.{BeginsMatch, Cut, Precedes}
use Rattle.lx_regex.specs.Kernel.{IsKernel, IsWord, SamePlaces}
use Rattle.lx_regex.specs.Pattern.{Pattern, terms_of}
use Rattle.lx_regex.specs.Term.{Term}
use Rattle.lx_regex.proofs.KernelCuts.Kernels.{kernel_is_unique}
use Rattle.lx_tnfa.specs.Tnfa.{IsTnfaOf, Tnfa}
use Rattle.lx_tnfa.specs.declared.places.Place.{Place}
use Rattle.lx_tdfa.specs.KernelStates.{HasKernelStates, HaveOneKernel, state_behind}
use Rattle.lx_tdfa.specs.Kernels.{Entry, cut_of, kernel_after, places}
use Rattle.lx_tdfa.specs.Table.{IsTable}
use Rattle.lx_tdfa.proofs.Tables.TableBegins.{nil_of_map}
use Rattle.lx_tdfa.proofs.Tables.TableWords.{InTable, Leads, StandsAt, at_first, at_word, word_leads}
use Rattle.lx_tdfa.proofs.Walks.ClosureSearches.{RulesKept, SearchesAlike, number_of}
use Rattle.lx_tdfa.proofs.WordKernels.FewKernels.{one_place}
use Rattle.lx_tdfa.proofs.WordKernels.ManyKernels.{Origin, apart, cuts_from, first_cut, first_kernel}
use Rattle.lx_tdfa.proofs.WordKernels.ProgramKernels.{kernel_after-empty, kernel_after-kernel}

no_places : (enc : Enc) (rules : List Term) (cuts : List Cut) → SamePlaces enc rules [] cuts → cuts ≡ []
no_places enc rules [] same = refl
no_places enc rules (cut ∷ cuts) same = absurd same

no_other_places : (enc : Enc) (rules : List Term) (cuts : List Cut) → SamePlaces enc rules cuts [] → cuts ≡ []
no_other_places enc rules [] same = refl
no_other_places enc rules (cut ∷ cuts) same = absurd same

module _ (enc : Enc) (patterns : List Pattern) (tnfa : Tnfa) (of : IsTnfaOf enc patterns tnfa) (fits : AllClassesFit enc (terms_of patterns))
    (alike : SearchesAlike patterns tnfa) (kept : RulesKept enc patterns tnfa) (kernels : List (List Place)) (auto : Auto)
    (table : IsTable tnfa (greatest_unit enc) kernels auto) (differ : AllPairs (λ list other. list ≢ other) kernels) where
  abbrev rules : List Term
  rules = terms_of patterns

  abbrev after_word : List ℕ → List Entry
  after_word word = kernel_after tnfa rules word

  -- ---- the kernel of a word in the table

  -- it, and the list from which it comes
  record Kernel (word : List ℕ) (list : List Place) : Type 0 where
    cuts : List Cut
    is : IsKernel Precedes enc rules word cuts
    some : cuts ≢ []
    from : Origin enc patterns tnfa of fits kept list
    same : cuts ≡ cuts_from enc patterns tnfa of fits kept list from

  kernel_at : (word : List ℕ) (index : ℕ) (list : List Place) → IsWord enc rules word → slice_get kernels index ≡ Some list
      → StandsAt enc patterns tnfa kernels word index list → list ≢ [] → Kernel word list
  unfolding cuts_from
  kernel_at word index list spelled at at_first full =
      record { cuts = first_cut ∷ []; is = first_kernel enc rules; some = λ e. cc; from = inl refl; same = refl }
  kernel_at word index list spelled at (at_word w number l some numbers) full = record {
    cuts = map cut_of (after_word word);
    is = kernel_after-kernel enc patterns tnfa of fits word some;
    some = λ none.
        full (nil_of_map (number_of tnfa) list (numbers ∙ ap places (nil_of_map cut_of (after_word word) none)));
    from = inr (record {
      word = word;
      some = some;
      spelled = spelled;
      numbers = numbers;
      in_leaf = table.places number list at;
      full = full;
    });
    same = refl;
  }

  kernel_of : (word : List ℕ) → IsWord enc rules word → (has : InTable enc patterns tnfa kernels word) → Kernel word has.kernel
  kernel_of word spelled has = kernel_at word has.index has.kernel spelled has.at has.stands has.full

  -- ---- a word without places

  nonempty : (word : List ℕ) → state_behind auto word ≡ None → word ≢ []
  nonempty word none e = let nowhere : None ≡ Some 0 = sym none ∙ ap (state_behind auto) e in cc

  empty_kernel : (word : List ℕ) → word ≢ [] → places (after_word word) ≡ [] → IsKernel Precedes enc rules word []
  empty_kernel word some none =
      subst (λ cuts. IsKernel Precedes enc rules word cuts) (ap (map cut_of) (nil_of_map (λ (entry : Entry). entry.place) (after_word word) none))
      (kernel_after-kernel enc patterns tnfa of fits word some)

  -- ---- words that lead to one state

  indices-same : (word other : List ℕ) (has : InTable enc patterns tnfa kernels word) (also : InTable enc patterns tnfa kernels other)
      → has.index ≡ also.index → has.kernel ≡ also.kernel
  indices-same word other has also same =
      let lists : Some has.kernel ≡ Some also.kernel = sym has.at ∙ ap (slice_get kernels) same ∙ also.at in cc

  kernels-differ : (word other : List ℕ) (has : InTable enc patterns tnfa kernels word) (also : InTable enc patterns tnfa kernels other)
      → has.index < also.index → has.kernel ≢ also.kernel
  kernels-differ word other has also less same =
      differ has.index also.index [] less (slice_get_within kernels also.index also.kernel also.at)
      (get_or_from_slice_get kernels has.index has.kernel [] has.at ∙ same
      ∙ sym (get_or_from_slice_get kernels also.index also.kernel [] also.at))

  kernels-apart : (word other : List ℕ) (list there : List Place) (one : Kernel word list) (two : Kernel other there) → list ≢ there
      → SamePlaces enc rules one.cuts two.cuts → ⊥
  kernels-apart word other list there one two ne same =
      apart enc patterns tnfa of fits kept list there one.from two.from ne
      (subst (λ cuts. SamePlaces enc rules cuts (cuts_from enc patterns tnfa of fits kept there two.from)) one.same
      (subst (λ cuts. SamePlaces enc rules one.cuts cuts) two.same same))

  one-kernel : (word other : List ℕ) → IsWord enc rules word → IsWord enc rules other → (to last : Option ℕ)
      → Leads enc patterns tnfa kernels word to → Leads enc patterns tnfa kernels other last
      → (to ≡ None → word ≢ []) → (last ≡ None → other ≢ [])
      → to ≡ last → HaveOneKernel enc rules word other
  one-kernel word other spelled also to last (inl none) (inl nor) some still same = record {
    kernel = [];
    others = [];
    of_word = empty_kernel word (some none.0) none.1;
    of_other = empty_kernel other (still nor.0) nor.1;
    same = tt;
  }
  one-kernel word other spelled also to last (inl none) (inr has) some still same =
      let nowhere : None ≡ Some has.0.index = sym none.0 ∙ same ∙ has.1 in absurd (cc nowhere)
  one-kernel word other spelled also to last (inr has) (inl none) some still same =
      let nowhere : None ≡ Some has.0.index = sym none.0 ∙ sym same ∙ has.1 in absurd (cc nowhere)
  one-kernel word other spelled also to last (inr has) (inr too) some still same =
      let numbers : Some has.0.index ≡ Some too.0.index = sym has.1 ∙ same ∙ too.1 in
      let index : has.0.index ≡ too.0.index = cc in
      let one = kernel_of word spelled has.0 in
      let two = kernel_of other also too.0 in
      record {
        kernel = one.cuts;
        others = two.cuts;
        of_word = one.is;
        of_other = two.is;
        same =
            one_place enc patterns tnfa of fits alike kernels auto table word other one.cuts two.cuts has.0.index too.0.index has.0.kernel too.0.kernel
            one.is two.is has.0.stands too.0.stands index (indices-same word other has.0 too.0 index);
      }

  -- ---- words that have one kernel

  kernel-is : (word : List ℕ) (cuts others : List Cut) → IsKernel Precedes enc rules word cuts → IsKernel Precedes enc rules word others → cuts ≡ others
  kernel-is word cuts others is too = kernel_is_unique enc rules word cuts others is too

  one-state : (word other : List ℕ) → IsWord enc rules word → IsWord enc rules other → (to last : Option ℕ)
      → Leads enc patterns tnfa kernels word to → Leads enc patterns tnfa kernels other last
      → (to ≡ None → word ≢ []) → (last ≡ None → other ≢ [])
      → (cuts others : List Cut) → IsKernel Precedes enc rules word cuts → IsKernel Precedes enc rules other others
      → SamePlaces enc rules cuts others → to ≡ last
  one-state word other spelled also to last (inl none) (inl nor) some still cuts others is too same = none.0 ∙ sym nor.0
  one-state word other spelled also to last (inl none) (inr has) some still cuts others is too same =
      let two = kernel_of other also has.0 in
      let empty : cuts ≡ [] = kernel-is word cuts [] is (empty_kernel word (some none.0) none.1) in
      absurd (two.some (kernel-is other two.cuts others two.is too
      ∙ no_places enc rules others (subst (λ l. SamePlaces enc rules l others) empty same)))
  one-state word other spelled also to last (inr has) (inl none) some still cuts others is too same =
      let one = kernel_of word spelled has.0 in
      let empty : others ≡ [] = kernel-is other others [] too (empty_kernel other (still none.0) none.1) in
      absurd (one.some (kernel-is word one.cuts cuts one.is is
      ∙ no_other_places enc rules cuts (subst (λ l. SamePlaces enc rules cuts l) empty same)))
  one-state word other spelled also to last (inr has) (inr too) some still cuts others is also_is same =
      has.1 ∙ ap Some (at (cases_order has.0.index too.0.index)) ∙ sym too.1
    where
      one : Kernel word has.0.kernel
      one = kernel_of word spelled has.0

      two : Kernel other too.0.kernel
      two = kernel_of other also too.0

      same_places : SamePlaces enc rules one.cuts two.cuts
      same_places =
          subst (λ l. SamePlaces enc rules l two.cuts) (kernel-is word cuts one.cuts is one.is)
          (subst (λ l. SamePlaces enc rules cuts l) (kernel-is other others two.cuts also_is two.is) same)

      at : (has.0.index ≡ too.0.index) ⊎ ((has.0.index < too.0.index) ⊎ (too.0.index < has.0.index)) → has.0.index ≡ too.0.index
      at (inl equal) = equal
      at (inr (inl less)) =
          absurd (kernels-apart word other has.0.kernel too.0.kernel one two (kernels-differ word other has.0 too.0 less) same_places)
      at (inr (inr more)) =
          absurd (kernels-apart word other has.0.kernel too.0.kernel one two
          (λ e. kernels-differ other word too.0 has.0 more (sym e)) same_places)

  -- ---- words that begin a match

  kernel-begins : (word : List ℕ) (cuts : List Cut) → IsKernel Precedes enc rules word cuts → cuts ≢ [] → (word ≡ []) ⊎ (word ≢ [])
      → BeginsMatch enc rules word
  kernel-begins word cuts is some (inl none) = inl none
  kernel-begins word [] is some (inr ne) = absurd (some refl)
  kernel-begins word (cut ∷ cuts) is some (inr ne) = inr (cut, is.cuts 0 cut ne refl)

  empty-or : (word : List ℕ) → (word ≡ []) ⊎ (word ≢ [])
  empty-or [] = inl refl
  empty-or (unit ∷ word) = inr (λ e. cc)

  begins-at : (word : List ℕ) → IsWord enc rules word → (to : Option ℕ) → Leads enc patterns tnfa kernels word to → (to ≡ None → word ≢ [])
      → IsSome to ↔ BeginsMatch enc rules word
  begins-at word spelled to (inl none) some = (
    (λ is. absurd (nowhere to none.0 is)),
    (λ begins.
        absurd ((kernel_after-empty enc patterns tnfa of fits word (some none.0)).0
        (nil_of_map (λ (entry : Entry). entry.place) (after_word word) none.1) begins)),
  )
    where
      nowhere : (o : Option ℕ) → o ≡ None → IsSome o → ⊥
      nowhere None is is_some = cc is_some
      nowhere (Some state) is is_some = cc is
  begins-at word spelled to (inr has) some =
      let one = kernel_of word spelled has.0 in (
        (λ is. kernel-begins word one.cuts one.is one.some (empty-or word)),
        (λ begins. subst (λ o. IsSome o) (sym has.1) refl),
      )

  pub table-kernels : HasKernelStates enc patterns auto
  table-kernels = record {
    leads = λ word spelled. begins-at word spelled (state_behind auto word) (leads_of word spelled) (nonempty word);
    same = λ word other spelled also. (
      one-kernel word other spelled also (state_behind auto word) (state_behind auto other) (leads_of word spelled) (leads_of other also)
          (nonempty word) (nonempty other),
      λ is.
          one-state word other spelled also (state_behind auto word) (state_behind auto other) (leads_of word spelled) (leads_of other also)
          (nonempty word) (nonempty other) is.kernel is.others is.of_word is.of_other is.same,
    );
  }
    where
      leads_of : (word : List ℕ) → IsWord enc rules word → Leads enc patterns tnfa kernels word (state_behind auto word)
      leads_of word spelled = word_leads enc patterns tnfa of alike kernels auto table word spelled
