-- How the kernels of the words that come before a word go on.
use Rattle.std.proofs.Common.{◌≡◌, ◌≢◌, ◌⊎◌, inl, inr, ℕ, zero, suc, ◌+◌, ◌<◌, ◌≤◌, List, [], ◌∷◌, ◌++◌, length, Option, Some, refl, sym, ap, ◌∙◌, subst, arith}
use Rattle.std.proofs.lemmas.Bool.{cases_lt, cases_order}
use Rattle.std.proofs.lemmas.List.{length_push}
use Rattle.lx_base.specs.Spelling.{greatest_unit}
use Rattle.lx_base.specs.declared.settings.Enc.{Enc}
use Rattle.lx_regex.specs.Kernel.{IsWord}
use Rattle.lx_regex.specs.Term.{Term}
use Rattle.lx_tdfa.proofs.LeastWords.WordOrder.{comes-itself, comes-last, comes-or, comes-push, comes-trans, empty-no_later, no_later-before, no_later-last, no_later-push, no_later-trans}
use Rattle.lx_tdfa.specs.WordLists.{TellsKernels}
use Rattle.lx_tdfa.specs.Words.{ComesBefore, IsNoLater}
use Rattle.lx_cover.proofs.CoverOrder.{HasFront, IsBehind, IsBetween, between, fronted, onward, only-empty, word-apart, word-push}
use Rattle.lx_cover.specs.Progress.{AreKernelsBefore}

module _ (enc : Enc) (rules : List Term) (kernel : List ℕ → Option (List ℕ)) (tells : TellsKernels enc rules kernel) where
  -- the kernel of a word is among so many, by a least word that comes no later
  abbrev pub IsAmong : (count : ℕ) → (least : ℕ → List ℕ) → (word : List ℕ) → Type 0
  IsAmong count least word = (number : ℕ) × (number < count) × (kernel word ≡ kernel (least number)) × IsNoLater (least number) word

  -- that of the empty word alone
  pub kernels-start : (least : ℕ → List ℕ) → least 0 ≡ [] → AreKernelsBefore enc rules kernel 1 least (0 ∷ [])
  kernels-start least empty = record {
    units = λ number lt. subst (IsWord enc rules) (sym (is number lt)) tt;
    begins = λ number lt. subst (λ w. kernel w ≢ Some []) (sym (is number lt)) ((tells.begins []).0 (inl refl));
    before = λ number lt. subst (λ w. ComesBefore w (0 ∷ [])) (sym (is number lt)) (inl (omega arith));
    order = λ number other less lt. absurd (omega arith);
    first = λ number word lt spelled same. subst (λ w. IsNoLater w word) (sym (is number lt)) (empty-no_later word);
    every = λ word spelled some before.
        let none : word ≡ [] = only-empty word before in
        (0, omega arith, ap kernel (none ∙ sym empty), subst (λ w. IsNoLater w word) (sym empty) (empty-no_later word));
  }
    where
      is : (number : ℕ) → number < 1 → least number ≡ []
      is zero lt = empty
      is (suc number) lt = absurd (omega arith)

  -- the same by other words that are the same
  pub kernels-same : (count : ℕ) (least other : ℕ → List ℕ) (limit : List ℕ) → ((number : ℕ) → number < count → other number ≡ least number)
      → AreKernelsBefore enc rules kernel count least limit → AreKernelsBefore enc rules kernel count other limit
  kernels-same count least other limit same are = record {
    units = λ number lt. subst (IsWord enc rules) (sym (same number lt)) (are.units number lt);
    begins = λ number lt. subst (λ w. kernel w ≢ Some []) (sym (same number lt)) (are.begins number lt);
    before = λ number lt. subst (λ w. ComesBefore w limit) (sym (same number lt)) (are.before number lt);
    order = λ number later less lt.
        subst (λ w. ComesBefore w (other later)) (sym (same number (omega arith)))
        (subst (λ w. ComesBefore (least number) w) (sym (same later lt)) (are.order number later less lt));
    first = λ number word lt spelled one.
        subst (λ w. IsNoLater w word) (sym (same number lt)) (are.first number word lt spelled (one ∙ ap kernel (same number lt)));
    every = λ word spelled some before.
        let found = are.every word spelled some before in (
          found.0,
          found.1,
          found.2 ∙ ap kernel (sym (same found.0 found.1)),
          subst (λ w. IsNoLater w word) (sym (same found.0 found.1)) found.3,
        );
  }

  -- least words are in the order of their numbers
  module _ (count : ℕ) (least : ℕ → List ℕ) (limit : List ℕ) (are : AreKernelsBefore enc rules kernel count least limit) where
    pub number-below : (number other : ℕ) → number < count → other < count → ComesBefore (least number) (least other) → number < other
    number-below number other lt within before = elim (cases_order number other) [
      | inl same ↦ absurd (comes-itself (least number) (subst (λ n. ComesBefore (least number) (least n)) (sym same) before))
      | inr (inl less) ↦ less
      | inr (inr more) ↦
          absurd (comes-itself (least number) (comes-trans (least number) (least other) (least number) before (are.order other number more lt)))
    ]

  -- ---- from one unit to another

  module _ (count : ℕ) (least : ℕ → List ℕ) (front : List ℕ) (unit end : ℕ)
      (are : AreKernelsBefore enc rules kernel count least (front ++ unit ∷ [])) (less : unit < end)
      (alike : (other : ℕ) → unit ≤ other → other < end → kernel (front ++ other ∷ []) ≡ kernel (front ++ unit ∷ [])) where
    limit-before : (word : List ℕ) → ComesBefore word (front ++ unit ∷ []) → ComesBefore word (front ++ end ∷ [])
    limit-before word before = comes-trans word (front ++ unit ∷ []) (front ++ end ∷ []) before (comes-last front unit end less)

    -- the units lead to no kernel, or to one that was found
    pub kernels-stay : (kernel (front ++ unit ∷ []) ≡ Some [])
        ⊎ ((number : ℕ) × (number < count) × (kernel (front ++ unit ∷ []) ≡ kernel (least number)))
        → AreKernelsBefore enc rules kernel count least (front ++ end ∷ [])
    kernels-stay to = record {
      units = are.units;
      begins = are.begins;
      before = λ number lt. limit-before (least number) (are.before number lt);
      order = are.order;
      first = are.first;
      every = λ word spelled some before. elim (between front unit end word before) [
        | inl early ↦ are.every word spelled some early
        | inr is ↦ at word some is to
      ];
    }
      where
        at : (word : List ℕ) → (kernel word ≢ Some []) → IsBetween front unit end word
            → (kernel (front ++ unit ∷ []) ≡ Some [])
            ⊎ ((number : ℕ) × (number < count) × (kernel (front ++ unit ∷ []) ≡ kernel (least number)))
            → IsAmong count least word
        at word some is (inl none) = absurd (some (ap kernel is.whole ∙ alike is.other is.from is.below ∙ none))
        at word some is (inr (number, lt, leads)) = (
          number,
          lt,
          ap kernel is.whole ∙ alike is.other is.from is.below ∙ leads,
          inl (no_later-end (least number) word is (are.before number lt)),
        )
          where
            no_later-end : (own word : List ℕ) → IsBetween front unit end word → ComesBefore own (front ++ unit ∷ []) → ComesBefore own word
            no_later-end own word is before =
                subst (λ w. ComesBefore own w) (sym is.whole) (behind (no_later-last front unit is.other is.from))
              where
                behind : IsNoLater (front ++ unit ∷ []) (front ++ is.other ∷ []) → ComesBefore own (front ++ is.other ∷ [])
                behind (inl more) = comes-trans own (front ++ unit ∷ []) (front ++ is.other ∷ []) before more
                behind (inr same) = subst (λ w. ComesBefore own w) same before

    -- they lead to a new kernel
    pub kernels-more : (longer : ℕ → List ℕ) → ((number : ℕ) → number < count → longer number ≡ least number)
        → longer count ≡ front ++ unit ∷ [] → IsWord enc rules (front ++ unit ∷ []) → (kernel (front ++ unit ∷ []) ≢ Some [])
        → ((number : ℕ) → number < count → kernel (front ++ unit ∷ []) ≢ kernel (least number))
        → AreKernelsBefore enc rules kernel (count + 1) longer (front ++ end ∷ [])
    kernels-more longer old new spelled some apart = record {
      units = λ number lt. elim (cases_lt number count) [
        | inl early ↦ subst (IsWord enc rules) (sym (old number early)) (are.units number early)
        | inr ge ↦ subst (IsWord enc rules) (sym (last number ge lt)) spelled
      ];
      begins = λ number lt. elim (cases_lt number count) [
        | inl early ↦ subst (λ w. kernel w ≢ Some []) (sym (old number early)) (are.begins number early)
        | inr ge ↦ subst (λ w. kernel w ≢ Some []) (sym (last number ge lt)) some
      ];
      before = λ number lt. elim (cases_lt number count) [
        | inl early ↦ subst (λ w. ComesBefore w (front ++ end ∷ [])) (sym (old number early)) (limit-before (least number) (are.before number early))
        | inr ge ↦ subst (λ w. ComesBefore w (front ++ end ∷ [])) (sym (last number ge lt)) (comes-last front unit end less)
      ];
      order = λ number other fewer lt. elim (cases_lt other count) [
        | inl early ↦
            subst (λ w. ComesBefore w (longer other)) (sym (old number (omega arith)))
            (subst (λ w. ComesBefore (least number) w) (sym (old other early)) (are.order number other fewer early))
        | inr ge ↦
            subst (λ w. ComesBefore w (longer other)) (sym (old number (omega arith)))
            (subst (λ w. ComesBefore (least number) w) (sym (last other ge lt)) (are.before number (omega arith)))
      ];
      first = λ number word lt own same. elim (cases_lt number count) [
        | inl early ↦
            subst (λ w. IsNoLater w word) (sym (old number early)) (are.first number word early own (same ∙ ap kernel (old number early)))
        | inr ge ↦
            subst (λ w. IsNoLater w word) (sym (last number ge lt)) (new-first word own (same ∙ ap kernel (last number ge lt)))
      ];
      every = λ word own begins before. elim (between front unit end word before) [
        | inl early ↦
            let found = are.every word own begins early in
            let lt : found.0 < count = found.1 in (
              found.0,
              omega arith,
              found.2 ∙ ap kernel (sym (old found.0 found.1)),
              subst (λ w. IsNoLater w word) (sym (old found.0 found.1)) found.3,
            )
        | inr is ↦ (
          count,
          omega arith,
          ap kernel is.whole ∙ alike is.other is.from is.below ∙ ap kernel (sym new),
          subst (λ w. IsNoLater w word) (sym new) (subst (IsNoLater (front ++ unit ∷ [])) (sym is.whole) (no_later-last front unit is.other is.from)),
        )
      ];
    }
      where
        last : (number : ℕ) → count ≤ number → number < count + 1 → longer number ≡ front ++ unit ∷ []
        last number ge lt = let same : number ≡ count = omega arith in ap longer same ∙ new

        new-first : (word : List ℕ) → IsWord enc rules word → kernel word ≡ kernel (front ++ unit ∷ []) → IsNoLater (front ++ unit ∷ []) word
        new-first word own same = elim (comes-or word (front ++ unit ∷ [])) [
          | inl early ↦
              let found = are.every word own (λ none. some (sym same ∙ none)) early in
              absurd (apart found.0 found.1 (sym same ∙ found.2))
          | inr no_later ↦ no_later
        ]

  -- ---- from one kernel to the next

  module _ (count : ℕ) (least : ℕ → List ℕ) (number : ℕ) (within : number < count)
      (are : AreKernelsBefore enc rules kernel count least (least number ++ (greatest_unit enc + 1) ∷ [])) where
    -- a word by one more unit than one that was found, from one of the kernels that were passed
    found-onward : (own : List ℕ) (unit : ℕ) → IsWord enc rules own → unit ≤ greatest_unit enc → (kernel (own ++ unit ∷ []) ≢ Some [])
        → (found : IsAmong count least own) → found.0 ≤ number → IsAmong count least (own ++ unit ∷ [])
    found-onward own unit spelled low some found most =
        let same = tells.onward own (least found.0) unit found.2 in
        let to =
        are.every (least found.0 ++ unit ∷ []) (word-push enc rules (least found.0) unit (are.units found.0 found.1) low)
        (λ none. some (same ∙ none)) (at (cases_order found.0 number)) in (
          to.0,
          to.1,
          same ∙ to.2,
          no_later-trans (least to.0) (least found.0 ++ unit ∷ []) (own ++ unit ∷ []) to.3 (no_later-push (least found.0) own unit found.3),
        )
      where
        at : (found.0 ≡ number) ⊎ ((found.0 < number) ⊎ (number < found.0))
            → ComesBefore (least found.0 ++ unit ∷ []) (least number ++ (greatest_unit enc + 1) ∷ [])
        at (inl same) =
            subst (λ n. ComesBefore (least n ++ unit ∷ []) (least number ++ (greatest_unit enc + 1) ∷ [])) (sym same)
            (comes-last (least number) unit (greatest_unit enc + 1) (omega arith))
        at (inr (inl less)) = comes-push (least found.0) (least number) unit (greatest_unit enc + 1) (are.order found.0 number less within)
        at (inr (inr more)) = absurd (omega arith)

    some-front : (own : List ℕ) (unit : ℕ) → (kernel (own ++ unit ∷ []) ≢ Some []) → kernel own ≢ Some []
    some-front own unit some none = some (tells.none own unit none)

    -- the front of a word between the kernels was found by one that was passed
    pub front-found : (own : List ℕ) (next : number + 1 < count) → IsWord enc rules own → (kernel own ≢ Some []) → ComesBefore own (least (number + 1))
        → (found : IsAmong count least own) × (found.0 ≤ number)
    front-found own next spelled some before =
        let found =
        are.every own spelled some
        (comes-trans own (least (number + 1)) (least number ++ (greatest_unit enc + 1) ∷ []) before (are.before (number + 1) next)) in
        let low : found.0 < number + 1 =
        number-below count least (least number ++ (greatest_unit enc + 1) ∷ []) are found.0 (number + 1) found.1 next
        (no_later-before (least found.0) own (least (number + 1)) found.3 before) in
        (found, omega arith)

    pub kernels-next : number + 1 < count → AreKernelsBefore enc rules kernel count least (least (number + 1) ++ 0 ∷ [])
    kernels-next next = record {
      units = are.units;
      begins = are.begins;
      before = λ own lt. comes-trans (least own) (least number ++ (greatest_unit enc + 1) ∷ []) (least (number + 1) ++ 0 ∷ []) (are.before own lt) later;
      order = are.order;
      first = are.first;
      every = λ word spelled some before. elim (onward (least number) (least (number + 1)) (greatest_unit enc + 1) word before) [
        | inl early ↦ are.every word spelled some early
        | inr is ↦ at word spelled some is
      ];
    }
      where
        later : ComesBefore (least number ++ (greatest_unit enc + 1) ∷ []) (least (number + 1) ++ 0 ∷ [])
        later = comes-push (least number) (least (number + 1)) (greatest_unit enc + 1) 0 (are.order number (number + 1) (omega arith) next)

        at : (word : List ℕ) → IsWord enc rules word → (kernel word ≢ Some []) → IsBehind (least number) (least (number + 1)) (greatest_unit enc + 1) word
            → IsAmong count least word
        at word spelled some is =
            let apart = word-apart enc rules is.own is.unit (subst (IsWord enc rules) is.whole spelled) in
            let begins : kernel (is.own ++ is.unit ∷ []) ≢ Some [] = subst (λ w. kernel w ≢ Some []) is.whole some in
            let found = front-found is.own next apart.0 (some-front is.own is.unit begins) is.before in
            subst (IsAmong count least) (sym is.whole) (found-onward is.own is.unit apart.0 apart.1 begins found.0 found.1)

    -- where it is the last kernel all are found
    all-below : count ≡ number + 1 → (bound : ℕ) (word : List ℕ) → length word < bound → IsWord enc rules word → (kernel word ≢ Some [])
        → IsAmong count least word
    all-below last zero word small spelled some = absurd (omega arith)
    all-below last (suc bound) word small spelled some =
        at (fronted word) (λ own short apart begins. all-below last bound own short apart begins)
      where
        at : (word ≡ []) ⊎ HasFront word
            → ((own : List ℕ) → length own < bound → IsWord enc rules own → (kernel own ≢ Some []) → IsAmong count least own)
            → IsAmong count least word
        at (inl none) shorter =
            let long = length_push (least number) (greatest_unit enc + 1) in
            are.every word spelled some
            (subst (λ w. ComesBefore w (least number ++ (greatest_unit enc + 1) ∷ [])) (sym none) (inl (omega (arith, long))))
        at (inr has) shorter =
            let apart = word-apart enc rules has.front has.unit (subst (IsWord enc rules) has.whole spelled) in
            let begins : kernel (has.front ++ has.unit ∷ []) ≢ Some [] = subst (λ w. kernel w ≢ Some []) has.whole some in
            let long = length_push has.front has.unit in
            let whole : length word ≡ length (has.front ++ has.unit ∷ []) = ap length has.whole in
            let found =
            shorter has.front (omega (arith, small, long, whole)) apart.0 (some-front has.front has.unit begins) in
            let low : found.0 < count = found.1 in
            subst (IsAmong count least) (sym has.whole)
            (found-onward has.front has.unit apart.0 apart.1 begins found (omega arith))

    pub kernels-all : count ≡ number + 1 → (word : List ℕ) → IsWord enc rules word → (kernel word ≢ Some []) → IsAmong count least word
    kernels-all last word spelled some = all-below last (suc (length word)) word (omega arith) spelled some
