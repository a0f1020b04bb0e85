-- How the covering words that come before a word go on, until they are the cover, or too long.
use Rattle.std.proofs.Common.{◌≡◌, ◌⊎◌, inl, inr, ℕ, zero, suc, ◌+◌, ◌<◌, ◌≤◌, List, [], ◌∷◌, ◌++◌, length, get_or, Option, refl, sym, ap, ◌∙◌, subst, arith}
use Rattle.std.proofs.lemmas.Bool.{cases_lt}
use Rattle.std.proofs.lemmas.List.Elements.{Contains-append_cases, Contains-append_left, Contains-get_or, Contains-push}
use Rattle.std.proofs.lemmas.List.Quantifiers.{all_pairs_push}
use Rattle.std.specs.Prelude.{Contains}
use Rattle.lx_auto.proofs.Places.{Contains-one}
use Rattle.lx_base.specs.Spelling.{greatest_unit}
use Rattle.lx_base.specs.declared.settings.Enc.{Enc}
use Rattle.lx_regex.specs.Term.{Term}
use Rattle.lx_tdfa.proofs.LeastWords.WordOrder.{comes-last, comes-push, comes-trans, empty-no_later, no_later-before}
use Rattle.lx_tdfa.proofs.WordKernels.CutRuns.{snoc_same}
use Rattle.lx_tdfa.specs.WordLists.{TellsKernels}
use Rattle.lx_tdfa.specs.Words.{ComesBefore}
use Rattle.lx_cover.proofs.CoverOrder.{IsBehind, IsBetween, between, no_later-both, onward, only-empty}
use Rattle.lx_cover.proofs.KernelSteps.{IsAmong, front-found, kernels-all, number-below}
use Rattle.lx_cover.specs.Cover.{AreFirst, BeginsRun, IsCover, IsCovering, IsLeastWord, StopsCover}
use Rattle.lx_cover.specs.Progress.{AreCoveringBefore, AreKernelsBefore, IsOver}
use Rattle.lx_cover.specs.declared.covering.CoverStop.{CoverStop}
use Rattle.lx_cover.specs.declared.covering.CoverStop.TheVariants.{Memory, TooLong}

module _ (enc : Enc) (rules : List Term) (kernel : List ℕ → Option (List ℕ)) (tells : TellsKernels enc rules kernel) where
  -- a covering word with a front is that of a least word
  covering-apart : (front : List ℕ) (unit : ℕ) → IsCovering enc rules (front ++ unit ∷ []) → IsLeastWord enc rules front × BeginsRun enc rules front unit
  covering-apart front unit (inl none) = absurd (never front none)
    where
      never : (front : List ℕ) → front ++ unit ∷ [] ≡ [] → ⊥
      never [] e = cc
      never (first ∷ front) e = cc
  covering-apart front unit (inr (own, last, whole, least, run)) =
      let same = snoc_same front own unit last whole in (
        subst (IsLeastWord enc rules) (sym same.0) least,
        subst (λ w. BeginsRun enc rules w unit) (sym same.0) (subst (BeginsRun enc rules own) (sym same.1) run),
      )

  -- units that lead alike are of one run
  no-run : (front : List ℕ) (before unit : ℕ) → unit ≡ suc before → kernel (front ++ before ∷ []) ≡ kernel (front ++ unit ∷ [])
      → BeginsRun enc rules front unit → ⊥
  no-run front before unit is same run = run.1 before is ((tells.same (front ++ before ∷ []) (front ++ unit ∷ [])).0 same)

  -- the least word of a kernel that was found
  pub found-least : (count : ℕ) (least : ℕ → List ℕ) (limit : List ℕ) → AreKernelsBefore enc rules kernel count least limit → (number : ℕ) → number < count
      → IsLeastWord enc rules (least number)
  found-least count least limit are number lt = record {
    units = are.units number lt;
    begins = (tells.begins (least number)).1 (are.begins number lt);
    least = λ other spelled one. are.first number other lt spelled ((tells.same other (least number)).1 one);
  }

  -- a least word whose kernel was found is the one that was found
  least-found : (count : ℕ) (least : ℕ → List ℕ) (limit : List ℕ) → AreKernelsBefore enc rules kernel count least limit → (word : List ℕ)
      → IsLeastWord enc rules word → (found : IsAmong enc rules kernel tells count least word) → word ≡ least found.0
  least-found count least limit are word is found =
      no_later-both word (least found.0)
      (is.least (least found.0) (are.units found.0 found.1) ((tells.same (least found.0) word).0 (sym found.2))) found.3

  -- the empty word alone
  pub covering-start : AreCoveringBefore enc rules ([] ∷ []) (0 ∷ [])
  covering-start = record {
    sound = λ word has. let is = Contains-one [] word has in (inl (sym is), subst (λ w. ComesBefore w (0 ∷ [])) is (inl (omega arith)));
    every = λ word covering before. (0, omega arith, sym (only-empty word before));
    order = λ i j d less within. absurd (omega arith);
  }

  -- ---- from one unit to another

  module _ (front : List ℕ) (unit end : ℕ) (less : unit < end)
      (alike : (other : ℕ) → unit ≤ other → other < end → kernel (front ++ other ∷ []) ≡ kernel (front ++ unit ∷ [])) (words : List (List ℕ))
      (so_far : AreCoveringBefore enc rules words (front ++ unit ∷ [])) where
    -- behind the first of them none begins a run
    inside : (other : ℕ) → unit < other → other < end → BeginsRun enc rules front other → ⊥
    inside other more below run = at other refl
      where
        at : (own : ℕ) → own ≡ other → ⊥
        at zero is = omega arith
        at (suc before) is =
            no-run front before other (sym is)
            (alike before (omega arith) (omega arith) ∙ sym (alike other (omega arith) below)) run

    limit-before : (word : List ℕ) → ComesBefore word (front ++ unit ∷ []) → ComesBefore word (front ++ end ∷ [])
    limit-before word before = comes-trans word (front ++ unit ∷ []) (front ++ end ∷ []) before (comes-last front unit end less)

    -- the first of them begins none
    pub covering-kept : (BeginsRun enc rules front unit → ⊥) → AreCoveringBefore enc rules words (front ++ end ∷ [])
    covering-kept goes_on = record {
      sound = λ word has. let is = so_far.sound word has in (is.0, limit-before word is.1);
      every = λ word covering before. elim (between front unit end word before) [
        | inl early ↦ so_far.every word covering early
        | inr is ↦ absurd (none is (covering-apart front is.other (subst (IsCovering enc rules) is.whole covering)).1)
      ];
      order = so_far.order;
    }
      where
        none : {word : List ℕ} (is : IsBetween front unit end word) → BeginsRun enc rules front is.other → ⊥
        none is run = elim (cases_lt unit is.other) [
          | inl more ↦ inside is.other more is.below run
          | inr most ↦
              let from : unit ≤ is.other = is.from in
              let same : is.other ≡ unit = omega arith in goes_on (subst (BeginsRun enc rules front) same run)
        ]

    -- or it does
    module _ (least : IsLeastWord enc rules front) (run : BeginsRun enc rules front unit) where
      abbrev last : List ℕ
      last = front ++ unit ∷ []

      order-pushed : (k : ℕ) (d : List ℕ) → k < length words → ComesBefore (get_or words k d) last
      order-pushed k d within = (so_far.sound (get_or words k d) (Contains-get_or words k d within)).1

      pub covering-pushed : AreCoveringBefore enc rules (words ++ last ∷ []) (front ++ end ∷ [])
      covering-pushed = record {
        sound = λ word has. elim (Contains-append_cases words (last ∷ []) word has) [
          | inl early ↦ let is = so_far.sound word early in (is.0, limit-before word is.1)
          | inr here ↦
              let same : last ≡ word = Contains-one last word here in (
                inr (front, unit, sym same, least, run),
                subst (λ w. ComesBefore w (front ++ end ∷ [])) same (comes-last front unit end less),
              )
        ];
        every = λ word covering before. elim (between front unit end word before) [
          | inl early ↦ Contains-append_left words (last ∷ []) word (so_far.every word covering early)
          | inr is ↦ at word is (covering-apart front is.other (subst (IsCovering enc rules) is.whole covering)).1
        ];
        order = all_pairs_push ComesBefore words last so_far.order order-pushed;
      }
        where
          at : (word : List ℕ) (is : IsBetween front unit end word) → BeginsRun enc rules front is.other → Contains (words ++ last ∷ []) word
          at word is begins = elim (cases_lt unit is.other) [
            | inl more ↦ absurd (inside is.other more is.below begins)
            | inr most ↦
                let from : unit ≤ is.other = is.from in
                let same : unit ≡ is.other = omega arith in
                subst (Contains (words ++ last ∷ [])) (ap (λ u. front ++ u ∷ []) same ∙ sym is.whole) (Contains-push words last)
          ]

      -- with it they are the first covering words
      pub covering-first : AreFirst enc rules (words ++ last ∷ [])
      covering-first = record {
        sound = λ word has. (covering-pushed.sound word has).0;
        order = covering-pushed.order;
        closed = λ word other covering has before.
            Contains-append_left words (last ∷ []) word (so_far.every word covering (at word other before (Contains-append_cases words (last ∷ []) other has)));
      }
        where
          at : (word other : List ℕ) → ComesBefore word other → Contains words other ⊎ Contains (last ∷ []) other → ComesBefore word last
          at word other before (inl early) = comes-trans word other last before (so_far.sound other early).1
          at word other before (inr here) = subst (ComesBefore word) (sym (Contains-one last other here)) before

      pub covering-stops : (stop : CoverStop) → IsOver words last stop → StopsCover enc rules stop
      covering-stops Memory over = tt
      covering-stops (TooLong sum) over = record {
        words = words;
        last = last;
        first = covering-first;
        within = over.0;
        over = over.1;
        is = over.2;
      }

  -- ---- from one kernel to the next

  module _ (count : ℕ) (least : ℕ → List ℕ) (number : ℕ) (within : number < count) (words : List (List ℕ))
      (are : AreKernelsBefore enc rules kernel count least (least number ++ (greatest_unit enc + 1) ∷ []))
      (so_far : AreCoveringBefore enc rules words (least number ++ (greatest_unit enc + 1) ∷ [])) where
    pub covering-next : number + 1 < count → AreCoveringBefore enc rules words (least (number + 1) ++ 0 ∷ [])
    covering-next next = record {
      sound = λ word has. let is = so_far.sound word has in (is.0, comes-trans word (least number ++ (greatest_unit enc + 1) ∷ []) (least (number + 1) ++ 0 ∷ []) is.1 later);
      every = λ word covering before. elim (onward (least number) (least (number + 1)) (greatest_unit enc + 1) word before) [
        | inl early ↦ so_far.every word covering early
        | inr is ↦ absurd (none is (covering-apart is.own is.unit (subst (IsCovering enc rules) is.whole covering)))
      ];
      order = so_far.order;
    }
      where
        later : ComesBefore (least number ++ (greatest_unit enc + 1) ∷ []) (least (number + 1) ++ 0 ∷ [])
        later = comes-push (least number) (least (number + 1)) (greatest_unit enc + 1) 0 (are.order number (number + 1) (omega arith) next)

        none : {word : List ℕ} (is : IsBehind (least number) (least (number + 1)) (greatest_unit enc + 1) word)
            → IsLeastWord enc rules is.own × BeginsRun enc rules is.own is.unit → ⊥
        none is (own, run) = at is.behind
          where
            found : (found : IsAmong enc rules kernel tells count least is.own) × (found.0 ≤ number)
            found =
                front-found enc rules kernel tells count least number within are is.own next own.units ((tells.begins is.own).0 own.begins) is.before

            at : ComesBefore (least number) is.own ⊎ (greatest_unit enc + 1 ≤ is.unit) → ⊥
            at (inl more) =
                let same : is.own ≡ least found.0.0 = least-found count least (least number ++ (greatest_unit enc + 1) ∷ []) are is.own own found.0 in
                let low : number < found.0.0 =
                number-below enc rules kernel tells count least (least number ++ (greatest_unit enc + 1) ∷ []) are number found.0.0 within found.0.1
                (subst (ComesBefore (least number)) same more) in
                let most : found.0.0 ≤ number = found.1 in omega arith
            at (inr past) = let low : is.unit ≤ greatest_unit enc = run.0 in omega arith

    pub covering-all : count ≡ number + 1 → IsCover enc rules words
    covering-all last = record {
      sound = λ word has. (so_far.sound word has).0;
      order = so_far.order;
      complete = λ word covering. at word covering covering;
    }
      where
        at : (word : List ℕ) → IsCovering enc rules word → IsCovering enc rules word → Contains words word
        at word (inl none) covering =
            so_far.every word covering
            (subst (λ w. ComesBefore w (least number ++ (greatest_unit enc + 1) ∷ [])) (sym none)
            (no_later-before [] (least number) (least number ++ (greatest_unit enc + 1) ∷ []) (empty-no_later (least number)) (are.before number within)))
        at word (inr (front, unit, whole, own, run)) covering =
            let found = kernels-all enc rules kernel tells count least number within are last front own.units ((tells.begins front).0 own.begins) in
            let same : front ≡ least found.0 = least-found count least (least number ++ (greatest_unit enc + 1) ∷ []) are front own found in
            so_far.every word covering
            (subst (λ w. ComesBefore w (least number ++ (greatest_unit enc + 1) ∷ [])) (sym (whole ∙ ap (λ w. w ++ unit ∷ []) same))
            (early found.0 unit found.1 run.0))
          where
            early : (other unit : ℕ) → other < count → unit ≤ greatest_unit enc
                → ComesBefore (least other ++ unit ∷ []) (least number ++ (greatest_unit enc + 1) ∷ [])
            early other unit lt low = elim (cases_lt other number) [
              | inl less ↦ comes-push (least other) (least number) unit (greatest_unit enc + 1) (are.order other number less within)
              | inr ge ↦
                  let same : number ≡ other = omega arith in
                  subst (λ n. ComesBefore (least n ++ unit ∷ []) (least number ++ (greatest_unit enc + 1) ∷ [])) same
                  (comes-last (least number) unit (greatest_unit enc + 1) (omega arith))
            ]
