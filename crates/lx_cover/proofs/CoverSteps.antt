-- How a search for covering words goes on over units that lead alike from a kernel.
use Rattle.std.proofs.Common.{◌≡◌, ◌≢◌, ◌⊎◌, inl, inr, ℕ, zero, suc, ◌+◌, ◌<◌, ◌≤◌, List, [], ◌∷◌, ◌++◌, length, get_or, Option, Some, None, refl, sym, ap, ◌∙◌, subst, arith}
use Rattle.std.proofs.lemmas.Bool.{cases_lt, cases_order}
use Rattle.std.proofs.lemmas.List.{append-nil, get_or_append_left, get_or_default, get_or_push, length_push}
use Rattle.std.proofs.lemmas.Option.{get_or_from_slice_get, slice_get-get_or, slice_get_within}
use Rattle.std.specs.Prelude.{AllPairs, Contains, slice_get}
use Rattle.lx_base.specs.Spelling.{greatest_unit}
use Rattle.lx_base.specs.declared.settings.Enc.{Enc}
use Rattle.lx_regex.specs.ClassLimits.{AllClassesFit}
use Rattle.lx_regex.specs.Pattern.{Pattern, terms_of}
use Rattle.lx_regex.specs.Term.{Term}
use Rattle.lx_tnfa.specs.Closure.{IsClosureOf}
use Rattle.lx_tnfa.specs.RuleNumbers.{HaveApartNumbers}
use Rattle.lx_tnfa.specs.Tnfa.{IsTnfaOf, Tnfa}
use Rattle.lx_tnfa.specs.declared.closure.Reach.{Reach}
use Rattle.lx_tnfa.specs.declared.places.Place.{Place}
use Rattle.lx_tdfa.proofs.Loops.ListSets.{apart-push}
use Rattle.lx_tdfa.proofs.Walks.ListReads.{slice_get-behind, slice_get-front}
use Rattle.lx_tdfa.proofs.WordKernels.KernelBehind.{kernel_behind-tells, list-none, list-onward, list-some, lists-one, lists-same}
use Rattle.lx_tdfa.specs.Making.{Adds}
use Rattle.lx_tdfa.specs.Steps.{next_steps, places_of}
use Rattle.lx_tdfa.specs.WordLists.{IsListOf, TellsKernels, kernel_behind}
use Rattle.lx_cover.proofs.CoverOrder.{word-push}
use Rattle.lx_cover.proofs.CoveringWords.{covering-kept, covering-pushed, covering-stops, found-least}
use Rattle.lx_cover.proofs.KernelSteps.{kernels-more, kernels-same, kernels-stay}
use Rattle.lx_cover.specs.Cover.{BeginsRun, IsLeastWord, StopsCover}
use Rattle.lx_cover.specs.Progress.{AreCoveringBefore, AreKernelsBefore, HasCome, IsOver, IsTarget, LeadsTo, least_word}
use Rattle.lx_cover.specs.declared.covering.CoverStop.{CoverStop}
use Rattle.lx_cover.specs.declared.covering.Covering.{Covering}

-- a list stands once in lists that are apart
one-number : (lists : List (List Place)) → AllPairs (λ list other. list ≢ other) lists → (one other : ℕ) (list : List Place)
    → slice_get lists one ≡ Some list → slice_get lists other ≡ Some list → one ≡ other
one-number lists apart one other list is also = elim (cases_order one other) [
  | inl same ↦ same
  | inr (inl less) ↦ absurd (apart one other [] less (slice_get_within lists other list also) (at one is ∙ sym (at other also)))
  | inr (inr more) ↦ absurd (apart other one [] more (slice_get_within lists one list is) (at other also ∙ sym (at one is)))
]
  where
    at : (number : ℕ) → slice_get lists number ≡ Some list → get_or lists number [] ≡ list
    at number here = get_or_from_slice_get lists number list [] here

some_is : {A : Type 0} (one other : A) → Some one ≡ Some other → one ≡ other
some_is one other same = cc

module _ (enc : Enc) (patterns : List Pattern) (tnfa : Tnfa) (of : IsTnfaOf enc patterns tnfa) (fits : AllClassesFit enc (terms_of patterns))
    (numbers : HaveApartNumbers tnfa.rules) where
  abbrev rules : List Term
  rules = terms_of patterns

  abbrev kernel : List ℕ → Option (List ℕ)
  kernel word = kernel_behind tnfa rules word

  tells : TellsKernels enc rules (kernel_behind tnfa rules)
  tells = kernel_behind-tells enc patterns tnfa of fits

  -- ---- where words lead

  led-some : (kernels : List (List Place)) (word : List ℕ) (number : ℕ) → LeadsTo tnfa rules kernels word (Some number) → kernel word ≢ Some []
  led-some kernels word number (list, at, full, is) = by list full is
    where
      by : (list : List Place) → list ≢ [] → IsListOf tnfa rules word list → kernel word ≢ Some []
      by [] full is = absurd (full refl)
      by (place ∷ list) full is = list-some enc patterns tnfa of fits word place list is

  -- words that lead to one number have one kernel
  led-one : (kernels : List (List Place)) (word other : List ℕ) (to : Option ℕ) → LeadsTo tnfa rules kernels word to → LeadsTo tnfa rules kernels other to
      → kernel word ≡ kernel other
  led-one kernels word other None led also = led ∙ sym also
  led-one kernels word other (Some number) (list, at, full, is) (there, at_other, some, also) =
      let same : list ≡ there = some_is list there (sym at ∙ at_other) in
      lists-one enc patterns tnfa of fits word other there (subst (IsListOf tnfa rules word) same is) also

  -- and those that have one kernel lead to one number
  led-same : (kernels : List (List Place)) → AllPairs (λ list other. list ≢ other) kernels → (word other : List ℕ) (to last : Option ℕ)
      → LeadsTo tnfa rules kernels word to → LeadsTo tnfa rules kernels other last → kernel word ≡ kernel other → to ≡ last
  led-same kernels apart word other None None led also same = refl
  led-same kernels apart word other None (Some last) led also same = absurd (led-some kernels other last also (sym same ∙ led))
  led-same kernels apart word other (Some number) None led also same = absurd (led-some kernels word number led (same ∙ also))
  led-same kernels apart word other (Some number) (Some last) (list, at, full, is) (there, at_other, some, also) same =
      let equal : list ≡ there = lists-same enc patterns tnfa of fits numbers word other list there is also same in
      ap Some (one-number kernels apart number last there (at ∙ ap Some equal) at_other)

  led-more : (kernels later : List (List Place)) (word : List ℕ) (to : Option ℕ) → LeadsTo tnfa rules kernels word to
      → LeadsTo tnfa rules (kernels ++ later) word to
  led-more kernels later word None led = led
  led-more kernels later word (Some number) (list, at, full, is) = (list, slice_get-front kernels later number list at, full, is)

  -- ---- from a unit on

  module _ (old : Covering) (number : ℕ) (list : List Place) (within : number < length old.kernels) (here : slice_get old.kernels number ≡ Some list)
      (reaches : List Reach) (closure : IsClosureOf tnfa list reaches) (front : List ℕ) (front_is : front ≡ least_word old number) (unit hi : ℕ)
      (low : unit ≤ greatest_unit enc) (most : unit ≤ hi)
      (steps : (other : ℕ) → unit ≤ other → other ≤ hi → next_steps tnfa other reaches ≡ next_steps tnfa unit reaches)
      (come : HasCome enc rules tnfa old (front ++ unit ∷ [])) where
    abbrev places : List Place
    places = places_of (next_steps tnfa unit reaches)

    list-behind : (other : ℕ) → unit ≤ other → other ≤ hi → IsListOf tnfa rules (front ++ other ∷ []) places
    list-behind other from below =
        subst (λ l. IsListOf tnfa rules (front ++ other ∷ []) (places_of l)) (steps other from below)
        (list-onward enc patterns tnfa of fits numbers front list reaches other
        (subst (λ w. IsListOf tnfa rules w list) (sym front_is) (come.lists number list here)) closure)

    here-behind : IsListOf tnfa rules (front ++ unit ∷ []) places
    here-behind = list-behind unit (omega arith) most

    alike : (other : ℕ) → unit ≤ other → other < hi + 1 → kernel (front ++ other ∷ []) ≡ kernel (front ++ unit ∷ [])
    alike other from below =
        lists-one enc patterns tnfa of fits (front ++ other ∷ []) (front ++ unit ∷ []) places (list-behind other from (omega arith)) here-behind

    front-least : IsLeastWord enc rules front
    front-least =
        subst (IsLeastWord enc rules) (sym front_is)
        (found-least enc rules (kernel_behind tnfa rules) tells (length old.kernels) (least_word old) (front ++ unit ∷ []) come.kernels number within)

    -- the units lead to the target
    module _ (kernels : List (List Place)) (to : Option ℕ) (target : IsTarget old.kernels places kernels to) where
      pub target-leads : (other : ℕ) → unit ≤ other → other ≤ hi → LeadsTo tnfa rules kernels (front ++ other ∷ []) to
      target-leads other from below = at to target
        where
          at : (to : Option ℕ) → IsTarget old.kernels places kernels to → LeadsTo tnfa rules kernels (front ++ other ∷ []) to
          at None target =
              list-none enc patterns tnfa of fits (front ++ other ∷ [])
              (subst (IsListOf tnfa rules (front ++ other ∷ [])) target.0 (list-behind other from below))
          at (Some own) target = (places, target.1, target.0, list-behind other from below)

      -- where no kernel came, they lead to none or to one that was found
      target-old : kernels ≡ old.kernels
          → (kernel (front ++ unit ∷ []) ≡ Some [])
          ⊎ ((own : ℕ) × (own < length old.kernels) × (kernel (front ++ unit ∷ []) ≡ kernel (least_word old own)))
      target-old same = at to (target-leads unit (omega arith) most)
        where
          at : (to : Option ℕ) → LeadsTo tnfa rules kernels (front ++ unit ∷ []) to
              → (kernel (front ++ unit ∷ []) ≡ Some [])
              ⊎ ((own : ℕ) × (own < length old.kernels) × (kernel (front ++ unit ∷ []) ≡ kernel (least_word old own)))
          at None led = inl led
          at (Some own) led =
              let there : slice_get old.kernels own ≡ Some led.0 = ap (λ l. slice_get l own) (sym same) ∙ led.1 in
              inr (
                own,
                slice_get_within old.kernels own led.0 there,
                lists-one enc patterns tnfa of fits (front ++ unit ∷ []) (least_word old own) led.0 led.3 (come.lists own led.0 there),
              )

      -- where one came, it is that of none that was found
      target-new : (Contains old.kernels places → ⊥) → (own : ℕ) → own < length old.kernels
          → kernel (front ++ unit ∷ []) ≢ kernel (least_word old own)
      target-new absent own lt same =
          let there : slice_get old.kernels own ≡ Some (get_or old.kernels own []) = slice_get-get_or old.kernels own [] lt in
          let equal : places ≡ get_or old.kernels own [] =
          lists-same enc patterns tnfa of fits numbers (front ++ unit ∷ []) (least_word old own) places (get_or old.kernels own []) here-behind
          (come.lists own (get_or old.kernels own []) there) same in
          absent (own, lt, get_or_default old.kernels own places [] lt ∙ sym equal)

      -- ---- runs

      module _ (last : Option ℕ) (later : List (List Place)) (grown : kernels ≡ old.kernels ++ later)
          (apart : AllPairs (λ list other. list ≢ other) kernels)
          (led : (before : ℕ) → unit ≡ suc before → LeadsTo tnfa rules old.kernels (front ++ before ∷ []) last) where
        led-now : (before : ℕ) → unit ≡ suc before → LeadsTo tnfa rules kernels (front ++ before ∷ []) last
        led-now before is =
            subst (λ l. LeadsTo tnfa rules l (front ++ before ∷ []) last) (sym grown)
            (led-more old.kernels later (front ++ before ∷ []) last (led before is))

        pub run-begins : (unit ≡ 0) ⊎ (to ≢ last) → BeginsRun enc rules front unit
        run-begins why = (
          low,
          λ before is one.
              at why before is
              (sym (led-same kernels apart (front ++ before ∷ []) (front ++ unit ∷ []) last to (led-now before is)
              (target-leads unit (omega arith) most) ((tells.same (front ++ before ∷ []) (front ++ unit ∷ [])).1 one))),
        )
          where
            at : (unit ≡ 0) ⊎ (to ≢ last) → (before : ℕ) → unit ≡ suc before → to ≡ last → ⊥
            at (inl none) before is same = omega (arith, none, is)
            at (inr other) before is same = other same

        pub run-goes_on : 0 < unit → to ≡ last → BeginsRun enc rules front unit → ⊥
        run-goes_on more same run = at unit refl
          where
            at : (own : ℕ) → own ≡ unit → ⊥
            at zero is = omega (arith, is, more)
            at (suc before) is =
                run.1 before (sym is)
                ((tells.same (front ++ before ∷ []) (front ++ unit ∷ [])).0
                (led-one kernels (front ++ before ∷ []) (front ++ unit ∷ []) last (led-now before (sym is))
                (subst (LeadsTo tnfa rules kernels (front ++ unit ∷ [])) same (target-leads unit (omega arith) most))))

      -- ---- what was found then

      module _ (new : Covering) (kernels_are : new.kernels ≡ kernels) where
        lists-kept : ((own : ℕ) → own < length old.kernels → least_word new own ≡ least_word old own)
            → (own : ℕ) (there : List Place) → slice_get old.kernels own ≡ Some there → IsListOf tnfa rules (least_word new own) there
        lists-kept words own there at =
            subst (λ w. IsListOf tnfa rules w there) (sym (words own (slice_get_within old.kernels own there at))) (come.lists own there at)

        -- no kernel came
        module _ (same : kernels ≡ old.kernels) (firsts : new.firsts.items ≡ old.firsts.items)
            (words : (own : ℕ) → own < length old.kernels → least_word new own ≡ least_word old own)
            (longer : length old.words ≤ length new.words) where
          kernels_same : new.kernels ≡ old.kernels
          kernels_same = kernels_are ∙ same

          pub come-old : AreCoveringBefore enc rules new.words (front ++ (hi + 1) ∷ []) → HasCome enc rules tnfa new (front ++ (hi + 1) ∷ [])
          come-old covering = record {
            words = covering;
            kernels =
                subst (λ l. AreKernelsBefore enc rules (kernel_behind tnfa rules) (length l) (least_word new) (front ++ (hi + 1) ∷ [])) (sym kernels_same)
                (kernels-same enc rules (kernel_behind tnfa rules) tells (length old.kernels) (least_word old) (least_word new) (front ++ (hi + 1) ∷ []) words
                (kernels-stay enc rules (kernel_behind tnfa rules) tells (length old.kernels) (least_word old) front unit (hi + 1) come.kernels (omega arith) alike
                (target-old same)));
            lists = λ own there at. lists-kept words own there (subst (λ l. slice_get l own ≡ Some there) kernels_same at);
            apart = subst (λ l. AllPairs (λ list other. list ≢ other) l) (sym kernels_same) come.apart;
            counts = ap length firsts ∙ come.counts ∙ ap length (sym kernels_same);
            within = λ own lt.
                let inside = come.within own (subst (λ l. own < length l) kernels_same lt) in
                let first : get_or new.firsts.items own 0 ≡ get_or old.firsts.items own 0 = ap (λ l. get_or l own 0) firsts in
                omega (arith, inside, first, longer);
          }

        -- one came, with the word that is the last one
        module _ (added : kernels ≡ old.kernels ++ places ∷ []) (absent : Contains old.kernels places → ⊥) (full : places ≢ [])
            (firsts : new.firsts.items ≡ old.firsts.items ++ length old.words ∷ []) (pushed : new.words ≡ old.words ++ (front ++ unit ∷ []) ∷ []) where
          kernels_more : new.kernels ≡ old.kernels ++ places ∷ []
          kernels_more = kernels_are ∙ added

          first-old : (own : ℕ) → own < length old.kernels → get_or new.firsts.items own 0 ≡ get_or old.firsts.items own 0
          first-old own lt =
              ap (λ l. get_or l own 0) firsts
              ∙ get_or_append_left old.firsts.items (length old.words ∷ []) 0 own (omega (arith, lt, come.counts))

          first-new : get_or new.firsts.items (length old.kernels) 0 ≡ length old.words
          first-new = ap (λ l. get_or l (length old.kernels) 0) firsts ∙ get_or_push old.firsts.items (length old.words) 0 (length old.kernels) come.counts

          pub word-old : (own : ℕ) → own < length old.kernels → least_word new own ≡ least_word old own
          word-old own lt =
              ap (λ n. get_or new.words n []) (first-old own lt)
              ∙ ap (λ l. get_or l (get_or old.firsts.items own 0) []) pushed
              ∙ get_or_append_left old.words ((front ++ unit ∷ []) ∷ []) [] (get_or old.firsts.items own 0) (come.within own lt)

          word-new : least_word new (length old.kernels) ≡ front ++ unit ∷ []
          word-new =
              ap (λ n. get_or new.words n []) first-new
              ∙ ap (λ l. get_or l (length old.words) []) pushed
              ∙ get_or_push old.words (front ++ unit ∷ []) [] (length old.words) refl

          some-behind : (list : List Place) → list ≢ [] → IsListOf tnfa rules (front ++ unit ∷ []) list → kernel (front ++ unit ∷ []) ≢ Some []
          some-behind [] some is = absurd (some refl)
          some-behind (place ∷ list) some is = list-some enc patterns tnfa of fits (front ++ unit ∷ []) place list is

          pub come-new : AreCoveringBefore enc rules new.words (front ++ (hi + 1) ∷ []) → HasCome enc rules tnfa new (front ++ (hi + 1) ∷ [])
          come-new covering = record {
            words = covering;
            kernels =
                subst (λ n. AreKernelsBefore enc rules (kernel_behind tnfa rules) n (least_word new) (front ++ (hi + 1) ∷ [])) (sym count)
                (kernels-more enc rules (kernel_behind tnfa rules) tells (length old.kernels) (least_word old) front unit (hi + 1) come.kernels (omega arith) alike
                (least_word new) word-old word-new (word-push enc rules front unit front-least.units low) (some-behind places full here-behind)
                (target-new absent));
            lists = λ own there at. elim (slice_get-behind old.kernels places there own (subst (λ l. slice_get l own ≡ Some there) kernels_more at)) [
              | inl early ↦ lists-kept word-old own there early
              | inr (is, same) ↦
                  subst (λ n. IsListOf tnfa rules (least_word new n) there) (sym is)
                  (subst (λ w. IsListOf tnfa rules w there) (sym word-new) (subst (IsListOf tnfa rules (front ++ unit ∷ [])) same here-behind))
            ];
            apart = subst (λ l. AllPairs (λ list other. list ≢ other) l) (sym kernels_more) (apart-push old.kernels places absent come.apart);
            counts = let more = length_push old.firsts.items (length old.words) in let total = ap length firsts in omega (arith, more, total, count, come.counts);
            within = λ own lt.
                let words : length new.words ≡ length (old.words ++ (front ++ unit ∷ []) ∷ []) = ap length pushed in
                let longer = length_push old.words (front ++ unit ∷ []) in
                elim (cases_lt own (length old.kernels)) [
                  | inl early ↦
                      let inside = come.within own early in
                      let first = first-old own early in
                      omega (arith, inside, first, words, longer)
                  | inr past ↦
                      let is : own ≡ length old.kernels = omega (arith, lt, count, past) in
                      let first : get_or new.firsts.items own 0 ≡ length old.words = ap (λ n. get_or new.firsts.items n 0) is ∙ first-new in
                      omega (arith, first, words, longer)
                ];
          }
            where
              count : length new.kernels ≡ length old.kernels + 1
              count = let more = length_push old.kernels places in let total = ap length kernels_more in omega (arith, more, total)

        -- ---- what a call does with them

        -- all up to the last unit is found, and the last one leads there
        abbrev pub Came : Type 0
        Came =
            HasCome enc rules tnfa new (front ++ (hi + 1) ∷ [])
            × ((before : ℕ) → hi + 1 ≡ suc before → LeadsTo tnfa rules new.kernels (front ++ before ∷ []) to)

        came : HasCome enc rules tnfa new (front ++ (hi + 1) ∷ []) → Came
        came come_now = (
          come_now,
          λ before is.
              let same : hi ≡ before = omega (arith, is) in
              subst (λ l. LeadsTo tnfa rules l (front ++ before ∷ []) to) (sym kernels_are)
              (subst (λ unit. LeadsTo tnfa rules kernels (front ++ unit ∷ []) to) same (target-leads hi most (omega arith))),
        )

        module _ (last : Option ℕ) (led : (before : ℕ) → unit ≡ suc before → LeadsTo tnfa rules old.kernels (front ++ before ∷ []) last) where
          -- where the run goes on no kernel came
          kernels-stayed : 0 < unit → to ≡ last → kernels ≡ old.kernels
          kernels-stayed more same = at to target (subst (LeadsTo tnfa rules old.kernels (front ++ back unit ∷ [])) (sym same) (led (back unit) (back-is unit more)))
            where
              back : ℕ → ℕ
              back zero = 0
              back (suc before) = before

              back-is : (unit : ℕ) → 0 < unit → unit ≡ suc (back unit)
              back-is zero more = absurd (omega arith)
              back-is (suc before) more = refl

              at : (to : Option ℕ) → IsTarget old.kernels places kernels to → LeadsTo tnfa rules old.kernels (front ++ back unit ∷ []) to
                  → kernels ≡ old.kernels
              at None target led = target.1
              at (Some own) target (list, there, full, is) = by target.2
                where
                  by : Adds old.kernels places kernels → kernels ≡ old.kernels
                  by (inl kept) = kept.0
                  by (inr (added, absent)) =
                      let now : slice_get kernels own ≡ Some list =
                      ap (λ l. slice_get l own) added ∙ slice_get-front old.kernels (places ∷ []) own list there in
                      let same : list ≡ places = some_is list places (sym now ∙ target.1) in
                      let lt : own < length old.kernels = slice_get_within old.kernels own list there in
                      absurd (absent (own, lt, get_or_from_slice_get old.kernels own list places there ∙ same))

          pub came-kept : 0 < unit → to ≡ last → new.words ≡ old.words → new.firsts.items ≡ old.firsts.items → Came
          came-kept more same words firsts =
              came
              (come-old (kernels-stayed more same) firsts
              (λ own lt. ap (λ n. get_or new.words n []) (ap (λ l. get_or l own 0) firsts) ∙ ap (λ l. get_or l (get_or old.firsts.items own 0) []) words)
              (let equal : length new.words ≡ length old.words = ap length words in omega (arith, equal))
              (subst (λ l. AreCoveringBefore enc rules l (front ++ (hi + 1) ∷ [])) (sym words)
              (covering-kept enc rules (kernel_behind tnfa rules) tells front unit (hi + 1) (omega arith) alike old.words come.words
              (run-goes_on last [] (kernels-stayed more same ∙ sym (append-nil old.kernels))
              (subst (λ l. AllPairs (λ list other. list ≢ other) l) (sym (kernels-stayed more same)) come.apart) led more same))))

          -- where a run begins its word is the last one
          module _ (why : (unit ≡ 0) ⊎ (to ≢ last)) (pushed : new.words ≡ old.words ++ (front ++ unit ∷ []) ∷ []) where
            word-kept : new.firsts.items ≡ old.firsts.items → (own : ℕ) → own < length old.kernels → least_word new own ≡ least_word old own
            word-kept firsts own lt =
                ap (λ n. get_or new.words n []) (ap (λ l. get_or l own 0) firsts)
                ∙ ap (λ l. get_or l (get_or old.firsts.items own 0) []) pushed
                ∙ get_or_append_left old.words ((front ++ unit ∷ []) ∷ []) [] (get_or old.firsts.items own 0) (come.within own lt)

            words-now : BeginsRun enc rules front unit → AreCoveringBefore enc rules new.words (front ++ (hi + 1) ∷ [])
            words-now run =
                subst (λ l. AreCoveringBefore enc rules l (front ++ (hi + 1) ∷ [])) (sym pushed)
                (covering-pushed enc rules (kernel_behind tnfa rules) tells front unit (hi + 1) (omega arith) alike old.words come.words front-least run)

            longer : length old.words ≤ length new.words
            longer = let more = length_push old.words (front ++ unit ∷ []) in let total = ap length pushed in omega (arith, more, total)

            begun : (later : List (List Place)) → kernels ≡ old.kernels ++ later → AllPairs (λ list other. list ≢ other) kernels
                → BeginsRun enc rules front unit
            begun later grown apart = run-begins last later grown apart led why

            came-old : kernels ≡ old.kernels → new.firsts.items ≡ old.firsts.items → Came
            came-old same firsts =
                came
                (come-old same firsts (word-kept firsts) longer
                (words-now
                (begun [] (same ∙ sym (append-nil old.kernels)) (subst (λ l. AllPairs (λ list other. list ≢ other) l) (sym same) come.apart))))

            came-new : kernels ≡ old.kernels ++ places ∷ [] → (Contains old.kernels places → ⊥) → places ≢ []
                → new.firsts.items ≡ old.firsts.items ++ length old.words ∷ [] → Came
            came-new added absent full firsts =
                came
                (come-new added absent full firsts pushed
                (words-now
                (begun (places ∷ []) added
                (subst (λ l. AllPairs (λ list other. list ≢ other) l) (sym added) (apart-push old.kernels places absent come.apart)))))

            -- by how many kernels there are
            pub came-pushed : (length kernels ≤ length old.kernels → new.firsts.items ≡ old.firsts.items)
                → (length old.kernels < length kernels → new.firsts.items ≡ old.firsts.items ++ length old.words ∷ []) → Came
            came-pushed stay grow = at to target
              where
                by : places ≢ [] → Adds old.kernels places kernels → Came
                by full (inl kept) =
                    let same : length kernels ≡ length old.kernels = ap length kept.0 in came-old kept.0 (stay (omega (arith, same)))
                by full (inr (added, absent)) =
                    let more = length_push old.kernels places in
                    let total : length kernels ≡ length (old.kernels ++ places ∷ []) = ap length added in
                    came-new added absent full (grow (omega (arith, more, total)))

                at : (to : Option ℕ) → IsTarget old.kernels places kernels to → Came
                at None target =
                    let same : length kernels ≡ length old.kernels = ap length target.1 in came-old target.1 (stay (omega (arith, same)))
                at (Some own) target = by target.0 target.2

      -- with the word there are too many units
      pub came-stops : (last : Option ℕ) → ((before : ℕ) → unit ≡ suc before → LeadsTo tnfa rules old.kernels (front ++ before ∷ []) last)
          → (unit ≡ 0) ⊎ (to ≢ last) → (stop : CoverStop) → IsOver old.words (front ++ unit ∷ []) stop → StopsCover enc rules stop
      came-stops last led why stop over =
          covering-stops enc rules (kernel_behind tnfa rules) tells front unit (hi + 1) (omega arith) alike old.words come.words front-least
          (at to target) stop over
        where
          by : Adds old.kernels places kernels → BeginsRun enc rules front unit
          by (inl kept) =
              run-begins last [] (kept.0 ∙ sym (append-nil old.kernels))
              (subst (λ l. AllPairs (λ list other. list ≢ other) l) (sym kept.0) come.apart) led why
          by (inr (added, absent)) =
              run-begins last (places ∷ []) added
              (subst (λ l. AllPairs (λ list other. list ≢ other) l) (sym added) (apart-push old.kernels places absent come.apart)) led why

          at : (to : Option ℕ) → IsTarget old.kernels places kernels to → BeginsRun enc rules front unit
          at None target =
              run-begins last [] (target.1 ∙ sym (append-nil old.kernels))
              (subst (λ l. AllPairs (λ list other. list ≢ other) l) (sym target.1) come.apart) led why
          at (Some own) target = by target.2
