-- The words of the places of a search: they ascend, and each is the least to its state.
use Rattle.std.proofs.Common.{◌≡◌, ◌⊎◌, inl, inr, ℕ, zero, suc, ◌<◌, ◌≤◌, List, [], ◌∷◌, ◌++◌, length, Option, Some, None, refl, sym, ap, ◌∙◌, subst, arith, append_assoc, append-nil}
use Rattle.std.proofs.lemmas.Bool.{cases_lt, cases_order}
use Rattle.std.proofs.lemmas.List.{length_push}
use Rattle.lx_tdfa.specs.Searches.{AreApart, IsEarlier, IsSearched, IsTrace, Trace, and_then, walk, word_at, word_within}
use Rattle.lx_tdfa.specs.Words.{ComesBefore, IsNoLater}
use Rattle.lx_tdfa.proofs.LeastWords.WordOrder.{comes-last, comes-push, comes-trans, empty-no_later, no_later-last, no_later-push, no_later-trans}

-- ---- walks

and_then-none : (found : Option ℕ) → and_then found Some ≡ found
and_then-none None = refl
and_then-none (Some state) = refl

pub walk-append : (step : ℕ → ℕ → Option ℕ) (state : ℕ) (front back : List ℕ)
    → walk step state (front ++ back) ≡ and_then (walk step state front) (λ next. walk step next back)
walk-append step state [] back = refl
walk-append step state (unit ∷ front) back = at (step state unit) (λ next. walk-append step next front back)
  where
    at : (found : Option ℕ) → ((next : ℕ) → walk step next (front ++ back) ≡ and_then (walk step next front) (λ last. walk step last back))
        → and_then found (λ next. walk step next (front ++ back))
        ≡ and_then (and_then found (λ next. walk step next front)) (λ last. walk step last back)
    at None rest = refl
    at (Some next) rest = rest next

pub walk-push : (step : ℕ → ℕ → Option ℕ) (state : ℕ) (front : List ℕ) (unit : ℕ)
    → walk step state (front ++ unit ∷ []) ≡ and_then (walk step state front) (λ last. step last unit)
walk-push step state front unit =
    walk-append step state front (unit ∷ []) ∙ (λ i. and_then (walk step state front) (λ last. and_then-none (step last unit) i))

pub walk-pushed : (step : ℕ → ℕ → Option ℕ) (state : ℕ) (front : List ℕ) (unit middle last : ℕ) → walk step state front ≡ Some middle
    → step middle unit ≡ Some last → walk step state (front ++ unit ∷ []) ≡ Some last
walk-pushed step state front unit middle last comes steps =
    walk-push step state front unit ∙ ap (λ found. and_then found (λ m. step m unit)) comes ∙ steps

-- ---- the words of places

module _ (step : ℕ → ℕ → Option ℕ) (trace : Trace) (is : IsTrace step trace) where
  within-enough : (steps more place : ℕ) → place < trace.count → place ≤ steps → place ≤ more
      → word_within trace steps place ≡ word_within trace more place
  within-enough zero zero place lt enough also = refl
  within-enough zero (suc more) zero lt enough also = refl
  within-enough zero (suc more) (suc place) lt enough also = absurd (omega arith)
  within-enough (suc steps) zero zero lt enough also = refl
  within-enough (suc steps) zero (suc place) lt enough also = absurd (omega arith)
  within-enough (suc steps) (suc more) zero lt enough also = refl
  within-enough (suc steps) (suc more) (suc place) lt enough also =
      let back = is.parents (suc place) (omega arith) lt in
      ap (λ w. w ++ trace.unit (suc place) ∷ []) (within-enough steps more (trace.parent (suc place)) (omega arith) (omega arith) (omega arith))

  -- the word of a place is that of its parent, and the unit
  pub word_at-parent : (place : ℕ) → 0 < place → place < trace.count
      → word_at trace place ≡ word_at trace (trace.parent place) ++ trace.unit place ∷ []
  word_at-parent zero more lt = absurd (omega arith)
  word_at-parent (suc place) more lt =
      let back = is.parents (suc place) more lt in
      ap (λ w. w ++ trace.unit (suc place) ∷ [])
      (within-enough place (trace.parent (suc place)) (trace.parent (suc place)) (omega arith) (omega arith) (omega arith))

  -- the words ascend
  ascend-below : (bound place other : ℕ) → other < bound → place < other → other < trace.count
      → ComesBefore (word_at trace place) (word_at trace other)
  ascend-below zero place other small less lt = absurd (omega arith)
  ascend-below (suc bound) zero other small less lt =
      let long = length_push (word_at trace (trace.parent other)) (trace.unit other) in
      let whole = ap length (word_at-parent other less lt) in
      inl (omega (arith, long, whole))
  ascend-below (suc bound) (suc place) other small less lt =
      let back = is.parents other (omega arith) lt in
      let from : ComesBefore (word_at trace (trace.parent (suc place)) ++ trace.unit (suc place) ∷ [])
      (word_at trace (trace.parent other) ++ trace.unit other ∷ []) =
      at (is.order (suc place) other (omega arith) less lt)
      (λ before. ascend-below bound (trace.parent (suc place)) (trace.parent other) (omega arith) before (omega arith)) in
      subst (λ w. ComesBefore w (word_at trace other)) (sym (word_at-parent (suc place) (omega arith) (omega arith)))
      (subst (λ w. ComesBefore (word_at trace (trace.parent (suc place)) ++ trace.unit (suc place) ∷ []) w)
      (sym (word_at-parent other (omega arith) lt)) from)
    where
      at : IsEarlier (trace.parent (suc place)) (trace.unit (suc place)) (trace.parent other) (trace.unit other)
          → (trace.parent (suc place) < trace.parent other
          → ComesBefore (word_at trace (trace.parent (suc place))) (word_at trace (trace.parent other)))
          → ComesBefore (word_at trace (trace.parent (suc place)) ++ trace.unit (suc place) ∷ [])
          (word_at trace (trace.parent other) ++ trace.unit other ∷ [])
      at (inl before) ascend =
          comes-push (word_at trace (trace.parent (suc place))) (word_at trace (trace.parent other)) (trace.unit (suc place)) (trace.unit other)
          (ascend before)
      at (inr (same, units)) ascend =
          subst (λ p. ComesBefore (word_at trace (trace.parent (suc place)) ++ trace.unit (suc place) ∷ []) (word_at trace p ++ trace.unit other ∷ []))
          same (comes-last (word_at trace (trace.parent (suc place))) (trace.unit (suc place)) (trace.unit other) units)

  pub words-ascend : (place other : ℕ) → place < other → other < trace.count → ComesBefore (word_at trace place) (word_at trace other)
  words-ascend place other less lt = ascend-below (suc other) place other (omega arith) less lt

  words-no_later : (place other : ℕ) → place ≤ other → other < trace.count → IsNoLater (word_at trace place) (word_at trace other)
  words-no_later place other most lt = at (cases_order place other)
    where
      at : (place ≡ other) ⊎ ((place < other) ⊎ (other < place)) → IsNoLater (word_at trace place) (word_at trace other)
      at (inl same) = inr (ap (word_at trace) same)
      at (inr (inl less)) = inl (words-ascend place other less lt)
      at (inr (inr more)) = absurd (omega arith)

  -- a word leads to the state of its place
  leads-below : (bound place : ℕ) → place < bound → place < trace.count → walk step 0 (word_at trace place) ≡ Some (trace.state place)
  leads-below zero place small lt = absurd (omega arith)
  leads-below (suc bound) zero small lt = ap Some (sym is.start)
  leads-below (suc bound) (suc place) small lt =
      let back = is.parents (suc place) (omega arith) lt in
      let before = leads-below bound (trace.parent (suc place)) (omega arith) (omega arith) in
      ap (λ w. walk step 0 w) (word_at-parent (suc place) (omega arith) lt)
      ∙ walk-pushed step 0 (word_at trace (trace.parent (suc place))) (trace.unit (suc place)) (trace.state (trace.parent (suc place)))
      (trace.state (suc place)) before (is.steps (suc place) (omega arith) lt)

  pub words-lead : (place : ℕ) → place < trace.count → walk step 0 (word_at trace place) ≡ Some (trace.state place)
  words-lead place lt = leads-below (suc place) place (omega arith) lt

-- ---- the least words

-- the state stands at a place whose word is no later than this one
abbrev pub StandsNoLater : Trace → List ℕ → ℕ → Type 0
StandsNoLater trace word state = (place : ℕ) × (place < trace.count) × (trace.state place ≡ state) × IsNoLater (word_at trace place) word

module _ (step : ℕ → ℕ → Option ℕ) (trace : Trace) (is : IsSearched step trace) where
  stands-next : (front : List ℕ) (unit state next : ℕ) → StandsNoLater trace front state → step state unit ≡ Some next
      → StandsNoLater trace (front ++ unit ∷ []) next
  stands-next front unit state next (place, lt, stands, least) steps =
      let passed = is.passed place unit next lt (ap (λ s. step s unit) stands ∙ steps) in
      (passed.0, passed.1, passed.2, at passed.0 passed.1 passed.3)
    where
      by : (found : ℕ) → found < trace.count → 0 < found → IsEarlier (trace.parent found) (trace.unit found) place (suc unit)
          → IsNoLater (word_at trace (trace.parent found) ++ trace.unit found ∷ []) (front ++ unit ∷ [])
      by found within more (inl before) =
          inl (comes-push (word_at trace (trace.parent found)) front (trace.unit found) unit
          (at-before (words-ascend step trace is.traced (trace.parent found) place before lt)))
        where
          at-before : ComesBefore (word_at trace (trace.parent found)) (word_at trace place) → ComesBefore (word_at trace (trace.parent found)) front
          at-before comes = behind least
            where
              behind : IsNoLater (word_at trace place) front → ComesBefore (word_at trace (trace.parent found)) front
              behind (inl more_so) = comes-trans (word_at trace (trace.parent found)) (word_at trace place) front comes more_so
              behind (inr same) = subst (λ w. ComesBefore (word_at trace (trace.parent found)) w) same comes
      by found within more (inr (same, units)) =
          subst (λ p. IsNoLater (word_at trace p ++ trace.unit found ∷ []) (front ++ unit ∷ [])) (sym same)
          (no_later-trans (word_at trace place ++ trace.unit found ∷ []) (word_at trace place ++ unit ∷ []) (front ++ unit ∷ [])
          (no_later-last (word_at trace place) (trace.unit found) unit (omega arith))
          (no_later-push (word_at trace place) front unit least))

      at : (found : ℕ) → found < trace.count → (0 < found → IsEarlier (trace.parent found) (trace.unit found) place (suc unit))
          → IsNoLater (word_at trace found) (front ++ unit ∷ [])
      at zero within earlier = empty-no_later (front ++ unit ∷ [])
      at (suc found) within earlier =
          subst (λ w. IsNoLater w (front ++ unit ∷ [])) (sym (word_at-parent step trace is.traced (suc found) (omega arith) within))
          (by (suc found) within (omega arith) (earlier (omega arith)))

  stands-behind : (front rest : List ℕ) (state last : ℕ) → StandsNoLater trace front state → walk step state rest ≡ Some last
      → StandsNoLater trace (front ++ rest) last
  stands-behind front [] state last stands comes =
      let same : state ≡ last = cc in
      subst (λ w. StandsNoLater trace w last) (sym (append-nil front)) (subst (StandsNoLater trace front) same stands)
  stands-behind front (unit ∷ rest) state last stands comes =
      at (step state unit) refl comes
      (λ next steps after. stands-behind (front ++ unit ∷ []) rest next last (stands-next front unit state next stands steps) after)
    where
      at : (found : Option ℕ) → step state unit ≡ found → and_then found (λ next. walk step next rest) ≡ Some last
          → ((next : ℕ) → step state unit ≡ Some next → walk step next rest ≡ Some last
          → StandsNoLater trace ((front ++ unit ∷ []) ++ rest) last)
          → StandsNoLater trace (front ++ unit ∷ rest) last
      at None steps comes onward = absurd (cc comes)
      at (Some next) steps comes onward =
          subst (λ w. StandsNoLater trace w last) (append_assoc front (unit ∷ []) rest) (onward next steps comes)

  -- where a word leads a place stands, with a word no later
  pub stands-least : (word : List ℕ) (state : ℕ) → walk step 0 word ≡ Some state → StandsNoLater trace word state
  stands-least word state comes =
      stands-behind [] word 0 state (0, is.traced.some, is.traced.start, inr refl) comes

  -- Of all words that lead to a state and end in a unit that is good there, the first is the word of the first place that has such a
  -- unit, with the least one.
  pub first-least : (Good : (state unit : ℕ) → Type 0) (place unit : ℕ) → place < trace.count
      → ((earlier other : ℕ) → earlier < place → Good (trace.state earlier) other → ⊥)
      → ((other : ℕ) → other < unit → Good (trace.state place) other → ⊥)
      → (front : List ℕ) (last state : ℕ) → walk step 0 front ≡ Some state → Good state last
      → IsNoLater (word_at trace place ++ unit ∷ []) (front ++ last ∷ [])
  first-least Good place unit lt none least front last state comes good = at (stands-least front state comes)
    where
      same_word : word_at trace place ≡ front → IsNoLater (word_at trace place ++ unit ∷ []) (front ++ last ∷ [])
      same_word same =
          let here : Some (trace.state place) ≡ Some state =
          sym (words-lead step trace is.traced place lt) ∙ ap (λ w. walk step 0 w) same ∙ comes in
          let stands : trace.state place ≡ state = cc in
          let most : unit ≤ last = elim (cases_lt last unit) [
            | inl less ↦ absurd (least last less (subst (λ s. Good s last) (sym stands) good))
            | inr ge ↦ ge
          ] in
          subst (λ w. IsNoLater (word_at trace place ++ unit ∷ []) (w ++ last ∷ [])) same (no_later-last (word_at trace place) unit last most)

      at : StandsNoLater trace front state → IsNoLater (word_at trace place ++ unit ∷ []) (front ++ last ∷ [])
      at (found, within, stands, later) = elim (cases_lt found place) [
        | inl early ↦ absurd (none found last early (subst (λ s. Good s last) (sym stands) good))
        | inr ge ↦
            elim (no_later-trans (word_at trace place) (word_at trace found) front (words-no_later step trace is.traced place found ge within) later) [
              | inl before ↦ inl (comes-push (word_at trace place) front unit last before)
              | inr same ↦ same_word same
            ]
      ]

-- where no two places have one state, the word of a place is the least to its state
pub word-least : (step : ℕ → ℕ → Option ℕ) (trace : Trace) (place : ℕ) (word : List ℕ) → IsSearched step trace → AreApart step trace
    → place < trace.count → walk step 0 word ≡ Some (trace.state place) → IsNoLater (word_at trace place) word
word-least step trace place word is apart lt comes = at (stands-least step trace is word (trace.state place) comes)
  where
    at : StandsNoLater trace word (trace.state place) → IsNoLater (word_at trace place) word
    at (found, within, stands, later) = elim (cases_order found place) [
      | inl same ↦ subst (λ p. IsNoLater (word_at trace p) word) same later
      | inr (inl less) ↦ absurd (apart found place less lt stands)
      | inr (inr more) ↦ absurd (apart place found more within (sym stands))
    ]
