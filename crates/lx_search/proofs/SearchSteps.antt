-- How a search of any graph goes on.
use Rattle.std.proofs.Common.{◌≡◌, ◌≢◌, inl, inr, ℕ, suc, ◌+◌, ◌<◌, ◌≤◌, List, [], ◌∷◌, ◌++◌, length, get_or, set, Option, Some, None, Bool, true, false, refl, sym, ap, ◌∙◌, subst, arith}
use Rattle.std.proofs.Math.Seq.{get_or-append_seam}
use Rattle.std.proofs.lemmas.Bool.{cases_eq, cases_lt}
use Rattle.std.proofs.lemmas.List.{get_or-set_other, get_or-set_same, get_or_append_left, length-set, length_push}
use Rattle.std.proofs.lemmas.List.Sums.{sum_by-set}
use Rattle.lx_auto.specs.MetStates.{is_marked, newness}
use Rattle.lx_search.specs.Found.{found_at, trace_of}
use Rattle.lx_search.specs.Progress.{IsSearchOf, Stands}
use Rattle.lx_search.specs.declared.search.Found.{Found}
use Rattle.lx_tdfa.specs.Searches.{AreApart, IsEarlier, IsTrace, StandsBy}

-- ---- lists that grow at their end

abbrev none : Found
none = record { state = 0; parent = 0; unit = 0 }

module _ (found : List Found) (last : Found) where
  abbrev more : List Found
  more = found ++ last ∷ []

  more-length : length more ≡ length found + 1
  more-length = length_push found last

  pub at-front : (place : ℕ) → place < length found → found_at more place ≡ found_at found place
  at-front place lt = get_or_append_left found (last ∷ []) none place lt

  at-last : found_at more (length found) ≡ last
  at-last = get_or-append_seam found last [] none

  -- what holds of each, by its place
  each : (P : ℕ → Found → Type 0) → ((place : ℕ) → place < length found → P place (found_at found place)) → P (length found) last
      → (place : ℕ) → place < length more → P place (found_at more place)
  each P all is place lt = elim (cases_lt place (length found)) [
    | inl front ↦ subst (P place) (sym (at-front place front)) (all place front)
    | inr ge ↦
        let long = more-length in
        let same : length found ≡ place = omega (arith, long) in
        subst (λ k. P k (found_at more k)) same (subst (P (length found)) (sym at-last) is)
  ]

  stands-more : (state : ℕ) → Stands found state → Stands more state
  stands-more state (place, lt, is) =
      let long = more-length in (place, omega (arith, long), ap (λ (f : Found). f.state) (at-front place lt) ∙ is)

  pub stands-last : Stands more last.state
  stands-last = let long = more-length in (length found, omega (arith, long), ap (λ (f : Found). f.state) at-last)

  by-more : (step : ℕ → ℕ → Option ℕ) (bound end state : ℕ) → StandsBy step (trace_of found) bound end state
      → StandsBy step (trace_of more) bound end state
  by-more step bound end state (place, lt, is, earlier) =
      let long = more-length in (
        place,
        omega (arith, long),
        ap (λ (f : Found). f.state) (at-front place lt) ∙ is,
        λ later. subst (λ (f : Found). IsEarlier f.parent f.unit bound end) (sym (at-front place lt)) (earlier later),
      )

-- ---- the steps of a search

earlier-on : (place unit bound end later : ℕ) → IsEarlier place unit bound end → end ≤ later → IsEarlier place unit bound later
earlier-on place unit bound end later (inl less) most = inl less
earlier-on place unit bound end later (inr (same, units)) most = inr (same, omega arith)

module _ (step : (state unit : ℕ) → Option ℕ) (states : ℕ) where
  -- units are passed that lead to what was found, or nowhere
  pub passed-on : (marks : List Bool) (found : List Found) (place bound end : ℕ) → IsSearchOf step states marks found place bound → bound ≤ end
      → ((unit state : ℕ) → bound ≤ unit → unit < end → step (found_at found place).state unit ≡ Some state → Stands found state)
      → IsSearchOf step states marks found place end
  passed-on marks found place bound end is most stand = record {
    traced = is.traced;
    fit = is.fit;
    total = is.total;
    within = is.within;
    listed = is.listed;
    earlier = λ other later lt. earlier-on (found_at found other).parent (found_at found other).unit place bound end (is.earlier other later lt) most;
    passed = λ at unit state lt before steps. passed at unit state lt before steps;
    apart = is.apart;
    marked = is.marked;
  }
    where
      now : (at unit state : ℕ) → at ≡ place → bound ≤ unit → Stands found state → StandsBy step (trace_of found) at (suc unit) state
      now at unit state same from (stood, lt, stands) = (
        stood,
        lt,
        stands,
        λ later. subst (λ p. IsEarlier (found_at found stood).parent (found_at found stood).unit p (suc unit)) (sym same)
            (earlier-on (found_at found stood).parent (found_at found stood).unit place bound (suc unit) (is.earlier stood later lt) (omega arith)),
      )

      passed : (at unit state : ℕ) → at < length found → IsEarlier at unit place end → step (found_at found at).state unit ≡ Some state
          → StandsBy step (trace_of found) at (suc unit) state
      passed at unit state lt (inl less) steps = is.passed at unit state lt (inl less) steps
      passed at unit state lt (inr (same, units)) steps = elim (cases_lt unit bound) [
        | inl below ↦ is.passed at unit state lt (inr (same, below)) steps
        | inr from ↦
            now at unit state same from
            (stand unit state from units (subst (λ p. step (found_at found p).state unit ≡ Some state) same steps))
      ]

  -- a state is found
  module _ (marks : List Bool) (found : List Found) (place bound lo to : ℕ) (is : IsSearchOf step states marks found place bound)
      (within : place < length found) (low : bound ≤ lo) (target : to < states) (new : is_marked marks to ≡ false)
      (gap : (unit : ℕ) → bound ≤ unit → unit < lo → step (found_at found place).state unit ≡ None)
      (leads : step (found_at found place).state lo ≡ Some to) where
    abbrev last : Found
    last = record { state = to; parent = place; unit = lo }

    abbrev longer : List Found
    longer = found ++ last ∷ []

    steps-more : (at : ℕ) → 0 < at → at < length longer
        → step (found_at longer (found_at longer at).parent).state (found_at longer at).unit ≡ Some (found_at longer at).state
    steps-more at later lt =
        each found last (λ k f. 0 < k → step (found_at longer f.parent).state f.unit ≡ Some f.state)
        (λ k front more_so.
        let back = is.traced.parents k more_so front in
        subst (λ (f : Found). step f.state (found_at found k).unit ≡ Some (found_at found k).state)
        (sym (at-front found last (found_at found k).parent (omega arith))) (is.traced.steps k more_so front))
        (λ more_so. subst (λ (f : Found). step f.state lo ≡ Some to) (sym (at-front found last place within)) leads)
        at lt later

    order-more : (at other : ℕ) → 0 < at → at < other → other < length longer
        → IsEarlier (found_at longer at).parent (found_at longer at).unit (found_at longer other).parent (found_at longer other).unit
    order-more at other later less lt =
        each found last (λ k f. at < k → IsEarlier (found_at longer at).parent (found_at longer at).unit f.parent f.unit)
        (λ k front less_so.
        subst (λ (f : Found). IsEarlier f.parent f.unit (found_at found k).parent (found_at found k).unit)
        (sym (at-front found last at (omega arith))) (is.traced.order at k later less_so front))
        (λ less_so.
        subst (λ (f : Found). IsEarlier f.parent f.unit place lo) (sym (at-front found last at less_so))
        (earlier-on (found_at found at).parent (found_at found at).unit place bound lo (is.earlier at later less_so) low))
        other lt less

    traced-more : IsTrace step (trace_of longer)
    traced-more =
        let long = more-length found last in
        record {
          some = omega (arith, long);
          start = ap (λ (f : Found). f.state) (at-front found last 0 (is.traced.some)) ∙ is.traced.start;
          parents = λ at later lt. each found last (λ k f. 0 < k → f.parent < k) (λ k front more_so. is.traced.parents k more_so front) (λ more_so. within) at lt later;
          steps = steps-more;
          order = order-more;
        }

    passed-more : (at unit state : ℕ) → at < length longer → IsEarlier at unit place (suc lo)
        → step (found_at longer at).state unit ≡ Some state → StandsBy step (trace_of longer) at (suc unit) state
    passed-more at unit state lt before steps = by before
      where
        here : at ≡ place → unit < suc lo → step (found_at found place).state unit ≡ Some state
            → StandsBy step (trace_of longer) at (suc unit) state
        here same units steps_on = elim (cases_lt unit lo) [
          | inl below ↦ elim (cases_lt unit bound) [
            | inl early ↦
                by-more found last step at (suc unit) state
                (is.passed at unit state (omega arith) (inr (same, early))
                (subst (λ p. step (found_at found p).state unit ≡ Some state) (sym same) steps_on))
            | inr from ↦ absurd (nowhere (sym (gap unit from below) ∙ steps_on))
          ]
          | inr ge ↦
              let units_same : unit ≡ lo = omega arith in
              let now : Some state ≡ Some to = sym steps_on ∙ ap (λ u. step (found_at found place).state u) units_same ∙ leads in
              let states_same : state ≡ to = cc in
              let long = more-length found last in (
                length found,
                omega (arith, long),
                ap (λ (f : Found). f.state) (at-last found last) ∙ sym states_same,
                λ later. subst (λ (f : Found). IsEarlier f.parent f.unit at (suc unit)) (sym (at-last found last)) (inr (sym same, omega arith)),
              )
        ]
          where
            nowhere : None ≡ Some state → ⊥
            nowhere is_some = cc

        by : IsEarlier at unit place (suc lo) → StandsBy step (trace_of longer) at (suc unit) state
        by (inl less) =
            by-more found last step at (suc unit) state
            (is.passed at unit state (omega arith) (inl less)
            (subst (λ (f : Found). step f.state unit ≡ Some state) (at-front found last at (omega arith)) steps))
        by (inr (same, units)) =
            here same units
            (subst (λ p. step (found_at found p).state unit ≡ Some state) same
            (subst (λ (f : Found). step f.state unit ≡ Some state) (at-front found last at (omega arith)) steps))

    -- no state that was found is this one
    apart-last : (at : ℕ) → at < length found → (found_at found at).state ≢ to
    apart-last at lt same =
        let both : true ≡ false = sym (is.marked at lt) ∙ ap (is_marked marks) same ∙ new in cc

    apart-more : AreApart step (trace_of longer)
    apart-more at other less lt =
        each found last (λ k f. at < k → (found_at longer at).state ≢ f.state)
        (λ k front less_so. subst (λ (f : Found). f.state ≢ (found_at found k).state) (sym (at-front found last at (omega arith))) (is.apart at k less_so front))
        (λ less_so. subst (λ (f : Found). f.state ≢ to) (sym (at-front found last at less_so)) (apart-last at less_so))
        other lt less

    marked-more : (at : ℕ) → at < length longer → is_marked (set marks to true) (found_at longer at).state ≡ true
    marked-more =
        let fit : length marks ≡ states = is.fit in
        let in_marks : to < length marks = omega arith in
        each found last (λ k f. is_marked (set marks to true) f.state ≡ true)
        (λ k front. get_or-set_other marks to (found_at found k).state true false (apart-last k front) ∙ is.marked k front)
        (get_or-set_same marks to true false in_marks)

    pub found-more : IsSearchOf step states (set marks to true) longer place (suc lo)
    found-more = record {
      traced = traced-more;
      apart = apart-more;
      marked = marked-more;
      passed = passed-more;
      earlier = λ other later lt.
          each found last (λ k f. 0 < k → IsEarlier f.parent f.unit place (suc lo))
          (λ k front more_so.
          earlier-on (found_at found k).parent (found_at found k).unit place bound (suc lo) (is.earlier k more_so front) (omega arith))
          (λ more_so. inr (refl, omega arith)) other lt later;
      fit = length-set marks to true ∙ is.fit;
      total =
          let fit : length marks ≡ states = is.fit in
          let in_marks : to < length marks = omega arith in
          let fewer = sum_by-set newness marks to true false in_marks in
          let one : newness (get_or marks to false) ≡ 1 = ap newness new in
          let long = more-length found last in
          omega (arith, long, fewer, one, is.total);
      within = each found last (λ k f. f.state < states) is.within target;
      listed = λ state marked. elim (cases_eq state to) [
        | inl same ↦ subst (Stands longer) (sym same) (stands-last found last)
        | inr apart ↦ stands-more found last state (is.listed state (sym (get_or-set_other marks to state true false apart) ∙ marked))
      ];
    }

  -- the next place
  pub next-place : (marks : List Bool) (found : List Found) (place bound : ℕ) → IsSearchOf step states marks found place bound
      → ((unit : ℕ) → bound ≤ unit → step (found_at found place).state unit ≡ None) → IsSearchOf step states marks found (place + 1) 0
  next-place marks found place bound is nothing = record {
    traced = is.traced;
    fit = is.fit;
    total = is.total;
    within = is.within;
    listed = is.listed;
    apart = is.apart;
    marked = is.marked;
    earlier = λ other later lt. on (found_at found other).parent (found_at found other).unit (is.earlier other later lt);
    passed = λ at unit state lt before steps. passed at unit state lt before steps;
  }
    where
      on : (parent unit : ℕ) → IsEarlier parent unit place bound → IsEarlier parent unit (place + 1) 0
      on parent unit (inl less) = inl (omega arith)
      on parent unit (inr (same, units)) = inl (omega arith)

      nowhere : (state : ℕ) → None ≡ Some state → ⊥
      nowhere state is_some = cc

      passed : (at unit state : ℕ) → at < length found → IsEarlier at unit (place + 1) 0 → step (found_at found at).state unit ≡ Some state
          → StandsBy step (trace_of found) at (suc unit) state
      passed at unit state lt (inl less) steps = elim (cases_lt at place) [
        | inl early ↦ is.passed at unit state lt (inl early) steps
        | inr ge ↦
            let same : at ≡ place = omega arith in
            elim (cases_lt unit bound) [
              | inl below ↦ is.passed at unit state lt (inr (same, below)) steps
              | inr from ↦
                  absurd (nowhere state (sym (nothing unit from) ∙ subst (λ p. step (found_at found p).state unit ≡ Some state) same steps))
            ]
      ]
      passed at unit state lt (inr (same, units)) steps = absurd (omega arith)
