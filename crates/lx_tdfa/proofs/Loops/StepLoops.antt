-- Steps over a unit, target by target.
use Rattle.std.proofs.Common.{◌≡◌, ℕ, zero, suc, ◌+◌, ◌<◌, arith, Bool, true, false, ◌||◌, if◌then◌else◌, List, [], ◌∷◌, ◌++◌, length, drop, get_or, filter_map, Option, Some, None, refl, rules, sym, ap, ◌∙◌}
use Rattle.std.proofs.lemmas.Bool.{false≢true}
use Rattle.std.proofs.lemmas.List.{append_assoc, drop_more}
use Rattle.std.specs.Bool.{MatchBool}
use Rattle.std.specs.Option.{option_map}
use Rattle.std.specs.Prelude.{Contains}
use Rattle.lx_tnfa.specs.Tnfa.{Tnfa}
use Rattle.lx_tnfa.specs.declared.closure.Reach.{Reach}
use Rattle.lx_tnfa.specs.declared.places.Place.{Place}
use Rattle.lx_tdfa.specs.Steps.{Step, first_steps, index_if, indices_from, is_among, is_place, step_on}

is_place-same : (place : Place) → is_place place place ≡ true
is_place-same place = search rules

same-is_place : (place other : Place) → is_place place other ≡ true → place ≡ other
same-is_place place other e = search rules

contains-is_among : (places : List Place) (place : Place) → Contains places place → is_among places place ≡ true
contains-is_among [] place there = absurd (omega (arith, there.1))
contains-is_among (other ∷ others) place there = at there.0 there.1 there.2 (contains-is_among others place)
  where
    at : (k : ℕ) → k < length (other ∷ others) → get_or (other ∷ others) k place ≡ place → (Contains others place → is_among others place ≡ true)
        → (is_place other place || is_among others place) ≡ true
    at zero lt is later = ap (λ p. is_place p place || is_among others place) is ∙ ap (λ b. b || is_among others place) (is_place-same place)
    at (suc k) lt is later = ap (λ b. is_place other place || b) (later (k, omega arith, is)) ∙ any (is_place other place)
      where
        any : (b : Bool) → (b || true) ≡ true
        any true = refl
        any false = refl

is_among-contains : (places : List Place) (place : Place) → is_among places place ≡ true → Contains places place
is_among-contains [] place e = absurd (false≢true e)
is_among-contains (other ∷ others) place e = at (is_place other place) refl e (is_among-contains others place)
  where
    at : (b : Bool) → is_place other place ≡ b → (b || is_among others place) ≡ true → (is_among others place ≡ true → Contains others place)
        → Contains (other ∷ others) place
    at true same any later = (0, omega arith, same-is_place other place same)
    at false same any later = let r = later any in (suc r.0, omega (arith, r.1), r.2)

not_among : (places : List Place) (place : Place) → ¬ Contains places place → is_among places place ≡ false
not_among places place none = at (is_among places place) refl
  where
    at : (b : Bool) → is_among places place ≡ b → b ≡ false
    at true e = absurd (none (is_among-contains places place e))
    at false e = refl

is_among-behind : (places : List Place) (last place : Place) → is_among (places ++ last ∷ []) place ≡ is_among (last ∷ places) place
is_among-behind [] last place = refl
is_among-behind (other ∷ others) last place =
    ap (λ b. is_place other place || b) (is_among-behind others last place)
    ∙ turn (is_place other place) (is_place last place) (is_among others place)
  where
    turn : (a b c : Bool) → (a || (b || c)) ≡ (b || (a || c))
    turn true true c = refl
    turn true false c = refl
    turn false b c = refl

first_steps-same : (seen other : List Place) → ((place : Place) → is_among seen place ≡ is_among other place) → (steps : List Step)
    → first_steps seen steps ≡ first_steps other steps
first_steps-same seen other same [] = refl
first_steps-same seen other same (step ∷ steps) =
    let skipped = first_steps-same seen other same steps in
    let taken = first_steps-same (step.to ∷ seen) (step.to ∷ other) (λ place. ap (λ b. is_place step.to place || b) (same place)) steps in
    ap (λ b. if b then first_steps seen steps else step ∷ first_steps (step.to ∷ seen) steps) (same step.to)
    ∙ at (is_among other step.to) skipped taken
  where
    at : (b : Bool) → first_steps seen steps ≡ first_steps other steps → first_steps (step.to ∷ seen) steps ≡ first_steps (step.to ∷ other) steps
        → (if b then first_steps seen steps else step ∷ first_steps (step.to ∷ seen) steps)
        ≡ (if b then first_steps other steps else step ∷ first_steps (step.to ∷ other) steps)
    at true skipped taken = skipped
    at false skipped taken = ap (λ l. step ∷ l) taken

filter_map-taken : {A B : Type 0} (f : A → Option B) (x : A) (xs : List A) (y : B) → f x ≡ Some y → filter_map f (x ∷ xs) ≡ y ∷ filter_map f xs
filter_map-taken f x xs y e = search (rules, e)

filter_map-left : {A B : Type 0} (f : A → Option B) (x : A) (xs : List A) → f x ≡ None → filter_map f (x ∷ xs) ≡ filter_map f xs
filter_map-left f x xs e = search (rules, e)

-- the step of a target to a place
abbrev pub step_by : Reach → Place → Step
step_by reach to = record { from = reach.from; events = reach.events; to = to }

module _ (tnfa : Tnfa) (unit : ℕ) (reaches : List Reach) (index : ℕ) (reach : Reach) (within : index < length reaches)
    (is : reach ≡ get_or reaches index reach) (seen : List Place) (front whole : List Step)
    (before : front ++ first_steps seen (filter_map (step_on tnfa unit) (drop index reaches)) ≡ whole)
    (behind : Option Place) (on : step_on tnfa unit reach ≡ option_map (step_by reach) behind) where
  before_rest : front ++ first_steps seen (filter_map (step_on tnfa unit) (reach ∷ drop (index + 1) reaches)) ≡ whole
  before_rest =
      ap (λ l. front ++ first_steps seen (filter_map (step_on tnfa unit) l))
      (sym (drop_more reaches index reach within ∙ ap (λ r. r ∷ drop (index + 1) reaches) (sym is))) ∙ before

  pub first_steps-taken : (to : Place) (new : List Place) (fresh : Bool) → behind ≡ Some to
      → MatchBool fresh (¬ Contains seen to × (new ≡ seen ++ to ∷ [])) (Contains seen to × (new ≡ seen)) → fresh ≡ true
      → (front ++ step_by reach to ∷ []) ++ first_steps new (filter_map (step_on tnfa unit) (drop (index + 1) reaches)) ≡ whole
  first_steps-taken to new false e added fresh = absurd (false≢true fresh)
  first_steps-taken to new true e added fresh =
      let rest : List Step = filter_map (step_on tnfa unit) (drop (index + 1) reaches) in
      let here : first_steps seen (step_by reach to ∷ rest) ≡ step_by reach to ∷ first_steps (to ∷ seen) rest =
      ap (λ b. if b then first_steps seen rest else step_by reach to ∷ first_steps (to ∷ seen) rest) (not_among seen to added.0) in
      ap (λ s. (front ++ step_by reach to ∷ []) ++ first_steps s rest) added.1
      ∙ append_assoc front (step_by reach to ∷ []) (first_steps (seen ++ to ∷ []) rest)
      ∙ ap (λ l. front ++ step_by reach to ∷ l) (first_steps-same (seen ++ to ∷ []) (to ∷ seen) (is_among-behind seen to) rest)
      ∙ ap (λ l. front ++ l) (sym here)
      ∙ ap (λ l. front ++ first_steps seen l)
      (sym (filter_map-taken (step_on tnfa unit) reach (drop (index + 1) reaches) (step_by reach to) (on ∙ ap (λ o. option_map (step_by reach) o) e)))
      ∙ before_rest

  pub first_steps-seen : (to : Place) (new : List Place) (fresh : Bool) → behind ≡ Some to
      → MatchBool fresh (¬ Contains seen to × (new ≡ seen ++ to ∷ [])) (Contains seen to × (new ≡ seen)) → fresh ≡ false
      → front ++ first_steps new (filter_map (step_on tnfa unit) (drop (index + 1) reaches)) ≡ whole
  first_steps-seen to new true e added fresh = absurd (false≢true (sym fresh))
  first_steps-seen to new false e added fresh =
      let rest : List Step = filter_map (step_on tnfa unit) (drop (index + 1) reaches) in
      let here : first_steps seen (step_by reach to ∷ rest) ≡ first_steps seen rest =
      ap (λ b. if b then first_steps seen rest else step_by reach to ∷ first_steps (to ∷ seen) rest) (contains-is_among seen to added.0) in
      ap (λ s. front ++ first_steps s rest) added.1
      ∙ ap (λ l. front ++ l) (sym here)
      ∙ ap (λ l. front ++ first_steps seen l)
      (sym (filter_map-taken (step_on tnfa unit) reach (drop (index + 1) reaches) (step_by reach to) (on ∙ ap (λ o. option_map (step_by reach) o) e)))
      ∙ before_rest

  pub first_steps-left : behind ≡ None → front ++ first_steps seen (filter_map (step_on tnfa unit) (drop (index + 1) reaches)) ≡ whole
  first_steps-left e =
      ap (λ l. front ++ first_steps seen l)
      (sym (filter_map-left (step_on tnfa unit) reach (drop (index + 1) reaches) (on ∙ ap (λ o. option_map (step_by reach) o) e))) ∙ before_rest

-- indices of steps, in the same way
indices-same : (tnfa : Tnfa) (unit : ℕ) (seen other : List Place) → ((place : Place) → is_among seen place ≡ is_among other place) → (index : ℕ)
    (reaches : List Reach) → indices_from tnfa unit seen index reaches ≡ indices_from tnfa unit other index reaches
indices-same tnfa unit seen other same index [] = refl
indices-same tnfa unit seen other same index (reach ∷ reaches) =
    at (step_on tnfa unit reach) (λ seen other same. indices-same tnfa unit seen other same (suc index) reaches)
  where
    by : (b : Bool) (to : Place) → indices_from tnfa unit seen (suc index) reaches ≡ indices_from tnfa unit other (suc index) reaches
        → indices_from tnfa unit (to ∷ seen) (suc index) reaches ≡ indices_from tnfa unit (to ∷ other) (suc index) reaches
        → (if b then indices_from tnfa unit seen (suc index) reaches else index ∷ indices_from tnfa unit (to ∷ seen) (suc index) reaches)
        ≡ (if b then indices_from tnfa unit other (suc index) reaches else index ∷ indices_from tnfa unit (to ∷ other) (suc index) reaches)
    by true to skipped taken = skipped
    by false to skipped taken = ap (λ l. index ∷ l) taken

    at : (o : Option Step) → ((seen other : List Place) → ((place : Place) → is_among seen place ≡ is_among other place)
        → indices_from tnfa unit seen (suc index) reaches ≡ indices_from tnfa unit other (suc index) reaches)
        → index_if o seen index (λ seen. indices_from tnfa unit seen (suc index) reaches)
        ≡ index_if o other index (λ seen. indices_from tnfa unit seen (suc index) reaches)
    at None more = more seen other same
    at (Some step) more =
        ap (λ b. if b then indices_from tnfa unit seen (suc index) reaches else index ∷ indices_from tnfa unit (step.to ∷ seen) (suc index) reaches)
        (same step.to)
        ∙ by (is_among other step.to) step.to (more seen other same)
        (more (step.to ∷ seen) (step.to ∷ other) (λ place. ap (λ b. is_place step.to place || b) (same place)))

module _ (tnfa : Tnfa) (unit : ℕ) (reaches : List Reach) (index : ℕ) (reach : Reach) (within : index < length reaches)
    (is : reach ≡ get_or reaches index reach) (seen : List Place) (front whole : List ℕ)
    (before : front ++ indices_from tnfa unit seen index (drop index reaches) ≡ whole)
    (behind : Option Place) (on : step_on tnfa unit reach ≡ option_map (step_by reach) behind) where
  abbrev rest : List Place → List ℕ
  rest seen = indices_from tnfa unit seen (suc index) (drop (index + 1) reaches)

  next_is : index + 1 ≡ suc index
  next_is = omega arith

  -- what is left, by what the step is
  left_by : (o : Option Place) → behind ≡ o → front ++ index_if (option_map (step_by reach) o) seen index rest ≡ whole
  left_by o e =
      ap (λ s. front ++ index_if s seen index rest) (sym (on ∙ ap (λ o. option_map (step_by reach) o) e))
      ∙ ap (λ l. front ++ indices_from tnfa unit seen index l)
      (sym (drop_more reaches index reach within ∙ ap (λ r. r ∷ drop (index + 1) reaches) (sym is)))
      ∙ before

  pub indices-taken : (to : Place) (new : List Place) (fresh : Bool) → behind ≡ Some to
      → MatchBool fresh (¬ Contains seen to × (new ≡ seen ++ to ∷ [])) (Contains seen to × (new ≡ seen)) → fresh ≡ true
      → (front ++ index ∷ []) ++ indices_from tnfa unit new (index + 1) (drop (index + 1) reaches) ≡ whole
  indices-taken to new false e added fresh = absurd (false≢true fresh)
  indices-taken to new true e added fresh =
      ap (λ n. (front ++ index ∷ []) ++ indices_from tnfa unit new n (drop (index + 1) reaches)) next_is
      ∙ append_assoc front (index ∷ []) (rest new)
      ∙ ap (λ s. front ++ index ∷ rest s) added.1
      ∙ ap (λ l. front ++ index ∷ l)
      (indices-same tnfa unit (seen ++ to ∷ []) (to ∷ seen) (is_among-behind seen to) (suc index) (drop (index + 1) reaches))
      ∙ ap (λ b. front ++ (if b then rest seen else index ∷ rest (to ∷ seen))) (sym (not_among seen to added.0))
      ∙ left_by (Some to) e

  pub indices-seen : (to : Place) (new : List Place) (fresh : Bool) → behind ≡ Some to
      → MatchBool fresh (¬ Contains seen to × (new ≡ seen ++ to ∷ [])) (Contains seen to × (new ≡ seen)) → fresh ≡ false
      → front ++ indices_from tnfa unit new (index + 1) (drop (index + 1) reaches) ≡ whole
  indices-seen to new true e added fresh = absurd (false≢true (sym fresh))
  indices-seen to new false e added fresh =
      ap (λ n. front ++ indices_from tnfa unit new n (drop (index + 1) reaches)) next_is
      ∙ ap (λ s. front ++ rest s) added.1
      ∙ ap (λ b. front ++ (if b then rest seen else index ∷ rest (to ∷ seen))) (sym (contains-is_among seen to added.0))
      ∙ left_by (Some to) e

  pub indices-left : behind ≡ None → front ++ indices_from tnfa unit seen (index + 1) (drop (index + 1) reaches) ≡ whole
  indices-left e = ap (λ n. front ++ indices_from tnfa unit seen n (drop (index + 1) reaches)) next_is ∙ left_by None e
