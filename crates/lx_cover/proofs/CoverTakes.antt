-- What taking units out of a kernel gives, for each rule list.
use Rattle.std.proofs.Common.{◌≡◌, ◌≢◌, ◌⊎◌, inl, inr, ℕ, suc, ◌+◌, ◌-◌, ◌<◌, ◌≤◌, List, [], ◌∷◌, ◌++◌, length, get_or, Option, Some, None, sym, ap, ◌∙◌, subst, arith}
use Rattle.std.proofs.lemmas.Bool.{cases_lt}
use Rattle.std.proofs.lemmas.List.{get_or_append_left, length_push}
use Rattle.std.proofs.lemmas.List.Sums.{sum_by_push}
use Rattle.std.proofs.lemmas.Option.{slice_get-get_or}
use Rattle.std.specs.Prelude.{slice_get, sum_by}
use Rattle.lx_base.specs.Spelling.{greatest_unit}
use Rattle.lx_base.specs.declared.settings.Enc.{Enc}
use Rattle.lx_regex.specs.ClassLimits.{AllClassesFit}
use Rattle.lx_regex.specs.Pattern.{Pattern, patterns_of, terms_of}
use Rattle.lx_tnfa.proofs.Construction.ApartNumbers.{numbers_apart}
use Rattle.lx_tnfa.specs.Closure.{IsClosureOf}
use Rattle.lx_tnfa.specs.RuleNumbers.{HaveApartNumbers}
use Rattle.lx_tnfa.specs.Tnfa.{IsTnfaOf, Tnfa}
use Rattle.lx_tnfa.specs.declared.closure.Reach.{Reach}
use Rattle.lx_tnfa.specs.declared.places.Place.{Place}
use Rattle.lx_tdfa.proofs.Walks.ListReads.{slice_get-front}
use Rattle.lx_tdfa.specs.Building.{IsBuilt}
use Rattle.lx_tdfa.specs.Making.{Adds}
use Rattle.lx_tdfa.specs.Steps.{next_steps, places_of}
use Rattle.lx_cover.proofs.CoverSteps.{came-kept, came-pushed, came-stops}
use Rattle.lx_cover.specs.Progress.{HasCome, HasLed, IsCounted, IsOver, IsTarget, Keeps, LeadsTo, Notes, OfRules, Stops, least_word}
use Rattle.lx_cover.specs.declared.covering.CoverStop.{CoverStop}
use Rattle.lx_cover.specs.declared.covering.Covering.{Covering}

-- the rules of an automaton that was built have different numbers
pub rules-apart : (tnfa : Tnfa) → IsBuilt tnfa → HaveApartNumbers tnfa.rules
rules-apart tnfa built = subst HaveApartNumbers (sym built.4.rules) (numbers_apart built.1 built.2.numbers)

-- a kernel with its closure, and its least word
abbrev pub IsAtKernel : Tnfa → Covering → List Reach → (front : List ℕ) → Type 0
IsAtKernel tnfa old reaches front =
    (number : ℕ) × (list : List Place) × (number < length old.kernels) × (slice_get old.kernels number ≡ Some list)
    × IsClosureOf tnfa list reaches × (front ≡ least_word old number)

module _ (tnfa : Tnfa) (built : IsBuilt tnfa) (old : Covering) (reaches : List Reach) (front : List ℕ) (at : IsAtKernel tnfa old reaches front)
    (unit : ℕ) (low : unit ≤ greatest_unit tnfa.enc) (come : OfRules tnfa (λ enc rules. HasCome enc rules tnfa old (front ++ unit ∷ [])))
    (last : Option ℕ) (led : HasLed tnfa old.kernels front unit last) (kernels : List (List Place)) (to : Option ℕ)
    (target : IsTarget old.kernels (places_of (next_steps tnfa unit reaches)) kernels to) where
  low-in : (enc : Enc) (patterns : List Pattern) → IsTnfaOf enc patterns tnfa → unit ≤ greatest_unit enc
  low-in enc patterns of = subst (λ e. unit ≤ greatest_unit e) of.enc low

  some-come : HasCome built.0 (terms_of (patterns_of built.1)) tnfa old (front ++ unit ∷ [])
  some-come = come built.0 (patterns_of built.1) built.4 built.3

  -- all units up to this one lead alike
  abbrev pub AreAlike : (hi : ℕ) → Type 0
  AreAlike hi = (other : ℕ) → unit ≤ other → other ≤ hi → next_steps tnfa other reaches ≡ next_steps tnfa unit reaches

  abbrev pub Goes : Covering → (hi : ℕ) → Type 0
  Goes new hi = OfRules tnfa (λ enc rules. HasCome enc rules tnfa new (front ++ (hi + 1) ∷ [])) × HasLed tnfa new.kernels front (hi + 1) to

  pub take-kept : (new : Covering) → new.kernels ≡ kernels → new.words ≡ old.words → new.firsts.items ≡ old.firsts.items → 0 < unit → to ≡ last
      → (hi : ℕ) → unit ≤ hi → AreAlike hi → Goes new hi
  take-kept new are words firsts more same hi most alike = (
    (λ enc patterns of fits. (came enc patterns of fits).0),
    (λ enc patterns of fits. (came enc patterns of fits).1),
  )
    where
      came : (enc : Enc) (patterns : List Pattern) (of : IsTnfaOf enc patterns tnfa) (fits : AllClassesFit enc (terms_of patterns))
          → HasCome enc (terms_of patterns) tnfa new (front ++ (hi + 1) ∷ [])
          × ((before : ℕ) → hi + 1 ≡ suc before → LeadsTo tnfa (terms_of patterns) new.kernels (front ++ before ∷ []) to)
      came enc patterns of fits =
          came-kept enc patterns tnfa of fits (rules-apart tnfa built) old at.0 at.1 at.2 at.3 reaches at.4 front at.5 unit hi
          (low-in enc patterns of) most alike (come enc patterns of fits) kernels to target new are last (led enc patterns of fits) more same words
          firsts

  pub take-pushed : (new : Covering) → new.kernels ≡ kernels → new.words ≡ old.words ++ (front ++ unit ∷ []) ∷ [] → (unit ≡ 0) ⊎ (to ≢ last)
      → (length kernels ≤ length old.kernels → new.firsts.items ≡ old.firsts.items)
      → (length old.kernels < length kernels → new.firsts.items ≡ old.firsts.items ++ length old.words ∷ [])
      → (hi : ℕ) → unit ≤ hi → AreAlike hi → Goes new hi
  take-pushed new are words why stay grow hi most alike = (
    (λ enc patterns of fits. (came enc patterns of fits).0),
    (λ enc patterns of fits. (came enc patterns of fits).1),
  )
    where
      came : (enc : Enc) (patterns : List Pattern) (of : IsTnfaOf enc patterns tnfa) (fits : AllClassesFit enc (terms_of patterns))
          → HasCome enc (terms_of patterns) tnfa new (front ++ (hi + 1) ∷ [])
          × ((before : ℕ) → hi + 1 ≡ suc before → LeadsTo tnfa (terms_of patterns) new.kernels (front ++ before ∷ []) to)
      came enc patterns of fits =
          came-pushed enc patterns tnfa of fits (rules-apart tnfa built) old at.0 at.1 at.2 at.3 reaches at.4 front at.5 unit hi
          (low-in enc patterns of) most alike (come enc patterns of fits) kernels to target new are last (led enc patterns of fits) why words stay grow

  pub take-stops : (unit ≡ 0) ⊎ (to ≢ last) → (stop : CoverStop) → IsOver old.words (front ++ unit ∷ []) stop → Stops tnfa stop
  take-stops why stop over enc patterns of fits =
      came-stops enc patterns tnfa of fits (rules-apart tnfa built) old at.0 at.1 at.2 at.3 reaches at.4 front at.5 unit unit
      (low-in enc patterns of) (omega arith) (λ other from below. alone other from below) (come enc patterns of fits) kernels to target last
      (led enc patterns of fits) why stop over
    where
      alone : (other : ℕ) → unit ≤ other → other ≤ unit → next_steps tnfa other reaches ≡ next_steps tnfa unit reaches
      alone other from below = let same : other ≡ unit = omega arith in ap (λ u. next_steps tnfa u reaches) same

  -- kernels stay as they are
  kernels-kept : (number : ℕ) → number < length old.kernels → slice_get kernels number ≡ slice_get old.kernels number
  kernels-kept number lt = by to target
    where
      there : slice_get old.kernels number ≡ Some (get_or old.kernels number [])
      there = slice_get-get_or old.kernels number [] lt

      adds : Adds old.kernels (places_of (next_steps tnfa unit reaches)) kernels → slice_get kernels number ≡ slice_get old.kernels number
      adds (inl same) = ap (λ l. slice_get l number) same.0
      adds (inr (added, absent)) =
          ap (λ l. slice_get l number) added
          ∙ slice_get-front old.kernels (places_of (next_steps tnfa unit reaches) ∷ []) number (get_or old.kernels number []) there ∙ sym there

      by : (to : Option ℕ) → IsTarget old.kernels (places_of (next_steps tnfa unit reaches)) kernels to
          → slice_get kernels number ≡ slice_get old.kernels number
      by None target = ap (λ l. slice_get l number) target.1
      by (Some own) target = adds target.2

  kernels-long : length old.kernels ≤ length kernels
  kernels-long = by to target
    where
      adds : Adds old.kernels (places_of (next_steps tnfa unit reaches)) kernels → length old.kernels ≤ length kernels
      adds (inl same) = let equal = ap length same.0 in omega (arith, equal)
      adds (inr (added, absent)) =
          let more = length_push old.kernels (places_of (next_steps tnfa unit reaches)) in let total = ap length added in omega (arith, more, total)

      by : (to : Option ℕ) → IsTarget old.kernels (places_of (next_steps tnfa unit reaches)) kernels to → length old.kernels ≤ length kernels
      by None target = let equal = ap length target.1 in omega (arith, equal)
      by (Some own) target = adds target.2

  pub keeps-kept : (new : Covering) → new.kernels ≡ kernels → new.words ≡ old.words → new.firsts.items ≡ old.firsts.items → new.sum ≡ old.sum
      → Keeps old new
  keeps-kept new are words firsts sum = record {
    count = let long = kernels-long in let total = ap length are in omega (arith, long, total);
    lists = λ number lt. ap (λ l. slice_get l number) are ∙ kernels-kept number lt;
    words = λ number lt.
        ap (λ n. get_or new.words n []) (ap (λ l. get_or l number 0) firsts) ∙ ap (λ l. get_or l (get_or old.firsts.items number 0) []) words;
    sum = omega (arith, sum);
  }

  pub keeps-pushed : (new : Covering) → new.kernels ≡ kernels → new.words ≡ old.words ++ (front ++ unit ∷ []) ∷ []
      → (length kernels ≤ length old.kernels → new.firsts.items ≡ old.firsts.items)
      → (length old.kernels < length kernels → new.firsts.items ≡ old.firsts.items ++ length old.words ∷ [])
      → old.sum ≤ new.sum → Keeps old new
  keeps-pushed new are words stay grow sum = record {
    count = let long = kernels-long in let total = ap length are in omega (arith, long, total);
    lists = λ number lt. ap (λ l. slice_get l number) are ∙ kernels-kept number lt;
    words = λ number lt.
        ap (λ n. get_or new.words n []) (first number lt)
        ∙ ap (λ l. get_or l (get_or old.firsts.items number 0) []) words
        ∙ get_or_append_left old.words ((front ++ unit ∷ []) ∷ []) [] (get_or old.firsts.items number 0) (some-come.within number lt);
    sum = sum;
  }
    where
      first : (number : ℕ) → number < length old.kernels → get_or new.firsts.items number 0 ≡ get_or old.firsts.items number 0
      first number lt = elim (cases_lt (length old.kernels) (length kernels)) [
        | inl more ↦
            ap (λ l. get_or l number 0) (grow more)
            ∙ get_or_append_left old.firsts.items (length old.words ∷ []) 0 number (let counts = some-come.counts in omega (arith, lt, counts))
        | inr most ↦ ap (λ l. get_or l number 0) (stay most)
      ]

  -- ---- the answer of a call

  abbrev pub IsTaken : Covering → Type 0
  IsTaken new =
      Keeps old new × IsCounted new × (unit ≡ 0 → old.sum < new.sum) × ((hi : ℕ) → unit ≤ hi → AreAlike hi → Goes new hi)

  -- the run goes on
  pub taken-kept : (new : Covering) → new.kernels ≡ kernels → new.words ≡ old.words → new.firsts.items ≡ old.firsts.items → new.sum ≡ old.sum
      → IsCounted old → (0 < unit) × (to ≡ last) → IsTaken new
  taken-kept new are words firsts sum counted goes_on = (
    keeps-kept new are words firsts sum,
    record { sum = sum ∙ counted.sum ∙ ap (λ (l : List (List ℕ)). sum_by length l) (sym words); within = subst (λ n. n ≤ 1048576) (sym sum) counted.within },
    (λ zero. let more : 0 < unit = goes_on.0 in absurd (omega (arith, zero))),
    (λ hi most alike. take-kept new are words firsts goes_on.0 goes_on.1 hi most alike),
  )

  -- a run begins
  module _ (pushed new : Covering) (known : ℕ) (known_is : known ≡ length old.kernels) (are : pushed.kernels ≡ kernels)
      (firsts : pushed.firsts.items ≡ old.firsts.items) (words : pushed.words ≡ old.words ++ (front ++ unit ∷ []) ∷ []) (counted_old : IsCounted old)
      (counted : IsCounted pushed) (notes : Notes known pushed new) where
    new-kernels : new.kernels ≡ kernels
    new-kernels = notes.kernels ∙ are

    new-words : new.words ≡ old.words ++ (front ++ unit ∷ []) ∷ []
    new-words = notes.words ∙ words

    long : length pushed.words ≡ length old.words + 1
    long = let more = length_push old.words (front ++ unit ∷ []) in let total = ap length words in omega (arith, more, total)

    count : length pushed.kernels ≡ length kernels
    count = ap length are

    stay : length kernels ≤ length old.kernels → new.firsts.items ≡ old.firsts.items
    stay few = notes.stay (omega (arith, few, count, known_is)) ∙ firsts

    grow : length old.kernels < length kernels → new.firsts.items ≡ old.firsts.items ++ length old.words ∷ []
    grow many =
        let last_one : length pushed.words - 1 ≡ length old.words = omega (arith, long) in
        notes.grow (omega (arith, many, count, known_is)) ∙ ap (λ l. l ++ (length pushed.words - 1) ∷ []) firsts
        ∙ ap (λ n. old.firsts.items ++ n ∷ []) last_one

    more-units : old.sum < new.sum
    more-units =
        let total : sum_by length pushed.words ≡ sum_by length (old.words ++ (front ++ unit ∷ []) ∷ []) = ap (λ (l : List (List ℕ)). sum_by length l) words in
        let pushes : sum_by length (old.words ++ (front ++ unit ∷ []) ∷ []) ≡ sum_by length old.words + length (front ++ unit ∷ []) =
        sum_by_push {X = List ℕ} length old.words (front ++ unit ∷ []) in
        let one = length_push front unit in
        omega (arith, total, pushes, one, counted_old.sum, counted.sum, notes.sum)

    pub taken-pushed : (unit ≡ 0) ⊎ (to ≢ last) → IsTaken new
    taken-pushed why = (
      keeps-pushed new new-kernels new-words stay grow (let more = more-units in omega (arith, more)),
      record {
        sum = notes.sum ∙ counted.sum ∙ ap (λ (l : List (List ℕ)). sum_by length l) (sym notes.words);
        within = subst (λ n. n ≤ 1048576) (sym notes.sum) counted.within;
      },
      (λ zero. more-units),
      (λ hi most alike. take-pushed new new-kernels new-words why stay grow hi most alike),
    )
