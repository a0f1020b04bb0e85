-- How far a kernel is passed, range by range; and how the next one begins.
use Rattle.std.proofs.Common.{◌≡◌, inl, inr, ℕ, zero, suc, ◌+◌, ◌<◌, ◌≤◌, List, [], ◌∷◌, ◌++◌, length, get_or, Option, Some, None, true, false, refl, sym, ap, ◌∙◌, subst, arith}
use Rattle.std.proofs.lemmas.Bool.{cases_lt}
use Rattle.std.proofs.lemmas.List.{get_or_default}
use Rattle.std.proofs.lemmas.Option.{get_or_from_slice_get}
use Rattle.std.specs.Prelude.{All, MatchOption, is_some, slice_get}
use Rattle.lx_base.specs.Spelling.{greatest_unit}
use Rattle.lx_base.specs.declared.settings.Enc.{Enc}
use Rattle.lx_regex.specs.Pattern.{patterns_of, terms_of}
use Rattle.lx_regex.specs.Term.{Term}
use Rattle.lx_tnfa.specs.Tnfa.{IsPlace, Tnfa}
use Rattle.lx_tnfa.specs.declared.closure.Reach.{Reach}
use Rattle.lx_tnfa.specs.declared.places.Place.{Place}
use Rattle.lx_tdfa.proofs.Loops.CutUnits.{IsAtCut, cut-bound, cut-steps, cuts-all, cuts-empty, cuts-next, cuts-start}
use Rattle.lx_tdfa.proofs.WordKernels.KernelBehind.{kernel_behind-tells, list-places}
use Rattle.lx_tdfa.specs.Building.{IsBuilt}
use Rattle.lx_tdfa.specs.Edges.{CutSteps, IsAscending, IsRangeEmpty, IsRangeEnd}
use Rattle.lx_tdfa.specs.Steps.{next_steps, start_place}
use Rattle.lx_tdfa.specs.WordLists.{IsListOf, kernel_behind}
use Rattle.lx_cover.proofs.CoverTakes.{IsAtKernel, rules-apart}
use Rattle.lx_cover.proofs.CoveringWords.{covering-all, covering-next, covering-start}
use Rattle.lx_cover.proofs.KernelSteps.{kernels-next, kernels-start}
use Rattle.lx_cover.specs.Cover.{IsCover}
use Rattle.lx_cover.specs.Progress.{AreCoveringBefore, AreKernelsBefore, HasCome, HasComeTo, HasLed, HasPassed, IsCounted, Keeps, OfRules, least_word}
use Rattle.lx_cover.specs.declared.covering.Covering.{Covering}

pub keeps-itself : (covering : Covering) → Keeps covering covering
keeps-itself covering = record { count = omega arith; lists = λ number lt. refl; words = λ number lt. refl; sum = omega arith }

pub keeps-more : (start old new : Covering) → Keeps start old → Keeps old new → Keeps start new
keeps-more start old new one two =
    let first : length start.kernels ≤ length old.kernels = one.count in
    let second : length old.kernels ≤ length new.kernels = two.count in
    let low : start.sum ≤ old.sum = one.sum in
    let high : old.sum ≤ new.sum = two.sum in
    record {
      count = omega arith;
      lists = λ number lt. two.lists number (omega arith) ∙ one.lists number lt;
      words = λ number lt. two.words number (omega arith) ∙ one.words number lt;
      sum = omega arith;
    }

-- ---- the ranges of a kernel

-- a range that ends, and one that does not
pub some-range : (cuts : List ℕ) (index greatest : ℕ) (range : Option ℕ) (slice : List ℕ) (most : ℕ) → slice ≡ cuts → most ≡ greatest
    → is_some range ≡ true → MatchOption range (IsRangeEmpty slice index most) (IsRangeEnd slice index most)
    → (hi : ℕ) × IsRangeEnd cuts index greatest hi
some-range cuts index greatest None slice most same also is told = absurd (cc is)
some-range cuts index greatest (Some hi) slice most same also is told =
    (hi, subst (λ n. IsRangeEnd cuts index n hi) also (subst (λ l. IsRangeEnd l index most hi) same told))

pub none-range : (cuts : List ℕ) (index greatest : ℕ) (range : Option ℕ) (slice : List ℕ) (most : ℕ) → slice ≡ cuts → most ≡ greatest
    → is_some range ≡ false → MatchOption range (IsRangeEmpty slice index most) (IsRangeEnd slice index most) → IsRangeEmpty cuts index greatest
none-range cuts index greatest None slice most same also is told =
    subst (λ n. IsRangeEmpty cuts index n) also (subst (λ l. IsRangeEmpty l index most) same told)
none-range cuts index greatest (Some hi) slice most same also is told = absurd (cc is)

module _ (tnfa : Tnfa) (start : Covering) (front : List ℕ) (cuts : List ℕ) where
  -- so many ranges are passed, up to a unit, which leads there
  pub record IsPassing (covering : Covering) (index : ℕ) (last : Option ℕ) : Type 0 where
    pub bound : ℕ
    pub at : IsAtCut (slice_get cuts index) (greatest_unit tnfa.enc) bound
    pub keeps : Keeps start covering
    pub counted : IsCounted covering
    pub grown : 0 < bound → start.sum < covering.sum
    pub come : OfRules tnfa (λ enc rules. HasCome enc rules tnfa covering (front ++ bound ∷ []))
    pub led : HasLed tnfa covering.kernels front bound last

  pub passing-start : (number : ℕ) → front ≡ least_word start number → slice_get cuts 0 ≡ Some 0 → IsCounted start → HasComeTo tnfa start number
      → IsPassing start 0 None
  passing-start number is first counted come = record {
    bound = 0;
    at = cuts-start cuts (greatest_unit tnfa.enc) first;
    keeps = keeps-itself start;
    counted = counted;
    grown = λ more. absurd (omega arith);
    come = λ enc patterns of fits.
        subst (λ w. HasCome enc (terms_of patterns) tnfa start (w ++ 0 ∷ [])) (sym is) (come enc patterns of fits);
    led = λ enc patterns of fits before is. absurd (omega arith);
  }

  module _ (ascending : IsAscending cuts) (covering : Covering) (index : ℕ) (last : Option ℕ) (passing : IsPassing covering index last) where
    pub passing-empty : IsRangeEmpty cuts index (greatest_unit tnfa.enc) → IsPassing covering (suc index) last
    passing-empty empty = record {
      bound = passing.bound;
      at = cuts-empty cuts ascending index (greatest_unit tnfa.enc) passing.bound passing.at empty;
      keeps = passing.keeps;
      counted = passing.counted;
      grown = passing.grown;
      come = passing.come;
      led = passing.led;
    }

    module _ (hi : ℕ) (range : IsRangeEnd cuts index (greatest_unit tnfa.enc) hi) where
      range-bound : range.cut ≡ passing.bound
      range-bound = cut-bound cuts ascending index (greatest_unit tnfa.enc) passing.bound passing.at hi range

      range-low : passing.bound ≤ greatest_unit tnfa.enc
      range-low =
          let is = range-bound in
          let low : range.cut ≤ hi = range.some in
          let high : hi ≤ greatest_unit tnfa.enc = range.within in
          omega (arith, is)

      -- the unit at its cut is the next one
      module _ (unit : ℕ) (told : unit ≡ get_or cuts index unit) where
        pub unit-is : unit ≡ passing.bound
        unit-is = told ∙ get_or_from_slice_get cuts index range.cut unit range.first ∙ range-bound

        pub unit-low : unit ≤ greatest_unit tnfa.enc
        unit-low = let is = unit-is in let low = range-low in omega (arith, is, low)

        pub unit-come : OfRules tnfa (λ enc rules. HasCome enc rules tnfa covering (front ++ unit ∷ []))
        unit-come enc patterns of fits =
            subst (λ n. HasCome enc (terms_of patterns) tnfa covering (front ++ n ∷ [])) (sym unit-is) (passing.come enc patterns of fits)

        pub unit-led : HasLed tnfa covering.kernels front unit last
        unit-led = subst (λ n. HasLed tnfa covering.kernels front n last) (sym unit-is) passing.led

      passing-range : (reaches : List Reach) → CutSteps tnfa reaches cuts → (new : Covering) (to : Option ℕ) → Keeps covering new → IsCounted new
          → (passing.bound ≡ 0 → covering.sum < new.sum)
          → ((hi : ℕ) → passing.bound ≤ hi
          → ((other : ℕ) → passing.bound ≤ other → other ≤ hi → next_steps tnfa other reaches ≡ next_steps tnfa passing.bound reaches)
          → OfRules tnfa (λ enc rules. HasCome enc rules tnfa new (front ++ (hi + 1) ∷ [])) × HasLed tnfa new.kernels front (hi + 1) to)
          → IsPassing new (suc index) to
      passing-range reaches separate new to keeps counted first goes =
          let is = range-bound in
          let low : range.cut ≤ hi = range.some in
          let gone = goes hi (omega (arith, is)) (alike is) in
          record {
            bound = hi + 1;
            at = cuts-next cuts ascending index (greatest_unit tnfa.enc) passing.bound passing.at hi range;
            keeps = keeps-more start covering new passing.keeps keeps;
            counted = counted;
            grown = λ more. sums;
            come = gone.0;
            led = gone.1;
          }
        where
          alike : range.cut ≡ passing.bound → (other : ℕ) → passing.bound ≤ other → other ≤ hi
              → next_steps tnfa other reaches ≡ next_steps tnfa passing.bound reaches
          alike is other from below =
              cut-steps cuts ascending index (greatest_unit tnfa.enc) passing.bound passing.at hi range tnfa reaches separate other (omega (arith, is)) below
              ∙ ap (λ u. next_steps tnfa u reaches) is

          sums : start.sum < new.sum
          sums = elim (cases_lt 0 passing.bound) [
            | inl more ↦
                let low : start.sum < covering.sum = passing.grown more in
                let high : covering.sum ≤ new.sum = keeps.sum in
                omega arith
            | inr none ↦
                let low : start.sum ≤ covering.sum = passing.keeps.sum in
                let high : covering.sum < new.sum = first (omega arith) in
                omega arith
          ]

      pub passing-unit : (unit : ℕ) → unit ≡ passing.bound → (reaches : List Reach) → CutSteps tnfa reaches cuts → (new : Covering) (to : Option ℕ)
          → Keeps covering new → IsCounted new → (unit ≡ 0 → covering.sum < new.sum)
          → ((hi : ℕ) → unit ≤ hi
          → ((other : ℕ) → unit ≤ other → other ≤ hi → next_steps tnfa other reaches ≡ next_steps tnfa unit reaches)
          → OfRules tnfa (λ enc rules. HasCome enc rules tnfa new (front ++ (hi + 1) ∷ [])) × HasLed tnfa new.kernels front (hi + 1) to)
          → IsPassing new (suc index) to
      passing-unit unit is reaches separate new to keeps counted first goes =
          passing-range reaches separate new to keeps counted (λ none. first (is ∙ none))
          (subst
          (λ unit. (hi : ℕ) → unit ≤ hi
          → ((other : ℕ) → unit ≤ other → other ≤ hi → next_steps tnfa other reaches ≡ next_steps tnfa unit reaches)
          → OfRules tnfa (λ enc rules. HasCome enc rules tnfa new (front ++ (hi + 1) ∷ [])) × HasLed tnfa new.kernels front (hi + 1) to) is goes)

    -- where no cut is left
    pub passing-all : length cuts ≤ index → (number : ℕ) → number < length start.kernels → front ≡ least_word start number
        → Keeps start covering × IsCounted covering × (start.sum < covering.sum) × HasPassed tnfa covering number
    passing-all all number lt front_is =
        let is = cuts-all cuts index (greatest_unit tnfa.enc) passing.bound all passing.at in (
          passing.keeps,
          passing.counted,
          passing.grown (omega (arith, is)),
          λ enc patterns of fits.
              subst (λ w. HasCome enc (terms_of patterns) tnfa covering (w ++ (greatest_unit enc + 1) ∷ []))
              (front_is ∙ sym (passing.keeps.words number lt))
              (subst (λ e. HasCome enc (terms_of patterns) tnfa covering (front ++ (greatest_unit e + 1) ∷ [])) of.enc
              (subst (λ n. HasCome enc (terms_of patterns) tnfa covering (front ++ n ∷ [])) is (passing.come enc patterns of fits))),
        )

-- the kernel that is passed stays where it is
pub at-kernel : (tnfa : Tnfa) (start covering : Covering) (reaches : List Reach) (front : List ℕ) → IsAtKernel tnfa start reaches front
    → Keeps start covering → IsAtKernel tnfa covering reaches front
at-kernel tnfa start covering reaches front (number, list, lt, here, closure, is) keeps =
    let long : length start.kernels ≤ length covering.kernels = keeps.count in
    (number, list, omega arith, keeps.lists number lt ∙ here, closure, is ∙ sym (keeps.words number lt))

-- its places are places
pub kernel-places : (tnfa : Tnfa) → IsBuilt tnfa → (covering : Covering) (limit : List ℕ)
    → OfRules tnfa (λ enc rules. HasCome enc rules tnfa covering limit) → (number : ℕ) (list : List Place) → slice_get covering.kernels number ≡ Some list
    → All (IsPlace tnfa) list
kernel-places tnfa built covering limit come number list here =
    list-places built.0 (patterns_of built.1) tnfa built.4 built.3 (rules-apart tnfa built) (least_word covering number) list
    ((come built.0 (patterns_of built.1) built.4 built.3).lists number list here)

-- its least word stands among the words
pub first-within : (tnfa : Tnfa) → IsBuilt tnfa → (covering : Covering) (number : ℕ) → number < length covering.kernels → HasComeTo tnfa covering number
    → get_or covering.firsts.items number 0 < length covering.words
first-within tnfa built covering number lt come = (come built.0 (patterns_of built.1) built.4 built.3).within number lt

pub first-is : (tnfa : Tnfa) → IsBuilt tnfa → (covering : Covering) (number : ℕ) → number < length covering.kernels → HasComeTo tnfa covering number
    → (first : ℕ) → first ≡ get_or covering.firsts.items number first → first ≡ get_or covering.firsts.items number 0
first-is tnfa built covering number lt come first told =
    let counts = (come built.0 (patterns_of built.1) built.4 built.3).counts in
    told ∙ get_or_default covering.firsts.items number first 0 (omega (arith, counts, lt))

pub front-is : (tnfa : Tnfa) → IsBuilt tnfa → (covering : Covering) (number : ℕ) → number < length covering.kernels → HasComeTo tnfa covering number
    → (first : ℕ) → first ≡ get_or covering.firsts.items number first → (words : List (List ℕ)) (word : List ℕ) → words ≡ covering.words
    → word ≡ get_or words first word → word ≡ least_word covering number
front-is tnfa built covering number lt come first told words word are is =
    let same = first-is tnfa built covering number lt come first told in
    let within = first-within tnfa built covering number lt come in
    is ∙ ap (λ l. get_or l first word) are ∙ get_or_default covering.words first word [] (omega (arith, within, same))
    ∙ ap (λ n. get_or covering.words n []) same

-- ---- kernel by kernel

-- how far all kernels before this one are passed
abbrev pub limit_at : Covering → Enc → (number : ℕ) → List ℕ
limit_at covering enc zero = 0 ∷ []
limit_at covering enc (suc number) = least_word covering number ++ (greatest_unit enc + 1) ∷ []

pub record IsCovered (tnfa : Tnfa) (covering : Covering) (number : ℕ) : Type 0 where
  pub counted : IsCounted covering
  pub some : 0 < length covering.kernels
  pub within : number ≤ length covering.kernels
  pub sum : number ≤ covering.sum
  pub first : least_word covering 0 ≡ []
  pub come : OfRules tnfa (λ enc rules. HasCome enc rules tnfa covering (limit_at covering enc number))

-- the next kernel begins where the one before it ends
pub begin-next : (tnfa : Tnfa) (covering : Covering) (number : ℕ) → IsCovered tnfa covering number → number < length covering.kernels
    → HasComeTo tnfa covering number
begin-next tnfa covering zero covered lt enc patterns of fits =
    subst (λ w. HasCome enc (terms_of patterns) tnfa covering (w ++ 0 ∷ [])) (sym covered.first) (covered.come enc patterns of fits)
begin-next tnfa covering (suc number) covered lt enc patterns of fits =
    let come = covered.come enc patterns of fits in
    let step : number + 1 ≡ suc number = omega arith in
    let tells = kernel_behind-tells enc patterns tnfa of fits in
    subst (λ n. HasCome enc (terms_of patterns) tnfa covering (least_word covering n ++ 0 ∷ [])) step
    (record {
      words =
          covering-next enc (terms_of patterns) (kernel_behind tnfa (terms_of patterns)) tells (length covering.kernels) (least_word covering) number
          (omega arith) covering.words come.kernels come.words (omega arith);
      kernels =
          kernels-next enc (terms_of patterns) (kernel_behind tnfa (terms_of patterns)) tells (length covering.kernels) (least_word covering) number
          (omega arith) come.kernels (omega arith);
      lists = come.lists;
      apart = come.apart;
      counts = come.counts;
      within = come.within;
    })

pub covered-next : (tnfa : Tnfa) (old new : Covering) (number : ℕ) → IsCovered tnfa old number → number < length old.kernels → Keeps old new
    → IsCounted new → old.sum < new.sum → HasPassed tnfa new number → IsCovered tnfa new (number + 1)
covered-next tnfa old new number covered lt keeps counted more passed =
    let long : length old.kernels ≤ length new.kernels = keeps.count in
    let some : 0 < length old.kernels = covered.some in
    let sum : number ≤ old.sum = covered.sum in
    record {
      counted = counted;
      some = omega arith;
      within = omega arith;
      sum = omega arith;
      first = keeps.words 0 some ∙ covered.first;
      come = λ enc patterns of fits.
          let step : suc number ≡ number + 1 = omega arith in
          subst (λ n. HasCome enc (terms_of patterns) tnfa new (limit_at new enc n)) step (passed enc patterns of fits);
    }

-- where all kernels are passed
pub covered-all : (tnfa : Tnfa) (covering : Covering) (number : ℕ) → IsCovered tnfa covering number → length covering.kernels ≤ number
    → OfRules tnfa (λ enc rules. IsCover enc rules covering.words)
covered-all tnfa covering zero covered all enc patterns of fits = let some = covered.some in absurd (omega (arith, some, all))
covered-all tnfa covering (suc number) covered all enc patterns of fits =
    let come = covered.come enc patterns of fits in
    let within : suc number ≤ length covering.kernels = covered.within in
    covering-all enc (terms_of patterns) (kernel_behind tnfa (terms_of patterns)) (kernel_behind-tells enc patterns tnfa of fits)
    (length covering.kernels) (least_word covering) number (omega arith) covering.words come.kernels come.words (omega arith)

-- the empty word alone
pub covered-start : (tnfa : Tnfa) (covering : Covering) → IsCounted covering → covering.words ≡ [] ∷ [] → covering.kernels ≡ (start_place ∷ []) ∷ []
    → covering.firsts.items ≡ 0 ∷ [] → IsCovered tnfa covering 0
covered-start tnfa covering counted words kernels firsts =
    let one : length covering.kernels ≡ 1 = ap length kernels in record {
      counted = counted;
      some = omega (arith, one);
      within = omega arith;
      sum = omega arith;
      first = empty;
      come = λ enc patterns of fits. record {
        words = subst (λ l. AreCoveringBefore enc (terms_of patterns) l (0 ∷ [])) (sym words) (covering-start enc (terms_of patterns) (kernel_behind tnfa (terms_of patterns)) (kernel_behind-tells enc patterns tnfa of fits));
        kernels =
            subst (λ n. AreKernelsBefore enc (terms_of patterns) (kernel_behind tnfa (terms_of patterns)) n (least_word covering) (0 ∷ [])) (sym one)
            (kernels-start enc (terms_of patterns) (kernel_behind tnfa (terms_of patterns)) (kernel_behind-tells enc patterns tnfa of fits) (least_word covering) empty);
        lists = λ number list here. only (terms_of patterns) number list (subst (λ l. slice_get l number ≡ Some list) kernels here);
        apart = λ i j d less within. absurd (omega (arith, one));
        counts = ap length firsts ∙ sym one;
        within = λ number lt.
            let first : get_or covering.firsts.items number 0 ≡ get_or {A = ℕ} (0 ∷ []) number 0 = ap (λ l. get_or l number 0) firsts in
            let long : length covering.words ≡ 1 = ap length words in
            let low = at-zero number in omega (arith, first, long, low);
      };
    }
  where
    empty : least_word covering 0 ≡ []
    empty = ap (λ n. get_or covering.words n []) (ap (λ l. get_or l 0 0) firsts) ∙ ap (λ l. get_or l 0 []) words

    at-zero : (number : ℕ) → get_or {A = ℕ} (0 ∷ []) number 0 ≡ 0
    at-zero zero = refl
    at-zero (suc number) = refl

    only : (rules : List Term) (number : ℕ) (list : List Place) → slice_get ((start_place ∷ []) ∷ []) number ≡ Some list
        → IsListOf tnfa rules (least_word covering number) list
    only rules zero list here =
        let same : start_place ∷ [] ≡ list = cc in
        subst (λ w. IsListOf tnfa rules w list) (sym empty) (sym same)
    only rules (suc number) list here = cc
