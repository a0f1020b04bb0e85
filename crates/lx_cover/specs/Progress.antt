-- How far a search for covering words has come.
use Rattle.std.specs.Prelude.{◌≡◌, ◌≢◌, ℕ, suc, ◌+◌, ◌-◌, ◌<◌, ◌≤◌, List, [], ◌∷◌, ◌++◌, length, sum_by, AllPairs, Contains, Option, Some, None, slice_get, slice_index_or}
use Rattle.lx_base.specs.Spelling.{greatest_unit}
use Rattle.lx_base.specs.declared.settings.Enc.{Enc}
use Rattle.lx_regex.specs.ClassLimits.{AllClassesFit}
use Rattle.lx_regex.specs.Kernel.{IsWord}
use Rattle.lx_regex.specs.Pattern.{Pattern, terms_of}
use Rattle.lx_regex.specs.Term.{Term}
use Rattle.lx_tdfa.specs.Making.{Adds}
use Rattle.lx_tdfa.specs.WordLists.{IsListOf, kernel_behind}
use Rattle.lx_tdfa.specs.Words.{ComesBefore, IsNoLater}
use Rattle.lx_tnfa.specs.Tnfa.{IsTnfaOf, Tnfa}
use Rattle.lx_tnfa.specs.declared.places.Place.{Place}
use Rattle.lx_cover.specs.Cover.{IsCovering, StopsCover}
use Rattle.lx_cover.specs.declared.covering.CoverStop.{CoverStop}
use Rattle.lx_cover.specs.declared.covering.CoverStop.TheVariants.{Memory, TooLong}
use Rattle.lx_cover.specs.declared.covering.Covering.{Covering}
use Rattle.lx_cover.specs.declared.covering.TheConstants.{COVER_LIMIT}

-- the sum is that of the words' lengths, and not over the limit
pub record IsCounted (covering : Covering) : Type 0 where
  pub sum : covering.sum ≡ sum_by length covering.words
  pub within : covering.sum ≤ COVER_LIMIT

-- with this word there would be too many units, unless memory ran out
abbrev pub IsOver : (words : List (List ℕ)) → (last : List ℕ) → CoverStop → Type 0
IsOver words last Memory = Unit {0}
IsOver words last (TooLong sum) =
    (sum_by length words ≤ COVER_LIMIT) × (COVER_LIMIT < sum) × (sum ≡ sum_by length (words ++ last ∷ []))

-- the covering words that come before a word, in their order
pub record AreCoveringBefore (enc : Enc) (rules : List Term) (words : List (List ℕ)) (limit : List ℕ) : Type 0 where
  pub sound : (word : List ℕ) → Contains words word → IsCovering enc rules word × ComesBefore word limit
  pub every : (word : List ℕ) → IsCovering enc rules word → ComesBefore word limit → Contains words word
  pub order : AllPairs ComesBefore words

-- these are the least words of so many kernels, in their order: of those that words have which come before a word
pub record AreKernelsBefore (enc : Enc) (rules : List Term) (kernel : List ℕ → Option (List ℕ)) (count : ℕ) (least : ℕ → List ℕ) (limit : List ℕ) : Type 0 where
  pub units : (number : ℕ) → number < count → IsWord enc rules (least number)
  pub begins : (number : ℕ) → number < count → kernel (least number) ≢ Some []
  pub before : (number : ℕ) → number < count → ComesBefore (least number) limit
  pub order : (number other : ℕ) → number < other → other < count → ComesBefore (least number) (least other)
  pub first : (number : ℕ) (word : List ℕ) → number < count → IsWord enc rules word → kernel word ≡ kernel (least number)
      → IsNoLater (least number) word
  pub every : (word : List ℕ) → IsWord enc rules word → (kernel word ≢ Some []) → ComesBefore word limit
      → (number : ℕ) × (number < count) × (kernel word ≡ kernel (least number)) × IsNoLater (least number) word

-- the least word of the kernel with a number
abbrev pub least_word : Covering → (number : ℕ) → List ℕ
least_word covering number = slice_index_or covering.words (slice_index_or covering.firsts.items number 0) []

-- all that comes before a word was found
pub record HasCome (enc : Enc) (rules : List Term) (tnfa : Tnfa) (covering : Covering) (limit : List ℕ) : Type 0 where
  pub words : AreCoveringBefore enc rules covering.words limit
  pub kernels : AreKernelsBefore enc rules (kernel_behind tnfa rules) (length covering.kernels) (least_word covering) limit
  pub lists : (number : ℕ) (list : List Place) → slice_get covering.kernels number ≡ Some list → IsListOf tnfa rules (least_word covering number) list
  pub apart : AllPairs (λ list other. list ≢ other) covering.kernels
  pub counts : length covering.firsts.items ≡ length covering.kernels
  pub within : (number : ℕ) → number < length covering.kernels → slice_index_or covering.firsts.items number 0 < length covering.words

-- it holds of each rule list of which this is the automaton
abbrev pub OfRules : Tnfa → (Enc → List Term → Type 0) → Type 0
OfRules tnfa Holds =
    (enc : Enc) (patterns : List Pattern) → IsTnfaOf enc patterns tnfa → AllClassesFit enc (terms_of patterns) → Holds enc (terms_of patterns)

-- all before the first unit of a kernel was found, and all up to its last one
abbrev pub HasComeTo : Tnfa → Covering → (number : ℕ) → Type 0
HasComeTo tnfa covering number =
    OfRules tnfa (λ enc rules. HasCome enc rules tnfa covering (least_word covering number ++ 0 ∷ []))

abbrev pub HasPassed : Tnfa → Covering → (number : ℕ) → Type 0
HasPassed tnfa covering number =
    OfRules tnfa (λ enc rules. HasCome enc rules tnfa covering (least_word covering number ++ (greatest_unit enc + 1) ∷ []))

-- the list to which steps lead has a number, and is new or was there; or it has no places
abbrev pub IsTarget : (old : List (List Place)) → List Place → (new : List (List Place)) → Option ℕ → Type 0
IsTarget old list new None = (list ≡ []) × (new ≡ old)
IsTarget old list new (Some number) = (list ≢ []) × (slice_get new number ≡ Some list) × Adds old list new

-- the kernel of a word has a number, or the word begins no match
abbrev pub LeadsTo : Tnfa → List Term → (kernels : List (List Place)) → (word : List ℕ) → Option ℕ → Type 0
LeadsTo tnfa rules kernels word None = kernel_behind tnfa rules word ≡ Some []
LeadsTo tnfa rules kernels word (Some number) =
    (list : List Place) × (slice_get kernels number ≡ Some list) × (list ≢ []) × IsListOf tnfa rules word list

-- the unit before this one, if there is one, leads there
abbrev pub HasLed : Tnfa → (kernels : List (List Place)) → (front : List ℕ) → (unit : ℕ) → Option ℕ → Type 0
HasLed tnfa kernels front unit last =
    OfRules tnfa (λ enc rules. (before : ℕ) → unit ≡ suc before → LeadsTo tnfa rules kernels (front ++ before ∷ []) last)

-- kernels stay, and their least words too
pub record Keeps (old new : Covering) : Type 0 where
  pub count : length old.kernels ≤ length new.kernels
  pub lists : (number : ℕ) → number < length old.kernels → slice_get new.kernels number ≡ slice_get old.kernels number
  pub words : (number : ℕ) → number < length old.kernels → least_word new number ≡ least_word old number
  pub sum : old.sum ≤ new.sum

-- the last word is that of the last kernel, where there are more kernels than so many
pub record Notes (known : ℕ) (old new : Covering) : Type 0 where
  pub words : new.words ≡ old.words
  pub sum : new.sum ≡ old.sum
  pub kernels : new.kernels ≡ old.kernels
  pub stay : length old.kernels ≤ known → new.firsts.items ≡ old.firsts.items
  pub grow : known < length old.kernels → new.firsts.items ≡ old.firsts.items ++ (length old.words - 1) ∷ []

-- it stops for each rule list
abbrev pub Stops : Tnfa → CoverStop → Type 0
Stops tnfa stop = OfRules tnfa (λ enc rules. StopsCover enc rules stop)
