-- The covering words of a rule list: what is to be read so that each kernel is entered, and left on each longest run of units.
use Rattle.std.specs.Prelude.{◌≡◌, ℕ, suc, ◌<◌, ◌≤◌, ◌⊎◌, List, [], ◌∷◌, ◌++◌, length, sum_by, AllPairs, Contains}
use Rattle.lx_base.specs.Spelling.{greatest_unit}
use Rattle.lx_base.specs.declared.settings.Enc.{Enc}
use Rattle.lx_regex.specs.Cut.{BeginsMatch}
use Rattle.lx_regex.specs.Kernel.{IsWord}
use Rattle.lx_regex.specs.Term.{Term}
use Rattle.lx_tdfa.specs.KernelStates.{HaveOneKernel}
use Rattle.lx_tdfa.specs.Words.{ComesBefore, IsNoLater}
use Rattle.lx_cover.specs.declared.covering.CoverStop.{CoverStop}
use Rattle.lx_cover.specs.declared.covering.CoverStop.TheVariants.{Memory, TooLong}
use Rattle.lx_cover.specs.declared.covering.TheConstants.{COVER_LIMIT}

module _ (enc : Enc) (rules : List Term) where
  -- the least word of a kernel: it begins a match, and is no later than any word that has its kernel
  pub record IsLeastWord (word : List ℕ) : Type 0 where
    pub units : IsWord enc rules word
    pub begins : BeginsMatch enc rules word
    pub least : (other : List ℕ) → IsWord enc rules other → HaveOneKernel enc rules other word → IsNoLater word other

  -- behind a word the unit is the first of a longest run of units that lead to one kernel, or to none: the unit before it, if there
  -- is one, leads to another one
  abbrev pub BeginsRun : (word : List ℕ) → (unit : ℕ) → Type 0
  BeginsRun word unit =
      (unit ≤ greatest_unit enc)
      × ((before : ℕ) → unit ≡ suc before → HaveOneKernel enc rules (word ++ before ∷ []) (word ++ unit ∷ []) → ⊥)

  -- the least word of a kernel, followed by the first unit of a longest run
  abbrev pub LeavesKernel : List ℕ → Type 0
  LeavesKernel word = (front : List ℕ) × (unit : ℕ) × (word ≡ front ++ unit ∷ []) × IsLeastWord front × BeginsRun front unit

  -- a covering word: the empty one, or one that leaves a kernel
  abbrev pub IsCovering : List ℕ → Type 0
  IsCovering word = (word ≡ []) ⊎ LeavesKernel word

  -- the first covering words, in their order: no other one comes before one of them
  pub record AreFirst (words : List (List ℕ)) : Type 0 where
    pub sound : (word : List ℕ) → Contains words word → IsCovering word
    pub order : AllPairs ComesBefore words
    pub closed : (word last : List ℕ) → IsCovering word → Contains words last → ComesBefore word last → Contains words word

  -- the cover: all covering words, in their order
  pub record IsCover (words : List (List ℕ)) : Type 0 where
    pub sound : (word : List ℕ) → Contains words word → IsCovering word
    pub order : AllPairs ComesBefore words
    pub complete : (word : List ℕ) → IsCovering word → Contains words word

  -- the first sum of the lengths of covering words, in their order, that is over a limit
  pub record IsFirstSumOver (limit sum : ℕ) : Type 0 where
    pub words : List (List ℕ)
    pub last : List ℕ
    pub first : AreFirst (words ++ last ∷ [])
    pub within : sum_by length words ≤ limit
    pub over : limit < sum
    pub is : sum ≡ sum_by length (words ++ last ∷ [])

  -- there is no list: memory ran out, or this sum is over the limit
  abbrev pub StopsCover : CoverStop → Type 0
  StopsCover Memory = Unit {0}
  StopsCover (TooLong sum) = IsFirstSumOver COVER_LIMIT sum
