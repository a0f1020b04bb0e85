-- Kernels with their numbers from one unit to the next.
use Rattle.std.specs.Prelude.{◌≡◌, ℕ, suc, ◌<◌, ◌⊎◌, List, [], ◌∷◌, ◌++◌, Some, slice_get}
use Rattle.lx_base.specs.declared.settings.Enc.{Enc}
use Rattle.lx_regex.specs.Cut.{Cut, EndsInUnit, IsCut, SamePlace}
use Rattle.lx_regex.specs.Script.{Symbol, units}
use Rattle.lx_regex.specs.Term.{Term}
use Rattle.lx_posix.specs.Walks.{after}

-- a cut that comes from one of a kernel by a walk to one more unit
pub record Source (ks : List Cut) (u : ℕ) (k : Cut) : Type 0 where
  pub place : ℕ
  pub cut : Cut
  pub walk : List Symbol
  pub stands : slice_get ks place ≡ Some cut
  pub is : k ≡ after cut walk
  pub reads_unit : units walk ≡ u ∷ []
  pub ends_in_unit : EndsInUnit walk

-- two cuts come from the same place of two kernels by the same walk to one more unit
pub record Stem (ks ls : List Cut) (u : ℕ) (k l : Cut) : Type 0 where
  pub place : ℕ
  pub cut : Cut
  pub other : Cut
  pub walk : List Symbol
  pub stands : slice_get ks place ≡ Some cut
  pub other_stands : slice_get ls place ≡ Some other
  pub is : k ≡ after cut walk
  pub other_is : l ≡ after other walk
  pub reads_unit : units walk ≡ u ∷ []
  pub ends_in_unit : EndsInUnit walk

module _ (A : Type 0) where
  -- place by place
  abbrev pub Pairs : (A → A → Type 0) → List A → List A → Type 0
  Pairs S [] [] = Unit {0}
  Pairs S [] (y ∷ ys) = ⊥
  Pairs S (x ∷ xs) [] = ⊥
  Pairs S (x ∷ xs) (y ∷ ys) = S x y × Pairs S xs ys

-- These cuts come from a kernel by a walk to one more unit, and for each such cut there is one of them at its place that is
-- not later. Only the walks from the kernel's own cuts are asked for.
pub record AreListed
    (Earlier : Cut → Cut → Type 0) (enc : Enc) (rules : List Term) (word : List ℕ) (kernel : List Cut) (u : ℕ)
    (listed : List Cut) : Type 0 where
  pub cuts : (i : ℕ) (cut : Cut) → slice_get listed i ≡ Some cut → IsCut enc rules (word ++ u ∷ []) cut
  pub every : (i : ℕ) (cut : Cut) (walk : List Symbol) → slice_get kernel i ≡ Some cut → EndsInUnit walk → units walk ≡ u ∷ []
      → IsCut enc rules (word ++ u ∷ []) (after cut walk)
      → (j : ℕ) × (first : Cut) × (slice_get listed j ≡ Some first) × SamePlace enc rules first (after cut walk)
      × (Earlier (after cut walk) first → ⊥)

-- they do, and stand in their order, one for each place
pub record IsStepOf
    (Earlier : Cut → Cut → Type 0) (enc : Enc) (rules : List Term) (word : List ℕ) (kernel : List Cut) (u : ℕ)
    (next : List Cut) : Type 0 where
  pub listed : AreListed Earlier enc rules word kernel u next
  pub ordered : (i j : ℕ) (cut other : Cut) → i < j → slice_get next i ≡ Some cut → slice_get next j ≡ Some other
      → Earlier cut other × (SamePlace enc rules cut other → ⊥)

-- from a number on, the beginning of each rule, at which no unit is read
abbrev pub beginnings : (number : ℕ) → List Term → List Cut
beginnings number [] = []
beginnings number (e ∷ rules) = record { rule = number; front = [] } ∷ beginnings (suc number) rules

-- from where one more unit is read: from the beginnings of the rules where the word is empty, and else from the kernel
abbrev pub sources : List Term → (word : List ℕ) → (kernel : List Cut) → List Cut
sources rules [] kernel = beginnings 0 rules
sources rules (first ∷ word) kernel = kernel

-- of every two cuts at a word it is decided whether they stand at one place
abbrev pub PlacesAreDecided : Enc → List Term → (word : List ℕ) → Type 0
PlacesAreDecided enc rules word =
    (cut other : Cut) → IsCut enc rules word cut → IsCut enc rules word other
    → SamePlace enc rules cut other ⊎ (SamePlace enc rules cut other → ⊥)
