-- Lists of places that stand for the kernels of words.
use Rattle.std.specs.Prelude.{◌≡◌, ◌≢◌, ◌↔◌, ℕ, ◌*◌, List, [], ◌∷◌, ◌++◌, map, All, Option, Some, None}
use Rattle.lx_base.specs.declared.settings.Enc.{Enc}
use Rattle.lx_regex.specs.Cut.{BeginsMatch}
use Rattle.lx_regex.specs.Term.{Term}
use Rattle.lx_tnfa.specs.PlaceNumbers.{place_number}
use Rattle.lx_tnfa.specs.Tnfa.{Tnfa}
use Rattle.lx_tnfa.specs.declared.places.Place.{Place}
use Rattle.lx_tdfa.specs.Kernels.{kernel_after, places}
use Rattle.lx_tdfa.specs.KernelStates.{HaveOneKernel}
use Rattle.lx_tdfa.specs.Steps.{IsInLeaf, start_place}

-- the numbers of places
abbrev pub place_numbers : Tnfa → List Place → List ℕ
place_numbers tnfa list = map (λ (place : Place). place_number tnfa (2 * place.part) place.rest.0) list

-- what tells the kernel of a word: the numbers of its places; and nothing for the empty word, behind which no rule has begun
abbrev pub kernel_behind : Tnfa → List Term → (word : List ℕ) → Option (List ℕ)
kernel_behind tnfa rules [] = None
kernel_behind tnfa rules (unit ∷ word) = Some (places (kernel_after tnfa rules (unit ∷ word)))

-- the list has the places of the kernel of a word
abbrev pub IsListOf : Tnfa → List Term → (word : List ℕ) → List Place → Type 0
IsListOf tnfa rules [] list = list ≡ start_place ∷ []
IsListOf tnfa rules (unit ∷ word) list =
    All (IsInLeaf tnfa) list × (place_numbers tnfa list ≡ places (kernel_after tnfa rules (unit ∷ word)))

-- The function tells the kernels of words: they are the same where it says the same, and so they go on. Of a word that begins no match
-- it says that there are no places.
pub record TellsKernels (enc : Enc) (rules : List Term) (kernel : List ℕ → Option (List ℕ)) : Type 0 where
  pub same : (word other : List ℕ) → (kernel word ≡ kernel other) ↔ HaveOneKernel enc rules word other
  pub begins : (word : List ℕ) → BeginsMatch enc rules word ↔ (kernel word ≢ Some [])
  pub onward : (word other : List ℕ) (unit : ℕ) → kernel word ≡ kernel other → kernel (word ++ unit ∷ []) ≡ kernel (other ++ unit ∷ [])
  pub none : (word : List ℕ) (unit : ℕ) → kernel word ≡ Some [] → kernel (word ++ unit ∷ []) ≡ Some []
