-- Depth-first search in a graph of numbered nodes, each with the list of its successors in order.
use Rattle.std.specs.Prelude.{◌≡◌, ℕ, zero, suc, ◌⊎◌, List, [], ◌∷◌, ◌++◌, length, get_or}
use Rattle.std.proofs.Common.{inl, inr}
use native.Mathlib.Decide.{ℕ_discrete}

-- x is in the list `avoided`
abbrev pub IsIn : List ℕ → ℕ → Type 0
IsIn [] x = ⊥
IsIn (y ∷ avoided) x = (y ≡ x) ⊎ IsIn avoided x

abbrev pub decide_either : {A B : Type 0} → Dec A → Dec B → Dec (A ⊎ B)
decide_either (yes a) e = yes (inl a)
decide_either (no f) (yes b) = yes (inr b)
decide_either (no f) (no g) = no (λ h. elim h [ inl a ↦ f a | inr b ↦ g b ])

unfoldable pub decide_in : (avoided : List ℕ) (x : ℕ) → Dec (IsIn avoided x)
decide_in [] x = no (λ h. h)
decide_in (y ∷ avoided) x = decide_either (ℕ_discrete y x) (decide_in avoided x)

-- the ordered list of successors
abbrev pub successors : List (List ℕ) → ℕ → List ℕ
successors graph s = get_or graph s []

-- what the search lists: a state, and the indices of the successors that lead to it
pub record Found : Type 0 where
  pub state : ℕ
  pub choices : List ℕ

abbrev pub with_choice : ℕ → Found → Found
with_choice i e = record { state = e.state; choices = i ∷ e.choices }

abbrev pub all_with_choice : ℕ → List Found → List Found
all_with_choice i [] = []
all_with_choice i (e ∷ es) = with_choice i e ∷ all_with_choice i es

-- the states visited after those of the list, where `seen` were visited before
abbrev pub visited : List ℕ → List Found → List ℕ
visited seen [] = seen
visited seen (e ∷ es) = visited (e.state ∷ seen) es

-- the searches from the states cs in order, by a search `E`, with the visited states shared
abbrev pub search_each : (List ℕ → ℕ → List Found) → List ℕ → List ℕ → ℕ → List Found
search_each E seen [] i = []
search_each E seen (c ∷ cs) i = all_with_choice i (E seen c) ++ search_each E (visited seen (E seen c)) cs (suc i)

abbrev pub unless_in : {A : Type 0} → Dec A → (Unit {0} → List Found) → List Found
unless_in (yes h) f = []
unless_in (no h) f = f tt

-- the search from s, where `seen` are visited already, k calls deep
abbrev pub search_within : List (List ℕ) → ℕ → List ℕ → ℕ → List Found
search_within graph zero seen s = []
search_within graph (suc k) seen s =
    unless_in (decide_in seen s) (λ u. (record { state = s; choices = [] }) ∷ search_each (search_within graph k) (s ∷ seen) (successors graph s) 0)

abbrev pub search_each_within : List (List ℕ) → ℕ → List ℕ → List ℕ → List Found
search_each_within graph k seen starts = search_each (search_within graph k) seen starts 0

-- the search from some states in order, with a depth that is enough for any graph of this size
abbrev pub search_from : List (List ℕ) → List ℕ → List ℕ → List Found
search_from graph avoided starts = search_each_within graph (suc (length graph)) avoided starts
