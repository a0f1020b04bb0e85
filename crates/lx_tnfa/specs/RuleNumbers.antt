-- Rules with different numbers, by what an automaton keeps of them.
use Rattle.std.specs.Prelude.{◌≢◌, ℕ, List, [], ◌∷◌, Bool}

-- none of the rules has this number
abbrev pub NoneIsNumbered : (number : ℕ) → List (ℕ × List Bool) → Type 0
NoneIsNumbered number [] = Unit {0}
NoneIsNumbered number (rule ∷ rules) = (rule.0 ≢ number) × NoneIsNumbered number rules

-- the rules have different numbers
abbrev pub HaveApartNumbers : List (ℕ × List Bool) → Type 0
HaveApartNumbers [] = Unit {0}
HaveApartNumbers (rule ∷ rules) = NoneIsNumbered rule.0 rules × HaveApartNumbers rules
