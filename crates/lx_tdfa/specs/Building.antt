-- What holds while an automaton is built.
use Rattle.std.specs.Prelude.{◌≡◌, ℕ, suc, ◌<◌, ◌≤◌, List, [], ◌∷◌, ◌++◌, Option, Some, None, Bool, All, AllPairs, ◌≢◌, slice_get}
use Rattle.lx_base.specs.declared.limits.TheConstants.{PLACE_LIMIT}
use Rattle.lx_regex.specs.ClassLimits.{AllClassesFit}
use Rattle.lx_base.specs.Spelling.{greatest_unit}
use Rattle.lx_base.specs.declared.settings.Enc.{Enc}
use Rattle.lx_auto.specs.Automaton.{AreApart}
use Rattle.lx_auto.specs.declared.automaton.Edge.{Edge}
use Rattle.lx_auto.specs.declared.automaton.State.{State}
use Rattle.lx_regex.specs.Limits.{IsWithinLimits}
use Rattle.lx_regex.specs.Pattern.{Pattern, patterns_of, terms_of}
use Rattle.lx_regex.specs.declared.rules.Rule.{Rule}
use Rattle.lx_tnfa.specs.Closure.{IsClosureOf}
use Rattle.lx_tnfa.specs.Tnfa.{IsTnfaOf, Tnfa}
use Rattle.lx_tnfa.specs.declared.closure.Reach.{Reach}
use Rattle.lx_tnfa.specs.declared.places.Place.{Place}
use Rattle.lx_tdfa.specs.Making.{AreTooMany, IsWithin}
use Rattle.lx_tdfa.specs.Registers.{widest}
use Rattle.lx_tdfa.specs.Steps.{IsFound, IsInLeaf, next_steps, places_of, start_place}
use Rattle.lx_tdfa.specs.Table.{IsEdgeOf, IsStateOf, is_first}
use Rattle.lx_tdfa.specs.declared.states.Source.{Source}
use Rattle.lx_tdfa.specs.declared.states.Units.{Units}

-- the automaton of some rule list within the limits of a scanner
abbrev pub IsBuilt : Tnfa → Type 0
IsBuilt tnfa =
    (enc : Enc) × (rules : List Rule) × IsWithinLimits rules × AllClassesFit enc (terms_of (patterns_of rules))
    × IsTnfaOf enc (patterns_of rules) tnfa

-- states are made from the automaton of a rule list, and the width is the most tags that a rule has
pub record IsSourceOfRules (source : Source) : Type 0 where
  pub width : source.width ≡ widest source.t.now.rules
  pub narrow : widest source.t.now.rules ≤ 130
  pub enc : Enc
  pub patterns : List Pattern
  pub of : IsTnfaOf enc patterns source.t.now

module _ (tnfa : Tnfa) where
  -- the greatest unit of its encoding
  abbrev pub greatest_of : ℕ
  greatest_of = greatest_unit tnfa.enc

  -- too many lists of places are found
  abbrev pub TooManyFound : Type 0
  TooManyFound = (lists : List (List Place)) × All (IsFound tnfa greatest_of) lists × AreTooMany lists

  -- the lists that have a number so far
  pub record AreListed (lists : List (List Place)) : Type 0 where
    pub found : All (IsFound tnfa greatest_of) lists
    pub start : slice_get lists 0 ≡ Some (start_place ∷ [])
    pub places : (number : ℕ) (list : List Place) → slice_get lists (suc number) ≡ Some list → All (IsInLeaf tnfa) list
    pub within : IsWithin lists
    pub apart : AllPairs (λ list other. list ≢ other) lists

  -- the targets of the closure of a list that is found
  pub record AreTargets (reaches : List Reach) : Type 0 where
    pub kernel : List Place
    pub found : IsFound tnfa greatest_of kernel
    pub closure : IsClosureOf tnfa kernel reaches
    pub sources : All (λ (reach : Reach). reach.from < PLACE_LIMIT) reaches

  -- more lists may have come behind the others
  pub record Grows (old new : List (List Place)) : Type 0 where
    pub later : List (List Place)
    pub lists : new ≡ old ++ later
    pub listed : AreListed new

  -- the edge on units that go on alike
  abbrev pub IsEdgeMade : (lists : List (List Place)) → (first : Bool) → List Reach → Units → Option Edge → Type 0
  IsEdgeMade lists first reaches units None =
      IsEdgeOf tnfa lists first (next_steps tnfa units.lo reaches) (places_of (next_steps tnfa units.lo reaches)) None
  IsEdgeMade lists first reaches units (Some edge) =
      IsEdgeOf tnfa lists first (next_steps tnfa units.lo reaches) (places_of (next_steps tnfa units.lo reaches)) (Some edge)
      × (edge.lo ≡ units.lo) × (edge.hi ≡ units.hi)

  -- states of the lists with their numbers, with edges apart
  abbrev pub AreStatesOf : (lists : List (List Place)) → List State → Type 0
  AreStatesOf lists states = (number : ℕ) (list : List Place) (state : State) → slice_get lists number ≡ Some list
      → slice_get states number ≡ Some state
      → IsStateOf tnfa greatest_of lists (is_first number) list state × AreApart state.edges
