-- The places from which walks begin, as the code has them, and what is kept of places.
use Rattle.std.specs.Prelude.{◌≡◌, ℕ, suc, ◌+◌, ◌*◌, ◌<◌, ◌⊎◌, List, [], ◌∷◌, length}
use Rattle.lx_tnfa.specs.Tnfa.{Tnfa}
use Rattle.lx_posix.specs.Comparing.{Ranked}
use Rattle.lx_posix.specs.declared.points.Beginning.{Beginning}
use Rattle.lx_posix.specs.declared.points.Point.{Point}
use Rattle.lx_posix.specs.declared.points.Point.TheVariants.{State, Within}

-- the number of a point: that of its state, and beyond the states one for each residual and leaf
abbrev pub point_number : Tnfa → Point → ℕ
point_number tnfa (State number) = number
point_number tnfa (Within place) = suc place.rest.0 * length tnfa.states + 2 * place.part

-- a state of the automaton, or within a leaf of it
abbrev pub IsPoint : Tnfa → Point → Type 0
IsPoint tnfa (State number) = number < length tnfa.states
IsPoint tnfa (Within place) = 2 * place.part < length tnfa.states

module _ (tnfa : Tnfa) (deep : ℕ → ℕ) where
  -- walks begin from this place; `deep` has the depths of states and places
  pub record IsBeginning (beginning : Beginning) (ranked : Ranked) : Type 0 where
    pub point : IsPoint tnfa beginning.at
    pub place : point_number tnfa beginning.at ≡ ranked.place
    pub depth : beginning.depth ≡ deep ranked.place
    pub «open» : beginning.open ≡ ranked.depth
    pub number : beginning.number ≡ ranked.number

  -- from these places, one by one
  abbrev pub AreBeginnings : List Beginning → List Ranked → Type 0
  AreBeginnings [] [] = Unit {0}
  AreBeginnings [] (ranked ∷ ranks) = ⊥
  AreBeginnings (beginning ∷ beginnings) [] = ⊥
  AreBeginnings (beginning ∷ beginnings) (ranked ∷ ranks) = IsBeginning beginning ranked × AreBeginnings beginnings ranks

-- the second place is of the same rule, or of a later one, and then it has the number 0
abbrev pub FollowsInRules : Ranked → Ranked → Type 0
FollowsInRules ranked next = (ranked.rule ≡ next.rule) ⊎ ((ranked.rule < next.rule) × (next.number ≡ 0))

-- the places of each rule stand together, in the order of rules
abbrev pub AreByRule : List Ranked → Type 0
AreByRule [] = Unit {0}
AreByRule (ranked ∷ []) = Unit {0}
AreByRule (ranked ∷ next ∷ ranks) = FollowsInRules ranked next × AreByRule (next ∷ ranks)
