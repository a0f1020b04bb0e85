-- When an automaton is another one with other registers and lists.
use Rattle.std.specs.Prelude.{◌≡◌, ℕ, List, [], ◌∷◌, Option, Some, None, map}
use Rattle.lx_auto.specs.declared.automaton.Accept.{Accept}
use Rattle.lx_auto.specs.declared.automaton.Auto.{Auto}
use Rattle.lx_auto.specs.declared.automaton.Edge.{Edge}
use Rattle.lx_auto.specs.declared.automaton.Held.{Held}
use Rattle.lx_auto.specs.Effects.{Names, effect_of, effect_of_both, renamed, renamed_effect}
use Rattle.lx_auto.specs.Live.{IsLive, IsLiveBehind}
use Rattle.lx_auto.specs.Points.{Point, IsReached, state_at, values_left}

-- both accept or neither; if they do, they accept one rule, and get the same values if registers hold the same by their other names
abbrev pub AcceptAlike : Names → (given answer : Option Accept) → Type 0
AcceptAlike names None None = Unit {0}
AcceptAlike names (Some accept) None = ⊥
AcceptAlike names None (Some other) = ⊥
AcceptAlike names (Some accept) (Some other) = (other.rule ≡ accept.rule)
    × (map (effect_of other.ops) other.values ≡ map (λ value. renamed_effect names (effect_of accept.ops value)) accept.values)

-- a register is at a point the name of one that is live in the given automaton
abbrev pub IsNameOfLive : (given : Auto) → (names : ℕ → Names) → Point → Held → Type 0
IsNameOfLive given names point held = (source : Held) × IsLive given point source × (renamed (names point.state) source ≡ held)

-- for each state the names that the registers of the given automaton have there in the answer
module _ (given answer : Auto) (names : ℕ → Names) where
  -- both edges lead to one state on one range, and what is live behind the given one gets the same
  pub record LeadAlike (point : Point) (edge other : Edge) : Type 0 where
    pub low : other.lo ≡ edge.lo
    pub high : other.hi ≡ edge.hi
    pub target : other.to ≡ edge.to
    pub effects : (held : Held) → IsLiveBehind given point edge held
        → effect_of_both (state_at answer point).leave other.ops (renamed (names edge.to) held)
        ≡ renamed_effect (names point.state) (effect_of_both (state_at given point).leave edge.ops held)

  -- the same of two lists, edge by edge
  abbrev pub AllLeadAlike : Point → List Edge → List Edge → Type 0
  AllLeadAlike point [] [] = Unit {0}
  AllLeadAlike point (edge ∷ edges) [] = ⊥
  AllLeadAlike point [] (other ∷ others) = ⊥
  AllLeadAlike point (edge ∷ edges) (other ∷ others) = LeadAlike point edge other × AllLeadAlike point edges others

  -- The answer is the given automaton with other registers and lists: at each point to which some walk of the given one comes they
  -- accept alike, a fallback reads the same values, and edges lead alike. At the start m-register 0, which is empty, has its own name.
  pub record IsTranslation : Type 0 where
    pub accepts : (point : Point) → IsReached given point
        → AcceptAlike (names point.state) (state_at given point).accept (state_at answer point).accept
    pub falls_back : (point : Point) → IsReached given point → (state_at given point).accept ≡ None
        → values_left answer point.left ≡ map (renamed (names point.state)) (values_left given point.left)
    pub edges : (point : Point) → IsReached given point
        → AllLeadAlike point (state_at given point).edges (state_at answer point).edges
    pub start : (names 0).mregs 0 ≡ 0
