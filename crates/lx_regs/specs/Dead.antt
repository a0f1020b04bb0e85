-- An automaton without the operations that no walk reads (dead code elimination: Trofimovich 2017).
use Rattle.std.specs.Prelude.{◌≡◌, ℕ, List, [], ◌∷◌, length, Option, Some, None, true, false, Contains}
use Rattle.lx_auto.specs.declared.automaton.Accept.{Accept}
use Rattle.lx_auto.specs.declared.automaton.Auto.{Auto}
use Rattle.lx_auto.specs.declared.automaton.Edge.{Edge}
use Rattle.lx_auto.specs.declared.automaton.Held.{Held}
use Rattle.lx_auto.specs.declared.automaton.State.{State}
use Rattle.lx_auto.specs.declared.ops.Op.{Op}
use Rattle.lx_auto.specs.Automaton.{state_of}
use Rattle.lx_auto.specs.Effects.{target_of}
use Rattle.lx_auto.specs.Live.{AtSomePoint, IsLiveBehind, IsLiveOnLeaving}
use Rattle.lx_regs.specs.IdleOps.{is_idle}

-- those operations of a list stay that write what is wanted, unless a later one takes away what they did, or they copy it to itself
pub data KeepsWanted (IsWanted : Held → Type 0) : (ops kept : List Op) → Type 0 where
  ends : KeepsWanted IsWanted [] []
  stays : (op : Op) (ops kept : List Op) → IsWanted (target_of op) → is_idle op ops ≡ false → KeepsWanted IsWanted ops kept
      → KeepsWanted IsWanted (op ∷ ops) (op ∷ kept)
  goes : (op : Op) (ops kept : List Op) → (IsWanted (target_of op) → is_idle op ops ≡ true) → KeepsWanted IsWanted ops kept
      → KeepsWanted IsWanted (op ∷ ops) kept

-- of the state with this number
module _ (given : Auto) (number : ℕ) where
  -- an edge keeps what is live behind it
  pub record IsEdgeCut (edge other : Edge) : Type 0 where
    pub low : other.lo ≡ edge.lo
    pub high : other.hi ≡ edge.hi
    pub target : other.to ≡ edge.to
    pub ops : KeepsWanted (λ held. AtSomePoint given number (λ point. IsLiveBehind given point edge held)) edge.ops other.ops

  -- the same of two lists, edge by edge
  abbrev pub AreEdgesCut : List Edge → List Edge → Type 0
  AreEdgesCut [] [] = Unit {0}
  AreEdgesCut (edge ∷ edges) [] = ⊥
  AreEdgesCut [] (other ∷ others) = ⊥
  AreEdgesCut (edge ∷ edges) (other ∷ others) = IsEdgeCut edge other × AreEdgesCut edges others

  -- what is accepted keeps its rule and its values, where some walk comes to the state
  pub record IsAcceptedCut (accept other : Accept) : Type 0 where
    pub rule : other.rule ≡ accept.rule
    pub values : other.values ≡ accept.values
    pub ops : KeepsWanted (λ held. AtSomePoint given number (λ point. Contains accept.values held)) accept.ops other.ops

  -- both accept or neither
  abbrev pub IsAcceptCut : Option Accept → Option Accept → Type 0
  IsAcceptCut None None = Unit {0}
  IsAcceptCut (Some accept) None = ⊥
  IsAcceptCut None (Some other) = ⊥
  IsAcceptCut (Some accept) (Some other) = IsAcceptedCut accept other

  -- the state keeps what is live where it is left
  pub record IsStateCut (state other : State) : Type 0 where
    pub edges : AreEdgesCut state.edges other.edges
    pub accept : IsAcceptCut state.accept other.accept
    pub leave : KeepsWanted (λ held. AtSomePoint given number (λ point. IsLiveOnLeaving given point held)) state.leave other.leave

-- the same of two lists of states
pub record AreStatesCut (given : Auto) (states others : List State) : Type 0 where
  pub count : length others ≡ length states
  pub each : (number : ℕ) → IsStateCut given number (state_of states number) (state_of others number)

-- the answer has the same registers, and each state of the given automaton without the operations that no walk reads
pub record IsCut (given answer : Auto) : Type 0 where
  pub regs : answer.regs ≡ given.regs
  pub mregs : answer.mregs ≡ given.mregs
  pub states : AreStatesCut given given.states answer.states
