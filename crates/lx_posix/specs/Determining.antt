-- What holds while an automaton is built under the POSIX order.
use Rattle.std.specs.Prelude.{◌≡◌, ◌≢◌, ℕ, List, ◌++◌, Option, Some, None, Bool, AllPairs, slice_get}
use Rattle.lx_auto.specs.Automaton.{AreApart}
use Rattle.lx_auto.specs.declared.automaton.Edge.{Edge}
use Rattle.lx_auto.specs.declared.automaton.State.{State}
use Rattle.lx_regex.specs.Pattern.{terms_of}
use Rattle.lx_tnfa.specs.Closure.{IsClosureOf}
use Rattle.lx_tnfa.specs.Tnfa.{Tnfa}
use Rattle.lx_tnfa.specs.declared.closure.Reach.{Reach}
use Rattle.lx_tdfa.specs.Building.{IsBuilt, IsSourceOfRules, greatest_of}
use Rattle.lx_tdfa.specs.Making.{IsWithin}
use Rattle.lx_tdfa.specs.Steps.{first_ending, next_steps}
use Rattle.lx_tdfa.specs.Table.{IsEdgeOf, IsStateBy, is_first}
use Rattle.lx_tdfa.specs.declared.states.Source.{Source}
use Rattle.lx_posix.specs.Closures.{IsClosure, Under, next_kernel, onward_of}
use Rattle.lx_posix.specs.KeptKernels.{AreReached, places_in, start_kernel}
use Rattle.lx_posix.specs.PosixKernel.{HasTooManyPosixKernels}
use Rattle.lx_posix.specs.declared.closures.Closure.{Closure}
use Rattle.lx_posix.specs.declared.kept.Kept.{Kept}
use Rattle.lx_posix.specs.declared.states.Units.{Units}

-- states are made from the automaton of a rule list within the limits of a scanner
pub record IsSourceOf (source : Source) : Type 0 where
  pub of_rules : IsSourceOfRules source
  pub built : IsBuilt source.t.now

module _ (tnfa : Tnfa) where
  -- the rules have too many kernels
  abbrev pub TooManyUnder : Type 0
  TooManyUnder = Under tnfa (λ enc patterns. HasTooManyPosixKernels enc (terms_of patterns))

  -- the kernels that have a number so far
  pub record AreListed (kernels : List (List Kept)) : Type 0 where
    pub start : slice_get kernels 0 ≡ Some start_kernel
    pub within : IsWithin kernels
    pub apart : AllPairs (λ list other. list ≢ other) kernels
    pub reached : Under tnfa (λ enc patterns. AreReached enc (terms_of patterns) tnfa kernels)

  -- more kernels may have come behind the others
  pub record Grows (old new : List (List Kept)) : Type 0 where
    pub later : List (List Kept)
    pub kernels : new ≡ old ++ later
    pub listed : AreListed new

  -- the edge on units that go on alike
  abbrev pub IsEdgeMade : (kernels : List (List Kept)) → (first : Bool) → Closure → Units → Option Edge → Type 0
  IsEdgeMade kernels first closure units None =
      IsEdgeOf tnfa kernels first (next_steps tnfa units.lo closure.targets.reaches.items) (next_kernel tnfa closure units.lo) None
  IsEdgeMade kernels first closure units (Some edge) =
      IsEdgeOf tnfa kernels first (next_steps tnfa units.lo closure.targets.reaches.items) (next_kernel tnfa closure units.lo) (Some edge)
      × (edge.lo ≡ units.lo) × (edge.hi ≡ units.hi)

  -- the state of a kernel: its closure, and the targets of plain walks from its places, of which the first end is accepted
  pub record IsStateOf (kernels : List (List Kept)) (first : Bool) (kernel : List Kept) (state : State) : Type 0 where
    pub closure : Closure
    pub goes : IsClosure tnfa first kernel closure
    pub reaches : List Reach
    pub ends : IsClosureOf tnfa (places_in kernel) reaches
    pub is : IsStateBy tnfa (greatest_of tnfa) kernels first (onward_of tnfa closure (first_ending reaches)) state

  -- states of the kernels with their numbers, with edges apart
  abbrev pub AreStatesOf : (kernels : List (List Kept)) → List State → Type 0
  AreStatesOf kernels states = (number : ℕ) (kernel : List Kept) (state : State) → slice_get kernels number ≡ Some kernel
      → slice_get states number ≡ Some state → IsStateOf kernels (is_first number) kernel state × AreApart state.edges
