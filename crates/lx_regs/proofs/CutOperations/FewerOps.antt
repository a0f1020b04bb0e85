-- Of an automaton in which some operation copies a register to itself fewer operations stay.
use Rattle.std.proofs.Common.{◌≡◌, ℕ, suc, ◌+◌, ◌<◌, ◌≤◌, List, [], ◌∷◌, length, Option, Some, None, Bool, true, false, ◌||◌, Contains, ap, arith}
use Rattle.std.specs.List.{list_any}
use Rattle.lx_auto.specs.declared.automaton.Accept.{Accept}
use Rattle.lx_auto.specs.declared.automaton.Auto.{Auto}
use Rattle.lx_auto.specs.declared.automaton.Edge.{Edge}
use Rattle.lx_auto.specs.declared.automaton.Held.{Held}
use Rattle.lx_auto.specs.declared.automaton.State.{State}
use Rattle.lx_auto.specs.declared.ops.Op.{Op}
use Rattle.lx_auto.specs.Automaton.{state_of}
use Rattle.lx_auto.specs.Effects.{copies_itself, is_overwritten}
use Rattle.lx_auto.specs.Live.{AtSomePoint, IsLiveBehind, IsLiveOnLeaving}
use Rattle.lx_regs.specs.Dead.{AreEdgesCut, IsAcceptCut, IsCut, IsStateCut, KeepsWanted, ends, stays, goes}
use Rattle.lx_regs.specs.IdleOps.{count_at, count_by, count_in, count_on, some_itself, some_itself_at, some_itself_by}
use Rattle.lx_regs.proofs.CutOperations.UnsetRegisters.{none-second}

-- 1 where something is so
abbrev bit : Bool → ℕ
bit true = 1
bit false = 0

bit-le : (b : Bool) → bit b ≤ 1
bit-le true = omega arith
bit-le false = omega arith

bit-or : (first second : Bool) → bit (first || second) ≤ bit first + bit second
bit-or true true = omega arith
bit-or true false = omega arith
bit-or false true = omega arith
bit-or false false = omega arith

length-kept : (IsWanted : Held → Type 0) (ops kept : List Op) → KeepsWanted IsWanted ops kept
    → length kept + bit (list_any copies_itself ops) ≤ length ops
length-kept IsWanted _ _ ends = omega arith
length-kept IsWanted _ _ (stays op ops kept needed last keeps) =
    let rest = length-kept IsWanted ops kept keeps in
    let is : bit (copies_itself op || list_any copies_itself ops) ≡ bit (list_any copies_itself ops) =
    ap (λ b. bit (b || list_any copies_itself ops)) (none-second (is_overwritten op ops) (copies_itself op) last) in
    omega (arith, rest, is)
length-kept IsWanted _ _ (goes op ops kept un keeps) =
    let rest = length-kept IsWanted ops kept keeps in
    let most = bit-le (copies_itself op || list_any copies_itself ops) in
    omega (arith, rest, most)

module _ (given : Auto) (number : ℕ) where
  count-edges : (edges others : List Edge) → AreEdgesCut given number edges others
      → count_on others + bit (list_any some_itself edges) ≤ count_on edges
  count-edges [] [] cut = omega arith
  count-edges (edge ∷ edges) [] cut = absurd cut
  count-edges [] (other ∷ others) cut = absurd cut
  count-edges (edge ∷ edges) (other ∷ others) cut =
      let first = length-kept (λ held. AtSomePoint given number (λ point. IsLiveBehind given point edge held)) edge.ops other.ops
      cut.0.ops in
      let rest = count-edges edges others cut.1 in
      let either = bit-or (some_itself edge) (list_any some_itself edges) in
      omega (arith, first, rest, either)

  count-accept : (accept other : Option Accept) → IsAcceptCut given number accept other
      → count_by other + bit (some_itself_by accept) ≤ count_by accept
  count-accept None None cut = omega arith
  count-accept (Some accept) None cut = absurd cut
  count-accept None (Some other) cut = absurd cut
  count-accept (Some accept) (Some other) cut =
      length-kept (λ held. AtSomePoint given number (λ point. Contains accept.values held)) accept.ops other.ops cut.ops

  count-state : (state other : State) → IsStateCut given number state other → count_at other + bit (some_itself_at state) ≤ count_at state
  count-state state other cut =
      let leave = length-kept (λ held. AtSomePoint given number (λ point. IsLiveOnLeaving given point held)) state.leave other.leave
      cut.leave in
      let accept = count-accept state.accept other.accept cut.accept in
      let edges = count-edges state.edges other.edges cut.edges in
      let second = bit-or (some_itself_by state.accept) (list_any some_itself state.edges) in
      let first = bit-or (list_any copies_itself state.leave) (some_itself_by state.accept || list_any some_itself state.edges) in
      omega (arith, leave, accept, edges, first, second)

-- each state is cut as some state of the automaton
count-states : (given : Auto) (states others : List State) → length others ≡ length states
    → ((place : ℕ) → (number : ℕ) × IsStateCut given number (state_of states place) (state_of others place))
    → count_in others + bit (list_any some_itself_at states) ≤ count_in states
count-states given [] [] same each = omega arith
count-states given [] (other ∷ others) same each = absurd (omega (arith, same))
count-states given (state ∷ states) [] same each = absurd (omega (arith, same))
count-states given (state ∷ states) (other ∷ others) same each =
    let first = count-state given (each 0).0 state other (each 0).1 in
    let rest = count-states given states others (omega (arith, same)) (λ place. each (suc place)) in
    let either = bit-or (some_itself_at state) (list_any some_itself_at states) in
    omega (arith, first, rest, either)

pub count_in-cut : (given answer : Auto) → IsCut given answer → list_any some_itself_at given.states ≡ true
    → count_in answer.states < count_in given.states
count_in-cut given answer is some =
    let all = count-states given given.states answer.states is.states.count (λ place. (place, is.states.each place)) in
    let one : bit (list_any some_itself_at given.states) ≡ 1 = ap bit some in
    omega (arith, all, one)
