-- What all passes keep of an automaton: its states, the ranges and targets of edges, and what is accepted where.
use Rattle.std.specs.Prelude.{◌≡◌, ℕ, List, map, length, option_map, Bool}
use Rattle.lx_auto.specs.declared.automaton.Accept.{Accept}
use Rattle.lx_auto.specs.declared.automaton.Auto.{Auto}
use Rattle.lx_auto.specs.declared.automaton.Edge.{Edge}
use Rattle.lx_auto.specs.Automaton.{IsAuto, state_of}
use Rattle.lx_auto.specs.SameRun.{HasSameRun}
use Rattle.lx_auto.specs.Shapes.{AreAgreed, is_history}

-- an edge without its operations
pub record EdgeShape : Type 0 where
  pub low : ℕ
  pub high : ℕ
  pub target : ℕ

abbrev pub shape_of_edge : Edge → EdgeShape
shape_of_edge edge = record { low = edge.lo; high = edge.hi; target = edge.to }

-- what a state accepts, by the sorts of its values alone
pub record AcceptShape : Type 0 where
  pub rule : ℕ
  pub histories : List Bool

abbrev pub shape_of_accept : Accept → AcceptShape
shape_of_accept accept = record { rule = accept.rule; histories = map is_history accept.values }

-- The answer has the same states, edges with the same ranges and targets in order, and accepts at the same states, with the same
-- rules and values of the same sorts. If accepts of one rule agree on the places of values, so they do in the answer.
pub record KeepsShape (given answer : Auto) : Type 0 where
  pub count : length answer.states ≡ length given.states
  pub edges : (state : ℕ) → map shape_of_edge (state_of answer.states state).edges ≡ map shape_of_edge (state_of given.states state).edges
  pub accepts : (state : ℕ)
      → option_map shape_of_accept (state_of answer.states state).accept ≡ option_map shape_of_accept (state_of given.states state).accept
  pub agreed : AreAgreed given.states → AreAgreed answer.states

-- the answer may stand for the given automaton: it is well formed, runs as that does and keeps its shape
pub record StandsFor (given answer : Auto) : Type 0 where
  pub formed : IsAuto answer
  pub run : HasSameRun answer given
  pub kept : KeepsShape given answer
