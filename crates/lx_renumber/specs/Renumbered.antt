-- Rules and automata with greater numbers of rules.
use Rattle.std.specs.Prelude.{ℕ, ◌+◌, ◌<◌, ◌^◌, All, Bool, IfSome, List, map, option_map, Option, Some, None}
use Rattle.lx_auto.specs.declared.automaton.Accept.{Accept}
use Rattle.lx_auto.specs.declared.automaton.Auto.{Auto}
use Rattle.lx_auto.specs.declared.automaton.State.{State}
use Rattle.lx_regex.specs.Kinds.{kinds_of}
use Rattle.lx_regex.specs.Pattern.{Pattern}
use Rattle.lx_regex.specs.declared.rules.Rule.{Rule}

-- the tags in the expressions of rules, each with whether it is an m-tag
abbrev pub kinds_in : List Rule → List (List (ℕ × Bool))
kinds_in rules = map (λ (rule : Rule). kinds_of rule.expr) rules

-- each number of a rule is greater by so much
module _ (by : ℕ) where
  -- the rule
  abbrev pub renumbered_pattern : Pattern → Pattern
  renumbered_pattern pattern = record pattern { number = pattern.number + by }

  -- what a state accepts
  abbrev pub renumbered_accept : Accept → Accept
  renumbered_accept accept = record accept { rule = accept.rule + by }

  -- the state, with the same edges and lists
  abbrev pub renumbered_state : State → State
  renumbered_state state = record state { accept = option_map renumbered_accept state.accept }

  -- the automaton
  abbrev pub renumbered : Auto → Auto
  renumbered auto = record auto { states = map renumbered_state auto.states }

  -- the number of the rule that a state accepts has 32 bits then
  abbrev pub StateFits : State → Type 0
  StateFits state = IfSome state.accept (λ accept. accept.rule + by < 2 ^ 32)

  -- each number of a rule has 32 bits then
  abbrev pub Fits : Auto → Type 0
  Fits auto = All StateFits auto.states

-- the automaton itself, or with greater numbers if it is said by how much
abbrev pub based : Option ℕ → Auto → Auto
based None auto = auto
based (Some by) auto = renumbered by auto
