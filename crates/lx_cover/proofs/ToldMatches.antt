-- What is taken by a machine is told as the match that is found.
use Rattle.std.proofs.Common.{◌≡◌, ℕ, ◌+◌, ◌<◌, ◌≤◌, List, length, map, drop, get_or, Option, Some, None, ap, ◌∙◌}
use Rattle.std.proofs.lemmas.List.{drop_all, drop_more}
use Rattle.lx_auto.specs.Automaton.{edge_on, state_of}
use Rattle.lx_auto.specs.Run.{Found, Standing, behind_edge, by_edge}
use Rattle.lx_auto.specs.declared.automaton.Auto.{Auto}
use Rattle.lx_auto.specs.declared.automaton.Edge.{Edge}
use Rattle.lx_regex.specs.declared.rules.Rule.{Rule}
use Rattle.lx_rules.specs.declared.resolved.Act.{Act}
use Rattle.lx_cover.specs.Cursors.{cursor_at, slash_of}
use Rattle.lx_cover.specs.Machine.{IsTaken, last_standing, or_here}
use Rattle.lx_cover.specs.Matches.{Tells, told, value_of}
use Rattle.lx_cover.specs.Outcomes.{outcome_of}
use Rattle.lx_cover.specs.declared.machine.Taken.{Taken}
use Rattle.lx_cover.specs.declared.matches.CoverMatch.{CoverMatch}

pub taken-told : (acts : List Act) (rules : List Rule) (end : ℕ) (found : Option Found) (taken : Taken) (answer : CoverMatch)
    → IsTaken found (Some taken)
    → answer ≡ told acts taken.rule (cursor_at (slash_of rules taken.rule) (map value_of taken.values) taken.offset)
    → Tells acts (outcome_of rules end found) answer taken.values
taken-told acts rules end None taken answer is says = absurd is
taken-told acts rules end (Some found) taken answer is says =
    (says ∙ (λ i. told acts (is.0 i) (cursor_at (slash_of rules (is.0 i)) (is.2 i) (is.1 i))), is.2)

-- ---- the run, unit by unit

module _ (auto : Auto) (standing : Standing) (word : List ℕ) (place : ℕ) where
  goes : (edge : Option Edge) → place < length word → edge_on (state_of auto.states standing.state).edges (get_or word place 0) ≡ edge
      → last_standing auto standing (drop place word)
      ≡ or_here standing (by_edge (state_of auto.states standing.state) standing edge)
      (λ next. last_standing auto next (drop (place + 1) word))
  goes edge within on =
      ap (λ l. last_standing auto standing l) (drop_more word place 0 within)
      ∙ ap (λ o. or_here standing (by_edge (state_of auto.states standing.state) standing o)
      (λ next. last_standing auto next (drop (place + 1) word))) on

  -- on by an edge
  pub last_standing-goes : (edge : Edge) → place < length word
      → edge_on (state_of auto.states standing.state).edges (get_or word place 0) ≡ Some edge
      → last_standing auto standing (drop place word)
      ≡ last_standing auto (behind_edge (state_of auto.states standing.state) standing edge) (drop (place + 1) word)
  last_standing-goes edge within on = goes (Some edge) within on

  -- without one it stops
  pub last_standing-stops : place < length word → edge_on (state_of auto.states standing.state).edges (get_or word place 0) ≡ None
      → last_standing auto standing (drop place word) ≡ standing
  last_standing-stops within on = goes None within on

  -- and so it does at the end
  pub last_standing-ends : length word ≤ place → last_standing auto standing (drop place word) ≡ standing
  last_standing-ends all = ap (λ l. last_standing auto standing l) (drop_all place word all)
