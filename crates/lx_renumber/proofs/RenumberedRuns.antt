-- Runs of an automaton with greater numbers of rules.
use Rattle.std.proofs.Common.{◌≡◌, ℕ, ◌+◌, List, [], ◌∷◌, Option, Some, None, refl, ap, ap₂, ◌∙◌}
use Rattle.std.specs.Prelude.{option_map}
use Rattle.lx_auto.specs.declared.automaton.Accept.{Accept}
use Rattle.lx_auto.specs.declared.automaton.Auto.{Auto}
use Rattle.lx_auto.specs.declared.automaton.Edge.{Edge}
use Rattle.lx_auto.specs.declared.automaton.State.{State}
use Rattle.lx_auto.specs.Automaton.{edge_on, state_of}
use Rattle.lx_auto.specs.Bank.{Bank}
use Rattle.lx_auto.specs.Run.{Found, Left, Standing, and_then, by_edge, found_at, found_behind, found_by, found_left, left_after, or_else, run, step}
use Rattle.lx_renumber.proofs.RenumberedStates.{state_of-renumbered}
use Rattle.lx_renumber.specs.Renumbered.{renumbered, renumbered_accept, renumbered_state}

module _ (by : ℕ) where
  abbrev renumbered_left : Left → Left
  renumbered_left left = record left { accept = renumbered_accept by left.accept }

  abbrev pub renumbered_standing : Standing → Standing
  renumbered_standing standing = record standing { left = option_map renumbered_left standing.left }

  abbrev pub renumbered_found : Found → Found
  renumbered_found found = record found { rule = found.rule + by }

  left_after-renumbered : (accept : Option Accept) (standing : Standing)
      → left_after (option_map (renumbered_accept by) accept) (renumbered_standing standing) ≡ option_map renumbered_left (left_after accept standing)
  left_after-renumbered None standing = refl
  left_after-renumbered (Some accept) standing = refl

  by_edge-renumbered : (state : State) (standing : Standing) (found : Option Edge)
      → by_edge (renumbered_state by state) (renumbered_standing standing) found ≡ option_map renumbered_standing (by_edge state standing found)
  by_edge-renumbered state standing None = refl
  by_edge-renumbered state standing (Some edge) =
      ap (λ left. option_map (λ (behind : Standing). record behind { left = left }) (by_edge state standing (Some edge)))
      (left_after-renumbered state.accept standing)

  found_by-renumbered : (accept : Option Accept) (standing : Standing)
      → found_by (option_map (renumbered_accept by) accept) (renumbered_standing standing) ≡ option_map renumbered_found (found_by accept standing)
  found_by-renumbered None standing = refl
  found_by-renumbered (Some accept) standing = refl

  found_left-renumbered : (bank : Bank) (left : Option Left)
      → found_left bank (option_map renumbered_left left) ≡ option_map renumbered_found (found_left bank left)
  found_left-renumbered bank None = refl
  found_left-renumbered bank (Some left) = refl

  pub or_else-renumbered : (first other : Option Found)
      → or_else (option_map renumbered_found first) (option_map renumbered_found other) ≡ option_map renumbered_found (or_else first other)
  or_else-renumbered None other = refl
  or_else-renumbered (Some found) other = refl

  module _ (auto : Auto) where
    pub step-renumbered : (standing : Standing) (unit : ℕ)
        → step (renumbered by auto) (renumbered_standing standing) unit ≡ option_map renumbered_standing (step auto standing unit)
    step-renumbered standing unit =
        let state = state_of auto.states standing.state in
        ap (λ (s : State). by_edge s (renumbered_standing standing) (edge_on s.edges unit)) (state_of-renumbered by auto.states standing.state)
        ∙ by_edge-renumbered state standing (edge_on state.edges unit)

    pub run-renumbered : (word : List ℕ) (standing : Standing)
        → run (renumbered by auto) (renumbered_standing standing) word ≡ option_map renumbered_standing (run auto standing word)
    run-renumbered [] standing = refl
    run-renumbered (unit ∷ word) standing =
        ap (λ found. and_then found (λ next. run (renumbered by auto) next word)) (step-renumbered standing unit)
        ∙ at (step auto standing unit) (λ next. run-renumbered word next)
      where
        at : (found : Option Standing)
            → ((next : Standing) → run (renumbered by auto) (renumbered_standing next) word ≡ option_map renumbered_standing (run auto next word))
            → and_then (option_map renumbered_standing found) (λ next. run (renumbered by auto) next word)
            ≡ option_map renumbered_standing (and_then found (λ next. run auto next word))
        at None rest = refl
        at (Some next) rest = rest next

    pub found_at-renumbered : (standing : Standing)
        → found_at (renumbered by auto) (renumbered_standing standing) ≡ option_map renumbered_found (found_at auto standing)
    found_at-renumbered standing =
        ap (λ (s : State). found_by s.accept (renumbered_standing standing)) (state_of-renumbered by auto.states standing.state)
        ∙ found_by-renumbered (state_of auto.states standing.state).accept standing

    pub found_behind-renumbered : (standing : Standing)
        → found_behind (renumbered by auto) (renumbered_standing standing) ≡ option_map renumbered_found (found_behind auto standing)
    found_behind-renumbered standing =
        ap₂ or_else (found_at-renumbered standing) (found_left-renumbered standing.bank standing.left)
        ∙ or_else-renumbered (found_at auto standing) (found_left standing.bank standing.left)
