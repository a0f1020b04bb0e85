-- An automaton by other names has as many operations.
use Rattle.std.proofs.Common.{◌≡◌, ◌+◌, List, [], ◌∷◌, Option, Some, None, refl}
use Rattle.std.specs.Prelude.{map, option_map}
use Rattle.std.proofs.lemmas.List.{length-map}
use Rattle.lx_auto.specs.declared.automaton.Accept.{Accept}
use Rattle.lx_auto.specs.declared.automaton.Edge.{Edge}
use Rattle.lx_auto.specs.declared.automaton.State.{State}
use Rattle.lx_auto.specs.Effects.{Names}
use Rattle.lx_regs.specs.IdleOps.{count_by, count_in, count_on}
use Rattle.lx_regs.specs.SharedNames.{renamed_accept, renamed_edge, renamed_op, renamed_state}

module _ (names : Names) where
  count_on-renamed : (edges : List Edge) → count_on (map (renamed_edge names) edges) ≡ count_on edges
  count_on-renamed [] = refl
  count_on-renamed (edge ∷ edges) = λ i. length-map edge.ops (renamed_op names) i + count_on-renamed edges i

  count_by-renamed : (accept : Option Accept) → count_by (option_map (renamed_accept names) accept) ≡ count_by accept
  count_by-renamed None = refl
  count_by-renamed (Some accept) = length-map accept.ops (renamed_op names)

  pub count_in-renamed : (states : List State) → count_in (map (renamed_state names) states) ≡ count_in states
  count_in-renamed [] = refl
  count_in-renamed (state ∷ states) = λ i.
      (length-map state.leave (renamed_op names) i + (count_by-renamed state.accept i + count_on-renamed state.edges i))
      + count_in-renamed states i
