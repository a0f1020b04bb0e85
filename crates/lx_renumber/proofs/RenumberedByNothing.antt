-- Numbers that are greater by nothing are the same.
use Rattle.std.proofs.Common.{◌≡◌, List, [], ◌∷◌, Option, Some, None, add-zero, ap, ap₂, map, refl, sym}
use Rattle.std.specs.Option.{option_map}
use Rattle.lx_auto.specs.declared.automaton.Accept.{Accept}
use Rattle.lx_auto.specs.declared.automaton.Auto.{Auto}
use Rattle.lx_auto.specs.declared.automaton.State.{State}
use Rattle.lx_renumber.specs.Renumbered.{renumbered, renumbered_accept, renumbered_state}

accept-zero : (accept : Option Accept) → option_map (renumbered_accept 0) accept ≡ accept
accept-zero None = refl
accept-zero (Some accept) = ap (λ rule. Some (record accept { rule = rule })) (add-zero accept.rule)

states-zero : (states : List State) → map (renumbered_state 0) states ≡ states
states-zero [] = refl
states-zero (state ∷ states) = ap₂ (λ first rest. first ∷ rest) (ap (λ accept. record state { accept = accept }) (accept-zero state.accept)) (states-zero states)

pub renumbered-zero : (auto : Auto) → auto ≡ renumbered 0 auto
renumbered-zero auto = sym (ap (λ states. record auto { states = states }) (states-zero auto.states))
