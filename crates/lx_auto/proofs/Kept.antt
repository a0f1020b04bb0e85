-- An automaton stays within itself, and what stays within something that stays within a third stays within that.
use Rattle.std.proofs.Common.{ℕ, ◌∙◌, refl}
use Rattle.lx_auto.specs.declared.automaton.Accept.{Accept}
use Rattle.lx_auto.specs.declared.automaton.Auto.{Auto}
use Rattle.lx_auto.specs.Shapes.{HasAcceptLike, HasEdgeOn, StaysWithin}

pub StaysWithin-itself : (auto : Auto) → StaysWithin auto auto
StaysWithin-itself auto = record {
  units = λ state unit edge has on. (state, edge, has, on);
  accepts = λ state accept is. (state, accept, is, refl, refl);
  agreed = λ agreed. agreed;
}

module _ (given middle answer : Auto) (first : StaysWithin given middle) (second : StaysWithin middle answer) where
  on-through : (unit : ℕ) → HasEdgeOn middle unit → HasEdgeOn given unit
  on-through unit (state, edge, has, on) = first.units state unit edge has on

  like-through : (accept : Accept) → HasAcceptLike middle accept → HasAcceptLike given accept
  like-through accept (state, other, is, rule, sorts) =
      let before = first.accepts state other is in (before.0, before.1, before.2, before.3 ∙ rule, before.4 ∙ sorts)

  pub StaysWithin-through : StaysWithin given answer
  StaysWithin-through = record {
    units = λ state unit edge has on. on-through unit (second.units state unit edge has on);
    accepts = λ state accept is. like-through accept (second.accepts state accept is);
    agreed = λ agreed. second.agreed (first.agreed agreed);
  }
