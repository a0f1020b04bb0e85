-- Points of an automaton with one number are one.
use Rattle.std.proofs.Common.{sym, ap, ◌∙◌, arith}
use Rattle.std.proofs.Math.Nat.{suc-mul}
use Rattle.std.proofs.lemmas.Nat.{div-mul-add, mod-mul-add}
use Rattle.std.specs.Prelude.{◌≡◌, ℕ, suc, ◌+◌, ◌*◌, ◌/◌, ◌%◌, ◌<◌, length}
use Rattle.lx_tnfa.specs.Tnfa.{Tnfa}
use Rattle.lx_tnfa.specs.declared.places.Place.{Place}
use Rattle.lx_posix.specs.Beginnings.{IsPoint, point_number}
use Rattle.lx_posix.specs.declared.points.Point.{Point}
use Rattle.lx_posix.specs.declared.points.Point.TheVariants.{State, Within}

module _ (tnfa : Tnfa) where
  apart : (number rest part : ℕ) → number < length tnfa.states → number ≡ suc rest * length tnfa.states + 2 * part → ⊥
  apart number rest part lt e = omega (arith, suc-mul rest (length tnfa.states))

  same_within : (place other : Place) → 2 * place.part < length tnfa.states → 2 * other.part < length tnfa.states
      → suc place.rest.0 * length tnfa.states + 2 * place.part ≡ suc other.rest.0 * length tnfa.states + 2 * other.part
      → Within place ≡ Within other
  same_within place other lt lt' e =
      let n = length tnfa.states in
      let rest : suc place.rest.0 ≡ suc other.rest.0 =
      sym (div-mul-add (suc place.rest.0) n (2 * place.part) lt) ∙ ap (λ k. k / n) e
      ∙ div-mul-add (suc other.rest.0) n (2 * other.part) lt' in
      let twice : 2 * place.part ≡ 2 * other.part =
      sym (mod-mul-add (suc place.rest.0) n (2 * place.part) lt) ∙ ap (λ k. k % n) e
      ∙ mod-mul-add (suc other.rest.0) n (2 * other.part) lt' in
      let rests : place.rest.0 ≡ other.rest.0 = omega arith in
      let parts : place.part ≡ other.part = omega arith in
      λ i. Within (record { part = parts i; rest = record { 0 = rests i } })

  pub point_same : (point other : Point) → IsPoint tnfa point → IsPoint tnfa other → point_number tnfa point ≡ point_number tnfa other
      → point ≡ other
  point_same (State number) (State second) lt lt' e = ap State e
  point_same (State number) (Within place) lt lt' e = absurd (apart number place.rest.0 place.part lt e)
  point_same (Within place) (State second) lt lt' e = absurd (apart second place.rest.0 place.part lt' (sym e))
  point_same (Within place) (Within other) lt lt' e = same_within place other lt lt' e
