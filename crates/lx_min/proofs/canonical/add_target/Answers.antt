use Rattle.std.proofs.Common.{◌≡◌, ℕ, ◌<◌, List, length, sym, ap, ◌∙◌, arith}
use Rattle.std.proofs.lemmas.List.{get_or_read}
use Rattle.std.specs.List.{prefix_len}
use Rattle.std.specs.Prelude.{insert}
use Rattle.lx_auto.specs.declared.automaton.Held.{Held}
use Rattle.lx_min.specs.Canonical.{comes_before, with_target}
use Rattle.lx_min.proofs.TargetPlaces.{at-le-length, with_target-before, with_target-last, with_target-there}
use Rattle.lx_min.proofs.canonical.add_target.Goals as goal
use Rattle.lx_min.proofs.canonical.add_target.Goals.{then-place-len-via-then-place-len, then-place-len-via-else-place-len+then-comes_before}

place-is : (held : Held) (seen targets : List Held) (at : ℕ) → seen ≡ targets → at ≡ prefix_len (λ other. comes_before other held) seen
    → at ≡ prefix_len (λ other. comes_before other held) targets
place-is held seen targets at same is = is ∙ ap (prefix_len (λ other. comes_before other held)) same

pub index-requires : goal.index-requires
index-requires c =
    let is = place-is c.args.held c.as_slice.result.now c.args.targets.now.items c.place_of-place.result c.as_slice.ensures.value
    c.place_of-place.ensures in
    let most = at-le-length c.args.held c.args.targets.now.items c.place_of-place.result is in
    omega (arith, most)

pub insert-requires : goal.insert-requires
insert-requires c =
    let is = place-is c.args.held c.as_slice.result.now c.args.targets.now.items c.place_of-place.result c.as_slice.ensures.value
    c.place_of-place.ensures in
    let most = at-le-length c.args.held c.args.targets.now.items c.place_of-place.result is in
    omega (arith, most)

pub returns-in_ok-insert : goal.returns-in_ok-insert
returns-in_ok-insert c =
    let held = c.args.held in
    let targets = c.args.targets.now.items in
    let at = c.place_of-place.result in
    let is = place-is held c.as_slice.result.now targets at c.as_slice.ensures.value c.place_of-place.ensures in
    let put : insert targets at held ≡ with_target held targets = elim c.then-place-len.branch [
      | then-place-len-via-then-place-len w ↦
          with_target-last held targets at is (omega (arith, w.if-place-len.true))
      | then-place-len-via-else-place-len+then-comes_before w ↦
          let most = at-le-length held targets at is in
          let within : at < length targets = omega (arith, most, w.if-place-len.false) in
          with_target-before held targets at is within
          (ap (comes_before held) (sym (get_or_read targets at w.index.result.now within w.index.ensures held))
          ∙ sym w.comes_before.ensures ∙ w.if-comes_before.true)
    ] in
    c.in_ok-insert.ensures.items ∙ put

pub returns-else-comes_before : goal.returns-else-comes_before
returns-else-comes_before c =
    let held = c.args.held in
    let targets = c.args.targets.now.items in
    let at = c.place_of-place.result in
    let is = place-is held c.as_slice.result.now targets at c.as_slice.ensures.value c.place_of-place.ensures in
    let most = at-le-length held targets at is in
    let within : at < length targets = omega (arith, most, c.if-place-len.false) in
    with_target-there held targets at is within
    (ap (comes_before held) (sym (get_or_read targets at c.index.result.now within c.index.ensures held))
    ∙ sym c.comes_before.ensures ∙ c.if-comes_before.false)
