-- What is live in the automaton of the examples.
use Rattle.std.proofs.Common.{◌≡◌, zero, suc, [], ◌∷◌, Some, None, Bool, true, false, refl, nat_eq, if◌then◌else◌, Contains, sym, ap, ◌∙◌, subst, arith}
use Rattle.lx_auto.specs.declared.automaton.Accept.{Accept}
use Rattle.lx_auto.specs.declared.automaton.Edge.{Edge}
use Rattle.lx_auto.specs.declared.automaton.Held.{Held}
use Rattle.lx_auto.specs.declared.automaton.Held.TheVariants.{Reg, MReg}
use Rattle.lx_auto.specs.declared.ops.Op.TheVariants.{Here}
use Rattle.lx_auto.specs.Effects.{here, held_by, Reads, effect_of, effect_of_both}
use Rattle.lx_auto.specs.Examples.{dotted}
use Rattle.lx_auto.specs.Live.{IsLive, by_accept, by_fallback, onward}
use Rattle.lx_auto.specs.Points.{Point, first_point, point_behind, state_at, values_left}
use Rattle.lx_auto.proofs.Effects.{effect_of_both-none_first, effect_of_both-none_second}

pub live-after_dot : IsLive dotted (record { state = 0; left = Some 1 }) (Reg 0)
live-after_dot = by_fallback (record { state = 0; left = Some 1 }) (Reg 0) refl (0, omega arith, refl)

-- a list that writes register 0 does not read it
not_read : (next held : Held) → held ≡ Reg 0 → Reads (effect_of (Here 0 ∷ []) next) held → ⊥
not_read (MReg mreg) held is reads = cc (reads, is)
not_read (Reg reg) held is reads = at (nat_eq reg 0) refl reads
  where
    at : (b : Bool) → nat_eq reg 0 ≡ b → Reads (if b then here else held_by reg) held → ⊥
    at true test reads = reads
    at false test reads =
        let zero_is : reg ≡ 0 = inner (reads ∙ is) in
        cc (sym test ∙ ap (λ n. nat_eq n 0) zero_is)
      where
        inner : Reg reg ≡ Reg 0 → reg ≡ 0
        inner same = cc same

only : (value : Held) → Contains (Reg 0 ∷ []) value → Reg 0 ≡ value
only value (zero, within, is) = is
only value (suc place, within, is) = absurd (omega arith)

-- state 1 writes it where it is left, and where a match ends
not_live-state_1 : (point : Point) (held : Held) → point ≡ record { state = 1; left = None } → held ≡ Reg 0 → IsLive dotted point held → ⊥
not_live-state_1 point held at is (by_accept _ _ accept value accepts has reads) =
    let same : record { rule = 1; ops = Here 0 ∷ []; values = Reg 0 ∷ [] } ≡ accept = inner (sym (ap (λ p. (state_at dotted p).accept) at) ∙ accepts) in
    not_read value held is (subst (λ (a : Accept). Reads (effect_of a.ops value) held) (sym same) reads)
  where
    inner : Some (record { rule = 1; ops = Here 0 ∷ []; values = Reg 0 ∷ [] }) ≡ Some accept
        → record { rule = 1; ops = Here 0 ∷ []; values = Reg 0 ∷ [] } ≡ accept
    inner same = cc same
not_live-state_1 point held at is (by_fallback _ _ none has) = absurd (cc (sym (ap (λ p. (state_at dotted p).accept) at) ∙ none))
not_live-state_1 point held at is (onward _ _ edge next has live reads) =
    let edges = subst (λ p. Contains (state_at dotted p).edges edge) at has in
    let leaves = subst (λ p. Reads (effect_of_both (state_at dotted p).leave edge.ops next) held) at reads in
    let alone = subst (λ ops. Reads (effect_of_both (Here 0 ∷ []) ops next) held) (no_ops edges) leaves in
    not_read next held is (subst (λ e. Reads e held) (effect_of_both-none_second (Here 0 ∷ []) next) alone)
  where
    no_ops : Contains (record { lo = 46; hi = 46; ops = []; to = 0 } ∷ []) edge → edge.ops ≡ []
    no_ops (zero, within, same) = ap (λ (e : Edge). e.ops) (sym same)
    no_ops (suc place, within, same) = absurd (omega arith)

-- no operation stands on the edges of state 0, which lead to state 1
not_live-first : (point : Point) (held : Held) → point ≡ first_point → held ≡ Reg 0 → IsLive dotted point held → ⊥
not_live-first point held at is (by_accept _ _ accept value accepts has reads) =
    absurd (cc (sym (ap (λ p. (state_at dotted p).accept) at) ∙ accepts))
not_live-first point held at is (by_fallback _ _ none has) =
    let nowhere : Contains [] held = subst (λ (p : Point). Contains (values_left dotted p.left) held) at has in absurd (omega (arith, nowhere.1))
not_live-first point held at is (onward _ _ edge next has live reads) =
    let plain = edges_of (subst (λ p. Contains (state_at dotted p).edges edge) at has) in
    let leaves = subst (λ p. Reads (effect_of_both (state_at dotted p).leave edge.ops next) held) at reads in
    let alone = subst (λ ops. Reads (effect_of_both [] ops next) held) plain.1 leaves in
    let same = reads_itself next (subst (λ e. Reads e held) (effect_of_both-none_first [] next) alone) in
    not_live-state_1 (point_behind dotted point edge) next (ap (λ p. point_behind dotted p edge) at ∙ (λ i. record { state = plain.0 i; left = None })) (same ∙ is) live
  where
    edges_of : Contains (state_at dotted first_point).edges edge → (edge.to ≡ 1) × (edge.ops ≡ [])
    edges_of (zero, within, same) = (ap (λ (e : Edge). e.to) (sym same), ap (λ (e : Edge). e.ops) (sym same))
    edges_of (suc zero, within, same) = (ap (λ (e : Edge). e.to) (sym same), ap (λ (e : Edge). e.ops) (sym same))
    edges_of (suc (suc place), within, same) = absurd (omega arith)

    reads_itself : (other : Held) → Reads (effect_of [] other) held → other ≡ held
    reads_itself (Reg reg) reads = reads
    reads_itself (MReg mreg) reads = reads

pub not_live-at_first : IsLive dotted first_point (Reg 0) → ⊥
not_live-at_first live = not_live-first first_point (Reg 0) refl refl live
