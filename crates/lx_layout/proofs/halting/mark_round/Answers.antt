use Rattle.std.proofs.Common.{◌≡◌, ◌+◌, ◌-◌, ◌∙◌, ◌&&◌, not, length, ap, arith, false, slice_index_or, sym, subst, refl, Bool}
use Rattle.std.proofs.lemmas.List.{get_or_default}
use Rattle.lx_auto.specs.Automaton.{state_of}
use Rattle.lx_auto.specs.declared.automaton.State.{State}
use Rattle.lx_layout.specs.Marks.{falls_by}
use Rattle.lx_layout.proofs.halting.mark_round.Goals as goal
use Rattle.lx_layout.proofs.halting.mark_round.Goals.{then-mark, else-mark}
use Rattle.lx_layout.proofs.Laying.FallRounds.{RoundStands, round_left, round_marked}

pub loop-index-preserved : goal.loop-index-preserved
loop-index-preserved c =
    let halts = c.args.halts.now in
    let states = c.args.states.now in
    let falls = c.loop-index.falls.items in
    let index = c.loop-index.index in
    let number = length states - 1 - index in
    let within = c.loop-index-test.true in
    let here : c.index-states-number.result ≡ state_of states number =
    c.index-states-number.is ∙ get_or_default states number c.index-states-number.result _ (omega (arith, within)) in
    let asked = c.mark.ensures.asked
    ∙ ap (λ (given : State). not (slice_index_or falls number false) && falls_by falls (slice_index_or halts number false) given) here in
    elim c.if-mark.branch [
      | then-mark w ↦
          subst (λ (b : Bool). RoundStands halts states c.args.falls.now.items c.mark.new.falls.items b (index + 1)) (sym w.changed-is)
          (round_marked halts states c.args.falls.now.items falls c.mark.new.falls.items c.loop-index.changed c.mark.result index number
          c.loop-index.invariant within refl asked c.mark.ensures.after w.if-mark.true)
      | else-mark w ↦
          subst (λ (b : Bool). RoundStands halts states c.args.falls.now.items c.mark.new.falls.items b (index + 1)) (sym w.changed-is)
          (round_left halts states c.args.falls.now.items falls c.mark.new.falls.items c.loop-index.changed c.mark.result index number
          c.loop-index.invariant within refl asked c.mark.ensures.after w.if-mark.false)
    ]
