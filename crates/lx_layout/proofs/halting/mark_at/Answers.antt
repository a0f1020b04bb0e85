use Rattle.std.proofs.Common.{◌≡◌, ◌∙◌, ◌&&◌, not, ap, false, slice_index_or}
use Rattle.std.proofs.lemmas.List.{get_or_default}
use Rattle.lx_auto.specs.Automaton.{state_of}
use Rattle.lx_auto.specs.declared.automaton.State.{State}
use Rattle.lx_layout.specs.Marks.{falls_by}
use Rattle.lx_layout.proofs.Laying.FallRounds.{mark_stands}
use Rattle.lx_layout.proofs.halting.mark_at.Goals as goal

pub returns : goal.returns
returns c =
    let halts = c.args.halts.now in
    let states = c.args.states.now in
    let falls = c.args.falls.now.items in
    let number = c.args.number in
    let within = c.if-states-number.false in
    let here : c.index-states-number.result ≡ state_of states number =
    c.index-states-number.is ∙ get_or_default states number c.index-states-number.result _ within in
    let asked = c.mark.ensures.asked
    ∙ ap (λ (given : State). not (slice_index_or falls number false) && falls_by falls (slice_index_or halts number false) given) here in
    let stands = mark_stands halts states falls c.mark.new.falls.items c.mark.result number within c.requires.long asked c.mark.ensures.after in
    record {
      long = stands.long ∙ c.requires.long;
      sound = stands.sound;
      fewer = stands.fewer;
      most = stands.most;
    }
