use Rattle.std.proofs.Common.{◌∙◌, List, Bool, ap, ap₂, length, subst}
use Rattle.lx_auto.specs.declared.automaton.State.{State}
use Rattle.lx_layout.specs.Marks.{AreFalls, halts_from}
use Rattle.lx_layout.proofs.Laying.HaltMarks.{are_halting, halts_from-length}
use Rattle.lx_layout.proofs.halting.marks_of.Goals as goal

pub falls_of-requires : goal.falls_of-requires
falls_of-requires c =
    ap length (c.as_slice.ensures.value ∙ c.in_ok-halts.ensures)
    ∙ halts_from-length c.args.greatest c.is_some.result c.start_is_entered-entered.result 0 c.as_slice-states.result.now

pub returns-clause-marked : goal.returns-clause-marked
returns-clause-marked c =
    let auto = c.args.auto.now in
    let entered = c.start_is_entered-entered.result in
    let halts = c.in_ok-halts.ensures
    ∙ ap₂ (λ stands (states : List State). halts_from c.args.greatest stands entered 0 states) c.is_some.ensures c.as_slice-states.ensures in
    let falls = subst (λ (l : List Bool). AreFalls l auto.states c.in_ok-falls.falls.items) c.as_slice.ensures.value
    (subst (λ (l : List State). AreFalls c.as_slice.result.now l c.in_ok-falls.falls.items) c.as_slice-states.ensures c.in_ok-falls.ensures) in
    are_halting c.args.eof c.args.end_rule c.args.greatest auto c.args.format c.requires entered c.start_is_entered-entered.ensures
    c.in_ok-halts.halts.items c.in_ok-falls.falls.items halts falls
