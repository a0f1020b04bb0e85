use Rattle.std.proofs.Common.{◌∙◌, ◌++◌, ◌<◌, Bool, List, None, ap, length, subst, sym, if◌then◌else◌}
use Rattle.std.proofs.lemmas.Result.{on_ok_weaker}
use Rattle.lx_auto.proofs.States.{state_formed}
use Rattle.lx_auto.specs.Automaton.{AreOps, IsAccept, LeadWithin}
use Rattle.lx_auto.specs.declared.automaton.State.{State}
use Rattle.lx_layout.specs.LaidParts.{class_blocks, fall_at, rule_at}
use Rattle.lx_layout.specs.Layout.{end_blocks}
use Rattle.lx_layout.specs.Plans.{unlabelled}
use Rattle.lx_dispatch.specs.Views.{seen_classes}
use Rattle.lx_dispatch.specs.declared.classes.TransitionClass.{TransitionClass}
use Rattle.lx_layout.proofs.BlockLayouts.BlockLoops.{LeadWithin-transition_classes}
use Rattle.lx_layout.proofs.Laying.Planned.{plan_classes, plan_given, plan_planned}
use Rattle.lx_layout.proofs.Laying.StateBlocks.{state_branches}
use Rattle.lx_layout.proofs.part_states.append_branches.Goals as goal

pub append_classes-requires-clause-leave : goal.append_classes-requires-clause-leave
append_classes-requires-clause-leave c =
    let plans = c.args.places.now.ends.plans in
    let auto = plans.input.auto.now in
    let number = c.args.spot.number in
    let given = plan_given plans c.requires.places.ends.plans number c.requires.spot.within c.index-plan.result.now c.index-plan.ensures in
    subst (λ (s : State). AreOps auto.regs auto.mregs s.leave) (sym given) (state_formed auto number c.requires.places.ends.plans.formed).leave

pub append_classes-requires-clause-lead : goal.append_classes-requires-clause-lead
append_classes-requires-clause-lead c =
    let plans = c.args.places.now.ends.plans in
    let auto = plans.input.auto.now in
    let number = c.args.spot.number in
    let classes = ap (λ (l : List TransitionClass). seen_classes l) c.as_slice.ensures
    ∙ plan_classes plans c.requires.places.ends.plans number c.requires.spot.within c.index-plan.result.now c.index-plan.ensures in
    let formed = state_formed auto number c.requires.places.ends.plans.formed in
    subst (λ l. LeadWithin auto.regs auto.mregs (length auto.states) l) (sym classes)
    (LeadWithin-transition_classes auto.regs auto.mregs (length auto.states) _ formed.lead)

pub append_end-requires-clause-there : goal.append_end-requires-clause-there
append_end-requires-clause-there c =
    let plans = c.args.places.now.ends.plans in
    let auto = plans.input.auto.now in
    let number = c.args.spot.number in
    let given = plan_given plans c.requires.places.ends.plans number c.requires.spot.within c.index-plan.result.now c.index-plan.ensures in
    subst (λ (s : State). IsAccept auto.regs auto.mregs s.accept) (sym given) (state_formed auto number c.requires.places.ends.plans.formed).accept

pub returns : goal.returns
returns c =
    let plans = c.args.places.now.ends.plans in
    let auto = plans.input.auto.now in
    let spot = c.args.spot in
    let are = c.requires.places.ends.plans in
    let plan = c.index-plan.result.now in
    let given = plan_given plans are spot.number c.requires.spot.within plan c.index-plan.ensures in
    let classes = ap (λ (l : List TransitionClass). seen_classes l) c.as_slice.ensures
    ∙ (plan_planned plans are spot.number c.requires.spot.within plan c.index-plan.ensures).classes in
    let front = c.append_tests_of.new.blocks.items in
    let turn = c.append_turn_of.new.blocks.items in
    on_ok_weaker c.append_end.result
    (λ put.
    state_branches plans spot.number spot.from plan.state.now given c.args.blocks.now.items front c.append_classes.new.blocks.items turn
    c.append_end.new.blocks.items (subst (λ (s : State). 0 < length s.edges) (sym given) c.requires.some) c.in_ok-append_tests_of.ensures
    (c.in_ok-append_classes.ensures ∙ ap (λ l. front ++ unlabelled (class_blocks plans plan.state.now l)) classes) c.in_ok-append_turn_of.ensures
    (put ∙ ap (λ (t : Bool). turn ++ unlabelled (end_blocks auto (rule_at plans) (fall_at plans) (if t then plan.state.now.accept else None))) c.halts-halts.ensures))
    c.append_end.ensures
