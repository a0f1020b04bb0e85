use Rattle.std.proofs.Common.{ap, ◌<◌, ◌∙◌, [], List, arith, length, ℕ, subst}
use Rattle.std.specs.Prelude.{Contains}
use Rattle.std.proofs.lemmas.List.{get_or_read, length-map}
use Rattle.lx_auto.specs.declared.automaton.State.{State}
use Rattle.lx_auto.specs.declared.ops.Op.{Op}
use Rattle.lx_regs.specs.declared.arrows.Arrow.{Arrow}
use Rattle.lx_regs.specs.Arrows.{arrows_to}
use Rattle.lx_regs.specs.Growth.{Grows, IsDueForSome}
use Rattle.lx_regs.specs.Items.{IsItem, IsPrior, PassesBy}
use Rattle.lx_regs.specs.LeftGroups.{lists_of}
use Rattle.lx_regs.proofs.LiveRegisters.ArrowLists.{leave_at}
use Rattle.lx_regs.proofs.LiveRegisters.GrownLists.{search-more, search-starts}
use Rattle.lx_regs.proofs.LiveRegisters.ItemSearch.{begun-grown, grows-priors, items-bounded, items-found}
use Rattle.lx_regs.proofs.LiveRegisters.RightItems.{right-prior, state-within}
use Rattle.lx_regs.proofs.items.live_items.Goals as goal

pub loop-done-init : goal.loop-done-init
loop-done-init c =
    let numbers = c.args.groups.now.numbers.items in
    record {
      search = search-starts (IsItem c.args.auto.now numbers) (IsPrior c.args.auto.now numbers c.args.pairs.now) c.in_ok-found.found
          c.in_ok-found.ensures.sound;
      begun = c.in_ok-found.ensures;
    }

pub at-item-requires : goal.at-item-requires
at-item-requires c = omega (arith, c.len.ensures.count, c.loop-done-test.true)

pub loop-done-smaller : goal.loop-done-smaller
loop-done-smaller c =
    let bound = items-bounded c.args.auto.now c.args.groups.now.numbers.items c.loop-done.found c.len.ensures.distinct
    c.loop-done.invariant.search.right in
    omega (arith, bound, c.len.ensures.count, c.loop-done-test.true)

pub index-requires : goal.index-requires
index-requires c =
    let right = c.loop-done.invariant.search.right c.at-item.result
    (c.loop-done.done, omega (arith, c.len.ensures.count, c.loop-done-test.true), c.at-item.ensures) in
    omega (arith, right.state, c.in_ok-arrows.ensures.fit, c.in_ok-arrows.arrows.ok.0)

pub add_priors-requires-clause-within : goal.add_priors-requires-clause-within
add_priors-requires-clause-within c = λ arrow has.
    let lists = c.in_ok-arrows.arrows.items in
    let item = c.at-item.result in
    let right = c.loop-done.invariant.search.right item
    (c.loop-done.done, omega (arith, c.len.ensures.count, c.loop-done-test.true), c.at-item.ensures) in
    let list = c.as_slice-arrows.ensures
    ∙ get_or_read lists item.state c.index.result.now (omega (arith, right.state, c.in_ok-arrows.ensures.fit)) c.index.ensures [] in
    let within = (c.in_ok-arrows.ensures.sound item.state arrow (subst (λ (l : List Arrow). Contains l arrow) list has)).0 in
    let same = ap length c.as_slice-numbers.ensures.value in
    omega (arith, within, same, c.requires.groups.fit)

pub add_priors-requires-clause-fit : goal.add_priors-requires-clause-fit
add_priors-requires-clause-fit c =
    let same = ap length c.as_slice-numbers.ensures.value in
    let leaves = ap length c.as_slice.ensures.value in
    let all = ap length c.in_ok-leaves.ensures in
    omega (arith, same, leaves, all, length-map c.args.auto.now.states (λ (state : State). state.leave), c.requires.groups.fit)

pub loop-done-preserved : goal.loop-done-preserved
loop-done-preserved c =
    let auto = c.args.auto.now in
    let numbers = c.args.groups.now.numbers.items in
    let pairs = c.args.pairs.now in
    let found = c.loop-done.found in
    let new = c.add_priors.new.found in
    let lists = c.in_ok-arrows.arrows.items in
    let leaves = c.in_ok-leaves.leaves.items in
    let item = c.at-item.result in
    let formed = c.requires.formed in
    let lists_of_groups = lists_of c.args.groups.now.lists.keys in
    let within : c.loop-done.done < length found = omega (arith, c.len.ensures.count, c.loop-done-test.true) in
    let right = c.loop-done.invariant.search.right item (c.loop-done.done, within, c.at-item.ensures) in
    let list = c.as_slice-arrows.ensures
    ∙ get_or_read lists item.state c.index.result.now (omega (arith, right.state, c.in_ok-arrows.ensures.fit)) c.index.ensures [] in
    let by_arrows : Grows (IsDueForSome (arrows_to lists item.state) (PassesBy numbers pairs leaves item)) found new =
    subst (λ (l : List Arrow). Grows (IsDueForSome l (PassesBy numbers pairs leaves item)) found new) list
    (subst (λ (n : List ℕ). Grows (IsDueForSome c.as_slice-arrows.result.now (PassesBy n pairs leaves item)) found new)
    c.as_slice-numbers.ensures.value
    (subst (λ (l : List (List Op)). Grows (IsDueForSome c.as_slice-arrows.result.now (PassesBy c.as_slice-numbers.result.now pairs l item))
    found new)
    c.as_slice.ensures.value c.in_ok-add_priors.ensures)) in
    let grows = grows-priors auto numbers pairs lists leaves c.in_ok-arrows.ensures (leave_at auto.states leaves c.in_ok-leaves.ensures)
    (state-within auto formed numbers lists_of_groups c.requires.groups) item found new by_arrows in
    let search = search-more (IsItem auto numbers) (IsPrior auto numbers pairs) found new c.loop-done.done item c.loop-done.invariant.search
    within
    c.at-item.ensures grows
    (λ prior. right-prior auto formed numbers lists_of_groups c.requires.groups pairs c.requires.pairs.sound item prior right) in
    record {
      search = search;
      begun = begun-grown auto numbers lists_of_groups pairs item found new grows search.right c.loop-done.invariant.begun;
    }

pub returns : goal.returns
returns c =
    items-found c.args.auto.now c.args.groups.now.numbers.items (lists_of c.args.groups.now.lists.keys) c.args.pairs.now c.loop-done.found
    c.loop-done.done
    c.loop-done.invariant.search (omega (arith, c.len.ensures.count, c.loop-done-test.false)) c.loop-done.invariant.begun
