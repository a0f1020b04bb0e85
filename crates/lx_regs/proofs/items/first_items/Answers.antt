use Rattle.std.proofs.Common.{List, arith, subst}
use Rattle.std.specs.Prelude.{Contains}
use Rattle.lx_regs.specs.declared.reached.Pair.{Pair}
use Rattle.lx_regs.specs.Growth.{Grows, IsDueForSome}
use Rattle.lx_regs.specs.Items.{IsLeft}
use Rattle.lx_regs.specs.LeftGroups.{lists_of}
use Rattle.lx_regs.proofs.LiveRegisters.PairSearch.{reached-within}
use Rattle.lx_regs.proofs.LiveRegisters.RightItems.{begun}
use Rattle.lx_regs.proofs.items.first_items.Goals as goal

pub add_all_left-requires : goal.add_all_left-requires
add_all_left-requires c = λ pair has.
    let (left, reached, group) = c.requires.pairs.sound pair (subst (λ (l : List Pair). Contains l pair) c.as_slice.ensures has) in
    let within = reached-within c.args.auto.now (record { state = pair.state; left = left }) c.requires.formed reached in
    omega (arith, within, c.requires.groups.fit)

pub returns : goal.returns
returns c =
    let numbers = c.args.groups.now.numbers.items in
    let lists = lists_of c.args.groups.now.lists.keys in
    begun c.args.auto.now c.requires.formed numbers lists c.requires.groups c.args.pairs.now c.requires.pairs.sound c.new-found.result
    c.add_accepts.new.found
    c.add_all_left.new.found c.new-found.ensures c.in_ok-add_accepts.ensures
    (subst (λ (l : List Pair). Grows (IsDueForSome l (IsLeft numbers lists)) c.add_accepts.new.found c.add_all_left.new.found)
    c.as_slice.ensures
    c.in_ok-add_all_left.ensures)
