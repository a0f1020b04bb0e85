use Rattle.std.proofs.Common.{◌≡◌, [], ◌∷◌, length, arith, sym, ap, ◌∙◌}
use Rattle.std.specs.Vec.Iter.{into_iter_items}
use Rattle.std.proofs.lemmas.List.{nil_from_length}
use Rattle.lx_compile.proofs.TakenLists.{AreTaken-auto, AreTaken-checks, AreTaken-first, AreTaken-like, AreTaken-own, AreTaken-start, no_auto, some_auto}
use Rattle.lx_compile.proofs.automata.taken_apart.Goals as goal

pub loop-item-init : goal.loop-item-init
loop-item-init c =
    let gives = c.into_iter-item-iterator.ensures.into_iter_gives in
    let items = gives.0 ∙ c.into_vec-item-items.ensures in record {
      taken = rw (items, c.new-lists.ensures) (AreTaken-start c.args.autos);
      count = let held = c.into_vec-item-items.result.ok in gives.1 ∙ held.0 ∙ ap length (sym gives.0);
    }

pub loop-item-preserved-then-is_none : goal.loop-item-preserved-then-is_none
loop-item-preserved-then-is_none c =
    let at = c.loop-item in
    let rest = into_iter_items c.next.new.self in
    let steps : into_iter_items at.item-iterator ≡ c.in-Some.item ∷ rest = c.in-Some.ensures.steps.0 in
    let gone = c.in-Some.ensures.steps.1 in
    let short = ap length steps in record {
      taken =
          rw c.in_ok-push-in-Own.ensures
          (AreTaken-first c.args.autos rest at.first at.lists c.requires c.in-Own.auto c.in-Own.checks (rw (steps, c.in-Own.is) at at.invariant.taken)
          (no_auto at.first c.if-is_none.ensures));
      count = let was = at.invariant.count in omega arith;
    }

pub loop-item-preserved-else-is_none : goal.loop-item-preserved-else-is_none
loop-item-preserved-else-is_none c =
    let at = c.loop-item in
    let rest = into_iter_items c.next.new.self in
    let steps : into_iter_items at.item-iterator ≡ c.in-Some.item ∷ rest = c.in-Some.ensures.steps.0 in
    let gone = c.in-Some.ensures.steps.1 in
    let short = ap length steps in
    let one = some_auto at.first c.if-is_none.ensures in record {
      taken =
          rw c.in_ok-push-in-Own.ensures
          (AreTaken-own c.args.autos rest at.first at.lists c.requires c.in-Own.auto c.in-Own.checks (rw (steps, c.in-Own.is) at at.invariant.taken)
          one.0 one.1);
      count = let was = at.invariant.count in omega arith;
    }

pub repeat_first-requires : goal.repeat_first-requires
repeat_first-requires c =
    let at = c.loop-item in
    let rest = into_iter_items c.next.new.self in
    let steps : into_iter_items at.item-iterator ≡ c.in-Some.item ∷ rest = c.in-Some.ensures.steps.0 in
    (AreTaken-like c.args.autos rest at.first at.lists c.requires c.in-AsFirst.field-0 (rw (steps, c.in-AsFirst.is) at at.invariant.taken)).0

pub loop-item-preserved : goal.loop-item-preserved
loop-item-preserved c =
    let at = c.loop-item in
    let rest = into_iter_items c.next.new.self in
    let steps : into_iter_items at.item-iterator ≡ c.in-Some.item ∷ rest = c.in-Some.ensures.steps.0 in
    let gone = c.in-Some.ensures.steps.1 in
    let short = ap length steps in
    let like =
    (AreTaken-like c.args.autos rest at.first at.lists c.requires c.in-AsFirst.field-0 (rw (steps, c.in-AsFirst.is) at at.invariant.taken)).1 in record {
      taken = rw (c.in_ok-repeat_first-in-AsFirst.ensures like.0 like.1) like.2;
      count = let was = at.invariant.count in omega arith;
    }

pub returns : goal.returns
returns c =
    let at = c.loop-item in
    let none = c.in-None.ensures.steps in
    let empty : into_iter_items at.item-iterator ≡ [] = nil_from_length (into_iter_items at.item-iterator) (sym at.invariant.count ∙ none.0) in
    let taken = rw empty at at.invariant.taken in
    record { first = AreTaken-auto c.args.autos at.first at.lists taken; checks = AreTaken-checks c.args.autos at.first at.lists taken }
