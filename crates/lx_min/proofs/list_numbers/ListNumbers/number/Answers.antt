use Rattle.std.proofs.Common.{List, ap, subst}
use Rattle.std.specs.Cmp.Lexicographic.{pointwise}
use Rattle.std.specs.Map.{lookup}
use Rattle.lx_auto.specs.contracts.ops.OpPartialEq.TheImpl.{eq-value}
use Rattle.lx_auto.specs.declared.ops.Op.{Op}
use Rattle.lx_min.specs.Numbers.{Keeps, seen_lists}
use Rattle.lx_min.proofs.ListNumbers.{AreDistinct-lists, AreListNumbers-kept, AreListNumbers-put, AreListNumbers-same, IsListNumber-stored, Keeps-lists}
use Rattle.lx_min.proofs.list_numbers.ListNumbers.number.Goals as goal

pub invariant_of-self-in_err-insert : goal.invariant_of-self-in_err-insert
invariant_of-self-in_err-insert c =
    let old = c.self.inside.lists.keys in
    let new = c.insert_full.new.self.keys in
    let told = c.in_ok-number.ensures in
    let keeps = Keeps-lists old new c.in_ok-list.list told.keys in (
      AreDistinct-lists new told.unique,
      AreListNumbers-same (seen_lists new) _ _
          (λ ops. ap (lookup (λ other. pointwise eq-value.it ops.now other.now)) c.in_err-insert.ensures.err)
          (AreListNumbers-kept (seen_lists old) (seen_lists new) _ keeps c.self.invariant.1),
    )

pub invariant_of-self-2 : goal.invariant_of-self-2
invariant_of-self-2 c =
    let old = c.self.inside.lists.keys in
    let new = c.insert_full.new.self.keys in
    let told = c.in_ok-number.ensures in
    let keeps = Keeps-lists old new c.in_ok-list.list told.keys in
    let number = IsListNumber-stored new c.args.ops.now c.in_ok-list.list c.in_ok-number.number c.in_ok-list.ensures told.stored in (
      AreDistinct-lists new told.unique,
      AreListNumbers-put (seen_lists new) _ _ c.args.ops c.in_ok-number.number c.in_ok-insert.ensures.updates.0
          (AreListNumbers-kept (seen_lists old) (seen_lists new) _ keeps c.self.invariant.1) number,
    )

pub returns-clause-number : goal.returns-clause-number
returns-clause-number c =
    IsListNumber-stored c.insert_full.new.self.keys c.args.ops.now c.in_ok-list.list c.in_ok-number.number c.in_ok-list.ensures
    c.in_ok-number.ensures.stored

pub returns-clause-keeps : goal.returns-clause-keeps
returns-clause-keeps c =
    let old = c.self.inside.lists.keys in
    let new = c.insert_full.new.self.keys in
    subst (λ (lists : List (List Op)). Keeps lists (seen_lists new)) c.self.view_is
    (Keeps-lists old new c.in_ok-list.list c.in_ok-number.ensures.keys)

pub returns-clause-distinct : goal.returns-clause-distinct
returns-clause-distinct c = AreDistinct-lists c.insert_full.new.self.keys c.in_ok-number.ensures.unique
