use Rattle.std.proofs.Common.{◌≡◌, ◌∙◌, Some, ap, length, sym, subst}
use Rattle.std.specs.Prelude.{IfSome, slice_index}
use Rattle.lx_tnfa.specs.Making.{number_at, seen_owners, seen_tags}
use Rattle.lx_tnfa.specs.Tnfa.{Tnfa, kinds_for}
use Rattle.lx_tnfa.proofs.Construction.RuleOwners.{LooksUp, found-number, found-tags, owner_number, within}
use Rattle.lx_tnfa.proofs.tnfa.Tnfa.rule_at.Goals.{After-get-in-Some-Some}
use Rattle.lx_tnfa.proofs.tnfa.Tnfa.rule_at.Goals as goal

looked_up : (c : After-get-in-Some-Some) → LooksUp c.self.inside.rules.items c.in-Some-Some.index c.get-in-Some-Some.result
looked_up c =
    subst (λ rules. LooksUp rules c.in-Some-Some.index c.get-in-Some-Some.result) c.deref-in-Some-Some.ensures.value
    (record { there = c.get-in-Some-Some.ensures.lookup.0; rule = c.get-in-Some-Some.ensures.lookup.1 })

pub returns-in-Some-Some-clause-number : goal.returns-in-Some-Some-clause-number
returns-in-Some-Some-clause-number c =
    let seen = seen_tags c.self.inside.rules.items in
    let lookup = c.in-Some-Some.ensures.lookup in
    let found = owner_number seen c.deref.result.now c.args.part c.in-Some-Some.field-0.now (within c.args.part (length c.deref.result.now) lookup.0) lookup.1 in
    found-number c.self.inside.rules.items c.in-Some-Some.index (slice_index c.args.self.now.owners c.args.part) c.get-in-Some-Some.result (looked_up c)
    (ap (λ (t : Tnfa). slice_index t.owners c.args.part) (sym c.self.view_is)
    ∙ ap (λ l. slice_index (seen_owners seen l) c.args.part) (sym c.deref.ensures.value) ∙ found ∙ ap (number_at seen) c.in-Some-Some.field-0-is)

pub returns-in-Some-Some-clause-tags : goal.returns-in-Some-Some-clause-tags
returns-in-Some-Some-clause-tags c =
    subst (λ (t : Tnfa). IfSome c.get-in-Some-Some.result (λ rule. kinds_for t.rules rule.now.number ≡ Some rule.now.many.items)) c.self.view_is
    (found-tags c.self.inside.rules.items c.in-Some-Some.index c.get-in-Some-Some.result c.self.invariant.3 (looked_up c))
