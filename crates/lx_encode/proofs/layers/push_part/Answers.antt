use Rattle.std.proofs.Common.{◌⊎◌, ◌↔◌, ◌∷◌, [], sym, subst, arith}
use Rattle.lx_encode.specs.Runs.{AreSorted, LeadsTo}
use Rattle.lx_encode.specs.Layers.{AreParts}
use Rattle.lx_encode.proofs.RunLists.{LeadsTo-append}
use Rattle.lx_encode.proofs.Parts.{AreSorted-push, AreParts-push}
use Rattle.lx_encode.proofs.layers.push_part.Goals as goal

pub returns-clause-sorted : goal.returns-clause-sorted
returns-clause-sorted c =
    subst (λ l. AreSorted l) (sym c.in_ok-push.ensures.items)
    (AreSorted-push 0 c.args.parts.now.items c.args.part c.requires.behind (omega arith) c.requires.ordered c.requires.bounded c.requires.sorted)

pub returns-clause-parts : goal.returns-clause-parts
returns-clause-parts c =
    subst (λ l. AreParts c.args.radix l) (sym c.in_ok-push.ensures.items)
    (AreParts-push c.args.radix c.args.parts.now.items c.args.part c.requires.part c.requires.parts)

pub returns-clause-leads : goal.returns-clause-leads
returns-clause-leads c = λ number target.
    let xs = c.args.parts.now.items in
    let added = c.args.part ∷ [] in
    subst (λ l. LeadsTo l number target ↔ (LeadsTo xs number target ⊎ LeadsTo added number target)) (sym c.in_ok-push.ensures.items)
    (LeadsTo-append xs added number target)
