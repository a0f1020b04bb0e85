use Rattle.std.proofs.Common.{◌+◌, ◌≤◌, ◌∙◌, ◌∷◌, [], ap, length, subst, sym}
use Rattle.std.proofs.lemmas.List.{length-append}
use Rattle.lx_regs.specs.Colours.{AreColours, IsTaken}
use Rattle.lx_regs.specs.Graphs.{list_at}
use Rattle.lx_regs.proofs.SharedNames.ColourSteps.{colours-pushed}
use Rattle.lx_regs.proofs.colours.colours_by_partners.Goals as goal

pub loop-number-preserved : goal.loop-number-preserved
loop-number-preserved c =
    let graph = c.args.graph.now in
    let colours = c.loop-number.colours.items in
    let colour = c.colour_of-colour.result in
    let near = c.neighbours_of.ensures ∙ ap (list_at graph.neighbours.items) (sym c.loop-number.invariant.count) in
    let free = subst (λ l. IsTaken l c.neighbours_of.result.now colour → ⊥) c.deref.ensures.value c.colour_of-colour.ensures.free in
    let few = subst (λ l. colour ≤ length l) c.deref.ensures.value c.colour_of-colour.ensures.few in
    record {
      count = ap length c.in_ok-push.ensures.items ∙ length-append colours (colour ∷ []) ∙ ap (λ n. n + 1) c.loop-number.invariant.count;
      colours = subst (AreColours graph) (sym c.in_ok-push.ensures.items)
          (colours-pushed graph colours colour c.loop-number.invariant.colours (subst (λ l. IsTaken colours l colour → ⊥) near free) few);
    }
