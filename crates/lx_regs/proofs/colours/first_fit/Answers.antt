use Rattle.std.proofs.Common.{◌+◌, ◌∙◌, ◌∷◌, [], ap, length, subst, sym}
use Rattle.std.proofs.lemmas.List.{length-append}
use Rattle.lx_regs.specs.Colours.{IsFirstFit, IsLeastFree}
use Rattle.lx_regs.specs.Graphs.{list_at}
use Rattle.lx_regs.proofs.SharedNames.ColourSteps.{first_fit-pushed}
use Rattle.lx_regs.proofs.colours.first_fit.Goals as goal

pub loop-number-preserved : goal.loop-number-preserved
loop-number-preserved c =
    let graph = c.args.graph.now in
    let colours = c.loop-number.colours.items in
    let colour = c.in_ok-colour.colour in
    let near = c.neighbours_of.ensures ∙ ap (list_at graph.neighbours.items) (sym c.loop-number.invariant.count) in
    let least = subst (λ l. IsLeastFree l c.neighbours_of.result.now colour) c.deref.ensures.value c.in_ok-colour.ensures.least in
    record {
      count = ap length c.in_ok-push.ensures.items ∙ length-append colours (colour ∷ []) ∙ ap (λ n. n + 1) c.loop-number.invariant.count;
      fit = subst (IsFirstFit graph) (sym c.in_ok-push.ensures.items)
          (first_fit-pushed graph colours colour c.loop-number.invariant.fit (subst (λ l. IsLeastFree colours l colour) near least));
    }
