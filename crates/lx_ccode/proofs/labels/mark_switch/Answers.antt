use Rattle.std.proofs.Common.{◌∙◌, ◌∷◌, [], ap, map, set, sym, true}
use Rattle.lx_ccode.proofs.LabelMarks.{marked-append}
use Rattle.lx_ccode.proofs.labels.mark_switch.Goals as goal

pub returns : goal.returns
returns c =
    c.mark.ensures ∙ ap (λ labels. set labels c.args.last true) c.mark_cases.ensures
    ∙ sym (marked-append c.args.labels.now.items (map (λ case. case.block) c.args.cases.now) (c.args.last ∷ []))
