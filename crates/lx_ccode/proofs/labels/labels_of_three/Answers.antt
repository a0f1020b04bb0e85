use Rattle.std.proofs.Common.{◌∙◌, ap, false, sym, true}
use Rattle.lx_ccode.proofs.LabelMarks.{labels_marked}
use Rattle.lx_ccode.proofs.labels.labels_of_three.Goals as goal
use Rattle.lx_ccode.proofs.labels.labels_of_three.Goals.{then-starts_by_label, else-starts_by_label}

pub returns : goal.returns
returns c =
    let none = rw c.as_slice-blocks.ensures at c.in_ok-labels.ensures in
    let jumps = rw c.as_slice-blocks.ensures at c.mark_jumps.ensures in
    let returns = rw c.as_slice-blocks.ensures at c.mark_returns.ensures in
    elim c.if-starts_by_label.branch [
      | then-starts_by_label w ↦ labels_marked c.args.piece.now true _ _ _ _ (sym w.if-starts_by_label.true ∙ c.starts_by_label.ensures) none jumps returns
          (ap (λ labels. labels.items) w.labels-is ∙ w.mark.ensures)
      | else-starts_by_label w ↦ labels_marked c.args.piece.now false _ _ _ _ (sym w.if-starts_by_label.false ∙ c.starts_by_label.ensures) none jumps returns
          (ap (λ labels. labels.items) w.labels-is)
    ]
