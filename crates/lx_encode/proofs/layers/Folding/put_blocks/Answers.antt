use Rattle.std.proofs.Common.{◌+◌, ◌-◌, ◌/◌, ◌∷◌, [], ◌++◌, ◌∙◌, ap, refl}
use Rattle.lx_encode.specs.declared.runs.Run.{Run}
use Rattle.lx_encode.proofs.FoldingSteps.{put_blocks_folding}
use Rattle.lx_encode.proofs.layers.Folding.put_blocks.Goals as goal

pub returns-clause-folded : goal.returns-clause-folded
returns-clause-folded c = λ runs behind folding.
    let old = c.args.self.now in
    let whole : Run = record { lo = c.args.layer.offset; hi = c.args.layer.offset + (c.args.layer.radix - 1); to = c.args.part.to } in
    put_blocks_folding c.args.layer c.requires.radix c.args.part c.requires.ordered runs old
    (record { closed = c.append_run.new.row; block = c.args.part.hi / c.args.layer.radix + 1; row = old.row })
    c.args.table.now c.residual_of.new.self folding c.in_ok-to.to c.requires.here c.requires.first c.requires.last refl refl behind
    c.requires.in_table.passed c.requires.in_table.within c.in_ok-append_run.ensures.leads c.in_ok-to.ensures.grows
    (c.in_ok-to.ensures.row ∙ c.in_ok-push.ensures.items ∙ ap (λ l. l ++ whole ∷ []) c.new-row.ensures.items)
