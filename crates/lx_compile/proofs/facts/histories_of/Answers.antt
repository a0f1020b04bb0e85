use Rattle.std.proofs.Common.{◌∙◌, ◌++◌, ◌∷◌, [], ap, sym, arith}
use Rattle.lx_compile.proofs.ListedRegisters.{range_with_len-more}
use Rattle.lx_compile.proofs.facts.histories_of.Goals as goal

pub loop-history-preserved : goal.loop-history-preserved
loop-history-preserved c =
    let history = c.loop-history.history in
    c.in_ok-push.ensures.pushed ∙ ap (λ l. l ++ history ∷ []) c.loop-history.invariant
    ∙ sym (range_with_len-more 0 history history (omega arith))
