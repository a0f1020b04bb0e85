use Rattle.std.proofs.Common.{◌∙◌, ap, sym, ◌+◌, drop, append_assoc}
use Rattle.std.specs.Prelude.{codes}
use Rattle.lx_run.specs.Values.{entries_text}
use Rattle.lx_run.proofs.PutTexts.{HasGiven-more, IsPut-refused, drop-next}
use Rattle.lx_run.proofs.values.put_entries.Goals as goal

pub returns-in_err-put_entry : goal.returns-in_err-put_entry
returns-in_err-put_entry g c =
    let next = ap entries_text (drop-next c.args.entries.now c.loop-entry.entry-index _ c.loop-entry-test.true)
    ∙ sym (append_assoc (codes ",") _ (entries_text (drop (c.loop-entry.entry-index + 1) c.args.entries.now))) in
    IsPut-refused _ _ _ c.from_residual.result next c.loop-entry.invariant c.in_err-put_entry.ensures c.from_residual.ensures.1

pub loop-entry-preserved : goal.loop-entry-preserved
loop-entry-preserved g c =
    let next = ap entries_text (drop-next c.args.entries.now c.loop-entry.entry-index _ c.loop-entry-test.true)
    ∙ sym (append_assoc (codes ",") _ (entries_text (drop (c.loop-entry.entry-index + 1) c.args.entries.now))) in
    HasGiven-more _ _ _ next c.loop-entry.invariant c.in_ok-put_entry.ensures
