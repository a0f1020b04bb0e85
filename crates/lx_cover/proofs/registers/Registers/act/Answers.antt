use Rattle.std.proofs.Common.{◌++◌, length, ap, ◌∙◌}
use Rattle.lx_auto.specs.Bank.{bank_after, history_added}
use Rattle.lx_cover.proofs.OpSteps.{same-bank}
use Rattle.lx_cover.specs.Registers.{bank_of}
use Rattle.lx_cover.proofs.registers.Registers.act.Goals as goal

pub write_values-requires-clause-ops : goal.write_values-requires-clause-ops
write_values-requires-clause-ops c = (length c.args.self.now.histories.items, c.requires)

pub returns-clause-bank : goal.returns-clause-bank
returns-clause-bank c =
    let self = c.args.self.now in
    let offset = c.args.offset in
    let ops = c.args.ops.now in
    same-bank (bank_of (record { values = c.write_values.new.values; histories = c.add_marks.new.histories }))
    (bank_after offset ops (bank_of self))
    (λ reg. c.write_values.ensures.written (bank_of self) offset reg (c.deref.ensures.value ∙ c.in_ok-values.ensures))
    (λ mreg.
    c.in_ok-add_marks.ensures.added mreg
    ∙ ap (λ l. l ++ history_added offset ops mreg) (c.write_histories.ensures.written (bank_of self) mreg c.in_ok-histories.ensures))
