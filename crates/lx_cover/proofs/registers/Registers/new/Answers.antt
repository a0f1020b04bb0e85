use Rattle.std.proofs.Common.{◌≡◌, [], None, replicate, get_or, ap, ◌∙◌, rules}
use Rattle.lx_auto.specs.Bank.{empty_bank}
use Rattle.lx_cover.proofs.OpSteps.{nothing-at, same-bank}
use Rattle.lx_cover.specs.Registers.{bank_of}
use Rattle.lx_cover.proofs.registers.Registers.new.Goals as goal

pub returns-clause-empty : goal.returns-clause-empty
returns-clause-empty c =
    let auto = c.args.auto.now in
    let values : c.in_ok-vec.field-0.items ≡ replicate auto.regs None =
    c.in_ok-vec.ensures.items_if_clones_equal (λ y e. search (rules, e)) in
    same-bank (bank_of (record { values = c.in_ok-vec.field-0; histories = c.in_ok-empty_histories.field-0 })) empty_bank
    (λ reg. ap (λ l. get_or l reg None) values ∙ nothing-at None auto.regs reg)
    (λ mreg. ap (λ l. get_or l mreg []) c.in_ok-empty_histories.ensures ∙ nothing-at [] auto.mregs mreg)
