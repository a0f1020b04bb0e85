use Rattle.std.proofs.Common.{◌≡◌, ◌∙◌, ap, sym, subst, suc, Bool, if◌then◌else◌, Some, arith}
use Rattle.lx_ccode.specs.States.{state_block}
use Rattle.lx_step.proofs.Returns.{state_block-behind}
use Rattle.lx_step.proofs.states.return_before.Goals as goal

pub returns-then-goes_on : goal.returns-then-goes_on
returns-then-goes_on c =
    subst (λ (goes_on : Bool). state_block c.args.blocks.now c.in-Some-State.state ≡ Some (if goes_on then suc c.args.at.block else c.args.at.block)) c.if-goes_on.true
    (state_block-behind c.args.blocks.now c.args.at.block c.args.at.code.now c.in_ok-before.before c.args.at.stmt c.in-Some-State.state c.try_first-goes_on.result c.requires.once c.requires.block
    (sym c.in-Some-State.ensures ∙ ap Some c.in-Some-State.field-0-is) c.in_ok-before.ensures c.try_first-goes_on.ensures)
    ∙ ap Some (omega arith)

pub returns-else-goes_on : goal.returns-else-goes_on
returns-else-goes_on c =
    subst (λ (goes_on : Bool). state_block c.args.blocks.now c.in-Some-State.state ≡ Some (if goes_on then suc c.args.at.block else c.args.at.block)) c.if-goes_on.false
    (state_block-behind c.args.blocks.now c.args.at.block c.args.at.code.now c.in_ok-before.before c.args.at.stmt c.in-Some-State.state c.try_first-goes_on.result c.requires.once c.requires.block
    (sym c.in-Some-State.ensures ∙ ap Some c.in-Some-State.field-0-is) c.in_ok-before.ensures c.try_first-goes_on.ensures)
