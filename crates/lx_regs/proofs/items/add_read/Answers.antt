use Rattle.std.proofs.Common.{◌∙◌, ap}
use Rattle.lx_auto.specs.Effects.{effect_of}
use Rattle.lx_regs.specs.Keys.{held_of}
use Rattle.lx_regs.specs.Readers.{read_by}
use Rattle.lx_regs.proofs.LiveRegisters.FirstItems.{grows-no_read, grows-read, held_of-key_of}
use Rattle.lx_regs.proofs.LiveRegisters.ItemTests.{TellsEqual-items}
use Rattle.lx_regs.proofs.items.add_read.Goals as goal

pub returns-in_ok-add-in-Some : goal.returns-in_ok-add-in-Some
returns-in_ok-add-in-Some c =
    let same = ap held_of c.key_of.ensures ∙ held_of-key_of c.args.value in
    grows-read c.args.state c.args.ops.now c.args.value c.in-Some.key c.args.found.now c.add.new.self
    (c.in-Some.ensures ∙ ap (λ held. read_by (effect_of c.args.ops.now held)) same) (c.in_ok-add-in-Some.ensures TellsEqual-items)

pub returns-in-None : goal.returns-in-None
returns-in-None c =
    let same = ap held_of c.key_of.ensures ∙ held_of-key_of c.args.value in
    grows-no_read c.args.state c.args.ops.now c.args.value c.args.found.now
    (c.in-None.ensures ∙ ap (λ held. read_by (effect_of c.args.ops.now held)) same)
