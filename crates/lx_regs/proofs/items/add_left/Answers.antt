use Rattle.std.proofs.Common.{◌∙◌, sym}
use Rattle.std.proofs.lemmas.List.{get_or_read}
use Rattle.lx_regs.specs.LeftGroups.{lists_of}
use Rattle.lx_regs.proofs.LiveRegisters.FirstItems.{grows-left}
use Rattle.lx_regs.proofs.items.add_left.Goals as goal

pub returns : goal.returns
returns c =
    let read = get_or_read c.args.groups.now.numbers.items c.args.pair.state c.index.result.now c.requires c.index.ensures 0 in
    grows-left c.args.groups.now.numbers.items (lists_of c.args.groups.now.lists.keys) c.args.pair c.keys.result.now c.args.found.now
    c.add_keys.new.found
    (sym read ∙ c.if-index-ne0.false) c.keys.ensures c.in_ok-add_keys.ensures
