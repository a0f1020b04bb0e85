use Rattle.std.proofs.Common.{◌<◌, ◌∙◌, ◌++◌, ◌∷◌, [], List, ap, arith, get_or, length, set}
use Rattle.std.proofs.lemmas.List.{get_or_read}
use Rattle.std.proofs.lemmas.List.Elements.{Contains-get_or}
use Rattle.lx_regs.specs.declared.items.Item.{Item}
use Rattle.lx_regs.specs.declared.live.Usage.{Usage}
use Rattle.lx_regs.specs.declared.keys.Key.TheVariants.{Reg}
use Rattle.lx_regs.proofs.CutOperations.KeptUsages.{sorted-more, sorted-none}
use Rattle.lx_regs.proofs.live.by_state.Goals as goal

pub loop-item-init : goal.loop-item-init
loop-item-init c = sorted-none c.args.count c.args.items.now c.in_ok-lists.lists.items c.in_ok-lists.ensures

pub index_mut-requires : goal.index_mut-requires
index_mut-requires c =
    let small = c.requires _
    (Contains-get_or c.args.items.now c.loop-item.item-index (record { state = 0; group = 0; key = Reg 0 }) c.loop-item-test.true) in
    omega (arith, small, c.loop-item.invariant.fit, c.loop-item.lists.ok.0)

pub loop-item-preserved : goal.loop-item-preserved
loop-item-preserved c =
    let small = c.requires _
    (Contains-get_or c.args.items.now c.loop-item.item-index (record { state = 0; group = 0; key = Reg 0 }) c.loop-item-test.true) in
    let lists = c.loop-item.lists.items in
    let item : Item = get_or c.args.items.now c.loop-item.item-index (record { state = 0; group = 0; key = Reg 0 }) in
    let within : item.state < length lists = omega (arith, small, c.loop-item.invariant.fit) in
    let read = get_or_read lists item.state c.index_mut.result.now within c.index_mut.ensures.value [] in
    sorted-more c.args.count c.args.items.now c.loop-item.item-index (record { state = 0; group = 0; key = Reg 0 }) lists
    (set lists item.state c.push.new.self) c.loop-item-test.true small
    (ap (set lists item.state)
    (c.in_ok-push.ensures.pushed ∙ ap (λ (l : List Usage). l ++ record { group = item.group; key = item.key } ∷ []) read))
    c.loop-item.invariant
