use Rattle.std.proofs.Common.{◌≡◌, ◌∙◌, [], List, false, arith, subst, sym}
use Rattle.std.proofs.lemmas.List.{get_or_read}
use Rattle.std.proofs.lemmas.Result.{IfOk-weaker}
use Rattle.lx_regs.specs.declared.live.Usage.{Usage}
use Rattle.lx_regs.specs.LiveSets.{AreInOrder}
use Rattle.lx_regs.specs.Liveness.{AreHeldBehind, usages_at}
use Rattle.lx_regs.proofs.LiveRegisters.LiveBehind.{live-behind}
use Rattle.lx_regs.proofs.LiveRegisters.PairSearch.{edge-within}
use Rattle.lx_regs.proofs.live.Liveness.behind.Goals as goal

pub index-requires-2 : goal.index-requires-2
index-requires-2 c =
    let within = edge-within c.args.auto.now c.args.state c.args.edge.now c.requires.known.formed c.requires.edge in
    omega (arith, within, c.requires.known.usages.fit, c.args.self.now.usages.ok.0)

pub held_behind-requires-clause-order : goal.held_behind-requires-clause-order
held_behind-requires-clause-order c =
    let within = edge-within c.args.auto.now c.args.state c.args.edge.now c.requires.known.formed c.requires.edge in
    let usages : c.as_slice-usages.result.now ≡ usages_at c.args.self.now.usages.items c.args.edge.now.to =
    c.as_slice-usages.ensures
    ∙ get_or_read c.args.self.now.usages.items c.args.edge.now.to c.index-2.result.now (omega (arith, within, c.requires.known.usages.fit))
    c.index-2.ensures [] in
    subst (λ (l : List Usage). AreInOrder l) (sym usages) (c.requires.known.order c.args.edge.now.to)

pub returns-clause-live : goal.returns-clause-live
returns-clause-live c =
    let within = edge-within c.args.auto.now c.args.state c.args.edge.now c.requires.known.formed c.requires.edge in
    let usages : c.as_slice-usages.result.now ≡ usages_at c.args.self.now.usages.items c.args.edge.now.to =
    c.as_slice-usages.ensures
    ∙ get_or_read c.args.self.now.usages.items c.args.edge.now.to c.index-2.result.now (omega (arith, within, c.requires.known.usages.fit))
    c.index-2.ensures [] in
    let liveness = c.args.self.now in
    let state = c.args.state in
    let known = c.requires.known in
    let marked = get_or_read liveness.marks.items state c.index.result.now (omega (arith, c.requires.within, known.marks.fit))
    c.index.ensures false in
    IfOk-weaker c.held_behind.result _ _
    (λ registers behind.
    live-behind c.args.auto.now known.formed liveness known state c.args.edge.now c.requires.edge registers.items
    (sym marked ∙ c.if-not-index.false)
    (subst (λ (l : List Usage). AreHeldBehind liveness.numbers.items liveness.pairs state l registers.items) usages behind))
    c.held_behind.ensures.held
