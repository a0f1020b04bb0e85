use Rattle.std.proofs.Common.{◌≡◌, ◌||◌, ◌&&◌, refl, ◌∙◌, subst}
use Rattle.lx_auto.specs.declared.automaton.Held.{Held}
use Rattle.lx_regs.specs.Dead.{KeepsWanted}
use Rattle.lx_regs.specs.HeldSets.{has}
use Rattle.lx_regs.specs.KeptLists.{IsListed, is_read}
use Rattle.lx_regs.proofs.CutOperations.CutSteps.{edge-keeps, edge-reads}
use Rattle.lx_regs.proofs.dead.Source.cut_edge.Goals as goal

pub returns-clause-cut : goal.returns-clause-cut
returns-clause-cut c =
    let live = c.in_ok-live.live.items in
    let kept = c.in_ok-ops.ops in
    let keeps : KeepsWanted (IsListed live) c.args.edge.now.ops kept =
    subst (λ ops. KeepsWanted (IsListed live) ops kept) c.as_slice.ensures
    (subst (λ l. KeepsWanted (IsListed l) c.as_slice.result.now kept) c.deref.ensures.value c.in_ok-ops.ensures) in
    record {
      low = refl;
      high = refl;
      target = refl;
      ops = edge-keeps c.args.self.now.auto.now c.args.state c.args.edge.now live c.in_ok-live.ensures.live kept keeps;
    }

pub returns-clause-read : goal.returns-clause-read
returns-clause-read c =
    let live = c.in_ok-live.live.items in
    let kept = c.in_ok-ops.ops in
    let keeps : KeepsWanted (IsListed live) c.args.edge.now.ops kept =
    subst (λ ops. KeepsWanted (IsListed live) ops kept) c.as_slice.ensures
    (subst (λ l. KeepsWanted (IsListed l) c.as_slice.result.now kept) c.deref.ensures.value c.in_ok-ops.ensures) in
    let asked = c.args.asked.now in
    let before = c.args.leaving.now in
    let after = c.add_read.new.sources in
    let adds : (held : Held) → has after held ≡ (has before held || (has asked held && is_read live kept held)) =
    λ held. c.in_ok-add_read.ensures held
    ∙ (λ i. has before held || (has asked held && is_read (c.deref-2.ensures.value i) (c.as_slice-2.ensures i) held)) in
    edge-reads c.args.self.now.auto.now c.args.state c.args.edge.now live c.in_ok-live.ensures.live kept keeps asked before after adds
