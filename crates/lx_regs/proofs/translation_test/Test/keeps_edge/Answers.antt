use Rattle.std.proofs.Common.{◌≡◌, subst, sym, rules}
use Rattle.std.proofs.lemmas.Result.{IfOk-weaker}
use Rattle.lx_auto.specs.Automaton.{AreOps}
use Rattle.lx_regs.proofs.translation_test.Test.keeps_edge.Goals as goal

pub returns : goal.returns
returns c =
    let ops : c.as_slice.result.now ≡ c.args.other.now.ops = search rules in
    IfOk-weaker c.keeps_lists.result _ _
    (λ kept live is. record {
      low = sym c.if-edge-other.false;
      high = sym c.if-edge-other-2.false;
      target = sym c.if-edge-other-3.false;
      ops = subst (AreOps c.args.self.now.counts.regs c.args.self.now.counts.mregs) ops (c.allow_all.ensures c.if-not-allow_all.false);
      effects = live is;
    })
    c.keeps_lists.ensures
