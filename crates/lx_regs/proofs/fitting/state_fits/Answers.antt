use Rattle.std.proofs.Common.{subst, sym}
use Rattle.lx_auto.specs.Automaton.{AreOps, LeadWithin}
use Rattle.lx_regs.proofs.fitting.state_fits.Goals as goal

pub returns : goal.returns
returns c = λ yes most mmost count is. record {
  apart = is.apart;
  lead = subst (LeadWithin c.args.regs c.args.mregs count) c.as_slice.ensures
      (c.edges_fit.ensures c.if-not-edges_fit.false most mmost count
      (subst (λ l. LeadWithin most mmost count l) (sym c.as_slice.ensures) is.lead));
  accept = c.accept_fits.ensures c.if-not-accept_fits.false;
  leave = subst (AreOps c.args.regs c.args.mregs) c.as_slice-2.ensures (c.ops_fit.ensures yes);
}
