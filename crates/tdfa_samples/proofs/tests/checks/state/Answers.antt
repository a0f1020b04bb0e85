use Rattle.std.proofs.Common.{[], sym, subst}
use Rattle.std.proofs.lemmas.List.{append-nil}
use Rattle.lx_auto.specs.Automaton.{AreApart, AreOps, LeadWithin}
use Rattle.tdfa_samples.proofs.tests.checks.state.Goals as goal

pub returns : goal.returns
returns c =
    let edges = c.loop-from.found in
    record {
      apart = subst (λ l. AreApart l) (append-nil edges) (c.loop-from.invariant.apart [] tt);
      lead = subst (λ l. LeadWithin 0 0 c.args.count l) (append-nil edges) (c.loop-from.invariant.lead [] tt);
      accept = tt;
      leave = subst (λ l. AreOps 0 0 l) (sym c.new-2.ensures) tt;
    }
