use Rattle.std.proofs.Common.{subst}
use Rattle.lx_regs.specs.Bounds.{IsBoundOf}
use Rattle.lx_regs.specs.SharedNames.{names_of}
use Rattle.lx_regs.proofs.sharing.counts_of.Goals as goal

pub returns : goal.returns
returns c =
    let names = names_of c.args.names.now in
    let named = c.bound_of.result in
    let mnamed = c.bound_of-2.result in
    c.without_mregs.ensures names
    (c.without_regs-counts.ensures names (record {
      states = c.requires.formed.states;
      shared = c.requires.shared.shared named mnamed (subst (λ l. IsBoundOf l named) c.deref.ensures.value c.bound_of.ensures)
          (subst (λ l. IsBoundOf l mnamed) c.deref-2.ensures.value c.bound_of-2.ensures);
    }))
