use Rattle.std.proofs.Common.{◌≡◌, List, sym, ◌∙◌, subst}
use Rattle.std.specs.Prelude.{map}
use Rattle.lx_auto.specs.declared.automaton.Edge.{Edge}
use Rattle.lx_auto.specs.Automaton.{AreApart}
use Rattle.lx_regs.specs.FoldedEdges.{unfolded_edge}
use Rattle.lx_regs.proofs.folding.folded_state.Goals as goal

pub returns : goal.returns
returns c =
    let folded = c.in_ok-folded.folded in
    let edges : map (unfolded_edge folded.kept) folded.folds ≡ c.args.state.now.edges = c.in_ok-folded.ensures.again ∙ c.as_slice.ensures in
    let leave : c.in_ok-copied_ops.field-0 ≡ c.args.state.now.leave = c.in_ok-copied_ops.ensures ∙ c.as_slice-2.ensures in
    let accept : c.in_ok-copied_accept.field-0 ≡ c.args.state.now.accept = c.in_ok-copied_accept.ensures in
    record {
      again = λ i. record { edges = edges i; accept = accept i; leave = leave i };
      folded = c.in_ok-folded.ensures.folded;
      apart = λ apart. c.in_ok-folded.ensures.apart (subst (λ (l : List Edge). AreApart l) (sym c.as_slice.ensures) apart);
    }
