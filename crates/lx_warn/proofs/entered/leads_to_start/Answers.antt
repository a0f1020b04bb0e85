use Rattle.std.proofs.Common.{◌≡◌, ◌==◌, sym, ap, ◌∙◌}
use Rattle.std.specs.List.{list_any}
use Rattle.std.proofs.lemmas.Bool.{eq-eqb, eqb-true}
use Rattle.lx_auto.specs.Automaton.{state_of}
use Rattle.lx_auto.specs.declared.automaton.Edge.{Edge}
use Rattle.lx_warn.proofs.NumberLists.{any-found, found-any}
use Rattle.lx_warn.specs.Entered.{LeadsToStart}
use Rattle.lx_warn.proofs.entered.leads_to_start.Goals as goal

pub returns : goal.returns
returns c =
    let auto = c.args.auto.now in
    let edges = (state_of auto.states c.args.state).edges in
    let same : c.edges_of.result.now ≡ edges = c.edges_of.ensures.edges in
    let test = λ (edge : Edge). edge.to == 0 in
    let any : c.any_to_start.result ≡ list_any test edges = c.any_to_start.ensures ∙ ap (list_any test) same in (
      λ yes.
          let found = any-found test edges (sym any ∙ yes) in
          (c.if-not-marks-state.false, (found.0, found.1, eqb-true found.0.to 0 found.2)),
      λ (leads : LeadsToStart auto c.args.marks.now c.args.state).
          any ∙ found-any test edges leads.1.0 leads.1.1 (eq-eqb leads.1.0.to 0 leads.1.2),
    )
