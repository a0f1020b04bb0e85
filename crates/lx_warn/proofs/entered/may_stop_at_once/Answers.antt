use Rattle.std.proofs.Common.{◌≡◌, inl, inr, None, IsSome, not, sym, ap, ◌∙◌, subst}
use Rattle.std.specs.List.{list_any}
use Rattle.lx_auto.specs.Automaton.{edge_on, state_of}
use Rattle.lx_auto.specs.declared.automaton.Edge.{Edge}
use Rattle.lx_search.specs.Scopes.{accepts}
use Rattle.lx_warn.proofs.NumberLists.{any-found, found-any, turned-true}
use Rattle.lx_warn.specs.Entered.{MayStopAtOnce}
use Rattle.lx_warn.proofs.entered.may_stop_at_once.Goals as goal

nothing : IsSome {T = Edge} None → ⊥
nothing some = cc

pub returns-in-None : goal.returns-in-None
returns-in-None c =
    let auto = c.args.auto.now in
    let edges = (state_of auto.states 0).edges in
    let same : c.edges_of-edges.result.now ≡ edges = c.edges_of-edges.ensures.edges in
    let test = λ (edge : Edge). not (accepts auto edge.to) in
    let quiet : c.any_quiet.result ≡ list_any test edges = c.any_quiet.ensures ∙ ap (list_any test) same in (
      λ yes.
          let found = any-found test edges (sym quiet ∙ yes) in
          inr (found.0, found.1, turned-true (accepts auto found.0.to) found.2),
      λ (stops : MayStopAtOnce c.args.enc auto). elim stops [
        | inl gap ↦
            absurd (nothing (subst (λ o. IsSome o) gap.1.1
            (subst (λ l. IsSome (edge_on l gap.0)) same (c.in-None.ensures.free gap.0 gap.1.0))))
        | inr led ↦ quiet ∙ found-any test edges led.0 led.1 (ap not led.2)
      ],
    )
