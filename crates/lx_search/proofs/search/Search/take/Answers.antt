use Rattle.std.proofs.Common.{◌≡◌, ◌+◌, ◌<◌, length, get_or, set, true, false, sym, ◌∙◌, subst, arith}
use Rattle.std.proofs.lemmas.List.{get_or_default}
use Rattle.lx_search.proofs.EdgeSteps.{take-marked, take-new, take-outside}
use Rattle.lx_search.specs.Progress.{IsSearchOf}
use Rattle.lx_search.specs.Scopes.{next_in}
use Rattle.lx_search.proofs.search.Search.take.Goals.{then-index-via-then-index, then-index-via-else-index+then-is_outside}
use Rattle.lx_search.proofs.search.Search.take.Goals as goal

pub returns-then-index-clause-search : goal.returns-then-index-clause-search
returns-then-index-clause-search c =
    let scope = c.args.scope in
    let auto = c.args.auto.now in
    let search = c.args.self.now in
    let edge = c.args.edge.now in
    let at = c.requires.at in
    let fit : length search.marks.items ≡ length auto.states = at.so_far.fit in
    let target : edge.to < length auto.states = at.target in
    let within : edge.to < length search.marks.items = omega arith in
    elim c.then-index.branch [
      | then-index-via-then-index w ↦
          take-marked scope auto search c.args.place edge at
          (get_or_default search.marks.items edge.to false true within
          ∙ sym (subst (λ mark. mark ≡ get_or search.marks.items edge.to mark) w.if-index.true c.index.ensures))
      | then-index-via-else-index+then-is_outside w ↦
          take-outside scope auto search c.args.place edge at (sym w.is_outside.ensures ∙ w.if-is_outside.true)
    ]

pub returns-clause-search : goal.returns-clause-search
returns-clause-search c =
    let scope = c.args.scope in
    let auto = c.args.auto.now in
    let search = c.args.self.now in
    let edge = c.args.edge.now in
    subst
    (λ found. IsSearchOf (next_in scope auto) (length auto.states) (set search.marks.items edge.to true) found c.args.place (edge.hi + 1))
    (sym c.in_ok-push.ensures.items)
    (take-new scope auto search c.args.place edge c.requires.at
    (sym (subst (λ mark. mark ≡ get_or search.marks.items edge.to mark) c.if-index.false c.index.ensures))
    (sym c.is_outside.ensures ∙ c.if-is_outside.false))
