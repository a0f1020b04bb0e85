use Rattle.std.proofs.Common.{◌≡◌, ℕ, get_or, length, ap, ◌∙◌, subst, if◌then◌else◌}
use Rattle.lx_fill.specs.Checks.{graph_of}
use Rattle.lx_fill.specs.Longest.{AreLongest}
use Rattle.lx_fill.specs.Search.{chosen_at}
use Rattle.lx_fill.proofs.NumbersChecked.{numbers-checked}
use Rattle.lx_fill.proofs.fill.checks.Goals as goal

pub returns : goal.returns
returns c =
    let auto = c.args.auto.now in
    let search = c.in_ok-search.search in
    let known = c.in_ok-known.known.items in
    let numbers = c.keep_chosen.result.items in
    numbers-checked auto search.chosen.items search.order.items known numbers c.in_ok-search.ensures
    (subst (λ chosen. AreLongest (graph_of auto) (length auto.states) chosen known) c.deref.ensures.value c.in_ok-known.ensures)
    (subst (λ chosen. (state : ℕ) → get_or numbers state 0 ≡ (if chosen_at chosen state then get_or known state 0 else 0)) c.deref-3.ensures.value
    c.keep_chosen.ensures.numbers)
    (c.keep_chosen.ensures.fit ∙ ap length c.deref-3.ensures.value ∙ c.in_ok-search.ensures.marks.fit)
