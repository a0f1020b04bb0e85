use Rattle.std.proofs.Common.{◌≡◌, suc, ◌-◌, length, set, take, sym, ap, ◌∙◌, subst, arith}
use Rattle.lx_fill.specs.declared.search.Colour.TheVariants.{Closed}
use Rattle.lx_fill.specs.Checks.{graph_of}
use Rattle.lx_fill.specs.Search.{IsSearchOf}
use Rattle.lx_fill.proofs.SearchSteps.{closes}
use Rattle.lx_fill.proofs.search.Search.close.Goals as goal

pub returns-clause-search : goal.returns-clause-search
returns-clause-search c =
    let search = c.args.self.now in
    let graph = graph_of c.args.auto.now in
    let count = length c.args.auto.now.states in
    let path = search.path.items in
    let rest : c.pop-last.new.self.items ≡ take (length path - 1) path = c.pop-last.ensures.rest ∙ ap (λ n. take (n - 1) path) search.path.ok.0 in
    let long : length path ≡ suc (length path - 1) = omega (arith, c.requires.last.0) in
    subst (λ p. IsSearchOf graph count (set search.colours.items c.args.state Closed) search.passed.items search.chosen.items p c.push.new.self.items) (sym rest)
    (subst
    (λ o. IsSearchOf graph count (set search.colours.items c.args.state Closed) search.passed.items search.chosen.items (take (length path - 1) path) o)
    (sym c.in_ok-push.ensures.items)
    (closes graph count search.colours.items search.passed.items search.chosen.items path search.order.items c.requires.search c.args.state (length path - 1)
    long c.requires.last.1 c.requires.passed))
