use Rattle.std.proofs.Common.{length, set, sym, subst}
use Rattle.lx_fill.specs.declared.search.Colour.TheVariants.{Open}
use Rattle.lx_fill.specs.Checks.{graph_of}
use Rattle.lx_fill.specs.Search.{IsSearchOf}
use Rattle.lx_fill.proofs.SearchSteps.{opens}
use Rattle.lx_fill.proofs.search.Search.open.Goals as goal

pub returns-clause-search : goal.returns-clause-search
returns-clause-search c =
    let search = c.args.self.now in
    subst
    (λ p. IsSearchOf (graph_of c.args.auto.now) (length c.args.auto.now.states) (set search.colours.items c.args.state Open) search.passed.items
    search.chosen.items p search.order.items)
    (sym c.in_ok-push.ensures.items)
    (opens (graph_of c.args.auto.now) (length c.args.auto.now.states) search.colours.items search.passed.items search.chosen.items search.path.items
    search.order.items c.requires.search c.args.state c.requires.within c.requires.new c.requires.edge)
