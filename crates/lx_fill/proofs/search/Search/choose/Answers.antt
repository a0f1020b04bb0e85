use Rattle.std.proofs.Common.{length, sym, ◌∙◌, arith}
use Rattle.std.proofs.lemmas.List.{get_or_read}
use Rattle.lx_fill.specs.declared.search.Colour.TheVariants.{New}
use Rattle.lx_fill.specs.Checks.{graph_of}
use Rattle.lx_fill.proofs.SearchSteps.{chooses}
use Rattle.lx_fill.proofs.search.Search.choose.Goals as goal

pub returns-in-Open-clause-search : goal.returns-in-Open-clause-search
returns-in-Open-clause-search c =
    let search = c.args.self.now in
    let fit = c.requires.search.colours_fit in
    let read = get_or_read search.colours.items c.args.target c.index.result.now (omega (arith, fit, c.requires.within)) c.index.ensures New in
    chooses (graph_of c.args.auto.now) (length c.args.auto.now.states) search.colours.items search.passed.items search.chosen.items search.path.items
    search.order.items c.requires.search c.args.state c.args.target c.requires.last c.requires.edge c.requires.within (sym read ∙ c.in-Open.is)
