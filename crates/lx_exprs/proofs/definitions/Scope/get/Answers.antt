use Rattle.std.proofs.Common.{◌++◌, ◌∙◌, sym}
use Rattle.lx_exprs.specs.Seen.{definition_view, definitions_view, seen_in}
use Rattle.lx_exprs.proofs.TagLists.DefinitionLists.{definition_of-back, definition_of-front}
use Rattle.lx_exprs.proofs.definitions.Scope.get.Goals as goal

pub returns-in-Some-clause-found : goal.returns-in-Some-clause-found
returns-in-Some-clause-found c =
    let scope = c.args.self.now in
    sym
    (definition_of-front (seen_in scope.kept) (seen_in scope.outer ++ definitions_view scope.own.now) c.args.name.now
    (definition_view c.args.name.now c.in-Some.kept.now) (sym c.in-Some.ensures.found))

pub returns-in-Some-found_in-clause-found : goal.returns-in-Some-found_in-clause-found
returns-in-Some-found_in-clause-found c =
    let scope = c.args.self.now in
    sym
    (definition_of-back (seen_in scope.kept) (seen_in scope.outer ++ definitions_view scope.own.now) c.args.name.now (sym c.in-None.ensures.found)
    ∙ definition_of-front (seen_in scope.outer) (definitions_view scope.own.now) c.args.name.now
    (definition_view c.args.name.now c.in-Some-found_in.kept.now) (sym c.in-Some-found_in.ensures.found))

pub returns-in-None-found_in-clause-found : goal.returns-in-None-found_in-clause-found
returns-in-None-found_in-clause-found c =
    let scope = c.args.self.now in
    c.get.ensures.found
    ∙ sym
    (definition_of-back (seen_in scope.kept) (seen_in scope.outer ++ definitions_view scope.own.now) c.args.name.now (sym c.in-None.ensures.found)
    ∙ definition_of-back (seen_in scope.outer) (definitions_view scope.own.now) c.args.name.now (sym c.in-None-found_in.ensures.found))
