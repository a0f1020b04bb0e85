use Rattle.std.proofs.Common.{◌∙◌, ap, sym, subst, IfSome}
use Rattle.std.specs.Str.{bytes_eq}
use Rattle.std.proofs.lemmas.Map.Entries.{All-lookup}
use Rattle.lx_exprs.specs.declared.definitions.Kept.{Kept}
use Rattle.lx_exprs.specs.FitDefinitions.{IsFitDefinition}
use Rattle.std.specs.Option.{option_map}
use Rattle.lx_exprs.specs.Seen.{definition_view}
use Rattle.lx_exprs.proofs.TagLists.DefinitionLists.{lookup-definition_of, option_map-copied, IfSome-copied}
use Rattle.lx_exprs.proofs.definitions.Definitions.get.Goals as goal

pub returns-clause-found : goal.returns-clause-found
returns-clause-found c =
    option_map-copied (definition_view c.args.name.now) c.get.result ∙ ap (option_map (definition_view c.args.name.now)) c.get.ensures.value
    ∙ lookup-definition_of (λ key. key.items) c.args.name.now c.args.self.now.by_name.entries

pub returns-clause-fit : goal.returns-clause-fit
returns-clause-fit c = λ fit.
    let Fits = λ (kept : Kept). IsFitDefinition kept in
    IfSome-copied Fits c.get.result
    (subst (λ found. IfSome found Fits) (sym c.get.ensures.value) (All-lookup Fits (λ key. bytes_eq c.args.name.now key.items) c.args.self.now.by_name.entries fit))
