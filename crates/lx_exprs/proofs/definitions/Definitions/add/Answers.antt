use Rattle.std.proofs.Common.{◌≡◌, ◌∙◌, ap, sym, subst, ◌++◌, map, [], ◌∷◌, None, All}
use Rattle.std.specs.Str.{bytes_eq}
use Rattle.std.specs.Map.{lookup}
use Rattle.std.proofs.lemmas.List.{map-append}
use Rattle.std.proofs.lemmas.List.Elements.{All-append}
use Rattle.indexmap.proofs.CallerLemmas.{insert_entry-new}
use Rattle.lx_exprs.specs.Seen.{definition_view}
use Rattle.lx_exprs.specs.FitDefinitions.{IsFitDefinition}
use Rattle.lx_exprs.proofs.TagLists.DefinitionLists.{lookup-None, All-one}
use Rattle.lx_exprs.proofs.definitions.Definitions.add.Goals as goal

pub returns-clause-added : goal.returns-clause-added
returns-clause-added c =
    let entries = c.args.self.now.by_name.entries in
    let absent = lookup-None (λ key. key.items) c.args.name.now entries c.requires in
    let named = c.in_ok-name.ensures.items in
    let absent' = subst (λ text. lookup (λ key. bytes_eq text key.items) entries ≡ None) (sym named) absent in
    ap (map (λ entry. definition_view entry.0.items entry.1)) (c.in_ok-insert.ensures.entries ∙ insert_entry-new (λ key other. bytes_eq key.items other.items) c.args.self.now.by_name c.in_ok-name.name c.args.kept absent')
    ∙ map-append (λ entry. definition_view entry.0.items entry.1) entries ((c.in_ok-name.name, c.args.kept) ∷ [])
    ∙ ap (λ text. map (λ entry. definition_view entry.0.items entry.1) entries ++ definition_view text c.args.kept ∷ []) named

pub returns-clause-fit : goal.returns-clause-fit
returns-clause-fit c = λ fit fits.
    let entries = c.args.self.now.by_name.entries in
    let absent = lookup-None (λ key. key.items) c.args.name.now entries c.requires in
    let named = c.in_ok-name.ensures.items in
    let absent' = subst (λ text. lookup (λ key. bytes_eq text key.items) entries ≡ None) (sym named) absent in
    let added = c.in_ok-insert.ensures.entries ∙ insert_entry-new (λ key other. bytes_eq key.items other.items) c.args.self.now.by_name c.in_ok-name.name c.args.kept absent' in
    subst (All (λ entry. IsFitDefinition entry.1)) (sym added)
    (All-append (λ entry. IsFitDefinition entry.1) entries ((c.in_ok-name.name, c.args.kept) ∷ []) fit (All-one (λ entry. IsFitDefinition entry.1) (c.in_ok-name.name, c.args.kept) fits))
