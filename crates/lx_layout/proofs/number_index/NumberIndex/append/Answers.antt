use Rattle.std.proofs.Common.{List, ap, nat_eq, ◌∙◌}
use Rattle.std.specs.Option.{option_or}
use Rattle.indexmap.specs.IndexMap.{get}
use Rattle.lx_layout.specs.NumberIndexes.{place_among, place_in}
use Rattle.lx_layout.specs.declared.number_index.NotedPlace.{NotedPlace}
use Rattle.lx_layout.proofs.Rules.NotedPlaces.{noted-behind, noted-first, other-none}
use Rattle.lx_layout.proofs.number_index.NumberIndex.append.Goals as goal

pub returns-in_ok-push : goal.returns-in_ok-push
returns-in_ok-push c = λ other.
    let index = c.args.self.now in
    let inner = option_or (place_among index.few.items c.args.number) (get nat_eq index.others c.args.number) in
    ap (λ (noted : List NotedPlace). option_or (place_in index.first other) (option_or (place_among noted other) (get nat_eq index.others other))) c.in_ok-push.ensures.items
    ∙ ap (λ o. option_or (place_in index.first other) o)
    (noted-first index.few.items (get nat_eq index.others) c.args.number c.args.place (other-none (place_in index.first c.args.number) inner (c.requires)) other)
    ∙ noted-behind (place_in index.first other) (option_or (place_among index.few.items other) (get nat_eq index.others other)) c.args.number c.args.place other
