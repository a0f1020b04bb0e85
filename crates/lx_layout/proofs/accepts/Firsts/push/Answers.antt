use Rattle.std.proofs.Common.{◌≡◌, ◌∙◌, ap, sym, length, List}
use Rattle.std.proofs.lemmas.List.{map-append, length-map}
use Rattle.lx_auto.specs.declared.automaton.Accept.{Accept}
use Rattle.lx_layout.specs.NumberIndexes.{with_place}
use Rattle.lx_layout.specs.Plans.{rule_index, seen_accepts}
use Rattle.lx_layout.specs.declared.accepts.First.{First}
use Rattle.lx_layout.proofs.Rules.FirstPlaces.{first_place-pushed}
use Rattle.lx_layout.proofs.accepts.Firsts.push.Goals as goal

pub returns-clause-indexed : goal.returns-clause-indexed
returns-clause-indexed c =
    λ rule.
    let found = seen_accepts c.args.self.now.list.items in
    let accept = c.args.accept.now in
    let count : length found ≡ c.len-place.result =
    length-map c.args.self.now.list.items (λ (first : First). first.accept.now) ∙ sym c.args.self.now.list.ok.0 ∙ sym c.len-place.ensures in
    let list = ap (λ (l : List First). seen_accepts l) c.in_ok-push.ensures.items
    ∙ map-append (λ (first : First). first.accept.now) c.args.self.now.list.items _ in
    c.in_ok-note.ensures rule
    ∙ ap (λ o. with_place o accept.rule c.len-place.result rule) (c.requires rule)
    ∙ ap (λ n. with_place (rule_index found rule) accept.rule n rule) (sym count)
    ∙ sym (first_place-pushed (λ (other : Accept). other.rule) found accept rule)
    ∙ ap (λ l. rule_index l rule) (sym list)
