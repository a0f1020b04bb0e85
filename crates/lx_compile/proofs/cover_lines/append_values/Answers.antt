use Rattle.std.proofs.Common.{◌∙◌, ◌++◌, ◌-◌, ◌≤◌, ap, sym, append_assoc, arith, drop, length, map}
use Rattle.std.proofs.lemmas.List.{drop-map, length-drop, take_all}
use Rattle.lx_cover.specs.Matches.{value_of}
use Rattle.lx_layout.specs.Rules.{names_of}
use Rattle.lx_compile.specs.Covering.{groups_text, tags_text}
use Rattle.lx_compile.proofs.cover_lines.append_values.Goals as goal

pub returns-in_ok-append_groups : goal.returns-in_ok-append_groups
returns-in_ok-append_groups c =
    let end = c.args.end.now in
    let text = c.args.text.now.items in
    let values = c.args.values.now in
    let count = length end.tags.now in
    let tags = tags_text end.slash 0 (names_of end.tags.now) (map value_of values) in
    let groups = groups_text (map value_of (drop count values)) in
    let few : length (drop count values) ≤ length values - count = let same = length-drop count values in omega (arith, same) in
    c.in_ok-append_groups.ensures
    ∙ ap (λ left. c.append_tags.new.text.items ++ groups_text (map value_of left)) (take_all (length values - count) (drop count values) few)
    ∙ ap (λ front. front ++ groups) c.in_ok-append_tags.ensures ∙ append_assoc text tags groups
    ∙ ap (λ left. text ++ (tags ++ groups_text left)) (sym (drop-map value_of count values))
