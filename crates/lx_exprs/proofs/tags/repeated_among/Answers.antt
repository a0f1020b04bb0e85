use Rattle.std.proofs.Common.{◌∙◌, ◌+◌, ap, drop, sym, Some}
use Rattle.std.specs.Prelude.{if◌then◌else◌}
use Rattle.std.proofs.lemmas.List.{at_drop_all}
use Rattle.lx_base.specs.declared.faults.Fault.TheVariants.{DuplicateTag}
use Rattle.lx_exprs.specs.Checks.{is_tag_among, repeated_tag}
use Rattle.lx_exprs.proofs.TagLists.TagFaults.{repeated_tag-drop}
use Rattle.lx_exprs.proofs.tags.repeated_among.Goals as goal

pub returns-then-contains : goal.returns-then-contains
returns-then-contains c =
    let tags = c.args.tags.now in
    let seen = c.args.seen.now in
    let next = repeated_tag-drop c.args.at tags seen c.loop-tag.tag-index c.tag-item.result c.loop-tag-test.true c.tag-item.is in
    let among = ap (λ name. is_tag_among name seen) (sym c.as_slice.ensures) ∙ sym c.if-contains.ensures in
    let name = c.in_ok-name.ensures ∙ c.as_slice-then-contains.ensures in
    ap (λ text. Some (DuplicateTag c.args.at text)) name
    ∙ sym (c.loop-tag.invariant ∙ next
    ∙ ap (λ test. if test then Some (DuplicateTag c.args.at c.tag-item.result.name) else repeated_tag c.args.at (drop (c.loop-tag.tag-index + 1) tags) seen) among)

pub loop-tag-preserved : goal.loop-tag-preserved
loop-tag-preserved c =
    let tags = c.args.tags.now in
    let seen = c.args.seen.now in
    let next = repeated_tag-drop c.args.at tags seen c.loop-tag.tag-index c.tag-item.result c.loop-tag-test.true c.tag-item.is in
    let among = ap (λ name. is_tag_among name seen) (sym c.as_slice.ensures) ∙ sym c.if-contains.ensures in
    c.loop-tag.invariant ∙ next
    ∙ ap (λ test. if test then Some (DuplicateTag c.args.at c.tag-item.result.name) else repeated_tag c.args.at (drop (c.loop-tag.tag-index + 1) tags) seen) among

pub returns : goal.returns
returns c =
    sym (c.loop-tag.invariant ∙ at_drop_all (λ tags. repeated_tag c.args.at tags c.args.seen.now) c.args.tags.now c.loop-tag.tag-index c.loop-tag-test.false)
