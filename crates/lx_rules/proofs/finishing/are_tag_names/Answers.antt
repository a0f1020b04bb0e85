use Rattle.std.proofs.Common.{◌↔◌, subst}
use Rattle.std.specs.Prelude.{IsTrue}
use Rattle.lx_base.proofs.Deciding.{AllByRecursion-each, each_next, each_fails}
use Rattle.lx_rules.specs.Blocks.{MayBeTag}
use Rattle.lx_regex.specs.declared.rules.Tag.{Tag}
use Rattle.lx_rules.proofs.finishing.are_tag_names.Goals as goal

pub returns-then-not-may_be_tag : goal.returns-then-not-may_be_tag
returns-then-not-may_be_tag c =
    let decides = subst (λ (tag : Tag). IsTrue c.may_be_tag.result ↔ MayBeTag c.args.format c.args.names.now c.args.has_slash tag) c.tag-item.is c.may_be_tag.ensures in
    each_fails (AllByRecursion-each (MayBeTag c.args.format c.args.names.now c.args.has_slash)) c.args.tags.now c.loop-tag.tag-index c.tag-item.result
    c.loop-tag-test.true c.may_be_tag.result decides c.if-not-may_be_tag.true c.loop-tag.invariant

pub loop-tag-preserved : goal.loop-tag-preserved
loop-tag-preserved c =
    let decides = subst (λ (tag : Tag). IsTrue c.may_be_tag.result ↔ MayBeTag c.args.format c.args.names.now c.args.has_slash tag) c.tag-item.is c.may_be_tag.ensures in
    each_next (AllByRecursion-each (MayBeTag c.args.format c.args.names.now c.args.has_slash)) c.args.tags.now c.loop-tag.tag-index c.tag-item.result
    c.loop-tag-test.true c.may_be_tag.result decides c.if-not-may_be_tag.false c.loop-tag.invariant
