use Rattle.std.proofs.Common.{◌↔◌, ◌∙◌, ap, subst, sym}
use Rattle.std.specs.List.{AllByRecursion}
use Rattle.std.specs.Prelude.{IsTrue, is_some}
use Rattle.lx_base.proofs.Deciding.{AllByRecursion-each, each_next}
use Rattle.std.specs.declared.rc.Rc.{Rc}
use Rattle.std.specs.Global.{Global}
use Rattle.lx_rules.specs.Blocks.{MayBeTag}
use Rattle.lx_rules.specs.declared.kept.KeptRule.{KeptRule}
use Rattle.lx_rules.proofs.finishing.have_tag_names.Goals as goal

pub loop-rule-preserved : goal.loop-rule-preserved
loop-rule-preserved c =
    let names = c.args.names.now in
    let P = λ (one : Rc KeptRule Global). AllByRecursion (MayBeTag c.args.format names (is_some one.value.slash)) one.value.tags in
    let given =
    subst (λ has_slash. IsTrue c.are_all_tag_names.result ↔ AllByRecursion (MayBeTag c.args.format names has_slash) c.deref-in-loop-rule.result.now.tags)
    c.is_some.ensures c.are_all_tag_names.ensures in
    let of_one =
    subst (λ (one : KeptRule). IsTrue c.are_all_tag_names.result ↔ AllByRecursion (MayBeTag c.args.format names (is_some one.slash)) c.deref-in-loop-rule.result.now.tags)
    (c.deref.ensures ∙ sym c.deref-in-loop-rule.ensures) given in
    let decides =
    subst (λ (one : KeptRule). IsTrue c.are_all_tag_names.result ↔ AllByRecursion (MayBeTag c.args.format names (is_some one.slash)) one.tags)
    (c.deref-in-loop-rule.ensures ∙ ap (λ (one : Rc KeptRule Global). one.value) c.rule-item.is) of_one in
    each_next (AllByRecursion-each P) c.as_slice-held.result.now c.loop-rule.rule-index c.rule-item.result c.loop-rule-test.true c.are_all_tag_names.result decides
    c.if-not-are_all_tag_names.false c.loop-rule.invariant
