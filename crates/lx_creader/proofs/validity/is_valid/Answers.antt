use Rattle.std.proofs.Common.{◌↔◌, ℕ, List, subst}
use Rattle.std.specs.Bool.{IsTrue}
use Rattle.lx_creader.specs.ValidParts.{KeepsBlockRules}
use Rattle.lx_creader.proofs.ValidParts.{IsValid-decides}
use Rattle.lx_creader.proofs.validity.is_valid.Goals as goal

pub returns : goal.returns
returns c =
    let differ = rw c.in-Some.is at c.in_ok-names.ensures in
    IsValid-decides c.args.piece.now c.as_slice-blocks.result.now c.as_slice-conds.result.now c.keeps_head_rules-head.result c.keep_cond_rules-named.result
    c.keep_block_rules-valid.result c.keep_kind_rules-kinds.result c.agrees_if_some-agree.result c.keeps_format_rules-formats.result c.keep_all.result c.as_slice-blocks.ensures c.as_slice-conds.ensures
    (c.in_ok-kept.ensures.0.0 c.if-not-kept.false) c.keeps_head_rules-head.ensures c.keep_cond_rules-named.ensures
    (subst (λ (words : List (List ℕ)). IsTrue c.keep_block_rules-valid.result ↔ KeepsBlockRules c.args.piece.now.names words c.as_slice-blocks.result.now) differ.1 c.keep_block_rules-valid.ensures)
    c.keep_kind_rules-kinds.ensures c.agrees_if_some-agree.ensures c.keeps_format_rules-formats.ensures c.keep_all.ensures
