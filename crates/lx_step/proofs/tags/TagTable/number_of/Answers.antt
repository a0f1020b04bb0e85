use Rattle.std.proofs.Common.{◌∙◌, sym, rules}
use Rattle.lx_step.proofs.TagTables.{sought_first, sought_found, sought_nearer, sought_next}
use Rattle.lx_step.proofs.tags.TagTable.number_of.Goals as goal

pub loop-at-init : goal.loop-at-init
loop-at-init c = sought_first c.args.blocks.now _ c.args.self.now c.args.name.now c.requires.1 c.len.result c.bucket_of.result c.index-at.result.now (c.len.ensures ∙ search rules) c.bucket_of.ensures.bucket c.bucket_of.ensures.within c.index-at.ensures

pub returns-then-equal_words-clause-number : goal.returns-then-equal_words-clause-number
returns-then-equal_words-clause-number c =
    sought_found c.args.blocks.now _ c.args.self.now c.args.name.now c.requires.1 _ c.in-Some.number c.index-tag.result.now c.name_at.result.now c.loop-at.invariant c.in-Some.is c.index-tag.ensures c.name_at.ensures
    (sym c.equal_words.ensures.value ∙ c.if-equal_words.true)

pub loop-at-smaller : goal.loop-at-smaller
loop-at-smaller c =
    sought_nearer c.args.blocks.now _ c.args.self.now c.args.name.now c.requires.1 _ c.in-Some.number c.index-tag.result.now c.name_at.result.now c.loop-at.invariant c.in-Some.is c.index-tag.ensures c.name_at.ensures
    (sym c.equal_words.ensures.value ∙ c.if-equal_words.false)

pub loop-at-preserved : goal.loop-at-preserved
loop-at-preserved c =
    (sought_next c.args.blocks.now _ c.args.self.now c.args.name.now c.requires.1 _ c.in-Some.number c.index-tag.result.now c.name_at.result.now c.loop-at.invariant c.in-Some.is c.index-tag.ensures c.name_at.ensures
    (sym c.equal_words.ensures.value ∙ c.if-equal_words.false)).0
