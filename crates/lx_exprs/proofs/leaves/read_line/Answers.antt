use Rattle.std.proofs.Common.{[], arith, refl, sym}
use Rattle.std.proofs.lemmas.List.{append-nil}
use Rattle.lx_token.specs.declared.kinds.TokenKind.TheVariants as kind
use Rattle.lx_exprs.specs.Defined.{count_of, is_built}
use Rattle.lx_exprs.specs.Meanings.{class_meaning}
use Rattle.lx_exprs.specs.Seen.{scope_view}
use Rattle.lx_exprs.specs.Values.{IsValue}
use Rattle.lx_exprs.proofs.Contents.LeafSteps.{kind-read}
use Rattle.lx_exprs.proofs.Classes.PointSets.{if_ok_both}
use Rattle.lx_exprs.proofs.leaves.read_line.Goals as goal

pub returns-clause-read : goal.returns-clause-read
returns-clause-read c before lexeme count sort =
    let reader = c.args.reader in
    let options = reader.options.now in
    let meaning = class_meaning c.args.is_operand options.empty 0 [] 0 (count_of before) c.in_ok-set.set in
    let stands =
    c.limited.ensures.stands meaning (record { size_is = refl; nesting_is = refl; groups_is = refl; tags_is = count })
    (c.class_content-content.ensures.stands (is_built reader.room meaning) 0 0 (count_of before) []) in
    if_ok_both (IsValue reader.room meaning) (IsValue reader.room meaning) _ c.limited.result
    (λ value one two.
    kind-read options (scope_view reader.scope) reader.room c.args.is_operand before lexeme kind.Signs sort refl meaning
    (c.in_ok-set.set, c.in_ok-set.ensures, refl) before.tags (sym (append-nil before.tags)) value one)
    stands stands

pub returns-clause-bounded : goal.returns-clause-bounded
returns-clause-bounded c =
    let size = c.class_content-content.ensures.size in
    c.limited.ensures.bounded (omega arith) (λ small. omega (arith, size)) (c.class_content-content.ensures.tags c.args.count)

pub returns-clause-kinds : goal.returns-clause-kinds
returns-clause-kinds c tags = c.limited.ensures.kinds tags (c.class_content-content.ensures.kinds tags)
