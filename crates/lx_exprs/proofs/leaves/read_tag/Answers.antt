use Rattle.std.proofs.Common.{◌≡◌, ◌∙◌, ◌∷◌, ◌++◌, [], suc, ap, arith, refl, subst, sym}
use Rattle.lx_exprs.specs.Checks.{is_tag_among, tag_of}
use Rattle.lx_exprs.specs.Defined.{Before, count_of, is_built, kept}
use Rattle.lx_exprs.specs.Meanings.{tag_meaning}
use Rattle.lx_exprs.specs.Seen.{scope_view}
use Rattle.lx_forms.specs.Seen.{lexeme_view}
use Rattle.lx_exprs.specs.Values.{AreTagsBelow, HasKinds}
use Rattle.lx_exprs.proofs.Contents.LeafContents.{fits-tagged}
use Rattle.lx_exprs.proofs.Contents.LeafSteps.{tag-read, tag_fault-none}
use Rattle.lx_exprs.proofs.leaves.read_tag.Goals as goal

pub returns-clause-read : goal.returns-clause-read
returns-clause-read c is_operand =
    let reader = c.args.reader in
    let before : Before = record { tags = c.args.seen.now; groups = c.args.groups } in
    let lexeme = lexeme_view c.args.lexeme.now in
    let many = c.args.many in
    let named = tag_of many lexeme in
    let meaning = tag_meaning before named in
    let tags : c.sum-tags.result ≡ kept (suc (count_of before)) = omega (arith, c.sum-tags.ensures, c.count_of.ensures, c.len-number.ensures) in
    let content =
    c.tag_content-content.ensures.stands (is_built reader.room meaning) before named c.len-number.ensures
    (fits-tagged reader.room c.requires.room 1 0 (suc (count_of before))) in
    let among = ap (λ name. is_tag_among name before.tags) (sym c.tag_name-name.ensures) ∙ sym c.if-contains.ensures in
    tag-read reader.options.now (scope_view reader.scope) reader.room is_operand before lexeme many c.requires.sort
    (tag_fault-none reader.options.now (scope_view reader.scope) reader.room is_operand before lexeme many c.if-not-reader.false among) c.push.new.self
    (c.in_ok-push.ensures ∙ ap (λ name. before.tags ++ record { name = name; many = many } ∷ []) c.tag_name-name.ensures) c.in_ok-limited.field-0
    (c.in_ok-limited.ensures.stands meaning (record { size_is = refl; nesting_is = refl; groups_is = refl; tags_is = tags }) content)

pub returns-clause-bounded : goal.returns-clause-bounded
returns-clause-bounded c =
    let before : Before = record { tags = c.args.seen.now; groups = c.args.groups } in
    let size = c.tag_content-content.ensures.size in
    let tags : c.sum-tags.result ≡ kept (suc (count_of before)) = omega (arith, c.sum-tags.ensures, c.count_of.ensures, c.len-number.ensures) in
    c.in_ok-limited.ensures.bounded (omega arith) (λ small. omega (arith, size))
    (subst (λ count. AreTagsBelow count c.tag_content-content.result) (sym tags)
    (c.tag_content-content.ensures.tags before c.len-number.ensures))

pub returns-clause-kinds : goal.returns-clause-kinds
returns-clause-kinds c =
    c.in_ok-limited.ensures.kinds c.push.new.self
    (subst (λ tags. HasKinds tags c.tag_content-content.result) (sym c.in_ok-push.ensures)
    (c.tag_content-content.ensures.kinds c.args.seen.now (record { name = c.tag_name-name.result.now; many = c.args.many }) c.len-number.ensures refl))
