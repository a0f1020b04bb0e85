use Rattle.std.proofs.Common.{◌≡◌, ◌∙◌, ◌+◌, ◌*◌, ◌++◌, List, None, Some, suc, ap, arith, length, refl, subst, sym}
use Rattle.std.specs.Option.{option_map}
use Rattle.lx_regex.specs.declared.rules.Tag.{Tag}
use Rattle.lx_token.specs.declared.kinds.TokenKind.TheVariants as kind
use Rattle.lx_exprs.specs.Checks.{name_fault, repeated_tag}
use Rattle.lx_exprs.specs.Defined.{Before, and_more, count_of, definition_of, is_built, kept}
use Rattle.lx_exprs.specs.Meanings.{copied}
use Rattle.lx_exprs.specs.Seen.{definition_view, scope_view}
use Rattle.lx_forms.specs.Seen.{lexeme_view}
use Rattle.lx_exprs.specs.Values.{AreTagsBelow, HasKinds, IsCounted}
use Rattle.lx_exprs.proofs.Contents.LeafContents.{fits-tagged, size-some}
use Rattle.lx_exprs.proofs.Contents.LeafSteps.{kind-read}
use Rattle.lx_exprs.proofs.leaves.read_name.Goals as goal

pub returns-clause-read : goal.returns-clause-read
returns-clause-read c is_operand =
    let reader = c.args.reader in
    let definitions = scope_view reader.scope in
    let before : Before = record { tags = c.args.seen.now; groups = c.args.groups } in
    let lexeme = lexeme_view c.args.lexeme.now in
    let held = c.in-Some.kept.now in
    let definition = definition_view lexeme.text held in
    let meaning = copied before definition in
    let found : definition_of definitions lexeme.text ≡ Some definition =
    sym c.get.ensures.found ∙ ap (option_map (λ kept. definition_view lexeme.text kept.now)) c.in-Some.is in
    let fresh : repeated_tag lexeme.at held.tags before.tags ≡ None =
    sym c.in_ok-fault.ensures ∙ c.in_default-2.is in
    let checked = sym (ap (λ found. name_fault reader.options.now definitions found lexeme before.tags) found ∙ fresh) in
    let added : c.add.new.self ≡ before.tags ++ held.tags = c.in_ok-add.ensures in
    let many = ap (λ (l : List Tag). length l) added in
    let tags : c.count_of-tags.result ≡ kept (count_of (and_more before held.tags held.groups)) =
    omega (arith, many, c.len.ensures, c.sum.ensures, c.count_of-tags.ensures) in
    let content =
    c.in_ok-content.ensures.stands (is_built reader.room meaning) before c.len-by.ensures refl
    (fits-tagged reader.room c.requires.room held.size (suc held.nesting) (count_of (and_more before held.tags held.groups))) in
    let counted : IsCounted meaning c.sum-size.result c.sum-nesting.result held.groups c.count_of-tags.result =
    record { size_is = c.sum-size.ensures ∙ omega arith; nesting_is = c.sum-nesting.ensures ∙ omega arith; groups_is = refl; tags_is = tags } in
    kind-read reader.options.now definitions reader.room is_operand before lexeme kind.Name c.requires.sort checked meaning
    (definition, found, refl) c.add.new.self added c.in_ok-limited.field-0
    (c.in_ok-limited.ensures.stands meaning counted content)

pub returns-clause-bounded : goal.returns-clause-bounded
returns-clause-bounded c =
    let before : Before = record { tags = c.args.seen.now; groups = c.args.groups } in
    let held = c.in-Some.kept.now in
    let fit = c.in-Some.ensures.fit c.requires.fit in
    let some = size-some 1 held.expr held.size (length held.tags + 2 * held.groups) fit.0 in
    let size = c.in_ok-content.ensures.size in
    let added : c.add.new.self ≡ before.tags ++ held.tags = c.in_ok-add.ensures in
    let many = ap (λ (l : List Tag). length l) added in
    let tags : c.count_of-tags.result ≡ kept (count_of (and_more before held.tags held.groups)) =
    omega (arith, many, c.len.ensures, c.sum.ensures, c.count_of-tags.ensures) in
    c.in_ok-limited.ensures.bounded (omega (arith, some, c.sum-size.ensures))
    (λ small. omega (arith, size, small, c.sum-size.ensures))
    (subst (λ count. AreTagsBelow count c.in_ok-content.content) (sym tags)
    (c.in_ok-content.ensures.tags before c.len-by.ensures refl))

pub returns-clause-kinds : goal.returns-clause-kinds
returns-clause-kinds c =
    c.in_ok-limited.ensures.kinds c.add.new.self
    (subst (λ tags. HasKinds tags c.in_ok-content.content) (sym c.in_ok-add.ensures) (c.in_ok-content.ensures.kinds c.args.seen.now c.len-by.ensures))
