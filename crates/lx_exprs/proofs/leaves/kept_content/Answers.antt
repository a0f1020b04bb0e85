use Rattle.std.proofs.Common.{◌≡◌, ◌∙◌, ◌+◌, ◌*◌, ◌≤◌, ◌++◌, ap, ap₂, arith, inr, length, refl, subst, sym}
use Rattle.std.proofs.lemmas.List.{length-append}
use Rattle.std.specs.Option.{option_map}
use Rattle.lx_regex.specs.Expr.{term_of}
use Rattle.lx_exprs.specs.Defined.{and_more, class_in, count_of, kept, one}
use Rattle.lx_exprs.specs.Meanings.{moved, shifted, term_or_empty}
use Rattle.lx_exprs.specs.FitDefinitions.{FitsKept, HasKeptKinds}
use Rattle.lx_exprs.specs.Values.{HasPoints, HasTagsBelow}
use Rattle.lx_exprs.proofs.TagLists.TermTags.{HasTagsBelow-greater, HasTagsBelow-shifted, HasTagsBelow-whole, class_in-shifted}
use Rattle.lx_regex.specs.Kinds.{HaveKinds, kinds_of}
use Rattle.lx_exprs.proofs.Contents.KindContents.{HaveKinds-moved}
use Rattle.lx_exprs.proofs.leaves.kept_content.Goals as goal

pub returns-then-count_of-gt-TAG_LIMIT-clause-stands : goal.returns-then-count_of-gt-TAG_LIMIT-clause-stands
returns-then-count_of-gt-TAG_LIMIT-clause-stands c built before by groups past =
    let tags = c.args.definition.now.tags in
    let is = ap (λ expr. class_in (shifted (length before.tags) before.groups (term_or_empty (option_map (term_of 0) expr)))) c.in-Some.is in
    let class = sym (is ∙ class_in-shifted (length before.tags) before.groups (term_of 0 c.in-Some.expr)) in
    let all = length-append before.tags tags in (
      past (omega (arith, by, groups, all, c.len.ensures, c.sum-tags.ensures, c.sum.ensures, c.count_of.ensures, c.if-count_of-gt-TAG_LIMIT.true)),
      subst (HasPoints c.in_ok-class.class) class c.in_ok-class.ensures,
      refl,
    )

pub copy-requires-clause-tags : goal.copy-requires-clause-tags
copy-requires-clause-tags c =
    let tags = c.args.definition.now.tags in
    let own = length tags + 2 * c.args.definition.now.groups in
    let fits = subst (λ expr. FitsKept 1 expr c.args.definition.now.size own) c.in-Some.is c.requires.0 in
    HasTagsBelow-whole 128 (term_of 0 c.in-Some.expr)
    (HasTagsBelow-greater 1 own 128 (term_of 0 c.in-Some.expr)
    (omega (arith, c.len.ensures, c.sum-tags.ensures, c.sum.ensures, c.count_of.ensures, c.if-count_of-gt-TAG_LIMIT.false)) fits.2)

pub returns-clause-stands : goal.returns-clause-stands
returns-clause-stands c built before by groups past =
    let first : c.args.by ≡ length before.tags =
    omega (arith, by, c.len.ensures, c.sum-tags.ensures, c.sum.ensures, c.count_of.ensures, c.if-count_of-gt-TAG_LIMIT.false) in
    ap one
    (ap (λ expr. shifted (length before.tags) before.groups (term_or_empty (option_map (term_of 0) expr))) c.in-Some.is
    ∙ ap₂ (λ by groups. shifted by groups (term_of 0 c.in-Some.expr)) (sym first) (sym groups) ∙ sym c.in_ok-copy.ensures.term)

pub returns-clause-tags : goal.returns-clause-tags
returns-clause-tags c before by groups =
    let tags = c.args.definition.now.tags in
    let own = length tags + 2 * c.args.definition.now.groups in
    let fits = subst (λ expr. FitsKept 1 expr c.args.definition.now.size own) c.in-Some.is c.requires.0 in
    let all = length-append before.tags tags in
    let less : c.args.by + 2 * c.args.groups + own ≤ kept (count_of (and_more before tags c.args.definition.now.groups)) =
    omega (arith, by, groups, all, c.len.ensures, c.sum-tags.ensures, c.sum.ensures, c.count_of.ensures, c.if-count_of-gt-TAG_LIMIT.false) in
    subst (HasTagsBelow 1 _) (sym c.in_ok-copy.ensures.term)
    (HasTagsBelow-greater 1 (c.args.by + 2 * c.args.groups + own) (kept (count_of (and_more before tags c.args.definition.now.groups))) (shifted c.args.by c.args.groups (term_of 0 c.in-Some.expr)) less
    (HasTagsBelow-shifted c.args.by c.args.groups own (term_of 0 c.in-Some.expr) fits.2))

pub returns-clause-size : goal.returns-clause-size
returns-clause-size c =
    let own = length c.args.definition.now.tags + 2 * c.args.definition.now.groups in
    let fits = subst (λ expr. FitsKept 1 expr c.args.definition.now.size own) c.in-Some.is c.requires.0 in
    let small = HasTagsBelow-greater 1 own 128 (term_of 0 c.in-Some.expr)
    (omega (arith, c.len.ensures, c.sum-tags.ensures, c.sum.ensures, c.count_of.ensures, c.if-count_of-gt-TAG_LIMIT.false)) fits.2 in
    omega (arith, fits.1, c.in_ok-copy.ensures.size (inr small))

pub returns-clause-kinds : goal.returns-clause-kinds
returns-clause-kinds c before by =
    let tags = c.args.definition.now.tags in
    let kinds = kinds_of c.in-Some.expr in
    let first : c.args.by ≡ length before =
    omega (arith, by, c.len.ensures, c.sum-tags.ensures, c.sum.ensures, c.count_of.ensures, c.if-count_of-gt-TAG_LIMIT.false) in
    subst (HaveKinds (before ++ tags)) (sym (c.in_ok-copy.ensures.kinds ∙ ap (λ by. moved by kinds) first))
    (HaveKinds-moved before tags kinds (subst (HasKeptKinds tags) c.in-Some.is c.requires.1))
