use Rattle.std.proofs.Common.{◌≡◌, ◌∙◌, ap, arith, length, map, subst, sym}
use Rattle.std.proofs.lemmas.List.{length-map}
use Rattle.lx_exprs.specs.Defined.{one}
use Rattle.lx_exprs.specs.Meanings.{character_set}
use Rattle.lx_exprs.specs.Seen.{points_of}
use Rattle.lx_exprs.specs.Values.{HasTagsBelow}
use Rattle.lx_exprs.proofs.Contents.LeafContents.{set_terms-below, string_term-many}
use Rattle.lx_regex.specs.Kinds.{HaveKinds}
use Rattle.lx_exprs.proofs.leaves.string_content.Goals as goal

pub returns-in_ok-expr-in_default-clause-stands : goal.returns-in_ok-expr-in_default-clause-stands
returns-in_ok-expr-in_default-clause-stands c built count past =
    let characters = c.args.characters.now in
    let sets = map (character_set c.args.policy c.args.is_caseless) (points_of characters) in
    let many : length sets ≡ length characters = length-map (points_of characters) _ ∙ length-map characters _ in
    ap one (string_term-many sets (omega (arith, many, c.in_default.len_at_least)) ∙ sym c.in_ok-expr-in_default.ensures.term)

pub returns-in_ok-expr-in_default-clause-tags : goal.returns-in_ok-expr-in_default-clause-tags
returns-in_ok-expr-in_default-clause-tags c bound =
    let sets = map (character_set c.args.policy c.args.is_caseless) (points_of c.args.characters.now) in
    subst (HasTagsBelow 1 bound) (sym c.in_ok-expr-in_default.ensures.term) (set_terms-below bound sets)

pub returns-in_ok-expr-in_default-clause-kinds : goal.returns-in_ok-expr-in_default-clause-kinds
returns-in_ok-expr-in_default-clause-kinds c tags = subst (HaveKinds tags) (sym c.in_ok-expr-in_default.ensures.kinds) tt
