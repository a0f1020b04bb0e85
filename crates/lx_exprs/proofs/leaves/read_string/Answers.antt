use Rattle.std.proofs.Common.{◌≡◌, ◌∙◌, ℕ, List, None, ap, arith, length, map, max, refl, subst, sym}
use Rattle.std.proofs.lemmas.List.{length-map}
use Rattle.lx_token.specs.declared.characters.Character.{Character}
use Rattle.lx_exprs.specs.Defined.{is_built, kept}
use Rattle.lx_forms.specs.Lexemes.{points_in}
use Rattle.lx_exprs.specs.Meanings.{character_set, string_meaning}
use Rattle.lx_exprs.specs.Points.{points_fault, singles}
use Rattle.lx_exprs.specs.Seen.{points_of}
use Rattle.lx_forms.specs.Seen.{lexeme_view}
use Rattle.lx_exprs.specs.Values.{IsValue}
use Rattle.lx_exprs.proofs.Contents.LeafContents.{fits-great}
use Rattle.lx_exprs.proofs.Classes.PointSets.{code_points, points_taken}
use Rattle.lx_exprs.proofs.leaves.read_string.Goals as goal

pub string_content-requires : goal.string_content-requires
string_content-requires c =
    let options = c.args.reader.options.now in
    let characters = c.as_slice-characters.result.now in
    let at = c.args.lexeme.now.at in
    let none : points_fault options.enc options.surrogates at (singles (points_of characters)) ≡ None =
    ap (points_fault options.enc options.surrogates at) (sym (c.deref.ensures.value ∙ c.in_ok-ranges.ensures)) ∙ sym c.points_fault.ensures ∙ c.in_default.is in
    code_points options.enc characters (points_taken options.enc options.surrogates at (singles (points_of characters)) none).0

pub returns-clause-read : goal.returns-clause-read
returns-clause-read c definitions before count =
    let reader = c.args.reader in
    let options = reader.options.now in
    let at = c.args.lexeme.now.at in
    let characters = c.as_slice-characters.result.now in
    let sets = λ (points : List ℕ). map (character_set options.surrogates c.args.is_caseless) points in
    let meaning = λ (points : List ℕ). string_meaning before (sets points) in
    let points : points_of characters ≡ points_in (lexeme_view c.args.lexeme.now) =
    ap (λ (characters : List Character). points_of characters) (c.as_slice-characters.ensures ∙ c.in_ok-characters.ensures) in
    let none : points_fault options.enc options.surrogates at (singles (points_of characters)) ≡ None =
    ap (points_fault options.enc options.surrogates at) (sym (c.deref.ensures.value ∙ c.in_ok-ranges.ensures)) ∙ sym c.points_fault.ensures ∙ c.in_default.is in
    let many : length (sets (points_of characters)) ≡ length characters =
    length-map (points_of characters) _ ∙ length-map characters _ in
    let size : c.sum-size.result ≡ kept (max 1 (length (sets (points_of characters)))) =
    omega (arith, many, c.sum-size.ensures, c.max.ensures) in
    let content =
    c.in_ok-content.ensures.stands (is_built reader.room (meaning (points_of characters))) before
    (λ past. fits-great reader.room c.requires (max 1 (length (sets (points_of characters)))) 0 before (omega (arith, past, many))) in (
      sym (ap (λ points. points_fault options.enc options.surrogates at (singles points)) (sym points) ∙ none),
      subst (λ points. IsValue reader.room (meaning points) c.in_ok-limited.field-0) points
          (c.in_ok-limited.ensures.stands (meaning (points_of characters)) (record { size_is = size; nesting_is = refl; groups_is = refl; tags_is = count }) content),
    )

pub returns-clause-bounded : goal.returns-clause-bounded
returns-clause-bounded c =
    let size = c.in_ok-content.ensures.size in
    c.in_ok-limited.ensures.bounded (omega (arith, c.sum-size.ensures, c.max.ensures))
    (λ small. omega (arith, size, small, c.sum-size.ensures, c.max.ensures)) (c.in_ok-content.ensures.tags c.args.count)

pub returns-clause-kinds : goal.returns-clause-kinds
returns-clause-kinds c tags = c.in_ok-limited.ensures.kinds tags (c.in_ok-content.ensures.kinds tags)
