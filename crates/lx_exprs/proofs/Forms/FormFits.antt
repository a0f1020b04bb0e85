-- What is asked of meanings holds of each expression whose checks find nothing.
use Rattle.std.proofs.Common.{◌≡◌, ℕ, suc, ◌+◌, ◌≤◌, max, Bool, true, false, List, [], ◌∷◌, ◌++◌, length, map, None, refl, sym, ap, ap₂, ◌∙◌, subst, arith, length-append}
use Rattle.lx_base.specs.Spelling.{greatest_point}
use Rattle.lx_base.specs.declared.faults.Fault.TheVariants.{NotClass}
use Rattle.lx_base.specs.declared.settings.Options.{Options}
use Rattle.lx_class.specs.declared.ranges.Range.{Range}
use Rattle.lx_encode.specs.Policy.{FitsEncoding}
use Rattle.lx_token.specs.Classes.{class_of}
use Rattle.lx_token.specs.declared.kinds.TokenKind.{TokenKind}
use Rattle.lx_token.specs.declared.kinds.TokenKind.TheVariants as kind
use Rattle.lx_exprs.specs.Checks.{AreClasses, Check, Checks, ClassHas, HasPoint, IsFilled, LeafChecks, LeafHas, PointsAre, Then, are_groups, bounds_fault, bounds_of, class_ranges, defined_groups, defined_tags, groups_of, inner_operand, is_class, leaf_groups, leaf_tags, tag_of, tags_of}
use Rattle.lx_exprs.specs.Defined.{Before, Definition, Meaning, and_more, count_of, kept, whole}
use Rattle.lx_regex.specs.declared.rules.Tag.{Tag}
use Rattle.std.specs.Prelude.{if◌then◌else◌}
use Rattle.lx_forms.specs.Forms.{Form, leaf, group, repeated, sequence, difference, alternative}
use Rattle.lx_forms.specs.Lexemes.{Lexeme, points_in}
use Rattle.lx_exprs.specs.Meanings.{IsClassMeaning, IsLeafMeaning, IsMeaning, character_set, in_parentheses, meaning_of_string, past}
use Rattle.lx_exprs.specs.Points.{singles}
use Rattle.lx_exprs.specs.Within.{AreDefinedWithin}
use Rattle.lx_exprs.proofs.Classes.ClassFits.{after_fits, plain_class, point_fits, string_plain}
use Rattle.lx_exprs.proofs.Forms.ClassForms.{form-agrees, then-none}
use Rattle.lx_exprs.proofs.Forms.FormRuns.{both_true, groups-parenthesized, tags-in_parentheses, tags-parenthesized}
use Rattle.lx_exprs.proofs.Forms.MeaningFits.{IsMeantWithin, alternated_within, class_within, copied_within, definition_within, followed_within, parenthesized_within, repeated_within, string_within, tag_within}
use Rattle.lx_exprs.proofs.Classes.PointSets.{points_taken}

module _ (options : Options) (definitions : List Definition) (ready : AreDefinedWithin options definitions) where
  -- a meaning is as is asked, and has the tags and groups of its form
  pub record IsMeantWithTags (before : Before) (tags : List Tag) (groups : ℕ) (meaning : Meaning) : Type 0 where
    pub within : IsMeantWithin options.enc before meaning
    pub tags_are : meaning.tags ≡ tags
    pub groups_are : meaning.groups ≡ groups

  string_ready : (is_caseless : Bool) (before : Before) (lexeme : Lexeme) (meaning : Meaning)
      → PointsAre options definitions lexeme (singles (points_in lexeme)) None
      → meaning ≡ meaning_of_string options definitions is_caseless (count_of before) lexeme → IsMeantWithTags before [] 0 meaning
  string_ready is_caseless before lexeme meaning checked is =
      let fit = (points_taken options.enc options.surrogates lexeme.at (singles (points_in lexeme)) (sym checked)).0 in
      subst (IsMeantWithTags before [] 0) (sym is) (record {
        within =
            string_within options.enc before (map (character_set options.surrogates is_caseless) (points_in lexeme))
            (string_plain options.enc options.surrogates is_caseless (points_in lexeme) fit);
        tags_are = refl;
        groups_are = refl;
      })

  class_ready : (operand : Bool) (nesting : ℕ) (before : Before) (tags : List Tag) (groups count : ℕ) (Has : ℕ → Type 0) (meaning : Meaning)
      → IsClassMeaning options definitions operand nesting tags groups count Has meaning
      → ((point : ℕ) → Has point → point ≤ greatest_point options.enc)
      → tags ≡ [] → groups ≡ 0 → count ≡ count_of before → IsMeantWithTags before tags groups meaning
  class_ready operand nesting before tags groups count Has meaning is fit none ungrouped same =
      subst (IsMeantWithTags before tags groups) (sym is.2) (record {
        within =
            class_within options.enc operand options.empty nesting tags groups count before is.0
            (λ point inside. fit point ((is.1.points point).0 inside)) none ungrouped same;
        tags_are = refl;
        groups_are = refl;
      })

  pub class_has_fits : (is_negated : Bool) (ranges : List Range) → FitsEncoding options.enc ranges → (point : ℕ)
      → ClassHas options definitions is_negated ranges point → point ≤ greatest_point options.enc
  class_has_fits false ranges fit point has = after_fits options.enc options.surrogates ranges fit point has
  class_has_fits true ranges fit point has = point_fits options.enc options.surrogates point has.0

  leaf_ready : (operand : Bool) (sort : TokenKind) (before : Before) (lexeme : Lexeme) (meaning : Meaning)
      → LeafChecks options definitions sort operand before.tags lexeme None → IsLeafMeaning options definitions operand sort before lexeme meaning
      → IsMeantWithTags before (leaf_tags options definitions sort lexeme) (leaf_groups options definitions sort lexeme) meaning
  leaf_ready operand kind.Str before lexeme meaning checked is = string_ready false before lexeme meaning checked is
  leaf_ready operand kind.IStr before lexeme meaning checked is = string_ready true before lexeme meaning checked is
  leaf_ready operand kind.Class before lexeme meaning checked is =
      let found =
      then-none (PointsAre options definitions lexeme (class_ranges lexeme))
      (IsFilled options definitions options.empty operand lexeme.at (LeafHas options definitions kind.Class lexeme)) checked in
      let fit = (points_taken options.enc options.surrogates lexeme.at (class_ranges lexeme) (sym found.0)).0 in
      class_ready operand 0 before [] 0 (count_of before) (LeafHas options definitions kind.Class lexeme) meaning is
      (class_has_fits (class_of lexeme.text).is_negated (class_ranges lexeme) fit) refl refl refl
  leaf_ready operand kind.Signs before lexeme meaning checked is =
      class_ready operand 0 before [] 0 (count_of before) (LeafHas options definitions kind.Signs lexeme) meaning is
      (λ point has. point_fits options.enc options.surrogates point has.0) refl refl refl
  leaf_ready operand kind.Name before lexeme meaning checked is =
      subst (λ found. IsMeantWithTags before (defined_tags options definitions found) (defined_groups options definitions found) meaning) (sym is.1)
      (subst (IsMeantWithTags before is.0.tags is.0.groups) (sym is.2) (record {
        within = copied_within options.enc before is.0 (definition_within options definitions lexeme.text is.0 ready is.1);
        tags_are = refl;
        groups_are = refl;
      }))
  leaf_ready operand kind.STag before lexeme meaning checked is =
      subst (IsMeantWithTags before (tag_of false lexeme ∷ []) 0) (sym is)
      (record { within = tag_within options.enc before (tag_of false lexeme); tags_are = refl; groups_are = refl })
  leaf_ready operand kind.MTag before lexeme meaning checked is =
      subst (IsMeantWithTags before (tag_of true lexeme ∷ []) 0) (sym is)
      (record { within = tag_within options.enc before (tag_of true lexeme); tags_are = refl; groups_are = refl })
  leaf_ready operand sort before lexeme meaning checked is = absurd is

  -- what stands behind a first meaning begins behind its tags and groups
  behind : (before : Before) (tags : List Tag) (groups : ℕ) (first second : Meaning) → IsMeantWithTags before tags groups first
      → IsMeantWithin options.enc (and_more before tags groups) second
      → IsMeantWithin options.enc (and_more before first.tags first.groups) second
  behind before tags groups first second is is_too =
      subst (λ start. IsMeantWithin options.enc start second)
      (ap₂ (λ tags groups. and_more before tags groups) (sym is.tags_are) (sym is.groups_are)) is_too

  pub form_ready : (operand : Bool) (before : Before) (form : Form) (meaning : Meaning) → Checks options definitions operand before.tags form None
      → IsMeaning options definitions operand before form meaning
      → IsMeantWithTags before (tags_of options definitions form) (groups_of options definitions form) meaning
  form_ready operand before (leaf lexeme) meaning checked is = leaf_ready operand lexeme.kind before lexeme meaning checked is
  form_ready operand before (group opening inner) meaning checked is =
      let is_group = are_groups options definitions in
      let within_operand = inner_operand options definitions operand in
      let inside =
      form_ready within_operand (in_parentheses is_group before) inner is.0
      (subst (λ tags. Checks options definitions within_operand tags inner None) (sym (tags-in_parentheses is_group before)) checked) is.1 in
      subst (IsMeantWithTags before (tags_of options definitions inner) (groups_of options definitions (group opening inner))) (sym is.2) (record {
        within = parenthesized_within options.enc is_group before is.0 inside.within;
        tags_are = tags-parenthesized is_group before is.0 ∙ inside.tags_are;
        groups_are = groups-parenthesized is_group before is.0 ∙ ap (λ n. if is_group then kept (suc n) else n) inside.groups_are;
      })
  form_ready operand before (repeated inner sign) meaning checked is =
      let found = then-none (Checks options definitions false before.tags inner) (λ fault. fault ≡ bounds_fault sign) checked in
      let inside = form_ready false before inner is.0 found.0 is.1 in
      subst (IsMeantWithTags before (tags_of options definitions inner) (groups_of options definitions inner)) (sym is.2)
      (record { within = repeated_within options.enc before (bounds_of sign) is.0 inside.within; tags_are = inside.tags_are; groups_are = inside.groups_are })
  form_ready operand before (sequence front back) meaning checked is =
      let there = past options definitions before front in
      let found =
      then-none (Checks options definitions false before.tags front) (Checks options definitions false there.tags back) checked in
      let one = form_ready false before front is.0 found.0 is.2 in
      let two = form_ready false there back is.1 found.1 is.3 in
      subst (IsMeantWithTags before (tags_of options definitions (sequence front back)) (groups_of options definitions (sequence front back))) (sym is.4) (record {
        within =
            followed_within options.enc before is.0 is.1 one.within
            (behind before (tags_of options definitions front) (groups_of options definitions front) is.0 is.1 one two.within);
        tags_are = ap₂ (λ (a b : List Tag). a ++ b) one.tags_are two.tags_are;
        groups_are = ap₂ (λ a b. kept (a + b)) one.groups_are two.groups_are;
      })
  form_ready operand before (difference left sign right) meaning checked is =
      let there = past options definitions before left in
      let Second : Check = Checks options definitions true there.tags right in
      let Filled : Check = IsFilled options definitions options.empty operand sign.at (HasPoint options definitions (difference left sign right)) in
      let found = then-none (Checks options definitions true before.tags left) (Then Second (Then (AreClasses options definitions left right sign) Filled)) checked in
      let later = then-none Second (Then (AreClasses options definitions left right sign) Filled) found.1 in
      let last = then-none (AreClasses options definitions left right sign) Filled later.1 in
      let classes = both_true (is_class options definitions left) (is_class options definitions right) (NotClass sign.at) last.0 in
      let one = form_ready true before left is.0 found.0 is.2 in
      let two = form_ready true there right is.1 later.0 is.3 in
      let agrees = form-agrees options definitions left before is.0 found.0 is.2 in
      let agrees_too = form-agrees options definitions right there is.1 later.0 is.3 in
      let none = one.within.untagged (sym agrees.class_is ∙ classes.0) in
      let none_too = two.within.untagged (sym agrees_too.class_is ∙ classes.1) in
      let untagged : is.0.tags ++ is.1.tags ≡ [] = ap₂ (λ (a b : List Tag). a ++ b) none.0 none_too.0 in
      let ungrouped : kept (is.0.groups + is.1.groups) ≡ 0 = ap₂ (λ a b. kept (a + b)) none.1 none_too.1 in
      let ready =
      class_ready operand (max is.0.nesting is.1.nesting) before (is.0.tags ++ is.1.tags) (kept (is.0.groups + is.1.groups)) (max is.0.count is.1.count)
      (HasPoint options definitions (difference left sign right)) meaning is.4
      (λ point has. plain_class options.enc (whole is.0.shape) one.within.plain point ((agrees.points classes.0 point).1 has.0)) untagged ungrouped
      (both_counts before is.0 is.1 one.within none
      (behind before (tags_of options definitions left) (groups_of options definitions left) is.0 is.1 one two.within) none_too) in record {
        within = ready.within;
        tags_are = ready.tags_are ∙ ap₂ (λ (a b : List Tag). a ++ b) one.tags_are two.tags_are;
        groups_are = ready.groups_are ∙ ap₂ (λ a b. kept (a + b)) one.groups_are two.groups_are;
      }
    where
      both_counts : (before : Before) (first second : Meaning) → IsMeantWithin options.enc before first → (first.tags ≡ []) × (first.groups ≡ 0)
          → IsMeantWithin options.enc (and_more before first.tags first.groups) second → (second.tags ≡ []) × (second.groups ≡ 0)
          → max first.count second.count ≡ count_of before
      both_counts before first second is none is_too none_too =
          let here = is.count in let there = is_too.count in
          let short = ap (λ (l : List Tag). length l) none.0 in let short_too = ap (λ (l : List Tag). length l) none_too.0 in
          let front = length-append before.tags first.tags in
          let back = length-append (before.tags ++ first.tags) second.tags in
          let ungrouped = none.1 in let ungrouped_too = none_too.1 in
          omega (arith, here, there, short, short_too, front, back, ungrouped, ungrouped_too)
  form_ready operand before (alternative left sign right) meaning checked is =
      let there = past options definitions before left in
      let found =
      then-none (Checks options definitions operand before.tags left) (Checks options definitions operand there.tags right) checked in
      let one = form_ready operand before left is.0 found.0 is.2 in
      let two = form_ready operand there right is.1 found.1 is.3 in
      subst (IsMeantWithTags before (tags_of options definitions (alternative left sign right)) (groups_of options definitions (alternative left sign right))) (sym is.4)
      (record {
        within =
            alternated_within options.enc before is.0 is.1 one.within
            (behind before (tags_of options definitions left) (groups_of options definitions left) is.0 is.1 one two.within);
        tags_are = ap₂ (λ (a b : List Tag). a ++ b) one.tags_are two.tags_are;
        groups_are = ap₂ (λ a b. kept (a + b)) one.groups_are two.groups_are;
      })
