-- The checks of an expression surely find a fault, or nothing; and then it means something.
use Rattle.std.proofs.Common.{◌≡◌, ℕ, ◌+◌, ◌≤◌, ◌⊎◌, inl, inr, max, Bool, true, false, List, [], ◌++◌, Option, None, Some, refl, sym, subst}
use Rattle.lx_base.specs.Spelling.{greatest_point}
use Rattle.lx_base.specs.declared.faults.Fault.{Fault}
use Rattle.lx_base.specs.declared.faults.Fault.TheVariants.{EmptyClass, NotClass, Syntax, UnknownName}
use Rattle.lx_base.specs.declared.places.Pos.{Pos}
use Rattle.lx_base.specs.declared.settings.EmptyPolicy.{EmptyPolicy}
use Rattle.lx_base.specs.declared.settings.EmptyPolicy.TheVariants.{MatchEmpty, MatchNone, Error}
use Rattle.lx_base.specs.declared.settings.Options.{Options}
use Rattle.lx_token.specs.Classes.{class_of}
use Rattle.lx_token.specs.declared.kinds.TokenKind.{TokenKind}
use Rattle.lx_token.specs.declared.kinds.TokenKind.TheVariants as kind
use Rattle.lx_exprs.specs.Checks.{AreClasses, Check, Checks, Finds, HasPoint, IsFilled, LeafChecks, LeafHas, PointsAre, Then, are_groups, bounds_fault, bounds_of, class_ranges, inner_operand, is_class, name_fault, tag_of, tags_of}
use Rattle.lx_exprs.specs.Defined.{Before, Definition, Meaning, count_of, definition_of, kept, whole}
use Rattle.lx_regex.specs.declared.rules.Tag.{Tag}
use Rattle.lx_forms.specs.Forms.{Form, leaf, group, repeated, sequence, difference, alternative}
use Rattle.lx_forms.specs.Lexemes.{Lexeme}
use Rattle.lx_exprs.specs.Meanings.{IsClassMeaning, IsLeafMeaning, IsMeaning, alternated, class_meaning, copied, followed, in_parentheses, meaning_of_string, parenthesized, past, repeated_by, tag_meaning}
use Rattle.lx_exprs.specs.Within.{AreDefinedWithin}
use Rattle.lx_exprs.proofs.Classes.BoundedSets.{set_exists}
use Rattle.lx_exprs.proofs.Classical.{Surely, surely, and_then, excluded_middle}
use Rattle.lx_exprs.proofs.Classes.ClassFits.{plain_class, point_fits}
use Rattle.lx_exprs.proofs.Forms.ClassForms.{form-agrees, then-none}
use Rattle.lx_exprs.proofs.Forms.FormFits.{class_has_fits, form_ready}
use Rattle.lx_exprs.proofs.Forms.FormRuns.{both_true, tags-in_parentheses}
use Rattle.lx_exprs.proofs.Classes.PointSets.{le_greatest, points_taken}

-- a check surely finds a fault, or nothing
abbrev pub Decides : Check → Type 0
Decides Faults = Surely ((fault : Option Fault) × Faults fault)

pub finds_decides : (found : Option Fault) → Decides (Finds found)
finds_decides found = surely (found, refl)

pub then_decides : (First Second : Check) → Decides First → Decides Second → Decides (Then First Second)
then_decides First Second first second = and_then first (λ one. of one.0 one.1)
  where
    of : (fault : Option Fault) → First fault → Decides (Then First Second)
    of None none = and_then second (λ two. surely (two.0, inl (none, two.1)))
    of (Some fault) found = surely (Some fault, inr (fault, found, refl))

module _ (options : Options) (definitions : List Definition) where
  filled_decides : (policy : EmptyPolicy) (operand : Bool) (at : Pos) (Has : ℕ → Type 0)
      → Decides (IsFilled options definitions policy operand at Has)
  filled_decides MatchEmpty operand at Has = surely (None, refl)
  filled_decides MatchNone operand at Has = surely (None, refl)
  filled_decides Error true at Has = surely (None, refl)
  filled_decides Error false at Has = and_then (excluded_middle ((point : ℕ) × Has point)) (λ found. surely (of found))
    where
      of : ((point : ℕ) × Has point) ⊎ ((point : ℕ) × Has point → ⊥)
          → (fault : Option Fault) × IsFilled options definitions Error false at Has fault
      of (inl some) = (None, inl (some, refl))
      of (inr none) = (Some (EmptyClass at), inr (λ point has. none (point, has), refl))

  leaf_decides : (sort : TokenKind) (operand : Bool) (seen : List Tag) (lexeme : Lexeme)
      → Decides (LeafChecks options definitions sort operand seen lexeme)
  leaf_decides kind.Class operand seen lexeme =
      then_decides (PointsAre options definitions lexeme (class_ranges lexeme))
      (IsFilled options definitions options.empty operand lexeme.at (LeafHas options definitions kind.Class lexeme))
      (surely (_, refl)) (filled_decides options.empty operand lexeme.at (LeafHas options definitions kind.Class lexeme))
  leaf_decides sort operand seen lexeme = surely (_, refl)

  pub form_decides : (operand : Bool) (seen : List Tag) (form : Form) → Decides (Checks options definitions operand seen form)
  form_decides operand seen (leaf lexeme) = leaf_decides lexeme.kind operand seen lexeme
  form_decides operand seen (group opening inner) = form_decides (inner_operand options definitions operand) seen inner
  form_decides operand seen (repeated inner sign) =
      then_decides (Checks options definitions false seen inner) (Finds (bounds_fault sign)) (form_decides false seen inner)
      (finds_decides (bounds_fault sign))
  form_decides operand seen (sequence front back) =
      then_decides (Checks options definitions false seen front) (Checks options definitions false (seen ++ tags_of options definitions front) back)
      (form_decides false seen front) (form_decides false (seen ++ tags_of options definitions front) back)
  form_decides operand seen (difference left sign right) =
      let Second : Check = Checks options definitions true (seen ++ tags_of options definitions left) right in
      let Filled : Check = IsFilled options definitions options.empty operand sign.at (HasPoint options definitions (difference left sign right)) in
      then_decides (Checks options definitions true seen left) (Then Second (Then (AreClasses options definitions left right sign) Filled))
      (form_decides true seen left)
      (then_decides Second (Then (AreClasses options definitions left right sign) Filled)
      (form_decides true (seen ++ tags_of options definitions left) right)
      (then_decides (AreClasses options definitions left right sign) Filled (surely (_, refl))
      (filled_decides options.empty operand sign.at (HasPoint options definitions (difference left sign right)))))
  form_decides operand seen (alternative left sign right) =
      then_decides (Checks options definitions operand seen left) (Checks options definitions operand (seen ++ tags_of options definitions left) right)
      (form_decides operand seen left) (form_decides operand (seen ++ tags_of options definitions left) right)

module _ (options : Options) (definitions : List Definition) (ready : AreDefinedWithin options definitions) where
  class_means : (operand : Bool) (nesting : ℕ) (tags : List Tag) (groups count : ℕ) (Has : ℕ → Type 0)
      → ((point : ℕ) → Has point → point ≤ greatest_point options.enc)
      → Surely ((meaning : Meaning) × IsClassMeaning options definitions operand nesting tags groups count Has meaning)
  class_means operand nesting tags groups count Has fit =
      and_then (set_exists Has (λ point has. le_greatest options.enc point (fit point has)))
      (λ found. surely (class_meaning operand options.empty nesting tags groups count found.0, (found.0, found.1, refl)))

  leaf_means : (operand : Bool) (sort : TokenKind) (before : Before) (lexeme : Lexeme)
      → LeafChecks options definitions sort operand before.tags lexeme None
      → Surely ((meaning : Meaning) × IsLeafMeaning options definitions operand sort before lexeme meaning)
  leaf_means operand kind.Str before lexeme checked = surely (meaning_of_string options definitions false (count_of before) lexeme, refl)
  leaf_means operand kind.IStr before lexeme checked = surely (meaning_of_string options definitions true (count_of before) lexeme, refl)
  leaf_means operand kind.Class before lexeme checked =
      let found =
      then-none (PointsAre options definitions lexeme (class_ranges lexeme))
      (IsFilled options definitions options.empty operand lexeme.at (LeafHas options definitions kind.Class lexeme)) checked in
      let fit = (points_taken options.enc options.surrogates lexeme.at (class_ranges lexeme) (sym found.0)).0 in
      class_means operand 0 [] 0 (count_of before) (LeafHas options definitions kind.Class lexeme)
      (class_has_fits options definitions ready (class_of lexeme.text).is_negated (class_ranges lexeme) fit)
  leaf_means operand kind.Signs before lexeme checked =
      class_means operand 0 [] 0 (count_of before) (LeafHas options definitions kind.Signs lexeme)
      (λ point has. point_fits options.enc options.surrogates point has.0)
  leaf_means operand kind.Name before lexeme checked = of (definition_of definitions lexeme.text) refl checked
    where
      of : (found : Option Definition) → definition_of definitions lexeme.text ≡ found
          → None ≡ name_fault options definitions found lexeme before.tags
          → Surely ((meaning : Meaning) × IsLeafMeaning options definitions operand kind.Name before lexeme meaning)
      of None e none = absurd (let h : None ≡ Some (UnknownName lexeme.at lexeme.text) = none in cc)
      of (Some definition) e none = surely (copied before definition, (definition, e, refl))
  leaf_means operand kind.STag before lexeme checked = surely (tag_meaning before (tag_of false lexeme), refl)
  leaf_means operand kind.MTag before lexeme checked = surely (tag_meaning before (tag_of true lexeme), refl)
  leaf_means operand sort before lexeme checked = absurd (let h : None ≡ Some (Syntax lexeme.at) = checked in cc)

  pub form_means : (operand : Bool) (before : Before) (form : Form) → Checks options definitions operand before.tags form None
      → Surely ((meaning : Meaning) × IsMeaning options definitions operand before form meaning)
  form_means operand before (leaf lexeme) checked = leaf_means operand lexeme.kind before lexeme checked
  form_means operand before (group opening inner) checked =
      let is_group = are_groups options definitions in
      let within = inner_operand options definitions operand in
      let inside =
      subst (λ tags. Checks options definitions within tags inner None) (sym (tags-in_parentheses is_group before)) checked in
      and_then (form_means within (in_parentheses is_group before) inner inside)
      (λ body. surely (parenthesized is_group before body.0, (body.0, body.1, refl)))
  form_means operand before (repeated inner sign) checked =
      let found = then-none (Checks options definitions false before.tags inner) (λ fault. fault ≡ bounds_fault sign) checked in
      and_then (form_means false before inner found.0) (λ body. surely (repeated_by (bounds_of sign) body.0, (body.0, body.1, refl)))
  form_means operand before (sequence front back) checked =
      let behind = past options definitions before front in
      let found =
      then-none (Checks options definitions false before.tags front) (Checks options definitions false behind.tags back) checked in
      and_then (form_means false before front found.0)
      (λ one. and_then (form_means false behind back found.1)
      (λ two. surely (followed one.0 two.0, (one.0, two.0, one.1, two.1, refl))))
  form_means operand before (difference left sign right) checked =
      let behind = past options definitions before left in
      let Second : Check = Checks options definitions true behind.tags right in
      let Filled : Check = IsFilled options definitions options.empty operand sign.at (HasPoint options definitions (difference left sign right)) in
      let found = then-none (Checks options definitions true before.tags left) (Then Second (Then (AreClasses options definitions left right sign) Filled)) checked in
      let later = then-none Second (Then (AreClasses options definitions left right sign) Filled) found.1 in
      let last = then-none (AreClasses options definitions left right sign) Filled later.1 in
      let classes = both_true (is_class options definitions left) (is_class options definitions right) (NotClass sign.at) last.0 in
      and_then (form_means true before left found.0)
      (λ one. and_then (form_means true behind right later.0)
      (λ two.
      let plain = (form_ready options definitions ready true before left one.0 found.0 one.1).within.plain in
      let agrees = form-agrees options definitions left before one.0 found.0 one.1 in
      and_then
      (class_means operand (max one.0.nesting two.0.nesting) (one.0.tags ++ two.0.tags) (kept (one.0.groups + two.0.groups))
      (max one.0.count two.0.count) (HasPoint options definitions (difference left sign right))
      (λ point has. plain_class options.enc (whole one.0.shape) plain point ((agrees.points classes.0 point).1 has.0)))
      (λ class. surely (class.0, (one.0, two.0, one.1, two.1, class.1)))))
  form_means operand before (alternative left sign right) checked =
      let behind = past options definitions before left in
      let found =
      then-none (Checks options definitions operand before.tags left) (Checks options definitions operand behind.tags right) checked in
      and_then (form_means operand before left found.0)
      (λ one. and_then (form_means operand behind right found.1)
      (λ two. surely (alternated one.0 two.0, (one.0, two.0, one.1, two.1, refl))))
