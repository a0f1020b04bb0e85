-- The faults that the checks of an expression find stand at its tokens, and so in their file.
use Rattle.std.proofs.Common.{◌≡◌, ℕ, suc, Bool, true, false, List, [], ◌∷◌, ◌++◌, Option, Some, None, subst, inl, inr}
use Rattle.std.specs.Prelude.{◌&&◌, if◌then◌else◌}
use Rattle.std.specs.Option.{option_map, option_or}
use Rattle.lx_base.specs.declared.faults.Fault.{Fault}
use Rattle.lx_base.specs.declared.faults.Fault.TheVariants.{Bounds, CodePoint, DuplicateTag, NotClass, TagsOff}
use Rattle.lx_base.specs.Spelling.{greatest_point}
use Rattle.lx_base.specs.declared.places.Pos.{Pos}
use Rattle.lx_base.specs.declared.settings.EmptyPolicy.{EmptyPolicy}
use Rattle.lx_base.specs.declared.settings.EmptyPolicy.TheVariants.{MatchEmpty, MatchNone, Error}
use Rattle.lx_base.specs.declared.settings.Enc.{Enc}
use Rattle.lx_base.specs.declared.settings.Options.{Options}
use Rattle.lx_base.specs.declared.settings.SurPolicy.{SurPolicy}
use Rattle.lx_base.specs.declared.settings.SurPolicy.TheVariants.{Ignore, Substitute, Fail}
use Rattle.lx_class.specs.declared.ranges.Range.{Range}
use Rattle.lx_parse.specs.Expressions.{Part}
use Rattle.lx_exprs.specs.Checks.{Check, Then, Finds, misplaced, Checks, LeafChecks, IsFilled, PointsAre, AreClasses, HasPoint, LeafHas, bounds_fault, bounds_of, class_ranges, inner_operand, is_class, is_wrong, name_fault, repeated_tag, tag_fault, tag_of, tags_of, is_tag_among}
use Rattle.lx_regex.specs.declared.rules.Tag.{Tag}
use Rattle.lx_exprs.specs.Defined.{Definition, definition_of, slash_tag}
use Rattle.lx_forms.specs.Forms.{Form, leaf, group, repeated, sequence, difference, alternative, IsForm, is_leaf, is_group, is_bare, is_repeated, is_first_post, is_sequence, is_first_cat, is_difference, is_first_diff, is_alternative}
use Rattle.lx_forms.specs.Lexemes.{Lexeme, StandInFile, points_in}
use Rattle.lx_forms.proofs.FilePlaces.{drop-file}
use Rattle.lx_exprs.specs.Expressions.{ContextChecks, ExpressionChecks}
use Rattle.lx_exprs.specs.FaultPlaces.{StandsIn}
use Rattle.lx_exprs.specs.Points.{least_from, points_fault, singles, surrogate_fault, up_to}
use Rattle.lx_token.specs.declared.kinds.TokenKind.{TokenKind}
use Rattle.lx_token.specs.declared.kinds.TokenKind.TheVariants as kind

module _ (file : ℕ) where
  -- a fault that is found stands in the file
  abbrev pub IsFoundIn : Option Fault → Type 0
  IsFoundIn None = Unit {0}
  IsFoundIn (Some fault) = StandsIn file fault

  -- each fault that a check finds stands in the file
  pub record FindsIn (Faults : Check) : Type 0 where
    pub finds : (fault : Fault) → Faults (Some fault) → StandsIn file fault

  pub FindsIn-Then : (First Second : Check) → FindsIn First → FindsIn Second → FindsIn (Then First Second)
  FindsIn-Then First Second one two = record { finds = by }
    where
      by : (fault : Fault) → Then First Second (Some fault) → StandsIn file fault
      by fault (inl found) = two.finds fault found.1
      by fault (inr found) =
          let same : found.0 ≡ fault = cc in subst (StandsIn file) same (one.finds found.0 found.1)

  pub file-found : (found : Option Fault) → IsFoundIn found → (fault : Fault) → Some fault ≡ found → StandsIn file fault
  file-found None are fault is = absurd cc
  file-found (Some other) are fault is = let same : other ≡ fault = cc in subst (StandsIn file) same are

  pub FindsIn-Finds : (found : Option Fault) → IsFoundIn found → FindsIn (Finds found)
  FindsIn-Finds found are = record { finds = file-found found are }

  -- the tokens of a form are of the file
  abbrev pub IsFormIn : Form → Type 0
  IsFormIn (leaf lexeme) = lexeme.at.file ≡ file
  IsFormIn (group opening inner) = (opening.at.file ≡ file) × IsFormIn inner
  IsFormIn (repeated inner sign) = IsFormIn inner × (sign.at.file ≡ file)
  IsFormIn (sequence front back) = IsFormIn front × IsFormIn back
  IsFormIn (difference left sign right) = IsFormIn left × (sign.at.file ≡ file) × IsFormIn right
  IsFormIn (alternative left sign right) = IsFormIn left × (sign.at.file ≡ file) × IsFormIn right

  -- a form of tokens of the file is of the file, and so is what follows it
  pub form-file : {part : Part} {text rest : List Lexeme} {form : Form} → IsForm part text rest form → StandInFile file text
      → IsFormIn form × StandInFile file rest
  form-file (is_leaf lexeme rest atom) are = (are.0, are.1)
  form-file (is_group opening closing text rest inner opens closes form) are =
      let inside = form-file form are.1 in ((are.0, inside.0), inside.1.1)
  form-file (is_bare text rest form is) are = form-file is are
  form-file (is_repeated text rest sign inner is postfix) are =
      let inside = form-file is are in ((inside.0, inside.1.0), inside.1.1)
  form-file (is_first_post text rest form is) are = form-file is are
  form-file (is_sequence text middle rest front back is other) are =
      let one = form-file is are in
      let two = form-file other one.1 in ((one.0, two.0), two.1)
  form-file (is_first_cat text rest form is) are = form-file is are
  form-file (is_difference text middle rest sign left right signs is other) are =
      let one = form-file is are in
      let two = form-file other one.1.1 in ((one.0, one.1.0, two.0), two.1)
  form-file (is_first_diff text rest form is) are = form-file is are
  form-file (is_alternative text middle rest sign left right signs is other) are =
      let one = form-file is are in
      let two = form-file other one.1.1 in ((one.0, one.1.0, two.0), two.1)

  -- a fault at such a place, be it found or not
  pub option_or-file : (one two : Option Fault) → IsFoundIn one → IsFoundIn two → IsFoundIn (option_or one two)
  option_or-file None two first second = second
  option_or-file (Some fault) two first second = first

  pub if-file : (test : Bool) (one two : Option Fault) → IsFoundIn one → IsFoundIn two → IsFoundIn (if◌then◌else◌ {A = Option Fault} test one two)
  if-file true one two first second = first
  if-file false one two first second = second

  pub option_map-file : {X : Type 0} (found : Option X) (fault_of : X → Fault) → ((x : X) → StandsIn file (fault_of x)) → IsFoundIn (option_map fault_of found)
  option_map-file None fault_of are = tt
  option_map-file (Some x) fault_of are = are x

  surrogate-file : (policy : SurPolicy) (at : Pos) (ranges : List Range) → at.file ≡ file → IsFoundIn (surrogate_fault policy at ranges)
  surrogate-file Ignore at ranges is = tt
  surrogate-file Substitute at ranges is = tt
  surrogate-file Fail at ranges is = option_map-file (up_to 0xDFFF (least_from 0xD800 ranges)) _ (λ point. is)

  points-file : (enc : Enc) (policy : SurPolicy) (at : Pos) (ranges : List Range) → at.file ≡ file → IsFoundIn (points_fault enc policy at ranges)
  points-file enc policy at ranges is =
      option_or-file
      (option_map (λ point. CodePoint at point) (least_from (suc (greatest_point enc)) ranges))
      (surrogate_fault policy at ranges)
      (option_map-file (least_from (suc (greatest_point enc)) ranges) (λ point. CodePoint at point) (λ point. is))
      (surrogate-file policy at ranges is)

  repeated_tag-file : (at : Pos) (tags seen : List Tag) → at.file ≡ file → IsFoundIn (repeated_tag at tags seen)
  repeated_tag-file at [] seen is = tt
  repeated_tag-file at (tag ∷ tags) seen is = if-file (is_tag_among tag.name seen) (Some (DuplicateTag at tag.name)) (repeated_tag at tags seen) is (repeated_tag-file at tags seen is)

  bounds-file : (lexeme : Lexeme) → lexeme.at.file ≡ file → IsFoundIn (bounds_fault lexeme)
  bounds-file lexeme is =
      let bounds = bounds_of lexeme in
      if-file (is_wrong bounds.min bounds.max) (Some (Bounds lexeme.at bounds.min bounds.max)) None is tt

  module _ (options : Options) (definitions : List Definition) where
    filled-file : (policy : EmptyPolicy) (is_operand : Bool) (at : Pos) (HasPoint : ℕ → Type 0) → at.file ≡ file
        → FindsIn (IsFilled options definitions policy is_operand at HasPoint)
    filled-file MatchEmpty is_operand at HasPoint is = record { finds = λ fault found. absurd cc }
    filled-file MatchNone is_operand at HasPoint is = record { finds = λ fault found. absurd cc }
    filled-file Error true at HasPoint is = record { finds = λ fault found. absurd cc }
    filled-file Error false at HasPoint is = record { finds = by }
      where
        by : (fault : Fault) → IsFilled options definitions Error false at HasPoint (Some fault) → StandsIn file fault
        by fault (inl found) = let none = found.1 in absurd cc
        by fault (inr found) = file-found _ is fault found.1

    name-file : (definition : Option Definition) (lexeme : Lexeme) (seen : List Tag) → lexeme.at.file ≡ file
        → IsFoundIn (name_fault options definitions definition lexeme seen)
    name-file None lexeme seen is = is
    name-file (Some definition) lexeme seen is = repeated_tag-file lexeme.at definition.tags seen is

    tag-file : (many : Bool) (lexeme : Lexeme) (seen : List Tag) → lexeme.at.file ≡ file → IsFoundIn (tag_fault options definitions many lexeme seen)
    tag-file many lexeme seen is =
        if-file options.tags (repeated_tag lexeme.at (tag_of many lexeme ∷ []) seen) (Some (TagsOff lexeme.at))
        (repeated_tag-file lexeme.at (tag_of many lexeme ∷ []) seen is) is

    pub misplaced-file : (lexeme : Lexeme) → lexeme.at.file ≡ file → FindsIn (Finds (misplaced lexeme))
    misplaced-file lexeme is = FindsIn-Finds (misplaced lexeme) is

    PointsAre-file : (lexeme : Lexeme) (ranges : List Range) → lexeme.at.file ≡ file → FindsIn (PointsAre options definitions lexeme ranges)
    PointsAre-file lexeme ranges is =
        FindsIn-Finds (points_fault options.enc options.surrogates lexeme.at ranges) (points-file options.enc options.surrogates lexeme.at ranges is)

    leaf-file : (sort : TokenKind) (is_operand : Bool) (seen : List Tag) (lexeme : Lexeme) → lexeme.at.file ≡ file
        → FindsIn (LeafChecks options definitions sort is_operand seen lexeme)
    leaf-file kind.Str is_operand seen lexeme is = PointsAre-file lexeme (singles (points_in lexeme)) is
    leaf-file kind.Name is_operand seen lexeme is =
        FindsIn-Finds (name_fault options definitions (definition_of definitions lexeme.text) lexeme seen)
        (name-file (definition_of definitions lexeme.text) lexeme seen is)
    leaf-file kind.STag is_operand seen lexeme is =
        FindsIn-Finds (tag_fault options definitions false lexeme seen) (tag-file false lexeme seen is)
    leaf-file kind.MTag is_operand seen lexeme is =
        FindsIn-Finds (tag_fault options definitions true lexeme seen) (tag-file true lexeme seen is)
    leaf-file kind.IStr is_operand seen lexeme is = PointsAre-file lexeme (singles (points_in lexeme)) is
    leaf-file kind.Class is_operand seen lexeme is =
        let Filled = IsFilled options definitions options.empty is_operand lexeme.at (LeafHas options definitions kind.Class lexeme) in
        let Points = PointsAre options definitions lexeme (class_ranges lexeme) in
        FindsIn-Then Points Filled (PointsAre-file lexeme (class_ranges lexeme) is)
        (filled-file options.empty is_operand lexeme.at (LeafHas options definitions kind.Class lexeme) is)
    leaf-file kind.Config is_operand seen lexeme is = misplaced-file lexeme is
    leaf-file kind.Number is_operand seen lexeme is = misplaced-file lexeme is
    leaf-file kind.Bounds is_operand seen lexeme is = misplaced-file lexeme is
    leaf-file kind.Code is_operand seen lexeme is = misplaced-file lexeme is
    leaf-file kind.Signs is_operand seen lexeme is = FindsIn-Finds None tt

    AreClasses-file : (left right : Form) (sign : Lexeme) → sign.at.file ≡ file → FindsIn (AreClasses options definitions left right sign)
    AreClasses-file left right sign is =
        let both = is_class options definitions left && is_class options definitions right in
        FindsIn-Finds (if◌then◌else◌ {A = Option Fault} both None (Some (NotClass sign.at))) (if-file both None (Some (NotClass sign.at)) tt is)

    -- the checks of an expression whose tokens are of the file
    pub Checks-file : (is_operand : Bool) (seen : List Tag) (form : Form) → IsFormIn form
        → FindsIn (Checks options definitions is_operand seen form)
    Checks-file is_operand seen (leaf lexeme) is = leaf-file lexeme.kind is_operand seen lexeme is
    Checks-file is_operand seen (group opening inner) is = Checks-file (inner_operand options definitions is_operand) seen inner is.1
    Checks-file is_operand seen (repeated inner sign) is =
        FindsIn-Then (Checks options definitions false seen inner) (Finds (bounds_fault sign)) (Checks-file false seen inner is.0)
        (FindsIn-Finds (bounds_fault sign) (bounds-file sign is.1))
    Checks-file is_operand seen (sequence front back) is =
        let behind = seen ++ tags_of options definitions front in
        FindsIn-Then (Checks options definitions false seen front) (Checks options definitions false behind back)
        (Checks-file false seen front is.0) (Checks-file false behind back is.1)
    Checks-file is_operand seen (difference left sign right) is =
        let behind = seen ++ tags_of options definitions left in
        let Has = HasPoint options definitions (difference left sign right) in
        let Filled = IsFilled options definitions options.empty is_operand sign.at Has in
        let Classes = AreClasses options definitions left right sign in
        let Right = Checks options definitions true behind right in
        FindsIn-Then (Checks options definitions true seen left) (Then Right (Then Classes Filled))
        (Checks-file true seen left is.0)
        (FindsIn-Then Right (Then Classes Filled) (Checks-file true behind right is.2)
        (FindsIn-Then Classes Filled (AreClasses-file left right sign is.1)
        (filled-file options.empty is_operand sign.at Has is.1)))
    Checks-file is_operand seen (alternative left sign right) is =
        let behind = seen ++ tags_of options definitions left in
        FindsIn-Then (Checks options definitions is_operand seen left) (Checks options definitions is_operand behind right)
        (Checks-file is_operand seen left is.0) (Checks-file is_operand behind right is.2)

    -- the checks of an expression, and of one with a trailing context, in a block whose tokens are of the file
    module _ (lexemes : List Lexeme) (are : StandInFile file lexemes) where
      pub expression-file : (from until : ℕ) → FindsIn (ExpressionChecks options lexemes definitions from until)
      expression-file from until = record { finds = by }
        where
          by : (fault : Fault) → ExpressionChecks options lexemes definitions from until (Some fault) → StandsIn file fault
          by fault found =
              let inside = form-file found.1 (drop-file file lexemes from are) in
              (Checks-file false [] found.0 inside.0).finds fault found.2

      pub context-file : (from slash until : ℕ) → FindsIn (ContextChecks options lexemes definitions from slash until)
      context-file from slash until = record { finds = by }
        where
          by : (fault : Fault) → ContextChecks options lexemes definitions from slash until (Some fault) → StandsIn file fault
          by fault found =
              let form = found.0 in
              let behind = found.1 in
              let inside = form-file found.2 (drop-file file lexemes from are) in
              let inside_behind = form-file found.3 (drop-file file lexemes (suc slash) are) in
              let seen = tags_of options definitions form ++ slash_tag ∷ [] in
              let both =
              FindsIn-Then (Checks options definitions false [] form) (Checks options definitions false seen behind) (Checks-file false [] form inside.0)
              (Checks-file false seen behind inside_behind.0) in
              both.finds fault found.4
