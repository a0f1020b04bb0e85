-- The checks of an expression find one fault, or none; and it has one meaning.
use Rattle.std.proofs.Common.{◌≡◌, ℕ, suc, ◌+◌, max, ◌⊎◌, Bool, true, false, List, [], ◌∷◌, ◌++◌, drop, Option, Some, None, refl, sym, ap, ap₂, subst, inl, inr, ◌∙◌}
use Rattle.std.specs.Prelude.{◌&&◌, if◌then◌else◌}
use Rattle.lx_base.specs.declared.faults.Fault.{Fault}
use Rattle.lx_base.specs.declared.faults.Fault.TheVariants.{NotClass}
use Rattle.lx_base.specs.declared.places.Pos.{Pos}
use Rattle.lx_base.specs.declared.settings.EmptyPolicy.{EmptyPolicy}
use Rattle.lx_base.specs.declared.settings.EmptyPolicy.TheVariants.{MatchEmpty, MatchNone, Error}
use Rattle.lx_base.specs.declared.settings.Options.{Options}
use Rattle.lx_class.proofs.Law.{same_ranges}
use Rattle.lx_class.specs.declared.ranges.Range.{Range}
use Rattle.lx_exprs.specs.Checks.{Check, Then, Finds, misplaced, Checks, LeafChecks, IsFilled, PointsAre, AreClasses, HasPoint, LeafHas, bounds_fault, are_groups, bounds_of, class_ranges, inner_operand, is_class, name_fault, tag_fault, tags_of}
use Rattle.lx_regex.specs.Expr.{ranges_of}
use Rattle.lx_regex.specs.Term.{Term, class}
use Rattle.lx_exprs.specs.Defined.{Before, Definition, HasClass, IsClassKept, IsDefined, IsTermKept, Meaning, count_of, definition_of, kept, nothing, is_built, meant_class, slash_tag, whole_room}
use Rattle.lx_forms.specs.Forms.{Form, leaf, group, repeated, sequence, difference, alternative}
use Rattle.lx_exprs.specs.Expressions.{ContextChecks, ExpressionChecks, IsExpression}
use Rattle.lx_forms.specs.Lexemes.{Lexeme, points_in}
use Rattle.lx_exprs.specs.Meanings.{IsClassMeaning, IsLeafMeaning, IsMeaning, IsSetOf, alternated, class_meaning, copied, followed, in_parentheses, parenthesized, past, repeated_by}
use Rattle.lx_regex.specs.declared.rules.Tag.{Tag}
use Rattle.lx_exprs.specs.Points.{points_fault, singles}
use Rattle.lx_forms.proofs.OneForm.{one_form}
use Rattle.lx_token.specs.declared.kinds.TokenKind.{TokenKind}
use Rattle.lx_token.specs.declared.kinds.TokenKind.TheVariants as kind

-- of an expression one thing is kept
kept_class-one : (ranges : Option (List (ℕ × ℕ))) (one two : Option Term) → IsClassKept ranges one → IsClassKept ranges two → one ≡ two
kept_class-one ranges None None is is_other = refl
kept_class-one ranges None (Some term) is is_other = absurd (subst (HasClass (Some is_other.0)) is is_other.1)
kept_class-one ranges (Some term) None is is_other = absurd (subst (HasClass (Some is.0)) is_other is.1)
kept_class-one None (Some term) (Some other) is is_other = absurd is.1
kept_class-one (Some ranges) (Some term) (Some other) is is_other =
    let same = same_ranges 0 0 is.0 is_other.0 is.1.0 is_other.1.0
    (λ point inside. (is_other.1.1 point).1 ((is.1.1 point).0 inside)) (λ point inside. (is.1.1 point).1 ((is_other.1.1 point).0 inside)) in
    ap Some (is.2 ∙ ap (λ set. class (ranges_of set)) same ∙ sym is_other.2)

kept-one : (built : Bool) (meaning : Meaning) (one two : Option Term) → IsTermKept built meaning one → IsTermKept built meaning two → one ≡ two
kept-one true meaning one two is is_other = is ∙ sym is_other
kept-one false meaning one two is is_other = kept_class-one (meant_class meaning) one two is is_other

-- and a name has one definition
pub definition-one : (name : List ℕ) (at : Pos) (meaning : Meaning) (one two : Definition) → IsDefined name at meaning one → IsDefined name at meaning two
    → one ≡ two
definition-one name at meaning one two is is_other =
    ap₂ (λ f x. f x)
    (ap₂ (λ f x. f x)
    (ap₂ (λ f x. f x)
    (ap₂ (λ f x. f x) (ap₂ (λ f x. f x) (ap₂ (λ f x. f x) (ap make (is.name_is ∙ sym is_other.name_is)) (is.at_is ∙ sym is_other.at_is)) (is.size ∙ sym is_other.size))
    (is.nesting ∙ sym is_other.nesting)) (is.tags ∙ sym is_other.tags)) (is.groups ∙ sym is_other.groups))
    (kept-one (is_built whole_room meaning) meaning one.term two.term is.term is_other.term)
  where
    make : List ℕ → Pos → ℕ → ℕ → List Tag → ℕ → Option Term → Definition
    make name at size nesting tags groups term =
        record { name = name; at = at; size = size; nesting = nesting; tags = tags; groups = groups; term = term }

-- a check finds one fault, or none
pub record FindsOne (Faults : Check) : Type 0 where
  pub one : (fault other : Option Fault) → Faults fault → Faults other → fault ≡ other

pub FindsOne-Finds : (found : Option Fault) → FindsOne (Finds found)
FindsOne-Finds found = record { one = λ fault other is is_other. is ∙ sym is_other }

pub FindsOne-Then : (First Second : Check) → FindsOne First → FindsOne Second → FindsOne (Then First Second)
FindsOne-Then First Second first second = record { one = by }
  where
    by : (fault other : Option Fault) → Then First Second fault → Then First Second other → fault ≡ other
    by fault other (inl is) (inl is_other) = second.one fault other is.1 is_other.1
    by fault other (inl is) (inr is_other) = absurd (let same = first.one None (Some is_other.0) is.0 is_other.1 in cc)
    by fault other (inr is) (inl is_other) = absurd (let same = first.one (Some is.0) None is.1 is_other.0 in cc)
    by fault other (inr is) (inr is_other) = is.2 ∙ first.one (Some is.0) (Some is_other.0) is.1 is_other.1 ∙ sym is_other.2

-- one of two faults is found, by what holds and what does not
pub FindsOne-by : (Holds Fails : Type 0) (one two : Option Fault) → (Holds → Fails → ⊥)
    → FindsOne (λ fault. (Holds × (fault ≡ one)) ⊎ (Fails × (fault ≡ two)))
FindsOne-by Holds Fails one two apart = record { one = by }
  where
    by : (fault other : Option Fault) → (Holds × (fault ≡ one)) ⊎ (Fails × (fault ≡ two)) → (Holds × (other ≡ one)) ⊎ (Fails × (other ≡ two)) → fault ≡ other
    by fault other (inl is) (inl is_other) = is.1 ∙ sym is_other.1
    by fault other (inl is) (inr is_other) = absurd (apart is.0 is_other.0)
    by fault other (inr is) (inl is_other) = absurd (apart is_other.0 is.0)
    by fault other (inr is) (inr is_other) = is.1 ∙ sym is_other.1

module _ (options : Options) (definitions : List Definition) where
  filled-one : (policy : EmptyPolicy) (is_operand : Bool) (at : Pos) (HasPoint : ℕ → Type 0)
      → FindsOne (IsFilled options definitions policy is_operand at HasPoint)
  filled-one MatchEmpty is_operand at HasPoint = FindsOne-Finds None
  filled-one MatchNone is_operand at HasPoint = FindsOne-Finds None
  filled-one Error true at HasPoint = FindsOne-Finds None
  filled-one Error false at HasPoint =
      FindsOne-by ((point : ℕ) × HasPoint point) ((point : ℕ) → HasPoint point → ⊥) None _ (λ has none. none has.0 has.1)

  points-one : (lexeme : Lexeme) (ranges : List Range) → FindsOne (PointsAre options definitions lexeme ranges)
  points-one lexeme ranges = FindsOne-Finds (points_fault options.enc options.surrogates lexeme.at ranges)

  leaf-one : (sort : TokenKind) (is_operand : Bool) (seen : List Tag) (lexeme : Lexeme)
      → FindsOne (LeafChecks options definitions sort is_operand seen lexeme)
  leaf-one kind.Str is_operand seen lexeme = points-one lexeme (singles (points_in lexeme))
  leaf-one kind.Name is_operand seen lexeme = FindsOne-Finds (name_fault options definitions (definition_of definitions lexeme.text) lexeme seen)
  leaf-one kind.STag is_operand seen lexeme = FindsOne-Finds (tag_fault options definitions false lexeme seen)
  leaf-one kind.MTag is_operand seen lexeme = FindsOne-Finds (tag_fault options definitions true lexeme seen)
  leaf-one kind.IStr is_operand seen lexeme = points-one lexeme (singles (points_in lexeme))
  leaf-one kind.Class is_operand seen lexeme =
      let Filled = IsFilled options definitions options.empty is_operand lexeme.at (LeafHas options definitions kind.Class lexeme) in
      let Points = PointsAre options definitions lexeme (class_ranges lexeme) in
      FindsOne-Then Points Filled (points-one lexeme (class_ranges lexeme))
      (filled-one options.empty is_operand lexeme.at (LeafHas options definitions kind.Class lexeme))
  leaf-one kind.Config is_operand seen lexeme = FindsOne-Finds (misplaced lexeme)
  leaf-one kind.Number is_operand seen lexeme = FindsOne-Finds (misplaced lexeme)
  leaf-one kind.Bounds is_operand seen lexeme = FindsOne-Finds (misplaced lexeme)
  leaf-one kind.Code is_operand seen lexeme = FindsOne-Finds (misplaced lexeme)
  leaf-one kind.Signs is_operand seen lexeme = FindsOne-Finds None

  classes-one : (left right : Form) (sign : Lexeme) → FindsOne (AreClasses options definitions left right sign)
  classes-one left right sign =
      FindsOne-Finds (if◌then◌else◌ {A = Option Fault} (is_class options definitions left && is_class options definitions right) None (Some (NotClass sign.at)))

  -- the checks of a form find one fault, or none
  pub Checks-one : (is_operand : Bool) (seen : List Tag) (form : Form) → FindsOne (Checks options definitions is_operand seen form)
  Checks-one is_operand seen (leaf lexeme) = leaf-one lexeme.kind is_operand seen lexeme
  Checks-one is_operand seen (group opening inner) = Checks-one (inner_operand options definitions is_operand) seen inner
  Checks-one is_operand seen (repeated inner sign) =
      FindsOne-Then (Checks options definitions false seen inner) (Finds (bounds_fault sign)) (Checks-one false seen inner)
      (FindsOne-Finds (bounds_fault sign))
  Checks-one is_operand seen (sequence front back) =
      let behind = seen ++ tags_of options definitions front in
      FindsOne-Then (Checks options definitions false seen front) (Checks options definitions false behind back)
      (Checks-one false seen front) (Checks-one false behind back)
  Checks-one is_operand seen (difference left sign right) =
      let behind = seen ++ tags_of options definitions left in
      let Has = HasPoint options definitions (difference left sign right) in
      let Filled = IsFilled options definitions options.empty is_operand sign.at Has in
      let Classes = AreClasses options definitions left right sign in
      let Right = Checks options definitions true behind right in
      FindsOne-Then (Checks options definitions true seen left) (Then Right (Then Classes Filled))
      (Checks-one true seen left)
      (FindsOne-Then Right (Then Classes Filled) (Checks-one true behind right)
      (FindsOne-Then Classes Filled (classes-one left right sign) (filled-one options.empty is_operand sign.at Has)))
  Checks-one is_operand seen (alternative left sign right) =
      let behind = seen ++ tags_of options definitions left in
      FindsOne-Then (Checks options definitions is_operand seen left) (Checks options definitions is_operand behind right)
      (Checks-one is_operand seen left) (Checks-one is_operand behind right)

  -- a token has one meaning, and a form too
  set-one : (Has : ℕ → Type 0) (set other : List Range) → IsSetOf Has set → IsSetOf Has other → set ≡ other
  set-one Has set other is is_other =
      same_ranges 0 0 set other is.canonical is_other.canonical
      (λ point inside. (is_other.points point).1 ((is.points point).0 inside)) (λ point inside. (is.points point).1 ((is_other.points point).0 inside))

  class_meaning-one : (operand : Bool) (nesting : ℕ) (tags : List Tag) (groups count : ℕ) (Has : ℕ → Type 0) (meaning other : Meaning)
      → IsClassMeaning options definitions operand nesting tags groups count Has meaning → IsClassMeaning options definitions operand nesting tags groups count Has other
      → meaning ≡ other
  class_meaning-one operand nesting tags groups count Has meaning other is is_other =
      is.2 ∙ ap (class_meaning operand options.empty nesting tags groups count) (set-one Has is.0 is_other.0 is.1 is_other.1) ∙ sym is_other.2

  leaf_meaning-one : (operand : Bool) (sort : TokenKind) (before : Before) (lexeme : Lexeme) (meaning other : Meaning)
      → IsLeafMeaning options definitions operand sort before lexeme meaning → IsLeafMeaning options definitions operand sort before lexeme other
      → meaning ≡ other
  leaf_meaning-one operand kind.Str before lexeme meaning other is is_other = is ∙ sym is_other
  leaf_meaning-one operand kind.IStr before lexeme meaning other is is_other = is ∙ sym is_other
  leaf_meaning-one operand kind.Class before lexeme meaning other is is_other =
      class_meaning-one operand 0 [] 0 (count_of before) (LeafHas options definitions kind.Class lexeme) meaning other is is_other
  leaf_meaning-one operand kind.Signs before lexeme meaning other is is_other =
      class_meaning-one operand 0 [] 0 (count_of before) (LeafHas options definitions kind.Signs lexeme) meaning other is is_other
  leaf_meaning-one operand kind.Name before lexeme meaning other is is_other =
      let same : is.0 ≡ is_other.0 = let found = sym is.1 ∙ is_other.1 in cc in
      is.2 ∙ ap (copied before) same ∙ sym is_other.2
  leaf_meaning-one operand kind.STag before lexeme meaning other is is_other = is ∙ sym is_other
  leaf_meaning-one operand kind.MTag before lexeme meaning other is is_other = is ∙ sym is_other
  leaf_meaning-one operand kind.Config before lexeme meaning other is is_other = absurd is
  leaf_meaning-one operand kind.Number before lexeme meaning other is is_other = absurd is
  leaf_meaning-one operand kind.Bounds before lexeme meaning other is is_other = absurd is
  leaf_meaning-one operand kind.Code before lexeme meaning other is is_other = absurd is

  meaning-one : (operand : Bool) (before : Before) (form : Form) (meaning other : Meaning) → IsMeaning options definitions operand before form meaning
      → IsMeaning options definitions operand before form other → meaning ≡ other
  meaning-one operand before (leaf lexeme) meaning other is is_other = leaf_meaning-one operand lexeme.kind before lexeme meaning other is is_other
  meaning-one operand before (group opening inner) meaning other is is_other =
      let is_group = are_groups options definitions in
      is.2
      ∙ ap (parenthesized is_group before)
      (meaning-one (inner_operand options definitions operand) (in_parentheses is_group before) inner is.0 is_other.0 is.1 is_other.1)
      ∙ sym is_other.2
  meaning-one operand before (repeated inner sign) meaning other is is_other =
      is.2 ∙ ap (repeated_by (bounds_of sign)) (meaning-one false before inner is.0 is_other.0 is.1 is_other.1) ∙ sym is_other.2
  meaning-one operand before (sequence front back) meaning other is is_other =
      let one = meaning-one false before front is.0 is_other.0 is.2 is_other.2 in
      let two = meaning-one false (past options definitions before front) back is.1 is_other.1 is.3 is_other.3 in
      is.4 ∙ ap₂ followed one two ∙ sym is_other.4
  meaning-one operand before (difference left sign right) meaning other is is_other =
      let one = meaning-one true before left is.0 is_other.0 is.2 is_other.2 in
      let two = meaning-one true (past options definitions before left) right is.1 is_other.1 is.3 is_other.3 in
      let Has = HasPoint options definitions (difference left sign right) in
      class_meaning-one operand (max is.0.nesting is.1.nesting) (is.0.tags ++ is.1.tags) (kept (is.0.groups + is.1.groups)) (max is.0.count is.1.count) Has meaning other is.4
      (subst (λ (first : Meaning). IsClassMeaning options definitions operand (max first.nesting is.1.nesting) (first.tags ++ is.1.tags) (kept (first.groups + is.1.groups)) (max first.count is.1.count) Has other) (sym one)
      (subst (λ (second : Meaning). IsClassMeaning options definitions operand (max is_other.0.nesting second.nesting) (is_other.0.tags ++ second.tags) (kept (is_other.0.groups + second.groups)) (max is_other.0.count second.count) Has other) (sym two)
      is_other.4))
  meaning-one operand before (alternative left sign right) meaning other is is_other =
      let one = meaning-one operand before left is.0 is_other.0 is.2 is_other.2 in
      let two = meaning-one operand (past options definitions before left) right is.1 is_other.1 is.3 is_other.3 in
      is.4 ∙ ap₂ alternated one two ∙ sym is_other.4

  module _ (lexemes : List Lexeme) where
    -- the checks of an expression find one fault, or none
    pub expression-one : (from until : ℕ) → FindsOne (ExpressionChecks options lexemes definitions from until)
    expression-one from until = record { one = by }
      where
        by : (fault other : Option Fault) → ExpressionChecks options lexemes definitions from until fault
            → ExpressionChecks options lexemes definitions from until other → fault ≡ other
        by fault other is is_other =
            let same = one_form (drop from lexemes) (drop until lexemes) is.0 is_other.0 is.1 is_other.1 in
            (Checks-one false [] is_other.0).one fault other (subst (λ (form : Form). Checks options definitions false [] form fault) same is.2) is_other.2

    -- and so do those of an expression with a trailing context
    pub context-one : (from slash until : ℕ) → FindsOne (ContextChecks options lexemes definitions from slash until)
    context-one from slash until = record { one = by }
      where
        Behind : (form behind : Form) → Check
        Behind form behind = Checks options definitions false (tags_of options definitions form ++ slash_tag ∷ []) behind

        Both : (form behind : Form) → Check
        Both form behind = Then (Checks options definitions false [] form) (Behind form behind)

        both-one : (form behind : Form) → FindsOne (Both form behind)
        both-one form behind =
            FindsOne-Then (Checks options definitions false [] form) (Behind form behind) (Checks-one false [] form)
            (Checks-one false (tags_of options definitions form ++ slash_tag ∷ []) behind)

        by : (fault other : Option Fault) → ContextChecks options lexemes definitions from slash until fault
            → ContextChecks options lexemes definitions from slash until other → fault ≡ other
        by fault other is is_other =
            let same = one_form (drop from lexemes) (drop slash lexemes) is.0 is_other.0 is.2 is_other.2 in
            let same_behind = one_form (drop (suc slash) lexemes) (drop until lexemes) is.1 is_other.1 is.3 is_other.3 in
            (both-one is_other.0 is_other.1).one fault other
            (subst (λ (form : Form). Both form is_other.1 fault) same (subst (λ (behind : Form). Both is.0 behind fault) same_behind is.4)) is_other.4

    -- an expression behind others has one meaning, if it has one
    pub behind_meaning-one : (before : Before) (from until : ℕ) (form other : Form) (meaning meant : Meaning)
        → IsExpression options lexemes from until form → IsExpression options lexemes from until other
        → IsMeaning options definitions false before form meaning → IsMeaning options definitions false before other meant → meaning ≡ meant
    behind_meaning-one before from until form other meaning meant is is_other means means_other =
        let same = one_form (drop from lexemes) (drop until lexemes) form other is is_other in
        meaning-one false before other meaning meant (subst (λ (form : Form). IsMeaning options definitions false before form meaning) same means) means_other

    -- an expression has one meaning, if it has one
    pub expression_meaning-one : (from until : ℕ) (form other : Form) (meaning meant : Meaning)
        → IsExpression options lexemes from until form → IsExpression options lexemes from until other
        → IsMeaning options definitions false nothing form meaning → IsMeaning options definitions false nothing other meant → meaning ≡ meant
    expression_meaning-one from until form other meaning meant is is_other means means_other =
        let same = one_form (drop from lexemes) (drop until lexemes) form other is is_other in
        meaning-one false nothing other meaning meant (subst (λ (form : Form). IsMeaning options definitions false nothing form meaning) same means) means_other
