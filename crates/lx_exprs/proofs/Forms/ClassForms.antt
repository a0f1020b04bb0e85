-- Forms that are classes: where one is an operand of a difference, its meaning is the class of its points.
use Rattle.std.proofs.Common.{◌≡◌, ℕ, suc, ◌+◌, ◌-◌, ◌≤◌, ◌<◌, inl, inr, ⊎_elim, ◌⊎◌, ◌↔◌, Bool, true, false, List, [], ◌∷◌, ◌++◌, length, map, Option, None, Some, refl, sym, ap, ap₂, ◌∙◌, subst, arith}
use Rattle.std.specs.Prelude.{◌==◌, ◌&&◌, not, is_some, nat_le, if◌then◌else◌}
use Rattle.std.specs.Option.{option_and_then}
use Rattle.lx_base.specs.Letters.{is_within}
use Rattle.lx_base.specs.declared.faults.Fault.{Fault}
use Rattle.lx_base.specs.declared.places.Pos.{Pos}
use Rattle.lx_base.specs.declared.settings.EmptyPolicy.{EmptyPolicy}
use Rattle.lx_base.specs.declared.settings.EmptyPolicy.TheVariants.{MatchEmpty, MatchNone, Error}
use Rattle.lx_base.specs.declared.settings.Options.{Options}
use Rattle.lx_base.specs.declared.settings.SurPolicy.{SurPolicy}
use Rattle.lx_base.specs.declared.settings.SurPolicy.TheVariants.{Ignore, Substitute, Fail}
use Rattle.lx_class.specs.Ranges.{InRanges}
use Rattle.lx_class.specs.declared.ranges.Range.{Range}
use Rattle.lx_encode.specs.Policy.{IsAfter, IsSurrogate}
use Rattle.lx_token.specs.declared.kinds.TokenKind.{TokenKind}
use Rattle.lx_token.specs.declared.kinds.TokenKind.TheVariants as kind
use Rattle.lx_regex.specs.Term.{Term, IsInRanges}
use Rattle.lx_regex.specs.Expr.{ranges_of}
use Rattle.lx_forms.specs.Lexemes.{Lexeme, points_in}
use Rattle.lx_exprs.specs.Points.{replaced, singles}
use Rattle.lx_regex.specs.declared.rules.Tag.{Tag}
use Rattle.lx_exprs.specs.Defined.{Before, Definition, Meaning, Shape, count_of, one, both_classes, class_in, definition_of, meant_class, whole}
use Rattle.lx_exprs.specs.Meanings.{IsClassMeaning, IsLeafMeaning, IsMeaning, character_set, copied, in_parentheses, parenthesized, past, shifted, string_term, term_or_empty}
use Rattle.lx_exprs.specs.Checks.{Check, Checks, HasPoint, IsFilled, IsIn, LeafHas, Then, are_groups, both_cases, defined_points, is_class, leaf_is_class, tags_of}
use Rattle.lx_forms.specs.Forms.{Form, leaf, group, repeated, sequence, difference, alternative}
use Rattle.lx_exprs.proofs.Classes.ClassUnions.{class_in-choice}
use Rattle.lx_exprs.proofs.TagLists.TermTags.{class_in-shifted}

-- the ranges of a set have its points
pub in_ranges_of : (set : List Range) (point : ℕ) → IsInRanges (ranges_of set) point ↔ InRanges set point
in_ranges_of [] point = (λ is. is, λ is. is)
in_ranges_of (range ∷ set) point =
    let later = in_ranges_of set point in
    (⊎_elim (λ is. inl is) (λ is. inr (later.0 is)), ⊎_elim (λ is. inl is) (λ is. inr (later.1 is)))

-- the points of ranges and others
in_ranges-append : (ranges others : List (ℕ × ℕ)) (point : ℕ)
    → IsInRanges (ranges ++ others) point ↔ (IsInRanges ranges point ⊎ IsInRanges others point)
in_ranges-append [] others point = (λ is. inr is, ⊎_elim (λ none. absurd none) (λ is. is))
in_ranges-append (range ∷ ranges) others point =
    let later = in_ranges-append ranges others point in (
      ⊎_elim (λ is. inl (inl is)) (λ is. ⊎_elim (λ here. inl (inr here)) (λ there. inr there) (later.0 is)),
      ⊎_elim (⊎_elim (λ is. inl is) (λ is. inr (later.1 (inl is)))) (λ is. inr (later.1 (inr is))),
    )

in_both : (first second : Option (List (ℕ × ℕ))) (point : ℕ) → is_some first ≡ true → is_some second ≡ true
    → IsIn (both_classes first second) point ↔ (IsIn first point ⊎ IsIn second point)
in_both None second point some more = absurd (let h : false ≡ true = some in cc)
in_both (Some ranges) None point some more = absurd (let h : false ≡ true = more in cc)
in_both (Some ranges) (Some others) point some more = in_ranges-append ranges others point

pub is_some-both : (first second : Option (List (ℕ × ℕ))) → (is_some first && is_some second) ≡ is_some (both_classes first second)
is_some-both None second = refl
is_some-both (Some ranges) None = refl
is_some-both (Some ranges) (Some others) = refl

pub both_hold : (first second : Bool) → (first && second) ≡ true → (first ≡ true) × (second ≡ true)
both_hold true second is = (refl, is)
both_hold false second is = absurd (let h : false ≡ true = is in cc)

-- the ranges of a meaning are the class of these points, or it is none
pub record Agrees (is_class : Bool) (Has : ℕ → Type 0) (class : Option (List (ℕ × ℕ))) : Type 0 where
  pub class_is : is_class ≡ is_some class
  pub points : is_class ≡ true → (point : ℕ) → IsIn class point ↔ Has point

agrees-none : (is_class : Bool) (Has : ℕ → Type 0) (class : Option (List (ℕ × ℕ))) → is_class ≡ false → class ≡ None → Agrees is_class Has class
agrees-none is_class Has class is none = record {
  class_is = is ∙ ap is_some (sym none);
  points = λ held. absurd (let h : false ≡ true = sym is ∙ held in cc);
}

agrees-set : (Has : ℕ → Type 0) (class : Option (List (ℕ × ℕ))) (set : List Range) → class ≡ Some (ranges_of set)
    → ((point : ℕ) → InRanges set point ↔ Has point) → Agrees true Has class
agrees-set Has class set is points = record {
  class_is = ap is_some (sym is);
  points = λ held point.
      subst (λ class. IsIn class point ↔ Has point) (sym is)
      (λ inside. (points point).0 ((in_ranges_of set point).0 inside), λ has. (in_ranges_of set point).1 ((points point).1 has));
}

agrees-both : (a b : Bool) (Left Right : ℕ → Type 0) (first second : Option (List (ℕ × ℕ))) → Agrees a Left first → Agrees b Right second
    → Agrees (a && b) (λ point. Left point ⊎ Right point) (both_classes first second)
agrees-both a b Left Right first second here there = record {
  class_is = ap₂ (λ (x y : Bool). x && y) here.class_is there.class_is ∙ is_some-both first second;
  points = λ held point.
      let are = both_hold a b held in
      let both = in_both first second point (sym here.class_is ∙ are.0) (sym there.class_is ∙ are.1) in
      let left = here.points are.0 point in
      let right = there.points are.1 point in (
        λ is. ⊎_elim (λ inside. inl (left.0 inside)) (λ inside. inr (right.0 inside)) (both.0 is),
        λ has. both.1 (⊎_elim (λ held. inl (left.1 held)) (λ held. inr (right.1 held)) has),
      );
}

-- two checks find nothing where both do
pub then-none : (First Second : Check) → Then First Second None → First None × Second None
then-none First Second (inl found) = found
then-none First Second (inr found) = absurd (let h : None ≡ Some found.0 = found.2 in cc)

-- where no point is a surrogate, no policy changes anything
after_plain : (policy : SurPolicy) (ranges : List Range) → ((point : ℕ) → InRanges ranges point → IsSurrogate point → ⊥)
    → (point : ℕ) → InRanges ranges point ↔ IsAfter policy ranges point
after_plain Ignore ranges free point = (λ is. is, λ is. is)
after_plain Substitute ranges free point =
    (λ is. inl (is, free point is), ⊎_elim (λ kept. kept.0) (λ put. absurd (free put.1.0 put.1.1 put.1.2)))
after_plain Fail ranges free point = (λ is. is, λ is. is)

one_within : (number point : ℕ) → InRanges (singles (number ∷ [])) point → point ≡ number
one_within number point (inl is) = omega (arith, is)
one_within number point (inr is) = absurd is

-- one code point, as the policy takes it
one_after : (policy : SurPolicy) (number point : ℕ)
    → InRanges (singles (replaced policy number ∷ [])) point ↔ IsAfter policy (singles (number ∷ [])) point
one_after Ignore number point = (λ is. is, λ is. is)
one_after Fail number point = (λ is. is, λ is. is)
one_after Substitute number point = at (nat_le 0xD800 number && nat_le number 0xDFFF) refl
  where
    at : (b : Bool) → (nat_le 0xD800 number && nat_le number 0xDFFF) ≡ b
        → InRanges (singles (replaced Substitute number ∷ [])) point ↔ IsAfter Substitute (singles (number ∷ [])) point
    at true e =
        let low : 0xD800 ≤ number = search (arith, e) in
        let high : number ≤ 0xDFFF = search (arith, e) in
        rw (e) (
          λ is. inr (one_within 0xFFFD point is, (number, inl (omega arith, omega arith), (low, high))),
          ⊎_elim
              (λ kept.
              let same = one_within number point kept.0 in absurd (kept.1 (omega (arith, same, low), omega (arith, same, high))))
              (λ put. let same = put.0 in inl (omega (arith, same), omega (arith, same))),
        )
    at false e =
        let free : (other : ℕ) → InRanges (singles (number ∷ [])) other → IsSurrogate other → ⊥ =
        λ other is surrogate. let same = one_within number other is in let low = surrogate.0 in let high = surrogate.1 in search (arith, e, same, low, high) in
        rw (e) (after_plain Substitute (singles (number ∷ [])) free point)

two_within : (lesser greater point : ℕ) → InRanges (singles (lesser ∷ greater ∷ [])) point → (point ≡ lesser) ⊎ (point ≡ greater)
two_within lesser greater point (inl is) = inl (omega (arith, is))
two_within lesser greater point (inr is) = inr (one_within greater point is)

-- two code points that are no surrogates, in either order
two_after : (policy : SurPolicy) (first second point : ℕ) → first < 0xD800 → second < 0xD800
    → InRanges (singles (first ∷ second ∷ [])) point ↔ IsAfter policy (singles (first ∷ second ∷ [])) point
two_after policy first second point small small_too =
    after_plain policy (singles (first ∷ second ∷ []))
    (λ other is surrogate.
    ⊎_elim (λ same. let low = surrogate.0 in omega (arith, same, low, small)) (λ same. let low = surrogate.0 in omega (arith, same, low, small_too))
    (two_within first second other is))
    point

exchanged : (first second point : ℕ) → InRanges (singles (first ∷ second ∷ [])) point → InRanges (singles (second ∷ first ∷ [])) point
exchanged first second point (inl is) = inr (inl is)
exchanged first second point (inr (inl is)) = inl is
exchanged first second point (inr (inr is)) = absurd is

-- the cases of a character
abbrev pub cases_of : (is_caseless : Bool) → ℕ → List ℕ
cases_of false number = number ∷ []
cases_of true number = both_cases (number ∷ [])

pub character_after : (policy : SurPolicy) (is_caseless : Bool) (number point : ℕ)
    → InRanges (character_set policy is_caseless number) point ↔ IsAfter policy (singles (cases_of is_caseless number)) point
character_after policy false number point = one_after policy number point
character_after policy true number point = at (is_within 65 90 number) (is_within 97 122 number) refl refl
  where
    at : (upper lower : Bool) → is_within 65 90 number ≡ upper → is_within 97 122 number ≡ lower
        → InRanges (character_set policy true number) point ↔ IsAfter policy (singles (both_cases (number ∷ []))) point
    at true lower e e' =
        let small : number ≤ 90 = search (arith, e) in
        rw (e) (two_after policy number (number + 32) point (omega (arith, small)) (omega (arith, small)))
    at false true e e' =
        let small : number ≤ 122 = search (arith, e') in
        let lowered = two_after policy number (number - 32) point (omega (arith, small)) (omega (arith, small)) in
        rw (e, e')
        (λ is. lowered.0 (exchanged (number - 32) number point is), λ is. exchanged number (number - 32) point (lowered.1 is))
    at false false e e' = rw (e, e') (one_after policy number point)

module _ (options : Options) (definitions : List Definition) where
  -- a string is a class where it has one character
  string-agrees : (is_caseless : Bool) (points : List ℕ) (Has : ℕ → Type 0) (meaning : Meaning)
      → meaning.shape ≡ one (string_term (map (character_set options.surrogates is_caseless) points))
      → ((number : ℕ) → points ≡ number ∷ [] → (point : ℕ) → IsAfter options.surrogates (singles (cases_of is_caseless number)) point ↔ Has point)
      → Agrees (length points == 1) Has (meant_class meaning)
  string-agrees is_caseless [] Has meaning is points = agrees-none false Has (meant_class meaning) refl (ap (λ (shape : Shape). class_in (whole shape)) is)
  string-agrees is_caseless (number ∷ []) Has meaning is points =
      agrees-set Has (meant_class meaning) (character_set options.surrogates is_caseless number) (ap (λ (shape : Shape). class_in (whole shape)) is)
      (λ point.
      let after = character_after options.surrogates is_caseless number point in
      let has = points number refl point in (λ inside. has.0 (after.0 inside), λ held. after.1 (has.1 held)))
  string-agrees is_caseless (number ∷ next ∷ points) Has meaning is each =
      let two : (suc (suc (length points)) == 1) ≡ false = search arith in
      agrees-none (suc (suc (length points)) == 1) Has (meant_class meaning) two (ap (λ (shape : Shape). class_in (whole shape)) is)

  class-meaning-agrees : (nesting : ℕ) (tags : List Tag) (groups count : ℕ) (Has : ℕ → Type 0) (meaning : Meaning)
      → IsClassMeaning options definitions true nesting tags groups count Has meaning → Agrees true Has (meant_class meaning)
  class-meaning-agrees nesting tags groups count Has meaning is =
      agrees-set Has (meant_class meaning) is.0 (ap (λ (m : Meaning). meant_class m) is.2) is.1.points

  copied-agrees : (before : Before) (definition : Definition) (found : Option Definition) (meaning : Meaning) → found ≡ Some definition
      → meaning ≡ copied before definition
      → Agrees (is_some (defined_points options definitions found)) (IsIn (defined_points options definitions found)) (meant_class meaning)
  copied-agrees before definition found meaning is means = rw (is) (record {
    class_is = ap is_some same_class;
    points = λ held point.
        subst (λ class. IsIn class point ↔ IsIn (defined_points options definitions (Some definition)) point) same_class (λ is. is, λ is. is);
  })
    where
      same : (term : Option Term) → class_in (shifted (length before.tags) before.groups (term_or_empty term)) ≡ option_and_then class_in term
      same None = refl
      same (Some term) = class_in-shifted (length before.tags) before.groups term

      same_class : defined_points options definitions (Some definition) ≡ meant_class meaning
      same_class = sym (same definition.term) ∙ ap (λ (m : Meaning). meant_class m) (sym means)

  leaf-agrees : (sort : TokenKind) (before : Before) (lexeme : Lexeme) (meaning : Meaning)
      → IsLeafMeaning options definitions true sort before lexeme meaning
      → Agrees (leaf_is_class options definitions sort lexeme) (LeafHas options definitions sort lexeme) (meant_class meaning)
  leaf-agrees kind.Str before lexeme meaning is =
      string-agrees false (points_in lexeme) (LeafHas options definitions kind.Str lexeme) meaning (ap (λ (m : Meaning). m.shape) is)
      (λ number same point.
      subst (λ points. IsAfter options.surrogates (singles (number ∷ [])) point ↔ IsAfter options.surrogates (singles points) point) (sym same)
      (λ is. is, λ is. is))
  leaf-agrees kind.IStr before lexeme meaning is =
      string-agrees true (points_in lexeme) (LeafHas options definitions kind.IStr lexeme) meaning (ap (λ (m : Meaning). m.shape) is)
      (λ number same point.
      subst (λ points. IsAfter options.surrogates (singles (both_cases (number ∷ []))) point ↔ IsAfter options.surrogates (singles (both_cases points)) point)
      (sym same) (λ is. is, λ is. is))
  leaf-agrees kind.Class before lexeme meaning is =
      class-meaning-agrees 0 [] 0 (count_of before) (LeafHas options definitions kind.Class lexeme) meaning is
  leaf-agrees kind.Signs before lexeme meaning is =
      class-meaning-agrees 0 [] 0 (count_of before) (LeafHas options definitions kind.Signs lexeme) meaning is
  leaf-agrees kind.Name before lexeme meaning is =
      copied-agrees before is.0 (definition_of definitions lexeme.text) meaning is.1 is.2
  leaf-agrees kind.STag before lexeme meaning is =
      agrees-none false (LeafHas options definitions kind.STag lexeme) (meant_class meaning) refl (ap (λ (m : Meaning). meant_class m) is)
  leaf-agrees kind.Config before lexeme meaning is = absurd is
  leaf-agrees kind.Number before lexeme meaning is = absurd is
  leaf-agrees kind.MTag before lexeme meaning is =
      agrees-none false (LeafHas options definitions kind.MTag lexeme) (meant_class meaning) refl (ap (λ (m : Meaning). meant_class m) is)
  leaf-agrees kind.Bounds before lexeme meaning is = absurd is
  leaf-agrees kind.Code before lexeme meaning is = absurd is

  -- an operand of a difference in which nothing is refused is a class where its meaning is one
  pub form-agrees : (form : Form) (before : Before) (meaning : Meaning) → Checks options definitions true before.tags form None
      → IsMeaning options definitions true before form meaning
      → Agrees (is_class options definitions form) (HasPoint options definitions form) (meant_class meaning)
  form-agrees (leaf lexeme) before meaning checked is = leaf-agrees lexeme.kind before lexeme meaning is
  form-agrees (group opening inner) before meaning checked is =
      by (are_groups options definitions) checked is (λ body found means. form-agrees inner before body found means)
    where
      by : (b : Bool)
          → Checks options definitions (true && not b) before.tags inner None
          → (body : Meaning) × IsMeaning options definitions (true && not b) (in_parentheses b before) inner body
          × (meaning ≡ parenthesized b before body)
          → ((body : Meaning) → Checks options definitions true before.tags inner None → IsMeaning options definitions true before inner body
          → Agrees (is_class options definitions inner) (HasPoint options definitions inner) (meant_class body))
          → Agrees (if b then false else is_class options definitions inner) (HasPoint options definitions inner) (meant_class meaning)
      by true checked is agrees =
          agrees-none false (HasPoint options definitions inner) (meant_class meaning) refl (ap (λ (m : Meaning). meant_class m) is.2)
      by false checked is agrees =
          subst (Agrees (is_class options definitions inner) (HasPoint options definitions inner)) (ap (λ (m : Meaning). meant_class m) (sym is.2))
          (agrees is.0 checked is.1)
  form-agrees (repeated inner sign) before meaning checked is =
      agrees-none false (HasPoint options definitions (repeated inner sign)) (meant_class meaning) refl (ap (λ (m : Meaning). meant_class m) is.2)
  form-agrees (sequence front back) before meaning checked is =
      agrees-none false (HasPoint options definitions (sequence front back)) (meant_class meaning) refl (ap (λ (m : Meaning). meant_class m) is.4)
  form-agrees (difference left sign right) before meaning checked is =
      class-meaning-agrees _ _ _ _ (HasPoint options definitions (difference left sign right)) meaning is.4
  form-agrees (alternative left sign right) before meaning checked is =
      let found =
      then-none (Checks options definitions true before.tags left)
      (Checks options definitions true (before.tags ++ tags_of options definitions left) right) checked in
      let here = form-agrees left before is.0 found.0 is.2 in
      let there = form-agrees right (past options definitions before left) is.1 found.1 is.3 in
      let class : both_classes (meant_class is.0) (meant_class is.1) ≡ meant_class meaning =
      sym (class_in-choice is.0.shape (whole is.1.shape)) ∙ ap (λ (m : Meaning). meant_class m) (sym is.4) in
      subst (Agrees (is_class options definitions (alternative left sign right)) (HasPoint options definitions (alternative left sign right))) class
      (agrees-both (is_class options definitions left) (is_class options definitions right) (HasPoint options definitions left)
      (HasPoint options definitions right) (meant_class is.0) (meant_class is.1) here there)

  -- a class that has these points is filled where one is that has the same
  pub filled-same : (policy : EmptyPolicy) (operand : Bool) (at : Pos) (Has Same : ℕ → Type 0) → ((point : ℕ) → Has point ↔ Same point)
      → (fault : Option Fault) → IsFilled options definitions policy operand at Has fault → IsFilled options definitions policy operand at Same fault
  filled-same MatchEmpty operand at Has Same same fault is = is
  filled-same MatchNone operand at Has Same same fault is = is
  filled-same Error true at Has Same same fault is = is
  filled-same Error false at Has Same same fault (inl is) = inl ((is.0.0, (same is.0.0).0 is.0.1), is.1)
  filled-same Error false at Has Same same fault (inr is) = inr ((λ point has. is.0 point ((same point).1 has)), is.1)
