-- Terms whose classes fit the encoding.
use Rattle.std.proofs.Common.{◌≡◌, ℕ, ◌+◌, ◌-◌, ◌≤◌, ◌⊎◌, inl, inr, ⊎_elim, Bool, true, false, List, [], ◌∷◌, ◌++◌, map, Option, None, Some, refl, arith}
use Rattle.lx_regex.specs.ClassLimits.{ClassesFit, ClassesFitAmong}
use Rattle.lx_base.specs.Letters.{is_within}
use Rattle.lx_base.specs.Spelling.{greatest_point}
use Rattle.lx_base.specs.declared.settings.EmptyPolicy.{EmptyPolicy}
use Rattle.lx_base.specs.declared.settings.EmptyPolicy.TheVariants.{MatchEmpty, MatchNone, Error}
use Rattle.lx_base.specs.declared.settings.Enc.{Enc}
use Rattle.lx_base.specs.declared.settings.Enc.TheVariants.{Byte, Ucs2, Utf8, Utf16, Utf32}
use Rattle.lx_base.specs.declared.settings.SurPolicy.{SurPolicy}
use Rattle.lx_base.specs.declared.settings.SurPolicy.TheVariants.{Ignore, Substitute, Fail}
use Rattle.lx_class.specs.Ranges.{InRanges}
use Rattle.lx_class.specs.declared.ranges.Range.{Range}
use Rattle.lx_encode.specs.Policy.{FitsEncoding, IsAfter, IsPoint}
use Rattle.lx_regex.specs.Expr.{members_of}
use Rattle.lx_regex.specs.PartList.{set_of}
use Rattle.lx_regex.specs.Term.{Term, Terms, IsInRanges, empty, class, any_unit, cat, alt, repeat, tag, group, nil, cons}
use Rattle.lx_exprs.specs.Checks.{IsIn, both_cases}
use Rattle.lx_exprs.specs.Defined.{both_classes, class_in, classes_in}
use Rattle.lx_exprs.specs.Meanings.{all_behind, behind, character_set, class_term, set_term, shifted, shifted_all, string_term}
use Rattle.lx_exprs.specs.Points.{singles}
use Rattle.lx_exprs.specs.Within.{IsPlain, ArePlain}
use Rattle.lx_exprs.proofs.Forms.ClassForms.{cases_of, character_after, in_ranges_of}

module _ (enc : Enc) where
  -- the ranges of a class as a set
  in_set_of : (ranges : List (ℕ × ℕ)) (point : ℕ) → InRanges (set_of ranges) point → IsInRanges ranges point
  in_set_of [] point is = is
  in_set_of (range ∷ ranges) point (inl is) = inl is
  in_set_of (range ∷ ranges) point (inr is) = inr (in_set_of ranges point is)

  mutual
    pub classes_fit : (term : Term) → IsPlain enc term → ClassesFit enc term
    classes_fit empty plain = tt
    classes_fit (class ranges) plain = λ point is. plain point (in_set_of ranges point is)
    classes_fit any_unit plain = tt
    classes_fit (cat members) plain = classes_fit-among members plain
    classes_fit (alt members) plain = classes_fit-among members plain
    classes_fit (repeat body low high) plain = classes_fit body plain
    classes_fit (tag number) plain = tt
    classes_fit (group opening closing body) plain = classes_fit body plain

    classes_fit-among : (members : Terms) → ArePlain enc members → ClassesFitAmong enc members
    classes_fit-among nil plain = tt
    classes_fit-among (cons member members) plain = (classes_fit member plain.0, classes_fit-among members plain.1)

  -- other numbers of tags and groups change no class
  mutual
    pub plain-shifted : (by groups : ℕ) (term : Term) → IsPlain enc term → IsPlain enc (shifted by groups term)
    plain-shifted by groups empty plain = tt
    plain-shifted by groups (class ranges) plain = plain
    plain-shifted by groups any_unit plain = tt
    plain-shifted by groups (cat members) plain = plain_all-shifted by groups members plain
    plain-shifted by groups (alt members) plain = plain_all-shifted by groups members plain
    plain-shifted by groups (repeat body low high) plain = plain-shifted by groups body plain
    plain-shifted by groups (tag number) plain = tt
    plain-shifted by groups (group opening closing body) plain = plain-shifted by groups body plain

    plain_all-shifted : (by groups : ℕ) (members : Terms) → ArePlain enc members → ArePlain enc (shifted_all by groups members)
    plain_all-shifted by groups nil plain = tt
    plain_all-shifted by groups (cons member members) plain =
        (plain-shifted by groups member plain.0, plain_all-shifted by groups members plain.1)

  mutual
    pub plain-behind : (tags : ℕ) (term : Term) → IsPlain enc term → IsPlain enc (behind tags term)
    plain-behind tags empty plain = tt
    plain-behind tags (class ranges) plain = plain
    plain-behind tags any_unit plain = tt
    plain-behind tags (cat members) plain = plain-all_behind tags members plain
    plain-behind tags (alt members) plain = plain-all_behind tags members plain
    plain-behind tags (repeat body low high) plain = plain-behind tags body plain
    plain-behind tags (tag number) plain = tt
    plain-behind tags (group opening closing body) plain = plain-behind tags body plain

    plain-all_behind : (tags : ℕ) (members : Terms) → ArePlain enc members → ArePlain enc (all_behind tags members)
    plain-all_behind tags nil plain = tt
    plain-all_behind tags (cons member members) plain = (plain-behind tags member plain.0, plain-all_behind tags members plain.1)

  pub plain-append : (front back : List Term) → ArePlain enc (members_of front) → ArePlain enc (members_of back)
      → ArePlain enc (members_of (front ++ back))
  plain-append [] back here there = there
  plain-append (term ∷ front) back here there = (here.0, plain-append front back here.1 there)

  -- a term that is a class has no other points
  in_one : (first second : Option (List (ℕ × ℕ))) (point : ℕ) → IsIn (both_classes first second) point → IsIn first point ⊎ IsIn second point
  in_one None second point is = absurd is
  in_one (Some ranges) None point is = absurd is
  in_one (Some []) (Some others) point is = inr is
  in_one (Some (range ∷ ranges)) (Some others) point (inl is) = inl (inl is)
  in_one (Some (range ∷ ranges)) (Some others) point (inr is) =
      ⊎_elim (λ here. inl (inr here)) (λ there. inr there) (in_one (Some ranges) (Some others) point is)

  mutual
    pub plain_class : (term : Term) → IsPlain enc term → (point : ℕ) → IsIn (class_in term) point → point ≤ greatest_point enc
    plain_class (class ranges) plain point is = plain point is
    plain_class (alt members) plain point is = plain_classes members plain point is
    plain_class empty plain point is = absurd is
    plain_class any_unit plain point is = absurd is
    plain_class (cat members) plain point is = absurd is
    plain_class (repeat body low high) plain point is = absurd is
    plain_class (tag number) plain point is = absurd is
    plain_class (group opening closing body) plain point is = absurd is

    plain_classes : (members : Terms) → ArePlain enc members → (point : ℕ) → IsIn (classes_in members) point → point ≤ greatest_point enc
    plain_classes nil plain point is = absurd is
    plain_classes (cons member members) plain point is =
        ⊎_elim (λ here. plain_class member plain.0 point here) (λ there. plain_classes members plain.1 point there)
        (in_one (class_in member) (classes_in members) point is)

  -- a set of points of the encoding as a class
  pub set_plain : (set : List Range) → FitsEncoding enc set → IsPlain enc (set_term set)
  set_plain set fits point is = fits point ((in_ranges_of set point).0 is)

  pub class_plain : (operand : Bool) (policy : EmptyPolicy) (set : List Range) → FitsEncoding enc set → IsPlain enc (class_term operand policy set)
  class_plain true policy set fits = set_plain set fits
  class_plain false MatchEmpty [] fits = tt
  class_plain false MatchEmpty (range ∷ set) fits = set_plain (range ∷ set) fits
  class_plain false MatchNone set fits = set_plain set fits
  class_plain false Error set fits = set_plain set fits

  -- where the encoding has a surrogate it has U+FFFD
  has_replacement : (e : Enc) (point : ℕ) → point ≤ greatest_point e → 0xD800 ≤ point → 0xFFFD ≤ greatest_point e
  has_replacement Byte point le from = absurd (omega (arith, le, from))
  has_replacement Ucs2 point le from = omega arith
  has_replacement Utf8 point le from = omega arith
  has_replacement Utf16 point le from = omega arith
  has_replacement Utf32 point le from = omega arith

  -- a policy makes points of the encoding of such points
  pub after_fits : (policy : SurPolicy) (ranges : List Range) → FitsEncoding enc ranges → (point : ℕ) → IsAfter policy ranges point
      → point ≤ greatest_point enc
  after_fits Ignore ranges fits point is = fits point is
  after_fits Substitute ranges fits point (inl is) = fits point is.0
  after_fits Substitute ranges fits point (inr is) =
      let most = has_replacement enc is.1.0 (fits is.1.0 is.1.1) is.1.2.0 in let same = is.0 in omega (arith, most, same)
  after_fits Fail ranges fits point is = fits point is

  pub point_fits : (policy : SurPolicy) (point : ℕ) → IsPoint enc policy point → point ≤ greatest_point enc
  point_fits Ignore point is = is
  point_fits Substitute point is = is.0
  point_fits Fail point is = is.0

  -- each encoding has the letters
  has_letters : (e : Enc) → 122 ≤ greatest_point e
  has_letters Byte = omega arith
  has_letters Ucs2 = omega arith
  has_letters Utf8 = omega arith
  has_letters Utf16 = omega arith
  has_letters Utf32 = omega arith

  one_fits : (number : ℕ) → number ≤ greatest_point enc → FitsEncoding enc (singles (number ∷ []))
  one_fits number le point (inl is) = omega (arith, is, le)
  one_fits number le point (inr is) = absurd is

  two_fit : (number other : ℕ) → number ≤ greatest_point enc → other ≤ greatest_point enc → FitsEncoding enc (singles (number ∷ other ∷ []))
  two_fit number other le less point (inl is) = omega (arith, is, le)
  two_fit number other le less point (inr is) = one_fits other less point is

  cases_fit : (is_caseless : Bool) (number : ℕ) → number ≤ greatest_point enc → FitsEncoding enc (singles (cases_of is_caseless number))
  cases_fit false number le = one_fits number le
  cases_fit true number le = at (is_within 65 90 number) (is_within 97 122 number) refl refl
    where
      at : (upper lower : Bool) → is_within 65 90 number ≡ upper → is_within 97 122 number ≡ lower
          → FitsEncoding enc (singles (both_cases (number ∷ [])))
      at true lower e e' =
          let small : number ≤ 90 = search (arith, e) in let most = has_letters enc in
          rw (e) (two_fit number (number + 32) le (omega (arith, small, most)))
      at false true e e' = rw (e, e') (two_fit number (number - 32) le (omega (arith, le)))
      at false false e e' = rw (e, e') (one_fits number le)

  -- a string of points of the encoding
  string_terms_plain : (policy : SurPolicy) (is_caseless : Bool) (points : List ℕ) → FitsEncoding enc (singles points)
      → ArePlain enc (members_of (map set_term (map (character_set policy is_caseless) points)))
  string_terms_plain policy is_caseless [] fits = tt
  string_terms_plain policy is_caseless (number ∷ points) fits = (
    set_plain (character_set policy is_caseless number)
        (λ point is.
        after_fits policy (singles (cases_of is_caseless number)) (cases_fit is_caseless number (fits number (inl (omega arith, omega arith)))) point
        ((character_after policy is_caseless number point).0 is)),
    string_terms_plain policy is_caseless points (λ point is. fits point (inr is)),
  )

  pub string_plain : (policy : SurPolicy) (is_caseless : Bool) (points : List ℕ) → FitsEncoding enc (singles points)
      → IsPlain enc (string_term (map (character_set policy is_caseless) points))
  string_plain policy is_caseless [] fits = tt
  string_plain policy is_caseless (number ∷ []) fits = (string_terms_plain policy is_caseless (number ∷ []) fits).0
  string_plain policy is_caseless (number ∷ next ∷ points) fits = string_terms_plain policy is_caseless (number ∷ next ∷ points) fits
