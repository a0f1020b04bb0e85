-- Sets of code points: what faults they have, and what policies make of them.
use Rattle.std.proofs.Common.{◌≡◌, ℕ, ◌+◌, suc, All, map, length, le_refl, ◌≤◌, ◌↔◌, ◌⊎◌, inl, inr, ⊎_elim, Bool, true, false, List, [], ◌∷◌, ◌++◌, take, drop, Option, None, Some, Result, Ok, Err, IfOk, refl, sym, ap, ◌∙◌, subst, arith}
use Rattle.std.specs.Prelude.{◌==◌, nat_le, max, if◌then◌else◌}
use Rattle.std.specs.List.{AllByRecursion}
use Rattle.std.proofs.lemmas.List.Elements.{All-from_recursion}
use Rattle.std.specs.Option.{option_map, option_or}
use Rattle.std.proofs.lemmas.List.{take-append-drop}
use Rattle.lx_base.specs.Spelling.{greatest_point}
use Rattle.lx_base.specs.declared.faults.Fault.{Fault}
use Rattle.lx_base.specs.declared.faults.Fault.TheVariants.{CodePoint, Surrogate}
use Rattle.lx_base.specs.declared.places.Pos.{Pos}
use Rattle.lx_base.specs.declared.settings.EmptyPolicy.{EmptyPolicy}
use Rattle.lx_base.specs.declared.settings.EmptyPolicy.TheVariants.{MatchEmpty, MatchNone, Error}
use Rattle.lx_base.specs.declared.settings.Enc.{Enc}
use Rattle.lx_base.specs.declared.settings.Enc.TheVariants.{Byte, Ucs2, Utf8, Utf16, Utf32}
use Rattle.lx_base.specs.declared.settings.SurPolicy.{SurPolicy}
use Rattle.lx_base.specs.declared.settings.SurPolicy.TheVariants.{Ignore, Substitute, Fail}
use Rattle.lx_base.specs.declared.settings.Options.{Options}
use Rattle.lx_class.specs.Ranges.{HaveSamePoints, InRanges, IsCanonical, IsCanonicalFrom, IsDifference, IsUnion}
use Rattle.lx_class.specs.declared.ranges.Range.{Range}
use Rattle.lx_class.proofs.RangeLists.{InRanges-append}
use Rattle.lx_encode.specs.Policy.{FitsEncoding, IsAfter, IsAllowed, IsPoint}
use Rattle.lx_exprs.specs.Checks.{ClassHas, IsFilled, range_of}
use Rattle.lx_exprs.specs.Defined.{Definition}
use Rattle.lx_exprs.specs.Meanings.{IsSetOf}
use Rattle.lx_exprs.specs.Points.{least_from, lesser, points_fault, singles, surrogate_fault, up_to}
use Rattle.lx_exprs.specs.Seen.{AreCodePoints, IsOrdered, points_of}
use Rattle.lx_token.specs.Characters.{characters_of}
use Rattle.lx_token.specs.Classes.{between, class_behind, class_of, is_plain, ranges_behind}
use Rattle.lx_token.specs.declared.characters.Character.{Character}
use Rattle.lx_token.specs.declared.classes.Class.{Class}
use Rattle.lx_token.specs.declared.classes.PointRange.{PointRange}

-- what follows from two things that hold of an answer
pub if_ok_both : {A E : Type 0} (P Q R : A → Type 0) (result : Result A E) → ((a : A) → P a → Q a → R a) → IfOk result P → IfOk result Q
    → IfOk result R
if_ok_both P Q R (Ok a) follows one two = follows a one two
if_ok_both P Q R (Err e) follows one two = tt

-- the points of a union of halves are those of the whole
pub halves : (ranges front back left right set : List Range) (at : ℕ) → front ≡ take at ranges → back ≡ drop at ranges
    → HaveSamePoints front left → HaveSamePoints back right → IsUnion left right set → HaveSamePoints ranges set
halves ranges front back left right set at front_is back_is front_same back_same union point =
    subst (λ l. InRanges l point ↔ InRanges set point) (take-append-drop at ranges)
    (subst (λ l. InRanges (l ++ drop at ranges) point ↔ InRanges set point) front_is
    (subst (λ l. InRanges (front ++ l) point ↔ InRanges set point) back_is both))
  where
    both : InRanges (front ++ back) point ↔ InRanges set point
    both = (
      λ is.
          (union point).1
          (⊎_elim (λ one. inl ((front_same point).0 one)) (λ two. inr ((back_same point).0 two)) ((InRanges-append front back point).0 is)),
      λ is.
          (InRanges-append front back point).1
          (⊎_elim (λ one. inl ((front_same point).1 one)) (λ two. inr ((back_same point).1 two)) ((union point).0 is)),
    )

-- the ranges of a set are ordered
pub canonical_ordered : (set : List Range) → IsCanonical set → All IsOrdered set
canonical_ordered set canonical = All-from_recursion IsOrdered set (each 0 set canonical)
  where
    each : (low : ℕ) (ranges : List Range) → IsCanonicalFrom low ranges → AllByRecursion IsOrdered ranges
    each low [] are = tt
    each low (range ∷ ranges) are = ((are.1, are.2), each (range.hi + 2) ranges are.3)

-- ranges end to end have the points of both lists, also where they are put in order
pub union_appended : (ranges others all : List Range) → all ≡ ranges ++ others → IsUnion ranges others all
union_appended ranges others all same = subst (IsUnion ranges others) (sym same) (InRanges-append ranges others)

pub union_same : (ranges others all set : List Range) → IsUnion ranges others all → HaveSamePoints all set → IsUnion ranges others set
union_same ranges others all set union same point =
    ((λ is. (union point).0 ((same point).1 is)), (λ is. (same point).0 ((union point).1 is)))

-- the least point from a bound on is no greater than any other, and where there is none no point lies there
pub least_from-least : (low : ℕ) (ranges : List Range) (point : ℕ) → InRanges ranges point → low ≤ point
    → (least : ℕ) × (least_from low ranges ≡ Some least) × (least ≤ point)
least_from-least low [] point is from = absurd is
least_from-least low (range ∷ ranges) point is from =
    at (nat_le low range.hi) refl is (λ behind. least_from-least low ranges point behind from)
  where
    lesser_le : (one : ℕ) (found : Option ℕ) → lesser one found ≤ one
    lesser_le one None = omega arith
    lesser_le one (Some other) = omega arith

    lesser_other : (one other : ℕ) (found : Option ℕ) → found ≡ Some other → lesser one found ≤ other
    lesser_other one other found is = rw (is) (omega arith)

    at : (b : Bool) → nat_le low range.hi ≡ b → ((range.lo ≤ point) × (point ≤ range.hi)) ⊎ InRanges ranges point
        → (InRanges ranges point → (least : ℕ) × (least_from low ranges ≡ Some least) × (least ≤ point))
        → (least : ℕ) × (least_from low (range ∷ ranges) ≡ Some least) × (least ≤ point)
    at true e (inl within) later =
        let first = lesser_le (max low range.lo) (least_from low ranges) in
        rw (e) (lesser (max low range.lo) (least_from low ranges), refl, omega (arith, first, within, from))
    at true e (inr behind) later =
        let found = later behind in
        let other = lesser_other (max low range.lo) found.0 (least_from low ranges) found.1 in
        let less = found.2 in
        rw (e) (lesser (max low range.lo) (least_from low ranges), refl, omega (arith, other, less))
    at false e (inl within) later = absurd (search (arith, e, within, from))
    at false e (inr behind) later = rw (e) (later behind)

-- where the points of a token have no fault, the encoding has them, and where surrogates are refused it has none
pub points_taken : (enc : Enc) (policy : SurPolicy) (at : Pos) (ranges : List Range) → points_fault enc policy at ranges ≡ None
    → FitsEncoding enc ranges × IsAllowed policy ranges
points_taken enc policy at ranges none = (fits, allowed policy none)
  where
    or_none : (one two : Option Fault) → option_or one two ≡ None → (one ≡ None) × (two ≡ None)
    or_none None two is = (refl, is)
    or_none (Some fault) two is = absurd (let h = is in cc)

    fits : FitsEncoding enc ranges
    fits point is = within (search arith)
      where
        found : suc (greatest_point enc) ≤ point → ⊥
        found over =
            let least = least_from-least (suc (greatest_point enc)) ranges point is over in
            let first = (or_none (option_map (λ p. CodePoint at p) (least_from (suc (greatest_point enc)) ranges)) (surrogate_fault policy at ranges) none).0 in
            let says : Some (CodePoint at least.0) ≡ None = ap (option_map (λ p. CodePoint at p)) (sym least.1) ∙ first in cc

        within : (point ≤ greatest_point enc) ⊎ (suc (greatest_point enc) ≤ point) → point ≤ greatest_point enc
        within (inl le) = le
        within (inr over) = absurd (found over)

    allowed : (p : SurPolicy) → points_fault enc p at ranges ≡ None → IsAllowed p ranges
    allowed Ignore free = λ is. absurd (let h = is in cc)
    allowed Substitute free = λ is. absurd (let h = is in cc)
    allowed Fail free = λ is point member from to.
        let least = least_from-least 0xD800 ranges point member from in
        let second = (or_none (option_map (λ p. CodePoint at p) (least_from (suc (greatest_point enc)) ranges)) (surrogate_fault Fail at ranges) free).1 in
        let says : option_map (λ p. Surrogate at p) (up_to 0xDFFF (Some least.0)) ≡ None =
        ap (λ found. option_map (λ p. Surrogate at p) (up_to 0xDFFF found)) (sym least.1) ∙ second in
        let less = least.2 in
        let small : nat_le least.0 0xDFFF ≡ true = search (arith, less, to) in
        let is_some : Some (Surrogate at least.0) ≡ None =
        ap (λ b. option_map (λ p. Surrogate at p) (if◌then◌else◌ {A = Option ℕ} b (Some least.0) None)) (sym small) ∙ says in cc

-- ranges with the same points are alike to encodings and policies
module _ (ranges set : List Range) (same : HaveSamePoints ranges set) where
  pub fits-same : (enc : Enc) → FitsEncoding enc ranges → FitsEncoding enc set
  fits-same enc fits point is = fits point ((same point).1 is)

  pub allowed-same : (policy : SurPolicy) → IsAllowed policy ranges → IsAllowed policy set
  allowed-same policy allowed fails point is from to = allowed fails point ((same point).1 is) from to

  pub after-same : (policy : SurPolicy) (point : ℕ) → IsAfter policy ranges point ↔ IsAfter policy set point
  after-same Ignore point = same point
  after-same Substitute point = (
    λ is. ⊎_elim (λ h. inl ((same point).0 h.0, h.1)) (λ h. inr (h.0, (h.1.0, (same h.1.0).0 h.1.1, h.1.2))) is,
    λ is. ⊎_elim (λ h. inl ((same point).1 h.0, h.1)) (λ h. inr (h.0, (h.1.0, (same h.1.0).1 h.1.1, h.1.2))) is,
  )
  after-same Fail point = same point

-- all other points of the encoding are the points of a class that is negated
pub others_has : (options : Options) (definitions : List Definition) (ranges raw set all rest : List Range) → HaveSamePoints ranges raw
    → IsSetOf (IsAfter options.surrogates raw) set → ((point : ℕ) → InRanges all point ↔ IsPoint options.enc options.surrogates point)
    → IsCanonical rest → IsDifference all set rest → IsSetOf (ClassHas options definitions true ranges) rest
others_has options definitions ranges raw set all rest same taken every canonical without = record {
  canonical = canonical;
  points = λ point. (
    λ is.
        let parts = (without point).0 is in
        ((every point).0 parts.0, λ after. parts.1 ((taken.points point).1 ((after-same ranges raw same options.surrogates point).0 after))),
    λ has.
        (without point).1
        ((every point).1 has.0, λ is. has.1 ((after-same ranges raw same options.surrogates point).1 ((taken.points point).0 is))),
  );
}

-- a set that is not empty is a class that is filled
pub filled_some : (options : Options) (definitions : List Definition) (policy : EmptyPolicy) (operand : Bool) (at : Pos) (set : List Range)
    → IsCanonical set → (length set == 0) ≡ false → IsFilled options definitions policy operand at (InRanges set) None
filled_some options definitions MatchEmpty operand at set canonical some = refl
filled_some options definitions MatchNone operand at set canonical some = refl
filled_some options definitions Error true at set canonical some = refl
filled_some options definitions Error false at [] canonical some = absurd (let h = some in cc)
filled_some options definitions Error false at (range ∷ set) canonical some = inl ((range.lo, inl (le_refl range.lo, canonical.1)), refl)

-- each encoding's points are code points
greatest_le : (enc : Enc) → greatest_point enc ≤ 0x10FFFF
greatest_le Byte = omega arith
greatest_le Ucs2 = omega arith
greatest_le Utf8 = omega arith
greatest_le Utf16 = omega arith
greatest_le Utf32 = omega arith

pub le_greatest : (enc : Enc) (point : ℕ) → point ≤ greatest_point enc → point ≤ 0x10FFFF
le_greatest enc point le = let most = greatest_le enc in omega (arith, le, most)

-- the characters of a token that has no fault
pub code_points : (enc : Enc) (characters : List Character) → FitsEncoding enc (singles (points_of characters)) → AreCodePoints characters
code_points enc characters fits =
    All-from_recursion (λ (character : Character). character.point ≤ 0x10FFFF) characters (each characters fits)
  where
    each : (characters : List Character) → FitsEncoding enc (singles (points_of characters))
        → AllByRecursion (λ (character : Character). character.point ≤ 0x10FFFF) characters
    each [] fits = tt
    each (character ∷ characters) fits =
        (le_greatest enc character.point (fits character.point (inl (le_refl character.point, le_refl character.point))), each characters (λ point is. fits point (inr is)))

-- the ranges of a class begin no later than they end
abbrev IsBetween : PointRange → Type 0
IsBetween range = range.lo ≤ range.hi

between_ordered : (one two : ℕ) → IsBetween (between one two)
between_ordered one two = omega arith

ranges_behind-ordered : (begun : Option ℕ) (is_dashed : Bool) (characters : List Character) → AllByRecursion IsBetween (ranges_behind begun is_dashed characters)
ranges_behind-ordered None is_dashed [] = tt
ranges_behind-ordered None is_dashed (next ∷ characters) = ranges_behind-ordered (Some next.point) false characters
ranges_behind-ordered (Some point) false [] = (between_ordered point point, tt)
ranges_behind-ordered (Some point) true [] = (between_ordered point point, (between_ordered 45 45, tt))
ranges_behind-ordered (Some point) false (next ∷ characters) =
    by (is_plain 45 next) (ranges_behind-ordered (Some point) true characters) (ranges_behind-ordered (Some next.point) false characters)
  where
    by : (is_dash : Bool) → AllByRecursion IsBetween (ranges_behind (Some point) true characters)
        → AllByRecursion IsBetween (ranges_behind (Some next.point) false characters)
        → AllByRecursion IsBetween
        (if is_dash then ranges_behind (Some point) true characters else between point point ∷ ranges_behind (Some next.point) false characters)
    by true dashed other = dashed
    by false dashed other = (between_ordered point point, other)
ranges_behind-ordered (Some point) true (next ∷ characters) = (between_ordered point next.point, ranges_behind-ordered None false characters)

class_behind-ordered : (characters : List Character) → AllByRecursion IsBetween (class_behind characters).ranges
class_behind-ordered [] = tt
class_behind-ordered (first ∷ characters) =
    by (is_plain 94 first) (ranges_behind-ordered None false characters) (ranges_behind-ordered None false (first ∷ characters))
  where
    by : (is_negated : Bool) → AllByRecursion IsBetween (ranges_behind None false characters)
        → AllByRecursion IsBetween (ranges_behind None false (first ∷ characters))
        → AllByRecursion IsBetween
        (if◌then◌else◌ {A = Class} is_negated (record { is_negated = true; ranges = ranges_behind None false characters })
        (record { is_negated = false; ranges = ranges_behind None false (first ∷ characters) })).ranges
    by true negated other = negated
    by false negated other = other

pub class_ordered : (enc : Enc) (text : List ℕ) → FitsEncoding enc (map range_of (class_of text).ranges) → All IsOrdered (map range_of (class_of text).ranges)
class_ordered enc text fits =
    All-from_recursion IsOrdered (map range_of (class_of text).ranges) (each (class_of text).ranges (class_behind-ordered (characters_of text)) fits)
  where
    each : (written : List PointRange) → AllByRecursion IsBetween written → FitsEncoding enc (map range_of written)
        → AllByRecursion IsOrdered (map range_of written)
    each [] are fits = tt
    each (range ∷ written) are fits =
        ((are.0, le_greatest enc range.hi (fits range.hi (inl (are.0, le_refl range.hi)))), each written are.1 (λ point is. fits point (inr is)))
