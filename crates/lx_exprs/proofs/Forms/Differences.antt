-- Differences, and those that are put off.
use Rattle.std.proofs.Common.{◌≡◌, ℕ, ◌+◌, ◌≤◌, ◌++◌, ◌⊎◌, ◌↔◌, inl, inr, ⊎_elim, max, Bool, true, false, List, Option, None, Some, refl, ap, ◌∙◌, subst}
use Rattle.std.specs.Prelude.{◌&&◌, is_some, if◌then◌else◌}
use Rattle.lx_base.specs.declared.faults.Fault.{Fault}
use Rattle.lx_base.specs.declared.faults.Fault.TheVariants.{NotClass}
use Rattle.lx_base.specs.declared.faults.Stop.{Stop}
use Rattle.lx_base.specs.declared.faults.Stop.TheVariants as stop
use Rattle.lx_base.specs.declared.places.Pos.{Pos}
use Rattle.lx_base.specs.declared.settings.EmptyPolicy.{EmptyPolicy}
use Rattle.lx_base.specs.declared.settings.EmptyPolicy.TheVariants.{MatchEmpty, MatchNone, Error}
use Rattle.lx_base.specs.declared.settings.Options.{Options}
use Rattle.lx_class.specs.Ranges.{InRanges, IsCanonical}
use Rattle.lx_class.specs.Ranges as ranges
use Rattle.lx_class.specs.declared.ranges.Range.{Range}
use Rattle.lx_class.proofs.Law.{same_ranges}
use Rattle.lx_regex.specs.Expr.{ranges_of}
use Rattle.lx_regex.specs.Term.{IsInRanges, class}
use Rattle.lx_forms.specs.Lexemes.{Lexeme}
use Rattle.lx_exprs.specs.declared.operands.Holed.{Holed}
use Rattle.lx_exprs.specs.declared.operands.Operand.TheVariants as operand
use Rattle.lx_exprs.specs.declared.values.Room.{Room}
use Rattle.lx_exprs.specs.Checks.{IsFilled, IsIn, StopsAt}
use Rattle.lx_exprs.specs.Defined.{Definition, Meaning, class_in, kept, meant_class, one, whole}
use Rattle.lx_exprs.specs.Meanings.{IsSetOf, class_meaning, set_term}
use Rattle.lx_exprs.specs.Operands.{IsHoled, IsHoledBy, IsLeft, IsOneClass, IsOperand}
use Rattle.lx_exprs.specs.Reading.{DifferenceChecks, DifferenceHas, IsDifference}
use Rattle.lx_exprs.proofs.Classes.BoundedSets.{canonical_bounded, decide_in, decided_set}
use Rattle.lx_exprs.proofs.Forms.ClassForms.{filled-same, in_ranges_of}

-- a class has one list of ranges
pub one_set : (meaning : Meaning) (holed : Holed) (set : List Range) → IsHoled meaning holed → (is : IsOneClass meaning) → IsCanonical set
    → ranges.IsDifference holed.whole holed.holes set → meaning.shape ≡ one (class (ranges_of set))
one_set meaning holed set left is canonical without =
    is.shape_is ∙ ap (λ l. one (set_term l)) (same_ranges 0 0 is.set set is.canonical canonical there back)
  where
    meant : (point : ℕ) → IsLeft holed point ↔ IsInRanges (ranges_of is.set) point
    meant = subst (λ shape. (point : ℕ) → IsLeft holed point ↔ IsIn (class_in (whole shape)) point) is.shape_is left.points

    there : (point : ℕ) → InRanges is.set point → InRanges set point
    there point inside = (without point).1 ((meant point).1 ((in_ranges_of is.set point).1 inside))

    back : (point : ℕ) → InRanges set point → InRanges is.set point
    back point inside = (in_ranges_of is.set point).0 ((meant point).0 ((without point).0 inside))

module _ (options : Options) (definitions : List Definition) where
  are_classes : (first second : Option (List (ℕ × ℕ))) (at : Pos) → (is_some first && is_some second) ≡ true
      → None ≡ (if is_some first && is_some second then None else Some (NotClass at))
  are_classes None second at both = absurd (let h = both in cc)
  are_classes (Some points) None at both = absurd (let h = both in cc)
  are_classes (Some points) (Some others) at both = refl

  -- a left operand that is no class is told
  left_fault : (first second : Option (List (ℕ × ℕ))) (at : Pos) → first ≡ None
      → Some (NotClass at) ≡ (if is_some first && is_some second then None else Some (NotClass at))
  left_fault None second at none = refl
  left_fault (Some points) second at none = absurd (let h = none in cc)

  module _ (operand : Bool) (first second : Meaning) (sign : Lexeme) where
    pub left_told : meant_class first ≡ None → DifferenceChecks options definitions operand first second sign (Some (NotClass sign.at))
    left_told none = inr (NotClass sign.at, left_fault (meant_class first) (meant_class second) sign.at none, refl)

    -- the meaning of a difference whose points are those of a set
    abbrev pub with_points : List Range → Meaning
    with_points set =
        class_meaning operand options.empty (max first.nesting second.nesting) (first.tags ++ second.tags) (kept (first.groups + second.groups)) (max first.count second.count) set

    module _ (holed : Holed) (left : IsHoledBy first second holed) where
      pub set_left : (set : List Range) → IsCanonical set → ranges.IsDifference holed.whole holed.holes set
          → IsSetOf (DifferenceHas options definitions first second) set
      set_left set canonical without = record {
        canonical = canonical;
        points = λ point. (
          λ is. (left.points point).0 ((without point).0 is),
          λ has. (without point).1 ((left.points point).1 has),
        );
      }

      pub checks_so : (set : List Range) → IsSetOf (DifferenceHas options definitions first second) set → (fault : Option Fault)
          → IsFilled options definitions options.empty operand sign.at (InRanges set) fault → DifferenceChecks options definitions operand first second sign fault
      checks_so set has fault is =
          inl (
            are_classes (meant_class first) (meant_class second) sign.at left.are_classes,
            filled-same options definitions options.empty operand sign.at (InRanges set) (DifferenceHas options definitions first second) has.points fault is,
          )

      pub stops_so : (set : List Range) → IsSetOf (DifferenceHas options definitions first second) set → (stopped : Stop)
          → StopsAt (IsFilled options definitions options.empty operand sign.at (InRanges set)) stopped
          → StopsAt (DifferenceChecks options definitions operand first second sign) stopped
      stops_so set has stop.Memory is = tt
      stops_so set has (stop.Fault fault) is = checks_so set has (Some fault) is

      -- its points are those of some set
      bounded : (point : ℕ) → DifferenceHas options definitions first second point → point ≤ 0x10FFFF
      bounded point has = canonical_bounded 0 holed.whole point left.canonical ((left.points point).1 has).0

      decide : (point : ℕ) → DifferenceHas options definitions first second point ⊎ (DifferenceHas options definitions first second point → ⊥)
      decide point =
          ⊎_elim
          (λ inside. ⊎_elim (λ hole. inr (λ has. ((left.points point).1 has).1 hole)) (λ none. inl ((left.points point).0 (inside, none)))
          (decide_in holed.holes point))
          (λ outside. inr (λ has. outside ((left.points point).1 has).0)) (decide_in holed.whole point)

      pub some_set : (set : List Range) × IsSetOf (DifferenceHas options definitions first second) set
      some_set = decided_set (DifferenceHas options definitions first second) bounded decide

  operand_filled : (policy : EmptyPolicy) (at : Pos) (Has : ℕ → Type 0) → IsFilled options definitions policy true at Has None
  operand_filled MatchEmpty at Has = refl
  operand_filled MatchNone at Has = refl
  operand_filled Error at Has = refl

  -- a difference that is an operand of another one is put off
  module _ (first second : Meaning) (sign : Lexeme) (holed : Holed) (left : IsHoledBy first second holed) (room : Room) where
    off_so : ((set : List Range) × IsSetOf (DifferenceHas options definitions first second) set)
        → DifferenceChecks options definitions true first second sign None
        × ((meaning : Meaning) × IsDifference options definitions true first second meaning × IsOperand room meaning (operand.Holed holed))
    off_so some = (
      inl (are_classes (meant_class first) (meant_class second) sign.at left.are_classes, operand_filled options.empty sign.at (DifferenceHas options definitions first second)),
      (
        with_points true first second sign some.0,
        (some.0, some.1, refl),
        (
          record {
            nesting_is = left.nesting_is;
            groups_is = left.groups_is;
            tags_is = left.tags_is;
            is_class = refl;
            canonical = left.canonical;
            points = λ point. (
              λ is. (in_ranges_of some.0 point).1 ((some.1.points point).1 ((left.points point).0 is)),
              λ is. (left.points point).1 ((some.1.points point).0 ((in_ranges_of some.0 point).0 is)),
            );
          },
          record { size_is = refl; set = some.0; canonical = some.1.canonical; shape_is = refl },
        ),
      ),
    )

    pub put_off : (is_operand : Bool) → is_operand ≡ true
        → DifferenceChecks options definitions is_operand first second sign None
        × ((meaning : Meaning) × IsDifference options definitions is_operand first second meaning × IsOperand room meaning (operand.Holed holed))
    put_off false on = absurd (let h = on in cc)
    put_off true on = off_so (some_set true first second sign holed left)
