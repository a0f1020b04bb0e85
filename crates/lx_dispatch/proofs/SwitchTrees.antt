-- Switches over units that go as stretches do, as trees of tests.
use Rattle.std.specs.Prelude.{◌≡◌, ℕ, suc, ◌<◌, List, [], ◌∷◌, ◌++◌, length, map, Option, if◌then◌else◌, refl}
use Rattle.std.specs.List.{AllByRecursion}
use Rattle.std.proofs.Common.{sym, ap, subst, ◌∙◌, arith}
use Rattle.lx_ccode.specs.Machine.{has_unit, is_among}
use Rattle.lx_ccode.specs.Validity.{AreUnitsOnce, IsByte}
use Rattle.lx_dispatch.specs.Dispatch.{AreCases, all_units}
use Rattle.lx_dispatch.specs.FirstQuestions.{IsRestOf, questions_of}
use Rattle.lx_dispatch.specs.LeftUnits.{any_holds, left_split}
use Rattle.lx_dispatch.specs.TestTrees.{Ascend, HasWay, Question, case_way, split_class, switch}
use Rattle.lx_dispatch.specs.TransitionClasses.{Split}
use Rattle.lx_dispatch.specs.UnitSwitches.{IsOwn, IsSwitchOf, units_in, way_in}
use Rattle.lx_dispatch.specs.Views.{seen_case}
use Rattle.lx_dispatch.specs.declared.test_trees.UnitCase.{UnitCase}
use Rattle.lx_dispatch.proofs.LeftWays.{part-left_split, split_class-left_split}

-- the units of cases
abbrev units_of_each : List UnitCase → List (List ℕ)
units_of_each cases = map (λ case. case.0) (map seen_case cases)

all_units-cases : (cases : List UnitCase) → all_units (map (λ case. case.0) (map seen_case cases)) ≡ units_in cases
all_units-cases [] = refl
all_units-cases (case ∷ cases) = ap (λ (l : List ℕ). case.units.items ++ l) (all_units-cases cases)

length-cases : (cases : List UnitCase) → length (map (λ case. case.0) (map seen_case cases)) ≡ length cases
length-cases [] = refl
length-cases (case ∷ cases) = ap suc (length-cases cases)

each-cases : (cases : List UnitCase) → AllByRecursion IsOwn cases
    → AllByRecursion (λ own. (0 < length own) × AllByRecursion IsByte own) (map (λ case. case.0) (map seen_case cases))
each-cases [] each = tt
each-cases (case ∷ cases) each = ((each.0.some, each.0.bytes), each-cases cases each.1)

case_way-cases : (cases : List UnitCase) (other : Option ℕ) (unit : ℕ) → case_way (map seen_case cases) other unit ≡ way_in cases other unit
case_way-cases [] other unit = refl
case_way-cases (case ∷ cases) other unit =
    ap (λ way. if has_unit case.units.items unit then case.class else way) (case_way-cases cases other unit)

AreCases-cases : (cases : List UnitCase) → 0 < length cases → AllByRecursion IsOwn cases → AreUnitsOnce (units_in cases)
    → AreCases (map (λ case. case.0) (map seen_case cases))
AreCases-cases cases some each once = record {
  some = subst (λ n. 0 < n) (sym (length-cases cases)) some;
  each = each-cases cases each;
  once = subst AreUnitsOnce (sym (all_units-cases cases)) once;
}

ways-cases : (W : Option ℕ → Type 0) (V : Option ℕ → Type 0) → ((class : Option ℕ) → W class → V class) → (cases : List UnitCase)
    → AllByRecursion (λ case. W case.class) cases → AllByRecursion (λ case. V case.1) (map seen_case cases)
ways-cases W V f [] ways = tt
ways-cases W V f (case ∷ cases) ways = (f case.class ways.0, ways-cases W V f cases ways.1)

-- for the units that first questions leave
pub rest-switch : (table : List ℕ) (top greatest : ℕ) (split : Split) (first : List (Question × Option ℕ)) (left : Split) (cases : List UnitCase)
    (other : Option ℕ) → Ascend 0 split.tests → left ≡ left_split (any_holds (is_among table) (questions_of first)) top split → greatest ≡ 0xFF
    → top ≡ 0xFF → IsSwitchOf (any_holds (is_among table) (questions_of first)) left.tests left.last cases other
    → IsRestOf table top greatest split first (switch (map seen_case cases) other)
rest-switch table top greatest split first left cases other order is bytes byte of =
    let decided = any_holds (is_among table) (questions_of first) in
    let part = part-left_split decided top split in
    let more = λ (class : Option ℕ) (h : HasWay left.tests left.last class). part.1 class (subst (λ (s : Split). HasWay s.tests s.last class) is h) in record {
      picks = λ unit le open_.
          case_way-cases cases other unit ∙ of.leads unit (omega (arith, le, byte)) open_ ∙ ap (λ (s : Split). split_class s unit) is
          ∙ split_class-left_split decided top split unit order le open_;
      within = (
        (bytes, AreCases-cases cases of.some of.each of.once),
        ways-cases (HasWay left.tests left.last) (HasWay split.tests split.last) more cases of.ways,
        more other of.rest,
      );
      others = (tt, ways-cases (HasWay left.tests left.last) (λ class. Unit {0}) (λ class h. tt) cases of.ways, tt);
      few = omega arith;
    }
