-- The warnings of a block's scanners, one scanner behind another.
use Rattle.std.proofs.Common.{◌≡◌, ◌∙◌, suc, List, [], ◌∷◌, ◌++◌, map, length, refl, ap, sym, subst, append_assoc, append-nil}
use Rattle.std.specs.List.{AllByRecursion}
use Rattle.lx_auto.specs.declared.automaton.Auto.{Auto}
use Rattle.lx_base.specs.declared.places.Pos.{Pos}
use Rattle.lx_base.specs.declared.settings.Options.{Options}
use Rattle.lx_regex.specs.Pattern.{patterns_of}
use Rattle.lx_rules.specs.Within.{IsScannerWithin}
use Rattle.lx_rules.specs.declared.resolved.Act.{Act}
use Rattle.lx_rules.specs.declared.resolved.Scanner.{Scanner}
use Rattle.lx_warn.specs.Warnings.{AreWarnings}
use Rattle.lx_warn.specs.declared.lists.Warning.{Warning}
use Rattle.lx_compile.specs.Emittable.{AreAutosOf}
use Rattle.lx_compile.specs.Options.{policy_of}
use Rattle.lx_compile.specs.Warnings.{AreWarningsOf, placed}
use Rattle.lx_compile.specs.declared.warned.PlacedWarning.{PlacedWarning}

-- there are as many automata as scanners
pub AreAutosOf-length : (options : Options) (scanners : List Scanner) (autos : List Auto) → AreAutosOf options scanners autos → length autos ≡ length scanners
AreAutosOf-length options [] [] are = refl
AreAutosOf-length options [] (auto ∷ autos) are = absurd are
AreAutosOf-length options (scanner ∷ scanners) [] are = absurd are
AreAutosOf-length options (scanner ∷ scanners) (auto ∷ autos) are = ap suc (AreAutosOf-length options scanners autos are.1)

-- where there is none, nothing is warned of
pub AreWarningsOf-none : (options : Options) (at : Pos) (acts : List Act) (scanners : List Scanner) (autos : List Auto) (all : List PlacedWarning)
    → AreAutosOf options scanners autos → autos ≡ [] → all ≡ [] → AreWarningsOf options at acts scanners all
AreWarningsOf-none options at acts [] autos all are none is = is
AreWarningsOf-none options at acts (scanner ∷ scanners) [] all are none is = absurd are
AreWarningsOf-none options at acts (scanner ∷ scanners) (auto ∷ autos) all are none is = absurd (let some = none in cc)

module _ (options : Options) (at : Pos) (acts : List Act) where
  -- what holds behind some scanners, which have these warnings, where the others are left, and their automata
  pub record HaveWarnings (scanners rest : List Scanner) (autos : List Auto) (all : List PlacedWarning) : Type 0 where
    pub within : AllByRecursion (IsScannerWithin options.enc) rest
    pub automata : AreAutosOf options rest autos
    pub continues : (more : List PlacedWarning) → AreWarningsOf options at acts rest more → AreWarningsOf options at acts scanners (all ++ more)

  pub HaveWarnings-start : (scanners : List Scanner) (autos : List Auto) → AllByRecursion (IsScannerWithin options.enc) scanners → AreAutosOf options scanners autos
      → HaveWarnings scanners scanners autos []
  HaveWarnings-start scanners autos within are = record { within = within; automata = are; continues = λ more given. given }

  pub HaveWarnings-next : (scanners : List Scanner) (scanner : Scanner) (rest : List Scanner) (auto : Auto) (autos : List Auto) (all after : List PlacedWarning)
      (own : List Warning) → HaveWarnings scanners (scanner ∷ rest) (auto ∷ autos) all → AreWarnings (policy_of options) options.enc (patterns_of scanner.set.rules) own
      → after ≡ all ++ map (placed at acts scanner.cond) own → HaveWarnings scanners rest autos after
  HaveWarnings-next scanners scanner rest auto autos all after own have are is = record {
    within = have.within.1;
    automata = have.automata.1;
    continues = λ more given.
        subst (AreWarningsOf options at acts scanners)
        (sym (append_assoc all (map (placed at acts scanner.cond) own) more) ∙ ap (λ (front : List PlacedWarning). front ++ more) (sym is))
        (have.continues (map (placed at acts scanner.cond) own ++ more) (own, more, are, given, refl));
  }

  pub HaveWarnings-end : (scanners : List Scanner) (autos : List Auto) (all : List PlacedWarning) → HaveWarnings scanners [] autos all
      → AreWarningsOf options at acts scanners all
  HaveWarnings-end scanners autos all have = subst (AreWarningsOf options at acts scanners) (append-nil all) (have.continues [] refl)
