-- The facts by which a directive among what is made is answered.
use Rattle.std.proofs.Common.{◌≡◌, ◌∙◌, ℕ, ◌<◌, Bool, true, false, List, Option, Some, None, ap, sym, refl, get_or, length}
use Rattle.std.proofs.lemmas.Bool.{false≢true}
use Rattle.std.proofs.lemmas.List.Folds.{list_any_at}
use Rattle.std.specs.List.{list_any}
use Rattle.lx_base.specs.declared.places.Pos.{Pos}
use Rattle.lx_ccode.specs.declared.piece.LineMark.{LineMark}
use Rattle.lx_compile.specs.Making.{AreAsked, CanAnswer, CanTell, asks}
use Rattle.lx_compile.specs.declared.facts.Facts.{Facts}
use Rattle.lx_compile.specs.declared.made.Made.{Made}
use Rattle.lx_compile.specs.declared.made.Made.TheVariants.{Outside, Scanners, Bare}
use Rattle.lx_compile.specs.declared.parts.Directive.{Directive}
use Rattle.lx_compile.specs.declared.parts.Directive.TheVariants as directive

-- a directive that asks for nothing
asks-nothing : (at : Pos) (line : Option LineMark) (asked : Directive) → asks (Bare at line asked) ≡ false → asked ≡ directive.Nothing
asks-nothing at line directive.Nothing is = refl
asks-nothing at line directive.Max is = absurd (false≢true (sym is))
asks-nothing at line directive.MaxNmatch is = absurd (false≢true (sym is))
asks-nothing at line (directive.Stags format) is = absurd (false≢true (sym is))
asks-nothing at line (directive.Mtags format) is = absurd (false≢true (sym is))
asks-nothing at line directive.Types is = absurd (false≢true (sym is))
asks-nothing at line directive.GetState is = absurd (false≢true (sym is))

-- where nothing asks, what stands at a place does not
asks-at : (made : List Made) (place : ℕ) (one : Made) → place < length made → one ≡ get_or made place one → list_any asks made ≡ false
    → asks one ≡ false
asks-at made place one within is none = by (asks one) refl
  where
    by : (does : Bool) → asks one ≡ does → asks one ≡ false
    by false does = does
    by true does = absurd (false≢true (sym none ∙ list_any_at asks made place one within (sym (ap asks is) ∙ does)))

-- a directive among all that is made
CanAnswer-at : (facts : Option Facts) (made : List Made) (place : ℕ) (one : Made) (at : Pos) (line : Option LineMark) (asked : Directive)
    → place < length made → one ≡ get_or made place one → one ≡ Bare at line asked → AreAsked facts made → CanAnswer facts made asked
CanAnswer-at None made place one at line asked within is bare none =
    asks-nothing at line asked (sym (ap asks bare) ∙ asks-at made place one within is none)
CanAnswer-at (Some facts) made place one at line asked within is bare are = are

-- what is made, among all of it
pub CanTell-at : (facts : Option Facts) (made : List Made) (place : ℕ) (one : Made) → place < length made → one ≡ get_or made place one
    → AreAsked facts made → CanTell facts made one
CanTell-at facts made place (Outside text) within is are = tt
CanTell-at facts made place (Scanners piece checks warnings cover groups) within is are = tt
CanTell-at facts made place (Bare at line asked) within is are = CanAnswer-at facts made place (Bare at line asked) at line asked within is refl are
