-- Scanners whose automata are that of the first one but for the numbers of rules.
use Rattle.std.specs.Prelude.{◌≡◌, ℕ, List, [], ◌∷◌, Bool, Option, Some, None, IfSome, is_some}
use Rattle.std.specs.List.{AllByRecursion}
use Rattle.lx_base.specs.Spelling.{greatest_unit}
use Rattle.lx_layout.specs.Copies.{IsFront}
use Rattle.lx_layout.specs.LaidParts.{seen_given}
use Rattle.lx_layout.specs.PieceViews.{seen_source}
use Rattle.lx_layout.specs.Pieces.{Form, given_of}
use Rattle.lx_layout.specs.declared.copies.Front.{Front}
use Rattle.lx_layout.specs.declared.pieces.ScannerInput.{ScannerInput}

abbrev pub is_like : ScannerInput → Bool
is_like scanner = is_some scanner.by

-- the scanner has the automaton and the checks of the first one, and a rule at the end of the input where that has one
pub record IsLike (first scanner : ScannerInput) : Type 0 where
  pub auto : scanner.auto.now ≡ first.auto.now
  pub checks : scanner.checks.now ≡ first.checks.now
  pub end_rule : is_some scanner.end_rule ≡ is_some first.end_rule

-- the first scanner has an automaton of its own, and so have the others, or they are like the first one
abbrev pub AreLike : List ScannerInput → Type 0
AreLike [] = Unit {0}
AreLike (first ∷ scanners) =
    (first.by ≡ None) × AllByRecursion (λ (scanner : ScannerInput). IfSome scanner.by (λ by. IsLike first scanner)) scanners

-- the front of a scanner in a piece with a table of sets
pub record IsFrontOf (form : Form) (table : List ℕ) (first : ScannerInput) (front : Front) : Type 0 where
  pub own : first.by ≡ None
  pub laid : IsFront front
  pub given : seen_given front.ends.plans.input ≡ given_of form table (seen_source first)
  pub greatest : front.ends.plans.input.greatest ≡ greatest_unit form.enc

-- the front is that of some scanner, and another one is like that
abbrev pub HasFront : Form → (table : List ℕ) → Option Front → ScannerInput → Type 0
HasFront form table None scanner = ⊥
HasFront form table (Some front) scanner = (first : ScannerInput) × IsFrontOf form table first front × IsLike first scanner
