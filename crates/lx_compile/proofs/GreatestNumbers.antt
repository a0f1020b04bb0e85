-- The greatest of numbers.
use Rattle.std.proofs.Common.{◌≡◌, ◌≢◌, ◌+◌, ◌≤◌, ◌<◌, ℕ, zero, suc, max, List, [], ◌∷◌, ap, drop, get_or, length, refl, rules, arith}
use Rattle.std.specs.List.{All, Contains}
use Rattle.std.proofs.lemmas.List.Elements.{All-head, All-tail}
use Rattle.std.specs.Ordering.{nat_cmp, ord_max}
use Rattle.lx_base.specs.declared.lists.Sequence.{Sequence}
use Rattle.lx_fill.specs.declared.fill.CheckList.{CheckList}
use Rattle.lx_ccode.specs.declared.piece.Piece.{Piece}
use Rattle.lx_regex.specs.declared.rules.Rule.{Rule}
use Rattle.lx_rules.specs.declared.resolved.Scanner.{Scanner}
use Rattle.lx_compile.specs.Facts.{greatest, greatest_in, groups_of, units_of}
use Rattle.lx_compile.specs.Made.{groups_in_rules, groups_in_scanners}
use Rattle.lx_compile.proofs.ItemRuns.{drop-item}
use Rattle.lx_compile.specs.declared.made.Made.{Made}
use Rattle.lx_compile.specs.declared.made.Made.TheVariants.{Outside, Scanners, Bare}
use Rattle.lx_compile.specs.declared.warned.PlacedWarning.{PlacedWarning}

pub greatest-max : (least : ℕ) (numbers : List ℕ) → greatest least numbers ≡ max least (greatest 0 numbers)
greatest-max least [] = omega arith
greatest-max least (number ∷ numbers) = let rest = greatest-max least numbers in omega (arith, rest)

pub greatest_in-max : (least : ℕ) (lists : List (List ℕ)) → greatest_in least lists ≡ max least (greatest_in 0 lists)
greatest_in-max least [] = omega arith
greatest_in-max least (numbers ∷ lists) =
    let rest = greatest_in-max least lists in
    omega (arith, rest, greatest-max (greatest_in least lists) numbers, greatest-max (greatest_in 0 lists) numbers)

-- a bound of numbers is above the greatest one
greatest-below : (most : ℕ) (numbers : List ℕ) → All (λ number. number ≤ most) numbers → greatest 0 numbers ≤ most
greatest-below most [] bound = omega arith
greatest-below most (number ∷ numbers) bound =
    let rest = greatest-below most numbers (All-tail (λ number. number ≤ most) number numbers bound) in
    omega (arith, rest, All-head (λ number. number ≤ most) number numbers bound)

-- and each of them is not
greatest-above : (numbers : List ℕ) (place default : ℕ) → place < length numbers → get_or numbers place default ≤ greatest 0 numbers
greatest-above [] place default within = absurd (omega arith)
greatest-above (number ∷ numbers) zero default within = omega arith
greatest-above (number ∷ numbers) (suc place) default within =
    let rest = greatest-above numbers place default (omega arith) in omega (arith, rest)

-- a bound that is one of the numbers, or 0, is the greatest of them
pub greatest-reached : (most : ℕ) (numbers : List ℕ) → All (λ number. number ≤ most) numbers
    → (most ≢ 0 → Contains numbers most) → greatest 0 numbers ≡ most
greatest-reached zero numbers bound reached = let below = greatest-below 0 numbers bound in omega (arith, below)
greatest-reached (suc most) numbers bound reached =
    let at = reached (λ (is : suc most ≡ 0). absurd (omega arith)) in
    let below = greatest-below (suc most) numbers bound in
    let above = greatest-above numbers at.0 (suc most) at.1 in
    omega (arith, below, above, at.2)

-- one list more
pub greatest_in-more : (most more : ℕ) (numbers : List ℕ) (lists : List (List ℕ)) → more ≡ greatest most numbers
    → greatest_in most (numbers ∷ lists) ≡ greatest_in more lists
greatest_in-more most more numbers lists is =
    let first = greatest-max most numbers in
    let both = greatest-max (greatest_in most lists) numbers in
    omega (arith, is, first, both, greatest_in-max most lists, greatest_in-max more lists)

-- the number of units is at least 1
pub units_of-positive : (made : List Made) → 1 ≤ units_of made
units_of-positive [] = omega arith
units_of-positive (Outside text ∷ made) = units_of-positive made
units_of-positive (Bare at line directive ∷ made) = units_of-positive made
units_of-positive (Scanners piece checks warnings cover groups ∷ made) =
    let rest = units_of-positive made in
    omega (arith, rest, greatest_in-max (units_of made) checks)

-- that of one piece more
pub units_of-more : (most : ℕ) (piece : Piece) (checks : List (List ℕ)) (warnings : List PlacedWarning) (cover : List ℕ) (groups : ℕ) (made : List Made)
    → max (greatest_in most checks) (units_of made) ≡ max most (units_of (Scanners piece checks warnings cover groups ∷ made))
units_of-more most piece checks warnings cover groups made = omega (arith, greatest_in-max most checks, greatest_in-max (units_of made) checks)

-- the number of groups is at least 1
pub groups_of-positive : (made : List Made) → 1 ≤ groups_of made
groups_of-positive [] = omega arith
groups_of-positive (Outside text ∷ made) = groups_of-positive made
groups_of-positive (Bare at line directive ∷ made) = groups_of-positive made
groups_of-positive (Scanners piece checks warnings cover groups ∷ made) = let rest = groups_of-positive made in omega (arith, rest)

-- that of one piece more
pub groups_of-more : (most : ℕ) (piece : Piece) (checks : List (List ℕ)) (warnings : List PlacedWarning) (cover : List ℕ) (groups : ℕ) (made : List Made)
    → max (max most groups) (groups_of made) ≡ max most (groups_of (Scanners piece checks warnings cover groups ∷ made))
groups_of-more most piece checks warnings cover groups made = omega arith

-- without a piece it stays
pub groups_of-other : (one : Made) (made : List Made)
    → ((piece : Piece) (checks : Sequence CheckList) (warnings : Sequence PlacedWarning) (cover : Sequence ℕ) (groups : ℕ) → one ≡ Scanners piece checks warnings cover groups → ⊥) → groups_of (one ∷ made) ≡ groups_of made
groups_of-other (Outside text) made other = refl
groups_of-other (Bare at line directive) made other = refl
groups_of-other (Scanners piece checks warnings cover groups) made other = absurd (other piece checks warnings cover groups refl)

-- one rule more, and one scanner more
pub groups_in_rules-more : (rules : List Rule) (place : ℕ) (rule : Rule) (before more total : ℕ) → place < length rules → rule ≡ get_or rules place rule
    → more ≡ max before rule.groups → max before (groups_in_rules (drop place rules)) ≡ total
    → max more (groups_in_rules (drop (place + 1) rules)) ≡ total
groups_in_rules-more rules place rule before more total within is m e =
    let parts = ap groups_in_rules (drop-item rules place rule within is) in omega (arith, m, e, parts)

pub groups_in_scanners-more : (scanners : List Scanner) (place : ℕ) (scanner : Scanner) (before own more total : ℕ) → place < length scanners
    → scanner ≡ get_or scanners place scanner → own ≡ groups_in_rules scanner.set.rules → more ≡ max before own
    → max before (groups_in_scanners (drop place scanners)) ≡ total → max more (groups_in_scanners (drop (place + 1) scanners)) ≡ total
groups_in_scanners-more scanners place scanner before own more total within is o m e =
    let parts = ap groups_in_scanners (drop-item scanners place scanner within is) in omega (arith, o, m, e, parts)

-- without a piece it stays
pub units_of-other : (one : Made) (made : List Made)
    → ((piece : Piece) (checks : Sequence CheckList) (warnings : Sequence PlacedWarning) (cover : Sequence ℕ) (groups : ℕ) → one ≡ Scanners piece checks warnings cover groups → ⊥) → units_of (one ∷ made) ≡ units_of made
units_of-other (Outside text) made other = refl
units_of-other (Bare at line directive) made other = refl
units_of-other (Scanners piece checks warnings cover groups) made other = absurd (other piece checks warnings cover groups refl)

-- `max` of numbers is the greater one
pub ord_max-max : (first second : ℕ) → ord_max nat_cmp first second ≡ max first second
ord_max-max first second = search rules
