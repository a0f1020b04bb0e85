-- How units go by cases, and what is so of all ways of cases.
use Rattle.std.specs.Prelude.{◌≡◌, ℕ, Bool, true, false, List, [], ◌∷◌, map, if◌then◌else◌, refl}
use Rattle.std.specs.List.{AllByRecursion}
use Rattle.std.proofs.Common.{ap}
use Rattle.lx_ccode.specs.Machine.{has_unit}
use Rattle.lx_dispatch.specs.TestTrees.{case_way, cases_by}

-- other ways in place of those of the cases
pub case_way-by : {A B : Type 0} (way : A → B) (cases : List (List ℕ × A)) (last : A) (unit : ℕ)
    → case_way (cases_by way cases) (way last) unit ≡ way (case_way cases last unit)
case_way-by way [] last unit = refl
case_way-by way (case ∷ cases) last unit = by (has_unit case.0 unit) (case_way-by way cases last unit)
  where
    by : (t : Bool) → case_way (cases_by way cases) (way last) unit ≡ way (case_way cases last unit)
        → (if t then way case.1 else case_way (cases_by way cases) (way last) unit) ≡ way (if t then case.1 else case_way cases last unit)
    by true again = refl
    by false again = again

-- and their units
pub units-by : {A B : Type 0} (way : A → B) (cases : List (List ℕ × A)) → map (λ case. case.0) (cases_by way cases) ≡ map (λ case. case.0) cases
units-by way [] = refl
units-by way (case ∷ cases) = ap (λ units. case.0 ∷ units) (units-by way cases)

pub cases_by-same : {A B : Type 0} (first second : A → B) → ((way : A) → first way ≡ second way) → (cases : List (List ℕ × A))
    → cases_by first cases ≡ cases_by second cases
cases_by-same first second same [] = refl
cases_by-same first second same (case ∷ cases) =
    λ i. (case.0, same case.1 i) ∷ cases_by-same first second same cases i

-- what is so of the ways of cases is so of the others
pub each-cases_by : {A B : Type 0} (W : A → Type 0) (V : B → Type 0) (way : A → B) → ((one : A) → W one → V (way one)) → (cases : List (List ℕ × A))
    → AllByRecursion (λ case. W case.1) cases → AllByRecursion (λ case. V case.1) (cases_by way cases)
each-cases_by W V way f [] h = tt
each-cases_by W V way f (case ∷ cases) h = (f case.1 h.0, each-cases_by W V way f cases h.1)

pub each-cases : {A : Type 0} (W V : A → Type 0) → ((one : A) → W one → V one) → (cases : List (List ℕ × A))
    → AllByRecursion (λ case. W case.1) cases → AllByRecursion (λ case. V case.1) cases
each-cases W V f [] h = tt
each-cases W V f (case ∷ cases) h = (f case.1 h.0, each-cases W V f cases h.1)

-- the block to which a unit goes is one of them
pub case_way-each : (B : ℕ → Type 0) (cases : List (List ℕ × ℕ)) (last unit : ℕ) → AllByRecursion (λ case. B case.1) cases → B last
    → B (case_way cases last unit)
case_way-each B [] last unit h own = own
case_way-each B (case ∷ cases) last unit h own = by (has_unit case.0 unit) (case_way-each B cases last unit h.1 own)
  where
    by : (t : Bool) → B (case_way cases last unit) → B (if t then case.1 else case_way cases last unit)
    by true again = h.0
    by false again = again
