-- What holds of each of the scanners of a piece.
use Rattle.std.specs.Prelude.{◌≡◌, ℕ, ◌+◌, List, [], ◌∷◌, length}
use Rattle.std.proofs.Common.{sym, subst}
use Rattle.std.specs.List.{AllByRecursion}
use Rattle.lx_base.specs.Spelling.{greatest_unit}
use Rattle.lx_layout.specs.Parts.{EachPart, Given, IsPartOf, Part, given_asked, part_codes}
use Rattle.lx_layout.specs.Pieces.{ArePartsOf, Form, IsFitScanner, Source, given_of}

-- ---- by where they stand

module _ (P Q : Part → (begin first : ℕ) → Type 0) (f : (part : Part) (begin first : ℕ) → P part begin first → Q part begin first) where
  pub parts_map : (begin first : ℕ) (parts : List Part) → EachPart P begin first parts → EachPart Q begin first parts
  parts_map begin first [] h = tt
  parts_map begin first (part ∷ parts) h =
      (f part begin first h.0, parts_map (begin + length (part_codes part begin first)) (first + given_asked part.given) parts h.1)

-- ---- by their scanners

-- the part with what is given of another one
abbrev pub with_given : Part → Given → Part
with_given part given = record { given = given; halting = part.halting; trees = part.trees }

-- what holds of a part with what is given of it holds of the part
pub of_given : (Q : Part → Type 0) (part : Part) (given : Given) → part.given ≡ given → Q (with_given part given) → Q part
of_given Q part given same h = subst (λ other. Q (with_given part other)) (sym same) h

module _ (form : Form) (conds : List (List ℕ)) where
  abbrev pub AreFitScanners : List Source → Type 0
  AreFitScanners scanners = AllByRecursion (IsFitScanner form conds) scanners

  module _ (table : List ℕ) (Q : Part → Type 0) (f : (scanner : Source) (part : Part) → IsFitScanner form conds scanner
      → IsPartOf (greatest_unit form.enc) (given_of form table scanner) part → Q (with_given part (given_of form table scanner))) where
    pub each_part : (scanners : List Source) (parts : List Part) → AreFitScanners scanners → ArePartsOf form table scanners parts → AllByRecursion Q parts
    each_part [] [] fit are = tt
    each_part [] (part ∷ parts) fit are = absurd are
    each_part (scanner ∷ scanners) [] fit are = tt
    each_part (scanner ∷ scanners) (part ∷ parts) fit are = (
      of_given Q part (given_of form table scanner) are.0.is (f scanner part fit.0 are.0),
      each_part scanners parts fit.1 are.1,
    )
