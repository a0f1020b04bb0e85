-- The cases of the switch over conditions are told by the labels of blocks.
use Rattle.std.proofs.Common.{[], ◌+◌, ◌∙◌, ◌∷◌, ◌≡◌, List, None, Option, Some, ap, arith, map, refl, suc, sym, zero, ℕ}
use Rattle.std.specs.List.{AllByRecursion}
use Rattle.lx_base.specs.Names.{AreDistinct, IsNoneOf}
use Rattle.lx_ccode.specs.declared.piece.CodeBlock.{CodeBlock}
use Rattle.lx_ccode.specs.declared.piece.CondCase.{CondCase}
use Rattle.lx_ccode.specs.declared.piece.Piece.{Piece}
use Rattle.lx_ccode.specs.Reading.{conds_from, onto_conds}
use Rattle.lx_ccode.specs.Validity.{IsValid, label_of, labels, onto_labels}

-- the case goes to a block behind this place, which is the start of its condition
abbrev GoesTo : (place : ℕ) → List CodeBlock → CondCase → Type 0
GoesTo place blocks case = (offset : ℕ) × (case.block ≡ place + offset) × (label_of blocks offset ≡ Some case.cond)

-- the conditions of the cases
abbrev conds_of : List CondCase → List (List ℕ)
conds_of cases = map (λ case. case.cond) cases

conds_of-conds_from : (place : ℕ) (blocks : List CodeBlock) → conds_of (conds_from place blocks) ≡ labels blocks
conds_of-conds_from place [] = refl
conds_of-conds_from place (block ∷ blocks) = by block.cond (conds_of-conds_from (suc place) blocks) where
  by : (cond : Option (List ℕ)) → conds_of (conds_from (suc place) blocks) ≡ labels blocks
      → conds_of (onto_conds cond place (conds_from (suc place) blocks)) ≡ onto_labels cond (labels blocks)
  by None rest = rest
  by (Some cond) rest = ap (λ (conds : List (List ℕ)). cond ∷ conds) rest

GoesTo-next : (place : ℕ) (block : CodeBlock) (blocks : List CodeBlock) (cases : List CondCase) → AllByRecursion (GoesTo (suc place) blocks) cases
    → AllByRecursion (GoesTo place (block ∷ blocks)) cases
GoesTo-next place block blocks [] all = tt
GoesTo-next place block blocks (case ∷ cases) all =
    let is : case.block ≡ suc place + all.0.0 = all.0.1 in
    ((suc all.0.0, omega (arith, is), all.0.2), GoesTo-next place block blocks cases all.1)

GoesTo-conds_from : (place : ℕ) (blocks : List CodeBlock) → AllByRecursion (GoesTo place blocks) (conds_from place blocks)
GoesTo-conds_from place [] = tt
GoesTo-conds_from place (block ∷ blocks) =
    by block.cond refl (GoesTo-next place block blocks (conds_from (suc place) blocks) (GoesTo-conds_from (suc place) blocks)) where
      by : (cond : Option (List ℕ)) → block.cond ≡ cond → AllByRecursion (GoesTo place (block ∷ blocks)) (conds_from (suc place) blocks)
          → AllByRecursion (GoesTo place (block ∷ blocks)) (onto_conds cond place (conds_from (suc place) blocks))
      by None is others = others
      by (Some cond) is others = ((0, omega arith, is), others)

-- the condition of a block is one of the labels
not_label_of : (cond : List ℕ) (blocks : List CodeBlock) (offset : ℕ) → IsNoneOf cond (labels blocks) → label_of blocks offset ≡ Some cond → ⊥
not_label_of cond [] offset none is = cc
not_label_of cond (block ∷ blocks) zero none is = by block.cond refl where
  by : (own : Option (List ℕ)) → block.cond ≡ own → ⊥
  by None here = cc
  by (Some own) here = (rw here at none).0 (cc (here, is))
not_label_of cond (block ∷ blocks) (suc offset) none is = not_label_of cond blocks offset (by block.cond refl) is where
  by : (own : Option (List ℕ)) → block.cond ≡ own → IsNoneOf cond (labels blocks)
  by None here = rw here at none
  by (Some own) here = (rw here at none).1

-- where no two labels are the same, a condition is that of one block
label_of-unique : (cond : List ℕ) (blocks : List CodeBlock) (one other : ℕ) → AreDistinct (labels blocks) → label_of blocks one ≡ Some cond → label_of blocks other ≡ Some cond
    → one ≡ other
label_of-unique cond [] one other distinct is also = absurd (cc is)
label_of-unique cond (block ∷ blocks) zero zero distinct is also = refl
label_of-unique cond (block ∷ blocks) zero (suc other) distinct is also =
    absurd (not_label_of cond blocks other (rw is at distinct).0 also)
label_of-unique cond (block ∷ blocks) (suc one) zero distinct is also =
    absurd (not_label_of cond blocks one (rw also at distinct).0 is)
label_of-unique cond (block ∷ blocks) (suc one) (suc other) distinct is also = ap suc (label_of-unique cond blocks one other (by block.cond refl) is also) where
  by : (own : Option (List ℕ)) → block.cond ≡ own → AreDistinct (labels blocks)
  by None here = rw here at distinct
  by (Some own) here = (rw here at distinct).1

-- cases that name the same conditions, each at its block, are the same
cases-same : (blocks : List CodeBlock) (cases others : List CondCase) → AreDistinct (labels blocks) → conds_of cases ≡ conds_of others
    → AllByRecursion (λ case. label_of blocks case.block ≡ Some case.cond) cases → AllByRecursion (λ case. label_of blocks case.block ≡ Some case.cond) others → cases ≡ others
cases-same blocks [] [] distinct same all also = refl
cases-same blocks [] (other ∷ others) distinct same all also = absurd (cc same)
cases-same blocks (case ∷ cases) [] distinct same all also = absurd (cc same)
cases-same blocks (case ∷ cases) (other ∷ others) distinct same all also =
    let conds : case.cond ≡ other.cond = cc same in
    let rest : conds_of cases ≡ conds_of others = cc same in
    let place : case.block ≡ other.block = label_of-unique other.cond blocks case.block other.block distinct (all.0 ∙ ap Some conds) also.0 in
    λ i. record { cond = conds i; block = place i } ∷ cases-same blocks cases others distinct rest all.1 also.1 i

GoesTo-start : (blocks : List CodeBlock) (cases : List CondCase) → AllByRecursion (GoesTo 0 blocks) cases → AllByRecursion (λ case. label_of blocks case.block ≡ Some case.cond) cases
GoesTo-start blocks [] all = tt
GoesTo-start blocks (case ∷ cases) all =
    let is : case.block ≡ 0 + all.0.0 = all.0.1 in
    let place : case.block ≡ all.0.0 = omega (arith, is) in
    (ap (label_of blocks) place ∙ all.0.2, GoesTo-start blocks cases all.1)

pub conds_from-valid : (piece : Piece) → IsValid piece → conds_from 0 piece.blocks ≡ piece.conds
conds_from-valid piece valid =
    cases-same piece.blocks (conds_from 0 piece.blocks) piece.conds valid.conds_differ (conds_of-conds_from 0 piece.blocks ∙ sym valid.conds)
    (GoesTo-start piece.blocks (conds_from 0 piece.blocks) (GoesTo-conds_from 0 piece.blocks)) valid.cond_switch
