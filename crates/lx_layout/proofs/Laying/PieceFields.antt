-- What a piece tells of its blocks.
use Rattle.std.specs.Prelude.{◌≡◌, ℕ, suc, Bool, true, false, not, List, [], ◌∷◌, map, Option, Some, None, if◌then◌else◌, refl}
use Rattle.std.proofs.Common.{ap}
use Rattle.lx_ccode.specs.Validity.{labels}
use Rattle.lx_ccode.specs.declared.piece.CodeBlock.{CodeBlock}
use Rattle.lx_ccode.specs.declared.piece.CondCase.{CondCase}
use Rattle.lx_layout.specs.Switches.{cond_cases, onto_conds}

pub declares-not : (stores : Bool) → not stores ≡ (if stores then false else true)
declares-not true = refl
declares-not false = refl

-- the cases of conditions have those at which scanners begin
pub cases-labels : (place : ℕ) (blocks : List CodeBlock) → map (λ (case : CondCase). case.cond) (cond_cases place blocks) ≡ labels blocks
cases-labels place [] = refl
cases-labels place (block ∷ blocks) = by block.cond (cases-labels (suc place) blocks)
  where
    by : (cond : Option (List ℕ)) → map (λ (case : CondCase). case.cond) (cond_cases (suc place) blocks) ≡ labels blocks
        → map (λ (case : CondCase). case.cond) (onto_conds cond place (cond_cases (suc place) blocks))
        ≡ labels (record { cond = cond; stmts = block.stmts } ∷ blocks)
    by None again = again
    by (Some cond) again = ap (λ l. cond ∷ l) again
