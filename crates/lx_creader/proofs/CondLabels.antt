-- Words that begin as two words do, one behind the other, and the conditions that labels tell.
use Rattle.std.proofs.Common.{◌≡◌, ◌<◌, ◌≤◌, ◌+◌, ◌-◌, ◌∷◌, ◌++◌, ◌∙◌, ℕ, suc, Bool, true, false, List, [], Option, None, Some, map, take, drop, length, refl, sym, ap, subst, arith, inl, inr}
use Rattle.std.specs.Prelude.{◌==◌, if◌then◌else◌}
use Rattle.std.proofs.lemmas.Bool.Decides.{eqb_tells}
use Rattle.std.proofs.lemmas.Grind.{common_steps}
use Rattle.lx_base.specs.Letters.{begins_with}
use Rattle.lx_ccode.specs.declared.piece.CodeBlock.{CodeBlock}
use Rattle.lx_ccode.specs.declared.piece.CondCase.{CondCase}
use Rattle.lx_ccode.specs.Reading.{conds_from, onto_conds}
use Rattle.lx_creader.specs.Fitted.{fitted_block, fitted_cond, long}

-- ---- words that begin as two words do

same_comm : (a b : ℕ) → (a == b) ≡ (b == a)
same_comm a b = elim (eqb_tells a b) [
  | inl same ↦ subst (λ (n : ℕ). (a == n) ≡ (n == a)) same.1 refl
  | inr other ↦ other.0 ∙ elim (eqb_tells b a) [
    | inl same ↦ absurd (other.1 (sym same.1))
    | inr differ ↦ sym differ.0
  ]
]

-- a front that ends within the first word
pub begins_with-within : (front word behind : List ℕ) → length front ≤ length word → begins_with front (word ++ behind) ≡ begins_with front word
begins_with-within [] word behind short = refl
begins_with-within (letter ∷ front) [] behind short = absurd (omega (arith, short))
begins_with-within (letter ∷ front) (other ∷ word) behind short =
    ap (λ (rest : Bool). if letter == other then rest else false) (begins_with-within front word behind (omega (arith, short)))

-- a front that goes on behind the first word
begins_with-past : (front word behind : List ℕ) → length word ≤ length front
    → begins_with front (word ++ behind) ≡ (if begins_with word front then begins_with (drop (length word) front) behind else false)
begins_with-past front [] behind long = refl
begins_with-past [] (other ∷ word) behind long = absurd (omega (arith, long))
begins_with-past (letter ∷ front) (other ∷ word) behind long =
    ap (λ (same : Bool). if same then begins_with front (word ++ behind) else false) (same_comm letter other)
    ∙ both (other == letter) (begins_with-past front word behind (omega (arith, long)))
  where
    both : (same : Bool) → begins_with front (word ++ behind) ≡ (if begins_with word front then begins_with (drop (length word) front) behind else false)
        → (if same then begins_with front (word ++ behind) else false)
        ≡ (if (if same then begins_with word front else false) then begins_with (drop (length word) front) behind else false)
    both true rest = rest
    both false rest = refl

all_taken : (word : List ℕ) (place : ℕ) → drop place word ≡ take (length word - place) (drop place word)
all_taken word place = grind (arith, common_steps)

pub begins_with-both : (front word behind : List ℕ) → length word < length front → begins_with word front ≡ true
    → begins_with front (word ++ behind) ≡ begins_with (take (length front - length word) (drop (length word) front)) behind
begins_with-both front word behind long is =
    begins_with-past front word behind (omega (arith, long)) ∙ ap (λ (same : Bool). if same then begins_with (drop (length word) front) behind else false) is
    ∙ ap (λ (rest : List ℕ). begins_with rest behind) (all_taken front (length word))

pub begins_with-other : (front word behind : List ℕ) → length word < length front → begins_with word front ≡ false → begins_with front (word ++ behind) ≡ false
begins_with-other front word behind long is =
    begins_with-past front word behind (omega (arith, long)) ∙ ap (λ (same : Bool). if same then begins_with (drop (length word) front) behind else false) is

-- ---- the conditions that blocks are starts of

onto_conds-fitted : (cond : Option (List ℕ)) (place : ℕ) (conds : List CondCase) → place ≤ 18446744073709551615
    → onto_conds cond place (map fitted_cond conds) ≡ map fitted_cond (onto_conds cond place conds)
onto_conds-fitted None place conds small = refl
onto_conds-fitted (Some cond) place conds small =
    let fits : place ≡ long place = omega (arith, small) in
    λ i. record { cond = cond; block = fits i } ∷ map fitted_cond conds

conds_from-fitted : (place : ℕ) (blocks : List CodeBlock) → place + length blocks ≤ 18446744073709551615
    → conds_from place (map fitted_block blocks) ≡ map fitted_cond (conds_from place blocks)
conds_from-fitted place [] small = refl
conds_from-fitted place (block ∷ blocks) small =
    ap (onto_conds block.cond place) (conds_from-fitted (suc place) blocks (omega (arith, small)))
    ∙ onto_conds-fitted block.cond place (conds_from (suc place) blocks) (omega (arith, small))

-- those of the labels, or those that were read
pub conds_fitted : (three : Bool) (blocks : List CodeBlock) (read conds : List CondCase) → length blocks ≤ 18446744073709551615 → read ≡ map fitted_cond conds
    → (if three then conds_from 0 (map fitted_block blocks) else read) ≡ map fitted_cond (if three then conds_from 0 blocks else conds)
conds_fitted true blocks read conds small is = conds_from-fitted 0 blocks (omega (arith, small))
conds_fitted false blocks read conds small is = is
