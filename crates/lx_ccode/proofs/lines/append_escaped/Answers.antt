use Rattle.std.proofs.Common.{◌≡◌, ◌++◌, ◌∷◌, [], Bool, List, ℕ, false, refl, true}
use Rattle.std.specs.Prelude.{◌==◌, ◌||◌, if◌then◌else◌}
use Rattle.lx_ccode.specs.Text.{escaped}
use Rattle.lx_ccode.proofs.Tails.{appended_word}
use Rattle.lx_ccode.proofs.lines.append_escaped.Goals as goal

letter_then : (slash : Bool) (letter : ℕ) (rest : List ℕ)
    → (if slash then 92 ∷ letter ∷ rest else letter ∷ rest) ≡ (if slash then 92 ∷ letter ∷ [] else letter ∷ []) ++ rest
letter_then true letter rest = refl
letter_then false letter rest = refl

pub loop-letter-preserved : goal.loop-letter-preserved
loop-letter-preserved c =
    appended_word (λ (letter : ℕ). escaped (letter ∷ [])) escaped c.args.file.now c.loop-letter.letter-index 0 _ _ _
    (λ letter rest. letter_then ((letter == 34) || (letter == 92)) letter (escaped rest))
    c.loop-letter-test.true c.in_ok-append_letter.ensures c.loop-letter.invariant
