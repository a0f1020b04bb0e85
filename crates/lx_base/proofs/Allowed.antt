-- The tests of a word by which spellings are allowed.
use Rattle.std.proofs.Common.{◌≡◌, ◌↔◌, ℕ, Bool, true, false, List, [], ◌∷◌, refl, sym, arith}
use Rattle.std.specs.Prelude.{IsTrue, ◌==◌, ◌&&◌, ◌||◌}
use Rattle.std.proofs.lemmas.Bool.{false≢true}
use Rattle.lx_base.specs.Allowed.{is_identifier, is_spelling, is_words}
use Rattle.lx_base.specs.Letters.{IsIdentifier, IsSpelling, begins_identifier, each_letter, is_in_identifier, is_in_spelling}
use Rattle.lx_base.specs.Names.{IsWords}
use Rattle.lx_base.proofs.Deciding.{EachLetter-decides}

both : {E : Type 0} (first others : Bool) → IsTrue others ↔ E → IsTrue (first && others) ↔ ((first ≡ true) × E)
both true others same = (λ e. (refl, same.0 e), λ all. same.1 all.1)
both false others same = (λ e. absurd (false≢true e), λ all. absurd (false≢true all.0))

pub is_identifier-decides : (word : List ℕ) → IsTrue (is_identifier word) ↔ IsIdentifier word
is_identifier-decides [] = (λ e. absurd (false≢true e), λ none. absurd none)
is_identifier-decides (letter ∷ word) =
    both (begins_identifier letter) (each_letter is_in_identifier word) (EachLetter-decides is_in_identifier word)

pub is_spelling-decides : (word : List ℕ) → IsTrue (is_spelling word) ↔ IsSpelling word
is_spelling-decides [] = (λ e. absurd (false≢true e), λ is. absurd (is.0 refl))
is_spelling-decides (letter ∷ word) =
    let decides = EachLetter-decides is_in_spelling (letter ∷ word) in (
      λ e. (λ none. absurd (omega (arith, none)), decides.0 e),
      λ is. decides.1 is.1,
    )

pub is_words-decides : (after_space : Bool) (word : List ℕ) → IsTrue (is_words after_space word) ↔ IsWords after_space word
is_words-decides true [] = (λ e. absurd (false≢true e), λ is. absurd (false≢true (sym is)))
is_words-decides false [] = (λ e. refl, λ is. refl)
is_words-decides true (letter ∷ word) = both (is_in_identifier letter) (is_words false word) (is_words-decides false word)
is_words-decides false (letter ∷ word) =
    both (is_in_identifier letter || (letter == 32)) (is_words (letter == 32) word) (is_words-decides (letter == 32) word)
