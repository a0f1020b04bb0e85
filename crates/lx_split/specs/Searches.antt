-- Searches of a text.
use Rattle.std.specs.Prelude.{ℕ, Bool, List, [], ◌∷◌, if◌then◌else◌}

-- what is left of the text from the first place on at which the test holds; nothing where it holds nowhere
abbrev pub from_first : (List ℕ → Bool) → List ℕ → List ℕ
from_first test [] = []
from_first test (letter ∷ text) = if test (letter ∷ text) then letter ∷ text else from_first test text
