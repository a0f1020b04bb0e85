-- The words of a list, one by one.
use Rattle.std.proofs.Common.{◌≡◌, ℕ, zero, suc, ◌+◌, ◌-◌, ◌≤◌, Bool, true, false, List, [], ◌∷◌, ◌++◌, take, drop, refl, sym, ap, ◌∙◌, arith, append-nil}
use Rattle.std.specs.Prelude.{if◌then◌else◌}
use Rattle.lx_forms.specs.Lexemes.{Lexeme, nth_lexeme, sort_at}
use Rattle.lx_rules.specs.Lists.{is_comma, words_of}

-- the word that a token is
abbrev word_in : Lexeme → List (List ℕ)
word_in lexeme = if is_comma (sort_at lexeme) then [] else lexeme.text ∷ []

words_snoc : (list : List Lexeme) (count : ℕ) → words_of (take (suc count) list) ≡ words_of (take count list) ++ word_in (nth_lexeme list count)
words_snoc [] zero = refl
words_snoc [] (suc count) = refl
words_snoc (lexeme ∷ list) zero = refl
words_snoc (lexeme ∷ list) (suc count) = at (is_comma (sort_at lexeme)) (words_snoc list count)
  where
    at : (b : Bool) → words_of (take (suc count) list) ≡ words_of (take count list) ++ word_in (nth_lexeme list count)
        → (if b then words_of (take (suc count) list) else lexeme.text ∷ words_of (take (suc count) list))
        ≡ (if b then words_of (take count list) else lexeme.text ∷ words_of (take count list)) ++ word_in (nth_lexeme list count)
    at true later = later
    at false later = ap (λ l. lexeme.text ∷ l) later

nth-drop : (list : List Lexeme) (first count : ℕ) → nth_lexeme (drop first list) count ≡ nth_lexeme list (first + count)
nth-drop list zero count = let same : count ≡ 0 + count = omega arith in ap (nth_lexeme list) same
nth-drop [] (suc first) zero = refl
nth-drop [] (suc first) (suc count) = refl
nth-drop (lexeme ∷ list) (suc first) count =
    let same : suc (first + count) ≡ suc first + count = omega arith in nth-drop list first count ∙ ap (nth_lexeme (lexeme ∷ list)) same

module _ (list : List Lexeme) (first place : ℕ) (lexeme : Lexeme) (from : suc first ≤ place) (is : lexeme ≡ nth_lexeme list place) where
  one_more : words_of (take (place + 1 - suc first) (drop (suc first) list)) ≡ words_of (take (place - suc first) (drop (suc first) list)) ++ word_in lexeme
  one_more =
      let next : place + 1 - suc first ≡ suc (place - suc first) = omega (arith, from) in
      let here : suc first + (place - suc first) ≡ place = omega (arith, from) in
      ap (λ n. words_of (take n (drop (suc first) list))) next ∙ words_snoc (drop (suc first) list) (place - suc first)
      ∙ ap (λ (l : Lexeme). words_of (take (place - suc first) (drop (suc first) list)) ++ word_in l)
      (nth-drop list (suc first) (place - suc first) ∙ ap (nth_lexeme list) here ∙ sym is)

  -- a comma is passed over
  pub comma_passed : is_comma (sort_at lexeme) ≡ true
      → words_of (take (place + 1 - suc first) (drop (suc first) list)) ≡ words_of (take (place - suc first) (drop (suc first) list))
  comma_passed comma =
      one_more ∙ ap (λ (b : Bool). words_of (take (place - suc first) (drop (suc first) list)) ++ (if b then [] else lexeme.text ∷ [])) comma
      ∙ append-nil (words_of (take (place - suc first) (drop (suc first) list)))

  -- another word is taken
  pub word_taken : is_comma (sort_at lexeme) ≡ false
      → words_of (take (place + 1 - suc first) (drop (suc first) list)) ≡ words_of (take (place - suc first) (drop (suc first) list)) ++ lexeme.text ∷ []
  word_taken other =
      one_more ∙ ap (λ (b : Bool). words_of (take (place - suc first) (drop (suc first) list)) ++ (if b then [] else lexeme.text ∷ [])) other
