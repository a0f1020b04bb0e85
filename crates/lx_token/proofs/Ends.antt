-- What follows a token is an end of the text, and a shorter one.
use Rattle.std.proofs.Common.{◌≤◌, arith, ◌≡◌, ℕ, zero, suc, ◌-◌, Bool, true, false, cond, ◌==◌, ◌||◌, ◌⊎◌, inl, inr, ⊎_elim, List, [], ◌∷◌, length, drop, codes, Option, Some, None, IfSome, option_and_then, unwrap_or, is_some, refl, sym, subst}
use Rattle.lx_base.specs.Letters.{begins_identifier, is_in_identifier, is_digit, begins_with, after_letters}
use Rattle.lx_token.specs.Blanks.{is_blank, after_line, after_closing, after_comment, after_blank}
use Rattle.lx_token.specs.Words.{after_letter, after_name, is_in_word, begins_word, after_words, after_config, after_numeral, after_number, after_tag}
use Rattle.lx_token.specs.Quoted.{is_escape, after_close, after_quoted}
use Rattle.lx_token.specs.Braces.{after_first_bound, after_bounds, after_literal, begins_comment, after_unquoted, after_piece, after_braces, after_code}
use Rattle.lx_token.specs.Signs.{is_sign, after_sign}
use Rattle.lx_token.specs.Rows.{after_token}
use Rattle.lx_token.specs.declared.kinds.TokenKind.{TokenKind}
use Rattle.lx_token.specs.declared.kinds.TokenKind.TheVariants.{Name, Config, Number, Str, IStr, Class, STag, MTag, Bounds, Code, Signs}

-- the rest is an end of the text, or all of it
abbrev pub IsEnd : (text rest : List ℕ) → Type 0
IsEnd [] rest = rest ≡ []
IsEnd (letter ∷ text) rest = (rest ≡ letter ∷ text) ⊎ IsEnd text rest

-- the rest is an end of the text, and not all of it
abbrev pub IsShorterEnd : (text rest : List ℕ) → Type 0
IsShorterEnd [] rest = ⊥
IsShorterEnd (letter ∷ text) rest = IsEnd text rest

-- what is left, if something is, is a shorter end
abbrev pub LeavesEnd : List ℕ → Option (List ℕ) → Type 0
LeavesEnd text rest = IfSome rest (IsShorterEnd text)

pub either : {A : Type 0} (P : A → Type 0) (b : Bool) (x y : A) → P x → P y → P (cond b x y)
either P true x y px py = px
either P false x y px py = py

pub IsEnd-self : (text : List ℕ) → IsEnd text text
IsEnd-self [] = refl
IsEnd-self (letter ∷ text) = inl refl

pub IsEnd-drop : (n : ℕ) (text : List ℕ) → IsEnd text (drop n text)
IsEnd-drop zero text = IsEnd-self text
IsEnd-drop (suc n) [] = refl
IsEnd-drop (suc n) (letter ∷ text) = inr (IsEnd-drop n text)

pub IsEnd-trans : (a b c : List ℕ) → IsEnd a b → IsEnd b c → IsEnd a c
IsEnd-trans [] b c first second = subst (λ l. IsEnd l c) first second
IsEnd-trans (letter ∷ a) b c first second =
    ⊎_elim (λ same. subst (λ l. IsEnd l c) same second) (λ later. inr (IsEnd-trans a b c later second)) first

pub IsShorterEnd-end : (a b : List ℕ) → IsShorterEnd a b → IsEnd a b
IsShorterEnd-end [] b h = absurd h
IsShorterEnd-end (letter ∷ a) b h = inr h

-- behind a shorter end, an end
shorter_then : (a b c : List ℕ) → IsShorterEnd a b → IsEnd b c → IsShorterEnd a c
shorter_then [] b c h g = absurd h
shorter_then (letter ∷ a) b c h g = IsEnd-trans a b c h g

-- behind one letter, a shorter end
pub LeavesEnd-later : (letter : ℕ) (text : List ℕ) (rest : Option (List ℕ)) → LeavesEnd text rest → LeavesEnd (letter ∷ text) rest
LeavesEnd-later letter text None h = tt
LeavesEnd-later letter text (Some rest) h = IsShorterEnd-end text rest h

-- behind an end, a shorter end
LeavesEnd-behind : (letter : ℕ) (text middle : List ℕ) (rest : Option (List ℕ)) → IsEnd text middle → LeavesEnd middle rest → LeavesEnd (letter ∷ text) rest
LeavesEnd-behind letter text middle None g h = tt
LeavesEnd-behind letter text middle (Some rest) g h = IsEnd-trans text middle rest g (IsShorterEnd-end middle rest h)

LeavesEnd-chain : (text : List ℕ) (next : List ℕ → Option (List ℕ)) (first : Option (List ℕ)) → LeavesEnd text first →
    ((rest : List ℕ) → LeavesEnd rest (next rest)) → LeavesEnd text (option_and_then next first)
LeavesEnd-chain text next None h g = tt
LeavesEnd-chain text next (Some first) h g = chained text first (next first) h (g first)
  where
    chained : (text first : List ℕ) (rest : Option (List ℕ)) → IsShorterEnd text first → LeavesEnd first rest → LeavesEnd text rest
    chained text first None h g = tt
    chained text first (Some rest) h g = shorter_then text first rest h (IsShorterEnd-end first rest g)

after_line-end : (text : List ℕ) → IsEnd text (after_line text)
after_line-end [] = refl
after_line-end (letter ∷ text) =
    either (IsEnd (letter ∷ text)) (letter == 10) (letter ∷ text) (after_line text) (inl refl) (inr (after_line-end text))

pub after_closing-end : (text : List ℕ) → LeavesEnd text (after_closing text)
after_closing-end [] = tt
after_closing-end (letter ∷ text) =
    either (LeavesEnd (letter ∷ text)) (begins_with (codes "*/") (letter ∷ text)) (Some (drop 2 (letter ∷ text))) (after_closing text)
    (IsEnd-drop 1 text) (LeavesEnd-later letter text (after_closing text) (after_closing-end text))

after_comment-end : (text : List ℕ) → LeavesEnd text (after_comment text)
after_comment-end [] = tt
after_comment-end (letter ∷ text) =
    either (LeavesEnd (letter ∷ text)) (begins_with (codes "//") (letter ∷ text)) (Some (after_line (drop 2 (letter ∷ text))))
    (cond (begins_with (codes "/*") (letter ∷ text)) (after_closing (drop 2 (letter ∷ text))) None)
    (IsEnd-trans text (drop 1 text) (after_line (drop 1 text)) (IsEnd-drop 1 text) (after_line-end (drop 1 text)))
    (either (LeavesEnd (letter ∷ text)) (begins_with (codes "/*") (letter ∷ text)) (after_closing (drop 2 (letter ∷ text))) None
    (LeavesEnd-behind letter text (drop 1 text) (after_closing (drop 1 text)) (IsEnd-drop 1 text) (after_closing-end (drop 1 text))) tt)

pub after_blank-end : (text : List ℕ) → LeavesEnd text (after_blank text)
after_blank-end [] = tt
after_blank-end (letter ∷ text) =
    either (LeavesEnd (letter ∷ text)) (is_blank letter) (Some text) (after_comment (letter ∷ text)) (IsEnd-self text)
    (after_comment-end (letter ∷ text))

after_letters-end : (test : ℕ → Bool) (text : List ℕ) → IsEnd text (after_letters test text)
after_letters-end test [] = refl
after_letters-end test (letter ∷ text) =
    either (IsEnd (letter ∷ text)) (test letter) (after_letters test text) (letter ∷ text) (inr (after_letters-end test text)) (inl refl)

after_letter-end : (wanted : ℕ) (text : List ℕ) → LeavesEnd text (after_letter wanted text)
after_letter-end wanted [] = tt
after_letter-end wanted (letter ∷ text) =
    either (LeavesEnd (letter ∷ text)) (letter == wanted) (Some text) None (IsEnd-self text) tt

after_name-end : (text : List ℕ) → LeavesEnd text (after_name text)
after_name-end [] = tt
after_name-end (letter ∷ text) =
    either (LeavesEnd (letter ∷ text)) (begins_identifier letter) (Some (after_letters is_in_identifier text)) None
    (after_letters-end is_in_identifier text) tt

after_words-end : (text : List ℕ) → IsEnd text (after_words text)
after_words-end [] = refl
after_words-end (letter ∷ text) =
    let P = IsEnd (letter ∷ text) in
    either P (is_in_word letter) (after_words text) (cond (letter == 58) (cond (begins_word text) (after_words text) (letter ∷ text)) (letter ∷ text))
    (inr (after_words-end text))
    (either P (letter == 58) (cond (begins_word text) (after_words text) (letter ∷ text)) (letter ∷ text)
    (either P (begins_word text) (after_words text) (letter ∷ text) (inr (after_words-end text)) (inl refl)) (inl refl))

pub after_words-length : (text : List ℕ) → length (after_words text) ≤ length text
after_words-length [] = omega arith
after_words-length (letter ∷ text) =
    let more = after_words-length text in
    let P : List ℕ → Type 0 = λ l. length l ≤ length (letter ∷ text) in
    either P (is_in_word letter) (after_words text) (cond (letter == 58) (cond (begins_word text) (after_words text) (letter ∷ text)) (letter ∷ text))
    (omega arith)
    (either P (letter == 58) (cond (begins_word text) (after_words text) (letter ∷ text)) (letter ∷ text)
    (either P (begins_word text) (after_words text) (letter ∷ text) (omega arith) (omega arith)) (omega arith))

after_config-end : (text : List ℕ) → LeavesEnd text (after_config text)
after_config-end [] = tt
after_config-end (letter ∷ text) =
    let P = LeavesEnd (letter ∷ text) in
    let tail = drop 5 (letter ∷ text) in
    either P (begins_with (codes "re2c:") (letter ∷ text)) (cond (begins_word tail) (Some (after_words tail)) None) None
    (either P (begins_word tail) (Some (after_words tail)) None
    (IsEnd-trans text (drop 4 text) (after_words (drop 4 text)) (IsEnd-drop 4 text) (after_words-end (drop 4 text))) tt) tt

after_numeral-end : (text : List ℕ) → LeavesEnd text (after_numeral text)
after_numeral-end [] = tt
after_numeral-end (letter ∷ text) =
    either (LeavesEnd (letter ∷ text)) (is_digit letter) (Some (after_letters is_digit text)) None (after_letters-end is_digit text) tt

after_number-end : (text : List ℕ) → LeavesEnd text (after_number text)
after_number-end [] = tt
after_number-end (letter ∷ text) =
    either (LeavesEnd (letter ∷ text)) (letter == 45) (after_numeral text) (after_numeral (letter ∷ text))
    (LeavesEnd-later letter text (after_numeral text) (after_numeral-end text)) (after_numeral-end (letter ∷ text))

after_tag-end : (mark : ℕ) (text : List ℕ) → LeavesEnd text (after_tag mark text)
after_tag-end mark [] = tt
after_tag-end mark (letter ∷ text) =
    either (LeavesEnd (letter ∷ text)) (letter == mark) (after_name text) None
    (LeavesEnd-later letter text (after_name text) (after_name-end text)) tt

after_close-end : (close : ℕ) (escaped : Bool) (text : List ℕ) → LeavesEnd text (after_close close escaped text)
after_close-end close escaped [] = tt
after_close-end close true (letter ∷ text) =
    either (LeavesEnd (letter ∷ text)) (is_escape letter text) (after_close close false text) None
    (LeavesEnd-later letter text (after_close close false text) (after_close-end close false text)) tt
after_close-end close false (letter ∷ text) =
    let P = LeavesEnd (letter ∷ text) in
    let more = after_close close (letter == 92) text in
    either P (letter == close) (Some text) (cond (letter == 10) None more) (IsEnd-self text)
    (either P (letter == 10) None more tt (LeavesEnd-later letter text more (after_close-end close (letter == 92) text)))

after_quoted-end : (opener close : ℕ) (text : List ℕ) → LeavesEnd text (after_quoted opener close text)
after_quoted-end opener close [] = tt
after_quoted-end opener close (letter ∷ text) =
    either (LeavesEnd (letter ∷ text)) (letter == opener) (after_close close false text) None
    (LeavesEnd-later letter text (after_close close false text) (after_close-end close false text)) tt

after_first_bound-end : (text : List ℕ) → LeavesEnd text (after_first_bound text)
after_first_bound-end [] = tt
after_first_bound-end (letter ∷ text) =
    let P = LeavesEnd (letter ∷ text) in
    let digits = after_letters is_digit text in
    either P (letter == 125) (Some text) (cond (letter == 44) (after_letter 125 digits) None) (IsEnd-self text)
    (either P (letter == 44) (after_letter 125 digits) None
    (LeavesEnd-behind letter text digits (after_letter 125 digits) (after_letters-end is_digit text) (after_letter-end 125 digits)) tt)

pub after_bounds-end : (text : List ℕ) → LeavesEnd text (after_bounds text)
after_bounds-end [] = tt
after_bounds-end (letter ∷ text) =
    let more = option_and_then after_first_bound (after_numeral text) in
    either (LeavesEnd (letter ∷ text)) (letter == 123) more None
    (LeavesEnd-later letter text more
    (LeavesEnd-chain text after_first_bound (after_numeral text) (after_numeral-end text) after_first_bound-end)) tt

after_literal-end : (quote : ℕ) (escaped : Bool) (text : List ℕ) → LeavesEnd text (after_literal quote escaped text)
after_literal-end quote escaped [] = tt
after_literal-end quote true (letter ∷ text) =
    either (LeavesEnd (letter ∷ text)) (letter == 10) None (after_literal quote false text) tt
    (LeavesEnd-later letter text (after_literal quote false text) (after_literal-end quote false text))
after_literal-end quote false (letter ∷ text) =
    let P = LeavesEnd (letter ∷ text) in
    let more = after_literal quote (letter == 92) text in
    either P (letter == 10) None (cond (letter == quote) (Some text) more) tt
    (either P (letter == quote) (Some text) more (IsEnd-self text)
    (LeavesEnd-later letter text more (after_literal-end quote (letter == 92) text)))

-- what is left, or else the whole text, is an end
pub end_or_self : (text : List ℕ) (rest : Option (List ℕ)) → LeavesEnd text rest → IsEnd text (unwrap_or rest text)
end_or_self text None h = IsEnd-self text
end_or_self text (Some rest) h = IsShorterEnd-end text rest h

pub behind_quote-end : (quote : ℕ) (text : List ℕ) → IsEnd text (unwrap_or (after_literal quote false text) text)
behind_quote-end quote text = end_or_self text (after_literal quote false text) (after_literal-end quote false text)

pub IsEnd-behind_quote : (quote : ℕ) (text rest : List ℕ) → rest ≡ unwrap_or (after_literal quote false text) text → IsEnd text rest
IsEnd-behind_quote quote text rest is = subst (λ l. IsEnd text l) (sym is) (behind_quote-end quote text)

after_unquoted-end : (text : List ℕ) → LeavesEnd text (after_unquoted text)
after_unquoted-end [] = tt
after_unquoted-end (letter ∷ text) =
    either (LeavesEnd (letter ∷ text)) (begins_comment (letter ∷ text)) (after_comment (letter ∷ text)) (Some text)
    (after_comment-end (letter ∷ text)) (IsEnd-self text)

pub IsEnd-after_unquoted : (text rest : List ℕ) → after_unquoted text ≡ Some rest → IsEnd text rest
IsEnd-after_unquoted text rest is =
    let P : Option (List ℕ) → Type 0 = λ o. LeavesEnd text o in IsShorterEnd-end text rest (subst P is (after_unquoted-end text))

pub after_piece-end : (text : List ℕ) → LeavesEnd text (after_piece text)
after_piece-end [] = tt
after_piece-end (letter ∷ text) =
    either (LeavesEnd (letter ∷ text)) ((letter == 34) || (letter == 39)) (Some (unwrap_or (after_literal letter false text) text))
    (after_unquoted (letter ∷ text)) (behind_quote-end letter text) (after_unquoted-end (letter ∷ text))

after_braces-end : (steps depth : ℕ) (text : List ℕ) → LeavesEnd text (after_braces steps depth text)
after_braces-end zero depth text = tt
after_braces-end (suc steps) depth [] = tt
after_braces-end (suc steps) depth (letter ∷ text) =
    let P = LeavesEnd (letter ∷ text) in
    let deeper = after_braces steps (suc depth) text in
    let higher = after_braces steps (depth - 1) text in
    let closed = cond (depth == 0) (Some text) higher in
    let past = option_and_then (after_braces steps depth) (after_piece (letter ∷ text)) in
    either P (letter == 123) deeper (cond (letter == 125) closed past)
    (LeavesEnd-later letter text deeper (after_braces-end steps (suc depth) text))
    (either P (letter == 125) closed past
    (either P (depth == 0) (Some text) higher (IsEnd-self text)
    (LeavesEnd-later letter text higher (after_braces-end steps (depth - 1) text)))
    (LeavesEnd-chain (letter ∷ text) (after_braces steps depth) (after_piece (letter ∷ text)) (after_piece-end (letter ∷ text))
    (λ rest. after_braces-end steps depth rest)))

pub after_code-end : (text : List ℕ) → LeavesEnd text (after_code text)
after_code-end [] = tt
after_code-end (letter ∷ text) =
    let P = LeavesEnd (letter ∷ text) in
    let bounds = is_some (after_bounds (letter ∷ text)) in
    let inner = after_braces (length text) 0 text in
    either P (letter == 123) (cond bounds None inner) None
    (either P bounds None inner tt (LeavesEnd-later letter text inner (after_braces-end (length text) 0 text))) tt

after_sign-end : (text : List ℕ) → LeavesEnd text (after_sign text)
after_sign-end [] = tt
after_sign-end (letter ∷ text) =
    let P = LeavesEnd (letter ∷ text) in
    let three = begins_with (codes ":=>") (letter ∷ text) in
    let two = begins_with (codes "=>") (letter ∷ text) in
    let comment = begins_with (codes "/*") (letter ∷ text) in
    let one = cond (is_sign letter) (Some text) None in
    either P three (Some (drop 3 (letter ∷ text))) (cond two (Some (drop 2 (letter ∷ text))) (cond comment None one)) (IsEnd-drop 2 text)
    (either P two (Some (drop 2 (letter ∷ text))) (cond comment None one) (IsEnd-drop 1 text)
    (either P comment None one tt (either P (is_sign letter) (Some text) None (IsEnd-self text) tt)))

pub after_token-end : (kind : TokenKind) (text : List ℕ) → LeavesEnd text (after_token kind text)
after_token-end Name text = after_name-end text
after_token-end Config text = after_config-end text
after_token-end Number text = after_number-end text
after_token-end Str text = after_quoted-end 34 34 text
after_token-end IStr text = after_quoted-end 39 39 text
after_token-end Class text = after_quoted-end 91 93 text
after_token-end STag text = after_tag-end 64 text
after_token-end MTag text = after_tag-end 35 text
after_token-end Bounds text = after_bounds-end text
after_token-end Code text = after_code-end text
after_token-end Signs text = after_sign-end text
