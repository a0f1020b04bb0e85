-- The texts of names, and of the sign `*`.
use Rattle.std.proofs.Common.{◌≡◌, ℕ, zero, suc, ◌+◌, ◌-◌, Bool, true, false, List, [], ◌∷◌, length, take, drop, Some, None, Ok, refl, sym, ap, ◌∙◌, subst, arith, length-append}
use Rattle.std.specs.Prelude.{◌==◌, codes, if◌then◌else◌}
use Rattle.std.specs.List.{AllByRecursion}
use Rattle.std.proofs.lemmas.List.{length-drop}
use borrow.Author.Tests.{eqb-true}
use Rattle.lx_base.specs.Letters.{EachLetter, IsIdentifier, after_letters, begins_identifier, begins_with, front_letters, is_in_identifier}
use Rattle.lx_base.specs.declared.places.Pos.{Pos}
use Rattle.lx_base.proofs.Fronts.{front_letters-after, front_letters-take}
use Rattle.lx_parse.specs.Sorts.{letter_sort, sign_of, sort_of}
use Rattle.lx_parse.specs.declared.sorts.Sort.{Sort}
use Rattle.lx_parse.specs.declared.sorts.Sort.TheVariants.{Name, Star, Equals, Semicolon, Bar, Backslash, Slash, Open, Close, Plus, Question, Dot, Dollar, Less, Greater, Comma, Arrow, Jump}
use Rattle.lx_token.specs.Rows.{after_token}
use Rattle.lx_token.specs.Signs.{after_sign}
use Rattle.lx_token.specs.Spans.{AreInOrder, EachStands}
use Rattle.lx_token.specs.Tokens.{tokens_of}
use Rattle.lx_token.specs.Words.{after_name}
use Rattle.lx_token.specs.declared.kinds.TokenKind.{TokenKind}
use Rattle.lx_token.specs.declared.kinds.TokenKind.TheVariants as kind
use Rattle.lx_token.specs.declared.list.Token.{Token}
use Rattle.lx_token.proofs.Walk.{tokens_stand}
use Rattle.lx_forms.specs.Lexemes.{Lexeme, lexemes_of, sort_at}

-- ---- names

each_front : (test : ℕ → Bool) (text : List ℕ) → EachLetter test (front_letters test text)
each_front test [] = tt
each_front test (letter ∷ text) = at (test letter) refl (each_front test text)
  where
    at : (b : Bool) → test letter ≡ b → EachLetter test (front_letters test text)
        → EachLetter test (if b then letter ∷ front_letters test text else [])
    at true e later = (e, later)
    at false e later = tt

-- what stands before the rest of a name is one
pub name_front : (text rest : List ℕ) (count : ℕ) → after_name text ≡ Some rest → count + length rest ≡ length text → IsIdentifier (take count text)
name_front [] rest count is all = absurd (let h : None ≡ Some rest = is in cc)
name_front (letter ∷ text) rest count is all = at (begins_identifier letter) refl is
  where
    at : (b : Bool) → begins_identifier letter ≡ b → (if b then Some (after_letters is_in_identifier text) else None) ≡ Some rest
        → IsIdentifier (take count (letter ∷ text))
    at false e found = absurd (let h : None ≡ Some rest = found in cc)
    at true e found =
        let same : after_letters is_in_identifier text ≡ rest = cc in
        let less = ap (λ (l : List ℕ). length l) same in
        let behind = length text - length (after_letters is_in_identifier text) in
        let front = front_letters-take is_in_identifier text in
        let parts = length-append (front_letters is_in_identifier text) (after_letters is_in_identifier text) in
        let both = ap (λ (l : List ℕ). length l) (front_letters-after is_in_identifier text) in
        let next : count ≡ suc behind = omega (arith, all, less, parts, both) in
        subst (λ n. IsIdentifier (take n (letter ∷ text))) (sym next)
        (e, subst (EachLetter is_in_identifier) front (each_front is_in_identifier text))

-- ---- the sign `*`

abbrev is_star : Sort → Bool
is_star Star = true
is_star sort = false

abbrev is_name : Sort → Bool
is_name Name = true
is_name sort = false

-- neither of two sorts
pick : (test : Sort → Bool) (b : Bool) (one two : Sort) → test one ≡ false → test two ≡ false → test (if b then one else two) ≡ false
pick test true one two first second = first
pick test false one two first second = second

other_letter : (letter : ℕ) → (letter == 42) ≡ false → is_star (letter_sort letter) ≡ false
other_letter letter other =
    pick is_star (letter == 61) Equals _ refl (pick is_star (letter == 59) Semicolon _ refl (pick is_star (letter == 124) Bar _ refl
    (pick is_star (letter == 92) Backslash _ refl (pick is_star (letter == 47) Slash _ refl (pick is_star (letter == 40) Open _ refl
    (pick is_star (letter == 41) Close _ refl
    (ap (λ (b : Bool). is_star (if b then Star else rest)) other ∙ (pick is_star (letter == 43) Plus _ refl
    (pick is_star (letter == 63) Question _ refl (pick is_star (letter == 46) Dot _ refl (pick is_star (letter == 36) Dollar _ refl
    (pick is_star (letter == 60) Less _ refl (pick is_star (letter == 62) Greater Comma refl refl)))))))))))))
  where
    rest : Sort
    rest =
        if letter == 43 then Plus else (if letter == 63 then Question else (if letter == 46 then Dot else (if letter == 36 then Dollar
        else (if letter == 60 then Less else (if letter == 62 then Greater else Comma)))))

-- a letter that is the sign `*`
star_letter : (letter : ℕ) → letter_sort letter ≡ Star → letter ≡ 42
star_letter letter is = at (letter == 42) refl
  where
    at : (b : Bool) → (letter == 42) ≡ b → letter ≡ 42
    at true e = eqb-true letter 42 e
    at false e = absurd (let h : true ≡ false = sym (ap is_star is) ∙ other_letter letter e in cc)

-- a text that is the sign `*` begins with this letter
star_sign : (letter : ℕ) (text : List ℕ) → sign_of (letter ∷ text) ≡ Star → letter ≡ 42
star_sign letter text is = at (begins_with (codes ":=>") (letter ∷ text)) (begins_with (codes "=>") (letter ∷ text)) is
  where
    at : (jump arrow : Bool) → (if jump then Jump else (if arrow then Arrow else letter_sort letter)) ≡ Star → letter ≡ 42
    at true arrow found = absurd (let h : Jump ≡ Star = found in cc)
    at false true found = absurd (let h : Arrow ≡ Star = found in cc)
    at false false found = star_letter letter found

-- what stands before the rest of this sign is `*` alone
star_alone : (letter : ℕ) (text rest : List ℕ) (count : ℕ) → letter ≡ 42 → after_sign (letter ∷ text) ≡ Some rest
    → count + length rest ≡ length (letter ∷ text) → take count (letter ∷ text) ≡ codes "*"
star_alone letter text rest count is after all =
    let found : Some text ≡ Some rest = subst (λ (l : ℕ). after_sign (l ∷ text) ≡ Some rest) is after in
    let same : text ≡ rest = cc in
    let less = ap (λ (l : List ℕ). length l) same in
    let one : count ≡ 1 = omega (arith, all, less) in
    ap (λ n. take n (letter ∷ text)) one ∙ ap (λ (l : ℕ). l ∷ []) is

star_front : (text rest : List ℕ) (count : ℕ) → after_sign text ≡ Some rest → count + length rest ≡ length text → sign_of (take count text) ≡ Star
    → take count text ≡ codes "*"
star_front [] rest count is all star = absurd (let h : None ≡ Some rest = is in cc)
star_front (letter ∷ text) rest zero is all star = absurd (let h : Comma ≡ Star = star in cc)
star_front (letter ∷ text) rest (suc count) is all star =
    star_alone letter text rest (suc count) (star_sign letter (take count text) star) is all

-- no sign is a name
sign_unnamed : (text : List ℕ) → is_name (sign_of text) ≡ false
sign_unnamed [] = refl
sign_unnamed (letter ∷ text) =
    pick is_name (begins_with (codes ":=>") (letter ∷ text)) Jump _ refl (pick is_name (begins_with (codes "=>") (letter ∷ text)) Arrow _ refl
    (pick is_name (letter == 61) Equals _ refl (pick is_name (letter == 59) Semicolon _ refl (pick is_name (letter == 124) Bar _ refl
    (pick is_name (letter == 92) Backslash _ refl (pick is_name (letter == 47) Slash _ refl (pick is_name (letter == 40) Open _ refl
    (pick is_name (letter == 41) Close _ refl (pick is_name (letter == 42) Star _ refl (pick is_name (letter == 43) Plus _ refl
    (pick is_name (letter == 63) Question _ refl (pick is_name (letter == 46) Dot _ refl (pick is_name (letter == 36) Dollar _ refl
    (pick is_name (letter == 60) Less _ refl (pick is_name (letter == 62) Greater Comma refl refl)))))))))))))))

-- ---- tokens

-- a name is an identifier, and the sign `*` is spelled so
pub record IsWord (lexeme : Lexeme) : Type 0 where
  pub name : sort_at lexeme ≡ Name → IsIdentifier lexeme.text
  pub star : sort_at lexeme ≡ Star → lexeme.text ≡ codes "*"

abbrev IsWordOf : TokenKind → List ℕ → Type 0
IsWordOf k word = (sort_of k word ≡ Name → IsIdentifier word) × (sort_of k word ≡ Star → word ≡ codes "*")

word_of : (k : TokenKind) (text rest : List ℕ) (count : ℕ) → after_token k text ≡ Some rest → count + length rest ≡ length text
    → IsWordOf k (take count text)
word_of kind.Name text rest count is all = (λ _. name_front text rest count is all, λ star. absurd cc)
word_of kind.Config text rest count is all = (λ name. absurd cc, λ star. absurd cc)
word_of kind.Number text rest count is all = (λ name. absurd cc, λ star. absurd cc)
word_of kind.Str text rest count is all = (λ name. absurd cc, λ star. absurd cc)
word_of kind.IStr text rest count is all = (λ name. absurd cc, λ star. absurd cc)
word_of kind.Class text rest count is all = (λ name. absurd cc, λ star. absurd cc)
word_of kind.STag text rest count is all = (λ name. absurd cc, λ star. absurd cc)
word_of kind.MTag text rest count is all = (λ name. absurd cc, λ star. absurd cc)
word_of kind.Bounds text rest count is all = (λ name. absurd cc, λ star. absurd cc)
word_of kind.Code text rest count is all = (λ name. absurd cc, λ star. absurd cc)
word_of kind.Signs text rest count is all = (
  (λ name. absurd (let h : true ≡ false = sym (ap is_name name) ∙ sign_unnamed (take count text) in cc)),
  (λ star. star_front text rest count is all star),
)

words_stand : (body : List ℕ) (start : Pos) (from : ℕ) (tokens : List Token) → AreInOrder from (length body) tokens → EachStands body start tokens
    → AllByRecursion IsWord (lexemes_of body tokens)
words_stand body start from [] order stands = tt
words_stand body start from (token ∷ tokens) order stands =
    let some = order.1 in let most = order.2 in
    let before = length-drop token.from body in let behind = length-drop token.to body in
    let word = word_of token.kind (drop token.from body) (drop token.to body) (token.to - token.from) stands.0.text
    (omega (arith, some, most, before, behind)) in
    (record { name = word.0; star = word.1 }, words_stand body start token.to tokens order.3 stands.1)

-- each token of a body is such a word
pub tokens_of-words : (body : List ℕ) (start : Pos) (tokens : List Token) → tokens_of body start ≡ Ok tokens → AllByRecursion IsWord (lexemes_of body tokens)
tokens_of-words body start tokens are =
    let stand = tokens_stand body start tokens are in words_stand body start 0 tokens stand.in_order stand.each_stands
