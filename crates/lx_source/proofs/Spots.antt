-- Where a rule of letters and digits may stand behind a word.
use Rattle.std.specs.Prelude.{◌≡◌, ◌≢◌, ℕ, suc, ◌+◌, ◌*◌, ◌<◌, ◌≤◌, ◌⊎◌, List, [], ◌∷◌, ◌++◌, length, refl}
use Rattle.std.proofs.Common.{sym, ap, ◌∙◌, subst, arith, append_assoc, append-nil, length-append, inl, inr, ⊎_elim}

-- all of them are digits
abbrev pub AreDigits : List ℕ → Type 0
AreDigits [] = Unit {0}
AreDigits (digit ∷ digits) = (48 ≤ digit) × (digit ≤ 57) × AreDigits digits

-- A word goes on in this part, where the letters may come so often and the first of them is this part: it is a front of the
-- letters; or the letters, and behind them it goes on; or, where the letters came before, digits.
pub data Spot (letters : List ℕ) (digit_part : ℕ) : (left first : ℕ) → (word : List ℕ) → (part : ℕ) → Type 0 where
  within : {left first : ℕ} {word : List ℕ} {part : ℕ}
      → (rest : List ℕ) → word ++ rest ≡ letters → word ≢ [] → suc part ≡ first + length word
      → Spot letters digit_part (suc left) first word part
  behind : {left first : ℕ} {word : List ℕ} {part : ℕ}
      → (more : List ℕ) → word ≡ letters ++ more → Spot letters digit_part left (first + suc (length letters)) more part
      → Spot letters digit_part (suc left) first word part
  digits : {left first : ℕ} {word : List ℕ} {part : ℕ}
      → left < 3 → AreDigits word → word ≢ [] → part ≡ digit_part → Spot letters digit_part left first word part

same_behind : (front a b : List ℕ) → front ++ a ≡ front ++ b → a ≡ b
same_behind [] a b e = e
same_behind (x ∷ front) a b e = same_behind front a b (cc)

same_fronts : (a b x y : List ℕ) → a ++ x ≡ b ++ y → length a ≡ length b → a ≡ b
same_fronts [] [] x y e n = refl
same_fronts [] (c ∷ b) x y e n = absurd (omega arith)
same_fronts (c ∷ a) [] x y e n = absurd (omega arith)
same_fronts (c ∷ a) (d ∷ b) x y e n =
    let head : c ≡ d = cc in let tail = same_fronts a b x y (cc) (omega arith) in cc

length_some : (a : List ℕ) → a ≢ [] → 0 < length a
length_some [] some = absurd (some refl)
length_some (x ∷ a) some = omega arith

-- digits up to the first `x` are the same in the same words
pub digits_same : (a b x y : List ℕ) → AreDigits a → AreDigits b → a ++ 120 ∷ x ≡ b ++ 120 ∷ y → a ≡ b
digits_same [] [] x y is too e = refl
digits_same [] (c ∷ b) x y is too e = let same : 120 ≡ c = cc in absurd (omega (arith, too.1))
digits_same (c ∷ a) [] x y is too e = let same : c ≡ 120 = cc in absurd (omega (arith, is.1))
digits_same (c ∷ a) (d ∷ b) x y is too e =
    let head : c ≡ d = cc in let tail = digits_same a b x y is.2 too.2 (cc) in cc

pub spot_some : (letters : List ℕ) (digit_part left first : ℕ) (word : List ℕ) (part : ℕ)
    → Spot letters digit_part left first word part → word ≢ []
spot_some letters digit_part left first word part (within rest e some next) = some
spot_some letters digit_part left first word part (behind more e spot) =
    λ none. spot_some letters digit_part _ _ more part spot (back letters more (sym e ∙ none))
  where
    back : (a b : List ℕ) → a ++ b ≡ [] → b ≡ []
    back [] b e = e
    back (x ∷ a) b e = cc
spot_some letters digit_part left first word part (digits few are some at) = some

-- the part is one of so many
pub spot_range : (letters : List ℕ) (digit_part left first : ℕ) (word : List ℕ) (part : ℕ)
    → Spot letters digit_part left first word part → digit_part ≡ first + left * suc (length letters)
    → (first ≤ part) × (part ≤ digit_part)
spot_range letters digit_part (suc left) first word part (within rest e some next) last =
    let least = length_some word some in
    let whole : length word + length rest ≡ length letters = sym (length-append word rest) ∙ ap length e in
    (omega arith, omega arith)
spot_range letters digit_part (suc left) first word part (behind more e spot) last =
    let range = spot_range letters digit_part left (first + suc (length letters)) more part spot (omega arith) in
    (omega (arith, range.0), range.1)
spot_range letters digit_part left first word part (digits few are some at) last = (omega arith, omega arith)

module _ (middle : List ℕ) where
  -- a `w`, these, and an `x`
  abbrev pub lettered : List ℕ
  lettered = 119 ∷ (middle ++ 120 ∷ [])

  letters_digits : (word rest : List ℕ) → word ++ rest ≡ lettered → AreDigits word → word ≢ [] → ⊥
  letters_digits [] rest e are some = some refl
  letters_digits (c ∷ word) rest e are some = let same : c ≡ 119 = cc in omega (arith, are.0)

  whole_digits : (word more : List ℕ) → word ≡ lettered ++ more → AreDigits word → ⊥
  whole_digits [] more e are = cc
  whole_digits (c ∷ word) more e are = let same : c ≡ 119 = cc in omega (arith, are.0)

  front_longer : (word rest more : List ℕ) → word ++ rest ≡ lettered → word ≡ lettered ++ more → more ≢ [] → ⊥
  front_longer word rest more e e' some =
      omega
      (arith, length_some more some, sym (length-append word rest) ∙ ap length e, ap length e' ∙ length-append lettered more)

  -- behind a word the rule stands in one part
  pub one_part : (digit_part left first : ℕ) (word : List ℕ) (part other : ℕ)
      → Spot lettered digit_part left first word part → Spot lettered digit_part left first word other → part ≡ other
  one_part digit_part (suc left) first word part other (within rest e some next) (within rest' e' some' next') = omega arith
  one_part digit_part (suc left) first word part other (within rest e some next) (behind more e' spot) =
      absurd (front_longer word rest more e e' (spot_some lettered digit_part _ _ more other spot))
  one_part digit_part (suc left) first word part other (within rest e some next) (digits few are some' at) =
      absurd (letters_digits word rest e are some)
  one_part digit_part (suc left) first word part other (behind more e' spot) (within rest e some next) =
      absurd (front_longer word rest more e e' (spot_some lettered digit_part _ _ more part spot))
  one_part digit_part (suc left) first word part other (behind more e spot) (behind more' e' spot') =
      let same : more' ≡ more = same_behind lettered more' more (sym e' ∙ e) in
      one_part digit_part left (first + suc (length lettered)) more part other spot
      (subst (λ l. Spot lettered digit_part left (first + suc (length lettered)) l other) same spot')
  one_part digit_part (suc left) first word part other (behind more e spot) (digits few are some at) =
      absurd (whole_digits word more e are)
  one_part digit_part (suc left) first word part other (digits few are some at) (within rest e some' next) =
      absurd (letters_digits word rest e are some)
  one_part digit_part (suc left) first word part other (digits few are some at) (behind more e spot) =
      absurd (whole_digits word more e are)
  one_part digit_part left first word part other (digits few are some at) (digits few' are' some' at') = at ∙ sym at'

  -- a word has all of the letters
  abbrev pub HasLetters : List ℕ → Type 0
  HasLetters word = (more : List ℕ) × (word ≡ lettered ++ more)

  -- A word stops within the letters, or has all of them.
  letters_cases : (digit_part first : ℕ) (word : List ℕ) (part : ℕ) → digit_part ≡ first + 3 * suc (length lettered)
      → Spot lettered digit_part 3 first word part
      → ((rest : List ℕ) × (word ++ rest ≡ lettered) × (suc part ≡ first + length word) × (length word < length lettered))
      ⊎ (HasLetters word × (first + length lettered ≤ suc part))
  letters_cases digit_part first word part last (within [] e some next) =
      let whole : word ++ [] ≡ word = append-nil word in
      let long : length word ≡ length lettered = ap length (sym whole ∙ e) in
      inr (([], sym whole ∙ e ∙ sym (append-nil lettered)), omega arith)
  letters_cases digit_part first word part last (within (c ∷ rest) e some next) =
      inl (c ∷ rest, e, next, omega (arith, sym (length-append word (c ∷ rest)) ∙ ap length e))
  letters_cases digit_part first word part last (behind more e spot) =
      let range = spot_range lettered digit_part 2 (first + suc (length lettered)) more part spot (omega arith) in
      inr ((more, e), omega (arith, range.0))
  letters_cases digit_part first word part last (digits few are some at) = absurd (omega arith)

  -- words behind which the rule stands in one part are the same, or have all of the letters
  pub part_words : (digit_part first : ℕ) (word other : List ℕ) (part : ℕ) → digit_part ≡ first + 3 * suc (length lettered)
      → Spot lettered digit_part 3 first word part → Spot lettered digit_part 3 first other part
      → (word ≡ other) ⊎ (HasLetters word × HasLetters other)
  part_words digit_part first word other part last spot too =
      ⊎_elim
      (λ a.
      ⊎_elim
      (λ b. inl (same_fronts word other a.0 b.0 (a.1 ∙ sym b.1) (let x = a.2 in let y = b.2 in omega arith)))
      (λ b. absurd (let x = a.2 in let y = b.1 in let z = a.3 in omega arith)) (letters_cases digit_part first other part last too))
      (λ a.
      ⊎_elim
      (λ b. absurd (let x = b.2 in let y = a.1 in let z = b.3 in omega arith)) (λ b. inr (a.0, b.0))
      (letters_cases digit_part first other part last too))
      (letters_cases digit_part first word part last spot)

-- a word that has all letters of one rule, and behind which another stands, has the letters of both
pub letters_known : (middle other : List ℕ) (digit_part first : ℕ) (word : List ℕ) (part : ℕ)
    → AreDigits middle → AreDigits other → digit_part ≡ first + 3 * suc (length (lettered other)) → HasLetters middle word
    → Spot (lettered other) digit_part 3 first word part → middle ≡ other
letters_known middle other digit_part first word part are too last has spot =
    ⊎_elim
    (λ c.
    digits_same middle
    other (has.0 ++ c.0) [] are too
    (behind_w (front middle (has.0 ++ c.0) ∙ sym (append_assoc (lettered middle) has.0 c.0) ∙ ap (λ l. l ++ c.0) (sym has.1) ∙ c.1)))
    (λ c. digits_same middle other has.0 c.0.0 are too (behind_w (front middle has.0 ∙ sym has.1 ∙ c.0.1 ∙ sym (front other c.0.0))))
    (letters_cases other digit_part first word part last spot)
  where
    front : (a x : List ℕ) → 119 ∷ (a ++ 120 ∷ x) ≡ lettered a ++ x
    front a x = ap (λ l. 119 ∷ l) (sym (append_assoc a (120 ∷ []) x))

    behind_w : {a b : List ℕ} → 119 ∷ a ≡ 119 ∷ b → a ≡ b
    behind_w {a} {b} e = cc
