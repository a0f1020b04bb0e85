-- The spellings that a leaf may read, of which none begins another.
use Rattle.std.specs.Prelude.{◌≡◌, ℕ, suc, ◌+◌, ◌-◌, ◌/◌, ◌%◌, ◌<◌, ◌≤◌, ◌⊎◌, List, [], ◌∷◌, ◌++◌, length, Bool, true, false, ◌&&◌, nat_lt, if◌then◌else◌, refl}
use Rattle.std.proofs.Common.{sym, ap, ap₂, ◌∙◌, subst, arith, inl, inr, ⊎_elim, ltb-true, ltb-false, lt-ltb, le-leb}
use Rattle.std.proofs.lemmas.Bool.{and_from, or_left, or_right}
use Rattle.lx_base.specs.declared.settings.Enc.{Enc}
use Rattle.lx_base.specs.declared.settings.Enc.TheVariants.{Byte, Ucs2, Utf8, Utf16, Utf32}
use Rattle.lx_base.specs.Spelling.{spell, utf8, utf16, continuation}
use Rattle.lx_regex.specs.Automaton.{Move, State, moves}
use Rattle.lx_regex.specs.Reading.{IsReading, of_point, of_unit}
use Rattle.lx_regex.specs.Script.{Symbol, choices, has_long, has_short, leaf_choice, picks, units}
use Rattle.lx_regex.specs.Term.{IsInRanges}
use Rattle.lx_regex.proofs.Walks.PlainWalk.{spell_some}

pub code_row :
    (enc : Enc) {r : State} {d : List Symbol} {us : List ℕ} → IsReading enc r d us → (ms : List Move) → r ≡ moves ms → ⊥
code_row enc (of_point c i) ms e = cc
code_row enc (of_unit u) ms e = cc

-- the choice is no unit
choice_quiet : (enc : Enc) (ranges : List (ℕ × ℕ)) (c : ℕ) → units (leaf_choice enc ranges c) ≡ []
choice_quiet Byte ranges c = refl
choice_quiet Ucs2 ranges c = refl
choice_quiet Utf8 ranges c = refl
choice_quiet Utf16 ranges c = at (has_short ranges && has_long ranges)
  where
    at : (b : Bool) → units (if b then picks (if nat_lt c 0x10000 then 1 else 0) ∷ [] else []) ≡ []
    at true = refl
    at false = refl
choice_quiet Utf32 ranges c = refl

pub code_quiet : (enc : Enc) {r : State} {d : List Symbol} {us : List ℕ} → IsReading enc r d us → units d ≡ []
code_quiet enc (of_point {ranges} c i) = choice_quiet enc ranges c
code_quiet enc (of_unit u) = refl

pub code_some :
    (enc : Enc) {r : State} {d : List Symbol} {us : List ℕ} → IsReading enc r d us → (x : ℕ) × (xs : List ℕ) × (us ≡ x ∷ xs)
code_some enc (of_point c i) = spell_some enc c
code_some enc (of_unit u) = (u, [], refl)

-- all points of a leaf have a choice, or none has
choice_same : (enc : Enc) (ranges : List (ℕ × ℕ)) (c c' : ℕ) (x w : List ℕ)
    → choices (leaf_choice enc ranges c') ++ x ≡ choices (leaf_choice enc ranges c) ++ w
    → (leaf_choice enc ranges c ≡ leaf_choice enc ranges c') × (x ≡ w)
choice_same Byte ranges c c' x w e = (refl, e)
choice_same Ucs2 ranges c c' x w e = (refl, e)
choice_same Utf8 ranges c c' x w e = (refl, e)
choice_same Utf16 ranges c c' x w e =
    at (has_short ranges && has_long ranges) (if nat_lt c 0x10000 then 1 else 0) (if nat_lt c' 0x10000 then 1 else 0) e
  where
    at :
        (b : Bool) (m n : ℕ) → choices (if b then picks n ∷ [] else []) ++ x ≡ choices (if b then picks m ∷ [] else []) ++ w
        → ((if b then picks m ∷ [] else []) ≡ (if b then picks n ∷ [] else [])) × (x ≡ w)
    at true m n h = let k : m ≡ n = cc in (ap (λ z. picks z ∷ []) k, cc)
    at false m n h = (refl, h)
choice_same Utf32 ranges c c' x w e = (refl, e)

pub code_choice :
    (enc : Enc) {r : State} {d d' : List Symbol} {us us' : List ℕ} → IsReading enc r d us → IsReading enc r d' us' → (x w : List ℕ)
    → choices d' ++ x ≡ choices d ++ w → (d ≡ d') × (x ≡ w)
code_choice enc (of_point {ranges} c i) (of_point c' i') x w e = choice_same enc ranges c c' x w e
code_choice enc (of_unit u) (of_unit u') x w e = (refl, e)

-- the first byte of a UTF-8 spelling tells how many there are
abbrev HasHeadLength : ℕ → ℕ → Type 0
HasHeadLength u n =
    ((u < 0x80) × (n ≡ 1))
    ⊎ (((0xC0 ≤ u) × (u < 0xE0) × (n ≡ 2)) ⊎ (((0xE0 ≤ u) × (u < 0xF0) × (n ≡ 3)) ⊎ ((0xF0 ≤ u) × (n ≡ 4))))

utf8_head : (c : ℕ) → (u : ℕ) × (us : List ℕ) × (utf8 c ≡ u ∷ us) × HasHeadLength u (suc (length us))
utf8_head c = at (nat_lt c 0x80) (nat_lt c 0x800) (nat_lt c 0x10000) refl refl refl
  where
    at : (a b d : Bool) → nat_lt c 0x80 ≡ a → nat_lt c 0x800 ≡ b → nat_lt c 0x10000 ≡ d
        → (u : ℕ) × (us : List ℕ)
        × ((if a then c ∷ [] else (if b then (0xC0 + c / 64) ∷ continuation c ∷ [] else (if d then (0xE0 + c / 4096) ∷ continuation (c / 64) ∷ continuation c ∷ [] else (0xF0 + c / 262144) ∷ continuation (c / 4096) ∷ continuation (c / 64) ∷ continuation c ∷ []))) ≡ u ∷ us)
        × HasHeadLength u (suc (length us))
    at true b d e1 e2 e3 = (_, _, refl, inl (ltb-true c 0x80 e1, refl))
    at false true d e1 e2 e3 =
        let lt : c < 0x800 = ltb-true c 0x800 e2 in (_, _, refl, inr (inl (omega arith, omega arith, refl)))
    at false false true e1 e2 e3 =
        let lt : c < 0x10000 = ltb-true c 0x10000 e3 in (_, _, refl, inr (inr (inl (omega arith, omega arith, refl))))
    at false false false e1 e2 e3 = (_, _, refl, inr (inr (inr (omega arith, refl))))

same_head_length : (u n m : ℕ) → HasHeadLength u n → HasHeadLength u m → n ≡ m
same_head_length u n m h k = omega arith

utf8_length : (c c' : ℕ) (x y : List ℕ) → utf8 c ++ x ≡ utf8 c' ++ y → length (utf8 c) ≡ length (utf8 c')
utf8_length c c' x y e =
    let a = utf8_head c in
    let b = utf8_head c' in
    let k : a.0 ∷ (a.1 ++ x) ≡ b.0 ∷ (b.1 ++ y) = ap (λ l. l ++ x) (sym a.2) ∙ e ∙ ap (λ l. l ++ y) b.2 in
    let h : a.0 ≡ b.0 = cc in
    let n =
    same_head_length b.0
    (suc (length a.1)) (suc (length b.1)) (subst (λ u. HasHeadLength u (suc (length a.1))) h a.3) b.3 in
    ap length a.2 ∙ n ∙ ap length (sym b.2)

-- a class has a point of the length of each of its points
in_short : (ranges : List (ℕ × ℕ)) (c : ℕ) → IsInRanges ranges c → c < 0x10000 → has_short ranges ≡ true
in_short [] c i lt = absurd i
in_short (r ∷ ranges) c i lt =
    ⊎_elim (λ h. or_left _ _ (lt-ltb r.0 0x10000 (omega (arith, h.0)))) (λ h. or_right _ _ (in_short ranges c h lt)) i

in_long : (ranges : List (ℕ × ℕ)) (c : ℕ) → IsInRanges ranges c → 0x10000 ≤ c → has_long ranges ≡ true
in_long [] c i le = absurd i
in_long (r ∷ ranges) c i le =
    ⊎_elim (λ h. or_left _ _ (le-leb 0x10000 r.1 (omega (arith, h.1)))) (λ h. or_right _ _ (in_long ranges c h le)) i

utf16_length : (ranges : List (ℕ × ℕ)) (c c' : ℕ) → IsInRanges ranges c → IsInRanges ranges c'
    → leaf_choice Utf16 ranges c ≡ leaf_choice Utf16 ranges c' → length (utf16 c) ≡ length (utf16 c')
utf16_length ranges c c' i i' e = at (nat_lt c 0x10000) (nat_lt c' 0x10000) refl refl e
  where
    len : Bool → ℕ → ℕ
    len b n = length (if b then n ∷ [] else (0xD800 + (n - 0x10000) / 1024) ∷ (0xDC00 + (n - 0x10000) % 1024) ∷ [])

    pick : Bool → Bool → List Symbol
    pick m b = if m then picks (if b then 1 else 0) ∷ [] else []

    differ : (m : Bool) → m ≡ true → (a b : Bool) → a ≡ true → b ≡ false → pick m a ≡ pick m b → ⊥
    differ true t true false p q h = cc
    differ true t false b p q h = cc
    differ true t true true p q h = cc
    differ false t a b p q h = cc

    at : (a b : Bool) → nat_lt c 0x10000 ≡ a → nat_lt c' 0x10000 ≡ b
        → pick (has_short ranges && has_long ranges) a ≡ pick (has_short ranges && has_long ranges) b → len a c ≡ len b c'
    at true true p q h = refl
    at false false p q h = refl
    at true false p q h =
        let s = in_short ranges c i (ltb-true c 0x10000 p) in
        let l = in_long ranges c' i' (ltb-false c' 0x10000 q) in
        absurd (differ (has_short ranges && has_long ranges) (and_from _ _ s l) true false refl refl h)
    at false true p q h =
        let s = in_short ranges c' i' (ltb-true c' 0x10000 q) in
        let l = in_long ranges c i (ltb-false c 0x10000 p) in
        absurd (differ (has_short ranges && has_long ranges) (and_from _ _ s l) true false refl refl (sym h))

spell_length : (enc : Enc) (ranges : List (ℕ × ℕ)) (c c' : ℕ) → IsInRanges ranges c → IsInRanges ranges c'
    → leaf_choice enc ranges c ≡ leaf_choice enc ranges c' → (x y : List ℕ) → spell enc c ++ x ≡ spell enc c' ++ y
    → length (spell enc c) ≡ length (spell enc c')
spell_length Byte ranges c c' i i' e x y h = refl
spell_length Ucs2 ranges c c' i i' e x y h = refl
spell_length Utf8 ranges c c' i i' e x y h = utf8_length c c' x y h
spell_length Utf16 ranges c c' i i' e x y h = utf16_length ranges c c' i i' e
spell_length Utf32 ranges c c' i i' e x y h = refl

-- two lists that go on from parts of one length
pub front_same_length : (a b x y : List ℕ) → length a ≡ length b → a ++ x ≡ b ++ y → (a ≡ b) × (x ≡ y)
front_same_length [] [] x y n e = (refl, e)
front_same_length [] (u ∷ b) x y n e = absurd (omega arith)
front_same_length (u ∷ a) [] x y n e = absurd (omega arith)
front_same_length (u ∷ a) (w ∷ b) x y n e =
    let h : u ≡ w = cc in
    let t : a ++ x ≡ b ++ y = cc in
    let r = front_same_length a b x y (omega arith) t in
    (ap₂ (λ p q. p ∷ q) h r.0, r.1)

-- no spelling with the same choice begins another
pub code_free :
    (enc : Enc) {r : State} {d d' : List Symbol} {us us' : List ℕ} → IsReading enc r d us → IsReading enc r d' us' → d ≡ d'
    → (x y : List ℕ) → us ++ x ≡ us' ++ y → (us ≡ us') × (x ≡ y)
code_free enc (of_point {ranges} c i) (of_point c' i') e x y h =
    front_same_length _ _ x y (spell_length enc ranges c c' i i' e x y h) h
code_free enc (of_unit u) (of_unit u') e x y h = front_same_length (u ∷ []) (u' ∷ []) x y refl h
