-- Numbers from one on, and those among them that are listed.
use Rattle.std.proofs.Common.{◌≡◌, ◌∙◌, ℕ, zero, suc, ◌+◌, Bool, true, false, List, [], ◌∷◌, ◌++◌, ap, refl, sym, arith}
use Rattle.std.specs.Prelude.{◌&&◌, ◌==◌, not, if◌then◌else◌}
use Rattle.std.specs.List.{filter, range_with_len}

-- one number more
pub range_with_len-more : (first count last : ℕ) → last ≡ first + count
    → range_with_len first (count + 1) ≡ range_with_len first count ++ last ∷ []
range_with_len-more first zero last is = let same : first ≡ last = omega (arith, is) in ap (λ n. n ∷ []) same
range_with_len-more first (suc count) last is =
    let next : suc count + 1 ≡ suc (count + 1) = omega arith in
    ap (range_with_len first) next ∙ ap (λ l. first ∷ l) (range_with_len-more (first + 1) count last (omega (arith, is)))

filter-append : (test : ℕ → Bool) (numbers others : List ℕ) → filter test (numbers ++ others) ≡ filter test numbers ++ filter test others
filter-append test [] others = refl
filter-append test (number ∷ numbers) others = by (test number) (filter-append test numbers others)
  where
    by : (listed : Bool) → filter test (numbers ++ others) ≡ filter test numbers ++ filter test others
        → (if listed then number ∷ filter test (numbers ++ others) else filter test (numbers ++ others))
        ≡ (if listed then number ∷ filter test numbers else filter test numbers) ++ filter test others
    by true rest = ap (λ l. number ∷ l) rest
    by false rest = rest

-- what is listed, where register 1 may be the context marker alone
abbrev pub listed_to : (alone : Bool) → (count : ℕ) → List ℕ
listed_to alone count = filter (λ register. not (alone && (register == 1))) (range_with_len 1 count)

-- one register more
pub listed_to-more : (alone : Bool) (count register : ℕ) (before after : List ℕ) → register ≡ count + 1 → before ≡ listed_to alone count
    → after ≡ before ++ (if not (alone && (register == 1)) then register ∷ [] else []) → after ≡ listed_to alone (count + 1)
listed_to-more alone count register before after is listed more =
    more ∙ ap (λ l. l ++ (if not (alone && (register == 1)) then register ∷ [] else [])) listed
    ∙ sym (filter-append (λ one. not (alone && (one == 1))) (range_with_len 1 count) (register ∷ []))
    ∙ ap (filter (λ one. not (alone && (one == 1)))) (sym (range_with_len-more 1 count register (omega (arith, is))))
