-- The least tree of (("x"?)(""|"y"))* on `xy`.
use Rattle.std.specs.Prelude.{◌≡◌, ℕ, suc, ◌≤◌, List, [], ◌∷◌, ◌++◌, Some, refl}
use Rattle.std.proofs.Common.{inl, lit≤, arith, ⊎_elim, subst}
use Rattle.lx_base.specs.declared.settings.Enc.TheVariants.{Utf8}
use Rattle.lx_regex.specs.Term.{Term, empty, cat, alt, repeat, group, IsInRanges, IsAtMost}
use Rattle.lx_regex.specs.Tree.{Tree, blank, point, row, chosen, iterations, inside, row_end, beside, here, later, Iterations, stop, iteration}
use Rattle.lx_regex.specs.Script.{Symbol, begins, ends, reads, sets, picks, script, units, choices}
use Rattle.lx_regex.specs.Plain.{IsPlain}
use Rattle.lx_regex.specs.Dictionary.{IsBefore}
use Rattle.lx_regex.specs.Examples.{letter, two, grouped_letters, EmptyIterationsAreNotPlain}
use Rattle.lx_regex.proofs.Walks.PlainWalk.{plain_list}
use Rattle.lx_regex.proofs.Trees.PlainTest.{plain_by_test}
use Rattle.lx_regex.proofs.Walks.Fronts.{before_self}

-- "x"? and ""|"y" as groups, and both together
abbrev optional_x : Term
optional_x = group 4 5 (repeat (letter 120) 0 (Some 1))

abbrev nothing_or_y : Term
nothing_or_y = group 6 7 (alt (two empty (letter 121)))

abbrev body : Term
body = group 2 3 (cat (two optional_x nothing_or_y))

abbrev x : Tree (letter 120)
x = point 120 (inl (lit≤ tt, lit≤ tt))

abbrev y : Tree (letter 121)
y = point 121 (inl (lit≤ tt, lit≤ tt))

abbrev with_x : Tree optional_x
with_x = inside (iterations 1 (iteration x stop) (lit≤ tt) (lit≤ tt))

abbrev without_x : Tree optional_x
without_x = inside (iterations 0 stop (lit≤ tt) (lit≤ tt))

abbrev nothing : Tree nothing_or_y
nothing = inside (chosen (here blank))

abbrev just_y : Tree nothing_or_y
just_y = inside (chosen (later (here y)))

abbrev pair : Tree optional_x → Tree nothing_or_y → Tree body
pair first second = inside (row (beside first (beside second row_end)))

abbrev pub on_xy : Tree grouped_letters
on_xy = inside (iterations 1 (iteration (pair with_x just_y) stop) (lit≤ tt) tt)

abbrev pub in_two : Tree grouped_letters
in_two = inside (iterations 2 (iteration (pair with_x nothing) (iteration (pair without_x just_y) stop)) (lit≤ tt) tt)

abbrev pub with_empty : Tree grouped_letters
with_empty = inside (iterations 2 (iteration (pair with_x just_y) (iteration (pair without_x nothing) stop)) (lit≤ tt) tt)

-- up to the end of the first `x`, and of the first `y`
abbrev to_x : List Symbol
to_x =
    begins 1 ∷ sets 0 ∷ begins 2 ∷ picks 0 ∷ begins 3 ∷ sets 2 ∷ begins 4 ∷ begins 5 ∷ sets 4 ∷ begins 6 ∷ picks 0
    ∷ begins 7 ∷ reads 120 ∷ ends 7 ∷ []

abbrev to_y : List Symbol
to_y =
    to_x ++ ends 6 ∷ sets 5 ∷ ends 5 ∷ begins 8 ∷ sets 6 ∷ begins 9 ∷ picks 1 ∷ begins 11 ∷ reads 121 ∷ ends 11 ∷ []

-- from the end of "x"? to its next end without a unit
abbrev round_x : List Symbol
round_x =
    sets 5 ∷ ends 5 ∷ begins 8 ∷ sets 6 ∷ begins 9 ∷ picks 0 ∷ begins 10 ∷ ends 10 ∷ ends 9 ∷ sets 7 ∷ ends 8 ∷ ends 4
    ∷ sets 3 ∷ ends 3 ∷ picks 0 ∷ begins 3 ∷ sets 2 ∷ begins 4 ∷ begins 5 ∷ sets 4 ∷ begins 6 ∷ picks 1 ∷ []

-- from the end of ""|"y" to its next end without a unit
abbrev round_y : List Symbol
round_y =
    sets 7 ∷ ends 8 ∷ ends 4 ∷ sets 3 ∷ ends 3 ∷ picks 0 ∷ begins 3 ∷ sets 2 ∷ begins 4 ∷ begins 5 ∷ sets 4 ∷ begins 6
    ∷ picks 1 ∷ ends 6 ∷ sets 5 ∷ ends 5 ∷ begins 8 ∷ sets 6 ∷ begins 9 ∷ picks 0 ∷ begins 10 ∷ ends 10 ∷ []

two_not_plain : IsPlain (script Utf8 1 in_two) → ⊥
two_not_plain plain = plain to_x round_x _ (ends 6) 13 refl refl refl

empty_not_plain : IsPlain (script Utf8 1 with_empty) → ⊥
empty_not_plain plain = plain to_y round_y _ (ends 9) 19 refl refl refl

letter_is : (number c : ℕ) → IsInRanges ((number, number) ∷ []) c → number ≡ c
letter_is number c within = ⊎_elim (λ h. let a = h.0 in let b = h.1 in omega arith) (λ h. absurd h) within

same_head : (a b : ℕ) (xs ys : List ℕ) → a ∷ xs ≡ b ∷ ys → a ≡ b
same_head a b xs ys e = cc

same_tail : (a b : ℕ) (xs ys : List ℕ) → a ∷ xs ≡ b ∷ ys → xs ≡ ys
same_tail a b xs ys e = cc

no_second_x : (rest : List ℕ) → 120 ∷ 120 ∷ rest ≡ 120 ∷ 121 ∷ [] → ⊥
no_second_x rest e =
    let same = same_head 120 121 rest [] (same_tail 120 120 (120 ∷ rest) (121 ∷ []) e) in omega (arith, same)

no_third : (third : ℕ) (rest : List ℕ) → 120 ∷ 121 ∷ third ∷ rest ≡ 120 ∷ 121 ∷ [] → ⊥
no_third third rest e = cc

-- a whole tree that begins with these two trees
abbrev begun :
    {count : ℕ} → Tree optional_x → Tree nothing_or_y → Iterations body count → (low : 0 ≤ suc count) → Tree grouped_letters
begun {count} first second more low = inside (iterations (suc count) (iteration (pair first second) more) low tt)

abbrev symbols_of :
    {count : ℕ} → Tree optional_x → Tree nothing_or_y → Iterations body count → (low : 0 ≤ suc count) → List Symbol
symbols_of first second more low = script Utf8 1 (begun first second more low)

-- no plain tree of `xy` with lesser choices begins so
abbrev IsNoLesser : {count : ℕ} → Tree optional_x → Tree nothing_or_y → Iterations body count → Type 0
IsNoLesser {count} first second more =
    (low : 0 ≤ suc count) → units (symbols_of first second more low) ≡ 120 ∷ 121 ∷ [] → IsPlain (symbols_of first second more low)
    → IsBefore (choices (symbols_of first second more low)) (0 ∷ 0 ∷ 1 ∷ 1 ∷ []) → ⊥

-- what is true of a letter's own code point is true of each point of its class
at_letter :
    (letter : ℕ) (P : (c : ℕ) → IsInRanges ((letter, letter) ∷ []) c → Type 0) → ((i : IsInRanges ((letter, letter) ∷ []) letter) → P letter i)
    → (c : ℕ) (i : IsInRanges ((letter, letter) ∷ []) c) → P c i
at_letter letter P own c i = subst (λ n. (j : IsInRanges ((letter, letter) ∷ []) n) → P n j) (letter_is letter c i) own i

-- after the first `x`
module _ (i : IsInRanges ((120, 120) ∷ []) 120) (l : 0 ≤ 1) (m : IsAtMost 1 (Some 1)) where
  abbrev one_x : Tree optional_x
  one_x = inside (iterations 1 (iteration (point 120 i) stop) l m)

  abbrev one_y : IsInRanges ((121, 121) ∷ []) 121 → Tree nothing_or_y
  one_y j = inside (chosen (later (here (point 121 j))))

  -- after nothing more: "x"? ends again, or a second `x` is read
  again_x : {count : ℕ} (first : Tree optional_x) (second : Tree nothing_or_y) (more : Iterations body count)
      → IsNoLesser one_x nothing (iteration (pair first second) more)
  again_x (inside (iterations n stop l' m')) second more low u p b = p to_x round_x _ (ends 6) 13 refl refl refl
  again_x (inside (iterations n (iteration (point c within) rest) l' m')) second more low u p b =
      at_letter 120
      (λ c i.
      units (symbols_of one_x nothing (iteration (pair (inside (iterations n (iteration (point c i) rest) l' m')) second) more) low) ≡ 120 ∷ 121 ∷ [] → ⊥)
      (λ i e. no_second_x _ e) c within u

  after_nothing : {count : ℕ} (more : Iterations body count) → IsNoLesser one_x nothing more
  after_nothing stop low u p b = cc
  after_nothing (iteration (inside (row (beside first (beside second row_end)))) more) low u p b =
      again_x first second more low u p b

  -- after the first `y`: ""|"y" ends again, or a third letter is read
  again_y :
      {count : ℕ}
      (j : IsInRanges ((121, 121) ∷ []) 121) (first : Tree optional_x) (second : Tree nothing_or_y)
      (more : Iterations body count)
      → IsNoLesser one_x (one_y j) (iteration (pair first second) more)
  again_y j (inside (iterations n stop l' m')) (inside (chosen (here blank))) more low u p b =
      p to_y round_y _ (ends 9) 19 refl refl refl
  again_y j (inside (iterations n stop l' m')) (inside (chosen (later (here (point c within))))) more low u p b =
      at_letter 121
      (λ c i.
      units (symbols_of one_x (one_y j) (iteration (pair (inside (iterations n stop l' m')) (inside (chosen (later (here (point c i)))))) more) low) ≡ 120 ∷ 121 ∷ [] → ⊥)
      (λ i e. no_third 121 _ e) c within u
  again_y j (inside (iterations n stop l' m')) (inside (chosen (later (later none)))) more low u p b = elim none [ ]
  again_y j (inside (iterations n (iteration (point c within) rest) l' m')) second more low u p b =
      at_letter 120
      (λ c i.
      units (symbols_of one_x (one_y j) (iteration (pair (inside (iterations n (iteration (point c i) rest) l' m')) second) more) low) ≡ 120 ∷ 121 ∷ [] → ⊥)
      (λ i e. no_third 120 _ e) c within u

  after_y :
      {count : ℕ} (j : IsInRanges ((121, 121) ∷ []) 121) (more : Iterations body count) → IsNoLesser one_x (one_y j) more
  after_y j stop low u p b = before_self (0 ∷ 0 ∷ 1 ∷ 1 ∷ []) b
  after_y j (iteration (inside (row (beside first (beside second row_end)))) more) low u p b =
      again_y j first second more low u p b

  by_second : {count : ℕ} (second : Tree nothing_or_y) (more : Iterations body count) → IsNoLesser one_x second more
  by_second (inside (chosen (here blank))) more = after_nothing more
  by_second (inside (chosen (later (here (point c within))))) more =
      at_letter 121
      (λ c j. IsNoLesser one_x (inside (chosen (later (here (point c j))))) more) (λ j. after_y j more) c within
  by_second (inside (chosen (later (later none)))) more = elim none [ ]

by_first : {count : ℕ} (first : Tree optional_x) (second : Tree nothing_or_y) (more : Iterations body count)
    → IsNoLesser first second more
by_first (inside (iterations n stop l m)) second more low u p b =
    ⊎_elim (λ h. omega arith) (λ h. ⊎_elim (λ k. omega arith) (λ k. let e = k.0 in omega arith) h.1) b
by_first (inside (iterations n (iteration (point c within) stop) l m)) second more low u p b =
    at_letter 120
    (λ c i. IsNoLesser (inside (iterations 1 (iteration (point c i) stop) l m)) second more)
    (λ i. by_second i l m second more) c within low u p b
by_first (inside (iterations n (iteration once (iteration twice rest)) l m)) second more low u p b = absurd (omega arith)

least :
    (other : Tree grouped_letters) → units (script Utf8 1 other) ≡ 120 ∷ 121 ∷ [] → IsPlain (script Utf8 1 other)
    → IsBefore (choices (script Utf8 1 other)) (0 ∷ 0 ∷ 1 ∷ 1 ∷ []) → ⊥
least (inside (iterations n stop low high)) u p b = cc
least (inside (iterations n (iteration (inside (row (beside first (beside second row_end)))) more) low high)) u p b =
    by_first first second more low u p b

pub grouped : EmptyIterationsAreNotPlain on_xy in_two with_empty
grouped = record {
  least = record { yields = refl; plain = plain_list _ (plain_by_test (script Utf8 1 on_xy) refl); least = least };
  xy_choices = refl;
  xy_groups = refl;
  two_units = refl;
  two_choices = refl;
  two_not_plain = two_not_plain;
  empty_units = refl;
  empty_choices = refl;
  empty_not_plain = empty_not_plain;
}
