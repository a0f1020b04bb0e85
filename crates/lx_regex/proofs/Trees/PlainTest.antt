-- Whether a list of symbols is plain, as a test.
use Rattle.std.specs.Prelude.{◌≡◌, ℕ, List, [], ◌∷◌, Bool, true, false, ◌&&◌, not, nat_eq, refl}
use Rattle.std.proofs.Common.{eq-eqb}
use Rattle.lx_regex.specs.Script.{Symbol, begins, ends, reads, sets, unsets, picks}
use Rattle.lx_regex.proofs.Walks.PlainWalk.{IsUnseen, IsPlainList}

-- two symbols are the beginning of one part, or its end
abbrev pub same_mark : Symbol → Symbol → Bool
same_mark (begins p) (begins q) = nat_eq p q
same_mark (ends p) (ends q) = nat_eq p q
same_mark x y = false

abbrev pub is_unseen : Symbol → List Symbol → Bool
is_unseen x [] = true
is_unseen x (reads u ∷ l) = true
is_unseen x (begins p ∷ l) = not (same_mark x (begins p)) && is_unseen x l
is_unseen x (ends p ∷ l) = not (same_mark x (ends p)) && is_unseen x l
is_unseen x (sets t ∷ l) = is_unseen x l
is_unseen x (unsets t ∷ l) = is_unseen x l
is_unseen x (picks d ∷ l) = is_unseen x l

abbrev pub is_plain : List Symbol → Bool
is_plain [] = true
is_plain (begins p ∷ l) = is_unseen (begins p) l && is_plain l
is_plain (ends p ∷ l) = is_unseen (ends p) l && is_plain l
is_plain (reads u ∷ l) = is_plain l
is_plain (sets t ∷ l) = is_plain l
is_plain (unsets t ∷ l) = is_plain l
is_plain (picks d ∷ l) = is_plain l

-- a conjunction taken apart
both_true : (a b : Bool) → (a && b) ≡ true → (a ≡ true) × (b ≡ true)
both_true true true e = (refl, refl)
both_true true false e = cc
both_true false b e = cc

same_begins : (p q : ℕ) → not (same_mark (begins p) (begins q)) ≡ true → begins p ≡ begins q → ⊥
same_begins p q h e = let k : p ≡ q = cc in let same : nat_eq p q ≡ true = eq-eqb p q k in cc

same_ends : (p q : ℕ) → not (same_mark (ends p) (ends q)) ≡ true → ends p ≡ ends q → ⊥
same_ends p q h e = let k : p ≡ q = cc in let same : nat_eq p q ≡ true = eq-eqb p q k in cc

other_begins : (x : Symbol) (q : ℕ) → not (same_mark x (begins q)) ≡ true → x ≡ begins q → ⊥
other_begins (begins p) q h e = same_begins p q h e
other_begins (ends p) q h e = cc
other_begins (reads u) q h e = cc
other_begins (sets u) q h e = cc
other_begins (unsets u) q h e = cc
other_begins (picks u) q h e = cc

other_ends : (x : Symbol) (q : ℕ) → not (same_mark x (ends q)) ≡ true → x ≡ ends q → ⊥
other_ends (ends p) q h e = same_ends p q h e
other_ends (begins p) q h e = cc
other_ends (reads u) q h e = cc
other_ends (sets u) q h e = cc
other_ends (unsets u) q h e = cc
other_ends (picks u) q h e = cc

unseen_by_test : (x : Symbol) (l : List Symbol) → is_unseen x l ≡ true → IsUnseen x l
unseen_by_test x [] h = tt
unseen_by_test x (reads u ∷ l) h = tt
unseen_by_test x (begins p ∷ l) h = let r = both_true _ _ h in (other_begins x p r.0, unseen_by_test x l r.1)
unseen_by_test x (ends p ∷ l) h = let r = both_true _ _ h in (other_ends x p r.0, unseen_by_test x l r.1)
unseen_by_test x (sets t ∷ l) h = unseen_by_test x l h
unseen_by_test x (unsets t ∷ l) h = unseen_by_test x l h
unseen_by_test x (picks t ∷ l) h = unseen_by_test x l h

-- what passes the test is plain
pub plain_by_test : (l : List Symbol) → is_plain l ≡ true → IsPlainList l
plain_by_test [] h = tt
plain_by_test (begins p ∷ l) h =
    let r = both_true (is_unseen (begins p) l) (is_plain l) h in (unseen_by_test (begins p) l r.0, plain_by_test l r.1)
plain_by_test (ends p ∷ l) h =
    let r = both_true (is_unseen (ends p) l) (is_plain l) h in (unseen_by_test (ends p) l r.0, plain_by_test l r.1)
plain_by_test (reads u ∷ l) h = plain_by_test l h
plain_by_test (sets t ∷ l) h = plain_by_test l h
plain_by_test (unsets t ∷ l) h = plain_by_test l h
plain_by_test (picks t ∷ l) h = plain_by_test l h
