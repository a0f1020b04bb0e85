-- Tests that go over a list, and stop at the first element that fails.
use Rattle.std.proofs.Common.{◌≡◌, ◌↔◌, ℕ, ◌+◌, ◌<◌, Bool, true, false, List, [], ◌∷◌, length, drop, get_or, sym, subst, add-one, refl, ap, ◌∙◌}
use Rattle.std.proofs.Math.Seq.{drop-cons}
use Rattle.std.specs.Prelude.{nat_eq, IsTrue, ◌&&◌, cond, not, codes}
use Rattle.std.proofs.lemmas.Bool.{false≢true}
use Rattle.std.specs.List.{AllByRecursion, starts_with}
use Rattle.lx_base.specs.Letters.{EachLetter, IsIdentifier, IsSpelling, begins_identifier, each_letter, begins_with, is_in_identifier, is_in_spelling}
use Rattle.lx_base.specs.Names.{IsFree}

-- the fact E of lists says that P holds of each element and those behind it
pub record IsEach {A : Type 0} (P : A → List A → Type 0) (E : List A → Type 0) : Type 0 where
  pub join : (x : A) (xs : List A) → P x xs → E xs → E (x ∷ xs)
  pub head : (x : A) (xs : List A) → E (x ∷ xs) → P x xs
  pub tail : (x : A) (xs : List A) → E (x ∷ xs) → E xs

-- the test goes on behind an element that passes
pub each_next : {A : Type 0} {P : A → List A → Type 0} {E : List A → Type 0} → IsEach P E → (xs : List A) (i : ℕ) (d : A)
    → i < length xs → (passes : Bool) → IsTrue passes ↔ P (get_or xs i d) (drop (i + 1) xs) → IsTrue passes → E (drop i xs) ↔ E xs
    → E (drop (i + 1) xs) ↔ E xs
each_next {E = E} each xs i d below passes decides is same =
    let cons : drop i xs ≡ get_or xs i d ∷ drop (i + 1) xs = rw (add-one i) (drop-cons xs i d below) in (
      λ others. same.0 (subst E (sym cons) (each.join (get_or xs i d) (drop (i + 1) xs) (decides.0 is) others)),
      λ all. each.tail (get_or xs i d) (drop (i + 1) xs) (subst E cons (same.1 all)),
    )

-- an element that fails refutes the whole
pub each_fails : {A : Type 0} {P : A → List A → Type 0} {E : List A → Type 0} → IsEach P E → (xs : List A) (i : ℕ) (d : A)
    → i < length xs → (passes : Bool) → IsTrue passes ↔ P (get_or xs i d) (drop (i + 1) xs) → passes ≡ false → E (drop i xs) ↔ E xs
    → IsTrue false ↔ E xs
each_fails {E = E} each xs i d below passes decides is same =
    let cons : drop i xs ≡ get_or xs i d ∷ drop (i + 1) xs = rw (add-one i) (drop-cons xs i d below) in (
      λ e. absurd (false≢true e),
      λ all. sym is ∙ decides.1 (each.head (get_or xs i d) (drop (i + 1) xs) (subst E cons (same.1 all))),
    )

pub AllByRecursion-each : {A : Type 0} (P : A → Type 0) → IsEach (λ x _. P x) (AllByRecursion P)
AllByRecursion-each P = record { join = λ x xs p all. (p, all); head = λ x xs all. all.0; tail = λ x xs all. all.1 }

under_front : (t : Bool) (a b : Bool) → a ≡ b → ◌≡◌ {A = Bool} (t && a) (cond t b false)
under_front true a b same = same
under_front false a b same = refl

-- std's test of a front
pub begins_with-value : (word front : List ℕ) → starts_with nat_eq word front ≡ begins_with front word
begins_with-value word [] = refl
begins_with-value [] (letter ∷ front) = refl
begins_with-value (other ∷ word) (letter ∷ front) = under_front (nat_eq letter other) _ _ (begins_with-value word front)

under_letter : {E : Type 0} (t : Bool) (others : Bool) → IsTrue others ↔ E → IsTrue (cond t others false) ↔ ((t ≡ true) × E)
under_letter true others same = (λ e. (refl, same.0 e), λ all. same.1 all.1)
under_letter false others same = (λ e. absurd (false≢true e), λ all. absurd (false≢true all.0))

-- a test of each letter decides
pub EachLetter-decides : (test : ℕ → Bool) (word : List ℕ) → IsTrue (each_letter test word) ↔ EachLetter test word
EachLetter-decides test [] = (λ _. tt, λ _. refl)
EachLetter-decides test (letter ∷ word) = under_letter (test letter) _ (EachLetter-decides test word)

-- what a test refutes
pub not_decides : {P : Type 0} → (t : Bool) → IsTrue t ↔ P → IsTrue (not t) ↔ (P → ⊥)
not_decides true decides = (λ e. absurd (false≢true e), λ none. absurd (none (decides.0 refl)))
not_decides false decides = (λ _ p. absurd (false≢true (decides.1 p)), λ _. refl)

-- a test that goes on where an identifier began
pub IsIdentifier-decides : (word : List ℕ) (letter : ℕ) (rest : List ℕ) (t : Bool) → word ≡ letter ∷ rest
    → IsTrue (begins_identifier letter) → t ≡ each_letter is_in_identifier rest → IsTrue t ↔ IsIdentifier word
IsIdentifier-decides word letter rest t word_is begins is =
    let same = EachLetter-decides is_in_identifier rest in
    subst (λ w. IsTrue t ↔ IsIdentifier w) (sym word_is) (
      λ e. (begins, same.0 (sym is ∙ e)),
      λ all. is ∙ same.1 all.1,
    )

pub IsSpelling-decides : (word : List ℕ) (t : Bool) → (0 ≡ length word → ⊥) → t ≡ each_letter is_in_spelling word → IsTrue t ↔ IsSpelling word
IsSpelling-decides word t some is =
    let same = EachLetter-decides is_in_spelling word in (
      λ e. (some, same.0 (sym is ∙ e)),
      λ all. is ∙ same.1 all.1,
    )

not_true : (t : Bool) → IsTrue (not t) → t ≡ false
not_true true e = absurd (false≢true e)
not_true false e = refl

pub IsFree-decides : (word : List ℕ) (null count groups entry : Bool)
    → IsTrue null ↔ (word ≡ codes "NULL") → IsTrue count ↔ (word ≡ codes "yynmatch") → IsTrue groups ↔ (word ≡ codes "yypmatch")
    → entry ≡ begins_with (codes "yypmatch[") word
    → null ≡ false → count ≡ false → groups ≡ false → IsTrue (not entry) ↔ IsFree word
IsFree-decides word null count groups entry null_is count_is groups_is entry_is no_null no_count no_groups = (
  λ e. record {
    null = λ is. false≢true (sym no_null ∙ null_is.1 is);
    count = λ is. false≢true (sym no_count ∙ count_is.1 is);
    groups = λ is. false≢true (sym no_groups ∙ groups_is.1 is);
    group_entry = sym entry_is ∙ not_true entry e;
  },
  λ free. ap not (entry_is ∙ free.group_entry),
)
