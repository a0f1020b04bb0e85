-- Different numbers: how many they are, and that they are found from the least on.
use Rattle.std.proofs.Common.{◌≡◌, ◌∙◌, sym, ap, subst, refl, ℕ, suc, ◌+◌, ◌<◌, ◌≤◌, ◌⊎◌, inl, inr, Bool, true, false, ◌==◌, ◌&&◌, if◌then◌else◌, nat_le, nat_lt, List, [], ◌∷◌, ◌++◌, length, length-append, drop, get_or, Option, Some, None, arith, eqb-true, eq-eqb}
use Rattle.std.specs.List.{list_any, position_or_len, AllByRecursion}
use Rattle.std.proofs.lemmas.Bool.{false≢true, leb-false, leb-true, ltb-false, ltb-true, lt-ltb, le-ltb}
use Rattle.std.proofs.Math.Seq.{drop-cons}
use Rattle.lx_ccode.specs.declared.piece.Stmt.{Stmt}
use Rattle.lx_ccode.specs.declared.piece.CodeBlock.{CodeBlock}
use Rattle.lx_ccode.specs.Statements.{all_statements}
use Rattle.lx_step.specs.declared.numbers.Sort.{Sort}
use Rattle.lx_step.specs.Numbers.{least_in_all, lesser_of, numbers_from, numbers_in, place_of, with_number}
use Rattle.lx_step.specs.Steps.{IsPlaced}
use Rattle.lx_step.proofs.BlockLists.{all_statements-drop}

-- how many of the numbers are below another one
abbrev pub count_below : (from : ℕ) → List ℕ → ℕ
count_below from [] = 0
count_below from (number ∷ numbers) = if nat_lt number from then suc (count_below from numbers) else count_below from numbers

-- a number is one of them
abbrev pub Among : ℕ → List ℕ → Type 0
Among number [] = ⊥
Among number (first ∷ numbers) = (first ≡ number) ⊎ Among number numbers

-- no number stands twice
abbrev pub AreOnce : List ℕ → Type 0
AreOnce [] = Unit {0}
AreOnce (first ∷ numbers) = (Among first numbers → ⊥) × AreOnce numbers

-- of the numbers from another one on, none but this one is less or the same
abbrev pub AreOutside : (from least : ℕ) → List ℕ → Type 0
AreOutside from least numbers = AllByRecursion (λ number. (number < from) ⊎ (least ≤ number)) numbers

-- the least of the numbers from another one on, where there is one
abbrev pub IsLeast : (from : ℕ) → List ℕ → Option ℕ → Type 0
IsLeast from numbers None = AllByRecursion (λ number. number < from) numbers
IsLeast from numbers (Some least) = (from ≤ least) × Among least numbers × AreOutside from least numbers

-- ---- one number more

Among-append : (number : ℕ) (numbers : List ℕ) (last : ℕ) → Among number numbers → Among number (numbers ++ last ∷ [])
Among-append number [] last h = absurd h
Among-append number (first ∷ numbers) last (inl e) = inl e
Among-append number (first ∷ numbers) last (inr h) = inr (Among-append number numbers last h)

Among-last : (number : ℕ) (numbers : List ℕ) → Among number (numbers ++ number ∷ [])
Among-last number [] = inl refl
Among-last number (first ∷ numbers) = inr (Among-last number numbers)

Among-split : (number : ℕ) (numbers : List ℕ) (last : ℕ) → Among number (numbers ++ last ∷ []) → Among number numbers ⊎ (last ≡ number)
Among-split number [] last (inl e) = inr e
Among-split number [] last (inr h) = absurd h
Among-split number (first ∷ numbers) last (inl e) = inl (inl e)
Among-split number (first ∷ numbers) last (inr h) = elim (Among-split number numbers last h) [ inl k ↦ inl (inr k) | inr e ↦ inr e ]

all-append : (P : ℕ → Type 0) (numbers : List ℕ) (last : ℕ) → AllByRecursion P numbers → P last → AllByRecursion P (numbers ++ last ∷ [])
all-append P [] last h p = (p, tt)
all-append P (first ∷ numbers) last h p = (h.0, all-append P numbers last h.1 p)

all-among : (P : ℕ → Type 0) (numbers : List ℕ) (number : ℕ) → AllByRecursion P numbers → Among number numbers → P number
all-among P [] number h k = absurd k
all-among P (first ∷ numbers) number h (inl e) = subst P e h.0
all-among P (first ∷ numbers) number h (inr k) = all-among P numbers number h.1 k

all-more : (P Q : ℕ → Type 0) (numbers : List ℕ) → ((number : ℕ) → P number → Q number) → AllByRecursion P numbers → AllByRecursion Q numbers
all-more P Q [] on h = tt
all-more P Q (first ∷ numbers) on h = (on first h.0, all-more P Q numbers on h.1)

AreOnce-append : (numbers : List ℕ) (last : ℕ) → (Among last numbers → ⊥) → AreOnce numbers → AreOnce (numbers ++ last ∷ [])
AreOnce-append [] last new once = ((λ h. h), tt)
AreOnce-append (first ∷ numbers) last new once = (
  λ h. elim (Among-split first numbers last h) [ inl k ↦ once.0 k | inr e ↦ new (inl (sym e)) ],
  AreOnce-append numbers last (λ h. new (inr h)) once.1,
)

any-true : (number : ℕ) (numbers : List ℕ) → list_any (λ other. number == other) numbers ≡ true → Among number numbers
any-true number [] e = absurd (false≢true e)
any-true number (first ∷ numbers) e = by (number == first) refl (any-true number numbers) where
  by : (same : Bool) → (number == first) ≡ same → (list_any (λ other. number == other) numbers ≡ true → Among number numbers) → Among number (first ∷ numbers)
  by true is later = inl (sym (eqb-true number first is))
  by false is later = inr (later (rw is at e))

any-false : (number : ℕ) (numbers : List ℕ) → list_any (λ other. number == other) numbers ≡ false → Among number numbers → ⊥
any-false number [] e h = h
any-false number (first ∷ numbers) e (inl same) = false≢true (sym e ∙ rw (eq-eqb number first (sym same)) refl)
any-false number (first ∷ numbers) e (inr h) = by (number == first) refl (any-false number numbers) where
  by : (same : Bool) → (number == first) ≡ same → (list_any (λ other. number == other) numbers ≡ false → Among number numbers → ⊥) → ⊥
  by true is later = false≢true (sym e ∙ rw is refl)
  by false is later = later (rw is at e) h

-- what holds with the number among them, and with it behind them where it is none of them, holds with it put to them
with_number-by : (P : List ℕ → Type 0) (number : ℕ) (numbers : List ℕ) → (Among number numbers → P numbers) → ((Among number numbers → ⊥) → P (numbers ++ number ∷ []))
    → P (with_number (Some number) numbers)
with_number-by P number numbers old new = by (list_any (λ other. number == other) numbers) refl where
  by : (test : Bool) → list_any (λ other. number == other) numbers ≡ test → P (if test then numbers else numbers ++ number ∷ [])
  by true is = old (any-true number numbers is)
  by false is = new (any-false number numbers is)

AreOnce-with : (number : Option ℕ) (numbers : List ℕ) → AreOnce numbers → AreOnce (with_number number numbers)
AreOnce-with None numbers once = once
AreOnce-with (Some number) numbers once = with_number-by AreOnce number numbers (λ h. once) (λ new. AreOnce-append numbers number new once)

pub length-with : (number : Option ℕ) (numbers : List ℕ) → length numbers ≤ length (with_number number numbers)
length-with None numbers = omega arith
length-with (Some number) numbers =
    with_number-by (λ more. length numbers ≤ length more) number numbers (λ h. omega arith) (λ new. omega (arith, length-append numbers (number ∷ [])))

pub length-numbers_from : (sort : Sort) (statements : List Stmt) (numbers : List ℕ) → length numbers ≤ length (numbers_from sort statements numbers)
length-numbers_from sort [] numbers = omega arith
length-numbers_from sort (statement ∷ statements) numbers =
    let first : List ℕ = with_number (numbers_in sort statement).0 numbers in
    let second : List ℕ = with_number (numbers_in sort statement).1 first in
    omega (arith, length-with (numbers_in sort statement).0 numbers, length-with (numbers_in sort statement).1 first, length-numbers_from sort statements second)

AreOnce-from : (sort : Sort) (statements : List Stmt) (numbers : List ℕ) → AreOnce numbers → AreOnce (numbers_from sort statements numbers)
AreOnce-from sort [] numbers once = once
AreOnce-from sort (statement ∷ statements) numbers once =
    AreOnce-from sort statements _ (AreOnce-with (numbers_in sort statement).1 _ (AreOnce-with (numbers_in sort statement).0 numbers once))

-- ---- the least

module _ (from number : ℕ) (numbers : List ℕ) where
  least-none : (test : Bool) → nat_le from number ≡ test → IsLeast from numbers None
      → IsLeast from (with_number (Some number) numbers) (if test then Some number else None)
  least-none true is least =
      let on : from ≤ number = leb-true from number is in
      with_number-by (λ more. IsLeast from more (Some number)) number numbers
      (λ h. let below : number < from = all-among (λ one. one < from) numbers number least h in absurd (omega (arith, on, below)))
      (λ new. (on, Among-last number numbers, all-append _ numbers number (all-more (λ one. one < from) _ numbers (λ one below. inl below) least) (inr (omega arith))))
  least-none false is least =
      with_number-by (λ more. IsLeast from more None) number numbers (λ h. least) (λ new. all-append _ numbers number least (leb-false from number is))

  least-other : (other : ℕ) → ((number < from) ⊎ (other ≤ number)) → IsLeast from numbers (Some other) → IsLeast from (with_number (Some number) numbers) (Some other)
  least-other other outside least =
      with_number-by (λ more. IsLeast from more (Some other)) number numbers (λ h. least)
      (λ new. (least.0, Among-append other numbers number least.1, all-append _ numbers number least.2 outside))

  least-new : (other : ℕ) → number < other → from ≤ number → IsLeast from numbers (Some other) → IsLeast from (with_number (Some number) numbers) (Some number)
  least-new other less on least =
      with_number-by (λ more. IsLeast from more (Some number)) number numbers
      (λ h. let outside : (number < from) ⊎ (other ≤ number) = all-among (λ one. (one < from) ⊎ (other ≤ one)) numbers number least.2 h in absurd (omega (arith, less, on, outside)))
      (λ new. (on, Among-last number numbers, all-append _ numbers number (all-more (λ one. (one < from) ⊎ (other ≤ one)) _ numbers (λ one outside. nearer one outside) least.2) (inr (omega arith))))
    where
      nearer : (one : ℕ) → ((one < from) ⊎ (other ≤ one)) → (one < from) ⊎ (number ≤ one)
      nearer one (inl below) = inl below
      nearer one (inr above) = inr (omega (arith, above, less))

  least-some : (other : ℕ) (less on : Bool) → nat_lt number other ≡ less → nat_le from number ≡ on → IsLeast from numbers (Some other)
      → IsLeast from (with_number (Some number) numbers) (if less && on then Some number else Some other)
  least-some other true true less on least = least-new other (ltb-true number other less) (leb-true from number on) least
  least-some other true false less on least = least-other other (inl (leb-false from number on)) least
  least-some other false on_test less on least = least-other other (inr (ltb-false number other less)) least

IsLeast-with : (from : ℕ) (number : Option ℕ) (numbers : List ℕ) (least : Option ℕ) → IsLeast from numbers least → IsLeast from (with_number number numbers) (lesser_of number from least)
IsLeast-with from None numbers least h = h
IsLeast-with from (Some number) numbers None h = least-none from number numbers (nat_le from number) refl h
IsLeast-with from (Some number) numbers (Some other) h = least-some from number numbers other (nat_lt number other) (nat_le from number) refl refl h

IsLeast-from : (sort : Sort) (from : ℕ) (statements : List Stmt) (numbers : List ℕ) (least : Option ℕ) → IsLeast from numbers least
    → IsLeast from (numbers_from sort statements numbers) (least_in_all sort from statements least)
IsLeast-from sort from [] numbers least h = h
IsLeast-from sort from (statement ∷ statements) numbers least h =
    IsLeast-from sort from statements _ _ (IsLeast-with from (numbers_in sort statement).1 _ _ (IsLeast-with from (numbers_in sort statement).0 numbers least h))

-- ---- counts

counted : (from number : ℕ) (numbers : List ℕ) → number < from → count_below from (number ∷ numbers) ≡ suc (count_below from numbers)
counted from number numbers below = rw (lt-ltb number from below) refl

passed : (from number : ℕ) (numbers : List ℕ) → from ≤ number → count_below from (number ∷ numbers) ≡ count_below from numbers
passed from number numbers above = rw (le-ltb number from above) refl

pub count_below-none : (numbers : List ℕ) → count_below 0 numbers ≡ 0
count_below-none [] = refl
count_below-none (first ∷ numbers) = passed 0 first numbers (omega arith) ∙ count_below-none numbers

count_below-all : (from : ℕ) (numbers : List ℕ) → IsLeast from numbers None → count_below from numbers ≡ length numbers
count_below-all from [] h = refl
count_below-all from (first ∷ numbers) h = counted from first numbers h.0 ∙ ap suc (count_below-all from numbers h.1)

-- none of them is the least
count_below-same : (from least : ℕ) (numbers : List ℕ) → from ≤ least → (Among least numbers → ⊥) → AreOutside from least numbers
    → count_below (least + 1) numbers ≡ count_below from numbers
count_below-same from least [] on none outside = refl
count_below-same from least (first ∷ numbers) on none outside = by outside.0 (count_below-same from least numbers on (λ h. none (inr h)) outside.1) where
  by : ((first < from) ⊎ (least ≤ first)) → count_below (least + 1) numbers ≡ count_below from numbers → count_below (least + 1) (first ∷ numbers) ≡ count_below from (first ∷ numbers)
  by (inl below) rest = counted (least + 1) first numbers (omega (arith, below, on)) ∙ ap suc rest ∙ sym (counted from first numbers below)
  by (inr above) rest =
      let less : least + 1 ≤ first = let differs : first ≡ least → ⊥ = λ same. none (inl same) in omega (arith, above, differs) in
      passed (least + 1) first numbers less ∙ rest ∙ sym (passed from first numbers (omega (arith, less, on)))

count_below-next : (from least : ℕ) (numbers : List ℕ) → AreOnce numbers → IsLeast from numbers (Some least) → count_below (least + 1) numbers ≡ suc (count_below from numbers)
count_below-next from least [] once h = absurd h.1
count_below-next from least (first ∷ numbers) once h = by h.1 (λ k. count_below-next from least numbers once.1 (h.0, k, h.2.1)) where
  on : from ≤ least
  on = h.0

  by : ((first ≡ least) ⊎ Among least numbers) → (Among least numbers → count_below (least + 1) numbers ≡ suc (count_below from numbers))
      → count_below (least + 1) (first ∷ numbers) ≡ suc (count_below from (first ∷ numbers))
  by (inl same) later =
      counted (least + 1) first numbers (omega (arith, same))
      ∙ ap suc (count_below-same from least numbers on (λ k. once.0 (subst (λ n. Among n numbers) (sym same) k)) h.2.1 ∙ sym (passed from first numbers (omega (arith, same, on))))
  by (inr k) later = apart h.2.0 where
    apart : ((first < from) ⊎ (least ≤ first)) → count_below (least + 1) (first ∷ numbers) ≡ suc (count_below from (first ∷ numbers))
    apart (inl below) = counted (least + 1) first numbers (omega (arith, below, on)) ∙ ap suc (later k ∙ sym (counted from first numbers below))
    apart (inr above) =
        let differs : first ≡ least → ⊥ = λ same. once.0 (subst (λ n. Among n numbers) (sym same) k) in
        let less : least + 1 ≤ first = omega (arith, above, differs) in
        passed (least + 1) first numbers less ∙ later k ∙ ap suc (sym (passed from first numbers (omega (arith, less, on))))

-- the number that comes next, of those that statements name
pub count_below-found : (sort : Sort) (statements : List Stmt) (from count least : ℕ) → count ≡ count_below from (numbers_from sort statements [])
    → least_in_all sort from statements None ≡ Some least → (from ≤ least) × (count + 1 ≡ count_below (least + 1) (numbers_from sort statements []))
count_below-found sort statements from count least is found =
    let h : IsLeast from (numbers_from sort statements []) (Some least) = subst (IsLeast from (numbers_from sort statements [])) found (IsLeast-from sort from statements [] None tt) in
    let next = count_below-next from least (numbers_from sort statements []) (AreOnce-from sort statements [] tt) h in
    (h.0, omega (arith, is, next))

pub count_below-end : (sort : Sort) (statements : List Stmt) (from count : ℕ) → count ≡ count_below from (numbers_from sort statements [])
    → least_in_all sort from statements None ≡ None → count ≡ length (numbers_from sort statements [])
count_below-end sort statements from count is none =
    is ∙ count_below-all from (numbers_from sort statements []) (subst (IsLeast from (numbers_from sort statements [])) none (IsLeast-from sort from statements [] None tt))

-- ---- statement by statement

pub numbers_from-append : (sort : Sort) (front back : List Stmt) (numbers : List ℕ) → numbers_from sort (front ++ back) numbers ≡ numbers_from sort back (numbers_from sort front numbers)
numbers_from-append sort [] back numbers = refl
numbers_from-append sort (statement ∷ front) back numbers = numbers_from-append sort front back _

pub least_in_all-append : (sort : Sort) (from : ℕ) (front back : List Stmt) (least : Option ℕ)
    → least_in_all sort from (front ++ back) least ≡ least_in_all sort from back (least_in_all sort from front least)
least_in_all-append sort from [] back least = refl
least_in_all-append sort from (statement ∷ front) back least = least_in_all-append sort from front back _

-- with the numbers of the next statement there are at most as many as in the end
pub length-next : (sort : Sort) (statements : List Stmt) (place : ℕ) (statement : Stmt) (numbers all : List ℕ) → place < length statements → statement ≡ get_or statements place statement
    → numbers_from sort (drop place statements) numbers ≡ all
    → length (with_number (numbers_in sort statement).1 (with_number (numbers_in sort statement).0 numbers)) ≤ length all
length-next sort statements place statement numbers all below is so_far =
    let split : drop place statements ≡ statement ∷ drop (suc place) statements = drop-cons statements place statement below ∙ ap (λ one. one ∷ drop (suc place) statements) (sym is) in
    let total : numbers_from sort (statement ∷ drop (suc place) statements) numbers ≡ all = ap (λ rest. numbers_from sort rest numbers) (sym split) ∙ so_far in
    let more : List ℕ = with_number (numbers_in sort statement).1 (with_number (numbers_in sort statement).0 numbers) in
    let long : length more ≤ length (numbers_from sort (drop (suc place) statements) more) = length-numbers_from sort (drop (suc place) statements) more in
    omega (arith, long, ap length total)

-- and so with the numbers of the next block
pub length-next_block : (sort : Sort) (blocks : List CodeBlock) (place : ℕ) (block : CodeBlock) (front : List Stmt) (numbers all : List ℕ) → place < length blocks → block ≡ get_or blocks place block
    → front ≡ block.stmts → numbers_from sort (all_statements (drop place blocks)) numbers ≡ all → length (numbers_from sort front numbers) ≤ length all
length-next_block sort blocks place block front numbers all below is front_is so_far =
    let rest : List Stmt = all_statements (drop (place + 1) blocks) in
    let total : numbers_from sort rest (numbers_from sort front numbers) ≡ all =
    sym (numbers_from-append sort front rest numbers) ∙ ap (λ statements. numbers_from sort statements numbers) (sym (all_statements-drop blocks place block front below is front_is)) ∙ so_far in
    let long : length (numbers_from sort front numbers) ≤ length (numbers_from sort rest (numbers_from sort front numbers)) = length-numbers_from sort rest (numbers_from sort front numbers) in
    omega (arith, long, ap length total)

-- ---- places

Among-with : (number : ℕ) (one : Option ℕ) (numbers : List ℕ) → Among number numbers → Among number (with_number one numbers)
Among-with number None numbers h = h
Among-with number (Some one) numbers h = with_number-by (Among number) one numbers (λ k. h) (λ new. Among-append number numbers one h)

-- the number, where there is one, is one of them
abbrev pub IsAmong : List ℕ → Option ℕ → Type 0
IsAmong numbers None = Unit {0}
IsAmong numbers (Some number) = Among number numbers

IsAmong-with : (one : Option ℕ) (numbers : List ℕ) → IsAmong (with_number one numbers) one
IsAmong-with None numbers = tt
IsAmong-with (Some number) numbers = with_number-by (Among number) number numbers (λ k. k) (λ new. Among-last number numbers)

IsAmong-more : (one other : Option ℕ) (numbers : List ℕ) → IsAmong numbers one → IsAmong (with_number other numbers) one
IsAmong-more None other numbers h = tt
IsAmong-more (Some number) other numbers h = Among-with number other numbers h

IsAmong-from : (sort : Sort) (statements : List Stmt) (numbers : List ℕ) (one : Option ℕ) → IsAmong numbers one → IsAmong (numbers_from sort statements numbers) one
IsAmong-from sort [] numbers one h = h
IsAmong-from sort (statement ∷ statements) numbers one h =
    IsAmong-from sort statements _ one (IsAmong-more one (numbers_in sort statement).1 _ (IsAmong-more one (numbers_in sort statement).0 numbers h))

-- the numbers that the statement names are among these
pub record AreAmong (sort : Sort) (numbers : List ℕ) (statement : Stmt) : Type 0 where
  pub first : IsAmong numbers (numbers_in sort statement).0
  pub second : IsAmong numbers (numbers_in sort statement).1

pub all-among-from : (sort : Sort) (statements : List Stmt) (numbers : List ℕ) → AllByRecursion (AreAmong sort (numbers_from sort statements numbers)) statements
all-among-from sort [] numbers = tt
all-among-from sort (statement ∷ statements) numbers =
    let first : List ℕ = with_number (numbers_in sort statement).0 numbers in
    let second : List ℕ = with_number (numbers_in sort statement).1 first in (
      record {
        first = IsAmong-from sort statements second (numbers_in sort statement).0 (IsAmong-more (numbers_in sort statement).0 (numbers_in sort statement).1 first (IsAmong-with (numbers_in sort statement).0 numbers));
        second = IsAmong-from sort statements second (numbers_in sort statement).1 (IsAmong-with (numbers_in sort statement).1 first);
      },
      all-among-from sort statements second,
    )

position_or_len-among : (number : ℕ) (numbers : List ℕ) → Among number numbers → position_or_len (λ other. number == other) numbers < length numbers
position_or_len-among number [] h = absurd h
position_or_len-among number (first ∷ numbers) h = by (number == first) refl h (position_or_len-among number numbers) where
  by : (same : Bool) → (number == first) ≡ same → ((first ≡ number) ⊎ Among number numbers) → (Among number numbers → position_or_len (λ other. number == other) numbers < length numbers)
      → position_or_len (λ other. number == other) (first ∷ numbers) < length (first ∷ numbers)
  by true is h later = rw is (omega arith)
  by false is (inl e) later = absurd (false≢true (sym is ∙ eq-eqb number first (sym e)))
  by false is (inr h) later = let found = later h in rw is (omega (arith, found))

pub place_of-among : (number : ℕ) (numbers : List ℕ) → Among number numbers → place_of numbers number < length numbers
unfolding place_of
place_of-among number numbers h =
    let below = position_or_len-among number numbers h in
    rw (lt-ltb (position_or_len (λ other. number == other) numbers) (length numbers) below, place_of) below

pub IsPlaced-among : (numbers : List ℕ) (count : ℕ) (one : Option ℕ) → count ≡ length numbers → IsAmong numbers one → IsPlaced numbers count one
IsPlaced-among numbers count None long h = tt
IsPlaced-among numbers count (Some number) long h = let below = place_of-among number numbers h in omega (arith, below, long)
