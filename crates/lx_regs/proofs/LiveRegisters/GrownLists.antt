-- How lists of what a search has found grow.
use Rattle.std.proofs.Common.{◌≡◌, ℕ, ◌+◌, ◌<◌, ◌≤◌, ◌⊎◌, inl, inr, arith, Bool, true, false, if◌then◌else◌, List, [], ◌∷◌, ◌++◌, length, get_or, take, refl, sym, ap, ◌∙◌, subst, append-nil, append_assoc}
use Rattle.std.specs.Bool.{Decides}
use Rattle.std.specs.Cmp.{IsEquivalence}
use Rattle.std.specs.List.{IsDistinct, list_any}
use Rattle.std.specs.Prelude.{Contains}
use Rattle.std.proofs.lemmas.Bool.{cases_lt}
use Rattle.std.proofs.lemmas.List.{get_or_append_left, get_or_default, take_more}
use Rattle.std.proofs.lemmas.List.Elements.{Contains-append_left, Contains-push, Contains-push_cases}
use Rattle.std.proofs.lemmas.Map.Made.{is_member-Decides, length-le_from_is_member}
use Rattle.lx_regs.specs.Growth.{Grows, IsDueForSome, IsSearch, TellsEqual}

-- ---- one item more, or none

module _ {X : Type 0} (same : X → X → Bool) (tells : TellsEqual same) where
  pub has-Contains : (xs : List X) (x : X) → Decides (list_any (same x) xs) (Contains xs x)
  has-Contains xs x = is_member-Decides tells xs x

  pub grows-insert : (old new : List X) (x : X) → new ≡ (if list_any (same x) old then old else old ++ x ∷ [])
      → Grows (λ other. other ≡ x) old new
  grows-insert old new x is = at (list_any (same x) old) refl is
    where
      at : (b : Bool) → list_any (same x) old ≡ b → new ≡ (if b then old else old ++ x ∷ []) → Grows (λ other. other ≡ x) old new
      at true there is = record {
        rest = [];
        behind = is ∙ sym (append-nil old);
        sound = λ other has. inl (subst (λ l. Contains l other) is has);
        complete = λ other e. subst (λ l. Contains l other) (sym is) (subst (λ o. Contains old o) (sym e) ((has-Contains old x).0 there));
      }
      at false there is = record {
        rest = x ∷ [];
        behind = is;
        sound = λ other has. later other (Contains-push_cases old x other (subst (λ l. Contains l other) is has));
        complete = λ other e. subst (λ o. Contains new o) (sym e) (subst (λ l. Contains l x) (sym is) (Contains-push old x));
      }
        where
          later : (other : X) → Contains old other ⊎ (x ≡ other) → Contains old other ⊎ (other ≡ x)
          later other (inl has) = inl has
          later other (inr e) = inr (sym e)

  -- different items that all stand in a list are no more than it has
  pub length-found : (found all : List X) → IsEquivalence same → IsDistinct same found → ((x : X) → Contains found x → Contains all x)
      → length found ≤ length all
  length-found found all laws distinct within = length-le_from_is_member laws found all distinct
      (λ x m. (is_member-Decides tells all x).1 (within x ((is_member-Decides tells found x).0 m)))

-- ---- step by step

module _ {X : Type 0} where
  pub grows-none : (IsDue : X → Type 0) (old : List X) → ((x : X) → ¬ IsDue x) → Grows IsDue old old
  grows-none IsDue old none = record {
    rest = [];
    behind = sym (append-nil old);
    sound = λ x has. inl has;
    complete = λ x due. absurd (none x due);
  }

  pub grows-alike : (IsDue IsAlso : X → Type 0) (old new : List X) → ((x : X) → IsDue x → IsAlso x) → ((x : X) → IsAlso x → IsDue x)
      → Grows IsDue old new → Grows IsAlso old new
  grows-alike IsDue IsAlso old new to back grows = record {
    rest = grows.rest;
    behind = grows.behind;
    sound = λ x has. at x (grows.sound x has);
    complete = λ x due. grows.complete x (back x due);
  }
    where
      at : (x : X) → Contains old x ⊎ IsDue x → Contains old x ⊎ IsAlso x
      at x (inl has) = inl has
      at x (inr due) = inr (to x due)

  pub grown-has : (IsDue : X → Type 0) (old new : List X) → Grows IsDue old new → (x : X) → Contains old x → Contains new x
  grown-has IsDue old new grows x has = subst (λ l. Contains l x) (sym grows.behind) (Contains-append_left old grows.rest x has)

  pub grows-both : (IsDue IsAlso : X → Type 0) (old middle new : List X) → Grows IsDue old middle → Grows IsAlso middle new
      → Grows (λ x. IsDue x ⊎ IsAlso x) old new
  grows-both IsDue IsAlso old middle new first second = record {
    rest = first.rest ++ second.rest;
    behind = second.behind ∙ ap (λ l. l ++ second.rest) first.behind ∙ append_assoc old first.rest second.rest;
    sound = λ x has. at x (second.sound x has);
    complete = λ x due. found x due;
  }
    where
      before : (x : X) → Contains old x ⊎ IsDue x → Contains old x ⊎ (IsDue x ⊎ IsAlso x)
      before x (inl has) = inl has
      before x (inr due) = inr (inl due)

      at : (x : X) → Contains middle x ⊎ IsAlso x → Contains old x ⊎ (IsDue x ⊎ IsAlso x)
      at x (inl has) = before x (first.sound x has)
      at x (inr due) = inr (inr due)

      found : (x : X) → IsDue x ⊎ IsAlso x → Contains new x
      found x (inl due) = grown-has IsAlso middle new second x (first.complete x due)
      found x (inr due) = second.complete x due

-- what is due for each of a list's items, one item behind the other
module _ {X Y : Type 0} (items : List X) (IsDue : X → Y → Type 0) where
  pub grows-item : (place : ℕ) (x : X) (old middle new : List Y) → place < length items → get_or items place x ≡ x
      → Grows (IsDueForSome (take place items) IsDue) old middle → Grows (IsDue x) middle new
      → Grows (IsDueForSome (take (place + 1) items) IsDue) old new
  grows-item place x old middle new within is first second =
      grows-alike (λ y. IsDueForSome (take place items) IsDue y ⊎ IsDue x y) (IsDueForSome (take (place + 1) items) IsDue) old new to back
      (grows-both (IsDueForSome (take place items) IsDue) (IsDue x) old middle new first second)
    where
      more : take (place + 1) items ≡ take place items ++ x ∷ []
      more = take_more items place x within ∙ ap (λ e. take place items ++ e ∷ []) is

      to : (y : Y) → IsDueForSome (take place items) IsDue y ⊎ IsDue x y → IsDueForSome (take (place + 1) items) IsDue y
      to y (inl due) = (
        due.0,
        subst (λ l. Contains l due.0) (sym more) (Contains-append_left (take place items) (x ∷ []) due.0 due.1),
        due.2,
      )
      to y (inr due) = (x, subst (λ l. Contains l x) (sym more) (Contains-push (take place items) x), due)

      back : (y : Y) → IsDueForSome (take (place + 1) items) IsDue y → IsDueForSome (take place items) IsDue y ⊎ IsDue x y
      back y (other, has, due) = at (Contains-push_cases (take place items) x other (subst (λ l. Contains l other) more has))
        where
          at : Contains (take place items) other ⊎ (x ≡ other) → IsDueForSome (take place items) IsDue y ⊎ IsDue x y
          at (inl has) = inl (other, has, due)
          at (inr e) = inr (subst (λ o. IsDue o y) (sym e) due)

-- ---- searches

module _ {X : Type 0} (IsRight : X → Type 0) (IsNext : X → X → Type 0) where
  -- the next item of the work list is done
  pub search-more : (found new : List X) (done : ℕ) (x : X) → IsSearch IsRight IsNext found done → done < length found
      → get_or found done x ≡ x
      → Grows (IsNext x) found new → ((next : X) → IsNext x next → IsRight next) → IsSearch IsRight IsNext new (done + 1)
  search-more found new done x search within is grows keeps = record {
    within = omega (arith, length-behind);
    right = λ other has. right other (grows.sound other has);
    closed = λ place other next lt is_next. closed place other next is_next (cases_lt place done) lt;
  }
    where
      length-behind : done < length new
      length-behind = let a = ap length grows.behind in let b = length-both in omega (arith, a, b)
        where
          length-both : length found ≤ length (found ++ grows.rest)
          length-both = omega (arith, length-append-le found grows.rest)
            where
              length-append-le : (xs ys : List X) → length xs ≤ length (xs ++ ys)
              length-append-le [] ys = omega arith
              length-append-le (x ∷ xs) ys = let later = length-append-le xs ys in omega (arith, later)

      right : (other : X) → Contains found other ⊎ IsNext x other → IsRight other
      right other (inl has) = search.right other has
      right other (inr next) = keeps other next

      closed : (place : ℕ) (other next : X) → IsNext (get_or new place other) next → (place < done) ⊎ (done ≤ place) → place < done + 1
          → Contains new next
      closed place other next is_next (inl lt) _ =
          let same : get_or new place other ≡ get_or found place other =
          ap (λ l. get_or l place other) grows.behind ∙ get_or_append_left found grows.rest other place (omega arith) in
          grown-has (IsNext x) found new grows next (search.closed place other next lt (subst (λ o. IsNext o next) same is_next))
      closed place other next is_next (inr le) lt =
          let here : place ≡ done = omega arith in
          let same : get_or new place other ≡ x =
          ap (λ l. get_or l place other) grows.behind ∙ get_or_append_left found grows.rest other place (omega arith)
          ∙ ap (λ p. get_or found p other) here ∙ get_or_default found done other x within ∙ is in
          grows.complete next (subst (λ o. IsNext o next) same is_next)

  -- where all are done, what is next to one of them is one of them
  pub search-ends : (found : List X) (done : ℕ) → IsSearch IsRight IsNext found done → length found ≤ done → (x next : X) → Contains found x
      → IsNext x next → Contains found next
  search-ends found done search all x next (place, within, is) is_next =
      search.closed place x next (omega arith) (subst (λ o. IsNext o next) (sym is) is_next)

  pub search-begins : (old new : List X) (x : X) → old ≡ [] → Grows (λ other. other ≡ x) old new → IsRight x → IsSearch IsRight IsNext new 0
  search-begins old new x none grows right = record {
    within = omega arith;
    right = λ other has. at other (grows.sound other has);
    closed = λ place other next lt is_next. absurd (omega arith);
  }
    where
      at : (other : X) → Contains old other ⊎ (other ≡ x) → IsRight other
      at other (inl has) = absurd (let n = ap length none in omega (arith, n, has.1))
      at other (inr e) = subst IsRight (sym e) right

-- the same of an item that code reads at a place
pub grows-place : {X Y : Type 0} (items : List X) (IsDue : X → Y → Type 0) (place : ℕ) (d : X) (old middle new : List Y)
    → place < length items
    → Grows (IsDueForSome (take place items) IsDue) old middle → Grows (IsDue (get_or items place d)) middle new
    → Grows (IsDueForSome (take (place + 1) items) IsDue) old new
grows-place items IsDue place d old middle new within first second =
    grows-item items IsDue place (get_or items place d) old middle new within (get_or_default items place (get_or items place d) d within)
    first second

-- where just one item is due
pub grows-one : {X : Type 0} (IsDue : X → Type 0) (x : X) (old new : List X) → IsDue x → ((other : X) → IsDue other → other ≡ x)
    → Grows (λ other. other ≡ x) old new → Grows IsDue old new
grows-one IsDue x old new due one grows =
    grows-alike (λ other. other ≡ x) IsDue old new (λ other same. subst IsDue (sym same) due) one grows

-- where nothing is done yet
pub search-starts : {X : Type 0} (IsRight : X → Type 0) (IsNext : X → X → Type 0) (found : List X)
    → ((x : X) → Contains found x → IsRight x)
    → IsSearch IsRight IsNext found 0
search-starts IsRight IsNext found right = record {
  within = omega arith;
  right = right;
  closed = λ place x next lt is_next. absurd (omega arith);
}
