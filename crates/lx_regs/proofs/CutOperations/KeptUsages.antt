-- How what is kept of the live registers is filled, step by step.
use Rattle.std.proofs.Common.{◌≡◌, ℕ, zero, suc, ◌+◌, ◌<◌, ◌⊎◌, inl, inr, arith, Bool, true, false, List, [], ◌∷◌, ◌++◌, length, get_or, set, take, refl, sym, ap, ◌∙◌, subst}
use Rattle.std.specs.Prelude.{◌≢◌, Contains, replicate}
use Rattle.std.proofs.lemmas.Bool.{cases_eq, false≢true}
use Rattle.std.proofs.lemmas.List.{get_or-set_other, get_or-set_same, get_or_default, length-replicate, length-set, take_more}
use Rattle.std.proofs.lemmas.List.Elements.{Contains-append_left, Contains-push, Contains-push_cases}
use Rattle.lx_auto.specs.declared.automaton.Held.{Held}
use Rattle.lx_regs.specs.declared.items.Item.{Item}
use Rattle.lx_regs.specs.declared.live.Usage.{Usage}
use Rattle.lx_regs.specs.declared.reached.Pair.{Pair}
use Rattle.lx_regs.specs.Keys.{held_of}
use Rattle.lx_regs.specs.Liveness.{AddsUsage, AreHeldBehind, AreMarked, AreSorted, MayBeThere, usages_at}

front-more : {X : Type 0} (xs : List X) (place : ℕ) (d : X) → place < length xs
    → take (place + 1) xs ≡ take place xs ++ get_or xs place d ∷ []
front-more xs place d within =
    take_more xs place (get_or xs place d) within ∙ ap (λ e. take place xs ++ e ∷ []) (get_or_default xs place (get_or xs place d) d within)

get_or-replicate : {X : Type 0} (count place : ℕ) (x : X) → get_or (replicate count x) place x ≡ x
get_or-replicate zero place x = refl
get_or-replicate (suc count) zero x = refl
get_or-replicate (suc count) (suc place) x = get_or-replicate count place x

-- ---- usages by state

pub sorted-none : (count : ℕ) (items : List Item) (lists : List (List Usage)) → lists ≡ replicate count []
    → AreSorted count (take 0 items) lists
sorted-none count items lists is = record {
  fit = ap length is ∙ length-replicate count [];
  sound = λ state usage has. absurd
      (let n = ap length (ap (λ l. usages_at l state) is ∙ get_or-replicate count state []) in omega (arith, n, has.1));
  complete = λ item lt has. absurd (omega (arith, has.1));
}

module _ (count : ℕ) (items : List Item) (place : ℕ) (d : Item) (lists new : List (List Usage)) (within : place < length items)
    (small : (get_or items place d).state < count)
    (put : new ≡ set lists (get_or items place d).state
    (usages_at lists (get_or items place d).state ++ record
    { group = (get_or items place d).group; key = (get_or items place d).key } ∷ []))
    (are : AreSorted count (take place items) lists) where
  abbrev one : Usage
  one = record { group = (get_or items place d).group; key = (get_or items place d).key }

  abbrev at : ℕ
  at = (get_or items place d).state

  here : usages_at new at ≡ usages_at lists at ++ one ∷ []
  here = ap (λ l. usages_at l at) put ∙ get_or-set_same lists at (usages_at lists at ++ one ∷ []) []
      (let fit = are.fit in omega (arith, fit, small))

  elsewhere : (state : ℕ) → state ≢ at → usages_at new state ≡ usages_at lists state
  elsewhere state apart = ap (λ l. usages_at l state) put ∙ get_or-set_other lists at state (usages_at lists at ++ one ∷ []) [] apart

  wider : (other : Item) → Contains (take place items) other → Contains (take (place + 1) items) other
  wider other has = subst (λ l. Contains l other) (sym (front-more items place d within))
      (Contains-append_left (take place items) (get_or items place d ∷ []) other has)

  last : Contains (take (place + 1) items) (get_or items place d)
  last = subst (λ l. Contains l (get_or items place d)) (sym (front-more items place d within))
      (Contains-push (take place items) (get_or items place d))

  sound-more : (state : ℕ) (usage : Usage) → (state ≡ at) ⊎ (state ≢ at) → Contains (usages_at new state) usage
      → Contains (take (place + 1) items) (record { state = state; group = usage.group; key = usage.key })
  sound-more state usage (inl same) has =
      by (Contains-push_cases (usages_at lists at) one usage (subst (λ l. Contains l usage) (ap (usages_at new) same ∙ here) has))
    where
      by : Contains (usages_at lists at) usage ⊎ (one ≡ usage)
          → Contains (take (place + 1) items) (record { state = state; group = usage.group; key = usage.key })
      by (inl was) = wider (record { state = state; group = usage.group; key = usage.key })
          (are.sound state usage (subst (λ s. Contains (usages_at lists s) usage) (sym same) was))
      by (inr is) = subst (λ (u : Usage). Contains (take (place + 1) items) (record { state = state; group = u.group; key = u.key })) is
          (subst (λ s. Contains (take (place + 1) items) (record { state = s; group = one.group; key = one.key })) (sym same) last)
  sound-more state usage (inr apart) has = wider (record { state = state; group = usage.group; key = usage.key })
      (are.sound state usage (subst (λ l. Contains l usage) (elsewhere state apart) has))

  kept : (state : ℕ) (usage : Usage) → (state ≡ at) ⊎ (state ≢ at) → Contains (usages_at lists state) usage
      → Contains (usages_at new state) usage
  kept state usage (inl same) has = subst (λ l. Contains l usage) (sym (ap (usages_at new) same ∙ here))
      (Contains-append_left (usages_at lists at) (one ∷ []) usage (subst (λ s. Contains (usages_at lists s) usage) same has))
  kept state usage (inr apart) has = subst (λ l. Contains l usage) (sym (elsewhere state apart)) has

  complete-more : (other : Item) → other.state < count → Contains (take place items) other ⊎ (get_or items place d ≡ other)
      → Contains (usages_at new other.state) (record { group = other.group; key = other.key })
  complete-more other lt (inl has) = kept other.state (record { group = other.group; key = other.key }) (cases_eq other.state at)
      (are.complete other lt has)
  complete-more other lt (inr same) = subst (λ (o : Item). Contains (usages_at new o.state) (record { group = o.group; key = o.key })) same
      (subst (λ l. Contains l one) (sym here) (Contains-push (usages_at lists at) one))

  pub sorted-more : AreSorted count (take (place + 1) items) new
  sorted-more = record {
    fit = ap length put ∙ length-set lists at (usages_at lists at ++ one ∷ []) ∙ are.fit;
    sound = λ state usage has. sound-more state usage (cases_eq state at) has;
    complete = λ other lt has. complete-more other lt
        (Contains-push_cases (take place items) (get_or items place d) other
        (subst (λ l. Contains l other) (front-more items place d within) has));
  }

-- ---- marks

pub marked-none : (count : ℕ) (pairs : List Pair) (marks : List Bool) → marks ≡ replicate count false → AreMarked count (take 0 pairs) marks
marked-none count pairs marks is = record {
  fit = ap length is ∙ length-replicate count false;
  sound = λ state marked. absurd (false≢true (sym (get_or-replicate count state false) ∙ ap (λ l. get_or l state false) (sym is) ∙ marked));
  complete = λ pair has lt. absurd (omega (arith, has.1));
}

module _ (count : ℕ) (pairs : List Pair) (place : ℕ) (d : Pair) (marks : List Bool) (within : place < length pairs)
    (small : (get_or pairs place d).state < count) (are : AreMarked count (take place pairs) marks) where
  abbrev mark_at : ℕ
  mark_at = (get_or pairs place d).state

  wider-pairs : (other : Pair) → Contains (take place pairs) other → Contains (take (place + 1) pairs) other
  wider-pairs other has = subst (λ l. Contains l other) (sym (front-more pairs place d within))
      (Contains-append_left (take place pairs) (get_or pairs place d ∷ []) other has)

  marked-here : get_or (set marks mark_at true) mark_at false ≡ true
  marked-here = get_or-set_same marks mark_at true false (let fit = are.fit in omega (arith, fit, small))

  sound-marked : (state : ℕ) → (state ≡ mark_at) ⊎ (state ≢ mark_at) → get_or (set marks mark_at true) state false ≡ true
      → (left : ℕ) × Contains (take (place + 1) pairs) (record { state = state; left = left })
  sound-marked state (inl same) marked = (
    (get_or pairs place d).left,
    subst (λ s. Contains (take (place + 1) pairs) (record { state = s; left = (get_or pairs place d).left })) (sym same)
        (subst (λ l. Contains l (get_or pairs place d)) (sym (front-more pairs place d within))
        (Contains-push (take place pairs) (get_or pairs place d))),
  )
  sound-marked state (inr apart) marked =
      let (left, has) = are.sound state (sym (get_or-set_other marks mark_at state true false apart) ∙ marked) in
      (left, wider-pairs (record { state = state; left = left }) has)

  complete-marked : (pair : Pair) → pair.state < count → (pair.state ≡ mark_at) ⊎ (pair.state ≢ mark_at)
      → Contains (take place pairs) pair ⊎ (get_or pairs place d ≡ pair) → get_or (set marks mark_at true) pair.state false ≡ true
  complete-marked pair lt (inl same) has = ap (λ s. get_or (set marks mark_at true) s false) same ∙ marked-here
  complete-marked pair lt (inr apart) (inl has) = get_or-set_other marks mark_at pair.state true false apart ∙ are.complete pair has lt
  complete-marked pair lt (inr apart) (inr same) = absurd (apart (ap (λ (p : Pair). p.state) (sym same)))

  pub marked-more : AreMarked count (take (place + 1) pairs) (set marks mark_at true)
  marked-more = record {
    fit = length-set marks mark_at true ∙ are.fit;
    sound = λ state marked. sound-marked state (cases_eq state mark_at) marked;
    complete = λ pair has lt. complete-marked pair lt (cases_eq pair.state mark_at)
        (Contains-push_cases (take place pairs) (get_or pairs place d) pair
        (subst (λ l. Contains l pair) (front-more pairs place d within) has));
  }

-- ---- registers behind an edge

module _ (numbers : List ℕ) (pairs : List Pair) (state : ℕ) (usages : List Usage) where
  pub behind-more : (place : ℕ) (d : Usage) (registers new : List Held) → place < length usages
      → AddsUsage numbers pairs state (get_or usages place d) registers new
      → AreHeldBehind numbers pairs state (take place usages) registers → AreHeldBehind numbers pairs state (take (place + 1) usages) new
  behind-more place d registers new within adds are = record {
    sound = λ held has. sound held (adds.sound held has);
    complete = λ usage has may_be. complete usage may_be
        (Contains-push_cases (take place usages) (get_or usages place d) usage
        (subst (λ l. Contains l usage) (front-more usages place d within) has));
  }
    where
      sound : (held : Held)
          → Contains registers held
          ⊎ ((held_of (get_or usages place d).key ≡ held) × MayBeThere numbers pairs state (get_or usages place d).group)
          → (usage : Usage) × Contains (take (place + 1) usages) usage × (held_of usage.key ≡ held)
          × MayBeThere numbers pairs state usage.group
      sound held (inl was) = let (usage, has, same, may_be) = are.sound held was in (
        usage,
        subst (λ l. Contains l usage) (sym (front-more usages place d within))
            (Contains-append_left (take place usages) (get_or usages place d ∷ []) usage has),
        same,
        may_be,
      )
      sound held (inr (same, may_be)) = (
        get_or usages place d,
        subst (λ l. Contains l (get_or usages place d)) (sym (front-more usages place d within))
            (Contains-push (take place usages) (get_or usages place d)),
        same,
        may_be,
      )

      complete : (usage : Usage) → MayBeThere numbers pairs state usage.group
          → Contains (take place usages) usage ⊎ (get_or usages place d ≡ usage)
          → Contains new (held_of usage.key)
      complete usage may_be (inl has) = adds.kept (held_of usage.key) (are.complete usage has may_be)
      complete usage may_be (inr same) =
          subst (λ (u : Usage). Contains new (held_of u.key)) same
          (adds.complete (subst (λ (u : Usage). MayBeThere numbers pairs state u.group) (sym same) may_be))

-- the register of a usage is put behind the others
pub adds-pushed : (numbers : List ℕ) (pairs : List Pair) (state : ℕ) (usage : Usage) (old : List Held)
    → MayBeThere numbers pairs state usage.group → AddsUsage numbers pairs state usage old (old ++ held_of usage.key ∷ [])
adds-pushed numbers pairs state usage old may_be = record {
  kept = λ held has. Contains-append_left old (held_of usage.key ∷ []) held has;
  sound = λ held has. sound held (Contains-push_cases old (held_of usage.key) held has);
  complete = λ _. Contains-push old (held_of usage.key);
}
  where
    sound : (held : Held) → Contains old held ⊎ (held_of usage.key ≡ held)
        → Contains old held ⊎ ((held_of usage.key ≡ held) × MayBeThere numbers pairs state usage.group)
    sound held (inl was) = inl was
    sound held (inr same) = inr (same, may_be)
