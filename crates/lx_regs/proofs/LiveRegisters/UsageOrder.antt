-- Usages in the order of their registers, and what is found in a walk over them.
use Rattle.std.proofs.Common.{◌≡◌, ℕ, ◌+◌, ◌-◌, ◌<◌, ◌⊎◌, inl, inr, arith, false, List, [], ◌∷◌, ◌++◌, Some, length, get_or, take, refl, sym, ap, ◌∙◌, subst}
use Rattle.std.specs.Prelude.{◌≢◌, IsPermutation, slice_get}
use Rattle.std.specs.Cmp.{nat_cmp_is}
use Rattle.std.specs.List.Sorted.{IsSortedByKey}
use Rattle.std.specs.Ordering.{is_lt, nat_cmp}
use Rattle.std.specs.declared.cmp.Ordering.TheVariants.{Less}
use Rattle.std.proofs.lemmas.Bool.{cases_eq, cases_order}
use Rattle.std.proofs.lemmas.List.{get_or-take, get_or_append_left, length-append, get_or_default, get_or_past, length-take-le}
use Rattle.std.proofs.Math.Seq.{get_or-append_seam}
use Rattle.std.proofs.lemmas.List.Quantifiers.{all_pairs_push}
use Rattle.std.proofs.lemmas.List.Sorted.{Contains-permutation, IsPermutation-refl, IsPermutation-sym, ranks_by, sorted_far}
use Rattle.std.proofs.lemmas.Option.{slice_get-get_or}
use Rattle.lx_auto.specs.declared.automaton.Held.{Held}
use Rattle.lx_auto.specs.declared.automaton.Held.TheVariants as held
use Rattle.lx_regs.specs.contracts.keys.KeyOrd.TheImpl.{cmp-value}
use Rattle.lx_regs.specs.contracts.keys.KeyOrd.TheImpl.Laws.{total-law}
use Rattle.lx_regs.specs.declared.items.Item.{Item}
use Rattle.lx_regs.specs.declared.keys.Key.{Key}
use Rattle.lx_regs.specs.declared.keys.Key.TheVariants.{Reg, MReg}
use Rattle.lx_regs.specs.declared.live.Usage.{Usage}
use Rattle.lx_regs.specs.Keys.{held_of}
use Rattle.lx_regs.specs.Liveness.{AreHeldBehind, AreSorted, usages_at}
use Rattle.lx_regs.specs.declared.reached.Pair.{Pair}
use Rattle.lx_regs.specs.LiveSets.{AreAscending, AreInOrder, AreOrdered, AreUpTo, IsBefore, IsUpTo}

up_to-number : (number other : ℕ) → is_lt (nat_cmp other number) ≡ false → (number < other) ⊎ (number ≡ other)
up_to-number number other least = by (cases_order number other)
  where
    by : (number ≡ other) ⊎ ((number < other) ⊎ (other < number)) → (number < other) ⊎ (number ≡ other)
    by (inl same) = inr same
    by (inr (inl before)) = inl before
    by (inr (inr after)) = absurd (cc (nat_cmp_is other number Less after))

up_to-least : (key other : Key) → is_lt (cmp-value.it other key) ≡ false → IsUpTo (held_of key) (held_of other)
up_to-least (Reg reg) (Reg other) least = by (up_to-number reg other least)
  where
    by : (reg < other) ⊎ (reg ≡ other) → IsUpTo (held.Reg reg) (held.Reg other)
    by (inl before) = inl before
    by (inr same) = inr (ap held.Reg same)
up_to-least (Reg reg) (MReg mreg) least = inl tt
up_to-least (MReg mreg) (Reg reg) least = absurd (cc least)
up_to-least (MReg mreg) (MReg other) least = by (up_to-number mreg other least)
  where
    by : (mreg < other) ⊎ (mreg ≡ other) → IsUpTo (held.MReg mreg) (held.MReg other)
    by (inl before) = inl before
    by (inr same) = inr (ap held.MReg same)

pub in_order-sorted : (usages : List Usage) → IsSortedByKey (λ (usage : Usage). usage.key) cmp-value.it usages → AreInOrder usages
in_order-sorted usages sorted i j d lt within =
    up_to-least (get_or usages i d).key (get_or usages j d).key
    (sorted_far (λ (x : Usage) (y : Usage). is_lt (cmp-value.it x.key y.key)) (ranks_by total-law (λ (usage : Usage). usage.key)) usages
    sorted i j d (omega arith) within)

-- ---- registers in ascending order

before-once : (held other : Held) → IsBefore held other → IsUpTo other held → ⊥
before-once (held.Reg reg) (held.Reg other) before (inl after) = absurd (omega arith)
before-once (held.Reg reg) (held.MReg mreg) before (inl after) = after
before-once (held.MReg mreg) (held.Reg reg) before (inl after) = before
before-once (held.MReg mreg) (held.MReg other) before (inl after) = absurd (omega arith)
before-once (held.Reg reg) (held.Reg other) before (inr same) = let e : other ≡ reg = cc same in absurd (omega arith)
before-once (held.Reg reg) (held.MReg mreg) before (inr same) = absurd (cc same)
before-once (held.MReg mreg) (held.Reg reg) before (inr same) = before
before-once (held.MReg mreg) (held.MReg other) before (inr same) = let e : other ≡ mreg = cc same in absurd (omega arith)

pub ascending-push : (registers : List Held) (held : Held) → AreAscending registers → AreUpTo registers held
    → (slice_get registers (length registers - 1) ≡ Some held → ⊥) → AreAscending (registers ++ held ∷ [])
ascending-push registers held ascending up_to apart = all_pairs_push IsBefore registers held ascending (λ place d within.
    at place d within
    (up_to (get_or registers place d) (place, within, get_or_default registers place (get_or registers place d) d within)))
  where
    at : (place : ℕ) (d : Held) → place < length registers → IsUpTo (get_or registers place d) held
        → IsBefore (get_or registers place d) held
    at place d within (inl before) = before
    at place d within (inr same) = by (cases_eq place (length registers - 1))
      where
        by : (place ≡ length registers - 1) ⊎ (place ≢ length registers - 1) → IsBefore (get_or registers place d) held
        by (inl is) = absurd (apart (slice_get-get_or registers (length registers - 1) d (omega arith)
            ∙ ap (λ p. Some (get_or registers p d)) (sym is) ∙ ap Some same))
        by (inr other) =
            let inside : length registers - 1 < length registers = omega arith in
            let final = get_or registers (length registers - 1) d in
            absurd (before-once (get_or registers place d) final (ascending place (length registers - 1) d (omega arith) inside)
            (subst (IsUpTo final) (sym same) (up_to final
            (length registers - 1, inside, get_or_default registers (length registers - 1) final d inside))))

-- ---- a walk over usages in order

-- what is found so far is not behind the next usage
pub up_to-next : (numbers : List ℕ) (pairs : List Pair) (state : ℕ) (usages : List Usage) (place : ℕ) (d : Usage) (registers : List Held)
    → place < length usages → AreInOrder usages → AreHeldBehind numbers pairs state (take place usages) registers
    → AreUpTo registers (held_of (get_or usages place d).key)
up_to-next numbers pairs state usages place d registers within order are held has =
    let (usage, among, same, _) = are.sound held has in
    let (earlier, before, is) = among in
    let inside : earlier < place = omega (arith, before, length-take-le place usages (omega arith)) in
    let read : get_or usages earlier d ≡ usage =
    get_or_default usages earlier d usage (omega arith) ∙ sym (get_or-take place usages earlier usage inside) ∙ is in
    subst (λ h. IsUpTo h (held_of (get_or usages place d).key)) same
    (subst (λ (u : Usage). IsUpTo (held_of u.key) (held_of (get_or usages place d).key)) read (order earlier place d inside within))

-- ---- lists of usages in order

pub sorted-ordered : (lists ordered : List (List Usage)) (count : ℕ) (items : List Item) → AreOrdered lists ordered
    → AreSorted count items lists → AreSorted count items ordered
sorted-ordered lists ordered count items are sorted = record {
  fit = are.fit ∙ sorted.fit;
  sound = λ state usage has.
      sorted.sound state usage
      (Contains-permutation (usages_at ordered state) (usages_at lists state) usage
      (IsPermutation-sym (usages_at lists state) (usages_at ordered state) (are.same state)) has);
  complete = λ item within has.
      Contains-permutation (usages_at lists item.state) (usages_at ordered item.state) (record { group = item.group; key = item.key })
      (are.same item.state) (sorted.complete item within has);
}

in_order-none : AreInOrder []
in_order-none i j d lt within = absurd (omega arith)

pub ordered-none : AreOrdered [] []
ordered-none = record { fit = refl; same = λ state. IsPermutation-refl []; order = λ state. in_order-none }

-- the same usages in order
abbrev IsOrder : List Usage → List Usage → Type 0
IsOrder usages new = IsPermutation usages new × AreInOrder new

module _ (lists ordered : List (List Usage)) (usages new : List Usage) (is : IsOrder usages new) (are : AreOrdered lists ordered) where
  order-at : (state : ℕ) → (state ≡ length lists) ⊎ ((state < length lists) ⊎ (length lists < state))
      → IsOrder (usages_at (lists ++ usages ∷ []) state) (usages_at (ordered ++ new ∷ []) state)
  order-at state (inl last) =
      let same : usages_at (lists ++ usages ∷ []) state ≡ usages =
      ap (usages_at (lists ++ usages ∷ [])) last ∙ get_or-append_seam lists usages [] [] in
      let also : usages_at (ordered ++ new ∷ []) state ≡ new =
      ap (usages_at (ordered ++ new ∷ [])) (last ∙ sym are.fit) ∙ get_or-append_seam ordered new [] [] in
      subst (λ l. IsOrder l (usages_at (ordered ++ new ∷ []) state)) (sym same) (subst (IsOrder usages) (sym also) is)
  order-at state (inr (inl before)) =
      let fit = are.fit in
      let same : usages_at (lists ++ usages ∷ []) state ≡ usages_at lists state = get_or_append_left lists (usages ∷ []) [] state before in
      let also : usages_at (ordered ++ new ∷ []) state ≡ usages_at ordered state =
      get_or_append_left ordered (new ∷ []) [] state (omega arith) in
      subst (λ l. IsOrder l (usages_at (ordered ++ new ∷ []) state)) (sym same)
      (subst (IsOrder (usages_at lists state)) (sym also) (are.same state, are.order state))
  order-at state (inr (inr behind)) =
      let fit = are.fit in
      let same : usages_at (lists ++ usages ∷ []) state ≡ [] =
      get_or_past (lists ++ usages ∷ []) state [] (omega (arith, length-append lists (usages ∷ []))) in
      let also : usages_at (ordered ++ new ∷ []) state ≡ [] =
      get_or_past (ordered ++ new ∷ []) state [] (omega (arith, length-append ordered (new ∷ []))) in
      subst (λ l. IsOrder l (usages_at (ordered ++ new ∷ []) state)) (sym same)
      (subst (IsOrder []) (sym also) (IsPermutation-refl [], in_order-none))

  pub ordered-more : AreOrdered (lists ++ usages ∷ []) (ordered ++ new ∷ [])
  ordered-more = record {
    fit = length-append ordered (new ∷ []) ∙ ap (λ n. n + 1) are.fit ∙ sym (length-append lists (usages ∷ []));
    same = λ state. (order-at state (cases_order state (length lists))).0;
    order = λ state. (order-at state (cases_order state (length lists))).1;
  }
