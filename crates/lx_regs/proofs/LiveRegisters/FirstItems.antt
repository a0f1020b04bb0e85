-- How the registers that are live to begin with are found.
use Rattle.std.proofs.Common.{◌≡◌, ℕ, ◌+◌, ◌<◌, ◌≤◌, ◌⊎◌, inl, inr, arith, List, [], Option, Some, None, length, get_or, refl, sym, ap, ◌∙◌, subst}
use Rattle.std.specs.Prelude.{Contains}
use Rattle.std.proofs.lemmas.Bool.{cases_lt}
use Rattle.std.proofs.lemmas.List.{get_or_past}
use Rattle.lx_auto.specs.declared.automaton.Accept.{Accept}
use Rattle.lx_auto.specs.declared.automaton.Auto.{Auto}
use Rattle.lx_auto.specs.declared.automaton.Held.{Held}
use Rattle.lx_auto.specs.declared.automaton.Held.TheVariants as held
use Rattle.lx_auto.specs.declared.automaton.State.{State}
use Rattle.lx_auto.specs.declared.ops.Op.{Op}
use Rattle.lx_auto.specs.Automaton.{state_of}
use Rattle.lx_auto.specs.Effects.{effect_of}
use Rattle.lx_regs.specs.declared.items.Item.{Item}
use Rattle.lx_regs.specs.declared.keys.Key.{Key}
use Rattle.lx_regs.specs.declared.keys.Key.TheVariants as key
use Rattle.lx_regs.specs.declared.reached.Pair.{Pair}
use Rattle.lx_regs.specs.Growth.{Grows, IsDueForSome}
use Rattle.lx_regs.specs.Items.{IsAccepted, IsAcceptedBy, IsAt, IsLeft, IsReadAt}
use Rattle.lx_regs.specs.Keys.{held_of, key_of}
use Rattle.lx_regs.specs.LeftGroups.{keys_in}
use Rattle.lx_regs.specs.Readers.{read_by}
use Rattle.lx_regs.proofs.LiveRegisters.GrownLists.{grows-alike, grows-both, grows-none}

pub held_of-key_of : (held : Held) → held_of (key_of held) ≡ held
held_of-key_of (held.Reg reg) = refl
held_of-key_of (held.MReg mreg) = refl

pub key_of-held_of : (key : Key) → key_of (held_of key) ≡ key
key_of-held_of (key.Reg reg) = refl
key_of-held_of (key.MReg mreg) = refl

pub same_held : (key other : Key) → held_of key ≡ held_of other → key ≡ other
same_held key other same = sym (key_of-held_of key) ∙ ap key_of same ∙ key_of-held_of other

pub same_item : (item other : Item) → item.state ≡ other.state → item.group ≡ other.group → held_of item.key ≡ held_of other.key
    → item ≡ other
same_item item other state group held = let key = same_held item.key other.key held in λ i. record
    { state = state i; group = group i; key = key i }

pub grows-read : (state : ℕ) (ops : List Op) (value : Held) (read : Key) (old new : List Item)
    → Some (held_of read) ≡ read_by (effect_of ops value)
    → Grows (λ other. other ≡ record { state = state; group = 0; key = read }) old new → Grows (IsReadAt state ops value) old new
grows-read state ops value read old new is grows =
    grows-alike (λ other. other ≡ item) (IsReadAt state ops value) old new
    (λ other same. subst (λ o. IsReadAt state ops value o) (sym same) right) back grows
  where
    item : Item
    item = record { state = state; group = 0; key = read }

    right : IsReadAt state ops value item
    right = (refl, refl, sym is)

    back : (other : Item) → IsReadAt state ops value other → other ≡ item
    back other (from, group, reads) = let same : Some (held_of other.key) ≡ Some (held_of read) = sym reads ∙ sym is in
        same_item other item from group (cc same)

pub grows-no_read : (state : ℕ) (ops : List Op) (value : Held) (old : List Item) → None ≡ read_by (effect_of ops value)
    → Grows (IsReadAt state ops value) old old
grows-no_read state ops value old none = grows-none (IsReadAt state ops value) old
    (λ item is. let both : None ≡ Some (held_of item.key) = none ∙ is.2 in absurd (cc both))

-- ---- state by state

module _ (auto : Auto) where
  abbrev pub IsAcceptedBelow : ℕ → Item → Type 0
  IsAcceptedBelow count item = (item.state < count) × IsAccepted auto item

  pub accepted-at : (state : ℕ) (accept : Option Accept) (item : Item) → IsAcceptedBy state accept item → item.state ≡ state
  accepted-at state None item is = absurd is
  accepted-at state (Some accept) item is = is.2.0

  pub grows-state : (count : ℕ) (old middle new : List Item) → Grows (IsAcceptedBelow count) old middle
      → Grows (IsAcceptedBy count (state_of auto.states count).accept) middle new → Grows (IsAcceptedBelow (count + 1)) old new
  grows-state count old middle new first second =
      grows-alike (λ item. IsAcceptedBelow count item ⊎ IsAcceptedBy count (state_of auto.states count).accept item)
      (IsAcceptedBelow (count + 1)) old new to back
      (grows-both (IsAcceptedBelow count) (IsAcceptedBy count (state_of auto.states count).accept) old middle new first second)
    where
      to : (item : Item) → IsAcceptedBelow count item ⊎ IsAcceptedBy count (state_of auto.states count).accept item
          → IsAcceptedBelow (count + 1) item
      to item (inl was) = (omega (arith, was.0), was.1)
      to item (inr is) =
          let same = accepted-at count (state_of auto.states count).accept item is in
          (omega (arith, same), subst (λ s. IsAcceptedBy s (state_of auto.states s).accept item) (sym same) is)

      back : (item : Item) → IsAcceptedBelow (count + 1) item
          → IsAcceptedBelow count item ⊎ IsAcceptedBy count (state_of auto.states count).accept item
      back item (lt, is) = at (cases_lt item.state count)
        where
          at : (item.state < count) ⊎ (count ≤ item.state)
              → IsAcceptedBelow count item ⊎ IsAcceptedBy count (state_of auto.states count).accept item
          at (inl below) = inl (below, is)
          at (inr past) = let same : item.state ≡ count = omega arith in inr
              (subst (λ s. IsAcceptedBy s (state_of auto.states s).accept item) same is)

  pub grows-no_state : (old : List Item) → Grows (IsAcceptedBelow 0) old old
  grows-no_state old = grows-none (IsAcceptedBelow 0) old (λ item is. absurd (omega (arith, is.0)))

  pub accepted-within : (item : Item) → IsAccepted auto item → (item.state < length auto.states) ⊎ (length auto.states ≤ item.state)
      → item.state < length auto.states
  accepted-within item is (inl lt) = lt
  accepted-within item is (inr past) = absurd
      (subst (λ (s : State). IsAcceptedBy item.state s.accept item)
      (get_or_past auto.states item.state (record { edges = []; accept = None; leave = [] }) past) is)

  pub grows-states : (count : ℕ) (old new : List Item) → length auto.states ≤ count → Grows (IsAcceptedBelow count) old new
      → Grows (IsAccepted auto) old new
  grows-states count old new all grows =
      grows-alike (IsAcceptedBelow count) (IsAccepted auto) old new (λ item is. is.1)
      (λ item is. let within = accepted-within item is (cases_lt item.state (length auto.states)) in (omega (arith, within), is)) grows

-- ---- pair by pair

module _ (numbers : List ℕ) (lists : List (List Key)) (pair : Pair) where
  pub grows-left : (keys : List Key) (old new : List Item) → get_or numbers pair.state 0 ≡ 0 → keys ≡ keys_in lists pair.left
      → Grows (IsDueForSome keys (IsAt pair)) old new → Grows (IsLeft numbers lists pair) old new
  grows-left keys old new none are grows =
      grows-alike (IsDueForSome keys (IsAt pair)) (IsLeft numbers lists pair) old new
      (λ item is. (none, (is.0, subst (λ l. Contains l is.0) are is.1, is.2)))
      (λ item is. (is.1.0, subst (λ l. Contains l is.1.0) (sym are) is.1.1, is.1.2)) grows
