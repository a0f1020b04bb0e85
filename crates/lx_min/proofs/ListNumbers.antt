-- Lists of operations in sets and maps, and their numbers.
use Rattle.std.proofs.Common.{◌≡◌, ℕ, Bool, true, false, cond, List, Vec, Option, Some, slice_get, refl, sym, ap, ◌∙◌, subst, rules}
use Rattle.std.specs.Bool.{Decides}
use Rattle.std.specs.Borrow.{Bor}
use Rattle.std.specs.Cmp.Lexicographic.{pointwise, pointwise_decides}
use Rattle.std.specs.List.{IsDistinct}
use Rattle.indexmap.specs.IndexSet.{insert_key}
use Rattle.lx_auto.specs.contracts.ops.OpPartialEq.TheImpl.{eq-value}
use Rattle.lx_auto.specs.declared.ops.Op.{Op}
use Rattle.lx_min.specs.Canonical.{canonical}
use Rattle.lx_min.specs.Numbers.{AreDistinct, AreListNumbers, IsListNumber, Keeps, seen_lists}
use Rattle.lx_min.proofs.Interned.{AreDistinct-seen, Keeps-inserted, seen-stored}

same_op : (op other : Op) → eq-value.it op other ≡ true → op ≡ other
same_op op other e = search rules

op_same : (op other : Op) → op ≡ other → eq-value.it op other ≡ true
op_same op other e = search rules

pub Decides-lists : (ops others : List Op) → Decides (pointwise eq-value.it ops others) (ops ≡ others)
Decides-lists = pointwise_decides (λ op other. (same_op op other, op_same op other))

-- numbers stay where lists do
pub AreListNumbers-kept : (old new : List (List Op)) (number : Bor (List Op) → Option ℕ) → Keeps old new → AreListNumbers old number
    → AreListNumbers new number
AreListNumbers-kept old new number keeps are = λ ops place is. keeps place (canonical ops.now) (are ops place is)

-- numbers that are found are the same
pub AreListNumbers-same : (lists : List (List Op)) (before after : Bor (List Op) → Option ℕ)
    → ((ops : Bor (List Op)) → after ops ≡ before ops)
    → AreListNumbers lists before → AreListNumbers lists after
AreListNumbers-same lists before after same are = λ ops place at. are ops place (sym (same ops) ∙ at)

-- with the number of one more list
pub AreListNumbers-put : (lists : List (List Op)) (before after : Bor (List Op) → Option ℕ) (list : Bor (List Op)) (place : ℕ)
    → ((ops : Bor (List Op)) → after ops ≡ cond (pointwise eq-value.it list.now ops.now) (Some place) (before ops))
    → AreListNumbers lists before → IsListNumber lists list.now place → AreListNumbers lists after
AreListNumbers-put lists before after list place put are is =
    λ ops other at. by ops other (pointwise eq-value.it list.now ops.now) refl (sym (put ops) ∙ at)
  where
    by : (ops : Bor (List Op)) (other : ℕ) (b : Bool) → pointwise eq-value.it list.now ops.now ≡ b
        → cond b (Some place) (before ops) ≡ Some other
        → IsListNumber lists ops.now other
    by ops other true same at =
        let number : place ≡ other = cc at in
        subst (λ l. IsListNumber lists l other) ((Decides-lists list.now ops.now).0 same) (subst (IsListNumber lists list.now) number is)
    by ops other false same at = are ops other at

-- a list that is put into a set
module _ {A : Type 0} (old new : List (Vec Op A)) (list : Vec Op A)
    (put : new ≡ insert_key (λ (list other : Vec Op A). pointwise eq-value.it list.items other.items) old list) where
  pub Keeps-lists : Keeps (seen_lists old) (seen_lists new)
  Keeps-lists =
      Keeps-inserted (λ (list : Vec Op A). list.items) (λ (list other : Vec Op A). pointwise eq-value.it list.items other.items)
      (λ list other. Decides-lists list.items other.items) old new list put

module _ {A : Type 0} (lists : List (Vec Op A)) where
  pub AreDistinct-lists : IsDistinct (λ (list other : Vec Op A). pointwise eq-value.it list.items other.items) lists
      → AreDistinct (seen_lists lists)
  AreDistinct-lists distinct =
      AreDistinct-seen (λ (list : Vec Op A). list.items) (λ (list other : Vec Op A). pointwise eq-value.it list.items other.items)
      (λ list other. Decides-lists list.items other.items) lists distinct

  -- the list that stands at the place of one that is equal to a canonical list
  pub IsListNumber-stored : (ops : List Op) (list : Vec Op A) (place : ℕ) → list.items ≡ canonical ops
      → (there : Vec Op A) × (slice_get lists place ≡ Some there) × (pointwise eq-value.it list.items there.items ≡ true)
      → IsListNumber (seen_lists lists) ops place
  IsListNumber-stored ops list place is stored =
      seen-stored (λ (list : Vec Op A). list.items) (λ (list other : Vec Op A). pointwise eq-value.it list.items other.items)
      (λ list other. Decides-lists list.items other.items) lists list place stored
      ∙ ap Some is
