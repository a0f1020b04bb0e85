-- Elements by their index: in lists that are mapped, and in those of which some are kept.
use Rattle.std.proofs.Common.{◌≡◌, ℕ, zero, suc, ◌<◌, arith, List, [], ◌∷◌, map, get_or, refl, sym, ap, ◌∙◌, subst, Some, None}
use Rattle.std.specs.Option.{option_map}
use Rattle.std.specs.List.{cons_option}
use Rattle.std.specs.Prelude.{Option, filter_map, option_to_list}
use Rattle.lx_tnfa.specs.LeafReadings.{IsNth}

pub nth_read : {X : Type 0} (xs : List X) (index : ℕ) (x other : X) → IsNth xs index x → get_or xs index other ≡ x
nth_read [] index x other nth = absurd nth
nth_read (y ∷ xs) zero x other nth = nth
nth_read (y ∷ xs) (suc index) x other nth = nth_read xs index x other nth

pub nth_map : {X Y : Type 0} (f : X → Y) (xs : List X) (index : ℕ) (x : X) → IsNth xs index x → IsNth (map f xs) index (f x)
nth_map f [] index x nth = absurd nth
nth_map f (y ∷ xs) zero x nth = ap f nth
nth_map f (y ∷ xs) (suc index) x nth = nth_map f xs index x nth

pub nth_unmap : {X Y : Type 0} (f : X → Y) (xs : List X) (index : ℕ) (y : Y) → IsNth (map f xs) index y → (x : X) × IsNth xs index x × (f x ≡ y)
nth_unmap f [] index y nth = absurd nth
nth_unmap f (x ∷ xs) zero y nth = (x, refl, nth)
nth_unmap f (x ∷ xs) (suc index) y nth = nth_unmap f xs index y nth

-- of an option there is at most one
pub nth_option : {X Y : Type 0} (f : X → Y) (o : Option X) (index : ℕ) (y : Y) → IsNth (map f (option_to_list o)) index y
    → (x : X) × (o ≡ Some x) × (f x ≡ y) × (index ≡ 0)
nth_option f None index y nth = absurd nth
nth_option f (Some x) zero y nth = (x, refl, nth, refl)
nth_option f (Some x) (suc index) y nth = absurd nth

pub mapped_from : {X Y : Type 0} (f : X → Y) (o : Option X) (y : Y) → option_map f o ≡ Some y → (x : X) × (o ≡ Some x) × (f x ≡ y)
mapped_from f None y e = cc
mapped_from f (Some x) y e = (x, refl, cc)

module _ {X Y : Type 0} (h : X → Option Y) where
  -- an element from which one of those came that were kept
  pub record From (xs : List X) (y : Y) : Type 0 where
    pub index : ℕ
    pub x : X
    pub nth : IsNth xs index x
    pub is : h x ≡ Some y

  abbrev from_later : (x : X) (xs : List X) (y : Y) → From xs y → From (x ∷ xs) y
  from_later x xs y from = record { index = suc from.index; x = from.x; nth = from.nth; is = from.is }

  pub kept_from : (xs : List X) (index : ℕ) (y : Y) → IsNth (filter_map h xs) index y → From xs y
  kept_from [] index y nth = absurd nth
  kept_from (x ∷ xs) index y nth = at (h x) refl index nth (λ index more. kept_from xs index y more)
    where
      at : (o : Option Y) → h x ≡ o → (index : ℕ) → IsNth (cons_option o (filter_map h xs)) index y
          → ((index : ℕ) → IsNth (filter_map h xs) index y → From xs y) → From (x ∷ xs) y
      at None e index nth later = from_later x xs y (later index nth)
      at (Some z) e zero nth later = record { index = 0; x = x; nth = refl; is = e ∙ ap Some nth }
      at (Some z) e (suc index) nth later = from_later x xs y (later index nth)

  pub kept_has : (xs : List X) (index : ℕ) (x : X) (y : Y) → IsNth xs index x → h x ≡ Some y → (place : ℕ) × IsNth (filter_map h xs) place y
  kept_has [] index x y nth e = absurd nth
  kept_has (z ∷ xs) zero x y nth e = (0, subst (λ o. IsNth (cons_option o (filter_map h xs)) 0 y) (sym (ap h nth ∙ e)) refl)
  kept_has (z ∷ xs) (suc index) x y nth e = at (h z) (kept_has xs index x y nth e)
    where
      at : (o : Option Y) → (place : ℕ) × IsNth (filter_map h xs) place y → (place : ℕ) × IsNth (cons_option o (filter_map h xs)) place y
      at None r = r
      at (Some w) r = (suc r.0, r.1)

  -- two of those that were kept, in the order of those from which they came
  pub record InOrder (xs : List X) (y z : Y) : Type 0 where
    pub first : From xs y
    pub second : From xs z
    pub less : first.index < second.index

  pub kept_order : (xs : List X) (index later : ℕ) (y z : Y) → IsNth (filter_map h xs) index y → IsNth (filter_map h xs) later z → index < later
      → InOrder xs y z
  kept_order [] index later y z nth nth' lt = absurd nth
  kept_order (x ∷ xs) index later y z nth nth' lt =
      at (h x) refl index later nth nth' lt (λ later more. kept_from xs later z more)
      (λ index later more more' lt. kept_order xs index later y z more more' lt)
    where
      onward : InOrder xs y z → InOrder (x ∷ xs) y z
      onward order =
          record { first = from_later x xs y order.first; second = from_later x xs z order.second; less = omega (arith, order.less) }

      at : (o : Option Y) → h x ≡ o → (index later : ℕ) → IsNth (cons_option o (filter_map h xs)) index y
          → IsNth (cons_option o (filter_map h xs)) later z → index < later → ((later : ℕ) → IsNth (filter_map h xs) later z → From xs z)
          → ((index later : ℕ) → IsNth (filter_map h xs) index y → IsNth (filter_map h xs) later z → index < later → InOrder xs y z)
          → InOrder (x ∷ xs) y z
      at None e index later nth nth' lt from order = onward (order index later nth nth' lt)
      at (Some w) e zero zero nth nth' lt from order = absurd (omega arith)
      at (Some w) e zero (suc later) nth nth' lt from order =
          record { first = record { index = 0; x = x; nth = refl; is = e ∙ ap Some nth }; second = from_later x xs z (from later nth'); less = omega arith }
      at (Some w) e (suc index) zero nth nth' lt from order = absurd (omega arith)
      at (Some w) e (suc index) (suc later) nth nth' lt from order = onward (order index later nth nth' (omega arith))
