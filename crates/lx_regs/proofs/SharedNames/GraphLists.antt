-- What is put on lists, by their numbers.
use Rattle.std.proofs.Common.{◌≡◌, ℕ, zero, suc, ◌<◌, List, [], ◌∷◌, length, refl, Contains, ap, arith}
use Rattle.std.proofs.Common.{inl, inr}
use Rattle.std.proofs.lemmas.List.Elements.{Contains-append_left, Contains-push, Contains-push_cases}
use Rattle.std.specs.Prelude.{◌⊎◌, replicate}
use Rattle.lx_regs.specs.Graphs.{list_at, put_at}

pub put_at-kept : (lists : List (List ℕ)) (number item at other : ℕ) → Contains (list_at lists at) other
    → Contains (list_at (put_at lists number item) at) other
put_at-kept [] number item at other has = absurd (omega (arith, has.1))
put_at-kept (list ∷ lists) zero item zero other has = Contains-append_left list (item ∷ []) other has
put_at-kept (list ∷ lists) zero item (suc at) other has = has
put_at-kept (list ∷ lists) (suc number) item zero other has = has
put_at-kept (list ∷ lists) (suc number) item (suc at) other has = put_at-kept lists number item at other has

pub put_at-new : (lists : List (List ℕ)) (number item : ℕ) → number < length lists → Contains (list_at (put_at lists number item) number) item
put_at-new [] number item within = absurd (omega arith)
put_at-new (list ∷ lists) zero item within = Contains-push list item
put_at-new (list ∷ lists) (suc number) item within = put_at-new lists number item (omega arith)

pub put_at-only : (lists : List (List ℕ)) (number item at other : ℕ) → Contains (list_at (put_at lists number item) at) other
    → Contains (list_at lists at) other ⊎ ((at ≡ number) × (other ≡ item))
put_at-only [] number item at other has = inl has
put_at-only (list ∷ lists) zero item zero other has = by (Contains-push_cases list item other has)
  where
    by : Contains list other ⊎ (item ≡ other) → Contains list other ⊎ ((◌≡◌ {A = ℕ} 0 0) × (other ≡ item))
    by (inl there) = inl there
    by (inr same) = inr (refl, cc same)
put_at-only (list ∷ lists) zero item (suc at) other has = inl has
put_at-only (list ∷ lists) (suc number) item zero other has = inl has
put_at-only (list ∷ lists) (suc number) item (suc at) other has = by (put_at-only lists number item at other has)
  where
    by : Contains (list_at lists at) other ⊎ ((at ≡ number) × (other ≡ item))
        → Contains (list_at lists at) other ⊎ ((suc at ≡ suc number) × (other ≡ item))
    by (inl there) = inl there
    by (inr same) = inr (ap suc same.0, same.1)

-- empty lists have nothing
pub list_at-none : (size number other : ℕ) → Contains (list_at (replicate size []) number) other → ⊥
list_at-none zero number other has = absurd (omega (arith, has.1))
list_at-none (suc size) zero other has = absurd (omega (arith, has.1))
list_at-none (suc size) (suc number) other has = list_at-none size number other has
