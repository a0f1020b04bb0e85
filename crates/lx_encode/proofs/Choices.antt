-- Facts that hold for one of two parts.
use Rattle.std.proofs.Common.{◌⊎◌, ◌↔◌, inl, inr, ⊎_elim}

pub for_right : {Whole Part Added Same : Type 0} → (Whole ↔ (Part ⊎ Added)) → (Added ↔ Same) → (Whole ↔ (Part ⊎ Same))
for_right whole same = (
  λ at. ⊎_elim (λ p. inl p) (λ a. inr (same.0 a)) (whole.0 at),
  λ at. ⊎_elim (λ p. whole.1 (inl p)) (λ s. whole.1 (inr (same.1 s))) at,
)

pub adds_none : {Old First Part Whole Added : Type 0} → (Old ↔ (First ⊎ Part)) → (Whole ↔ (Part ⊎ Added)) → (Added → ⊥) → (Old ↔ (First ⊎ Whole))
adds_none old whole none = (
  λ at. ⊎_elim (λ f. inl f) (λ p. inr (whole.1 (inl p))) (old.0 at),
  λ at. ⊎_elim (λ f. old.1 (inl f)) (λ w. ⊎_elim (λ p. old.1 (inr p)) (λ a. absurd (none a)) (whole.0 w)) at,
)
