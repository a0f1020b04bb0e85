-- How a list of operations is gone through for one register.
use Rattle.std.proofs.Common.{◌≡◌, ℕ, true, false, refl, if◌then◌else◌, sym, ap, ◌∙◌, eqb-true, true≢false}
use Rattle.lx_auto.specs.declared.ops.Op.{Op}
use Rattle.lx_auto.specs.declared.ops.Op.TheVariants.{Here, Null, Copy, MHere, MNull, MCopy}
use Rattle.lx_auto.specs.Effects.{Effect, here, nothing, held_by, effect_behind, sets}
use Rattle.lx_min.specs.Canonical.{op_with}

module _ (reg : ℕ) (effect : Effect) where
  -- an operation that sets the register is the one with its effect
  pub op_with-effect_behind : (op : Op) → sets reg op ≡ true → op ≡ op_with reg (effect_behind op reg effect)
  op_with-effect_behind (Here target) is =
      ap Here (sym (eqb-true reg target is)) ∙ ap (λ b. op_with reg (if b then here else effect)) (sym is)
  op_with-effect_behind (Null target) is =
      ap Null (sym (eqb-true reg target is)) ∙ ap (λ b. op_with reg (if b then nothing else effect)) (sym is)
  op_with-effect_behind (Copy target source) is =
      ap (λ r. Copy r source) (sym (eqb-true reg target is)) ∙ ap (λ b. op_with reg (if b then held_by source else effect)) (sym is)
  op_with-effect_behind (MHere target) is = absurd (true≢false (sym is))
  op_with-effect_behind (MNull target) is = absurd (true≢false (sym is))
  op_with-effect_behind (MCopy target source) is = absurd (true≢false (sym is))

  -- any other one leaves the effect
  pub effect_behind-unset : (op : Op) → sets reg op ≡ false → effect_behind op reg effect ≡ effect
  effect_behind-unset (Here target) is = ap (λ b. if b then here else effect) is
  effect_behind-unset (Null target) is = ap (λ b. if b then nothing else effect) is
  effect_behind-unset (Copy target source) is = ap (λ b. if b then held_by source else effect) is
  effect_behind-unset (MHere target) is = refl
  effect_behind-unset (MNull target) is = refl
  effect_behind-unset (MCopy target source) is = refl
