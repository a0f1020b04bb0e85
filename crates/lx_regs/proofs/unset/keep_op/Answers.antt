use Rattle.std.proofs.Common.{◌≡◌, ◌⊎◌, inl, inr, ℕ, [], ◌∷◌, ◌++◌, Option, refl, sym, subst}
use Rattle.lx_auto.specs.declared.ops.Op.{Op}
use Rattle.lx_auto.specs.declared.ops.Op.TheVariants.{MHere, MNull, MCopy}
use Rattle.lx_auto.specs.Bank.{Bank, value_behind}
use Rattle.lx_regs.specs.Unset.{IsKept}
use Rattle.lx_regs.proofs.NeedlessNulls.KeptLists.{IsKept-history}
use Rattle.lx_regs.proofs.unset.keep_op.Goals as goal

-- an operation that writes a history leaves registers alone
same-register : (op : Op) → ((mreg : ℕ) × (op ≡ MHere mreg)) ⊎ (((mreg : ℕ) × (op ≡ MNull mreg))
    ⊎ ((mreg : ℕ) × (source : ℕ) × (op ≡ MCopy mreg source)))
    → (bank : Bank) (offset reg : ℕ) (value : Option ℕ) → value_behind bank offset op reg value ≡ value
same-register op (inl is) bank offset reg value = subst (λ o. value_behind bank offset o reg value ≡ value) (sym is.1) refl
same-register op (inr (inl is)) bank offset reg value = subst (λ o. value_behind bank offset o reg value ≡ value) (sym is.1) refl
same-register op (inr (inr is)) bank offset reg value = subst (λ o. value_behind bank offset o reg value ≡ value) (sym is.2) refl

pub returns-in_ok-push-in-MHere : goal.returns-in_ok-push-in-MHere
returns-in_ok-push-in-MHere c = λ ops is.
    let before = c.args.before.now in
    let behind = c.args.kept.now.unset.items in
    subst (IsKept before behind (ops ++ c.args.op ∷ [])) (sym c.in_ok-push-in-MHere.ensures.pushed)
    (IsKept-history before behind ops c.args.kept.now.ops is c.args.op (same-register c.args.op c.in-MHere.is))
