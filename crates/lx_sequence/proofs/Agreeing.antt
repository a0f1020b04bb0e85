-- Registers that agree below some numbers stay so, where the same operations act at once on the ones and one by one on the others.
use Rattle.std.specs.Prelude.{◌≡◌, ◌≢◌, ℕ, ◌<◌, List, [], ◌∷◌, ◌++◌, Option, Some, None, nat_eq, refl, if◌then◌else◌}
use Rattle.std.proofs.Common.{ap, ap₂, ◌∙◌, arith}
use Rattle.lx_auto.specs.Automaton.{AreHeld, AreOps}
use Rattle.lx_auto.specs.Bank.{Bank, bank_after, history, history_added, history_copied, read_all, single, value_after}
use Rattle.lx_auto.specs.declared.automaton.Held.{Held}
use Rattle.lx_auto.specs.declared.automaton.Held.TheVariants.{Reg, MReg}
use Rattle.lx_auto.specs.declared.ops.Op.{Op}
use Rattle.lx_auto.specs.declared.ops.Op.TheVariants.{Here, Null, Copy, MHere, MNull, MCopy}
use Rattle.lx_sequence.specs.ParallelCopies.{sequentialized}
use Rattle.lx_sequence.specs.Turns.{after_ops}
use Rattle.lx_sequence.proofs.Sequentialized.{AllClear-ops, mregs-sequentialized, regs-sequentialized}

module _ (regs mregs : ℕ) where
  -- equal below these numbers
  pub record Agrees (k b : Bank) : Type 0 where
    pub same : (r : ℕ) → r < regs → k.regs r ≡ b.regs r
    pub alike : (r : ℕ) → r < mregs → k.mregs r ≡ b.mregs r

  value_after-agrees : (at : ℕ) (ops : List Op) (k b : Bank) (r : ℕ) (v w : Option ℕ) → AreOps regs mregs ops → Agrees k b → v ≡ w
      → value_after k at ops r v ≡ value_after b at ops r w
  value_after-agrees at [] k b r v w are h e = e
  value_after-agrees at (Here t ∷ ops) k b r v w are h e = value_after-agrees at ops k b r _ _ are.1 h (ap (λ z. if nat_eq r t then Some at else z) e)
  value_after-agrees at (Null t ∷ ops) k b r v w are h e = value_after-agrees at ops k b r _ _ are.1 h (ap (λ z. if nat_eq r t then None else z) e)
  value_after-agrees at (Copy t s ∷ ops) k b r v w are h e =
      value_after-agrees at ops k b r _ _ are.1 h (ap₂ (λ y z. if nat_eq r t then y else z) (h.same s are.0.1) e)
  value_after-agrees at (MHere t ∷ ops) k b r v w are h e = value_after-agrees at ops k b r v w are.1 h e
  value_after-agrees at (MNull t ∷ ops) k b r v w are h e = value_after-agrees at ops k b r v w are.1 h e
  value_after-agrees at (MCopy t s ∷ ops) k b r v w are h e = value_after-agrees at ops k b r v w are.1 h e

  history_copied-agrees : (ops : List Op) (k b : Bank) (r : ℕ) (v w : List (Option ℕ)) → AreOps regs mregs ops → Agrees k b → v ≡ w
      → history_copied k ops r v ≡ history_copied b ops r w
  history_copied-agrees [] k b r v w are h e = e
  history_copied-agrees (MCopy t s ∷ ops) k b r v w are h e =
      history_copied-agrees ops k b r _ _ are.1 h (ap₂ (λ y z. if nat_eq r t then y else z) (h.alike s are.0.1) e)
  history_copied-agrees (_ ∷ ops) k b r v w are h e = history_copied-agrees ops k b r v w are.1 h e

  pub Agrees-after : (at : ℕ) (ops : List Op) (k b : Bank) → AreOps regs mregs ops → Agrees k b
      → Agrees (after_ops at (sequentialized regs mregs ops) k) (bank_after at ops b)
  Agrees-after at ops k b are h =
      let clear = AllClear-ops regs mregs regs mregs (omega arith) (omega arith) ops are in
      record {
        same = λ r lt.
            let ne : r ≢ regs = λ e. omega arith in
            regs-sequentialized regs mregs at ops clear k r ne ∙ value_after-agrees at ops k b r (k.regs r) (b.regs r) are h (h.same r lt);
        alike = λ r lt.
            let ne : r ≢ mregs = λ e. omega arith in
            mregs-sequentialized regs mregs at ops clear k r ne
            ∙ ap (λ l. l ++ history_added at ops r) (history_copied-agrees ops k b r (k.mregs r) (b.mregs r) are h (h.alike r lt));
      }

  pub read_all-agrees : (hs : List Held) (k b : Bank) → AreHeld regs mregs hs → Agrees k b → read_all k hs ≡ read_all b hs
  read_all-agrees [] k b are h = refl
  read_all-agrees (Reg r ∷ hs) k b are h = ap₂ (λ v l. single v ∷ l) (h.same r are.0) (read_all-agrees hs k b are.1 h)
  read_all-agrees (MReg r ∷ hs) k b are h = ap₂ (λ v l. history v ∷ l) (h.alike r are.0) (read_all-agrees hs k b are.1 h)
