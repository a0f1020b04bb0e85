-- Without registers an automaton has no operations, so that nothing in it is left to drop or to share.
use Rattle.std.proofs.Common.{◌≡◌, ℕ, ◌≤◌, List, [], ◌∷◌, length, Contains, arith, subst}
use Rattle.lx_auto.specs.Automaton.{AreOps, IsAccept, IsAuto, IsOp, state_of}
use Rattle.lx_auto.specs.Live.{AllInterfere, AtSomePoint, EachIsWanted, EachTargetIsRead, IsLiveBehind, IsLiveOnLeaving}
use Rattle.lx_auto.specs.declared.automaton.Auto.{Auto}
use Rattle.lx_auto.specs.declared.automaton.Held.{Held}
use Rattle.lx_auto.specs.declared.ops.Op.{Op}
use Rattle.lx_auto.specs.declared.ops.Op.TheVariants.{Here, Null, Copy, MHere, MNull, MCopy}
use Rattle.lx_auto.proofs.States.{state_formed}
use Rattle.lx_regs.proofs.LiveRegisters.HeldBounds.{edge-ops}

module _ (regs mregs : ℕ) (none : regs ≡ 0) (one : mregs ≤ 1) where
  IsOp-none : (op : Op) → IsOp regs mregs op → ⊥
  IsOp-none (Here reg) is = omega (arith, none, is)
  IsOp-none (Null reg) is = omega (arith, none, is)
  IsOp-none (Copy reg source) is = omega (arith, none, is.0)
  IsOp-none (MHere mreg) is = omega (arith, one, is.0, is.1)
  IsOp-none (MNull mreg) is = omega (arith, one, is.0, is.1)
  IsOp-none (MCopy mreg source) is = omega (arith, one, is.0.0, is.0.1)

  EachIsWanted-none : (auto : Auto) (IsWanted : Held → Type 0) (ops : List Op) → AreOps regs mregs ops → EachIsWanted auto IsWanted ops
  EachIsWanted-none auto IsWanted [] are = tt
  EachIsWanted-none auto IsWanted (op ∷ ops) are = absurd (IsOp-none op are.0)

-- each operation is read: there is none
pub EachTargetIsRead-none : (auto : Auto) → IsAuto auto → auto.regs ≡ 0 → auto.mregs ≤ 1 → EachTargetIsRead auto
EachTargetIsRead-none auto is none one = record {
  leaves = λ state.
      EachIsWanted-none auto.regs auto.mregs none one auto
      (λ held. AtSomePoint auto state (λ point. IsLiveOnLeaving auto point held)) (state_of auto.states state).leave (state_formed auto state is).leave;
  edges = λ state edge has.
      EachIsWanted-none auto.regs auto.mregs none one auto
      (λ held. AtSomePoint auto state (λ point. IsLiveBehind auto point edge held)) edge.ops
      (edge-ops auto.regs auto.mregs (length auto.states) (state_of auto.states state).edges edge (state_formed auto state is).lead has);
  accepts = λ state accept accepts.
      let formed = subst (IsAccept auto.regs auto.mregs) accepts (state_formed auto state is).accept in
      EachIsWanted-none auto.regs auto.mregs none one auto
      (λ held. AtSomePoint auto state (λ point. Contains accept.values held)) accept.ops formed.0;
}

-- any two registers interfere: there are none
pub AllInterfere-none : (auto : Auto) → auto.regs ≡ 0 → auto.mregs ≤ 1 → AllInterfere auto
AllInterfere-none auto none one = record {
  regs = λ reg other within also differ. absurd (omega (arith, none, within));
  mregs = λ mreg other some within least also differ. absurd (omega (arith, one, some, within));
}
