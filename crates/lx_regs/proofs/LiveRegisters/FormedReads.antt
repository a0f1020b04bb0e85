-- What a list reads for a register that is there is there.
use Rattle.std.proofs.Common.{◌≡◌, ℕ, zero, suc, ◌<◌, arith, List, [], ◌∷◌, Bool, true, false, Some, if◌then◌else◌, nat_eq, subst}
use Rattle.std.specs.Prelude.{Contains}
use Rattle.lx_auto.specs.declared.automaton.Held.{Held}
use Rattle.lx_auto.specs.declared.automaton.Held.TheVariants.{Reg, MReg}
use Rattle.lx_auto.specs.declared.ops.Op.{Op}
use Rattle.lx_auto.specs.declared.ops.Op.TheVariants.{Here, Null, Copy, MHere, MNull, MCopy}
use Rattle.lx_auto.specs.Automaton.{AreHeld, AreOps, IsHeld, IsOp}
use Rattle.lx_auto.specs.Effects.{Effect, here, nothing, held_by, history_of, effect_after, effect_behind, effect_of, effect_of_both, effect_upon, origin_after, origin_behind}
use Rattle.lx_regs.specs.Readers.{read_by}

module _ (regs mregs : ℕ) where
  -- the effect reads nothing, or a register that is there
  abbrev ReadsThere : Effect → Type 0
  ReadsThere here = Unit {0}
  ReadsThere nothing = Unit {0}
  ReadsThere (held_by reg) = reg < regs
  ReadsThere (history_of mreg marks) = mreg < mregs

  there-if : (b : Bool) (effect other : Effect) → ReadsThere effect → ReadsThere other → ReadsThere (if b then effect else other)
  there-if true effect other is also = is
  there-if false effect other is also = also

  there-behind : (op : Op) (reg : ℕ) (effect : Effect) → IsOp regs mregs op → ReadsThere effect → ReadsThere (effect_behind op reg effect)
  there-behind (Here target) reg effect formed is = there-if (nat_eq reg target) here effect tt is
  there-behind (Null target) reg effect formed is = there-if (nat_eq reg target) nothing effect tt is
  there-behind (Copy target source) reg effect formed is = there-if (nat_eq reg target) (held_by source) effect formed.1 is
  there-behind (MHere target) reg effect formed is = is
  there-behind (MNull target) reg effect formed is = is
  there-behind (MCopy target source) reg effect formed is = is

  there-after : (ops : List Op) (reg : ℕ) (effect : Effect) → AreOps regs mregs ops → ReadsThere effect
      → ReadsThere (effect_after ops reg effect)
  there-after [] reg effect formed is = is
  there-after (op ∷ ops) reg effect formed is =
      there-after ops reg (effect_behind op reg effect) formed.1 (there-behind op reg effect formed.0 is)

  below-if : (b : Bool) (number other bound : ℕ) → number < bound → other < bound → (if b then number else other) < bound
  below-if true number other bound is also = is
  below-if false number other bound is also = also

  origin_behind-there : (op : Op) (mreg origin : ℕ) → IsOp regs mregs op → origin < mregs → origin_behind op mreg origin < mregs
  origin_behind-there (Here target) mreg origin formed is = is
  origin_behind-there (Null target) mreg origin formed is = is
  origin_behind-there (Copy target source) mreg origin formed is = is
  origin_behind-there (MHere target) mreg origin formed is = is
  origin_behind-there (MNull target) mreg origin formed is = is
  origin_behind-there (MCopy target source) mreg origin formed is = below-if (nat_eq mreg target) source origin mregs formed.1 is

  origin_after-there : (ops : List Op) (mreg origin : ℕ) → AreOps regs mregs ops → origin < mregs → origin_after ops mreg origin < mregs
  origin_after-there [] mreg origin formed is = is
  origin_after-there (op ∷ ops) mreg origin formed is =
      origin_after-there ops mreg (origin_behind op mreg origin) formed.1 (origin_behind-there op mreg origin formed.0 is)

  pub there-of : (ops : List Op) (held : Held) → AreOps regs mregs ops → IsHeld regs mregs held → ReadsThere (effect_of ops held)
  there-of ops (Reg reg) formed is = there-after ops reg (held_by reg) formed is
  there-of ops (MReg mreg) formed is = origin_after-there ops mreg mreg formed is

  there-upon : (first : List Op) (effect : Effect) → AreOps regs mregs first → ReadsThere effect → ReadsThere (effect_upon first effect)
  there-upon first here formed is = tt
  there-upon first nothing formed is = tt
  there-upon first (held_by reg) formed is = there-of first (Reg reg) formed is
  there-upon first (history_of mreg marks) formed is = origin_after-there first mreg mreg formed is

  pub there-of_both : (first second : List Op) (held : Held) → AreOps regs mregs first → AreOps regs mregs second → IsHeld regs mregs held
      → ReadsThere (effect_of_both first second held)
  there-of_both first second held formed also is = there-upon first (effect_of second held) formed (there-of second held also is)

  pub held-read : (effect : Effect) (held : Held) → ReadsThere effect → read_by effect ≡ Some held → IsHeld regs mregs held
  held-read here held is reads = absurd (cc reads)
  held-read nothing held is reads = absurd (cc reads)
  held-read (held_by reg) held is reads = let same : Reg reg ≡ held = cc reads in subst (λ h. IsHeld regs mregs h) same is
  held-read (history_of mreg marks) held is reads = let same : MReg mreg ≡ held = cc reads in subst (λ h. IsHeld regs mregs h) same is

  pub held-among : (values : List Held) (held : Held) → AreHeld regs mregs values → Contains values held → IsHeld regs mregs held
  held-among [] held are has = absurd (omega (arith, has.1))
  held-among (first ∷ values) held are (zero, within, is) = subst (λ h. IsHeld regs mregs h) is are.0
  held-among (first ∷ values) held are (suc place, within, is) = held-among values held are.1 (place, omega arith, is)
