-- What is written, read or live is there.
use Rattle.std.proofs.Common.{◌≡◌, ℕ, zero, suc, ◌<◌, List, [], ◌∷◌, length, Option, Some, None, Bool, true, false, if◌then◌else◌, nat_eq, refl, Contains, subst, arith}
use Rattle.lx_auto.specs.declared.automaton.Accept.{Accept}
use Rattle.lx_auto.specs.declared.automaton.Auto.{Auto}
use Rattle.lx_auto.specs.declared.automaton.Edge.{Edge}
use Rattle.lx_auto.specs.declared.automaton.Held.{Held}
use Rattle.lx_auto.specs.declared.automaton.Held.TheVariants.{Reg, MReg}
use Rattle.lx_auto.specs.declared.automaton.State.{State}
use Rattle.lx_auto.specs.declared.ops.Op.{Op}
use Rattle.lx_auto.specs.declared.ops.Op.TheVariants.{Here, Null, Copy, MHere, MNull, MCopy}
use Rattle.lx_auto.specs.Automaton.{AreHeld, AreOps, IsAccept, IsAuto, IsHeld, IsOp, LeadWithin, state_of}
use Rattle.lx_auto.specs.Effects.{Effect, here, nothing, held_by, history_of, Reads, Writes, effect_after, effect_behind, effect_of, effect_of_both, effect_upon, origin_after, origin_behind, target_of}
use Rattle.lx_auto.specs.Live.{IsLive, by_accept, by_fallback, onward}
use Rattle.lx_auto.specs.Points.{Point, point_behind, state_at, values_left, values_of}
use Rattle.lx_auto.proofs.States.{state_formed}

module _ (regs mregs : ℕ) where
  -- what an operation writes
  target-held : (op : Op) → IsOp regs mregs op → IsHeld regs mregs (target_of op)
  target-held (Here target) is = is
  target-held (Null target) is = is
  target-held (Copy target source) is = is.0
  target-held (MHere target) is = is.1
  target-held (MNull target) is = is.1
  target-held (MCopy target source) is = is.0.1

  pub written-held : (ops : List Op) (held : Held) → AreOps regs mregs ops → Writes ops held → IsHeld regs mregs held
  written-held [] held are (op, (place, within, is), writes) = absurd (omega arith)
  written-held (first ∷ ops) held are (op, (zero, within, is), writes) =
      subst (IsHeld regs mregs) writes (subst (λ o. IsHeld regs mregs (target_of o)) is (target-held first are.0))
  written-held (first ∷ ops) held are (op, (suc place, within, is), writes) =
      written-held ops held are.1 (op, (place, omega arith, is), writes)

  pub values-held : (values : List Held) (held : Held) → AreHeld regs mregs values → Contains values held → IsHeld regs mregs held
  values-held [] held are (place, within, is) = absurd (omega arith)
  values-held (first ∷ values) held are (zero, within, is) = subst (IsHeld regs mregs) is are.0
  values-held (first ∷ values) held are (suc place, within, is) = values-held values held are.1 (place, omega arith, is)

  -- what an effect reads is there
  abbrev ReadsHeld : Effect → Type 0
  ReadsHeld effect = (held : Held) → Reads effect held → IsHeld regs mregs held

  either : (b : Bool) (effect other : Effect) → ReadsHeld effect → ReadsHeld other → ReadsHeld (if b then effect else other)
  either true effect other one rest = one
  either false effect other one rest = rest

  effect_behind-held : (op : Op) (reg : ℕ) (effect : Effect) → IsOp regs mregs op → ReadsHeld effect → ReadsHeld (effect_behind op reg effect)
  effect_behind-held (Here target) reg effect is reads = either (nat_eq reg target) here effect (λ held read. absurd read) reads
  effect_behind-held (Null target) reg effect is reads = either (nat_eq reg target) nothing effect (λ held read. absurd read) reads
  effect_behind-held (Copy target source) reg effect is reads =
      either (nat_eq reg target) (held_by source) effect (λ held read. subst (IsHeld regs mregs) read is.1) reads
  effect_behind-held (MHere target) reg effect is reads = reads
  effect_behind-held (MNull target) reg effect is reads = reads
  effect_behind-held (MCopy target source) reg effect is reads = reads

  effect_after-held : (ops : List Op) (reg : ℕ) (effect : Effect) → AreOps regs mregs ops → ReadsHeld effect
      → ReadsHeld (effect_after ops reg effect)
  effect_after-held [] reg effect are reads = reads
  effect_after-held (op ∷ ops) reg effect are reads =
      effect_after-held ops reg (effect_behind op reg effect) are.1 (effect_behind-held op reg effect are.0 reads)

  origin_behind-held : (op : Op) (mreg origin : ℕ) → IsOp regs mregs op → origin < mregs → origin_behind op mreg origin < mregs
  origin_behind-held (Here target) mreg origin is within = within
  origin_behind-held (Null target) mreg origin is within = within
  origin_behind-held (Copy target source) mreg origin is within = within
  origin_behind-held (MHere target) mreg origin is within = within
  origin_behind-held (MNull target) mreg origin is within = within
  origin_behind-held (MCopy target source) mreg origin is within = at (nat_eq mreg target)
    where
      at : (b : Bool) → (if b then source else origin) < mregs
      at true = is.1
      at false = within

  origin_after-held : (ops : List Op) (mreg origin : ℕ) → AreOps regs mregs ops → origin < mregs → origin_after ops mreg origin < mregs
  origin_after-held [] mreg origin are within = within
  origin_after-held (op ∷ ops) mreg origin are within =
      origin_after-held ops mreg (origin_behind op mreg origin) are.1 (origin_behind-held op mreg origin are.0 within)

  pub read-held : (ops : List Op) (next : Held) → AreOps regs mregs ops → IsHeld regs mregs next → ReadsHeld (effect_of ops next)
  read-held ops (Reg reg) are is =
      effect_after-held ops reg (held_by reg) are (λ held read. subst (IsHeld regs mregs) read is)
  read-held ops (MReg mreg) are is = λ held read. subst (IsHeld regs mregs) read (origin_after-held ops mreg mreg are is)

  upon-held : (first : List Op) (effect : Effect) → AreOps regs mregs first → ReadsHeld effect → ReadsHeld (effect_upon first effect)
  upon-held first here are reads = reads
  upon-held first nothing are reads = reads
  upon-held first (held_by reg) are reads = read-held first (Reg reg) are (reads (Reg reg) refl)
  upon-held first (history_of mreg marks) are reads = λ held read.
      subst (IsHeld regs mregs) read (origin_after-held first mreg mreg are (reads (MReg mreg) refl))

  read_both-held : (first second : List Op) (next : Held) → AreOps regs mregs first → AreOps regs mregs second → IsHeld regs mregs next
      → ReadsHeld (effect_of_both first second next)
  read_both-held first second next are are_second is = upon-held first (effect_of second next) are (read-held second next are_second is)

  pub edge-ops : (count : ℕ) (edges : List Edge) (edge : Edge) → LeadWithin regs mregs count edges → Contains edges edge → AreOps regs mregs edge.ops
  edge-ops count [] edge lead (place, within, is) = absurd (omega arith)
  edge-ops count (first ∷ edges) edge lead (zero, within, is) = subst (λ (e : Edge). AreOps regs mregs e.ops) is lead.1
  edge-ops count (first ∷ edges) edge lead (suc place, within, is) = edge-ops count edges edge lead.2 (place, omega arith, is)

  pub accept-formed : (accept : Option Accept) (this : Accept) → IsAccept regs mregs accept → accept ≡ Some this
      → AreOps regs mregs this.ops × AreHeld regs mregs this.values
  accept-formed None this is same = absurd (cc same)
  accept-formed (Some accept) this is same =
      let equal : accept ≡ this = cc same in subst (λ (a : Accept). AreOps regs mregs a.ops × AreHeld regs mregs a.values) equal is

  left-held : (accept : Option Accept) (held : Held) → IsAccept regs mregs accept → Contains (values_of accept) held → IsHeld regs mregs held
  left-held None held is has = absurd (omega (arith, has.1))
  left-held (Some accept) held is has = values-held accept.values held is.1 has

module _ (auto : Auto) (is : IsAuto auto) where
  values_left-held : (left : Option ℕ) (held : Held) → Contains (values_left auto left) held → IsHeld auto.regs auto.mregs held
  values_left-held None held has = absurd (omega (arith, has.1))
  values_left-held (Some state) held has =
      left-held auto.regs auto.mregs (state_of auto.states state).accept held (state_formed auto state is).accept has

  -- what is live is there
  pub live-held : (point : Point) (held : Held) → IsLive auto point held → IsHeld auto.regs auto.mregs held
  live-held point held (by_accept _ _ accept value accepts has reads) =
      let formed = accept-formed auto.regs auto.mregs (state_at auto point).accept accept (state_formed auto point.state is).accept accepts in
      read-held auto.regs auto.mregs accept.ops value formed.0 (values-held auto.regs auto.mregs accept.values value formed.1 has) held reads
  live-held point held (by_fallback _ _ none has) = values_left-held point.left held has
  live-held point held (onward _ _ edge next has live reads) =
      let formed = state_formed auto point.state is in
      read_both-held auto.regs auto.mregs (state_at auto point).leave edge.ops next formed.leave
      (edge-ops auto.regs auto.mregs (length auto.states) (state_at auto point).edges edge formed.lead has)
      (live-held (point_behind auto point edge) next live) held reads

-- a state that has an edge is there
pub edge-there : (states : List State) (state : ℕ) (edge : Edge) → Contains (state_of states state).edges edge → state < length states
edge-there [] state edge (place, within, is) = absurd (omega arith)
edge-there (first ∷ states) zero edge has = omega arith
edge-there (first ∷ states) (suc state) edge has = let below = edge-there states state edge has in omega (arith, below)

-- and so is one that accepts
pub accept-there : (states : List State) (state : ℕ) (accept : Accept) → (state_of states state).accept ≡ Some accept → state < length states
accept-there [] state accept same = absurd (cc same)
accept-there (first ∷ states) zero accept same = omega arith
accept-there (first ∷ states) (suc state) accept same = let below = accept-there states state accept same in omega (arith, below)
