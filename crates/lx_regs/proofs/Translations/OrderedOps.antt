-- What a list in ascending order does to a register is told by the one operation that writes it.
use Rattle.std.proofs.Common.{◌≡◌, ℕ, zero, suc, ◌+◌, ◌<◌, ◌≤◌, List, [], ◌∷◌, length, get_or, take, drop, refl, sym, ap, ◌∙◌, arith}
use Rattle.std.specs.Prelude.{◌≢◌}
use Rattle.std.proofs.lemmas.Bool.{ne_eqb}
use Rattle.std.proofs.lemmas.List.{take-append-drop}
use Rattle.lx_auto.specs.declared.ops.Op.{Op}
use Rattle.lx_auto.specs.declared.ops.Op.TheVariants.{Here, Null, Copy, MHere, MNull, MCopy}
use Rattle.lx_auto.specs.Effects.{Effect, here, nothing, held_by, effect_after, effect_behind, marks_by, origin_after}
use Rattle.lx_auto.proofs.EffectLists.{effect_after-append}
use Rattle.lx_regs.specs.OrderedOps.{Ascend, AscendFrom, number_of}
use Rattle.std.specs.Prelude.{if◌then◌else◌}

-- an operation on another register leaves a register as it is
pub effect_behind-other : (op : Op) (reg : ℕ) (effect : Effect) → reg ≢ number_of op → effect_behind op reg effect ≡ effect
effect_behind-other (Here target) reg effect apart = ap (λ b. if b then here else effect) (ne_eqb reg target apart)
effect_behind-other (Null target) reg effect apart = ap (λ b. if b then nothing else effect) (ne_eqb reg target apart)
effect_behind-other (Copy target source) reg effect apart = ap (λ b. if b then held_by source else effect) (ne_eqb reg target apart)
effect_behind-other (MHere target) reg effect apart = refl
effect_behind-other (MNull target) reg effect apart = refl
effect_behind-other (MCopy target source) reg effect apart = refl

-- registers below the least number are not written
effect_after-below : (least : ℕ) (ops : List Op) (reg : ℕ) (effect : Effect) → AscendFrom least ops → reg < least
    → effect_after ops reg effect ≡ effect
effect_after-below least [] reg effect order below = refl
effect_after-below least (op ∷ ops) reg effect order below =
    let from : least ≤ number_of op = order.1 in
    effect_after-below (suc (number_of op)) ops reg (effect_behind op reg effect) order.2 (omega (arith, from, below))
    ∙ effect_behind-other op reg effect (λ same. let from : least ≤ number_of op = order.1 in omega (arith, from, below, same))

-- an operation's register is not below the least number
number-least : (least : ℕ) (ops : List Op) (place : ℕ) (d : Op) → AscendFrom least ops → place < length ops
    → least ≤ number_of (get_or ops place d)
number-least least [] place d order within = absurd (omega (arith, within))
number-least least (op ∷ ops) zero d order within = order.1
number-least least (op ∷ ops) (suc place) d order within =
    let behind : suc (number_of op) ≤ number_of (get_or ops place d) =
    number-least (suc (number_of op)) ops place d order.2 (omega (arith, within)) in
    let from : least ≤ number_of op = order.1 in omega (arith, behind, from)

-- before an operation no register is written whose number is not less
effect_after-front : (least : ℕ) (ops : List Op) (place : ℕ) (d : Op) (reg : ℕ) (effect : Effect) → AscendFrom least ops
    → place < length ops → number_of (get_or ops place d) ≤ reg → effect_after (take place ops) reg effect ≡ effect
effect_after-front least [] place d reg effect order within past = absurd (omega (arith, within))
effect_after-front least (op ∷ ops) zero d reg effect order within past = refl
effect_after-front least (op ∷ ops) (suc place) d reg effect order within past =
    let behind : suc (number_of op) ≤ number_of (get_or ops place d) =
    number-least (suc (number_of op)) ops place d order.2 (omega (arith, within)) in
    effect_after-front (suc (number_of op)) ops place d reg (effect_behind op reg effect) order.2 (omega (arith, within)) past
    ∙ effect_behind-other op reg effect (λ same. omega (arith, behind, past, same))

-- behind an operation no register is written whose number is not greater
effect_after-back : (least : ℕ) (ops : List Op) (place : ℕ) (d : Op) (reg : ℕ) (effect : Effect) → AscendFrom least ops
    → place < length ops → reg ≤ number_of (get_or ops place d) → effect_after (drop (suc place) ops) reg effect ≡ effect
effect_after-back least [] place d reg effect order within below = absurd (omega (arith, within))
effect_after-back least (op ∷ ops) zero d reg effect order within below =
    effect_after-below (suc (number_of op)) ops reg effect order.2 (omega (arith, below))
effect_after-back least (op ∷ ops) (suc place) d reg effect order within below =
    effect_after-back (suc (number_of op)) ops place d reg effect order.2 (omega (arith, within)) below

-- by the operation at a place
effect_after-at : (ops : List Op) (place : ℕ) (d : Op) (reg : ℕ) (effect : Effect) → place < length ops
    → effect_after (drop place ops) reg effect ≡ effect_after (drop (suc place) ops) reg (effect_behind (get_or ops place d) reg effect)
effect_after-at [] place d reg effect within = absurd (omega (arith, within))
effect_after-at (op ∷ ops) zero d reg effect within = refl
effect_after-at (op ∷ ops) (suc place) d reg effect within = effect_after-at ops place d reg effect (omega (arith, within))

effect_after-front_at : (ops : List Op) (place : ℕ) (d : Op) (reg : ℕ) (effect : Effect) → place < length ops
    → effect_after (take (suc place) ops) reg effect ≡ effect_behind (get_or ops place d) reg (effect_after (take place ops) reg effect)
effect_after-front_at [] place d reg effect within = absurd (omega (arith, within))
effect_after-front_at (op ∷ ops) zero d reg effect within = refl
effect_after-front_at (op ∷ ops) (suc place) d reg effect within =
    effect_after-front_at ops place d reg (effect_behind op reg effect) (omega (arith, within))

pub effect_after-cut : (ops : List Op) (place reg : ℕ) (effect : Effect)
    → effect_after ops reg effect ≡ effect_after (drop place ops) reg (effect_after (take place ops) reg effect)
effect_after-cut ops place reg effect =
    ap (λ l. effect_after l reg effect) (sym (take-append-drop place ops)) ∙ effect_after-append (take place ops) (drop place ops) reg effect

module _ (ops : List Op) (place : ℕ) (d : Op) (within : place < length ops) (order : Ascend ops) (reg : ℕ) where
  -- a register below that of the operation at the place is not written from there on
  pub unwritten-from : reg < number_of (get_or ops place d) → (effect : Effect) → effect_after (drop place ops) reg effect ≡ effect
  unwritten-from below effect =
      effect_after-at ops place d reg effect within
      ∙ effect_after-back 0 ops place d reg (effect_behind (get_or ops place d) reg effect) order within (omega (arith, below))
      ∙ effect_behind-other (get_or ops place d) reg effect (λ equal. omega (arith, below, equal))

  -- one past it is not written so far
  pub unwritten-through : number_of (get_or ops place d) < reg → effect_after (take (place + 1) ops) reg (held_by reg) ≡ held_by reg
  unwritten-through past =
      (let next : place + 1 ≡ suc place = omega arith in ap (λ p. effect_after (take p ops) reg (held_by reg)) next)
      ∙ effect_after-front_at ops place d reg (held_by reg) within
      ∙ effect_behind-other (get_or ops place d) reg (effect_after (take place ops) reg (held_by reg)) (λ equal. omega (arith, past, equal))
      ∙ effect_after-front 0 ops place d reg (held_by reg) order within (omega (arith, past))

  -- its own is written there alone
  pub written-at : number_of (get_or ops place d) ≡ reg
      → effect_after ops reg (held_by reg) ≡ effect_behind (get_or ops place d) reg (held_by reg)
  written-at equal =
      effect_after-cut ops place reg (held_by reg)
      ∙ effect_after-at ops place d reg (effect_after (take place ops) reg (held_by reg)) within
      ∙ effect_after-back 0 ops place d reg _ order within (omega (arith, equal))
      ∙ ap (λ e. effect_behind (get_or ops place d) reg e) (effect_after-front 0 ops place d reg (held_by reg) order within (omega (arith, equal)))

-- ---- m-registers

-- a list in ascending order leaves m-registers as they are
origin_after-from : (least : ℕ) (ops : List Op) (mreg origin : ℕ) → AscendFrom least ops → origin_after ops mreg origin ≡ origin
origin_after-from least [] mreg origin order = refl
origin_after-from least (Here target ∷ ops) mreg origin order = origin_after-from (suc target) ops mreg origin order.2
origin_after-from least (Null target ∷ ops) mreg origin order = origin_after-from (suc target) ops mreg origin order.2
origin_after-from least (Copy target source ∷ ops) mreg origin order = origin_after-from (suc target) ops mreg origin order.2
origin_after-from least (MHere target ∷ ops) mreg origin order = absurd (cc order.0)
origin_after-from least (MNull target ∷ ops) mreg origin order = absurd (cc order.0)
origin_after-from least (MCopy target source ∷ ops) mreg origin order = absurd (cc order.0)

pub origin_after-ascending : (ops : List Op) (mreg : ℕ) → Ascend ops → origin_after ops mreg mreg ≡ mreg
origin_after-ascending ops mreg order = origin_after-from 0 ops mreg mreg order

-- it puts no mark there
marks_by-from : (least : ℕ) (ops : List Op) (mreg : ℕ) → AscendFrom least ops → marks_by ops mreg ≡ []
marks_by-from least [] mreg order = refl
marks_by-from least (Here target ∷ ops) mreg order = marks_by-from (suc target) ops mreg order.2
marks_by-from least (Null target ∷ ops) mreg order = marks_by-from (suc target) ops mreg order.2
marks_by-from least (Copy target source ∷ ops) mreg order = marks_by-from (suc target) ops mreg order.2
marks_by-from least (MHere target ∷ ops) mreg order = absurd (cc order.0)
marks_by-from least (MNull target ∷ ops) mreg order = absurd (cc order.0)
marks_by-from least (MCopy target source ∷ ops) mreg order = absurd (cc order.0)

pub marks_by-ascending : (ops : List Op) (mreg : ℕ) → Ascend ops → marks_by ops mreg ≡ []
marks_by-ascending ops mreg order = marks_by-from 0 ops mreg order
