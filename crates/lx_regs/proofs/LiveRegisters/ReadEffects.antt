-- What a list reads, step by step, is what its effect reads.
use Rattle.std.proofs.Common.{◌≡◌, ℕ, List, [], ◌∷◌, Some, Bool, true, false, refl, if◌then◌else◌, nat_eq, ap, ◌∙◌}
use Rattle.lx_auto.specs.declared.automaton.Held.{Held}
use Rattle.lx_auto.specs.declared.ops.Op.{Op}
use Rattle.lx_auto.specs.declared.ops.Op.TheVariants.{Here, Null, Copy, MHere, MNull, MCopy}
use Rattle.lx_auto.specs.Effects.{Effect, here, nothing, held_by, history_of, Reads, effect_after, effect_behind}
use Rattle.lx_regs.specs.Reads.{read_after, read_behind, read_by}

read_by-if : (b : Bool) (effect other : Effect) → read_by (if b then effect else other) ≡ (if b then read_by effect else read_by other)
read_by-if true effect other = refl
read_by-if false effect other = refl

read_by-behind : (op : Op) (reg : ℕ) (effect : Effect) → read_by (effect_behind op reg effect) ≡ read_behind op reg (read_by effect)
read_by-behind (Here target) reg effect = read_by-if (nat_eq reg target) here effect
read_by-behind (Null target) reg effect = read_by-if (nat_eq reg target) nothing effect
read_by-behind (Copy target source) reg effect = read_by-if (nat_eq reg target) (held_by source) effect
read_by-behind (MHere target) reg effect = refl
read_by-behind (MNull target) reg effect = refl
read_by-behind (MCopy target source) reg effect = refl

pub read_by-after : (ops : List Op) (reg : ℕ) (effect : Effect) → read_by (effect_after ops reg effect) ≡ read_after ops reg (read_by effect)
read_by-after [] reg effect = refl
read_by-after (op ∷ ops) reg effect = read_by-after ops reg (effect_behind op reg effect) ∙ ap (read_after ops reg) (read_by-behind op reg effect)

-- an effect reads what is read by it
pub Reads-read_by : (effect : Effect) (held : Held) → read_by effect ≡ Some held → Reads effect held
Reads-read_by here held is = absurd (cc is)
Reads-read_by nothing held is = absurd (cc is)
Reads-read_by (held_by reg) held is = cc is
Reads-read_by (history_of mreg marks) held is = cc is

pub read_by-Reads : (effect : Effect) (held : Held) → Reads effect held → read_by effect ≡ Some held
read_by-Reads here held reads = absurd reads
read_by-Reads nothing held reads = absurd reads
read_by-Reads (held_by reg) held reads = ap Some reads
read_by-Reads (history_of mreg marks) held reads = ap Some reads
