-- What is read by an effect is what it reads.
use Rattle.std.proofs.Common.{◌≡◌, Some, ap}
use Rattle.lx_auto.specs.declared.automaton.Held.{Held}
use Rattle.lx_auto.specs.Effects.{Effect, here, nothing, held_by, history_of, Reads}
use Rattle.lx_regs.specs.Readers.{read_by}

pub Reads-read_by : (effect : Effect) (held : Held) → read_by effect ≡ Some held → Reads effect held
Reads-read_by here held is = absurd (cc is)
Reads-read_by nothing held is = absurd (cc is)
Reads-read_by (held_by reg) held is = cc is
Reads-read_by (history_of mreg marks) held is = cc is

pub read_by-Reads : (effect : Effect) (held : Held) → Reads effect held → read_by effect ≡ Some held
read_by-Reads here held reads = absurd reads
read_by-Reads nothing held reads = absurd reads
read_by-Reads (held_by reg) held reads = ap Some reads
read_by-Reads (history_of mreg marks) held reads = ap Some reads
