-- A source in memory, as contracts see it.
use Rattle.std.specs.Prelude.{ℕ, ◌+◌, ◌*◌, ◌==◌, min, Bool, false, List, length, drop, Option, Some, if◌then◌else◌}
use Rattle.lx_window.specs.Ahead.{Ahead, Parts}
use Rattle.lx_window.specs.declared.refills.Fill.{Fill}
use Rattle.lx_window.specs.declared.refills.Fill.TheVariants.{More, NoMore, Leave}

-- The bytes of a unit, what is ahead, and how many units a part has at most; whether the scanner is left before each part, and whether
-- that is what comes next; and the count of pauses.
pub record MemorySource : Type 0 where
  pub unit : ℕ
  pub bytes : List ℕ
  pub step : ℕ
  pub leaves : Bool
  pub leaves_next : Bool
  pub pauses : ℕ

-- the parts in which a source in memory gives its bytes
abbrev pub source_parts : MemorySource → Parts
source_parts source = record { step = source.step; leaves = source.leaves; leaves_next = source.leaves_next }

-- its bytes, and their parts, which are both told
abbrev pub ahead_of : MemorySource → Option Ahead
ahead_of source = Some (record { bytes = source.bytes; parts = Some (source_parts source) })

-- how often a source in memory failed: never
abbrev pub faults_of : MemorySource → ℕ
faults_of source = 0

-- how many bytes are given to a room of so many bytes: a step, what the room takes, or all that is ahead
abbrev pub part_length : MemorySource → (room : ℕ) → ℕ
part_length source room = min (source.unit * source.step) (min room (length source.bytes))

-- the answer to a refill of a room of so many bytes
abbrev pub answer_of : MemorySource → (room : ℕ) → Fill
answer_of source room =
    if source.leaves_next then Leave
    else (if length source.bytes == 0 then NoMore else More (part_length source room))

-- the source after an answer
abbrev pub source_after : Fill → MemorySource → MemorySource
source_after (More count) source = record source { bytes = drop count source.bytes; leaves_next = source.leaves }
source_after NoMore source = source
source_after Leave source = record source { leaves_next = false; pauses = min (source.pauses + 1) 18446744073709551615 }
