-- Which points of a match a call reaches.
use Rattle.std.specs.Prelude.{◌≡◌, ℕ, true, List, Option, Some, None, is_some}
use Rattle.lx_ccode.specs.Machine.{Answer, code_at, stored_block}
use Rattle.lx_ccode.specs.Runs.{entry_block}
use Rattle.lx_step.specs.Entries.{entry_point}
use Rattle.lx_step.specs.Feeds.{Feed, IsFed}
use Rattle.lx_step.specs.Held.{Held}
use Rattle.lx_step.specs.Points.{LeadsTo, Point}

-- a call that begins with this window comes to the point, by what its source answered
pub record Reaches (held : Held) (before : Feed) (stream : List ℕ) (point : Point) : Type 0 where
  pub answers : List Answer
  pub after : Feed
  pub fed : IsFed before answers after
  pub leads : LeadsTo held.piece stream before.window.start before.window.size (entry_point held before.window) answers point

-- the block where the call begins: that of the condition, or that of the state where the match was left
abbrev pub entered_block : Held → Option ℕ
entered_block held = elim held.left [ None ↦ entry_block held.piece.conds held.cond | Some left ↦ stored_block held.piece.blocks (Some left.state) ]

-- there is such a block
abbrev pub EntersBlock : Held → Type 0
EntersBlock held = is_some (code_at held.piece.blocks (entered_block held)) ≡ true
