-- What a call takes from a source into its window, as answers to the refills that the machine asks.
use Rattle.std.specs.Prelude.{◌≡◌, ℕ, ◌-◌, List, [], ◌∷◌, ◌++◌, Option}
use Rattle.lx_ccode.specs.Machine.{Answer, more, no_more, refilled}
use Rattle.lx_window.specs.Ahead.{Ahead}
use Rattle.lx_window.specs.Windows.{IsFormed, Refills, slid}
use Rattle.lx_window.specs.WindowView.{WindowView}
use Rattle.lx_window.specs.declared.refills.Fill.TheVariants.{More, NoMore}

-- a window, and what is ahead of its source
pub record Feed : Type 0 where
  pub ahead : Option Ahead
  pub window : WindowView

abbrev pub feed_of : Option Ahead → WindowView → Feed
feed_of ahead window = record { ahead = ahead; window = window }

-- the machine's answer that the refill of a window is: the units before the token's start are dropped, and those behind the limit added
abbrev pub brought : (before after : WindowView) → Answer
brought before after = refilled (more (before.start - before.base) (after.limit - before.limit))

-- these answers are the refills by which one feed became the other, in order
pub data IsFed (from : Feed) : List Answer → Feed → Type 0 where
  unasked : IsFed from [] from
  filled : {answers others : List Answer} {before after : Feed} {count : ℕ} → IsFed from answers before → IsFormed before.window
      → Refills before.ahead after.ahead before.window after.window (More count) → others ≡ answers ++ brought before.window after.window ∷ []
      → IsFed from others after
  ended : {answers others : List Answer} {before after : Feed} → IsFed from answers before → IsFormed before.window
      → Refills before.ahead after.ahead before.window after.window NoMore → others ≡ answers ++ refilled no_more ∷ []
      → IsFed from others after

-- the window only slid
pub record Slides (before after : Feed) : Type 0 where
  pub ahead : after.ahead ≡ before.ahead
  pub window : after.window ≡ slid before.window
