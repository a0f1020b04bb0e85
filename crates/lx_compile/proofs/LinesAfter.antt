-- Lines behind texts.
use Rattle.std.proofs.Common.{◌≡◌, ℕ, ◌+◌, ◌≤◌, arith, List, [], ◌++◌}
use Rattle.std.specs.Prelude.{min}
use Rattle.lx_ccode.specs.Text.{feeds, line_after}
use Rattle.lx_ccode.proofs.Tails.{feeds-append}

-- no text is behind a line that is counted
pub line_after-nil : (line : ℕ) → line ≤ 4294967295 → line_after line [] ≡ line
line_after-nil line range = let same : min (line + 0) 4294967295 ≡ line = omega (arith, range) in same

-- the line behind a text is counted
pub line_after-range : (line : ℕ) (text : List ℕ) → line_after line text ≤ 4294967295
line_after-range line text = let range : min (line + feeds text) 4294967295 ≤ 4294967295 = omega arith in range

-- the line behind two texts is that behind the second, which begins in the line behind the first
pub line_after-append : (line : ℕ) (text more : List ℕ) → line_after (line_after line text) more ≡ line_after line (text ++ more)
line_after-append line text more =
    let both : feeds (text ++ more) ≡ feeds text + feeds more = feeds-append text more in
    let same : min (min (line + feeds text) 4294967295 + feeds more) 4294967295 ≡ min (line + feeds (text ++ more)) 4294967295 =
    omega (arith, both) in
    same
