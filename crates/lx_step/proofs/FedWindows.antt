-- What the refills of a source leave of a window.
use Rattle.std.proofs.Common.{◌≡◌, ◌∙◌, ap, sym, subst, ℕ, zero, suc, ◌*◌, ◌/◌, ◌<◌, ◌≤◌, List, [], ◌++◌, length, arith}
use Rattle.std.proofs.lemmas.List.{append-nil, append_assoc}
use Rattle.lx_ccode.specs.Machine.{Answer}
use Rattle.lx_window.specs.WindowView.{WindowView}
use Rattle.lx_window.specs.Windows.{IsFormed, IsWindowOf, Refills, slid}
use Rattle.lx_window.specs.declared.refills.Fill.TheVariants.{More, NoMore}
use Rattle.lx_window.proofs.StreamUnits.{IsUnit-positive, IsWhole-is}
use Rattle.lx_step.specs.Feeds.{Feed, IsFed, unasked, filled, ended}
use Rattle.lx_step.proofs.FilledWindows.{IsWindowOf-before}

-- no answer more
pub IsFed-none : (from after : Feed) (answers : List Answer) → IsFed from answers after → IsFed from (answers ++ []) after
IsFed-none from after answers fed = subst (λ all. IsFed from all after) (sym (append-nil answers)) fed

-- further answers
pub IsFed-append : (from middle to : Feed) (first second : List Answer) → IsFed from first middle → IsFed middle second to → IsFed from (first ++ second) to
IsFed-append from middle to first second fed unasked = IsFed-none from middle first fed
IsFed-append from middle to first second fed (filled {answers} {others} {before} {after} {count} behind formed refills is) =
    filled (IsFed-append from middle before first answers fed behind) formed refills (ap (λ all. first ++ all) is ∙ sym (append_assoc first answers _))
IsFed-append from middle to first second fed (ended {answers} {others} {before} {after} behind formed refills is) =
    ended (IsFed-append from middle before first answers fed behind) formed refills (ap (λ all. first ++ all) is ∙ sym (append_assoc first answers _))

-- a window of a stream was one before it was fed
pub IsWindowOf-fed : (stream : List ℕ) {from after : Feed} {answers : List Answer} → IsFed from answers after → IsWindowOf stream (slid after.window) → IsWindowOf stream (slid from.window)
IsWindowOf-fed stream unasked is = is
IsWindowOf-fed stream (filled {answers} {others} {before} {after} {count} behind formed refills others_are) is =
    IsWindowOf-fed stream behind (IsWindowOf-before stream before.window after.window before.ahead after.ahead (More count) formed refills is)
IsWindowOf-fed stream (ended {answers} {others} {before} {after} behind formed refills others_are) is =
    IsWindowOf-fed stream behind (IsWindowOf-before stream before.window after.window before.ahead after.ahead NoMore formed refills is)

-- a refill that brings units moves the limit
pub Refills-more : (before after : Feed) (count : ℕ) → IsFormed before.window → Refills before.ahead after.ahead before.window after.window (More count) → before.window.limit < after.window.limit
Refills-more before after count formed refills =
    let units : ℕ = length refills.bytes / before.window.unit in
    let some : 0 < units = positive units (IsWhole-is before.window.unit refills.bytes (IsUnit-positive before.window.unit formed.unit) refills.gives.whole) refills.gives.some in
    omega (arith, ap (λ (window : WindowView). window.limit) refills.window_grown, some) where
      positive : (units : ℕ) → length refills.bytes ≡ before.window.unit * units → 0 < length refills.bytes → 0 < units
      positive zero whole some = (let none : length refills.bytes ≡ 0 = whole ∙ grind arith in omega (arith, none, some))
      positive (suc units) whole some = omega arith

-- the limit never falls
pub IsFed-limit : {from after : Feed} {answers : List Answer} → IsFed from answers after → from.window.limit ≤ after.window.limit
IsFed-limit unasked = omega arith
IsFed-limit (filled {answers} {others} {before} {after} {count} behind formed refills others_are) =
    omega (arith, IsFed-limit behind, Refills-more before after count formed refills)
IsFed-limit (ended {answers} {others} {before} {after} behind formed refills others_are) =
    omega (arith, IsFed-limit behind, ap (λ (window : WindowView). window.limit) refills.2)
