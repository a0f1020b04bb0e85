-- Windows of a stream, before and after refills.
use Rattle.std.proofs.Common.{◌≡◌, ◌∙◌, ap, sym, subst, ℕ, ◌+◌, ◌-◌, ◌*◌, ◌/◌, ◌<◌, ◌≤◌, List, ◌++◌, length, take, drop, get_or, replicate, arith, Option, Some, slice_get, slice_index, length-append}
use Rattle.std.proofs.Math.Nat.{mul-div_cancel_left}
use Rattle.std.proofs.Math.Seq.{take-length}
use Rattle.std.proofs.lemmas.List.{drop_at, get_or-drop, length-replicate, take-take, take_at}
use Rattle.lx_window.specs.Ahead.{Ahead}
use Rattle.lx_window.specs.Units.{IsWhole, stream_units}
use Rattle.lx_window.specs.WindowView.{WindowView}
use Rattle.lx_window.specs.Windows.{IsFormed, IsWindowOf, Refills, slid, grown, window_units}
use Rattle.lx_window.specs.declared.refills.Fill.{Fill}
use Rattle.lx_window.specs.declared.refills.Fill.TheVariants.{More, NoMore, Leave}
use Rattle.lx_window.proofs.StreamUnits.{IsUnit-positive, length-stream_units, stream_units-append, stream_units-drop}
use Rattle.lx_window.proofs.StreamWindows.{IsFormed-slid, IsFormed-whole, bytes_before-within, slice_get-window_units}

take-all : {A : Type 0} (items : List A) (count : ℕ) → length items ≡ count → take count items ≡ items
take-all items count h = ap (λ n. take n items) (sym h) ∙ take-length items

window_units-slid : (window : WindowView) → IsFormed window → window_units (slid window) ≡ drop (window.start - window.base) (window_units window)
window_units-slid window formed =
    stream_units-drop window.unit (window.start - window.base) window.bytes (IsUnit-positive window.unit formed.unit)
    (bytes_before-within window window.start formed formed.ends)

-- a unit at its place in the window, where the window slid is one of the stream
pub slice_get-slid : (stream : List ℕ) (window : WindowView) (at : ℕ) → IsFormed window → IsWindowOf stream (slid window) → window.start ≤ at → at < window.limit
    → slice_get stream at ≡ Some (slice_index (window_units window) (at - window.base))
slice_get-slid stream window at formed holds from before =
    let place : (window.start - window.base) + (at - window.start) ≡ at - window.base = omega (arith, formed.begins, from) in
    slice_get-window_units stream (slid window) at holds from before
    ∙ ap (λ units. Some (get_or units (at - window.start) 0)) (window_units-slid window formed)
    ∙ ap Some (get_or-drop (window.start - window.base) (window_units window) (at - window.start) 0)
    ∙ ap (λ n. Some (get_or (window_units window) n 0)) place

-- a window that slid has nothing before its start
pub slid-slid : (window : WindowView) → slid (slid window) ≡ slid window
slid-slid window =
    let none : window.unit * (window.start - window.start) ≡ 0 = grind arith in
    ap (λ n. record (slid window) { bytes = drop n (slid window).bytes }) none

pub slid-grown : (window : WindowView) (bytes : List ℕ) → slid (grown (slid window) bytes) ≡ grown (slid window) bytes
slid-grown window bytes =
    let none : window.unit * (window.start - window.start) ≡ 0 = grind arith in
    ap (λ n. record (grown (slid window) bytes) { bytes = drop n (grown (slid window) bytes).bytes }) none

-- a window without the units behind its limit that were added
IsWindowOf-shrunk : (stream : List ℕ) (window : WindowView) (bytes : List ℕ) → 0 < window.unit → IsWhole window.unit window.bytes
    → length window.bytes / window.unit ≡ window.limit - window.base → window.base ≤ window.start → window.start ≤ window.limit
    → IsWindowOf stream (grown window bytes) → IsWindowOf stream window
IsWindowOf-shrunk stream window bytes some whole count begins ends holds =
    let size : ℕ = window.limit - window.base in
    let long : length (window_units window) ≡ size = length-stream_units window.unit window.bytes ∙ count in
    record {
      begins = begins;
      ends = ends;
      within = omega (arith, holds.within);
      units =
          sym (take_at (window_units window) (stream_units window.unit bytes) size long)
          ∙ ap (take size) (sym (stream_units-append window.unit window.bytes bytes some whole) ∙ holds.units)
          ∙ take-take size ((grown window bytes).limit - window.base) (drop window.base stream) (omega (arith, begins, ends));
    }

-- a window of a stream was one before it was refilled
pub IsWindowOf-before : (stream : List ℕ) (before after : WindowView) (ahead rest : Option Ahead) (fill : Fill) → IsFormed before
    → Refills ahead rest before after fill → IsWindowOf stream (slid after) → IsWindowOf stream (slid before)
IsWindowOf-before stream before after ahead rest (More count) formed grows holds =
    let some : 0 < before.unit = IsUnit-positive before.unit formed.unit in
    let slid_formed : IsFormed (slid before) = IsFormed-slid before formed in
    let number : length (slid before).bytes / before.unit ≡ before.limit - before.start =
    ap (λ n. n / before.unit) slid_formed.length_bytes ∙ mul-div_cancel_left (before.limit - before.start) some in
    IsWindowOf-shrunk stream (slid before) grows.bytes some (IsFormed-whole (slid before) slid_formed) number slid_formed.begins formed.ends
    (subst (IsWindowOf stream) (ap slid grows.window_grown ∙ slid-grown before grows.bytes) holds)
IsWindowOf-before stream before after ahead rest NoMore formed h holds = subst (IsWindowOf stream) (ap slid h.2 ∙ slid-slid before) holds
IsWindowOf-before stream before after ahead rest Leave formed h holds = subst (IsWindowOf stream) (ap slid h.1 ∙ slid-slid before) holds

-- a stream that a window is one of: anything before its start, and then its units
pub some_stream : (window : WindowView) → IsFormed window → (stream : List ℕ) × IsWindowOf stream (slid window)
some_stream window formed =
    let some : 0 < window.unit = IsUnit-positive window.unit formed.unit in
    let units : List ℕ = window_units (slid window) in
    let count : length units ≡ window.limit - window.start =
    length-stream_units window.unit (slid window).bytes ∙ ap (λ n. n / window.unit) (IsFormed-slid window formed).length_bytes ∙ mul-div_cancel_left (window.limit - window.start) some in
    let zeros : List ℕ = replicate window.start 0 in
    let front : length zeros ≡ window.start = length-replicate window.start 0 in (
      zeros ++ units,
      record {
        begins = omega arith;
        ends = formed.ends;
        within = omega (arith, length-append zeros units, front, count, formed.ends);
        units = sym (ap (take (window.limit - window.start)) (drop_at zeros units window.start front) ∙ take-all units (window.limit - window.start) count);
      },
    )
