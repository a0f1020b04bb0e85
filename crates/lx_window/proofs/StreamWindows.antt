-- Windows of a stream.
use Rattle.std.proofs.Common.{◌≡◌, ◌∙◌, ap, sym, subst, ℕ, ◌+◌, ◌-◌, ◌*◌, ◌/◌, ◌%◌, ◌<◌, ◌≤◌, List, ◌++◌, length, take, drop, get_or, arith, Option, Some, None, slice_get, slice_index, drop-drop, length-append, length-drop}
use Rattle.std.proofs.Math.Nat.{mul-le-mul_left, mul-mod_right, mul-sub}
use Rattle.std.proofs.Math.Seq.{take-add}
use Rattle.std.proofs.lemmas.List.{drop-take, take-take, take_at, drop_at, get_or-take, get_or-drop}
use Rattle.std.proofs.lemmas.Option.{slice_get-get_or}
use Rattle.std.specs.Option.{option_map}
use Rattle.lx_window.specs.Ahead.{Ahead, bytes_of, after_leave}
use Rattle.lx_window.specs.Refilling.{IsSpent, bytes_then}
use Rattle.lx_window.specs.Units.{IsWhole, stream_units}
use Rattle.lx_window.specs.WindowView.{WindowView}
use Rattle.lx_window.specs.Windows.{IsFormed, IsWindowOf, IsFedBy, Refills, empty_window, begun, slid, grown, window_units, bytes_between}
use Rattle.lx_window.specs.declared.refills.Fill.{Fill}
use Rattle.lx_window.specs.declared.refills.Fill.TheVariants.{More, NoMore, Leave}
use Rattle.lx_window.proofs.StreamUnits.{IsUnit-positive, length-stream_units, stream_units-append, stream_units-drop, stream_units-take, stream_units-nil}

pub IsWindowOf-empty_window : (stream : List ℕ) (unit base buffer : ℕ) → base ≤ length stream → IsWindowOf stream (empty_window unit base buffer)
IsWindowOf-empty_window stream unit base buffer within = record {
  begins = omega arith;
  ends = omega arith;
  within = within;
  units =
      let none : base - base ≡ 0 = omega arith in
      stream_units-nil unit ∙ ap (λ n. take n (drop base stream)) (sym none);
}

pub IsWindowOf-begun : (stream : List ℕ) (window : WindowView) (at : ℕ) → IsWindowOf stream window → window.start ≤ at → at ≤ window.limit
    → IsWindowOf stream (begun window at)
IsWindowOf-begun stream window at h from to = record { begins = omega (arith, h.begins, from); ends = to; within = h.within; units = h.units }

-- the bytes of a window are units
pub IsFormed-whole : (window : WindowView) → IsFormed window → IsWhole window.unit window.bytes
IsFormed-whole window formed =
    ap (λ n. n % window.unit) formed.length_bytes ∙ mul-mod_right window.unit (window.limit - window.base)

-- a window that slid has its bytes from the token's start to the limit
pub IsFormed-slid : (window : WindowView) → IsFormed window → IsFormed (slid window)
IsFormed-slid window formed = record {
  unit = formed.unit;
  begins = omega arith;
  ends = formed.ends;
  fits = omega (arith, formed.begins, formed.fits);
  length_bytes =
      let rest : (window.limit - window.base) - (window.start - window.base) ≡ window.limit - window.start = omega (arith, formed.begins, formed.ends) in
      length-drop (window.unit * (window.start - window.base)) window.bytes
      ∙ ap (λ n. n - window.unit * (window.start - window.base)) formed.length_bytes
      ∙ sym (mul-sub window.unit (window.limit - window.base) (window.start - window.base))
      ∙ ap (λ n. window.unit * n) rest;
  early = formed.early;
}

-- the bytes before an offset are some of the window's
pub bytes_before-within : (window : WindowView) (at : ℕ) → IsFormed window → at ≤ window.limit → window.unit * (at - window.base) ≤ length window.bytes
bytes_before-within window at formed within = rw formed.length_bytes (mul-le-mul_left window.unit (omega arith))

pub IsWindowOf-slid : (stream : List ℕ) (window : WindowView) → IsFormed window → IsWindowOf stream window → IsWindowOf stream (slid window)
IsWindowOf-slid stream window formed h = record {
  begins = omega arith;
  ends = h.ends;
  within = h.within;
  units =
      let some : 0 < window.unit = IsUnit-positive window.unit formed.unit in
      let split : window.limit - window.base ≡ (window.start - window.base) + (window.limit - window.start) = omega (arith, h.begins, h.ends) in
      let offset : window.base + (window.start - window.base) ≡ window.start = omega (arith, h.begins) in
      stream_units-drop window.unit (window.start - window.base) window.bytes some (bytes_before-within window window.start formed h.ends)
      ∙ ap (drop (window.start - window.base)) (h.units ∙ ap (λ n. take n (drop window.base stream)) split)
      ∙ drop-take (window.start - window.base) (window.limit - window.start) (drop window.base stream)
      ∙ ap (take (window.limit - window.start)) (drop-drop (window.start - window.base) window.base stream ∙ ap (λ n. drop n stream) offset);
}

-- the stream goes on with these units behind a window
pub IsWindowOf-grown : (stream : List ℕ) (window : WindowView) (bytes rest : List ℕ) → 0 < window.unit → IsWhole window.unit window.bytes → IsWhole window.unit bytes
    → IsWindowOf stream window → drop window.limit stream ≡ stream_units window.unit (bytes ++ rest) → IsWindowOf stream (grown window bytes)
IsWindowOf-grown stream window bytes rest some whole whole_bytes h goes_on =
    let count : length (stream_units window.unit bytes) ≡ length bytes / window.unit = length-stream_units window.unit bytes in
    let parts : drop window.limit stream ≡ stream_units window.unit bytes ++ stream_units window.unit rest =
    goes_on ∙ stream_units-append window.unit bytes rest some whole_bytes in
    let long : length stream - window.limit ≡ length (stream_units window.unit bytes) + length (stream_units window.unit rest) =
    sym (length-drop window.limit stream) ∙ ap length parts ∙ length-append (stream_units window.unit bytes) (stream_units window.unit rest) in
    record {
      begins = h.begins;
      ends = omega (arith, h.ends);
      within = omega (arith, h.within, long, count);
      units =
          let split : window.limit + length bytes / window.unit - window.base ≡ (window.limit - window.base) + length bytes / window.unit = omega (arith, h.begins, h.ends) in
          let offset : window.base + (window.limit - window.base) ≡ window.limit = omega (arith, h.begins, h.ends) in
          let behind : drop (window.limit - window.base) (drop window.base stream) ≡ stream_units window.unit bytes ++ stream_units window.unit rest =
          drop-drop (window.limit - window.base) window.base stream ∙ ap (λ n. drop n stream) offset ∙ parts in
          stream_units-append window.unit window.bytes bytes some whole
          ∙ ap (λ units. units ++ stream_units window.unit bytes) h.units
          ∙ ap (λ units. take (window.limit - window.base) (drop window.base stream) ++ units)
          (sym (ap (take (length bytes / window.unit)) behind ∙ take_at (stream_units window.unit bytes) (stream_units window.unit rest) (length bytes / window.unit) count))
          ∙ sym (take-add (window.limit - window.base) (length bytes / window.unit) (drop window.base stream))
          ∙ ap (λ n. take n (drop window.base stream)) (sym split);
    }

drop-grown : (stream : List ℕ) (window : WindowView) (bytes rest : List ℕ) → 0 < window.unit → IsWhole window.unit bytes
    → drop window.limit stream ≡ stream_units window.unit (bytes ++ rest) → drop (grown window bytes).limit stream ≡ stream_units window.unit rest
drop-grown stream window bytes rest some whole_bytes goes_on =
    sym (drop-drop (length bytes / window.unit) window.limit stream)
    ∙ ap (drop (length bytes / window.unit)) (goes_on ∙ stream_units-append window.unit bytes rest some whole_bytes)
    ∙ drop_at (stream_units window.unit bytes) (stream_units window.unit rest) (length bytes / window.unit) (length-stream_units window.unit bytes)

IsFedBy-grown : (stream : List ℕ) (window : WindowView) (bytes : List ℕ) (ahead rest : Option Ahead) → 0 < window.unit → IsWhole window.unit window.bytes → IsWhole window.unit bytes
    → bytes_of ahead ≡ bytes_then bytes rest → IsFedBy stream window ahead → IsFedBy stream (grown window bytes) rest
IsFedBy-grown stream window bytes None rest some whole whole_bytes given h = absurd h.goes_on
IsFedBy-grown stream window bytes (Some told) None some whole whole_bytes given h = absurd cc
IsFedBy-grown stream window bytes (Some told) (Some rest) some whole whole_bytes given h =
    let same : told.bytes ≡ bytes ++ rest.bytes = cc in
    let goes_on : drop window.limit stream ≡ stream_units window.unit (bytes ++ rest.bytes) = h.goes_on ∙ ap (stream_units window.unit) same in
    record {
      holds = IsWindowOf-grown stream window bytes rest.bytes some whole whole_bytes h.holds goes_on;
      goes_on = drop-grown stream window bytes rest.bytes some whole_bytes goes_on;
    }

IsFedBy-after_leave : (stream : List ℕ) (window : WindowView) (ahead : Option Ahead) → IsFedBy stream window ahead → IsFedBy stream window (option_map after_leave ahead)
IsFedBy-after_leave stream window None h = absurd h.goes_on
IsFedBy-after_leave stream window (Some told) h = record { holds = h.holds; goes_on = h.goes_on }

pub IsFedBy-begun : (stream : List ℕ) (window : WindowView) (at : ℕ) (ahead : Option Ahead) → IsFedBy stream window ahead → window.start ≤ at → at ≤ window.limit
    → IsFedBy stream (begun window at) ahead
IsFedBy-begun stream window at ahead h from to = record { holds = IsWindowOf-begun stream window at h.holds from to; goes_on = h.goes_on }

pub IsFedBy-slid : (stream : List ℕ) (window : WindowView) (ahead : Option Ahead) → IsFormed window → IsFedBy stream window ahead → IsFedBy stream (slid window) ahead
IsFedBy-slid stream window ahead formed h = record { holds = IsWindowOf-slid stream window formed h.holds; goes_on = h.goes_on }

pub IsFedBy-Refills : (stream : List ℕ) (window after : WindowView) (ahead rest : Option Ahead) (fill : Fill)
    → IsFormed window → IsFedBy stream window ahead → Refills ahead rest window after fill → IsFedBy stream after rest
IsFedBy-Refills stream window after ahead rest (More count) formed fed grows =
    let some : 0 < window.unit = IsUnit-positive window.unit formed.unit in
    subst (λ w. IsFedBy stream w rest) (sym grows.window_grown)
    (IsFedBy-grown stream (slid window) grows.bytes ahead rest some (IsFormed-whole (slid window) (IsFormed-slid window formed)) grows.gives.whole grows.gives.given
    (IsFedBy-slid stream window ahead formed fed))
IsFedBy-Refills stream window after ahead rest NoMore formed fed h =
    subst (λ w. IsFedBy stream w rest) (sym h.2) (subst (λ told. IsFedBy stream (slid window) told) (sym h.1) (IsFedBy-slid stream window ahead formed fed))
IsFedBy-Refills stream window after ahead rest Leave formed fed h =
    subst (λ w. IsFedBy stream w rest) (sym h.1)
    (subst (λ told. IsFedBy stream (slid window) told) (sym h.0.after) (IsFedBy-after_leave stream (slid window) ahead (IsFedBy-slid stream window ahead formed fed)))

pub IsSpent-limit : (stream : List ℕ) (window : WindowView) (ahead : Option Ahead) → IsFedBy stream window ahead → IsSpent ahead → window.limit ≡ length stream
IsSpent-limit stream window None fed spent = absurd fed.goes_on
IsSpent-limit stream window (Some told) fed spent =
    let none : length stream - window.limit ≡ 0 =
    sym (length-drop window.limit stream) ∙ ap length (fed.goes_on ∙ ap (stream_units window.unit) spent ∙ stream_units-nil window.unit) in
    omega (arith, none, fed.holds.within)

pub slice_get-window_units : (stream : List ℕ) (window : WindowView) (at : ℕ) → IsWindowOf stream window → window.start ≤ at → at < window.limit
    → slice_get stream at ≡ Some (slice_index (window_units window) (at - window.base))
slice_get-window_units stream window at h from before =
    let near : at - window.base < window.limit - window.base = omega (arith, h.begins, from, before) in
    let offset : window.base + (at - window.base) ≡ at = omega (arith, h.begins, from) in
    slice_get-get_or stream at 0 (omega (arith, before, h.within))
    ∙ ap Some (sym (ap (λ units. get_or units (at - window.base) 0) h.units
    ∙ get_or-take (window.limit - window.base) (drop window.base stream) (at - window.base) 0 near
    ∙ get_or-drop window.base stream (at - window.base) 0
    ∙ ap (λ n. get_or stream n 0) offset))

pub stream_units-bytes_between : (stream : List ℕ) (window : WindowView) (to : ℕ) → IsFormed window → IsWindowOf stream window → window.start ≤ to → to ≤ window.limit
    → stream_units window.unit (bytes_between window window.start to) ≡ take (to - window.start) (drop window.start stream)
stream_units-bytes_between stream window to formed h from before =
    let some : 0 < window.unit = IsUnit-positive window.unit formed.unit in
    let within : window.unit * (to - window.start) ≤ length (slid window).bytes = bytes_before-within (slid window) to (IsFormed-slid window formed) before in
    stream_units-take window.unit (to - window.start) (slid window).bytes some within
    ∙ ap (take (to - window.start)) (IsWindowOf-slid stream window formed h).units
    ∙ take-take (to - window.start) (window.limit - window.start) (drop window.start stream) (omega arith)
