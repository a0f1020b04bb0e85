-- Windows in their buffers.
use borrow.Rule.Slice.PartMut.{put_mid, same_len_mid}
use Rattle.std.proofs.Common.{◌≡◌, ◌∙◌, ap, sym, ℕ, suc, ◌+◌, ◌-◌, ◌*◌, ◌/◌, ◌<◌, ◌≤◌, subst, ◌%◌, List, Option, ◌++◌, length, take, drop, get_or, arith, mul-add, length-drop}
use Rattle.std.proofs.lemmas.List.{take-take, take-append-le, drop-take, length-take-le}
use Rattle.std.proofs.lemmas.List.Edits.{take-paste}
use Rattle.std.proofs.Math.Nat.{mul-div_cancel_left, mul-le-mul_left, mul-sub}
use Rattle.std.proofs.Math.Seq.{take-append-add}
use Rattle.std.specs.List.{copy_within}
use Rattle.lx_window.specs.Units.{IsWhole, number_of, units_from, stream_units}
use Rattle.lx_window.specs.Ahead.{Ahead}
use Rattle.lx_window.specs.Refilling.{Gives, IsPart, Adds}
use Rattle.lx_window.specs.WindowView.{WindowView}
use Rattle.lx_window.specs.Windows.{Grows, grown, slid, free_bytes}
use Rattle.lx_window.proofs.StreamUnits.{IsWhole-is, get_or-units_from}

-- a unit of the first units of a buffer
pub get_or-front_units : (unit count place : ℕ) (buffer : List ℕ) → 0 < unit → unit * count ≤ length buffer → place < count
    → get_or (stream_units unit (take (unit * count) buffer)) place 0 ≡ number_of (take unit (drop (unit * place) buffer))
get_or-front_units unit count place buffer some fits inside =
    let whole : length (take (unit * count) buffer) / unit ≡ count =
    ap (λ n. n / unit) (length-take-le (unit * count) buffer fits) ∙ mul-div_cancel_left count some in
    let below : unit * suc place ≤ unit * count = mul-le-mul_left unit inside in
    let split : unit * count ≡ unit * place + (unit * count - unit * place) = omega (arith, below) in
    let long : unit ≤ unit * count - unit * place = omega (arith, below) in
    ap (λ n. get_or (units_from unit n (take (unit * count) buffer)) place 0) whole
    ∙ get_or-units_from unit count (take (unit * count) buffer) place inside
    ∙ ap (λ n. number_of (take unit (drop (unit * place) (take n buffer)))) split
    ∙ ap (λ bytes. number_of (take unit bytes)) (drop-take (unit * place) (unit * count - unit * place) buffer)
    ∙ ap number_of (take-take unit (unit * count - unit * place) (drop (unit * place) buffer) long)

-- what is left of the first bytes of a buffer once some at its front are dropped
pub take-copy_within : (from end : ℕ) (buffer : List ℕ) → from ≤ end → end ≤ length buffer
    → take (end - from) (copy_within buffer from end 0) ≡ drop from (take end buffer)
take-copy_within from end buffer order fits =
    let long : end - from ≤ length (drop from buffer) = omega (arith, fits, length-drop from buffer) in
    let all : end - from ≡ 0 + (end - from) = omega arith in
    let split : from + (end - from) ≡ end = omega arith in
    ap (λ n. take n (copy_within buffer from end 0)) all ∙ take-paste buffer 0 (drop from buffer) (end - from) (omega arith) long
    ∙ sym (drop-take from (end - from) buffer) ∙ ap (λ n. drop from (take n buffer)) split

-- a window at the front of a buffer
abbrev pub view_at : (unit base start limit : ℕ) → List ℕ → WindowView
view_at unit base start limit buffer = record {
  unit = unit;
  base = base;
  start = start;
  limit = limit;
  bytes = take (unit * (limit - base)) buffer;
  size = length buffer / unit;
}

pub view-slid : (unit base start limit from end : ℕ) (buffer buffer' : List ℕ) → base ≤ start → start ≤ limit → unit * (limit - base) ≤ length buffer
    → from ≡ unit * (start - base) → end ≡ unit * (limit - base) → buffer' ≡ copy_within buffer from end 0 → length buffer' ≡ length buffer
    → view_at unit start start limit buffer' ≡ slid (view_at unit base start limit buffer)
view-slid unit base start limit from end buffer buffer' begins ends fits from-is end-is copied same =
    let size : length buffer' / unit ≡ length buffer / unit = ap (λ n. n / unit) same in
    let bytes : take (unit * (limit - start)) buffer' ≡ drop (unit * (start - base)) (take (unit * (limit - base)) buffer) =
    let order : from ≤ end = rw (from-is, end-is) (mul-le-mul_left unit (omega arith)) in
    let left : unit * (limit - start) ≡ end - from =
    let gap : limit - start ≡ (limit - base) - (start - base) = omega (arith, begins, ends) in
    ap (λ n. unit * n) gap ∙ mul-sub unit (limit - base) (start - base) ∙ rw (from-is, end-is) in
    ap (λ n. take n buffer') left ∙ ap (λ held. take (end - from) held) copied ∙ take-copy_within from end buffer order (omega arith)
    ∙ ap (λ n. drop n (take end buffer)) from-is ∙ ap (λ n. drop (unit * (start - base)) (take n buffer)) end-is in
    cc

-- the first bytes of a buffer, once some were written behind them
pub take-put_mid : (held count : ℕ) (buffer room : List ℕ) → held ≤ length buffer → count ≤ length room
    → take (held + count) (put_mid held (length buffer - held) buffer room) ≡ take held buffer ++ take count room
take-put_mid held count buffer room inside fits =
    let front : length (take held buffer) ≡ held = length-take-le held buffer inside in
    let rest : List ℕ = drop (length buffer - held) (drop held buffer) in
    ap (λ n. take (n + count) (take held buffer ++ (room ++ rest))) (sym front)
    ∙ take-append-add (take held buffer) (room ++ rest) count
    ∙ ap (λ bytes. take held buffer ++ bytes) (take-append-le count room rest fits)

-- the bytes behind the units of a buffer are those that are free
free_bytes-view_at : (unit base start limit held : ℕ) (buffer : List ℕ) → 0 < unit → IsWhole unit buffer → unit * (limit - base) ≤ length buffer → held ≡ unit * (limit - base)
    → length (take (length buffer - held) (drop held buffer)) ≡ free_bytes (view_at unit base start limit buffer)
free_bytes-view_at unit base start limit held buffer some whole fits held-is =
    let behind : length (drop held buffer) ≡ length buffer - held = length-drop held buffer in
    length-take-le (length buffer - held) (drop held buffer) (omega (arith, behind))
    ∙ rw held-is (ap (λ n. n - unit * (limit - base)) (IsWhole-is unit buffer some whole))
    ∙ sym (mul-sub unit (length buffer / unit) (limit - base))

-- a window is longer by what its source wrote behind its limit
pub Grows-view_at : (unit base start limit held count divisor of_source : ℕ) (buffer room : List ℕ) (ahead ahead' : Option Ahead) (window : WindowView)
    → 0 < unit → IsWhole unit buffer → base ≤ limit → unit * (limit - base) ≤ length buffer → held ≡ unit * (limit - base) → divisor ≡ unit → of_source ≡ unit
    → length room ≡ length (take (length buffer - held) (drop held buffer))
    → Adds of_source ahead ahead' (take (length buffer - held) (drop held buffer)) room count
    → view_at unit base start limit buffer ≡ window
    → Grows ahead ahead' window (view_at unit base start (limit + count / divisor) (put_mid held (length buffer - held) buffer room)) count
Grows-view_at unit base start limit held count divisor of_source buffer room ahead ahead' window some whole_buffer order fits held-is divisor-is source-is same adds window-is =
    let within : count ≤ length room = omega (arith, adds.within, same) in
    let long : length (take count room) ≡ count = length-take-le count room within in
    let gives : Gives unit ahead ahead' (take count room) = subst (λ n. Gives n ahead ahead' (take count room)) source-is adds.gives in
    let whole : count % unit ≡ 0 = ap (λ n. n % unit) (sym long) ∙ gives.whole in
    let even : unit * (count / unit) ≡ count = omega (arith, whole) in
    let size : length (put_mid held (length buffer - held) buffer room) / unit ≡ length buffer / unit =
    ap (λ n. n / unit) (same_len_mid held (length buffer - held) buffer room same) in
    let further : limit + count / divisor ≡ limit + length (take count room) / unit = rw (divisor-is, long) in
    let sum : unit * (limit + count / divisor - base) ≡ held + count =
    let parts : limit + count / divisor - base ≡ (limit - base) + count / unit = rw divisor-is (omega arith) in
    ap (λ n. unit * n) parts ∙ mul-add unit (limit - base) (count / unit) ∙ rw (held-is, even) in
    let bytes : take (unit * (limit + count / divisor - base)) (put_mid held (length buffer - held) buffer room) ≡ take (unit * (limit - base)) buffer ++ take count room =
    ap (λ n. take n (put_mid held (length buffer - held) buffer room)) sum ∙ take-put_mid held count buffer room (omega (arith, fits, held-is)) within
    ∙ ap (λ n. take n buffer ++ take count room) held-is in
    let part : IsPart unit (free_bytes (view_at unit base start limit buffer)) ahead ahead' count =
    subst (λ n. IsPart n (free_bytes (view_at unit base start limit buffer)) ahead ahead' count) source-is
    (subst (λ n. IsPart of_source n ahead ahead' count) (free_bytes-view_at unit base start limit held buffer some whole_buffer fits held-is) adds.part) in
    let same_view : view_at unit base start (limit + count / divisor) (put_mid held (length buffer - held) buffer room) ≡ grown (view_at unit base start limit buffer) (take count room) = cc in
    subst (λ w. Grows ahead ahead' w (view_at unit base start (limit + count / divisor) (put_mid held (length buffer - held) buffer room)) count) window-is
    (record { bytes = take count room; length_bytes = long; gives = gives; part = part; window_grown = same_view })
