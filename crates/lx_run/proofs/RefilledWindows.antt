-- What a refill leaves of a window that a source in memory fills, and which answer it is.
use Rattle.std.proofs.Common.{◌≡◌, ◌∙◌, ap, sym, subst, refl, ℕ, zero, suc, ◌+◌, ◌-◌, ◌*◌, ◌/◌, ◌<◌, ◌≤◌, min, Bool, true, false, inl, inr, List, length, Option, Some, None, arith, length-append, length-drop}
use Rattle.std.proofs.Math.Nat.{mul-div_cancel_left, div-le_of_le-mul, le-div_iff_mul-le, mul-add}
use Rattle.std.proofs.lemmas.Bool.{cases_lt}
use Rattle.lx_window.specs.Ahead.{Ahead}
use Rattle.lx_window.specs.WindowView.{WindowView}
use Rattle.lx_window.specs.Windows.{IsFormed, IsFedBy, Grows, Refills, slid, grown}
use Rattle.lx_window.specs.declared.refills.Fill.TheVariants.{More, NoMore, Leave}
use Rattle.lx_window.proofs.StreamUnits.{IsUnit-positive, IsWhole-is, length-stream_units}
use Rattle.lx_window.proofs.StreamWindows.{IsFormed-slid, IsFedBy-Refills, IsSpent-limit}
use Rattle.lx_step.specs.Feeds.{Feed}
use Rattle.lx_run.specs.Readings.{Reading, added}
use Rattle.lx_run.specs.Windows.{IsAt}

-- ---- numbers

-- a least number of whole units, divided
min-div : (unit count bytes : ℕ) → 0 < unit → min (unit * count) bytes / unit ≡ min count (bytes / unit)
min-div unit count bytes some = elim (cases_lt bytes (unit * count)) [
  | inl less ↦
      let short : min (unit * count) bytes ≡ bytes = omega (arith, less) in
      let fewer : bytes / unit ≤ count = div-le_of_le-mul unit (omega (arith, less)) in
      ap (λ n. n / unit) short ∙ omega (arith, fewer)
  | inr enough ↦
      let full : min (unit * count) bytes ≡ unit * count = omega (arith, enough) in
      let product : count * unit ≤ bytes = grind (arith, enough) in
      let fits : count ≤ bytes / unit = (le-div_iff_mul-le {k = unit} {x = count} {y = bytes} some).1 product in
      ap (λ n. n / unit) full ∙ mul-div_cancel_left count some ∙ omega (arith, fits)
]

-- ---- a window and its source

-- what a source in memory has ahead
abbrev pub told_ahead : (step : ℕ) → (leaves leaving : Bool) → List ℕ → Ahead
told_ahead step leaves leaving bytes =
    record { bytes = bytes; parts = Some (record { step = step; leaves = leaves; leaves_next = leaving }) }

-- the window has the stream's units up to a limit, and the source has the rest: also where it left the scanner, and the refill behind
-- that was not made yet
pub record HasUnits (reading : Reading) (unit : ℕ) (leaves leaving : Bool) (start limit : ℕ) (feed : Feed) : Type 0 where
  pub formed : IsFormed feed.window
  pub unit_is : feed.window.unit ≡ unit
  pub size_is : feed.window.size ≡ reading.size
  pub start_is : feed.window.start ≡ start
  pub limit_is : feed.window.limit ≡ limit
  pub fed : IsFedBy reading.stream feed.window feed.ahead
  pub bytes : List ℕ
  pub ahead_is : feed.ahead ≡ Some (told_ahead reading.step leaves leaving bytes)

module _ (reading : Reading) (unit : ℕ) (leaves leaving : Bool) (start limit : ℕ) where
  pub IsAt-units : (feed : Feed) → IsAt reading unit leaves leaving start limit feed → HasUnits reading unit leaves leaving start limit feed
  IsAt-units feed at = record {
    formed = at.formed;
    unit_is = at.unit_is;
    size_is = at.size_is;
    start_is = at.start_is;
    limit_is = at.limit_is;
    fed = at.fed;
    bytes = at.bytes;
    ahead_is = at.ahead_is;
  }

  pub IsAt-closed : (feed : Feed) → HasUnits reading unit leaves leaving start limit feed
      → (leaves ≡ true → leaving ≡ false → limit ≡ length reading.stream)
      → (leaves ≡ false → leaving ≡ false) → IsAt reading unit leaves leaving start limit feed
  IsAt-closed feed units closed never = record {
    formed = units.formed;
    unit_is = units.unit_is;
    size_is = units.size_is;
    start_is = units.start_is;
    limit_is = units.limit_is;
    fed = units.fed;
    bytes = units.bytes;
    ahead_is = units.ahead_is;
    closed = closed;
    never = never;
  }

-- ---- a refill that brings units

IsFormed-grown : (window : WindowView) (bytes : List ℕ) → IsFormed window → length bytes ≡ window.unit * (length bytes / window.unit)
    → length bytes / window.unit ≤ window.size - (window.limit - window.start) → window.base ≡ window.start → IsFormed (grown window bytes)
IsFormed-grown window bytes formed whole room based =
    let count : ℕ = length bytes / window.unit in
    let all : (window.limit - window.base) + count ≡ window.limit + count - window.base = omega (arith, formed.begins, formed.ends) in
    record {
      unit = formed.unit;
      begins = formed.begins;
      ends = omega (arith, formed.ends);
      fits = omega (arith, formed.ends, formed.fits, room, based);
      length_bytes =
          length-append window.bytes bytes
          ∙ ap (λ n. n + length bytes) formed.length_bytes
          ∙ ap (λ n. window.unit * (window.limit - window.base) + n) whole
          ∙ sym (mul-add window.unit (window.limit - window.base) count)
          ∙ ap (λ n. window.unit * n) all;
      early = formed.early;
    }

-- a refill that brought units: the scanner was not to be left, the stream went on, and this is what the window has now
pub record Filled (reading : Reading) (unit : ℕ) (leaves leaving : Bool) (start limit : ℕ) (before after : Feed) : Type 0 where
  pub unleft : leaving ≡ false
  pub added_is : after.window.limit - before.window.limit ≡ added reading start limit
  pub some : 0 < added reading start limit
  pub within : limit < length reading.stream
  pub units : HasUnits reading unit leaves leaves start (limit + added reading start limit) after

module _ (reading : Reading) (unit : ℕ) (leaves : Bool) (start limit : ℕ) where
  module _ (leaving : Bool) (before : Feed) (units : HasUnits reading unit leaves leaving start limit before) where
    abbrev Told : Option Ahead
    Told = Some (told_ahead reading.step leaves leaving units.bytes)

    some_bytes : 0 < before.window.unit
    some_bytes = IsUnit-positive before.window.unit units.formed.unit

    rest_is : length units.bytes / before.window.unit ≡ length reading.stream - limit
    rest_is =
        let fed : IsFedBy reading.stream before.window Told =
        subst (λ ahead. IsFedBy reading.stream before.window ahead) units.ahead_is units.fed in
        sym (length-stream_units before.window.unit units.bytes) ∙ ap length (sym fed.goes_on)
        ∙ length-drop before.window.limit reading.stream
        ∙ ap (λ n. length reading.stream - n) units.limit_is

    -- how many units a part has, as units
    part_is : (bytes : List ℕ) (count : ℕ) → length bytes ≡ count
        → count ≡ min (before.window.unit * reading.step)
        (min (before.window.unit * (before.window.size - (before.window.limit - before.window.start))) (length units.bytes))
        → length bytes / before.window.unit ≡ added reading start limit
    part_is bytes count long is =
        let one : ℕ = before.window.unit in
        let room : ℕ = before.window.size - (before.window.limit - before.window.start) in
        let room_is : room ≡ reading.size - (limit - start) =
        ap (λ n. n - (before.window.limit - before.window.start)) units.size_is ∙ ap
        (λ n. reading.size - (n - before.window.start)) units.limit_is
        ∙ ap (λ n. reading.size - (limit - n)) units.start_is in
        ap (λ n. n / one) (long ∙ is)
        ∙ min-div one reading.step (min (one * room) (length units.bytes)) some_bytes
        ∙ ap (min reading.step)
        (min-div one room (length units.bytes) some_bytes ∙ ap (λ n. min room n) rest_is ∙ ap (λ n. min n (length reading.stream - limit)) room_is)

    Filled-grows : (after : WindowView) (rest : Option Ahead) (count : ℕ) → Grows Told rest (slid before.window) after count
        → Filled reading unit leaves leaving start limit before (record { ahead = rest; window = after })
    Filled-grows after None count grows = absurd (let none = grows.gives.given in cc)
    Filled-grows after (Some told) count grows =
        let bytes : List ℕ = grows.bytes in
        let one : ℕ = before.window.unit in
        let number : length bytes / one ≡ added reading start limit = part_is bytes count grows.length_bytes grows.part.count_is in
        let whole : length bytes ≡ one * (length bytes / one) = IsWhole-is one bytes some_bytes grows.gives.whole in
        let some : 0 < length bytes / one = positive (length bytes / one) whole grows.gives.some in
        let limits : after.limit ≡ before.window.limit + length bytes / one =
        ap (λ (window : WindowView). window.limit) grows.window_grown in
        let fits : length bytes / one ≤ before.window.size - (before.window.limit - before.window.start) =
        rw number (omega (arith, units.size_is, units.limit_is, units.start_is)) in
        let parts : told.parts ≡ Some (record { step = reading.step; leaves = leaves; leaves_next = leaves }) = grows.part.after in
        record {
          unleft = grows.part.stays;
          added_is = omega (arith, limits, number);
          some = rw (← number) some;
          within = omega (arith, some, number);
          units = record {
            formed =
                subst IsFormed (sym grows.window_grown)
                (IsFormed-grown (slid before.window) bytes (IsFormed-slid before.window units.formed) whole fits refl);
            unit_is = ap (λ (window : WindowView). window.unit) grows.window_grown ∙ units.unit_is;
            size_is = ap (λ (window : WindowView). window.size) grows.window_grown ∙ units.size_is;
            start_is = ap (λ (window : WindowView). window.start) grows.window_grown ∙ units.start_is;
            limit_is = omega (arith, limits, number, units.limit_is);
            fed = IsFedBy-Refills reading.stream before.window after Told (Some told) (More count) units.formed
                (subst (λ ahead. IsFedBy reading.stream before.window ahead) units.ahead_is units.fed) grows;
            bytes = told.bytes;
            ahead_is = ap (λ all. Some (record { bytes = told.bytes; parts = all })) parts;
          };
        } where
          positive : (count : ℕ) → length grows.bytes ≡ before.window.unit * count → 0 < length grows.bytes → 0 < count
          positive zero whole some = (let none : length grows.bytes ≡ 0 = whole ∙ grind arith in omega (arith, none, some))
          positive (suc count) whole some = omega arith

    pub Filled-Refills : (after : Feed) (count : ℕ) → Refills before.ahead after.ahead before.window after.window (More count)
        → Filled reading unit leaves leaving start limit before after
    Filled-Refills after count refills =
        Filled-grows after.window after.ahead count
        (subst (λ ahead. Refills ahead after.ahead before.window after.window (More count)) units.ahead_is refills)

-- ---- a refill that brings none

-- the scanner was not to be left, and the stream ended
pub record Ended (reading : Reading) (unit : ℕ) (leaves leaving : Bool) (start limit : ℕ) (after : Feed) : Type 0 where
  pub unleft : leaving ≡ false
  pub whole : limit ≡ length reading.stream
  pub units : HasUnits reading unit leaves leaving start limit after

-- the source left the scanner, and does not again before the next part
pub record Paused (reading : Reading) (unit : ℕ) (leaves leaving : Bool) (start limit : ℕ) (after : Feed) : Type 0 where
  pub leaves_now : leaving ≡ true
  pub units : HasUnits reading unit leaves false start limit after

module _ (reading : Reading) (unit : ℕ) (leaves leaving : Bool) (start limit : ℕ) (before after : Feed) (units : HasUnits reading unit leaves leaving start limit before) where
  -- a window that slid, and what is ahead of its source then
  HasUnits-slid : (leaving' : Bool) (bytes : List ℕ) → after.window ≡ slid before.window
      → after.ahead ≡ Some (told_ahead reading.step leaves leaving' bytes)
      → IsFedBy reading.stream after.window after.ahead → HasUnits reading unit leaves leaving' start limit after
  HasUnits-slid leaving' bytes window ahead fed = record {
    formed = subst IsFormed (sym window) (IsFormed-slid before.window units.formed);
    unit_is = ap (λ (window : WindowView). window.unit) window ∙ units.unit_is;
    size_is = ap (λ (window : WindowView). window.size) window ∙ units.size_is;
    start_is = ap (λ (window : WindowView). window.start) window ∙ units.start_is;
    limit_is = ap (λ (window : WindowView). window.limit) window ∙ units.limit_is;
    fed = fed;
    bytes = bytes;
    ahead_is = ahead;
  }

  pub Ended-Refills : Refills before.ahead after.ahead before.window after.window NoMore
      → Ended reading unit leaves leaving start limit after
  Ended-Refills refills =
      let told : Refills (Some (told_ahead reading.step leaves leaving units.bytes)) after.ahead before.window after.window NoMore =
      subst (λ ahead. Refills ahead after.ahead before.window after.window NoMore) units.ahead_is refills in
      record {
        unleft = told.3;
        whole = sym units.limit_is ∙ IsSpent-limit reading.stream before.window before.ahead units.fed refills.0;
        units = HasUnits-slid leaving units.bytes refills.2 (refills.1 ∙ units.ahead_is)
            (IsFedBy-Refills reading.stream before.window after.window before.ahead after.ahead NoMore units.formed units.fed refills);
      }

  pub Paused-Refills : Refills before.ahead after.ahead before.window after.window Leave
      → Paused reading unit leaves leaving start limit after
  Paused-Refills refills =
      let told : Refills (Some (told_ahead reading.step leaves leaving units.bytes)) after.ahead before.window after.window Leave =
      subst (λ ahead. Refills ahead after.ahead before.window after.window Leave) units.ahead_is refills in
      record {
        leaves_now = told.0.leaves;
        units = HasUnits-slid false units.bytes refills.1 told.0.after
            (IsFedBy-Refills reading.stream before.window after.window before.ahead after.ahead Leave units.formed units.fed refills);
      }
