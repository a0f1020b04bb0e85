-- A window that a source fills, until there are no more units.
use Rattle.std.proofs.Common.{◌≡◌, ◌∙◌, sym, refl, ap, subst, ℕ, ◌+◌, ◌-◌, ◌*◌, ◌<◌, ◌≤◌, ◌⊎◌, inl, inr, Bool, false, List, length, Option, Some, None, arith}
use Rattle.std.specs.Prelude.{if◌then◌else◌, ◌&&◌, ◌==◌}
use Rattle.std.proofs.lemmas.Bool.{cases_lt, eq-eqb, ne_eqb}
use Rattle.std.proofs.Math.Nat.{mul-le-mul_left, mul-zero}
use Rattle.std.proofs.Math.Bool.{and-false, and-true}
use Rattle.lx_window.specs.Ahead.{Ahead, Parts, parts_of}
use Rattle.lx_window.specs.MemorySource.{MemorySource, ahead_of}
use Rattle.lx_window.specs.Windows.{IsFormed, IsFedBy, Grows, KeepsStart, Refills, slid}
use Rattle.lx_window.specs.WindowView.{WindowView}
use Rattle.lx_window.specs.declared.refills.Fill.{Fill}
use Rattle.lx_window.specs.declared.refills.Fill.TheVariants.{More, NoMore, Leave}
use Rattle.lx_window.proofs.StreamWindows.{IsFedBy-Refills, IsSpent-limit}
use Rattle.lx_step.specs.Feeds.{feed_of}
use Rattle.lx_run.specs.Readings.{Reading}
use Rattle.lx_run.specs.Windows.{IsAt}

-- The window has the stream's units from its beginning up to its limit, and the source has the rest. It leaves the scanner or never does; where
-- the window is full, it does next what it did first.
pub record IsFilling (reading : Reading) (unit : ℕ) (leaves : Bool) (window : WindowView) (source : MemorySource) : Type 0 where
  pub formed : IsFormed window
  pub unit_is : window.unit ≡ unit
  pub size_is : window.size ≡ reading.size
  pub start_is : window.start ≡ 0
  pub fed : IsFedBy reading.stream window (ahead_of source)
  pub step_is : source.step ≡ reading.step
  pub leaves_is : source.leaves ≡ leaves
  pub at_end : window.limit ≡ window.size → source.leaves_next ≡ leaves
  pub never : leaves ≡ false → source.leaves_next ≡ false

-- how many refills a source answers at most: two for each byte, and one
abbrev pub refills_left : MemorySource → ℕ
refills_left source = 2 * length source.bytes + (if source.leaves_next then 1 else 0)

-- the parts in which a source gives its bytes, or others
abbrev parts_in : Option Parts → Parts
parts_in None = record { step = 0; leaves = false; leaves_next = false }
parts_in (Some parts) = parts

abbrev told_parts : Option Ahead → Parts
told_parts ahead = parts_in (parts_of ahead)

abbrev told_ahead : List ℕ → (step : ℕ) → (leaves leaves_next : Bool) → Option Ahead
told_ahead bytes step leaves leaves_next =
    Some (record { bytes = bytes; parts = Some (record { step = step; leaves = leaves; leaves_next = leaves_next }) })

-- ---- room

pub room-some : (unit room end limit : ℕ) → room ≡ unit * (end - limit) → 0 < room → limit < end
room-some unit room end limit is some = by (cases_lt limit end) where
  by : (limit < end) ⊎ (end ≤ limit) → limit < end
  by (inl more) = more
  by (inr none) =
      let nothing : end - limit ≡ 0 = omega arith in
      let no_room : room ≡ 0 = is ∙ ap (λ (free : ℕ). unit * free) nothing ∙ mul-zero unit in
      absurd (omega (arith, some, no_room))

pub room-none : (unit room end limit : ℕ) → 0 < unit → room ≡ unit * (end - limit) → room ≤ 0 → end ≤ limit
room-none unit room end limit some is none = by (cases_lt limit end) where
  by : (limit < end) ⊎ (end ≤ limit) → end ≤ limit
  by (inr none) = none
  by (inl more) =
      let unit_free : 1 ≤ end - limit = omega arith in
      let units : unit * 1 ≤ unit * (end - limit) = mul-le-mul_left unit unit_free in
      absurd (omega (arith, units, is, none, some))

module _ {reading : Reading} {unit : ℕ} {leaves : Bool} where
  pub IsFilling-first : (window : WindowView) (source : MemorySource)
      → IsAt reading unit leaves leaves 0 0 (feed_of (ahead_of source) window)
      → IsFilling reading unit leaves window source
  IsFilling-first window source at =
      let told = ap told_parts at.ahead_is in
      let next : source.leaves_next ≡ leaves = ap (λ (parts : Parts). parts.leaves_next) told in
      record {
        formed = at.formed;
        unit_is = at.unit_is;
        size_is = at.size_is;
        start_is = at.start_is;
        fed = at.fed;
        step_is = ap (λ (parts : Parts). parts.step) told;
        leaves_is = ap (λ (parts : Parts). parts.leaves) told;
        at_end = λ full. next;
        never = λ is. next ∙ is;
      }

  module _ (window window' : WindowView) (source source' : MemorySource) (filling : IsFilling reading unit leaves window source)
      (formed : IsFormed window') (keeps : KeepsStart window window') where
    -- units were added
    IsFilling-More : {count : ℕ} → Grows (ahead_of source) (ahead_of source') (slid window) window' count
        → IsFilling reading unit leaves window' source'
    IsFilling-More {count} refills =
        let told = ap parts_in refills.part.after in
        let next : source'.leaves_next ≡ leaves = ap (λ (parts : Parts). parts.leaves_next) told ∙ filling.leaves_is in
        record {
          formed = formed;
          unit_is = keeps.same_unit ∙ filling.unit_is;
          size_is = keeps.same_size ∙ filling.size_is;
          start_is = keeps.same_start ∙ filling.start_is;
          fed = IsFedBy-Refills reading.stream window window' (ahead_of source) (ahead_of source') (More count) filling.formed filling.fed
              refills;
          step_is = ap (λ (parts : Parts). parts.step) told ∙ filling.step_is;
          leaves_is = ap (λ (parts : Parts). parts.leaves) told ∙ filling.leaves_is;
          at_end = λ full. next;
          never = λ is. next ∙ is;
        }

    -- the scanner was to be left; there is room still
    IsFilling-Leave : window.limit < window.base + window.size → Refills (ahead_of source) (ahead_of source') window window' Leave
        → IsFilling reading unit leaves window' source'
    IsFilling-Leave room refills =
        let told = ap told_parts refills.0.after in
        let next : source'.leaves_next ≡ false = ap (λ (parts : Parts). parts.leaves_next) told in
        let size = keeps.same_size in
        let limit = ap (λ (view : WindowView). view.limit) refills.1 in
        let start = filling.start_is in
        let base = filling.formed.begins in
        record {
          formed = formed;
          unit_is = keeps.same_unit ∙ filling.unit_is;
          size_is = keeps.same_size ∙ filling.size_is;
          start_is = keeps.same_start ∙ filling.start_is;
          fed = IsFedBy-Refills reading.stream window window' (ahead_of source) (ahead_of source') Leave filling.formed filling.fed refills;
          step_is = ap (λ (parts : Parts). parts.step) told ∙ filling.step_is;
          leaves_is = ap (λ (parts : Parts). parts.leaves) told ∙ filling.leaves_is;
          at_end = λ full. absurd (omega (arith, room, size, limit, start, base, full));
          never = λ is. next;
        }

  -- so it stays by an answer behind which more are filled in
  pub IsFilling-goes_on : (window window' : WindowView) (source source' : MemorySource) (fill : Fill)
      → IsFilling reading unit leaves window source → IsFormed window' → KeepsStart window window'
      → window.limit < window.base + window.size → ((count : ℕ) × (fill ≡ More count)) ⊎ (fill ≡ Leave)
      → Refills (ahead_of source) (ahead_of source') window window' fill
      → IsFilling reading unit leaves window' source'
  IsFilling-goes_on window window' source source' fill filling formed keeps room goes_on refills = elim goes_on [
    | inl more ↦ IsFilling-More window window' source source' filling formed keeps
        (subst (λ (answer : Fill). Refills (ahead_of source) (ahead_of source') window window' answer) more.1 refills)
    | inr leave ↦ IsFilling-Leave window window' source source' filling formed keeps room
        (subst (λ (answer : Fill). Refills (ahead_of source) (ahead_of source') window window' answer) leave refills)
  ]

  -- there are no more units, or no more room, and the window has them all
  IsAt-filled : (leaving : Bool) (window : WindowView) (source : MemorySource) → IsFilling reading unit leaves window source
      → window.limit ≡ length reading.stream
      → source.leaves_next ≡ leaving → IsAt reading unit leaves leaving 0 (length reading.stream) (feed_of (ahead_of source) window)
  IsAt-filled leaving window source filling limit_is leaving_is = record {
    formed = filling.formed;
    unit_is = filling.unit_is;
    size_is = filling.size_is;
    start_is = filling.start_is;
    limit_is = limit_is;
    fed = filling.fed;
    bytes = source.bytes;
    ahead_is =
        ap (λ (step : ℕ). told_ahead source.bytes step source.leaves source.leaves_next) filling.step_is
        ∙ ap (λ (is_left : Bool). told_ahead source.bytes reading.step is_left source.leaves_next) filling.leaves_is
        ∙ ap (λ (next : Bool). told_ahead source.bytes reading.step leaves next) leaving_is;
    closed = λ leaves_is leaving_is. refl;
    never = λ is. sym leaving_is ∙ filling.never is;
  }

  -- there are no more units, and there was room for some
  pub IsAt-NoMore : (window window' : WindowView) (source source' : MemorySource) → IsFilling reading unit leaves window source
      → IsFormed window' → KeepsStart window window'
      → window.limit < window.base + window.size → Refills (ahead_of source) (ahead_of source') window window' NoMore
      → IsAt reading unit leaves (leaves && (reading.size == length reading.stream)) 0 (length reading.stream)
      (feed_of (ahead_of source') window')
  IsAt-NoMore window window' source source' filling formed keeps room refills =
      let told = ap told_parts refills.1 in
      let fed = IsFedBy-Refills reading.stream window window' (ahead_of source) (ahead_of source') NoMore filling.formed filling.fed
      refills in
      let ended : window.limit ≡ length reading.stream = IsSpent-limit reading.stream window (ahead_of source) filling.fed refills.0 in
      let limit : window'.limit ≡ window.limit = ap (λ (view : WindowView). view.limit) refills.2 in
      let begins = filling.formed.begins in
      let start = filling.start_is in
      let size = filling.size_is in
      let more : (reading.size ≡ length reading.stream) → ⊥ = λ same. omega (arith, room, ended, begins, start, size, same) in
      let next : source'.leaves_next ≡ false = ap (λ (parts : Parts). parts.leaves_next) told ∙ refills.3 in
      IsAt-filled (leaves && (reading.size == length reading.stream)) window' source'
      (record {
        formed = formed;
        unit_is = keeps.same_unit ∙ filling.unit_is;
        size_is = keeps.same_size ∙ filling.size_is;
        start_is = keeps.same_start ∙ filling.start_is;
        fed = fed;
        step_is = ap (λ (parts : Parts). parts.step) told ∙ filling.step_is;
        leaves_is = ap (λ (parts : Parts). parts.leaves) told ∙ filling.leaves_is;
        at_end = λ full. let size' = keeps.same_size in absurd (omega (arith, room, limit, size', begins, start, full));
        never = λ is. next;
      })
      (limit ∙ ended)
      (next ∙ sym (and-false leaves) ∙ sym (ap (λ (test : Bool). leaves && test) (ne_eqb reading.size (length reading.stream) more)))

  -- there is no room, and there was some for all units
  pub IsAt-full : (window : WindowView) (source : MemorySource) → IsFilling reading unit leaves window source
      → length reading.stream ≤ reading.size
      → window.base + window.size ≤ window.limit
      → IsAt reading unit leaves (leaves && (reading.size == length reading.stream)) 0 (length reading.stream)
      (feed_of (ahead_of source) window)
  IsAt-full window source filling fits room =
      let within = filling.fed.holds.within in
      let start = filling.start_is in
      let begins = filling.formed.begins in
      let size = filling.size_is in
      let ended : window.limit ≡ length reading.stream = omega (arith, fits, room, within, start, begins, size) in
      let same : reading.size ≡ length reading.stream = omega (arith, fits, room, within, start, begins, size) in
      let full : window.limit ≡ window.size = omega (arith, ended, same, size) in
      IsAt-filled (leaves && (reading.size == length reading.stream)) window source filling ended
      (filling.at_end full ∙ sym (and-true leaves) ∙ sym (ap (λ (test : Bool). leaves && test)
      (eq-eqb reading.size (length reading.stream) same)))
