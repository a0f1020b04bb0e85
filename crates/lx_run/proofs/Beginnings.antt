-- The window and the source before the first match.
use Rattle.std.proofs.Common.{◌≡◌, ◌∙◌, sym, refl, ap, subst, ℕ, suc, ◌-◌, ◌*◌, Bool, true, false, List, Option, length, take, drop, arith}
use Rattle.std.specs.Prelude.{if◌then◌else◌, ◌&&◌, ◌==◌}
use Rattle.std.specs.List.{list_any}
use Rattle.std.proofs.Math.Nat.{mul-zero}
use Rattle.std.proofs.lemmas.List.{nil_from_length}
use Rattle.lx_ccode.specs.declared.piece.Piece.{Piece}
use Rattle.lx_ccode.specs.Statements.{all_statements, is_state}
use Rattle.lx_step.specs.Feeds.{Feed, feed_of}
use Rattle.lx_step.specs.Held.{fresh}
use Rattle.lx_window.proofs.StreamUnits.{stream_units-nil}
use Rattle.lx_window.specs.MemorySource.{MemorySource, ahead_of}
use Rattle.lx_window.specs.Units.{stream_units}
use Rattle.lx_window.specs.WindowView.{WindowView}
use Rattle.lx_run.specs.Ends.{EndsAs}
use Rattle.lx_run.specs.Readings.{Reading}
use Rattle.lx_run.specs.Streams.{holds_all}
use Rattle.lx_run.specs.Texts.{Between, beginning, run_from}
use Rattle.lx_run.specs.Windows.{IsAt, IsBetween, MayBegin, reading_by}
use Rattle.lx_run.specs.declared.ends.RunEnd.{RunEnd}

-- the window is empty
pub IsAt-empty : (piece : Piece) (window : WindowView) (source : MemorySource) → MayBegin piece window source
    → IsAt (reading_by window source) piece.unit source.leaves source.leaves 0 0 (feed_of (ahead_of source) window)
IsAt-empty piece window source begins =
    let base = begins.base in
    let limit = begins.limit in
    let none : window.limit - window.base ≡ 0 = omega arith in
    let nothing : length window.bytes ≡ 0 = begins.formed.length_bytes ∙ ap (λ (count : ℕ). window.unit * count) none
    ∙ mul-zero window.unit in
    record {
      formed = begins.formed;
      unit_is = begins.unit;
      size_is = refl;
      start_is = begins.start;
      limit_is = begins.limit;
      fed = record {
        holds = record {
          begins = begins.formed.begins;
          ends = begins.formed.ends;
          within = omega arith;
          units =
              ap (stream_units window.unit) (nil_from_length window.bytes nothing) ∙ stream_units-nil window.unit
              ∙ sym (ap (λ (count : ℕ). take count (drop window.base (stream_units source.unit source.bytes))) none);
        };
        goes_on =
            ap (λ (count : ℕ). drop count (stream_units source.unit source.bytes)) limit
            ∙ ap (λ (unit : ℕ). stream_units unit source.bytes) (begins.source_unit ∙ sym begins.unit);
      };
      bytes = source.bytes;
      ahead_is = ap (λ (next : Bool). ahead_of (record source { leaves_next = next })) begins.leaves_next;
      closed = λ leaves stays. let both = sym leaves ∙ stays in absurd cc;
      never = λ never. never;
    }

-- the window has the whole stream
pub IsBetween-filled : (piece : Piece) (reading : Reading) (leaves : Bool) (feed : Feed) → holds_all piece ≡ true
    → leaves ≡ list_any is_state (all_statements piece.blocks)
    → IsAt reading piece.unit leaves (leaves && (reading.size == length reading.stream)) 0 (length reading.stream) feed
    → IsBetween piece reading leaves (beginning piece reading) (fresh piece) feed
IsBetween-filled piece reading leaves feed holds leaves_is at =
    let states = list_any is_state (all_statements piece.blocks) in
    let whole = reading.size == length reading.stream in
    let full : Between = record { held = fresh piece; start = 0; limit = length reading.stream; leaving = states && whole } in
    let empty : Between = record { held = fresh piece; start = 0; limit = 0; leaving = states } in
    subst (λ (test : Bool). IsBetween piece reading leaves (if test then full else empty) (fresh piece) feed) (sym holds)
    (record {
      held_is = refl;
      piece_is = refl;
      unleft = refl;
      fit = refl;
      at = subst (λ (leaving : Bool). IsAt reading piece.unit leaves leaving 0 (length reading.stream) feed)
          (ap (λ (test : Bool). test && whole) leaves_is) at;
    })

-- the first match starts at the stream's beginning
beginning-start : (piece : Piece) (reading : Reading) → (beginning piece reading).start ≡ 0
beginning-start piece reading =
    let states = list_any is_state (all_statements piece.blocks) in
    let full : Between = record {
      held = fresh piece;
      start = 0;
      limit = length reading.stream;
      leaving = states && (reading.size == length reading.stream);
    } in
    let empty : Between = record { held = fresh piece; start = 0; limit = 0; leaving = states } in
    by full empty refl refl (holds_all piece) where
      by : (full empty : Between) → full.start ≡ 0 → empty.start ≡ 0 → (test : Bool) → (if test then full else empty).start ≡ 0
      by full empty full_is empty_is true = full_is
      by full empty full_is empty_is false = empty_is

-- a run with the steps of all units behind the start ends as the whole run
pub EndsAs-beginning : (piece : Piece) (reading : Reading) (units : ℕ) (given given' : Option (List ℕ)) (faults faults' : ℕ) (end : RunEnd)
    → EndsAs (run_from reading units (suc (length reading.stream - (beginning piece reading).start)) (beginning piece reading)) given
    given' faults faults' end
    → EndsAs (run_from reading units (suc (length reading.stream)) (beginning piece reading)) given given' faults faults' end
EndsAs-beginning piece reading units given given' faults faults' end ends =
    let start = beginning-start piece reading in
    let all : length reading.stream - (beginning piece reading).start ≡ length reading.stream = omega (arith, start) in
    subst (λ (count : ℕ). EndsAs (run_from reading units (suc count) (beginning piece reading)) given given' faults faults' end) all ends
