-- What a run reads of its input.
use Rattle.std.proofs.Common.{◌≡◌, ◌∙◌, sym, ap, ap₂, subst, ℕ, suc, ◌+◌, ◌*◌, ◌/◌, ◌%◌, ◌<◌, ◌≤◌, Bool, true, false, List, Option, length, replicate, arith}
use Rattle.std.specs.Prelude.{if◌then◌else◌}
use Rattle.std.specs.List.{list_any}
use Rattle.std.proofs.Math.Nat.{mul-div_left, mul-mod_left}
use Rattle.std.proofs.lemmas.List.{length-replicate}
use Rattle.lx_ccode.specs.declared.piece.Piece.{Piece}
use Rattle.lx_ccode.specs.Statements.{all_statements, is_state}
use Rattle.lx_window.proofs.PaddedBytes.{length-padded}
use Rattle.lx_window.proofs.StreamUnits.{length-stream_units}
use Rattle.lx_window.specs.MemorySource.{MemorySource}
use Rattle.lx_window.specs.Units.{IsWhole, stream_units}
use Rattle.lx_window.specs.WindowView.{WindowView}
use Rattle.lx_window.specs.Windows.{IsFormed, empty_window}
use Rattle.lx_run.specs.Ends.{EndsAs}
use Rattle.lx_run.specs.Readings.{Reading}
use Rattle.lx_run.specs.Streams.{holds_all, input_units, padded, padding, stream_of}
use Rattle.lx_run.specs.Texts.{beginning, reading_of, run_from, run_text}
use Rattle.lx_run.specs.Windows.{MayBegin, reading_by}
use Rattle.lx_run.specs.declared.ends.RunEnd.{RunEnd}

-- so many bytes have the input and the padding
pub padded-long : (piece : Piece) (input : List ℕ) (stream bytes units : ℕ) → stream ≡ bytes + units * piece.unit → bytes ≡ length input
    → units ≡ padding piece → stream ≡ length (padded piece input)
padded-long piece input stream bytes units stream_is bytes_is units_is =
    stream_is ∙ ap₂ (λ (front count : ℕ). front + count * piece.unit) bytes_is units_is
    ∙ sym (length-padded input (padding piece * piece.unit))

-- the buffer is as long as was asked
pub buffer-long : (piece : Piece) (window size count : ℕ) (stream buffer zeros : List ℕ) (holds : Bool) → buffer ≡ zeros
    → zeros ≡ replicate size 0
    → size ≡ (if holds then count else window * piece.unit) → count ≡ length stream → holds ≡ holds_all piece
    → length buffer ≡ (if holds_all piece then length stream else window * piece.unit)
buffer-long piece window size count stream buffer zeros holds buffer_is zeros_are size_is count_is holds_is =
    ap length (buffer_is ∙ zeros_are) ∙ length-replicate size 0 ∙ size_is
    ∙ ap₂ (λ (test : Bool) (long : ℕ). if test then long else window * piece.unit) holds_is count_is

-- the stream has no more units than may be counted
pub units-early : (piece : Piece) (stream : List ℕ) (count unit most : ℕ) → count ≡ length stream → unit ≡ piece.unit
    → count / unit ≤ most → length stream / piece.unit ≤ most
units-early piece stream count unit most count_is unit_is early = subst (λ (units : ℕ). units ≤ most)
    (ap₂ (λ (bytes size : ℕ). bytes / size) count_is unit_is) early

-- a source that has given nothing of these bytes
abbrev pub source_of : (unit step : ℕ) → (leaves : Bool) → List ℕ → MemorySource
source_of unit step leaves bytes = record { unit = unit; bytes = bytes; step = step; leaves = leaves; leaves_next = leaves; pauses = 0 }

module _ (piece : Piece) (window : ℕ) (input buffer : List ℕ)
    (long : length buffer ≡ (if holds_all piece then length (padded piece input) else window * piece.unit)) where
  -- the window has room for whole units
  pub buffer-whole : IsWhole piece.unit (padded piece input) → IsWhole piece.unit buffer
  buffer-whole whole = ap (λ (count : ℕ). count % piece.unit) long ∙ by (holds_all piece) where
    by : (test : Bool) → (if test then length (padded piece input) else window * piece.unit) % piece.unit ≡ 0
    by true = whole
    by false = mul-mod_left window piece.unit

  -- so many as a run reads at a time
  buffer-units : 0 < piece.unit → length buffer / piece.unit ≡ (if holds_all piece then length (stream_of piece input) else window)
  buffer-units some = ap (λ (count : ℕ). count / piece.unit) long ∙ by (holds_all piece) where
    by : (test : Bool)
        → (if test then length (padded piece input) else window * piece.unit) / piece.unit ≡ (if test then length (stream_of piece input) else window)
    by true = sym (length-stream_units piece.unit (padded piece input))
    by false = mul-div_left window some

  -- a window and a source that are made for a run
  module _ (step : ℕ) (states : Bool) (view : WindowView) (source : MemorySource) (some : 0 < piece.unit)
      (view_is : view ≡ empty_window piece.unit 0 (length buffer))
      (source_is : source ≡ source_of piece.unit step states (padded piece input)) where
    made-units : stream_units source.unit source.bytes ≡ stream_of piece input
    made-units = ap (λ (made : MemorySource). stream_units made.unit made.bytes) source_is

    made-size : view.size ≡ (if holds_all piece then length (stream_of piece input) else window)
    made-size = ap (λ (made : WindowView). made.size) view_is ∙ buffer-units some

    pub MayBegin-made : IsFormed view → IsWhole piece.unit (padded piece input) → states ≡ list_any is_state (all_statements piece.blocks)
        → length (padded piece input) / piece.unit ≤ 0x4000_0000_0000_0000
        → MayBegin piece view source
    MayBegin-made formed whole states_is early =
        let units = ap length made-units in
        record {
          formed = formed;
          base = ap (λ (made : WindowView). made.base) view_is;
          start = ap (λ (made : WindowView). made.start) view_is;
          limit = ap (λ (made : WindowView). made.limit) view_is;
          unit = ap (λ (made : WindowView). made.unit) view_is;
          source_unit = ap (λ (made : MemorySource). made.unit) source_is;
          whole = ap (λ (made : MemorySource). length made.bytes % made.unit) source_is ∙ whole;
          leaves = ap (λ (made : MemorySource). made.leaves) source_is ∙ states_is;
          leaves_next = ap (λ (made : MemorySource). made.leaves_next) source_is
              ∙ sym (ap (λ (made : MemorySource). made.leaves) source_is);
          early = let count = length-stream_units piece.unit (padded piece input) in omega (arith, units, count, early);
          room = λ holds.
              let size = made-size ∙ ap (λ (test : Bool). if test then length (stream_of piece input) else window) holds in
              omega (arith, units, size);
        }

    reading_by-made : reading_by view source ≡ reading_of piece input window step
    reading_by-made =
        ap (λ (units : List ℕ). reading_with units view.size source.step) made-units
        ∙ ap (λ (size : ℕ). reading_with (stream_of piece input) size source.step) made-size
        ∙ ap (λ (count : ℕ). reading_with (stream_of piece input)
        (if holds_all piece then length (stream_of piece input) else window) count)
        (ap (λ (made : MemorySource). made.step) source_is) where
          reading_with : List ℕ → (size step : ℕ) → Reading
          reading_with units size step = record { stream = units; size = size; step = step }

    -- such a run gives the text of the run over the input
    pub EndsAs-made : (units : ℕ) (given given' : Option (List ℕ)) (faults faults' : ℕ) (end : RunEnd)
        → units ≡ input_units piece input
        → EndsAs (run_from (reading_by view source) units (suc (length (reading_by view source).stream))
        (beginning piece (reading_by view source))) given given' faults faults' end
        → EndsAs (run_text piece input window step) given given' faults faults' end
    EndsAs-made units given given' faults faults' end units_is ends =
        subst (λ (reading : Reading). EndsAs (run_from reading (input_units piece input) (suc (length reading.stream))
        (beginning piece reading)) given given' faults faults' end) reading_by-made
        (subst (λ (count : ℕ). EndsAs (run_from (reading_by view source) count (suc (length (reading_by view source).stream))
        (beginning piece (reading_by view source))) given given' faults faults' end) units_is ends)
