-- What a source in memory does at a refill.
use Rattle.std.proofs.Common.{◌≡◌, ◌∙◌, ap, sym, subst, refl, ℕ, ◌-◌, ◌*◌, ◌%◌, ◌==◌, ◌<◌, ◌≤◌, Bool, false, List, ◌++◌, length, take, drop, replicate, min, arith, length-drop, if◌then◌else◌, Some}
use Rattle.std.proofs.Math.Nat.{mul-le-mul_left, mul-mod_right}
use Rattle.std.proofs.lemmas.List.{drop_at, length-take-le, take-append-drop, take_all, take_at}
use Rattle.lx_window.specs.MemorySource.{MemorySource, ahead_of, answer_of, part_length, source_after}
use Rattle.lx_window.specs.Refilling.{Adds, IsRoom}
use Rattle.lx_window.specs.Units.{IsUnit, IsWhole}
use Rattle.lx_window.specs.declared.refills.Fill.TheVariants.{More, NoMore, Leave}
use Rattle.lx_window.proofs.PaddedBytes.{drop-padded}
use Rattle.lx_window.proofs.StreamUnits.{IsUnit-positive}

-- the lesser of two whole numbers of units is one
min-whole : (unit front back : ℕ) → front % unit ≡ 0 → back % unit ≡ 0 → min front back % unit ≡ 0
min-whole unit front back one other = grind (arith, one, other)

-- a source that is not to leave the scanner gives a part of what is ahead
pub answer_of-More : (source : MemorySource) (room count : ℕ) → source.leaves_next ≡ false → 0 < length source.bytes
    → count ≡ part_length source room → answer_of source room ≡ More count
answer_of-More source room count stays some count_is =
    let not_spent : (length source.bytes == 0) ≡ false = search (arith, some) in
    ap (λ (leaves : Bool). if leaves then Leave else (if length source.bytes == 0 then NoMore else More (part_length source room))) stays
    ∙ ap (λ (none : Bool). if none then NoMore else More (part_length source room)) not_spent
    ∙ ap (λ (n : ℕ). More n) (sym count_is)

-- what is left of a slice, and of the bytes 0 behind it, once so many bytes were given
pub source_after-padded : (source : MemorySource) (count held : ℕ) (bytes : List ℕ) (padding : ℕ) → source.bytes ≡ bytes ++ replicate padding 0
    → held ≡ min count (length bytes)
    → record source { bytes = take (length bytes - held) (drop held bytes) ++ replicate (padding - (count - held)) 0; leaves_next = source.leaves }
    ≡ source_after (More count) source
source_after-padded source count held bytes padding bytes_is held_is =
    let rest : take (length bytes - held) (drop held bytes) ≡ drop held bytes =
    take_all (length bytes - held) (drop held bytes) (omega (arith, length-drop held bytes)) in
    ap (λ (left : List ℕ). record source { bytes = left; leaves_next = source.leaves })
    (ap (λ (front : List ℕ). front ++ replicate (padding - (count - held)) 0) rest ∙ sym (drop-padded count held bytes padding held_is)
    ∙ ap (λ (left : List ℕ). drop count left) (sym bytes_is))

module _ (source source' : MemorySource) (room part : List ℕ) (count : ℕ) (is_room : IsRoom source.unit room)
    (count_is : count ≡ part_length source (length room)) where
  part-positive : IsUnit source.unit → 0 < source.step → 0 < length source.bytes → 0 < count
  part-positive unit step some =
      let units : source.unit * 1 ≤ source.unit * source.step = mul-le-mul_left source.unit (omega (arith, step)) in
      let room_some = is_room.some in
      omega (arith, units, IsUnit-positive source.unit unit, some, room_some, count_is)

  part-whole : IsWhole source.unit source.bytes → count % source.unit ≡ 0
  part-whole whole = ap (λ (n : ℕ). n % source.unit) count_is
      ∙ min-whole source.unit (source.unit * source.step) (min (length room) (length source.bytes)) (mul-mod_right source.unit source.step)
      (min-whole source.unit (length room) (length source.bytes) is_room.whole whole)

  -- a part of what is ahead is put to the front of the room
  pub Adds-part : IsUnit source.unit → 0 < source.step → 0 < length source.bytes → IsWhole source.unit source.bytes
      → source.leaves_next ≡ false → part ≡ take count source.bytes → source' ≡ source_after (More count) source
      → Adds source.unit (ahead_of source) (ahead_of source') room (part ++ drop count room) count
  Adds-part unit step some whole stays part_is after =
      let within : count ≤ length source.bytes = omega (arith, count_is) in
      let long : length part ≡ count = ap length part_is ∙ length-take-le count source.bytes within in
      let front : take count (part ++ drop count room) ≡ part = take_at part (drop count room) count long in
      let front_long : length (take count (part ++ drop count room)) ≡ count = ap length front ∙ long in
      subst (λ (rest : MemorySource). Adds source.unit (ahead_of source) (ahead_of rest) room (part ++ drop count room) count) (sym after) (record {
        within = omega (arith, count_is);
        gives = record {
          some = omega (arith, front_long, part-positive unit step some);
          whole = ap (λ (n : ℕ). n % source.unit) front_long ∙ part-whole whole;
          given = ap (λ (bytes : List ℕ). Some bytes) (sym (take-append-drop count source.bytes)
              ∙ ap (λ (bytes : List ℕ). bytes ++ drop count source.bytes) (sym (front ∙ part_is)));
        };
        part = record { stays = stays; count_is = count_is; after = refl };
        rest = drop_at part (drop count room) count long;
      })
