-- The least point of a set from a point on lies in the first range that reaches it.
use Rattle.std.proofs.Common.{◌≡◌, ℕ, ◌+◌, ◌<◌, ◌≤◌, List, [], ◌∷◌, length, drop, max, ⊎_elim, arith}
use Rattle.std.proofs.lemmas.Bool.{cases_lt}
use Rattle.lx_base.specs.declared.settings.Enc.{Enc}
use Rattle.lx_base.specs.Spelling.{greatest_point}
use Rattle.lx_class.specs.declared.ranges.Range.{Range}
use Rattle.lx_class.specs.Ranges.{InRanges, IsCanonical, IsCanonicalFrom}
use Rattle.lx_class.proofs.Places.{range_at, canonical_at, found_at, from_here}
use Rattle.lx_encode.specs.Policy.{FitsEncoding, IsLeastWithin, NoneWithin}

module _ (set : List Range) (i from to point : ℕ) (lt : i < length set) (canonical : IsCanonical set) (reached : from ≤ (range_at set i).hi)
    (passed : (p : ℕ) → InRanges set p → from ≤ p → InRanges (drop i set) p) (here : point ≡ max (range_at set i).lo from) where
  none_earlier : (other : ℕ) → InRanges set other → from ≤ other → point ≤ other
  none_earlier other at le =
      let low : (range_at set i).lo ≤ other = from_here set i lt other canonical (passed other at le) in omega arith

  pub least_here : point ≤ to → IsLeastWithin set from to point
  least_here le =
      let filled : (range_at set i).lo ≤ (range_at set i).hi = (canonical_at set i lt canonical).1 in
      record {
        member = found_at set i lt point (omega arith) (omega arith);
        from_first = omega arith;
        to_last = le;
        least = none_earlier;
      }

  pub none_here : to < point → NoneWithin set from to
  none_here gt other at low high = let le : point ≤ other = none_earlier other at low in omega arith

-- no set has a point past Unicode
pub in_unicode : (low : ℕ) (set : List Range) (point : ℕ) → IsCanonicalFrom low set → InRanges set point → point ≤ 0x10FFFF
in_unicode low [] point canonical at = absurd at
in_unicode low (range ∷ set) point canonical at =
    ⊎_elim (λ here. omega arith) (λ later. in_unicode (range.hi + 2) set point canonical.3 later) at

-- a set without points over the encoding's greatest one
pub fits_encoding : (enc : Enc) (set : List Range) (greatest : ℕ) → IsCanonical set → greatest ≡ greatest_point enc →
    NoneWithin set (greatest + 1) 0xFFFFFFFF → FitsEncoding enc set
fits_encoding enc set greatest canonical here none point at =
    ⊎_elim
    (λ past. absurd (let bounded : point ≤ 0x10FFFF = in_unicode 0 set point canonical at in none point at (omega arith) (omega arith)))
    (λ le. le) (cases_lt (greatest_point enc) point)
