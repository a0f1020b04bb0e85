-- The rows of starts, from where their units lead.
use Rattle.std.proofs.Common.{◌≡◌, ℕ, ◌+◌, ◌-◌, ◌/◌, ◌%◌, ◌<◌, ◌≤◌, ◌⊎◌, ◌↔◌, List, [], ◌∷◌, length, sym, ◌∙◌, ap, ap₂, subst, inl, inr, ⊎_elim, arith}
use Rattle.lx_base.specs.Spelling.{spell}
use Rattle.lx_base.specs.declared.settings.Enc.{Enc}
use Rattle.lx_base.specs.declared.settings.Enc.TheVariants.{Utf16}
use Rattle.lx_class.specs.declared.ranges.Range.{Range}
use Rattle.lx_class.specs.Ranges.{InRanges}
use Rattle.lx_encode.specs.declared.runs.Run.{Run}
use Rattle.lx_encode.specs.Runs.{LeadsTo, LeadsShifted, LeadBelow}
use Rattle.lx_encode.specs.Layers.{AreBlocks}
use Rattle.lx_encode.specs.Table.{Rows, IsTable, row_of}
use Rattle.lx_encode.specs.Starts.{StartsWith}
use Rattle.lx_encode.proofs.Meaning.{Continues, Describes, Finishes-cons, points_described, blocks_described, shifted_described, clipped_described}
use Rattle.lx_encode.proofs.Spellings.{utf16-2}

-- what goes on from a row is what goes on from where its units lead
segment : (rows : Rows) (front row runs : List Run) (from to unit u : ℕ) (us : List ℕ) →
    ((n t : ℕ) → LeadsTo row n t ↔ (LeadsTo front n t ⊎ LeadsShifted runs from to unit n t)) →
    Continues rows row u us ↔ (Continues rows front u us ⊎ ((old : ℕ) × (from ≤ old) × (old ≤ to) × (u + from ≡ unit + old) × Continues rows runs old us))
segment rows front row runs from to unit u us leads = (
  λ (t, at, rest). ⊎_elim (λ f. inl (t, f, rest)) (λ s. inr (s.0, s.1, s.2, s.3, (t, s.4, rest))) ((leads u t).0 at),
  λ at. ⊎_elim
      (λ (t, f, rest). (t, (leads u t).1 (inl f), rest))
      (λ s. (s.4.0, (leads u s.4.0).1 (inr (s.0, s.1, s.2, s.3, s.4.1)), s.4.2)) at,
)

-- a point of the runs, seen through a row that counts on from a unit
abbrev pub Shown : (ℕ → Type 0) → (ℕ → ℕ) → (ℕ → List ℕ) → (from to unit u : ℕ) → List ℕ → Type 0
Shown Is f g from to unit u us = (p : ℕ) × Is p × (from ≤ f p) × (f p ≤ to) × (u + from ≡ unit + f p) × (us ≡ g p)

pub shown : (rows : Rows) (front row runs : List Run) (Is : ℕ → Type 0) (f : ℕ → ℕ) (g : ℕ → List ℕ) → IsTable rows → Describes rows runs Is f g →
    (from to unit u : ℕ) (us : List ℕ) → ((n t : ℕ) → LeadsTo row n t ↔ (LeadsTo front n t ⊎ LeadsShifted runs from to unit n t)) →
    Continues rows row u us ↔ (Continues rows front u us ⊎ Shown Is f g from to unit u us)
shown rows front row runs Is f g table known from to unit u us leads =
    let parts = segment rows front row runs from to unit u us leads in
    let seen = shifted_described rows table runs Is f g known from to unit u us in (
      λ at. ⊎_elim (λ x. inl x) (λ s. inr (seen.0 s)) (parts.0 at),
      λ at. ⊎_elim (λ x. parts.1 (inl x)) (λ s. parts.1 (inr (seen.1 s))) at,
    )

module _ (rows : Rows) (table : IsTable rows) (set : List Range) (points : List Run)
    (leads : (n t : ℕ) → LeadsTo points n t ↔ (InRanges set n × (0 ≡ t))) where
  described : Describes rows points (InRanges set) (λ p. p) (λ p. [])
  described = points_described rows table points (InRanges set) leads

  -- the points up to a greatest one, each by the unit of its own number
  pub starts_with_one : (enc : Enc) (greatest r : ℕ) (row : List Run) → r < length rows → row_of rows r ≡ row →
      ((n t : ℕ) → LeadsTo row n t ↔ (LeadsTo [] n t ⊎ LeadsShifted points 0 greatest 0 n t)) →
      ((p : ℕ) → p ≤ greatest → spell enc p ≡ p ∷ []) → StartsWith rows enc set (record { lo = 0; hi = greatest }) r
  starts_with_one enc greatest r row lt is row_leads spelled u us = (
    λ fin.
        let on = subst (λ l. Continues rows l u us) is ((Finishes-cons rows table r lt u us).0 fin) in
        ⊎_elim (λ none. absurd none.1)
        (λ s.
        let found = (shifted_described rows table points (InRanges set) (λ p. p) (λ p. []) described 0 greatest 0 u us).0 s in
        let same : u ≡ found.0 = omega (arith, found.4) in
        (found.0, found.1, omega arith, found.3, ap₂ ◌∷◌ same found.5 ∙ sym (spelled found.0 found.3)))
        ((segment rows [] row points 0 greatest 0 u us row_leads).0 on),
    λ (p, at, low, high, e).
        let e' = e ∙ spelled p high in
        let parts = heads u us p e' in
        let s = (shifted_described rows table points (InRanges set) (λ p. p) (λ p. []) described 0 greatest 0 u us).1 (p, at, omega arith, high, omega (arith, parts.0), parts.1) in
        (Finishes-cons rows table r lt u us).1 (subst (λ l. Continues rows l u us) (sym is) ((segment rows [] row points 0 greatest 0 u us row_leads).1 (inr s))),
  )
    where
      heads : (u : ℕ) (us : List ℕ) (p : ℕ) → u ∷ us ≡ p ∷ [] → (u ≡ p) × (us ≡ [])
      heads u us p e = (cc, cc)

  -- the points of two units in UTF-16
  pub starts_with_two : (r : ℕ) (supplementary blocks row : List Run) → r < length rows → row_of rows r ≡ row →
      ((n t : ℕ) → LeadsTo supplementary n t ↔ LeadsShifted points 0x10000 0x10FFFF 0x10000 n t) →
      LeadBelow blocks (length rows) → AreBlocks (record { radix = 1024; offset = 0xDC00 }) supplementary blocks rows →
      ((n t : ℕ) → LeadsTo row n t ↔ (LeadsTo [] n t ⊎ LeadsShifted blocks 64 1087 0xD800 n t)) →
      StartsWith rows Utf16 set (record { lo = 0x10000; hi = 0x10FFFF }) r
  starts_with_two r supplementary blocks row lt is kept below are row_leads u us = (
    λ fin.
        let on = subst (λ l. Continues rows l u us) is ((Finishes-cons rows table r lt u us).0 fin) in
        ⊎_elim (λ none. absurd none.1)
        (λ s.
        let low : 0x10000 ≤ s.0 = s.1.1 in
        let e : u ∷ us ≡ (0xD800 + (s.0 - 0x10000) / 1024) ∷ (0xDC00 + (s.0 - 0x10000) % 1024) ∷ [] =
        ap₂ ◌∷◌ (high_is u s.0 low s.4) (s.5 ∙ ap (λ x. (0xDC00 + x) ∷ []) (low_is s.0 low)) in
        (s.0, s.1.0, low, s.1.2, e ∙ sym (utf16-2 s.0 low)))
        ((seen u us).0 on),
    λ (p, at, low, high, e).
        let parts = heads u us (0xD800 + (p - 0x10000) / 1024) ((0xDC00 + (p - 0x10000) % 1024) ∷ []) (e ∙ utf16-2 p low) in
        (Finishes-cons rows table r lt u us).1 (subst (λ l. Continues rows l u us) (sym is) ((seen u us).1
        (inr (p, (at, low, high), from_is p low, to_is p high, unit_is u p low parts.0, parts.1 ∙ sym (ap (λ x. (0xDC00 + x) ∷ []) (low_is p low)))))),
  )
    where
      seen : (u : ℕ) (us : List ℕ) → Continues rows row u us ↔ (Continues rows [] u us
          ⊎ Shown (λ p. InRanges set p × (0x10000 ≤ p) × (p ≤ 0x10FFFF)) (λ p. p / 1024) (λ p. (0xDC00 + p % 1024) ∷ []) 64 1087 0xD800 u us)
      seen u us =
          shown rows [] row blocks (λ p. InRanges set p × (0x10000 ≤ p) × (p ≤ 0x10FFFF)) (λ p. p / 1024) (λ p. (0xDC00 + p % 1024) ∷ []) table
          (blocks_described rows table supplementary (λ p. InRanges set p × (0x10000 ≤ p) × (p ≤ 0x10FFFF)) (λ p. p) (λ p. [])
          (clipped_described rows table points (InRanges set) (λ p. p) (λ p. []) described 0x10000 0x10FFFF supplementary kept)
          (record { radix = 1024; offset = 0xDC00 }) blocks below are)
          64 1087 0xD800 u us row_leads

      high_is : (u p : ℕ) → 0x10000 ≤ p → u + 64 ≡ 0xD800 + p / 1024 → u ≡ 0xD800 + (p - 0x10000) / 1024
      high_is u p low e = omega arith

      unit_is : (u p : ℕ) → 0x10000 ≤ p → u ≡ 0xD800 + (p - 0x10000) / 1024 → u + 64 ≡ 0xD800 + p / 1024
      unit_is u p low e = omega arith

      low_is : (p : ℕ) → 0x10000 ≤ p → p % 1024 ≡ (p - 0x10000) % 1024
      low_is p low = omega arith

      from_is : (p : ℕ) → 0x10000 ≤ p → 64 ≤ p / 1024
      from_is p low = omega arith

      to_is : (p : ℕ) → p ≤ 0x10FFFF → p / 1024 ≤ 1087
      to_is p high = omega arith

      heads : (u : ℕ) (us : List ℕ) (x : ℕ) (xs : List ℕ) → u ∷ us ≡ x ∷ xs → (u ≡ x) × (us ≡ xs)
      heads u us x xs e = (cc, cc)

-- equal lists lead alike
pub same_kept : (runs runs' kept : List Run) (from : ℕ) → runs ≡ runs' → ((n t : ℕ) → LeadsTo kept n t ↔ LeadsShifted runs from 0x10FFFF from n t) →
    (n t : ℕ) → LeadsTo kept n t ↔ LeadsShifted runs' from 0x10FFFF from n t
same_kept runs runs' kept from same leads = subst (λ l. (n t : ℕ) → LeadsTo kept n t ↔ LeadsShifted l from 0x10FFFF from n t) same leads

pub same_row : (runs runs' front row : List Run) (to unit : ℕ) → runs ≡ runs' →
    ((n t : ℕ) → LeadsTo row n t ↔ (LeadsTo front n t ⊎ LeadsShifted runs 0 to unit n t)) →
    (n t : ℕ) → LeadsTo row n t ↔ (LeadsTo front n t ⊎ LeadsShifted runs' 0 to unit n t)
same_row runs runs' front row to unit same leads =
    subst (λ l. (n t : ℕ) → LeadsTo row n t ↔ (LeadsTo front n t ⊎ LeadsShifted l 0 to unit n t)) same leads
