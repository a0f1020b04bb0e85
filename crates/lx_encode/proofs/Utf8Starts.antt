-- The row of the start in UTF-8: four runs of first units, for spellings of one unit to four.
use Rattle.std.proofs.Common.{◌≡◌, ℕ, ◌+◌, ◌/◌, ◌%◌, ◌<◌, ◌≤◌, ◌⊎◌, ◌↔◌, List, [], ◌∷◌, length, sym, ◌∙◌, ap, ap₂, subst, inl, inr, ⊎_elim, arith}
use Rattle.std.proofs.lemmas.Bool.{cases_lt}
use Rattle.lx_base.specs.Spelling.{utf8, continuation}
use Rattle.lx_base.specs.declared.settings.Enc.TheVariants.{Utf8}
use Rattle.lx_class.specs.declared.ranges.Range.{Range}
use Rattle.lx_class.specs.Ranges.{InRanges}
use Rattle.lx_encode.specs.declared.runs.Run.{Run}
use Rattle.lx_encode.specs.declared.layers.Layer.{Layer}
use Rattle.lx_encode.specs.Runs.{LeadsTo, LeadsShifted, LeadBelow}
use Rattle.lx_encode.specs.Layers.{AreBlocks}
use Rattle.lx_encode.specs.Table.{Rows, IsTable, row_of}
use Rattle.lx_encode.specs.Graph.{Spells}
use Rattle.lx_encode.specs.Starts.{AreEnded, StartsWith}
use Rattle.lx_encode.proofs.Meaning.{Continues, Describes, Finishes-cons, points_described, blocks_described, clipped_described}
use Rattle.lx_encode.proofs.StartRows.{Shown, shown}
use Rattle.lx_encode.proofs.Spellings.{utf8-1, utf8-2, utf8-3, utf8-4}

-- later units
abbrev pub later : Layer
later = record { radix = 64; offset = 0x80 }

-- which points are left after one unit, two and three, and what follows their first unit
abbrev Longer : List Range → ℕ → Type 0
Longer set p = InRanges set p × (0x80 ≤ p) × (p ≤ 0x10FFFF)

abbrev Longer2 : List Range → ℕ → Type 0
Longer2 set p = Longer set p × (0x20 ≤ p / 64) × (p / 64 ≤ 0x10FFFF)

abbrev Longer3 : List Range → ℕ → Type 0
Longer3 set p = Longer2 set p × (0x10 ≤ p / 64 / 64) × (p / 64 / 64 ≤ 0x10FFFF)

abbrev rest1 : ℕ → List ℕ
rest1 p = (0x80 + p % 64) ∷ []

abbrev rest2 : ℕ → List ℕ
rest2 p = (0x80 + p / 64 % 64) ∷ rest1 p

abbrev rest3 : ℕ → List ℕ
rest3 p = (0x80 + p / 64 / 64 % 64) ∷ rest2 p

heads : (u : ℕ) (us : List ℕ) (x : ℕ) (xs : List ℕ) → u ∷ us ≡ x ∷ xs → (u ≡ x) × (us ≡ xs)
heads u us x xs e = (cc, cc)

spelled-2 : (p : ℕ) → 0x80 ≤ p → p < 0x800 → utf8 p ≡ (0xC0 + p / 64) ∷ rest1 p
spelled-2 p le lt = utf8-2 p le lt

spelled-3 : (p : ℕ) → 0x800 ≤ p → p < 0x10000 → utf8 p ≡ (0xE0 + p / 64 / 64) ∷ rest2 p
spelled-3 p le lt = utf8-3 p le lt ∙ ap (λ x. (0xE0 + x) ∷ continuation (p / 64) ∷ continuation p ∷ []) (twice p)
  where
    twice : (p : ℕ) → p / 4096 ≡ p / 64 / 64
    twice p = omega arith

spelled-4 : (p : ℕ) → 0x10000 ≤ p → utf8 p ≡ (0xF0 + p / 64 / 64 / 64) ∷ rest3 p
spelled-4 p le =
    utf8-4 p le ∙ ap (λ x. (0xF0 + x) ∷ continuation (p / 4096) ∷ continuation (p / 64) ∷ continuation p ∷ []) (thrice p)
    ∙ ap (λ x. (0xF0 + p / 64 / 64 / 64) ∷ (0x80 + x % 64) ∷ continuation (p / 64) ∷ continuation p ∷ []) (twice p)
  where
    thrice : (p : ℕ) → p / 262144 ≡ p / 64 / 64 / 64
    thrice p = omega arith

    twice : (p : ℕ) → p / 4096 ≡ p / 64 / 64
    twice p = omega arith

-- the four forms, each for its points
Forms : List Range → ℕ → List ℕ → Type 0
Forms set u us =
    (((⊥ ⊎ Shown (InRanges set) (λ p. p) (λ p. []) 0 0x7F 0 u us) ⊎ Shown (Longer set) (λ p. p / 64) rest1 0 0x1F 0xC0 u us)
    ⊎ Shown (Longer2 set) (λ p. p / 64 / 64) rest2 0 0x0F 0xE0 u us) ⊎ Shown (Longer3 set) (λ p. p / 64 / 64 / 64) rest3 0 0x07 0xF0 u us

form_spells : (set : List Range) (u : ℕ) (us : List ℕ) → ((p : ℕ) → InRanges set p → p ≤ 0x10FFFF) → Forms set u us → Spells Utf8 set (record { lo = 0; hi = 0x10FFFF }) (u ∷ us)
unfolding Forms
form_spells set u us bounded form =
    ⊎_elim
    (λ three. ⊎_elim
    (λ two. ⊎_elim
    (λ one. ⊎_elim (λ none. absurd none)
    (λ s. let same : u ≡ s.0 = omega (arith, s.4) in
    (s.0, s.1, omega arith, bounded s.0 s.1, ap₂ ◌∷◌ same s.5 ∙ sym (utf8-1 s.0 (omega (arith, s.3))))) one)
    (λ s. let same : u ≡ 0xC0 + s.0 / 64 = omega (arith, s.4) in
    (s.0, s.1.0, omega arith, s.1.2, ap₂ ◌∷◌ same s.5 ∙ sym (spelled-2 s.0 s.1.1 (omega (arith, s.3))))) two)
    (λ s. let same : u ≡ 0xE0 + s.0 / 64 / 64 = omega (arith, s.4) in
    (s.0, s.1.0.0, omega arith, s.1.0.2, ap₂ ◌∷◌ same s.5 ∙ sym (spelled-3 s.0 (omega (arith, s.1.1)) (omega (arith, s.3))))) three)
    (λ s. let same : u ≡ 0xF0 + s.0 / 64 / 64 / 64 = omega (arith, s.4) in
    (s.0, s.1.0.0.0, omega arith, s.1.0.0.2, ap₂ ◌∷◌ same s.5 ∙ sym (spelled-4 s.0 (omega (arith, s.1.1))))) form

spells_form : (set : List Range) (u : ℕ) (us : List ℕ) → Spells Utf8 set (record { lo = 0; hi = 0x10FFFF }) (u ∷ us) → Forms set u us
unfolding Forms
spells_form set u us (p, at, low, high, e) =
    ⊎_elim
    (λ lt. let h = heads u us p [] (e ∙ utf8-1 p lt) in inl (inl (inl (inr (p, at, omega arith, omega arith, omega (arith, h.0), h.1)))))
    (λ le. ⊎_elim
    (λ lt. let h = heads u us (0xC0 + p / 64) (rest1 p) (e ∙ spelled-2 p le lt) in
    inl (inl (inr (p, (at, le, high), omega arith, omega arith, omega (arith, h.0), h.1))))
    (λ le'. ⊎_elim
    (λ lt. let h = heads u us (0xE0 + p / 64 / 64) (rest2 p) (e ∙ spelled-3 p le' lt) in
    inl (inr (p, ((at, le, high), omega arith, omega arith), omega arith, omega arith, omega (arith, h.0), h.1)))
    (λ le''. let h = heads u us (0xF0 + p / 64 / 64 / 64) (rest3 p) (e ∙ spelled-4 p le'') in
    inr (p, (((at, le, high), omega arith, omega arith), omega arith, omega arith), omega arith, omega arith, omega (arith, h.0), h.1))
    (cases_lt p 0x10000)) (cases_lt p 0x800)) (cases_lt p 0x80)

-- what the code made, all at the last table
pub record IsUtf8Row (rows : Rows) (points longer one longer2 two longer3 three row1 row2 row3 row4 : List Run) : Type 0 where
  pub longer_is : (n t : ℕ) → LeadsTo longer n t ↔ LeadsShifted points 0x80 0x10FFFF 0x80 n t
  pub one_is : AreBlocks later longer one rows
  pub one_below : LeadBelow one (length rows)
  pub longer2_is : (n t : ℕ) → LeadsTo longer2 n t ↔ LeadsShifted one 0x20 0x10FFFF 0x20 n t
  pub two_is : AreBlocks later longer2 two rows
  pub two_below : LeadBelow two (length rows)
  pub longer3_is : (n t : ℕ) → LeadsTo longer3 n t ↔ LeadsShifted two 0x10 0x10FFFF 0x10 n t
  pub three_is : AreBlocks later longer3 three rows
  pub three_below : LeadBelow three (length rows)
  pub row1_is : (n t : ℕ) → LeadsTo row1 n t ↔ (LeadsTo [] n t ⊎ LeadsShifted points 0 0x7F 0 n t)
  pub row2_is : (n t : ℕ) → LeadsTo row2 n t ↔ (LeadsTo row1 n t ⊎ LeadsShifted one 0 0x1F 0xC0 n t)
  pub row3_is : (n t : ℕ) → LeadsTo row3 n t ↔ (LeadsTo row2 n t ⊎ LeadsShifted two 0 0x0F 0xE0 n t)
  pub row4_is : (n t : ℕ) → LeadsTo row4 n t ↔ (LeadsTo row3 n t ⊎ LeadsShifted three 0 0x07 0xF0 n t)

module _ (rows : Rows) (table : IsTable rows) (set : List Range) (points longer one longer2 two longer3 three row1 row2 row3 row4 : List Run)
    (ended : AreEnded set points) (made : IsUtf8Row rows points longer one longer2 two longer3 three row1 row2 row3 row4) where
  points_known : Describes rows points (InRanges set) (λ p. p) (λ p. [])
  points_known = points_described rows table points (InRanges set) ended

  one_known : Describes rows one (Longer set) (λ p. p / 64) rest1
  one_known =
      blocks_described rows table longer (Longer set) (λ p. p) (λ p. [])
      (clipped_described rows table points (InRanges set) (λ p. p) (λ p. []) points_known 0x80 0x10FFFF longer made.longer_is) later one made.one_below made.one_is

  two_known : Describes rows two (Longer2 set) (λ p. p / 64 / 64) rest2
  two_known =
      blocks_described rows table longer2 (Longer2 set) (λ p. p / 64) rest1
      (clipped_described rows table one (Longer set) (λ p. p / 64) rest1 one_known 0x20 0x10FFFF longer2 made.longer2_is) later two made.two_below made.two_is

  three_known : Describes rows three (Longer3 set) (λ p. p / 64 / 64 / 64) rest3
  three_known =
      blocks_described rows table longer3 (Longer3 set) (λ p. p / 64 / 64) rest2
      (clipped_described rows table two (Longer2 set) (λ p. p / 64 / 64) rest2 two_known 0x10 0x10FFFF longer3 made.longer3_is) later three made.three_below made.three_is

  row_forms : (u : ℕ) (us : List ℕ) → Continues rows row4 u us ↔ Forms set u us
  unfolding Forms
  row_forms u us =
      let s1 = shown rows [] row1 points (InRanges set) (λ p. p) (λ p. []) table points_known 0 0x7F 0 u us made.row1_is in
      let s2 = shown rows row1 row2 one (Longer set) (λ p. p / 64) rest1 table one_known 0 0x1F 0xC0 u us made.row2_is in
      let s3 = shown rows row2 row3 two (Longer2 set) (λ p. p / 64 / 64) rest2 table two_known 0 0x0F 0xE0 u us made.row3_is in
      let s4 = shown rows row3 row4 three (Longer3 set) (λ p. p / 64 / 64 / 64) rest3 table three_known 0 0x07 0xF0 u us made.row4_is in (
        λ at. ⊎_elim (λ a. inl (⊎_elim (λ b. inl (⊎_elim (λ d. inl (⊎_elim (λ none. absurd none.1) (λ s. inr s) (s1.0 d))) (λ s. inr s) (s2.0 b))) (λ s. inr s) (s3.0 a))) (λ s. inr s) (s4.0 at),
        λ form. ⊎_elim
            (λ a. s4.1 (inl (⊎_elim (λ b. s3.1 (inl (⊎_elim (λ d. s2.1 (inl (⊎_elim (λ none. absurd none) (λ s. s1.1 (inr s)) d))) (λ s. s2.1 (inr s)) b))) (λ s. s3.1 (inr s)) a)))
            (λ s. s4.1 (inr s)) form,
      )

  pub starts_with_utf8 : (r : ℕ) → ((p : ℕ) → InRanges set p → p ≤ 0x10FFFF) → r < length rows → row_of rows r ≡ row4 → StartsWith rows Utf8 set (record { lo = 0; hi = 0x10FFFF }) r
  starts_with_utf8 r bounded lt is u us = (
    λ fin. form_spells set u us bounded ((row_forms u us).0 (subst (λ l. Continues rows l u us) is ((Finishes-cons rows table r lt u us).0 fin))),
    λ spells. (Finishes-cons rows table r lt u us).1 (subst (λ l. Continues rows l u us) (sym is) ((row_forms u us).1 (spells_form set u us spells))),
  )
