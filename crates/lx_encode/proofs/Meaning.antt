-- What finishes the residuals of a table, point by point.
use Rattle.std.proofs.Common.{◌≡◌, ℕ, ◌+◌, ◌/◌, ◌%◌, ◌<◌, ◌≤◌, ◌↔◌, List, [], ◌∷◌, length, Option, Some, None, refl, sym, ◌∙◌, ap, subst, arith}
use Rattle.std.specs.Prelude.{IsSomeAnd}
use Rattle.lx_encode.specs.declared.runs.Run.{Run}
use Rattle.lx_encode.specs.declared.layers.Layer.{Layer}
use Rattle.lx_encode.specs.Runs.{LeadsTo, LeadsShifted, LeadBelow, target_of}
use Rattle.lx_encode.specs.Table.{Rows, IsTable, Finishes, row_of}
use Rattle.lx_encode.specs.Layers.{AreBlocks}
use Rattle.lx_encode.proofs.RunLists.{IsRow-sorted}
use Rattle.lx_encode.proofs.Targets.{target_found, target_leads}

-- the units go on from the number to the end of a spelling
abbrev pub Continues : Rows → List Run → ℕ → List ℕ → Type 0
Continues rows runs number units = (residual : ℕ) × LeadsTo runs number residual × Finishes rows residual units

module _ (rows : Rows) (table : IsTable rows) where
  -- residual 0 is finished by nothing more
  pub Finishes-0 : (units : List ℕ) → Finishes rows 0 units ↔ (units ≡ [])
  Finishes-0 [] = (λ i. refl, λ i. table.ended)
  Finishes-0 (u ∷ us) = (
    λ at. absurd (subst (λ l. IsSomeAnd (target_of l u) (λ next. Finishes rows next us)) table.ended at),
    λ e. cc,
  )

  some_and : (o : Option ℕ) (t : ℕ) (us : List ℕ) → o ≡ Some t → Finishes rows t us → IsSomeAnd o (λ next. Finishes rows next us)
  some_and o t us is at = subst (λ x. IsSomeAnd x (λ next. Finishes rows next us)) (sym is) at

  and_some : (o : Option ℕ) (us : List ℕ) → IsSomeAnd o (λ next. Finishes rows next us) → (t : ℕ) × (o ≡ Some t) × Finishes rows t us
  and_some None us at = absurd at
  and_some (Some t) us at = (t, refl, at)

  -- one unit, and then what goes on from it
  pub Finishes-cons : (r : ℕ) → r < length rows → (u : ℕ) (us : List ℕ) → Finishes rows r (u ∷ us) ↔ Continues rows (row_of rows r) u us
  Finishes-cons r lt u us = (
    λ at. let found = and_some (target_of (row_of rows r) u) us at in (found.0, target_leads (row_of rows r) u found.0 found.1, found.2),
    λ (t, leads, at). some_and (target_of (row_of rows r) u) t us (target_found 0 (row_of rows r) u t (IsRow-sorted (row_of rows r) (table.row r lt)) leads) at,
  )

-- the numbers of the runs are those of some points, and go on as these do
abbrev pub Describes : Rows → List Run → (ℕ → Type 0) → (ℕ → ℕ) → (ℕ → List ℕ) → Type 0
Describes rows runs Is number_of rest_of = (number : ℕ) (units : List ℕ) → Continues rows runs number units
    ↔ ((point : ℕ) × Is point × (number_of point ≡ number) × (units ≡ rest_of point))

module _ (rows : Rows) (table : IsTable rows) where
  -- points that lead to residual 0
  pub points_described : (runs : List Run) (Is : ℕ → Type 0) → ((n t : ℕ) → LeadsTo runs n t ↔ (Is n × (0 ≡ t))) → Describes rows runs Is (λ p. p) (λ p. [])
  points_described runs Is leads = λ n us. (
    λ (t, at, rest). let found = (leads n t).0 at in (n, found.0, refl, (Finishes-0 rows table us).0 (subst (λ r. Finishes rows r us) (sym found.1) rest)),
    λ (p, is, same, none). (0, (leads n 0).1 (subst (λ x. Is x) same is, refl), (Finishes-0 rows table us).1 none),
  )

  module _ (runs : List Run) (Is : ℕ → Type 0) (f : ℕ → ℕ) (g : ℕ → List ℕ) (known : Describes rows runs Is f g) where
    -- one more unit in front
    pub blocks_described : (layer : Layer) (blocks : List Run) → LeadBelow blocks (length rows) → AreBlocks layer runs blocks rows →
        Describes rows blocks Is (λ p. f p / layer.radix) (λ p. (layer.offset + f p % layer.radix) ∷ g p)
    blocks_described layer blocks below are = λ b us. (
      λ (r, at, rest). there b us r at rest,
      λ (p, is, same, units).
          let first = (known (f p) (g p)).1 (p, is, refl, refl) in
          let block = are.all (f p) first.0 first.1 in
          let at : LeadsTo blocks b block.0 = subst (λ x. LeadsTo blocks x block.0) same block.1 in
          let in_block = (are.block b block.0 at (layer.offset + f p % layer.radix) first.0).1 (f p, first.1, same, refl) in (
            block.0,
            at,
            subst (λ l. Finishes rows block.0 l) (sym units)
                ((Finishes-cons rows table block.0 (below b block.0 at) (layer.offset + f p % layer.radix) (g p)).1 (first.0, in_block, first.2)),
          ),
    )
      where
        there : (b : ℕ) (us : List ℕ) (r : ℕ) → LeadsTo blocks b r → Finishes rows r us →
            (p : ℕ) × Is p × (f p / layer.radix ≡ b) × (us ≡ (layer.offset + f p % layer.radix) ∷ g p)
        there b [] r at rest = absurd (are.some b r at rest)
        there b (u ∷ us) r at rest =
            let goes_on = (Finishes-cons rows table r (below b r at) u us).0 rest in
            let in_block = (are.block b r at u goes_on.0).0 goes_on.1 in
            let found = (known in_block.0 us).0 (goes_on.0, in_block.1, goes_on.2) in
            let same : f found.0 ≡ in_block.0 = found.2 in (
              found.0,
              found.1,
              ap (λ n. n / layer.radix) same ∙ in_block.2,
              ap (λ x. x ∷ us) in_block.3 ∙ ap (λ n. (layer.offset + n % layer.radix) ∷ us) (sym same) ∙ ap (λ l. (layer.offset + f found.0 % layer.radix) ∷ l) found.3,
            )

    -- numbers counted on from a unit
    pub shifted_described : (from to unit n : ℕ) (us : List ℕ) →
        ((old : ℕ) × (from ≤ old) × (old ≤ to) × (n + from ≡ unit + old) × Continues rows runs old us)
        ↔ ((p : ℕ) × Is p × (from ≤ f p) × (f p ≤ to) × (n + from ≡ unit + f p) × (us ≡ g p))
    shifted_described from to unit n us = (
      λ (old, low, high, is, at).
          let found = (known old us).0 at in
          (found.0, found.1, subst (λ x. from ≤ x) (sym found.2) low, subst (λ x. x ≤ to) (sym found.2) high, is ∙ ap (λ x. unit + x) (sym found.2), found.3),
      λ (p, is, low, high, same, rest). (f p, low, high, same, (known (f p) us).1 (p, is, refl, rest)),
    )

    -- numbers that are kept
    pub clipped_described : (from to : ℕ) (kept : List Run) → ((n t : ℕ) → LeadsTo kept n t ↔ LeadsShifted runs from to from n t) →
        Describes rows kept (λ p. Is p × (from ≤ f p) × (f p ≤ to)) f g
    clipped_described from to kept leads = λ n us. (
      λ (t, at, rest).
          let old = (leads n t).0 at in
          let found = (known old.0 us).0 (t, old.4, rest) in
          (found.0, (found.1, subst (λ x. from ≤ x) (sym found.2) old.1, subst (λ x. x ≤ to) (sym found.2) old.2), found.2 ∙ same old.0 n old.3, found.3),
      λ (p, is, same, rest).
          let first = (known (f p) us).1 (p, is.0, refl, rest) in
          (first.0, (leads n first.0).1 (f p, is.1, is.2, ap (λ x. x + from) (sym same) ∙ swap (f p), first.1), first.2),
    )
      where
        same : (old n : ℕ) → n + from ≡ from + old → old ≡ n
        same old n e = omega arith

        swap : (n : ℕ) → n + from ≡ from + n
        swap n = omega arith
