-- What becomes of blocks when the last one is closed, and when one more part comes to them.
use Rattle.std.proofs.Common.{◌≡◌, ℕ, ◌+◌, ◌-◌, ◌*◌, ◌/◌, ◌%◌, ◌<◌, ◌≤◌, ◌⊎◌, ◌↔◌, List, [], ◌∷◌, ◌++◌, length, refl, sym, ◌∙◌, subst, inl, inr, ⊎_elim, arith}
use Rattle.std.proofs.Math.Nat.{mul-le-mul_left}
use Rattle.lx_encode.specs.declared.runs.Run.{Run}
use Rattle.lx_encode.specs.declared.layers.Layer.{Layer}
use Rattle.lx_encode.specs.declared.layers.Folding.{Folding}
use Rattle.lx_encode.specs.Runs.{InRun, LeadsTo, LeadBelow}
use Rattle.lx_encode.specs.Table.{Rows, row_of, GrowsBy}
use Rattle.lx_encode.specs.Layers.{IsBlock}
use Rattle.lx_encode.specs.Folding.{IsFolding}
use Rattle.lx_encode.proofs.RunLists.{LeadsTo-append}
use Rattle.lx_encode.proofs.Blocks.{number_is, place_below, block_of, place_of, block_to, block-mono}

-- a block without numbers has the empty row alone
empty_block : (layer : Layer) (runs : List Run) (block : ℕ) → ((n t : ℕ) → LeadsTo runs n t → n / layer.radix ≡ block → ⊥) → IsBlock layer runs block []
empty_block layer runs block none = λ u t. (λ at. absurd at, λ at. none at.0 t at.1 at.2)

module _ (layer : Layer) (runs : List Run) (old new : Folding) (rows rows' : Rows) (folding : IsFolding layer runs old rows) where
  -- no number lies in a later block
  not_later : (block : ℕ) → old.block < block → (n t : ℕ) → LeadsTo runs n t → n / layer.radix ≡ block → ⊥
  not_later block lt n t at is = ⊎_elim (λ here. omega arith) (λ before. omega (arith, before.0)) (folding.all n t at)

  -- the block had nothing
  pub closed_empty : rows' ≡ rows → new.closed.items ≡ old.closed.items → old.row.items ≡ [] → new.row.items ≡ [] → old.block < new.block →
      IsFolding layer runs new rows'
  closed_empty same closed none none' later = record {
    block = λ b r at. subst (λ x. IsBlock layer runs b (row_of x r)) (sym same) (folding.block b r (subst (λ l. LeadsTo l b r) closed at));
    some = λ b r at. subst (λ x. row_of x r ≡ [] → ⊥) (sym same) (folding.some b r (subst (λ l. LeadsTo l b r) closed at));
    last = subst (λ l. IsBlock layer runs new.block l) (sym none') (empty_block layer runs new.block (not_later new.block later));
    all = λ n t at. ⊎_elim
        (λ here. absurd (
        let at' : LeadsTo old.row.items (layer.offset + n % layer.radix) t = (folding.last (layer.offset + n % layer.radix) t).1 (n, at, here, refl) in
        subst (λ l. LeadsTo l (layer.offset + n % layer.radix) t) none at'))
        (λ before. inr (omega (arith, before.0), (before.1.0, subst (λ l. LeadsTo l (n / layer.radix) before.1.0) (sym closed) before.1.1))) (folding.all n t at);
  }

  -- the block had something
  pub closed_block : (residual : ℕ) → ((b r : ℕ) → LeadsTo new.closed.items b r ↔
      (LeadsTo old.closed.items b r ⊎ LeadsTo (record { lo = old.block; hi = old.block; to = residual } ∷ []) b r)) →
      GrowsBy rows rows' 1 → row_of rows' residual ≡ old.row.items → (old.row.items ≡ [] → ⊥) → new.row.items ≡ [] → old.block < new.block →
      LeadBelow old.closed.items (length rows) → IsFolding layer runs new rows'
  closed_block residual closed grows row some none later within = record {
    block = λ b r at. ⊎_elim
        (λ before. subst (λ l. IsBlock layer runs b l) (sym (grows.same r (within b r before))) (folding.block b r before))
        (λ now. ⊎_elim
        (λ here.
        let is : old.block ≡ b = omega (arith, here.0.0, here.0.1) in
        subst (λ x. IsBlock layer runs x (row_of rows' r)) is (subst (λ x. IsBlock layer runs old.block (row_of rows' x)) here.1
        (subst (λ l. IsBlock layer runs old.block l) (sym row) folding.last)))
        (λ none. absurd none) now) ((closed b r).0 at);
    some = λ b r at. ⊎_elim
        (λ before. subst (λ l. l ≡ [] → ⊥) (sym (grows.same r (within b r before))) (folding.some b r before))
        (λ now. ⊎_elim (λ here. subst (λ x. row_of rows' x ≡ [] → ⊥) here.1 (subst (λ l. l ≡ [] → ⊥) (sym row) some)) (λ none. absurd none) now) ((closed b r).0 at);
    last = subst (λ l. IsBlock layer runs new.block l) (sym none) (empty_block layer runs new.block (not_later new.block later));
    all = λ n t at. ⊎_elim
        (λ here. inr (omega arith, (residual, (closed (n / layer.radix) residual).1 (inr (inl ((omega arith, omega arith), refl))))))
        (λ before. inr (omega (arith, before.0), (before.1.0, (closed (n / layer.radix) before.1.0).1 (inl before.1.1)))) (folding.all n t at);
  }

-- numbers in two lists of runs
IsBlock-append : (layer : Layer) (runs more : List Run) (block : ℕ) (row added both : List Run) → IsBlock layer runs block row → IsBlock layer more block added →
    ((u t : ℕ) → LeadsTo both u t ↔ (LeadsTo row u t ⊎ LeadsTo added u t)) → IsBlock layer (runs ++ more) block both
IsBlock-append layer runs more block row added both first second whole = λ u t. (
  λ at. ⊎_elim
      (λ r. let f = (first u t).0 r in (f.0, (LeadsTo-append runs more f.0 t).1 (inl f.1), f.2, f.3))
      (λ a. let s = (second u t).0 a in (s.0, (LeadsTo-append runs more s.0 t).1 (inr s.1), s.2, s.3)) ((whole u t).0 at),
  λ (n, at, in_block, is). ⊎_elim
      (λ r. (whole u t).1 (inl ((first u t).1 (n, r, in_block, is))))
      (λ a. (whole u t).1 (inr ((second u t).1 (n, a, in_block, is)))) ((LeadsTo-append runs more n t).0 at),
)

-- a block that the part does not reach
IsBlock-kept : (layer : Layer) (runs : List Run) (part : Run) (block : ℕ) (row : List Run) → ((n : ℕ) → InRun part n → n / layer.radix ≡ block → ⊥) →
    IsBlock layer runs block row → IsBlock layer (runs ++ part ∷ []) block row
IsBlock-kept layer runs part block row none first =
    IsBlock-append layer runs (part ∷ []) block row [] row first
    (empty_block layer (part ∷ []) block (λ n t at is. ⊎_elim (λ here. none n here.0 is) (λ no. no) at))
    (λ u t. (λ at. inl at, λ at. ⊎_elim (λ r. r) (λ no. absurd no) at))

module _ (layer : Layer) (some : 2 ≤ layer.radix) (part : Run) (ordered : part.lo ≤ part.hi) where
  abbrev radix : ℕ
  radix = layer.radix

  -- the row of a part in its block
  within_row : part.lo / radix ≡ part.hi / radix →
      IsBlock layer (part ∷ []) (part.lo / radix) (record { lo = layer.offset + part.lo % radix; hi = layer.offset + part.hi % radix; to = part.to } ∷ [])
  within_row one = λ u t. (
    λ at. ⊎_elim
        (λ here.
        let lo_is : radix * (part.lo / radix) + part.lo % radix ≡ part.lo = number_is radix some part.lo in
        let hi_is : radix * (part.hi / radix) + part.hi % radix ≡ part.hi = number_is radix some part.hi in
        let hi_is' : radix * (part.lo / radix) + part.hi % radix ≡ part.hi = subst (λ q. radix * q + part.hi % radix ≡ part.hi) (sym one) hi_is in
        let low : layer.offset + part.lo % radix ≤ u = here.0.0 in
        let high : u ≤ layer.offset + part.hi % radix = here.0.1 in
        let below : part.hi % radix < radix = place_below radix some part.hi in
        let place : u - layer.offset < radix = omega arith in
        let at' : InRun part (radix * (part.lo / radix) + (u - layer.offset)) = (omega arith, omega arith) in
        let in_block = block_of radix some (part.lo / radix) (u - layer.offset) place in
        let is : (radix * (part.lo / radix) + (u - layer.offset)) % radix ≡ u - layer.offset = place_of radix some (part.lo / radix) (u - layer.offset) place in
        (radix * (part.lo / radix) + (u - layer.offset), inl (at', here.1), in_block, omega arith))
        (λ none. absurd none) at,
    λ (n, at, in_block, is). ⊎_elim
        (λ here.
        let low : part.lo ≤ n = here.0.0 in
        let high : n ≤ part.hi = here.0.1 in
        let lo_is : radix * (part.lo / radix) + part.lo % radix ≡ part.lo = number_is radix some part.lo in
        let hi_is : radix * (part.hi / radix) + part.hi % radix ≡ part.hi = number_is radix some part.hi in
        let hi_is' : radix * (part.lo / radix) + part.hi % radix ≡ part.hi = subst (λ q. radix * q + part.hi % radix ≡ part.hi) (sym one) hi_is in
        let n_is : radix * (n / radix) + n % radix ≡ n = number_is radix some n in
        let n_is' : radix * (part.lo / radix) + n % radix ≡ n = subst (λ q. radix * q + n % radix ≡ n) in_block n_is in
        inl ((omega arith, omega arith), here.1))
        (λ none. absurd none) at,
  )

  -- the row of each block of whole blocks
  whole_row : part.lo % radix ≡ 0 → part.hi % radix + 1 ≡ radix → (block : ℕ) → part.lo / radix ≤ block → block ≤ part.hi / radix →
      IsBlock layer (part ∷ []) block (record { lo = layer.offset; hi = layer.offset + (radix - 1); to = part.to } ∷ [])
  whole_row first last block from to = λ u t. (
    λ at. ⊎_elim
        (λ here.
        let lo_is : radix * (part.lo / radix) + part.lo % radix ≡ part.lo = number_is radix some part.lo in
        let hi_is : radix * (part.hi / radix) + part.hi % radix ≡ part.hi = number_is radix some part.hi in
        let from' : radix * (part.lo / radix) ≤ radix * block = mul-le-mul_left radix from in
        let to' : radix * block ≤ radix * (part.hi / radix) = mul-le-mul_left radix to in
        let low : layer.offset ≤ u = here.0.0 in
        let high : u ≤ layer.offset + (radix - 1) = here.0.1 in
        let place : u - layer.offset < radix = omega arith in
        let at' : InRun part (radix * block + (u - layer.offset)) = (omega arith, omega arith) in
        let in_block = block_of radix some block (u - layer.offset) place in
        let is : (radix * block + (u - layer.offset)) % radix ≡ u - layer.offset = place_of radix some block (u - layer.offset) place in
        (radix * block + (u - layer.offset), inl (at', here.1), in_block, omega arith))
        (λ none. absurd none) at,
    λ (n, at, in_block, is). ⊎_elim
        (λ here. let below : n % radix < radix = place_below radix some n in inl ((omega arith, omega arith), here.1))
        (λ none. absurd none) at,
  )

  module _ (runs : List Run) (old new : Folding) (rows rows' : Rows) (folding : IsFolding layer runs old rows) where
    pub put_within_folding : old.block ≡ part.lo / radix → part.lo / radix ≡ part.hi / radix → rows' ≡ rows → new.closed ≡ old.closed → new.block ≡ old.block →
        (passed : (b r : ℕ) → LeadsTo old.closed.items b r → b < old.block) →
        ((u t : ℕ) → LeadsTo new.row.items u t ↔ (LeadsTo old.row.items u t
        ⊎ LeadsTo (record { lo = layer.offset + part.lo % radix; hi = layer.offset + part.hi % radix; to = part.to } ∷ []) u t)) →
        IsFolding layer (runs ++ part ∷ []) new rows'
    put_within_folding here one same closed block passed row = record {
      block = λ b r at.
          let at' : LeadsTo old.closed.items b r = subst (λ v. LeadsTo v.items b r) closed at in
          let lt : b < old.block = passed b r at' in
          subst (λ x. IsBlock layer (runs ++ part ∷ []) b (row_of x r)) (sym same)
          (IsBlock-kept layer runs part b (row_of rows r) (λ n at_part is. let le : part.lo / radix ≤ n / radix = block-mono radix some part.lo n at_part.0 in omega arith)
          (folding.block b r at'));
      some = λ b r at. subst (λ x. row_of x r ≡ [] → ⊥) (sym same) (folding.some b r (subst (λ v. LeadsTo v.items b r) closed at));
      last =
          let first : IsBlock layer runs (part.lo / radix) old.row.items = subst (λ b. IsBlock layer runs b old.row.items) here folding.last in
          subst (λ b. IsBlock layer (runs ++ part ∷ []) b new.row.items) (sym (block ∙ here))
          (IsBlock-append layer runs (part ∷ []) (part.lo / radix) old.row.items
          (record { lo = layer.offset + part.lo % radix; hi = layer.offset + part.hi % radix; to = part.to } ∷ []) new.row.items first (within_row one) row);
      all = λ n t at. ⊎_elim
          (λ before. ⊎_elim (λ is. inl (is ∙ sym block)) (λ earlier. inr (omega (arith, earlier.0, block), (earlier.1.0, subst (λ v. LeadsTo v.items (n / radix) earlier.1.0) (sym closed) earlier.1.1))) (folding.all n t before))
          (λ now. ⊎_elim
          (λ at_part.
          let low : part.lo / radix ≤ n / radix = block-mono radix some part.lo n at_part.0.0 in
          let high : n / radix ≤ part.hi / radix = block-mono radix some n part.hi at_part.0.1 in
          inl (omega (arith, block, here, one, low, high)))
          (λ none. absurd none) now) ((LeadsTo-append runs (part ∷ []) n t).0 at);
    }

    pub put_blocks_folding : (residual : ℕ) → old.block ≡ part.lo / radix → part.lo % radix ≡ 0 → part.hi % radix + 1 ≡ radix → new.row ≡ old.row → new.block ≡ part.hi / radix + 1 →
        ((n t : ℕ) → LeadsTo runs n t → n < part.lo) →
        (passed : (b r : ℕ) → LeadsTo old.closed.items b r → b < old.block) → LeadBelow old.closed.items (length rows) →
        ((b r : ℕ) → LeadsTo new.closed.items b r ↔ (LeadsTo old.closed.items b r
        ⊎ LeadsTo (record { lo = part.lo / radix; hi = part.hi / radix; to = residual } ∷ []) b r)) →
        GrowsBy rows rows' 1 → row_of rows' residual ≡ record { lo = layer.offset; hi = layer.offset + (radix - 1); to = part.to } ∷ [] →
        IsFolding layer (runs ++ part ∷ []) new rows'
    put_blocks_folding residual here first last row block behind passed within closed grows row_is = record {
      block = λ b r at. ⊎_elim
          (λ before.
          let lt : b < old.block = passed b r before in
          subst (λ l. IsBlock layer (runs ++ part ∷ []) b l) (sym (grows.same r (within b r before)))
          (IsBlock-kept layer runs part b (row_of rows r) (λ n at_part is. let le : part.lo / radix ≤ n / radix = block-mono radix some part.lo n at_part.0 in omega arith)
          (folding.block b r before)))
          (λ now. ⊎_elim
          (λ at_block. subst (λ x. IsBlock layer (runs ++ part ∷ []) b (row_of rows' x)) at_block.1
          (subst (λ l. IsBlock layer (runs ++ part ∷ []) b l) (sym row_is)
          (IsBlock-append layer runs (part ∷ []) b [] whole whole (empty_block layer runs b (λ n t at' is. earlier n t at' b at_block.0.0 is))
          (whole_row first last b at_block.0.0 at_block.0.1) (λ u t. (λ x. inr x, λ x. ⊎_elim (λ no. absurd no) (λ y. y) x)))))
          (λ none. absurd none) now) ((closed b r).0 at);
      some = λ b r at. ⊎_elim
          (λ before. subst (λ l. l ≡ [] → ⊥) (sym (grows.same r (within b r before))) (folding.some b r before))
          (λ now. ⊎_elim (λ at_block. subst (λ x. row_of rows' x ≡ [] → ⊥) at_block.1 (subst (λ l. l ≡ [] → ⊥) (sym row_is) (λ e. filled e))) (λ none. absurd none) now) ((closed b r).0 at);
      last = subst (λ b. IsBlock layer (runs ++ part ∷ []) b new.row.items) (sym block)
          (λ u t. (
            λ at. absurd (let f = (folding.last u t).0 (subst (λ v. LeadsTo v.items u t) row at) in earlier f.0 t f.1 old.block (omega (arith, here)) f.2),
            λ (n, at, in_block, is). absurd (⊎_elim
                (λ before. earlier n t before (part.hi / radix + 1) (let le : part.lo / radix ≤ part.hi / radix = block-mono radix some part.lo part.hi ordered in omega arith) in_block)
                (λ now. ⊎_elim (λ at_part. let le : n / radix ≤ part.hi / radix = block-mono radix some n part.hi at_part.0.1 in omega arith) (λ none. none) now)
                ((LeadsTo-append runs (part ∷ []) n t).0 at)),
          ));
      all = λ n t at. ⊎_elim
          (λ before. ⊎_elim (λ is. absurd (earlier n t before old.block (omega (arith, here)) is))
          (λ passed_by. inr (
            let le : part.lo / radix ≤ part.hi / radix = block-mono radix some part.lo part.hi ordered in omega (arith, passed_by.0, block, here, le),
            (passed_by.1.0, (closed (n / radix) passed_by.1.0).1 (inl passed_by.1.1)),
          )) (folding.all n t before))
          (λ now. ⊎_elim
          (λ at_part.
          let low : part.lo / radix ≤ n / radix = block-mono radix some part.lo n at_part.0.0 in
          let high : n / radix ≤ part.hi / radix = block-mono radix some n part.hi at_part.0.1 in
          inr (omega (arith, block, high), (residual, (closed (n / radix) residual).1 (inr (inl ((low, high), refl))))))
          (λ none. absurd none) now) ((LeadsTo-append runs (part ∷ []) n t).0 at);
    }
      where
        whole : List Run
        whole = record { lo = layer.offset; hi = layer.offset + (radix - 1); to = part.to } ∷ []

        -- earlier numbers lie in earlier blocks
        earlier : (n t : ℕ) → LeadsTo runs n t → (b : ℕ) → part.lo / radix ≤ b → n / radix ≡ b → ⊥
        earlier n t at b le is =
            let lt : n < part.lo = behind n t at in
            let lo_is : radix * (part.lo / radix) + part.lo % radix ≡ part.lo = number_is radix some part.lo in
            let lt' : n < radix * (part.lo / radix) = omega (arith, first) in
            let block_lt : n / radix < part.lo / radix = block_to radix some (part.lo / radix) n lt' in
            omega arith

        filled : {run : Run} → run ∷ [] ≡ [] → ⊥
        filled e = cc
