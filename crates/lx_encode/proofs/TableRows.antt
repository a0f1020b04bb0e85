-- A table to which a row is put.
use Rattle.std.proofs.Common.{◌≡◌, ℕ, ◌<◌, ◌≤◌, ◌⊎◌, List, [], ◌∷◌, ◌++◌, length, refl, sym, ap, ◌∙◌, subst, inl, inr, arith}
use Rattle.std.proofs.lemmas.Bool.{cases_lt}
use Rattle.std.proofs.lemmas.List.{get_or_append_left, get_or_push, length_push}
use Rattle.lx_encode.specs.declared.runs.Run.{Run}
use Rattle.lx_encode.specs.Runs.{IsRow, LeadBelow}
use Rattle.lx_encode.specs.Table.{GrowsBy, IsTable, Rows, row_of}

module _ (rows : Rows) (runs : List Run) where
  last : row_of (rows ++ runs ∷ []) (length rows) ≡ runs
  last = get_or_push rows runs [] (length rows) refl

  front : (residual : ℕ) → residual < length rows → row_of (rows ++ runs ∷ []) residual ≡ row_of rows residual
  front residual lt = get_or_append_left rows (runs ∷ []) [] residual lt

  -- a number below the count of the rows with one more is that of a row before, or of the new one
  one_of : (residual : ℕ) → residual < length (rows ++ runs ∷ []) → (residual < length rows) ⊎ (length rows ≡ residual)
  one_of residual lt = at (cases_lt residual (length rows))
    where
      at : (residual < length rows) ⊎ (length rows ≤ residual) → (residual < length rows) ⊎ (length rows ≡ residual)
      at (inl inside) = inl inside
      at (inr past) = inr (omega (arith, length_push rows runs))

  pub row_pushed : row_of (rows ++ runs ∷ []) (length rows) ≡ runs
  row_pushed = last

  pub grows_pushed : GrowsBy rows (rows ++ runs ∷ []) 1
  grows_pushed = record {
    longer = omega (arith, length_push rows runs);
    at_most = omega (arith, length_push rows runs);
    same = front;
  }

  module _ (table : IsTable rows) (row : IsRow runs) (earlier : LeadBelow runs (length rows))
      (absent : (place : ℕ) → place < length rows → row_of rows place ≡ runs → ⊥) where
    each_row : (residual : ℕ) → (residual < length rows) ⊎ (length rows ≡ residual) → IsRow (row_of (rows ++ runs ∷ []) residual)
    each_row residual (inl inside) = subst IsRow (sym (front residual inside)) (table.row residual inside)
    each_row residual (inr is) = subst (λ r. IsRow (row_of (rows ++ runs ∷ []) r)) is (subst IsRow (sym last) row)

    each_earlier : (residual : ℕ) → (residual < length rows) ⊎ (length rows ≡ residual) → LeadBelow (row_of (rows ++ runs ∷ []) residual) residual
    each_earlier residual (inl inside) = subst (λ l. LeadBelow l residual) (sym (front residual inside)) (table.earlier residual inside)
    each_earlier residual (inr is) =
        subst (λ r. LeadBelow (row_of (rows ++ runs ∷ []) r) r) is (subst (λ l. LeadBelow l (length rows)) (sym last) earlier)

    apart : (left right : ℕ) → (left < length rows) ⊎ (length rows ≡ left) → (right < length rows) ⊎ (length rows ≡ right)
        → row_of (rows ++ runs ∷ []) left ≡ row_of (rows ++ runs ∷ []) right → left ≡ right
    apart left right (inl l) (inl r) same = table.distinct left right l r (sym (front left l) ∙ same ∙ front right r)
    apart left right (inl l) (inr r) same =
        absurd (absent left l (sym (front left l) ∙ same ∙ ap (row_of (rows ++ runs ∷ [])) (sym r) ∙ last))
    apart left right (inr l) (inl r) same =
        absurd (absent right r (sym (front right r) ∙ sym same ∙ ap (row_of (rows ++ runs ∷ [])) (sym l) ∙ last))
    apart left right (inr l) (inr r) same = sym l ∙ r

    pub table_pushed : IsTable (rows ++ runs ∷ [])
    table_pushed = record {
      some = omega (arith, length_push rows runs);
      ended = front 0 table.some ∙ table.ended;
      row = λ residual lt. each_row residual (one_of residual lt);
      earlier = λ residual lt. each_earlier residual (one_of residual lt);
      distinct = λ left right l r same. apart left right (one_of left l) (one_of right r) same;
    }
