-- A map from runs to cuts, seen as the rows of a table: which row is found, and what comes in where none is.
use Rattle.std.proofs.Common.{◌≡◌, ℕ, zero, suc, ◌+◌, ◌<◌, Bool, true, false, cond, not, List, [], ◌∷◌, ◌++◌, map, length, Some, None, Vec, refl, sym, ap, ◌∙◌, true≢false, rules, arith}
use Rattle.std.specs.Prelude.{position, if◌then◌else◌}
use Rattle.std.specs.List.{position_or_len}
use Rattle.std.specs.Bool.{Decides}
use Rattle.std.specs.Cmp.Lexicographic.{pointwise, pointwise_decides}
use Rattle.std.specs.Map.{lookup}
use Rattle.std.specs.Option.{unwrap_or}
use Rattle.std.proofs.lemmas.List.{map_push}
use Rattle.indexmap.specs.IndexMap.{insert_entry}
use Rattle.lx_encode.specs.declared.runs.Run.{Run}
use Rattle.lx_encode.specs.contracts.runs.RunPartialEq.TheImpl.{eq-value}
use Rattle.lx_encode.specs.Table.{row_of, rows_in}

-- equal runs are those that the program takes for equal
same_run : (run other : Run) → eq-value.it run other ≡ true → run ≡ other
same_run run other is = search rules

run_same : (run other : Run) → run ≡ other → eq-value.it run other ≡ true
run_same run other is = search rules

Decides-pointwise : (runs others : List Run) → Decides (pointwise eq-value.it runs others) (runs ≡ others)
Decides-pointwise = pointwise_decides (λ run other. (same_run run other, run_same run other))

module _ {A : Type 0} where
  -- whether a key has these runs
  abbrev has : List Run → Vec Run A → Bool
  has runs key = pointwise eq-value.it runs key.items

  module _ (runs : List Run) where
    abbrev place : List (Vec Run A × Vec ℕ A) → ℕ
    place entries = position_or_len (has runs) (map (λ entry. entry.0) entries)

    found_first : (entries : List (Vec Run A × Vec ℕ A)) → place entries < length entries → row_of (rows_in entries) (place entries) ≡ runs
    found_first [] lt = absurd (omega (arith, lt))
    found_first (entry ∷ entries) lt = at (has runs entry.0) refl lt (found_first entries)
      where
        at : (b : Bool) → has runs entry.0 ≡ b → cond (not b) (1 + place entries) 0 < suc (length entries)
            → (place entries < length entries → row_of (rows_in entries) (place entries) ≡ runs)
            → row_of (rows_in (entry ∷ entries)) (cond (not b) (1 + place entries) 0) ≡ runs
        at true is lt later = sym ((Decides-pointwise runs entry.0.items).0 is)
        at false is lt later =
            let next : 1 + place entries ≡ suc (place entries) = omega arith in
            ap (row_of (rows_in (entry ∷ entries))) next ∙ later (omega (arith, lt))

    -- a place that is found is that of the runs
    pub row_found : (entries : List (Vec Run A × Vec ℕ A)) (found : ℕ) → Some found ≡ position (has runs) (map (λ entry. entry.0) entries)
        → found < length entries → row_of (rows_in entries) found ≡ runs
    row_found entries found is lt = at _ is
      where
        at : (b : Bool) → Some found ≡ cond b (Some (place entries)) None → row_of (rows_in entries) found ≡ runs
        at true is =
            let same : found ≡ place entries = ap (λ o. unwrap_or o 0) is in
            ap (row_of (rows_in entries)) same ∙ found_first entries (omega (arith, same, lt))
        at false is = cc

    -- where no key is found, no row has the runs
    pub none_found : (entries : List (Vec Run A × Vec ℕ A)) → lookup (has runs) entries ≡ None
        → (number : ℕ) → number < length (rows_in entries) → row_of (rows_in entries) number ≡ runs → ⊥
    none_found [] none number lt same = omega (arith, lt)
    none_found (entry ∷ entries) none number lt same =
        at (has runs entry.0) refl none (λ later number lt same. none_found entries later number lt same) number lt same
      where
        at : (b : Bool) → has runs entry.0 ≡ b → cond b (Some entry.1) (lookup (has runs) entries) ≡ None
            → (lookup (has runs) entries ≡ None → (number : ℕ) → number < length (rows_in entries) → row_of (rows_in entries) number ≡ runs → ⊥)
            → (number : ℕ) → number < length (rows_in (entry ∷ entries)) → row_of (rows_in (entry ∷ entries)) number ≡ runs → ⊥
        at true is none later number lt same = cc
        at false is none later zero lt same = true≢false (sym ((Decides-pointwise runs entry.0.items).1 (sym same)) ∙ is)
        at false is none later (suc number) lt same = later none number (omega (arith, lt)) same

  -- and they come in behind the others
  pub put_last : (entries : List (Vec Run A × Vec ℕ A)) (key : Vec Run A) (value : Vec ℕ A) → lookup (has key.items) entries ≡ None
      → insert_entry (λ (key other : Vec Run A). has key.items other) entries key value ≡ entries ++ (key, value) ∷ []
  put_last [] key value none = refl
  put_last (entry ∷ entries) key value none = at (has key.items entry.0) none (put_last entries key value)
    where
      put : List (Vec Run A × Vec ℕ A)
      put = insert_entry (λ (key other : Vec Run A). has key.items other) entries key value

      at : (b : Bool) → cond b (Some entry.1) (lookup (has key.items) entries) ≡ None
          → (lookup (has key.items) entries ≡ None → put ≡ entries ++ (key, value) ∷ [])
          → (if b then (entry.0, value) ∷ entries else entry ∷ put) ≡ entry ∷ (entries ++ (key, value) ∷ [])
      at true none later = cc
      at false none later = ap (λ l. entry ∷ l) (later none)

  -- so their row comes in behind the others
  pub rows_put : (entries new : List (Vec Run A × Vec ℕ A)) (key : Vec Run A) (value : Vec ℕ A)
      → new ≡ entries ++ (key, value) ∷ [] → rows_in new ≡ rows_in entries ++ key.items ∷ []
  rows_put entries new key value is = ap rows_in is ∙ map_push (λ (entry : Vec Run A × Vec ℕ A). entry.0.items) entries (key, value)
