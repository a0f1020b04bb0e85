-- A front of a walk ends in a leaf, in which all was read that stands behind its last beginning.
use Rattle.std.proofs.Common.{◌≡◌, ℕ, Bool, true, false, List, [], ◌∷◌, ◌++◌, map, refl, sym, ap, ◌∙◌, subst, append_assoc, append-nil, Some}
use Rattle.std.specs.Prelude.{nat_lt, slice_get, ◌&&◌, if◌then◌else◌}
use Rattle.lx_base.specs.declared.settings.Enc.{Enc}
use Rattle.lx_base.specs.declared.settings.Enc.TheVariants.{Byte, Ucs2, Utf8, Utf16, Utf32}
use Rattle.lx_regex.specs.Automaton.{State, automaton, label}
use Rattle.lx_regex.specs.Reading.{IsReading, of_point, of_unit}
use Rattle.lx_regex.specs.Script.{Symbol, begins, ends, reads, sets, unsets, picks, has_long, has_short, leaf_choice}
use Rattle.lx_regex.specs.Term.{Term}
use Rattle.lx_regex.specs.Walk.{mark}
use Rattle.lx_regex.proofs.KernelCuts.Cuts.{ArePaired, code_even, paired_rules}
use Rattle.lx_regex.proofs.Walks.Fronts.{Front, by_code, by_move, within}
use Rattle.lx_regex.proofs.PartTables.Rows.{mark_begins}
use Rattle.lx_tnfa.specs.LeafReadings.{IsLeft}

-- what stands behind the last beginning
abbrev pub since : (now : List Symbol) → List Symbol → List Symbol
since now [] = now
since now (begins part ∷ rest) = since [] rest
since now (ends part ∷ rest) = since (now ++ ends part ∷ []) rest
since now (reads unit ∷ rest) = since (now ++ reads unit ∷ []) rest
since now (sets number ∷ rest) = since (now ++ sets number ∷ []) rest
since now (unsets number ∷ rest) = since (now ++ unsets number ∷ []) rest
since now (picks choice ∷ rest) = since (now ++ picks choice ∷ []) rest

since-append : (now front rest : List Symbol) → since now (front ++ rest) ≡ since (since now front) rest
since-append now [] rest = refl
since-append now (begins part ∷ front) rest = since-append [] front rest
since-append now (ends part ∷ front) rest = since-append (now ++ ends part ∷ []) front rest
since-append now (reads unit ∷ front) rest = since-append (now ++ reads unit ∷ []) front rest
since-append now (sets number ∷ front) rest = since-append (now ++ sets number ∷ []) front rest
since-append now (unsets number ∷ front) rest = since-append (now ++ unsets number ∷ []) front rest
since-append now (picks choice ∷ front) rest = since-append (now ++ picks choice ∷ []) front rest

since-reads : (now : List Symbol) (read : List ℕ) → since now (map reads read) ≡ now ++ map reads read
since-reads now [] = sym (append-nil now)
since-reads now (unit ∷ read) = since-reads (now ++ reads unit ∷ []) read ∙ append_assoc now (reads unit ∷ []) (map reads read)

since-choice : (enc : Enc) (ranges : List (ℕ × ℕ)) (point : ℕ) → since [] (leaf_choice enc ranges point) ≡ leaf_choice enc ranges point
since-choice Byte ranges point = refl
since-choice Ucs2 ranges point = refl
since-choice Utf8 ranges point = refl
since-choice Utf16 ranges point = at (has_short ranges && has_long ranges)
  where
    at : (b : Bool) → since [] (if b then picks (if nat_lt point 0x10000 then 1 else 0) ∷ [] else [])
        ≡ (if b then picks (if nat_lt point 0x10000 then 1 else 0) ∷ [] else [])
    at true = refl
    at false = refl
since-choice Utf32 ranges point = refl

since-reading : (enc : Enc) {row : State} {choice : List Symbol} {units : List ℕ} → IsReading enc row choice units → since [] choice ≡ choice
since-reading enc (of_point {ranges} point inside) = since-choice enc ranges point
since-reading enc (of_unit unit) = refl

-- in a leaf it is all that was read in it
since-leaf : (enc : Enc) (states : List State) (now : List Symbol) (state : ℕ) (row : State) (choice : List Symbol) (read units : List ℕ)
    → ArePaired states → slice_get states state ≡ Some row → IsReading enc row choice units
    → since now (mark state ∷ (choice ++ map reads read)) ≡ choice ++ map reads read
since-leaf enc states now state row choice read units paired at reading =
    let even = code_even enc states state row paired at reading in
    ap (λ x. since now (x ∷ (choice ++ map reads read))) (ap mark even.1 ∙ mark_begins even.0)
    ∙ since-append [] choice (map reads read) ∙ ap (λ l. since l (map reads read)) (since-reading enc reading) ∙ since-reads choice read

module _ (enc : Enc) (rules : List Term) where
  pub front_leaf : {leaf : ℕ} {left : List ℕ} {state : ℕ} {front : List Symbol} → Front enc (automaton rules) leaf left state front → (now : List Symbol)
      → IsLeft enc rules leaf (since now front) left
  front_leaf {leaf} {left} (by_move {s} {l} ways way at among behind) now =
      subst (λ k. IsLeft enc rules leaf k left) (sym (since-append now (mark s ∷ label way) l))
      (front_leaf behind (since now (mark s ∷ label way)))
  front_leaf {leaf} {left} (by_code {s} {l} row choice units at reading behind) now =
      subst (λ k. IsLeft enc rules leaf k left)
      (sym
      (since-append now (mark s ∷ choice) (map reads units ++ l)
      ∙ since-append (since now (mark s ∷ choice)) (map reads units) l))
      (front_leaf behind (since (since now (mark s ∷ choice)) (map reads units)))
  front_leaf {leaf} {left} (within {s} same row choice unit units at reading) now =
      subst (λ k. IsLeft enc rules k (since now (mark s ∷ (choice ++ map reads (unit ∷ units)))) left) same
      (record {
        row = row;
        choice = choice;
        read = unit ∷ units;
        at = at;
        is = since-leaf enc (automaton rules) now s row choice (unit ∷ units) _ (paired_rules rules 1) at reading;
        reading = reading;
      })

  -- the front may go on with other units that finish the leaf
  pub front_left : {leaf : ℕ} {left : List ℕ} {state : ℕ} {front : List Symbol} → (other : List ℕ) → Front enc (automaton rules) leaf left state front
      → (now : List Symbol)
      → ((row : State) (choice : List Symbol) (read : List ℕ) → slice_get (automaton rules) leaf ≡ Some row
      → IsReading enc row choice (read ++ left) → since now front ≡ choice ++ map reads read → IsReading enc row choice (read ++ other))
      → Front enc (automaton rules) leaf other state front
  front_left {leaf} other (by_move {s} {l} ways way at among behind) now goes =
      by_move ways way at among
      (front_left other behind (since now (mark s ∷ label way))
      (λ row choice read at reading is. goes row choice read at reading (since-append now (mark s ∷ label way) l ∙ is)))
  front_left {leaf} other (by_code {s} {l} row choice units at reading behind) now goes =
      by_code row choice units at reading
      (front_left other behind (since (since now (mark s ∷ choice)) (map reads units))
      (λ row choices read at reading is. goes row choices read at reading
      (since-append now (mark s ∷ choice) (map reads units ++ l) ∙ since-append (since now (mark s ∷ choice)) (map reads units) l ∙ is)))
  front_left {leaf} other (within {s} same row choice unit units at reading) now goes =
      within same row choice unit units at
      (goes row choice (unit ∷ units) (ap (slice_get (automaton rules)) (sym same) ∙ at) reading
      (since-leaf enc (automaton rules) now s row choice (unit ∷ units) _ (paired_rules rules 1) at reading))
