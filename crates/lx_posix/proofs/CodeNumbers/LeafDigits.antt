-- Where a leaf reads its first unit there is at most one choice before the unit.
use Rattle.std.proofs.Common.{inl, inr, sym, ap, ap₂, ◌∙◌, arith}
use Rattle.std.proofs.lemmas.Nat.{div-mul-add, mod-mul-add}
use Rattle.std.specs.List.{cons_option, filter_map}
use Rattle.std.specs.Option.{option_map}
use Rattle.std.specs.Prelude.{◌≡◌, ℕ, zero, suc, ◌+◌, ◌*◌, ◌/◌, ◌%◌, ◌<◌, ◌⊎◌, List, [], ◌∷◌, ◌++◌, map, length, Option, Some, None, Bool, true, false, ◌&&◌, nat_lt, if◌then◌else◌, slice_index_or, refl}
use Rattle.lx_base.specs.declared.settings.Enc.{Enc}
use Rattle.lx_base.specs.declared.settings.Enc.TheVariants.{Byte, Ucs2, Utf16, Utf32, Utf8}
use Rattle.lx_encode.specs.Graph.{parts}
use Rattle.lx_encode.specs.declared.graph.Residual.{Residual}
use Rattle.lx_regex.specs.Expr.{ranges_of}
use Rattle.lx_regex.specs.Script.{Symbol, has_long, has_short, leaf_choice, picks, reads}
use Rattle.lx_regex.specs.Walk.{mark}
use Rattle.lx_tnfa.specs.LeafReadings.{IsNth}
use Rattle.lx_tnfa.specs.Live.{starts_at, state_of}
use Rattle.lx_tnfa.specs.Moves.{moves_in}
use Rattle.lx_tnfa.specs.PlaceNumbers.{class_starts, has_point, leaf_starts, set_at, symbols_added, symbols_from, ways_to_read}
use Rattle.lx_tnfa.specs.Tnfa.{Tnfa, rest_after}
use Rattle.lx_tnfa.specs.declared.states.Move.{Move}
use Rattle.lx_tnfa.specs.declared.states.State.{State}
use Rattle.lx_tnfa.specs.declared.states.State.TheVariants.{AnyUnit, Class, Moves}
use Rattle.lx_posix.specs.WayNumbers.{next_states}

-- at most one choice
abbrev pub IsChoice : List Symbol → Type 0
IsChoice symbols = (symbols ≡ []) ⊎ ((choice : ℕ) × (symbols ≡ picks choice ∷ []))

leaf_choice-is : (enc : Enc) (ranges : List (ℕ × ℕ)) (point : ℕ) → IsChoice (leaf_choice enc ranges point)
leaf_choice-is Byte ranges point = inl refl
leaf_choice-is Ucs2 ranges point = inl refl
leaf_choice-is Utf8 ranges point = inl refl
leaf_choice-is Utf16 ranges point = by (has_short ranges && has_long ranges)
  where
    by : (b : Bool) → IsChoice (if b then picks (if nat_lt point 0x10000 then 1 else 0) ∷ [] else [])
    by true = inr (_, refl)
    by false = inl refl
leaf_choice-is Utf32 ranges point = inl refl

abbrev AreChoices : List (List Symbol × ℕ) → Type 0
AreChoices [] = Unit {0}
AreChoices (way ∷ ways) = IsChoice way.0 × AreChoices ways

class_starts-are : (enc : Enc) (set : _) (points : _) (starts : List Residual)
    → AreChoices (class_starts enc set points starts)
class_starts-are enc set [] starts = tt
class_starts-are enc set (part ∷ others) [] = tt
class_starts-are enc set (part ∷ others) (start ∷ starts) =
    by (has_point set part) (class_starts-are enc set others starts) (class_starts-are enc set others (start ∷ starts))
  where
    by : (b : Bool) → AreChoices (class_starts enc set others starts) → AreChoices (class_starts enc set others (start ∷ starts))
        → AreChoices (if b then (leaf_choice enc (ranges_of set) part.lo, start.0) ∷ class_starts enc set others starts
        else class_starts enc set others (start ∷ starts))
    by true some none = (leaf_choice-is enc (ranges_of set) part.lo, some)
    by false some none = none

leaf_starts-are : (tnfa : Tnfa) (state : State) → AreChoices (leaf_starts tnfa state)
leaf_starts-are tnfa (Moves ways) = tt
leaf_starts-are tnfa (Class number) =
    class_starts-are tnfa.enc (set_at tnfa.classes number) (parts tnfa.enc) (starts_at tnfa.classes number)
leaf_starts-are tnfa AnyUnit = (inl refl, tt)

choices_kept : (rest : ℕ → Option ℕ) (starts : List (List Symbol × ℕ)) → AreChoices starts
    → AreChoices (filter_map (λ (start : List Symbol × ℕ). option_map (λ left. (start.0, left)) (rest start.1)) starts)
choices_kept rest [] h = tt
choices_kept rest (start ∷ starts) h = by (rest start.1) (choices_kept rest starts h.1)
  where
    by : (left : Option ℕ)
        → AreChoices (filter_map (λ (start : List Symbol × ℕ). option_map (λ left. (start.0, left)) (rest start.1)) starts)
        → AreChoices (cons_option (option_map (λ left. (start.0, left)) left)
        (filter_map (λ (start : List Symbol × ℕ). option_map (λ left. (start.0, left)) (rest start.1)) starts))
    by None others = others
    by (Some left) others = (h.0, others)

choice_at : (ways : List (List Symbol × ℕ)) (index : ℕ) → AreChoices ways → IsChoice (slice_index_or ways index ([], 0)).0
choice_at [] index h = inl refl
choice_at (way ∷ ways) zero h = h.0
choice_at (way ∷ ways) (suc index) h = choice_at ways index h.1

module _ (tnfa : Tnfa) where
  -- the choice before the first unit of a leaf
  abbrev pub choice_of : (state unit pick : ℕ) → List Symbol
  choice_of state unit pick = (slice_index_or (ways_to_read tnfa (state_of tnfa.states state) unit) pick ([], 0)).0

  pub choice_of-is : (state unit pick : ℕ) → IsChoice (choice_of state unit pick)
  choice_of-is state unit pick =
      choice_at (ways_to_read tnfa (state_of tnfa.states state) unit) pick
      (choices_kept (λ rest. rest_after tnfa.classes (state_of tnfa.states state) rest unit) (leaf_starts tnfa (state_of tnfa.states state))
      (leaf_starts-are tnfa (state_of tnfa.states state)))

  -- a state that has moves reads no unit
  pub choice_of-moves : (state unit pick index next : ℕ) → IsNth (next_states tnfa state) index next → choice_of state unit pick ≡ []
  choice_of-moves state unit pick index next h = by (state_of tnfa.states state) h
    where
      by : (at : State) → IsNth (map (λ (move : Move). move.to) (moves_in at)) index next
          → (slice_index_or (ways_to_read tnfa at unit) pick ([], 0)).0 ≡ []
      by (Moves ways) nth = refl
      by (Class number) nth = absurd nth
      by AnyUnit nth = absurd nth

  pub symbols_added-state : (state unit pick : ℕ) → state < length tnfa.states
      → symbols_added tnfa state unit pick ≡ mark state ∷ (choice_of state unit pick ++ reads unit ∷ [])
  symbols_added-state state unit pick lt =
      let width : ℕ = length tnfa.states in
      let whole : 0 * width + state ≡ state = omega arith in
      let turn : state / width ≡ 0 = ap (λ n. n / width) (sym whole) ∙ div-mul-add 0 width state lt in
      let leaf : state % width ≡ state = ap (λ n. n % width) (sym whole) ∙ mod-mul-add 0 width state lt in
      ap₂ (λ a b. symbols_from tnfa a b unit pick) turn leaf

  -- within a leaf there is none
  pub symbols_added-within : (rest leaf unit pick : ℕ) → leaf < length tnfa.states
      → symbols_added tnfa (suc rest * length tnfa.states + leaf) unit pick ≡ reads unit ∷ []
  symbols_added-within rest leaf unit pick lt =
      let width : ℕ = length tnfa.states in
      ap (λ a. symbols_from tnfa a ((suc rest * width + leaf) % width) unit pick) (div-mul-add (suc rest) width leaf lt)
