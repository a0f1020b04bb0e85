-- What is read where the values of a rule's tags are held.
use Rattle.std.proofs.Common.{◌≡◌, ℕ, suc, ◌+◌, ◌<◌, ◌≤◌, List, [], ◌∷◌, map, length, Option, Some, None, Bool, true, false, slice_get, refl, ap, ap₂, sym, subst, arith}
use Rattle.lx_auto.specs.Bank as bank
use Rattle.lx_auto.specs.Bank.{Bank, read_all}
use Rattle.lx_auto.specs.Run.{Left, found_left}
use Rattle.lx_regex.specs.Script.{Symbol}
use Rattle.lx_regex.specs.Values.{Value, all_events, history, last_event, single, values_of}
use Rattle.lx_tnfa.specs.Tnfa.{Tnfa}
use Rattle.lx_auto.specs.Shapes.{is_history}
use Rattle.lx_tdfa.specs.Promise.{tag_value}
use Rattle.lx_tdfa.specs.Registers.{held_from, widest}
use Rattle.lx_tdfa.proofs.Tables.TableRuns.{IsLeft}

pub held_from-kinds : (tag : ℕ) (kinds : List Bool) → map is_history (held_from tag kinds) ≡ kinds
held_from-kinds tag [] = refl
held_from-kinds tag (true ∷ kinds) = ap (λ l. true ∷ l) (held_from-kinds (suc tag) kinds)
held_from-kinds tag (false ∷ kinds) = ap (λ l. false ∷ l) (held_from-kinds (suc tag) kinds)

-- each register holds the value of its tag
module _ (held : Bank) (start : ℕ) (symbols : List Symbol) where
  pub read_all-values : (tag : ℕ) (kinds : List Bool)
      → ((k t : ℕ) → t ≡ tag + k → slice_get kinds k ≡ Some false → held.regs t ≡ last_event t start None symbols)
      → ((k t : ℕ) → t ≡ tag + k → slice_get kinds k ≡ Some true → held.mregs (suc t) ≡ all_events t start symbols)
      → map tag_value (read_all held (held_from tag kinds)) ≡ values_of start symbols tag kinds
  read_all-values tag [] one many = refl
  read_all-values tag (true ∷ kinds) one many =
      let z : tag ≡ tag + 0 = omega arith in
      ap₂ (λ (a : Value) (l : List Value). a ∷ l) (ap history (many 0 tag z refl))
      (read_all-values (suc tag) kinds
      (λ k t e at. let e' : t ≡ tag + suc k = omega arith in one (suc k) t e' at)
      (λ k t e at. let e' : t ≡ tag + suc k = omega arith in many (suc k) t e' at))
  read_all-values tag (false ∷ kinds) one many =
      let z : tag ≡ tag + 0 = omega arith in
      ap₂ (λ (a : Value) (l : List Value). a ∷ l) (ap single (one 0 tag z refl))
      (read_all-values (suc tag) kinds
      (λ k t e at. let e' : t ≡ tag + suc k = omega arith in one (suc k) t e' at)
      (λ k t e at. let e' : t ≡ tag + suc k = omega arith in many (suc k) t e' at))

-- two banks that agree in the first registers
module _ (held other : Bank) (width : ℕ) (same : (reg : ℕ) → reg < width → held.regs reg ≡ other.regs reg)
    (alike : (reg : ℕ) → reg < width → held.mregs (suc reg) ≡ other.mregs (suc reg)) where
  pub read_all-same : (tag : ℕ) (kinds : List Bool) → tag + length kinds ≤ width
      → read_all held (held_from tag kinds) ≡ read_all other (held_from tag kinds)
  read_all-same tag [] fits = refl
  read_all-same tag (true ∷ kinds) fits =
      let here : tag < width = omega arith in
      let more : suc tag + length kinds ≤ width = omega arith in
      ap₂ (λ (a : bank.Value) (l : List bank.Value). a ∷ l) (ap bank.history (alike tag here)) (read_all-same (suc tag) kinds more)
  read_all-same tag (false ∷ kinds) fits =
      let here : tag < width = omega arith in
      let more : suc tag + length kinds ≤ width = omega arith in
      ap₂ (λ (a : bank.Value) (l : List bank.Value). a ∷ l) (ap bank.single (same tag here)) (read_all-same (suc tag) kinds more)

  pub found_left-same : (tnfa : Tnfa) (left : Option Left) → widest tnfa.rules ≤ width → IsLeft tnfa left → found_left held left ≡ found_left other left
  found_left-same tnfa None wide is = refl
  found_left-same tnfa (Some left) wide is =
      let short : length is.0 ≤ widest tnfa.rules = is.2 in
      let fits : 0 + length is.0 ≤ width = omega arith in
      let read : read_all held left.accept.values ≡ read_all other left.accept.values =
      subst (λ l. read_all held l ≡ read_all other l) (sym is.1) (read_all-same 0 is.0 fits) in
      ap (λ l. Some (record { rule = left.accept.rule; values = l; offset = left.offset })) read
