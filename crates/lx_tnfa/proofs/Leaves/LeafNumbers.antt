-- The numbers of places in leaves are told apart by division, and read as the leaves do.
use Rattle.std.proofs.Common.{◌≡◌, ℕ, suc, ◌+◌, ◌*◌, ◌/◌, ◌%◌, ◌<◌, ◌≤◌, arith, true, false, List, length, refl, sym, ap, ap₂, ◌∙◌, subst, Some}
use Rattle.std.proofs.lemmas.Nat.{div-mul-add, mod-mul-add}
use Rattle.std.specs.Option.{option_map}
use Rattle.std.specs.Prelude.{Option, if◌then◌else◌}
use Rattle.lx_regex.specs.Script.{Symbol}
use Rattle.lx_tnfa.specs.LeafReadings.{IsNth}
use Rattle.lx_tnfa.specs.Live.{state_of}
use Rattle.lx_tnfa.specs.PlaceNumbers.{is_finished, leaf_starts, place_number}
use Rattle.lx_tnfa.specs.Tnfa.{Tnfa, rest_after}
use Rattle.lx_tnfa.specs.declared.states.State.{State}
use Rattle.lx_tnfa.proofs.Construction.NthLists.{From, mapped_from}

module _ (tnfa : Tnfa) where
  -- the number at a residual, by whether the leaf is finished there
  pub finished_number : (leaf rest : ℕ) → is_finished tnfa.classes (state_of tnfa.states leaf) rest ≡ true → place_number tnfa leaf rest ≡ leaf + 1
  finished_number leaf rest e = ap (λ b. if b then leaf + 1 else suc rest * length tnfa.states + leaf) e

  pub unfinished_number : (leaf rest : ℕ) → is_finished tnfa.classes (state_of tnfa.states leaf) rest ≡ false
      → place_number tnfa leaf rest ≡ suc rest * length tnfa.states + leaf
  unfinished_number leaf rest e = ap (λ b. if b then leaf + 1 else suc rest * length tnfa.states + leaf) e

  pub beyond : (leaf rest count : ℕ) → count ≤ suc rest * count + leaf
  beyond leaf rest count = omega arith

  -- what is read at a number
  pub read_at : {A : Type 0} (f : ℕ → ℕ → A) (number turn leaf : ℕ) → leaf < length tnfa.states → number ≡ turn * length tnfa.states + leaf
      → f (number / length tnfa.states) (number % length tnfa.states) ≡ f turn leaf
  read_at f number turn leaf lt e =
      ap (λ n. f (n / length tnfa.states) (n % length tnfa.states)) e
      ∙ ap₂ f (div-mul-add turn (length tnfa.states) leaf lt) (mod-mul-add turn (length tnfa.states) leaf lt)

  pub state_turn : (number : ℕ) → number ≡ 0 * length tnfa.states + number
  state_turn number = omega arith

  -- where one number is that of two residuals of leaves
  pub number_same : (leaf rest other next : ℕ) → leaf + 1 < length tnfa.states → other + 1 < length tnfa.states
      → is_finished tnfa.classes (state_of tnfa.states leaf) rest ≡ false → is_finished tnfa.classes (state_of tnfa.states other) next ≡ false
      → place_number tnfa leaf rest ≡ place_number tnfa other next → (leaf ≡ other) × (rest ≡ next)
  number_same leaf rest other next lt lt' e f same =
      let k = sym (unfinished_number leaf rest e) ∙ same ∙ unfinished_number other next f in
      let first = read_at (λ turn l. turn) (suc rest * length tnfa.states + leaf) (suc rest) leaf (omega arith) refl in
      let second = read_at (λ turn l. turn) (suc rest * length tnfa.states + leaf) (suc next) other (omega arith) k in
      let turns : suc rest ≡ suc next = sym first ∙ second in
      let third = read_at (λ turn l. l) (suc rest * length tnfa.states + leaf) (suc rest) leaf (omega arith) refl in
      let fourth = read_at (λ turn l. l) (suc rest * length tnfa.states + leaf) (suc next) other (omega arith) k in
      (sym third ∙ fourth, omega arith)

  -- a way to read a unit is that of a start
  pub record StartOf (state : State) (unit index : ℕ) (way : List Symbol × ℕ) : Type 0 where
    pub rest : ℕ
    pub nth : IsNth (leaf_starts tnfa state) index (way.0, rest)
    pub leads : rest_after tnfa.classes state rest unit ≡ Some way.1

  abbrev pub way_of : State → ℕ → List Symbol × ℕ → Option (List Symbol × ℕ)
  way_of state unit start = option_map (λ rest. (start.0, rest)) (rest_after tnfa.classes state start.1 unit)

  pub start_of : (state : State) (unit : ℕ) (way : List Symbol × ℕ) → (from : From (way_of state unit) (leaf_starts tnfa state) way)
      → StartOf state unit from.index way
  start_of state unit way from =
      let m = mapped_from (λ rest. (from.x.0, rest)) (rest_after tnfa.classes state from.x.1 unit) way from.is in
      let choice : from.x.0 ≡ way.0 = ap (λ (s : List Symbol × ℕ). s.0) m.2 in
      let rest : m.0 ≡ way.1 = ap (λ (s : List Symbol × ℕ). s.1) m.2 in
      record {
        rest = from.x.1;
        nth = subst (λ c. IsNth (leaf_starts tnfa state) from.index (c, from.x.1)) choice from.nth;
        leads = m.1 ∙ ap Some rest;
      }
