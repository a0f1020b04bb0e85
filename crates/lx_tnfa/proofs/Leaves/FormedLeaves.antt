-- Leaves stand at the beginnings of parts, and steps to them lead to places of the automaton.
use Rattle.std.proofs.Common.{◌≡◌, ℕ, zero, suc, ◌+◌, ◌*◌, ◌/◌, ◌<◌, inl, inr, arith, List, [], ◌∷◌, ◌++◌, map, length, refl, sym, ap, ◌∙◌, subst}
use Rattle.std.specs.Prelude.{Option, slice_index}
use Rattle.lx_base.specs.declared.settings.Enc.{Enc}
use Rattle.lx_class.specs.declared.ranges.Range.{Range}
use Rattle.lx_encode.specs.Graph.{AreStarts, parts as encoded_parts}
use Rattle.lx_encode.specs.Table.{Rows}
use Rattle.lx_encode.specs.declared.graph.Residual.{Residual}
use Rattle.lx_regex.specs.Automaton as spec
use Rattle.lx_regex.specs.Automaton.{alternatives_table, automaton, copies_table, final, leaf, members_table, moves, moves_after, rules_table, table, unit_leaf}
use Rattle.lx_regex.specs.Term.{Term, empty, class, any_unit, cat, alt, repeat, tag, group, Terms, nil, cons, copies, parts}
use Rattle.lx_tnfa.specs.Classes.{AreClasses}
use Rattle.lx_tnfa.specs.Closure.{IsTargetAt, LeadToTargets, leaf_step, steps_at, steps_of, stop_at}
use Rattle.lx_tnfa.specs.Live.{starts_at, state_of}
use Rattle.lx_tnfa.specs.Rows.{RepresentEach, Represents}
use Rattle.lx_tnfa.specs.Tnfa.{Tnfa, HasMoves, IsFormed, IsPlace, IsRest, NoEndIsLeaf, rows_at}
use Rattle.lx_tnfa.specs.declared.classes.ClassGraph.{ClassGraph}
use Rattle.lx_tnfa.specs.declared.closure.Stop.TheVariants.{AtState}
use Rattle.lx_tnfa.specs.declared.states.Move.{Move}
use Rattle.lx_tnfa.specs.declared.states.State.{State}
use Rattle.lx_tnfa.specs.declared.states.State.TheVariants as held
use Rattle.lx_tnfa.proofs.Searching.SearchBasics.{Each}

abbrev HasWays : spec.State → Type 0
HasWays (moves ways) = Unit {0}
HasWays (leaf ranges) = ⊥
HasWays unit_leaf = ⊥

-- two states for each part, of which the second has moves
abbrev AreTwos : List spec.State → Type 0
AreTwos [] = Unit {0}
AreTwos (row ∷ []) = ⊥
AreTwos (row ∷ last ∷ rows) = HasWays last × AreTwos rows

twos_append : (xs ys : List spec.State) → AreTwos xs → AreTwos ys → AreTwos (xs ++ ys)
twos_append [] ys h k = k
twos_append (row ∷ []) ys h k = absurd h
twos_append (row ∷ last ∷ xs) ys h k = (h.0, twos_append xs ys h.1 k)

copies_twos : (rows : ℕ → List spec.Move → List spec.State) (part : ℕ) (body : Term) (low : ℕ) (high : Option ℕ) (left number : ℕ)
    → ((copy : ℕ) (ways : List spec.Move) → AreTwos (rows copy ways)) → AreTwos (copies_table rows part body low high left number)
copies_twos rows part body low high zero number each = tt
copies_twos rows part body low high (suc left) number each =
    twos_append (rows (part + 1 + number * parts body) (moves_after part body low high (suc number))) _ (each _ _)
    (copies_twos rows part body low high left (suc number) each)

mutual
  table_twos : (e : Term) (part : ℕ) (exits : List spec.Move) → AreTwos (table e part exits)
  table_twos empty part exits = (tt, tt)
  table_twos (class ranges) part exits = (tt, tt)
  table_twos any_unit part exits = (tt, tt)
  table_twos (cat members) part exits = (tt, members_twos members (part + 1) (2 * part + 1))
  table_twos (alt members) part exits = (tt, alternatives_twos members (part + 1) (2 * part + 1))
  table_twos (repeat body low high) part exits = (
    tt,
    copies_twos (λ copy ways. table body copy ways) part body low high (copies low high) 0 (λ copy ways. table_twos body copy ways),
  )
  table_twos (tag number) part exits = (tt, tt)
  table_twos (group opening closing body) part exits = (tt, table_twos body (part + 1) _)

  members_twos : (members : Terms) (part last : ℕ) → AreTwos (members_table members part last)
  members_twos nil part last = tt
  members_twos (cons member members) part last =
      twos_append (table member part _) _ (table_twos member part _) (members_twos members (part + parts member) last)

  alternatives_twos : (members : Terms) (part last : ℕ) → AreTwos (alternatives_table members part last)
  alternatives_twos nil part last = tt
  alternatives_twos (cons member members) part last =
      twos_append (table member part _) _ (table_twos member part _) (alternatives_twos members (part + parts member) last)

rules_twos : (rules : List Term) (part : ℕ) → AreTwos (rules_table rules part)
rules_twos [] part = tt
rules_twos (e ∷ rules) part = twos_append (table e part final) _ (table_twos e part final) (rules_twos rules (part + parts e))

held_ends : (classes : List ClassGraph) (rows : List spec.State) (states : List State) → AreTwos rows → RepresentEach classes rows states → NoEndIsLeaf states
held_ends classes [] [] twos h = tt
held_ends classes [] (state ∷ states) twos h = absurd h
held_ends classes (row ∷ []) states twos h = absurd twos
held_ends classes (row ∷ last ∷ rows) [] twos h = absurd h
held_ends classes (row ∷ last ∷ rows) (state ∷ []) twos h = absurd h.1
held_ends classes (row ∷ last ∷ rows) (state ∷ end ∷ states) twos h =
    (one last end twos.0 h.1.0, held_ends classes rows states twos.1 h.1.1)
  where
    one : (row : spec.State) (state : State) → HasWays row → Represents classes row state → HasMoves state
    one (moves ways) (held.Moves list) w h = tt
    one (moves ways) (held.Class number) w h = absurd h
    one (moves ways) held.AnyUnit w h = absurd h
    one (leaf ranges) state w h = absurd w
    one unit_leaf state w h = absurd w

-- the states of an automaton are formed so
pub automaton_formed : (enc : Enc) (classes : List ClassGraph) (rules : List Term) (states : List State) → RepresentEach classes (automaton rules) states
    → AreClasses enc classes → IsFormed enc classes states
unfolding IsFormed
automaton_formed enc classes rules states h graphs = (held_ends classes (automaton rules) states (tt, rules_twos rules 1) h, graphs)

leaf_number : (states : List State) → NoEndIsLeaf states → (number : ℕ) → (HasMoves (state_of states number) → ⊥)
    → (number < length states) × (2 * (number / 2) ≡ number)
leaf_number [] ends number never = absurd (never tt)
leaf_number (state ∷ []) ends zero never = (omega arith, refl)
leaf_number (state ∷ []) ends (suc number) never = absurd (never tt)
leaf_number (state ∷ last ∷ states) ends zero never = (omega arith, refl)
leaf_number (state ∷ last ∷ states) ends (suc zero) never = absurd (never ends.0)
leaf_number (state ∷ last ∷ states) ends (suc (suc number)) never =
    let r = leaf_number states ends.1 number never in
    let within : number < length states = r.0 in
    let even : 2 * (number / 2) ≡ number = r.1 in
    (omega (arith, within), omega (arith, even))

-- a leaf stands at an even number
pub leaf_even : (enc : Enc) (classes : List ClassGraph) (states : List State) → IsFormed enc classes states → (number : ℕ)
    → (HasMoves (state_of states number) → ⊥) → 2 * (number / 2) ≡ number
unfolding IsFormed
leaf_even enc classes states formed number never = (leaf_number states formed.0 number never).1

starts_among : (rows : Rows) (enc : Enc) (set ranges : List Range) (starts : List Residual) → AreStarts rows enc set ranges starts
    → Each (λ (start : Residual). start.0 < length rows) starts
starts_among rows enc set [] starts are = subst (Each (λ (start : Residual). start.0 < length rows)) (sym are) tt
starts_among rows enc set (range ∷ ranges) starts (inl none) = starts_among rows enc set ranges starts none.1
starts_among rows enc set (range ∷ ranges) starts (inr some) =
    subst (Each (λ (start : Residual). start.0 < length rows)) (sym some.2)
    (some.3.0, starts_among rows enc set ranges some.1 some.4)

-- the starts of a class are residuals of its graph
starts_within : (enc : Enc) (classes : List ClassGraph) → AreClasses enc classes → (number : ℕ)
    → Each (λ (start : Residual). start.0 < length (rows_at classes number)) (starts_at classes number)
starts_within enc [] are number = tt
starts_within enc (first ∷ classes) are zero = starts_among first.graph.rows enc first.set (encoded_parts enc) first.graph.starts are.0.starts
starts_within enc (first ∷ classes) are (suc number) = starts_within enc classes are.1 number

-- the steps of an automaton lead to states, ends and places of it
steps_lead : (tnfa : Tnfa) → IsFormed tnfa.enc tnfa.classes tnfa.states → (number : ℕ)
    → LeadToTargets tnfa (steps_at tnfa number (state_of tnfa.states number))
unfolding IsFormed
steps_lead tnfa formed zero = begins tnfa.begins
  where
    begins : (list : List ℕ) → LeadToTargets tnfa (map (λ begin. record { to = AtState begin; events = [] }) list)
    begins [] = tt
    begins (begin ∷ list) = (tt, begins list)
steps_lead tnfa formed (suc number) = at (state_of tnfa.states (suc number)) refl
  where
    to_stop : (rule to : ℕ) → IsTargetAt tnfa (stop_at rule to)
    to_stop rule zero = tt
    to_stop rule (suc to) = tt

    by_moves : (rule : ℕ) (ways : List Move)
        → LeadToTargets tnfa (map (λ (way : Move). record { to = stop_at rule way.to; events = way.events }) ways)
    by_moves rule [] = tt
    by_moves rule (way ∷ ways) = (to_stop rule way.to, by_moves rule ways)

    in_leaf : (state : State) → state_of tnfa.states (suc number) ≡ state → (HasMoves state → ⊥) → (rest : Residual)
        → IsRest tnfa.classes state (suc number / 2) rest.0 → IsPlace tnfa (record { part = suc number / 2; rest = rest })
    in_leaf state is never rest within =
        let r = leaf_number tnfa.states formed.0 (suc number) (λ has. never (subst HasMoves is has)) in record {
          part = subst (λ n. n < length tnfa.states) (sym r.1) r.0;
          rest =
              subst (λ s. IsRest tnfa.classes s (suc number / 2) rest.0)
              (sym is ∙ ap (state_of tnfa.states) (sym r.1)) within;
        }

    by_starts : (class_number : ℕ) → state_of tnfa.states (suc number) ≡ held.Class class_number → (starts : List Residual)
        → Each (λ (start : Residual). start.0 < length (rows_at tnfa.classes class_number)) starts
        → LeadToTargets tnfa (map (leaf_step (suc number / 2)) starts)
    by_starts class_number is [] within = tt
    by_starts class_number is (start ∷ starts) within =
        (in_leaf (held.Class class_number) is (λ has. has) start within.0, by_starts class_number is starts within.1)

    at : (state : State) → state_of tnfa.states (suc number) ≡ state
        → LeadToTargets tnfa (steps_of tnfa.classes (slice_index tnfa.owners (suc number / 2)) (suc number / 2) state)
    at (held.Moves ways) is = by_moves (slice_index tnfa.owners (suc number / 2)) ways
    at (held.Class class_number) is = by_starts class_number is (starts_at tnfa.classes class_number) (starts_within tnfa.enc tnfa.classes formed.1 class_number)
    at held.AnyUnit is = (in_leaf held.AnyUnit is (λ has. has) (record { 0 = 1 }) (omega arith), tt)

-- the same of an automaton by its fields
pub steps_lead_of : (tnfa inside : Tnfa) → inside ≡ tnfa → IsFormed inside.enc inside.classes inside.states → (number : ℕ)
    → LeadToTargets tnfa (steps_at tnfa number (state_of tnfa.states number))
steps_lead_of tnfa inside is formed number = steps_lead tnfa (subst (λ (t : Tnfa). IsFormed t.enc t.classes t.states) is formed) number
