-- The leaves of a table: what the program holds of them, that their points are in the encoding, and that a state follows each.
use Rattle.std.proofs.Common.{◌≡◌, ℕ, zero, suc, ◌+◌, ◌<◌, ◌⊎◌, inl, inr, arith, List, [], ◌∷◌, ◌++◌, length, refl, subst, Some}
use Rattle.std.specs.Prelude.{Option, slice_get}
use Rattle.lx_base.specs.declared.settings.Enc.{Enc}
use Rattle.lx_regex.specs.Automaton as spec
use Rattle.lx_regex.specs.Automaton.{alternatives_table, automaton, copies_table, final, leaf, members_table, moves, moves_after, rules_table, table, unit_leaf}
use Rattle.lx_regex.specs.Reading.{IsReading}
use Rattle.lx_regex.specs.Script.{Symbol}
use Rattle.lx_regex.specs.Term.{Term, empty, class, any_unit, cat, alt, repeat, tag, group, Terms, nil, cons, copies, parts}
use Rattle.lx_regex.proofs.KernelCuts.Cuts.{ArePaired}
use Rattle.lx_regex.proofs.Walks.Readings.{code_row}
use Rattle.lx_tnfa.specs.Live.{state_of}
use Rattle.lx_tnfa.specs.Rows.{RepresentEach, Represents}
use Rattle.lx_regex.specs.ClassLimits.{ClassesFit, ClassesFitAmong, AllClassesFit}
use Rattle.lx_tnfa.specs.declared.classes.ClassGraph.{ClassGraph}
use Rattle.lx_tnfa.specs.declared.states.State.{State}
use Rattle.lx_tnfa.specs.declared.states.State.TheVariants as held
use Rattle.lx_tnfa.proofs.Leaves.LeafStarts.{RowFits}

-- the points of all classes are in the encoding
abbrev pub AllRowsFit : Enc → List spec.State → Type 0
AllRowsFit enc [] = Unit {0}
AllRowsFit enc (row ∷ rows) = RowFits enc row × AllRowsFit enc rows

rows_fit-append : (enc : Enc) (rows others : List spec.State) → AllRowsFit enc rows → AllRowsFit enc others → AllRowsFit enc (rows ++ others)
rows_fit-append enc [] others h k = k
rows_fit-append enc (row ∷ rows) others h k = (h.0, rows_fit-append enc rows others h.1 k)

copies_fit : (enc : Enc) (rows : ℕ → List spec.Move → List spec.State) (part : ℕ) (body : Term) (low : ℕ) (high : Option ℕ) (left number : ℕ)
    → ((copy : ℕ) (ways : List spec.Move) → AllRowsFit enc (rows copy ways))
    → AllRowsFit enc (copies_table rows part body low high left number)
copies_fit enc rows part body low high zero number each = tt
copies_fit enc rows part body low high (suc left) number each =
    rows_fit-append enc (rows _ (moves_after part body low high (suc number))) _ (each _ _)
    (copies_fit enc rows part body low high left (suc number) each)

mutual
  table_fits : (enc : Enc) (e : Term) (part : ℕ) (exits : List spec.Move) → ClassesFit enc e → AllRowsFit enc (table e part exits)
  table_fits enc empty part exits fits = (tt, (tt, tt))
  table_fits enc (class ranges) part exits fits = (fits, (tt, tt))
  table_fits enc any_unit part exits fits = (tt, (tt, tt))
  table_fits enc (cat members) part exits fits = (tt, (tt, members_fit enc members (part + 1) _ fits))
  table_fits enc (alt members) part exits fits = (tt, (tt, alternatives_fit enc members (part + 1) _ fits))
  table_fits enc (repeat body low high) part exits fits =
      (tt, (tt, copies_fit enc (λ copy ways. table body copy ways) part body low high (copies low high) 0 (λ copy ways. table_fits enc body copy ways fits)))
  table_fits enc (tag number) part exits fits = (tt, (tt, tt))
  table_fits enc (group opening closing body) part exits fits = (tt, (tt, table_fits enc body (part + 1) _ fits))

  members_fit : (enc : Enc) (members : Terms) (part last : ℕ) → ClassesFitAmong enc members → AllRowsFit enc (members_table members part last)
  members_fit enc nil part last fits = tt
  members_fit enc (cons member members) part last fits =
      rows_fit-append enc (table member part _) _ (table_fits enc member part _ fits.0) (members_fit enc members (part + parts member) last fits.1)

  alternatives_fit : (enc : Enc) (members : Terms) (part last : ℕ) → ClassesFitAmong enc members
      → AllRowsFit enc (alternatives_table members part last)
  alternatives_fit enc nil part last fits = tt
  alternatives_fit enc (cons member members) part last fits =
      rows_fit-append enc (table member part _) _ (table_fits enc member part _ fits.0)
      (alternatives_fit enc members (part + parts member) last fits.1)

rules_fit : (enc : Enc) (rules : List Term) (part : ℕ) → AllClassesFit enc rules → AllRowsFit enc (rules_table rules part)
rules_fit enc [] part fits = tt
rules_fit enc (e ∷ rules) part fits =
    rows_fit-append enc (table e part final) _ (table_fits enc e part final fits.0) (rules_fit enc rules (part + parts e) fits.1)

fits_at : (enc : Enc) (rows : List spec.State) (number : ℕ) (row : spec.State) → AllRowsFit enc rows → slice_get rows number ≡ Some row
    → RowFits enc row
fits_at enc [] number row fits at = cc
fits_at enc (first ∷ rows) zero row fits at = let same : first ≡ row = cc in subst (RowFits enc) same fits.0
fits_at enc (first ∷ rows) (suc number) row fits at = fits_at enc rows number row fits.1 at

pub leaf_fits : (enc : Enc) (rules : List Term) (number : ℕ) (row : spec.State) → AllClassesFit enc rules
    → slice_get (automaton rules) number ≡ Some row → RowFits enc row
leaf_fits enc rules number row fits at = fits_at enc (automaton rules) number row (tt, (tt, rules_fit enc rules 1 fits)) at

-- a leaf is not the last row
pub leaf_below : (enc : Enc) (rows : List spec.State) (number : ℕ) (row : spec.State) {choice : List Symbol} {units : List ℕ} → ArePaired rows
    → slice_get rows number ≡ Some row → IsReading enc row choice units → number + 1 < length rows
leaf_below enc [] number row paired at reading = cc
leaf_below enc (first ∷ []) number row paired at reading = absurd paired
leaf_below enc (first ∷ moves ways ∷ rows) zero row paired at reading = omega arith
leaf_below enc (first ∷ moves ways ∷ rows) (suc zero) row paired at reading = absurd (code_row enc reading ways (cc))
leaf_below enc (first ∷ moves ways ∷ rows) (suc (suc number)) row paired at reading =
    let below : number + 1 < length rows = leaf_below enc rows number row paired at reading in omega arith
leaf_below enc (first ∷ leaf ranges ∷ rows) number row paired at reading = absurd paired
leaf_below enc (first ∷ unit_leaf ∷ rows) number row paired at reading = absurd paired

-- each number has a row, of which the program holds the state, or it is beyond the states
pub row_or_none : (classes : List ClassGraph) (rows : List spec.State) (states : List State) (number : ℕ) → RepresentEach classes rows states
    → ((row : spec.State) × (slice_get rows number ≡ Some row) × Represents classes row (state_of states number))
    ⊎ (state_of states number ≡ held.Moves [])
row_or_none classes [] [] number h = inr refl
row_or_none classes [] (state ∷ states) number h = absurd h
row_or_none classes (row ∷ rows) [] number h = absurd h
row_or_none classes (row ∷ rows) (state ∷ states) zero h = inl (row, refl, h.0)
row_or_none classes (row ∷ rows) (state ∷ states) (suc number) h = row_or_none classes rows states number h.1
