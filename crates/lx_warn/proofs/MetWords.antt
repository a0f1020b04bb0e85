-- The states to which walks come are those to which words of the encoding's units lead.
use Rattle.std.proofs.Common.{◌≡◌, inl, inr, ℕ, zero, suc, ◌+◌, ◌≤◌, List, [], ◌∷◌, ◌++◌, length, get_or, Option, Some, None, Contains, refl, ap, ◌∙◌, subst, arith}
use Rattle.std.proofs.Math.ListN.{get_or-eq_default}
use Rattle.std.proofs.lemmas.Bool.{cases_lt}
use Rattle.std.proofs.lemmas.List.{get_or_default}
use Rattle.lx_auto.proofs.MetStates.{met-behind}
use Rattle.lx_auto.proofs.OneEdge.{edge_on-is, is-edge_on}
use Rattle.lx_auto.proofs.States.{state_formed}
use Rattle.lx_auto.specs.Automaton.{AreApartFrom, IsAuto, state_of}
use Rattle.lx_auto.specs.Points.{IsMet, IsReached, Point, begins, goes_on}
use Rattle.lx_auto.specs.declared.automaton.Auto.{Auto}
use Rattle.lx_auto.specs.declared.automaton.Edge.{Edge}
use Rattle.lx_auto.specs.declared.automaton.State.{State}
use Rattle.lx_base.specs.Spelling.{greatest_unit}
use Rattle.lx_base.specs.declared.settings.Enc.{Enc}
use Rattle.lx_regex.specs.Kernel.{IsWord}
use Rattle.lx_regex.specs.Pattern.{Pattern, terms_of}
use Rattle.lx_regex.specs.Term.{Term}
use Rattle.lx_tdfa.proofs.LeastWords.SearchedWords.{walk-pushed}
use Rattle.lx_tdfa.specs.KernelStates.{next, target_of}
use Rattle.lx_tdfa.specs.Promise.{FitsRules}
use Rattle.lx_tdfa.specs.Searches.{and_then, walk}
use Rattle.lx_warn.specs.Graph.{edge_from}

-- ---- words

pub IsWord-push : (enc : Enc) (rules : List Term) (word : List ℕ) (unit : ℕ) → IsWord enc rules word → unit ≤ greatest_unit enc
    → IsWord enc rules (word ++ unit ∷ [])
IsWord-push enc rules [] unit units most = (most, tt)
IsWord-push enc rules (first ∷ word) unit units most = (units.0, IsWord-push enc rules word unit units.1 most)

pub IsWord-front : (enc : Enc) (rules : List Term) (front back : List ℕ) → IsWord enc rules (front ++ back) → IsWord enc rules front
IsWord-front enc rules [] back units = tt
IsWord-front enc rules (first ∷ front) back units = (units.0, IsWord-front enc rules front back units.1)

pub IsWord-back : (enc : Enc) (rules : List Term) (front back : List ℕ) → IsWord enc rules (front ++ back) → IsWord enc rules back
IsWord-back enc rules [] back units = units
IsWord-back enc rules (first ∷ front) back units = IsWord-back enc rules front back units.1

-- ---- edges

Contains-none : {X : Type 0} (x : X) → Contains [] x → ⊥
Contains-none x (place, within, is) = omega arith

pub edge-forwards : (low : ℕ) (edges : List Edge) (edge : Edge) → AreApartFrom low edges → Contains edges edge → edge.lo ≤ edge.hi
edge-forwards low [] edge apart has = absurd (Contains-none edge has)
edge-forwards low (first ∷ edges) edge apart (zero, within, is) = subst (λ (e : Edge). e.lo ≤ e.hi) is apart.1
edge-forwards low (first ∷ edges) edge apart (suc place, within, is) =
    edge-forwards (first.hi + 1) edges edge apart.2 (place, omega arith, is)

module _ (auto : Auto) (is : IsAuto auto) where
  -- an edge on its first unit
  pub edge-first : (state : ℕ) (edge : Edge) → Contains (state_of auto.states state).edges edge → edge_from auto state edge.lo ≡ Some edge
  edge-first state edge has =
      let formed = state_formed auto state is in
      let forwards : edge.lo ≤ edge.hi = edge-forwards 0 (state_of auto.states state).edges edge formed.apart has in
      is-edge_on (state_of auto.states state).edges edge.lo edge formed.apart (has, omega arith, forwards)

  pub next-met : (state unit to : ℕ) → IsMet auto state → next auto state unit ≡ Some to → IsMet auto to
  next-met state unit to met leads = at (edge_from auto state unit) refl leads
    where
      at : (found : Option Edge) → edge_from auto state unit ≡ found → target_of found ≡ Some to → IsMet auto to
      at None on leads = absurd (cc leads)
      at (Some edge) on leads =
          let same : edge.to ≡ to = cc leads in
          subst (IsMet auto) same (met-behind auto state edge met (edge_on-is (state_of auto.states state).edges unit edge on).0)

  walk-met : (word : List ℕ) (state last : ℕ) → IsMet auto state → walk (next auto) state word ≡ Some last → IsMet auto last
  walk-met [] state last met comes = let same : state ≡ last = cc comes in subst (IsMet auto) same met
  walk-met (unit ∷ word) state last met comes =
      at (next auto state unit) refl comes (λ between leads. walk-met word between last (next-met state unit between met leads))
    where
      at : (found : Option ℕ) → next auto state unit ≡ found → and_then found (λ between. walk (next auto) between word) ≡ Some last
          → ((between : ℕ) → next auto state unit ≡ Some between → walk (next auto) between word ≡ Some last → IsMet auto last) → IsMet auto last
      at None leads comes rest = absurd (cc comes)
      at (Some between) leads comes rest = rest between leads comes

  pub start-met : IsMet auto 0
  start-met = (None, begins)

  pub word-met : (word : List ℕ) (state : ℕ) → walk (next auto) 0 word ≡ Some state → IsMet auto state
  word-met word state comes = walk-met word 0 state start-met comes

  -- a word that leads back to the start has an edge to it at its end
  returns-from : (word : List ℕ) (unit state : ℕ) → IsMet auto state → walk (next auto) state (unit ∷ word) ≡ Some 0
      → (from : ℕ) × (edge : Edge) × IsMet auto from × Contains (state_of auto.states from).edges edge × (edge.to ≡ 0)
  returns-from [] unit state met comes = at (edge_from auto state unit) refl comes
    where
      at : (found : Option Edge) → edge_from auto state unit ≡ found → and_then (target_of found) (λ to. Some to) ≡ Some 0
          → (from : ℕ) × (edge : Edge) × IsMet auto from × Contains (state_of auto.states from).edges edge × (edge.to ≡ 0)
      at None on comes = absurd (cc comes)
      at (Some edge) on comes =
          (state, edge, met, (edge_on-is (state_of auto.states state).edges unit edge on).0, let same : edge.to ≡ 0 = cc comes in same)
  returns-from (second ∷ word) unit state met comes =
      at (next auto state unit) refl comes (λ between leads. returns-from word second between (next-met state unit between met leads))
    where
      at : (found : Option ℕ) → next auto state unit ≡ found → and_then found (λ between. walk (next auto) between (second ∷ word)) ≡ Some 0
          → ((between : ℕ) → next auto state unit ≡ Some between → walk (next auto) between (second ∷ word) ≡ Some 0
          → (from : ℕ) × (edge : Edge) × IsMet auto from × Contains (state_of auto.states from).edges edge × (edge.to ≡ 0))
          → (from : ℕ) × (edge : Edge) × IsMet auto from × Contains (state_of auto.states from).edges edge × (edge.to ≡ 0)
      at None leads comes rest = absurd (cc comes)
      at (Some between) leads comes rest = rest between leads comes

  pub word-returns : (word : List ℕ) (unit : ℕ) → walk (next auto) 0 (unit ∷ word) ≡ Some 0
      → (from : ℕ) × (edge : Edge) × IsMet auto from × Contains (state_of auto.states from).edges edge × (edge.to ≡ 0)
  word-returns word unit comes = returns-from word unit 0 start-met comes

-- ---- units of the encoding

module _ (enc : Enc) (patterns : List Pattern) (auto : Auto) (fits : FitsRules enc patterns auto) where
  pub edge-units : (state : ℕ) (edge : Edge) → Contains (state_of auto.states state).edges edge → edge.hi ≤ greatest_unit enc
  edge-units state edge has = elim (cases_lt state (length auto.states)) [
    | inl lt ↦
        let each = fits.units state (record { edges = []; accept = None; leave = [] }) lt has.0 edge has.1 in
        subst (λ (e : Edge). e.hi ≤ greatest_unit enc)
        (get_or_default (state_of auto.states state).edges has.0 edge edge has.1 ∙ at-place (state_of auto.states state).edges has) each
    | inr ge ↦
        absurd (Contains-none edge
        (subst (λ (s : State). Contains s.edges edge) (get_or-eq_default auto.states (record { edges = []; accept = None; leave = [] }) ge) has))
  ]
    where
      at-place : (edges : List Edge) (within : Contains edges edge) → get_or edges within.0 edge ≡ edge
      at-place edges within = within.2

  -- to each state to which walks come a word leads
  reached-word : (point : Point) → IsReached auto point
      → (word : List ℕ) × IsWord enc (terms_of patterns) word × (walk (next auto) 0 word ≡ Some point.state)
  reached-word _ begins = ([], tt, refl)
  reached-word _ (goes_on point edge reached has) = by (reached-word point reached)
    where
      by : (word : List ℕ) × IsWord enc (terms_of patterns) word × (walk (next auto) 0 word ≡ Some point.state)
          → (word : List ℕ) × IsWord enc (terms_of patterns) word × (walk (next auto) 0 word ≡ Some edge.to)
      by (word, units, comes) =
          let forwards : edge.lo ≤ edge.hi =
          edge-forwards 0 (state_of auto.states point.state).edges edge (state_formed auto point.state fits.formed).apart has in
          let most : edge.hi ≤ greatest_unit enc = edge-units point.state edge has in (
            word ++ edge.lo ∷ [],
            IsWord-push enc (terms_of patterns) word edge.lo units (omega arith),
            walk-pushed (next auto) 0 word edge.lo point.state edge.to comes (ap target_of (edge-first auto fits.formed point.state edge has)),
          )

  pub met-word : (state : ℕ) → IsMet auto state
      → (word : List ℕ) × IsWord enc (terms_of patterns) word × (walk (next auto) 0 word ≡ Some state)
  met-word state (left, reached) = reached-word (record { state = state; left = left }) reached

  -- the same for one more edge
  pub met-push : (state : ℕ) (edge : Edge) → IsMet auto state → Contains (state_of auto.states state).edges edge
      → (word : List ℕ) × (unit : ℕ) × IsWord enc (terms_of patterns) (word ++ unit ∷ []) × (walk (next auto) 0 (word ++ unit ∷ []) ≡ Some edge.to)
  met-push state edge met has = by (met-word state met)
    where
      by : (word : List ℕ) × IsWord enc (terms_of patterns) word × (walk (next auto) 0 word ≡ Some state)
          → (word : List ℕ) × (unit : ℕ) × IsWord enc (terms_of patterns) (word ++ unit ∷ [])
          × (walk (next auto) 0 (word ++ unit ∷ []) ≡ Some edge.to)
      by (word, units, comes) =
          let forwards : edge.lo ≤ edge.hi =
          edge-forwards 0 (state_of auto.states state).edges edge (state_formed auto state fits.formed).apart has in
          let most : edge.hi ≤ greatest_unit enc = edge-units state edge has in (
            word,
            edge.lo,
            IsWord-push enc (terms_of patterns) word edge.lo units (omega arith),
            walk-pushed (next auto) 0 word edge.lo state edge.to comes (ap target_of (edge-first auto fits.formed state edge has)),
          )
