-- An edge that goes on with the last one makes that longer.
use Rattle.std.proofs.Common.{◌≡◌, ℕ, ◌+◌, ◌<◌, ◌≤◌, arith, Bool, true, false, List, [], ◌∷◌, ◌++◌, Option, Some, inl, inr, append_assoc, refl, sym, ap, ap₂, ◌∙◌, subst}
use Rattle.std.proofs.lemmas.Bool.{cases_lt}
use Rattle.std.specs.Option.{option_map}
use Rattle.std.specs.Prelude.{◌⊎◌, if◌then◌else◌}
use Rattle.lx_auto.proofs.Edges.{edge_on-below, edge_on-here, edge_on-past}
use Rattle.lx_auto.specs.Automaton.{AreApart, AreApartFrom, edge_on, has_unit}
use Rattle.lx_auto.specs.declared.automaton.Edge.{Edge}
use Rattle.lx_auto.specs.declared.ops.Op.{Op}
use Rattle.lx_tdfa.specs.Edges.{AreSameEdges, EndBy, GoesOn, effect_on}

-- what the edge that was found does
abbrev effect_of : Option Edge → Option (ℕ × List Op)
effect_of found = option_map (λ (edge : Edge). (edge.to, edge.ops)) found

module _ (last next : Edge) (on : GoesOn last next) where
  -- both in one
  abbrev joined : Edge
  joined = record { lo = last.lo; hi = next.hi; ops = last.ops; to = last.to }

  joined-apart : (low : ℕ) (edges : List Edge) → AreApartFrom low (edges ++ last ∷ next ∷ []) → AreApartFrom low (edges ++ joined ∷ [])
  joined-apart low [] apart = (apart.0, omega arith, tt)
  joined-apart low (edge ∷ edges) apart = (apart.0, apart.1, joined-apart (edge.hi + 1) edges apart.2)

  joined-ends : (bound : ℕ) (edges : List Edge) → EndBy bound (edges ++ last ∷ next ∷ []) → EndBy bound (edges ++ joined ∷ [])
  joined-ends bound [] ends = (ends.1.0, tt)
  joined-ends bound (edge ∷ edges) ends = (ends.0, joined-ends bound edges ends.1)

  joined-two : (unit : ℕ) → last.lo ≤ last.hi → next.lo ≤ next.hi → effect_on (joined ∷ []) unit ≡ effect_on (last ∷ next ∷ []) unit
  joined-two unit some also = at (cases_lt unit last.lo) (cases_lt last.hi unit) (cases_lt next.hi unit)
    where
      follows : last.hi + 1 ≡ next.lo
      follows = on.units

      at : (unit < last.lo) ⊎ (last.lo ≤ unit) → (last.hi < unit) ⊎ (unit ≤ last.hi) → (next.hi < unit) ⊎ (unit ≤ next.hi)
          → effect_on (joined ∷ []) unit ≡ effect_on (last ∷ next ∷ []) unit
      at (inl below) first second =
          ap effect_of (edge_on-below joined [] unit below)
          ∙ sym (ap effect_of (edge_on-below last (next ∷ []) unit below ∙ edge_on-below next [] unit (omega (arith, follows))))
      at (inr from) (inr within) second =
          ap effect_of (edge_on-here joined [] unit from (omega (arith, follows))) ∙ sym (ap effect_of (edge_on-here last (next ∷ []) unit from within))
      at (inr from) (inl past) (inr within) =
          ap effect_of (edge_on-here joined [] unit from within)
          ∙ ap₂ (λ (to : ℕ) (ops : List Op). Some (to, ops)) on.to on.ops
          ∙ sym (ap effect_of (edge_on-past last (next ∷ []) unit past ∙ edge_on-here next [] unit (omega (arith, follows)) within))
      at (inr from) (inl past) (inl behind) =
          ap effect_of (edge_on-past joined [] unit behind)
          ∙ sym (ap effect_of (edge_on-past last (next ∷ []) unit past ∙ edge_on-past next [] unit behind))

  joined-effects : (unit low : ℕ) (edges : List Edge) → AreApartFrom low (edges ++ last ∷ next ∷ [])
      → effect_on (edges ++ joined ∷ []) unit ≡ effect_on (edges ++ last ∷ next ∷ []) unit
  joined-effects unit low [] apart = joined-two unit apart.1 apart.2.1
  joined-effects unit low (edge ∷ edges) apart = at (has_unit edge unit) (joined-effects unit (edge.hi + 1) edges apart.2)
    where
      at : (b : Bool) → effect_on (edges ++ joined ∷ []) unit ≡ effect_on (edges ++ last ∷ next ∷ []) unit
          → effect_of (if b then Some edge else edge_on (edges ++ joined ∷ []) unit) ≡ effect_of (if b then Some edge else edge_on (edges ++ last ∷ next ∷ []) unit)
      at true later = refl
      at false later = later

  joined-same : (edges : List Edge) → AreApart (edges ++ last ∷ next ∷ []) → AreSameEdges (edges ++ last ∷ next ∷ []) (edges ++ joined ∷ [])
  joined-same edges apart = record {
    apart = joined-apart 0 edges apart;
    effects = λ unit. joined-effects unit 0 edges apart;
    ends = λ bound. joined-ends bound edges;
  }

  pub push-joined : (edges front new : List Edge) → edges ≡ front ++ last ∷ [] → new ≡ front ++ joined ∷ [] → AreApart (edges ++ next ∷ [])
      → AreSameEdges (edges ++ next ∷ []) new
  push-joined edges front new parts is apart =
      let all : edges ++ next ∷ [] ≡ front ++ last ∷ next ∷ [] =
      ap (λ (edges : List Edge). edges ++ next ∷ []) parts ∙ append_assoc front (last ∷ []) (next ∷ []) in
      subst (λ (all : List Edge). AreSameEdges all new) (sym all)
      (subst (λ (new : List Edge). AreSameEdges (front ++ last ∷ next ∷ []) new) (sym is)
      (joined-same front (subst (λ (all : List Edge). AreApart all) all apart)))
