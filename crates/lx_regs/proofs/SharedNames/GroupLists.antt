-- How the lists of groups grow, and what an automaton's groups are.
use Rattle.std.proofs.Common.{◌≡◌, ℕ, zero, suc, ◌+◌, ◌-◌, ◌<◌, ◌≤◌, ◌⊎◌, inl, inr, arith, Bool, true, false, List, [], ◌∷◌, ◌++◌, length, get_or, map, Option, Some, None, Vec, slice_get, refl, sym, ap, ◌∙◌, subst, append-nil, if◌then◌else◌}
use Rattle.std.specs.Cmp.Lexicographic.{pointwise}
use Rattle.std.specs.List.{list_any}
use Rattle.std.specs.Prelude.{◌≢◌}
use Rattle.std.proofs.lemmas.Bool.{cases_lt}
use Rattle.std.proofs.lemmas.List.{get_or_append_left, get_or_past, get_or_push, map-append, length-append}
use Rattle.lx_auto.specs.declared.automaton.Accept.{Accept}
use Rattle.lx_auto.specs.declared.automaton.Auto.{Auto}
use Rattle.lx_auto.specs.declared.automaton.State.{State}
use Rattle.lx_auto.specs.Automaton.{state_of}
use Rattle.lx_auto.specs.Points.{values_of}
use Rattle.lx_regs.specs.contracts.keys.KeyPartialEq.TheImpl.{eq-value}
use Rattle.lx_regs.specs.declared.keys.Key.{Key}
use Rattle.lx_regs.specs.Keys.{held_of}
use Rattle.lx_regs.specs.LeftGroups.{AreGroups, FitsGroup, Widens, keys_in, lists_of, values_in}
use Rattle.lx_regs.proofs.SharedNames.KeyTests.{Decides-lists}

-- ---- the lists of a set

module _ {A : Type 0} where
  get_or-lists_of : (lists : List (Vec Key A)) (place : ℕ) (list : Vec Key A) → slice_get lists place ≡ Some list
      → (place < length (lists_of lists)) × (get_or (lists_of lists) place [] ≡ list.items)
  get_or-lists_of [] place list is = absurd (cc is)
  get_or-lists_of (first ∷ lists) zero list is = (omega arith, let same : first ≡ list = cc is in ap (λ (l : Vec Key A). l.items) same)
  get_or-lists_of (first ∷ lists) (suc place) list is = let rest = get_or-lists_of lists place list is in (omega (arith, rest.0), rest.1)

  pub keys_in-Some : (lists : List (Vec Key A)) (group : ℕ) (list : Vec Key A) → group ≢ 0 → slice_get lists (group - 1) ≡ Some list
      → keys_in (lists_of lists) group ≡ list.items
  keys_in-Some lists zero list some is = absurd (some refl)
  keys_in-Some lists (suc group) list some is =
      (get_or-lists_of lists group list (let e : suc group - 1 ≡ group = omega arith in subst (λ p. slice_get lists p ≡ Some list) e is)).1

  -- a list that was put into the set, or stood there, is that of a group
  pub fits-stored : (lists : List (Vec Key A)) (accept : Accept) (keys : Vec Key A) (place : ℕ)
      → map held_of keys.items ≡ accept.values
      → (stored : Vec Key A) × (slice_get lists place ≡ Some stored) × (pointwise eq-value.it keys.items stored.items ≡ true)
      → FitsGroup (lists_of lists) (Some accept) (place + 1)
  fits-stored lists accept keys place values (stored, is, same) =
      let at = get_or-lists_of lists place stored is in (
        (λ e. absurd (omega (arith, e))),
        omega (arith, at.0),
        subst (λ group. values_in (lists_of lists) group ≡ accept.values) (let e : suc place ≡ place + 1 = omega arith in e)
            (ap (map held_of) (at.1 ∙ sym ((Decides-lists keys.items stored.items).0 same)) ∙ values),
      )

  pub widens-insert : (old new : List (Vec Key A)) (keys : Vec Key A)
      → new ≡ (if list_any (λ (other : Vec Key A). pointwise eq-value.it keys.items other.items) old then old else old ++ keys ∷ [])
      → Widens (lists_of old) (lists_of new)
  widens-insert old new keys is = at (list_any (λ (other : Vec Key A). pointwise eq-value.it keys.items other.items) old) is
    where
      at : (b : Bool) → new ≡ (if b then old else old ++ keys ∷ []) → Widens (lists_of old) (lists_of new)
      at true is = ([], ap lists_of is ∙ sym (append-nil (lists_of old)))
      at false is = (keys.items ∷ [], ap lists_of is ∙ map-append (λ (list : Vec Key A). list.items) old (keys ∷ []))

-- ---- the groups of states

pub fits-wider : (old new : List (List Key)) (accept : Option Accept) (group : ℕ) → Widens old new → FitsGroup old accept group
    → FitsGroup new accept group
fits-wider old new None group wider fits = fits
fits-wider old new (Some accept) zero wider fits = absurd (fits.0 refl)
fits-wider old new (Some accept) (suc group) (rest, is) (some, within, values) = (
  some,
  (let e = ap length is in omega (arith, e, within, length-append old rest)),
  ap (λ lists. map held_of (get_or lists group [])) is ∙ ap (map held_of) (get_or_append_left old rest [] group (omega arith)) ∙ values,
)

module _ (auto : Auto) (numbers : List ℕ) (lists : List (List Key)) (fit : length numbers ≡ length auto.states)
    (fits : (state : ℕ) → state < length auto.states → FitsGroup lists (state_of auto.states state).accept (get_or numbers state 0)) where
  values-fit : (accept : Option Accept) (group : ℕ) → FitsGroup lists accept group → values_of accept ≡ values_in lists group
  values-fit None group fits = sym (ap (values_in lists) fits)
  values-fit (Some accept) group fits = sym fits.2

  none-fits : (accept : Option Accept) (group : ℕ) → FitsGroup lists accept group → accept ≡ None → group ≡ 0
  none-fits None group fits none = fits
  none-fits (Some accept) group fits none = absurd (cc none)

  fits-none : (accept : Option Accept) (group : ℕ) → FitsGroup lists accept group → group ≡ 0 → accept ≡ None
  fits-none None group fits none = refl
  fits-none (Some accept) group fits none = absurd (fits.0 none)

  fits-all : (state : ℕ) → FitsGroup lists (state_of auto.states state).accept (get_or numbers state 0)
  fits-all state = at (cases_lt state (length auto.states))
    where
      at : (state < length auto.states) ⊎ (length auto.states ≤ state)
          → FitsGroup lists (state_of auto.states state).accept (get_or numbers state 0)
      at (inl within) = fits state within
      at (inr past) =
          subst (λ group. FitsGroup lists (state_of auto.states state).accept group)
          (sym (get_or_past numbers state 0 (omega (arith, fit, past))))
          (subst (λ (s : State). FitsGroup lists s.accept 0)
          (sym (get_or_past auto.states state (record { edges = []; accept = None; leave = [] }) past)) refl)

  pub groups-fit : AreGroups auto numbers lists
  groups-fit = record {
    fit = fit;
    values = λ state. values-fit (state_of auto.states state).accept (get_or numbers state 0) (fits-all state);
    none = λ state. none-fits (state_of auto.states state).accept (get_or numbers state 0) (fits-all state);
    some = λ state. fits-none (state_of auto.states state).accept (get_or numbers state 0) (fits-all state);
  }

-- one state more has its group
pub fits-more : (auto : Auto) (numbers : List ℕ) (old new : List (List Key)) (place group : ℕ) → length numbers ≡ place → Widens old new
    → ((state : ℕ) → state < place → FitsGroup old (state_of auto.states state).accept (get_or numbers state 0))
    → FitsGroup new (state_of auto.states place).accept group
    → (state : ℕ) → state < place + 1 → FitsGroup new (state_of auto.states state).accept (get_or (numbers ++ group ∷ []) state 0)
fits-more auto numbers old new place group count wider fits one state lt = at (cases_lt state place)
  where
    at : (state < place) ⊎ (place ≤ state) → FitsGroup new (state_of auto.states state).accept (get_or (numbers ++ group ∷ []) state 0)
    at (inl within) =
        subst (λ number. FitsGroup new (state_of auto.states state).accept number)
        (sym (get_or_append_left numbers (group ∷ []) 0 state (omega (arith, count, within))))
        (fits-wider old new (state_of auto.states state).accept (get_or numbers state 0) wider (fits state within))
    at (inr past) =
        let here : state ≡ place = omega arith in
        subst (λ number. FitsGroup new (state_of auto.states state).accept number)
        (sym (get_or_push numbers group 0 state (omega (arith, count, here))))
        (subst (λ s. FitsGroup new (state_of auto.states s).accept group) (sym here) one)
