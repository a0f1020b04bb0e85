-- What depends on the numbers of rules alone, where each of them is greater by so much: the places of rules, and the accepts of states.
use Rattle.std.specs.Prelude.{◌≡◌, ℕ, zero, suc, ◌+◌, Bool, true, false, ◌&&◌, ◌||◌, List, [], ◌∷◌, ◌++◌, map, Option, Some, None, option_map, is_some, nat_eq, refl, if◌then◌else◌, nat_lt}
use Rattle.std.proofs.Common.{sym, ap, ap₂, ◌∙◌, arith, eq-eqb, ne_eqb, eqb-true}
use Rattle.std.proofs.lemmas.Bool.{eqb-false}
use Rattle.std.proofs.lemmas.List.{map-append, length-map}
use Rattle.std.specs.List.{list_any}
use Rattle.lx_auto.specs.Automaton.{state_of}
use Rattle.lx_auto.specs.declared.automaton.Accept.{Accept}
use Rattle.lx_auto.specs.declared.automaton.State.{State}
use Rattle.lx_layout.specs.Halting.{Halting, any_falls, ended_accept, ended_accepts, firsts_from, halted_accept, is_saved, saved_accept, saved_accepts, keeps_numbers, kept_number}
use Rattle.lx_layout.specs.Layout.{choices_from, has_rule, rule_place, saved_number, with_accept}
use Rattle.lx_renumber.specs.Renumbered.{renumbered_accept, renumbered_state}
use Rattle.lx_base.specs.declared.settings.Format.{Format}
use Rattle.lx_base.specs.declared.settings.Format.TheVariants.{Three, Two}

module _ (by : ℕ) where
  -- greater numbers are equal just where the numbers are
  nat_eq-renumbered : (rule other : ℕ) → nat_eq (rule + by) (other + by) ≡ nat_eq rule other
  nat_eq-renumbered rule other = on (nat_eq rule other) refl
    where
      on : (t : Bool) → nat_eq rule other ≡ t → nat_eq (rule + by) (other + by) ≡ t
      on true e = eq-eqb (rule + by) (other + by) (ap (λ n. n + by) (eqb-true rule other e))
      on false e = ne_eqb (rule + by) (other + by) (λ same. eqb-false rule other e (omega (arith, same)))

  abbrev pub all : List Accept → List Accept
  all accepts = map (renumbered_accept by) accepts

  abbrev pub each : Option Accept → Option Accept
  each accept = option_map (renumbered_accept by) accept

  -- ---- the places of rules

  pub rule_place-renumbered : (accepts : List Accept) (rule : ℕ) → rule_place (all accepts) (rule + by) ≡ rule_place accepts rule
  rule_place-renumbered [] rule = refl
  rule_place-renumbered (accept ∷ accepts) rule =
      ap₂ (λ t place. if t then 0 else suc place) (nat_eq-renumbered rule accept.rule) (rule_place-renumbered accepts rule)

  has_rule-renumbered : (accepts : List Accept) (rule : ℕ) → has_rule (all accepts) (rule + by) ≡ has_rule accepts rule
  has_rule-renumbered [] rule = refl
  has_rule-renumbered (accept ∷ accepts) rule =
      ap₂ (λ t has. if t then true else has) (nat_eq-renumbered rule accept.rule) (has_rule-renumbered accepts rule)

  with_accept-renumbered : (found : List Accept) (accept : Option Accept)
      → with_accept (all found) (each accept) ≡ all (with_accept found accept)
  with_accept-renumbered found None = refl
  with_accept-renumbered found (Some accept) =
      ap (λ t. if t then all found else all found ++ renumbered_accept by accept ∷ []) (has_rule-renumbered found accept.rule)
      ∙ on (has_rule found accept.rule)
    where
      on : (t : Bool) → (if t then all found else all found ++ renumbered_accept by accept ∷ [])
          ≡ all (if t then found else found ++ accept ∷ [])
      on true = refl
      on false = sym (map-append (renumbered_accept by) found (accept ∷ []))

  pub saved_number-renumbered : (accepts : List Accept) (accept : Option Accept)
      → saved_number (all accepts) (each accept) ≡ saved_number accepts accept
  saved_number-renumbered accepts None = refl
  saved_number-renumbered accepts (Some accept) = ap suc (rule_place-renumbered accepts accept.rule)

  keeps_numbers-renumbered : (halting : Halting) (format : Format) (accepts : List Accept)
      → keeps_numbers halting format (all accepts) ≡ keeps_numbers halting format accepts
  keeps_numbers-renumbered halting Two accepts = refl
  keeps_numbers-renumbered halting Three accepts =
      ap (λ n. halting.falls 0 || nat_lt 1 n) (length-map accepts (renumbered_accept by))

  pub kept_number-renumbered : (halting : Halting) (accepts : List Accept) (accept : Option Accept)
      → kept_number halting (all accepts) (each accept) ≡ kept_number halting accepts accept
  kept_number-renumbered halting accepts accept =
      ap₂ (λ t number. if t then Some number else None) (keeps_numbers-renumbered halting halting.format accepts)
      (saved_number-renumbered accepts accept)

  pub choices_from-renumbered : (saved block : ℕ) (accepts : List Accept)
      → choices_from saved block (all accepts) ≡ choices_from saved block accepts
  choices_from-renumbered saved block [] = refl
  choices_from-renumbered saved block (accept ∷ accepts) =
      ap (λ choices. record { saved = saved; block = block } ∷ choices) (choices_from-renumbered (suc saved) (suc block) accepts)

  -- ---- states

  pub state_of-renumbered : (states : List State) (number : ℕ)
      → state_of (map (renumbered_state by) states) number ≡ renumbered_state by (state_of states number)
  state_of-renumbered [] number = refl
  state_of-renumbered (given ∷ states) zero = refl
  state_of-renumbered (given ∷ states) (suc number) = state_of-renumbered states number

  pub is_some-renumbered : (accept : Option Accept) → is_some (each accept) ≡ is_some accept
  is_some-renumbered None = refl
  is_some-renumbered (Some accept) = refl

  kept-renumbered : (t : Bool) (accept : Option Accept) → (if t then each accept else None) ≡ each (if t then accept else None)
  kept-renumbered true accept = refl
  kept-renumbered false accept = refl

  module _ (halting : Halting) where
    pub is_saved-renumbered : (given : State) → is_saved halting (renumbered_state by given) ≡ is_saved halting given
    is_saved-renumbered given =
        ap (λ t. list_any (λ edge. t && halting.falls edge.to) given.edges) (is_some-renumbered given.accept)

    pub halted-renumbered : (number : ℕ) (given : State)
        → halted_accept halting number (renumbered_state by given) ≡ each (halted_accept halting number given)
    halted-renumbered number given = kept-renumbered (halting.halts number) given.accept

    saved_accept-renumbered : (number : ℕ) (given : State)
        → saved_accept halting number (renumbered_state by given) ≡ each (saved_accept halting number given)
    saved_accept-renumbered number given =
        ap (λ t. if t then each given.accept else None) (is_saved-renumbered given) ∙ kept-renumbered (is_saved halting given) given.accept

    ended_accept-renumbered : (number : ℕ) (given : State)
        → ended_accept halting number (renumbered_state by given) ≡ each (ended_accept halting number given)
    ended_accept-renumbered number given =
        ap (λ t. if halting.halts number || t then each given.accept else None) (is_saved-renumbered given)
        ∙ kept-renumbered (halting.halts number || is_saved halting given) given.accept

    firsts_from-renumbered : (choose : ℕ → State → Option Accept)
        → ((number : ℕ) (given : State) → choose number (renumbered_state by given) ≡ each (choose number given))
        → (found : List Accept) (number : ℕ) (states : List State)
        → firsts_from halting choose (all found) number (map (renumbered_state by) states)
        ≡ all (firsts_from halting choose found number states)
    firsts_from-renumbered choose same found number [] = refl
    firsts_from-renumbered choose same found number (given ∷ states) =
        ap (λ list. firsts_from halting choose list (suc number) (map (renumbered_state by) states))
        (ap (λ accept. with_accept (all found) accept) (same number given) ∙ with_accept-renumbered found (choose number given))
        ∙ firsts_from-renumbered choose same (with_accept found (choose number given)) (suc number) states

    pub ended_accepts-renumbered : (states : List State)
        → ended_accepts halting (map (renumbered_state by) states) ≡ all (ended_accepts halting states)
    ended_accepts-renumbered states = firsts_from-renumbered (ended_accept halting) ended_accept-renumbered [] 0 states

    pub saved_accepts-renumbered : (states : List State)
        → saved_accepts halting (map (renumbered_state by) states) ≡ all (saved_accepts halting states)
    saved_accepts-renumbered states = firsts_from-renumbered (saved_accept halting) saved_accept-renumbered [] 0 states

    pub any_falls-renumbered : (number : ℕ) (states : List State)
        → any_falls halting number (map (renumbered_state by) states) ≡ any_falls halting number states
    any_falls-renumbered number [] = refl
    any_falls-renumbered number (given ∷ states) = ap (λ t. halting.falls number || t) (any_falls-renumbered (suc number) states)
