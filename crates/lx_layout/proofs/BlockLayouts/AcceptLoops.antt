-- The rules by which states accept, state by state.
use Rattle.std.specs.Prelude.{◌≡◌, ℕ, suc, ◌+◌, ◌≤◌, List, [], ◌∷◌, ◌++◌, length, Option, Some, None, Bool, true, false, is_some, nat_eq, option_map, refl, unwrap_or, if◌then◌else◌}
use Rattle.std.proofs.Common.{sym, ap, ◌∙◌, arith, length-append}
use Rattle.std.specs.List.{AllByRecursion}
use Rattle.lx_auto.specs.declared.automaton.Accept.{Accept}
use Rattle.lx_layout.specs.Layout.{has_rule, rule_place, with_accept}
use Rattle.lx_layout.specs.Plans.{rule_index}

pub rule_place-le : (accepts : List Accept) (rule : ℕ) → rule_place accepts rule ≤ length accepts
rule_place-le [] rule = omega arith
rule_place-le (accept ∷ accepts) rule = by (nat_eq rule accept.rule) (rule_place-le accepts rule)
  where
    by : (t : Bool) → rule_place accepts rule ≤ length accepts → (if t then 0 else suc (rule_place accepts rule)) ≤ suc (length accepts)
    by true le = omega arith
    by false le = omega (arith, le)

-- ---- the table of rules

rule_place-index : (accepts : List Accept) (rule : ℕ) → rule_place accepts rule ≡ unwrap_or (rule_index accepts rule) (length accepts)
rule_place-index [] rule = refl
rule_place-index (accept ∷ accepts) rule = by (nat_eq rule accept.rule) (rule_index accepts rule) (rule_place-index accepts rule)
  where
    by : (t : Bool) (found : Option ℕ) → rule_place accepts rule ≡ unwrap_or found (length accepts)
        → (if t then 0 else suc (rule_place accepts rule)) ≡ unwrap_or (if t then Some 0 else option_map suc found) (suc (length accepts))
    by true found e = refl
    by false None e = ap suc e
    by false (Some place) e = ap suc e

has_rule-index : (accepts : List Accept) (rule : ℕ) → has_rule accepts rule ≡ is_some (rule_index accepts rule)
has_rule-index [] rule = refl
has_rule-index (accept ∷ accepts) rule = by (nat_eq rule accept.rule) (rule_index accepts rule) (has_rule-index accepts rule)
  where
    by : (t : Bool) (found : Option ℕ) → has_rule accepts rule ≡ is_some found
        → (if t then true else has_rule accepts rule) ≡ is_some (if t then Some 0 else option_map suc found)
    by true found e = refl
    by false None e = e
    by false (Some place) e = e

pub rule_place-some : (accepts : List Accept) (rule place : ℕ) → Some place ≡ rule_index accepts rule → place ≡ rule_place accepts rule
rule_place-some accepts rule place e =
    ap (λ o. unwrap_or o (length accepts)) e ∙ sym (rule_place-index accepts rule)

pub rule_place-none : (accepts : List Accept) (rule : ℕ) → None ≡ rule_index accepts rule → length accepts ≡ rule_place accepts rule
rule_place-none accepts rule e =
    ap (λ o. unwrap_or o (length accepts)) e ∙ sym (rule_place-index accepts rule)

pub with_accept-added : (found : List Accept) (accept : Accept) → is_some (rule_index found accept.rule) ≡ false
    → found ++ accept ∷ [] ≡ with_accept found (Some accept)
with_accept-added found accept e =
    ap (λ t. if t then found else found ++ accept ∷ []) (sym (has_rule-index found accept.rule ∙ e))

pub with_accept-saved : (found : List Accept) (accept : Accept) → is_some (rule_index found accept.rule) ≡ true
    → found ≡ with_accept found (Some accept)
with_accept-saved found accept e =
    ap (λ t. if t then found else found ++ accept ∷ []) (sym (has_rule-index found accept.rule ∙ e))

-- ---- how many there are

pub with_accept-length : (found : List Accept) (accept : Option Accept) → length (with_accept found accept) ≤ length found + 1
with_accept-length found None = omega arith
with_accept-length found (Some accept) = by (has_rule found accept.rule)
  where
    by : (t : Bool) → length (if t then found else found ++ accept ∷ []) ≤ length found + 1
    by true = omega arith
    by false = omega (arith, length-append found (accept ∷ []))

-- ---- what holds of each accept

module _ (P : Accept → Type 0) where
  abbrev pub HoldsOf : Option Accept → Type 0
  HoldsOf None = Unit {0}
  HoldsOf (Some accept) = P accept

  pub with_accept-each : (found : List Accept) (accept : Option Accept) → AllByRecursion P found → HoldsOf accept
      → AllByRecursion P (with_accept found accept)
  with_accept-each found None all one = all
  with_accept-each found (Some accept) all one = by (has_rule found accept.rule)
    where
      last : (list : List Accept) → AllByRecursion P list → AllByRecursion P (list ++ accept ∷ [])
      last [] h = (one, tt)
      last (other ∷ list) h = (h.0, last list h.1)

      by : (t : Bool) → AllByRecursion P (if t then found else found ++ accept ∷ [])
      by true = all
      by false = last found all
