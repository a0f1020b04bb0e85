-- Of what is chosen of states the first accept of each rule: what holds of each, how many there are, and where a rule stands.
use Rattle.std.specs.Prelude.{◌≡◌, ◌≢◌, ℕ, suc, ◌<◌, ◌≤◌, List, [], ◌∷◌, ◌++◌, length, Option, Some, None, Bool, true, false, nat_eq, refl, if◌then◌else◌}
use Rattle.std.proofs.Common.{sym, ap, ◌∙◌, arith, eq-eqb, true≢false}
use Rattle.std.specs.List.{AllByRecursion}
use Rattle.lx_auto.specs.declared.automaton.Accept.{Accept}
use Rattle.lx_layout.specs.Layout.{has_rule, rule_place, with_accept}
use Rattle.lx_layout.proofs.Validity.EachElement.{each-append}

-- ---- what holds of each

module _ (P : Accept → Type 0) where
  abbrev pub Chosen : Option Accept → Type 0
  Chosen None = Unit {0}
  Chosen (Some accept) = P accept

  pub each-with_accept : (found : List Accept) (o : Option Accept) → AllByRecursion P found → Chosen o → AllByRecursion P (with_accept found o)
  each-with_accept found None h is = h
  each-with_accept found (Some accept) h is = by (has_rule found accept.rule)
    where
      by : (t : Bool) → AllByRecursion P (if t then found else found ++ accept ∷ [])
      by true = h
      by false = each-append P found (accept ∷ []) h (is, tt)

-- ---- where a rule stands

pub rule_place-within : (accepts : List Accept) (rule : ℕ) → rule_place accepts rule ≤ length accepts
rule_place-within [] rule = omega arith
rule_place-within (accept ∷ accepts) rule = by (nat_eq rule accept.rule) (rule_place-within accepts rule)
  where
    by : (t : Bool) → rule_place accepts rule ≤ length accepts → (if t then 0 else suc (rule_place accepts rule)) ≤ suc (length accepts)
    by true le = omega arith
    by false le = omega (arith, le)

pub rule_place-below : (accepts : List Accept) (rule : ℕ) → has_rule accepts rule ≡ true → rule_place accepts rule < length accepts
rule_place-below [] rule has = absurd (true≢false (sym has))
rule_place-below (accept ∷ accepts) rule has = by (nat_eq rule accept.rule) has (λ h. rule_place-below accepts rule h)
  where
    by : (t : Bool) → (if t then true else has_rule accepts rule) ≡ true
        → (has_rule accepts rule ≡ true → rule_place accepts rule < length accepts)
        → (if t then 0 else suc (rule_place accepts rule)) < suc (length accepts)
    by true has again = omega arith
    by false has again = let lt = again has in omega (arith, lt)

-- ---- each rule that is chosen stands there

has_rule-append : (accepts more : List Accept) (rule : ℕ) → has_rule accepts rule ≡ true → has_rule (accepts ++ more) rule ≡ true
has_rule-append [] more rule has = absurd (true≢false (sym has))
has_rule-append (accept ∷ accepts) more rule has = by (nat_eq rule accept.rule) has (λ h. has_rule-append accepts more rule h)
  where
    by : (t : Bool) → (if t then true else has_rule accepts rule) ≡ true → (has_rule accepts rule ≡ true → has_rule (accepts ++ more) rule ≡ true)
        → (if t then true else has_rule (accepts ++ more) rule) ≡ true
    by true has again = refl
    by false has again = again has

has_rule-last : (accepts : List Accept) (accept : Accept) → has_rule (accepts ++ accept ∷ []) accept.rule ≡ true
has_rule-last [] accept = ap (λ t. if t then true else false) (eq-eqb accept.rule accept.rule refl)
has_rule-last (other ∷ accepts) accept = by (nat_eq accept.rule other.rule) (has_rule-last accepts accept)
  where
    by : (t : Bool) → has_rule (accepts ++ accept ∷ []) accept.rule ≡ true
        → (if t then true else has_rule (accepts ++ accept ∷ []) accept.rule) ≡ true
    by true has = refl
    by false has = has

pub has_rule-with_accept : (found : List Accept) (o : Option Accept) (rule : ℕ) → has_rule found rule ≡ true → has_rule (with_accept found o) rule ≡ true
has_rule-with_accept found None rule has = has
has_rule-with_accept found (Some accept) rule has = by (has_rule found accept.rule)
  where
    by : (t : Bool) → has_rule (if t then found else found ++ accept ∷ []) rule ≡ true
    by true = has
    by false = has_rule-append found (accept ∷ []) rule has

pub has_rule-own : (found : List Accept) (accept : Accept) → has_rule (with_accept found (Some accept)) accept.rule ≡ true
has_rule-own found accept = by (has_rule found accept.rule) refl
  where
    by : (t : Bool) → has_rule found accept.rule ≡ t → has_rule (if t then found else found ++ accept ∷ []) accept.rule ≡ true
    by true has = has
    by false has = has_rule-last found accept

-- ---- each rule stands there once

abbrev pub NoneByRule : ℕ → List Accept → Type 0
NoneByRule rule [] = Unit {0}
NoneByRule rule (accept ∷ accepts) = (rule ≢ accept.rule) × NoneByRule rule accepts

abbrev pub HaveOwnRules : List Accept → Type 0
HaveOwnRules [] = Unit {0}
HaveOwnRules (accept ∷ accepts) = NoneByRule accept.rule accepts × HaveOwnRules accepts

NoneByRule-last : (rule : ℕ) (accepts : List Accept) (accept : Accept) → NoneByRule rule accepts → rule ≢ accept.rule
    → NoneByRule rule (accepts ++ accept ∷ [])
NoneByRule-last rule [] accept h ne = (ne, tt)
NoneByRule-last rule (other ∷ accepts) accept h ne = (h.0, NoneByRule-last rule accepts accept h.1 ne)

HaveOwnRules-last : (accepts : List Accept) (accept : Accept) → HaveOwnRules accepts → has_rule accepts accept.rule ≡ false
    → HaveOwnRules (accepts ++ accept ∷ [])
HaveOwnRules-last [] accept h out = (tt, tt)
HaveOwnRules-last (other ∷ accepts) accept h out =
    by (nat_eq accept.rule other.rule) refl out (λ e. HaveOwnRules-last accepts accept h.1 e)
  where
    by : (t : Bool) → nat_eq accept.rule other.rule ≡ t → (if t then true else has_rule accepts accept.rule) ≡ false
        → (has_rule accepts accept.rule ≡ false → HaveOwnRules (accepts ++ accept ∷ []))
        → NoneByRule other.rule (accepts ++ accept ∷ []) × HaveOwnRules (accepts ++ accept ∷ [])
    by true e out again = absurd (true≢false out)
    by false e out again =
        let ne : other.rule ≢ accept.rule = λ z. true≢false (sym (eq-eqb accept.rule other.rule (sym z)) ∙ e) in
        (NoneByRule-last other.rule accepts accept h.0 ne, again out)

pub HaveOwnRules-with_accept : (found : List Accept) (o : Option Accept) → HaveOwnRules found → HaveOwnRules (with_accept found o)
HaveOwnRules-with_accept found None h = h
HaveOwnRules-with_accept found (Some accept) h = by (has_rule found accept.rule) refl
  where
    by : (t : Bool) → has_rule found accept.rule ≡ t → HaveOwnRules (if t then found else found ++ accept ∷ [])
    by true e = h
    by false e = HaveOwnRules-last found accept h e
