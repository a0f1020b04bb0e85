-- Rules with different numbers: each is the first one with its number.
use Rattle.std.proofs.Common.{◌≡◌, ◌≢◌, ℕ, zero, suc, ◌<◌, arith, Bool, List, [], ◌∷◌, map, length, get_or, Some, refl, sym, ap, ◌∙◌, subst, eq-eqb}
use Rattle.std.proofs.lemmas.Bool.{ne_eqb}
use Rattle.std.specs.Prelude.{nat_eq, if◌then◌else◌}
use Rattle.lx_regex.specs.Limits.{HaveDifferentNumbers, NoneHasNumber}
use Rattle.lx_regex.specs.Pattern.{Pattern, patterns_of, sorts_of}
use Rattle.lx_regex.specs.declared.rules.Rule.{Rule}
use Rattle.lx_tnfa.specs.Making.{seen_tags}
use Rattle.lx_tnfa.specs.RuleNumbers.{HaveApartNumbers, NoneIsNumbered}
use Rattle.lx_tnfa.specs.Tnfa.{kinds_for}
use Rattle.lx_tnfa.specs.declared.tnfa.RuleTags.{RuleTags}

abbrev kept_of : List Pattern → List (ℕ × List Bool)
kept_of patterns = map (λ (pattern : Pattern). (pattern.number, sorts_of pattern)) patterns

none_numbered : (number : ℕ) (rules : List Rule) → NoneHasNumber number rules → NoneIsNumbered number (kept_of (patterns_of rules))
none_numbered number [] none = tt
none_numbered number (rule ∷ rules) none = (none.0, none_numbered number rules none.1)

pub numbers_apart : (rules : List Rule) → HaveDifferentNumbers rules
    → HaveApartNumbers (map (λ (pattern : Pattern). (pattern.number, sorts_of pattern)) (patterns_of rules))
numbers_apart [] differ = tt
numbers_apart (rule ∷ rules) differ = (none_numbered rule.number rules differ.0, numbers_apart rules differ.1)

other_number : (number : ℕ) (rules : List RuleTags) (index : ℕ) (rule : RuleTags) → NoneIsNumbered number (seen_tags rules) → index < length rules
    → rule ≡ get_or rules index rule → number ≢ rule.number
other_number number [] index rule none lt is = absurd (omega arith)
other_number number (first ∷ rules) zero rule none lt is = λ same. none.0 (ap (λ (r : RuleTags). r.number) (sym is) ∙ sym same)
other_number number (first ∷ rules) (suc index) rule none lt is = other_number number rules index rule none.1 (omega arith) is

-- the kinds of a rule's tags are found by its number
pub kinds_for-own : (rules : List RuleTags) (index : ℕ) (rule : RuleTags) → HaveApartNumbers (seen_tags rules) → index < length rules
    → rule ≡ get_or rules index rule → kinds_for (seen_tags rules) rule.number ≡ Some rule.many.items
kinds_for-own [] index rule apart lt is = absurd (omega arith)
kinds_for-own (first ∷ rules) zero rule apart lt is =
    subst
    (λ (r : RuleTags). (if nat_eq first.number r.number then Some first.many.items else kinds_for (seen_tags rules) r.number) ≡ Some r.many.items) (sym is)
    (ap (λ b. if b then Some first.many.items else kinds_for (seen_tags rules) first.number) (eq-eqb first.number first.number refl))
kinds_for-own (first ∷ rules) (suc index) rule apart lt is =
    ap (λ b. if b then Some first.many.items else kinds_for (seen_tags rules) rule.number)
    (ne_eqb first.number rule.number (other_number first.number rules index rule apart.0 (omega arith) is))
    ∙ kinds_for-own rules index rule apart.1 (omega arith) is
