-- Rules with different numbers have their own kinds of tags, and those within the limits have few.
use Rattle.std.proofs.Common.{ap, sym, ◌∙◌, subst, arith, inl, inr, length-append, eq-eqb}
use Rattle.std.proofs.lemmas.Bool.{eqb-true}
use Rattle.std.proofs.lemmas.List.{length-map}
use Rattle.std.specs.Option.{unwrap_or}
use Rattle.std.specs.Prelude.{◌≡◌, ◌≢◌, ℕ, zero, suc, ◌+◌, ◌*◌, ◌<◌, ◌≤◌, get_or, List, [], ◌∷◌, map, length, Some, Bool, true, false, nat_eq, if◌then◌else◌, Contains, refl}
use Rattle.lx_regex.specs.Limits.{tags_of}
use Rattle.lx_regex.specs.Pattern.{Pattern, is_end, pattern_of, patterns_of, sorts_of, with_terms}
use Rattle.lx_regex.specs.Values.{group_ends}
use Rattle.lx_regex.specs.declared.rules.Rule.{Rule}
use Rattle.lx_regex.specs.declared.rules.Tag.{Tag}
use Rattle.lx_regex.proofs.PartTables.RuleParts.{length-group_ends}
use Rattle.lx_tnfa.specs.RuleNumbers.{HaveApartNumbers, NoneIsNumbered}
use Rattle.lx_tnfa.specs.Tnfa.{kinds_for}
use Rattle.lx_tdfa.specs.Registers.{widest}
use Rattle.lx_tdfa.proofs.WordKernels.OrderedLists.{IsMember}

-- what an automaton keeps of rules
abbrev pub kept_of : List Pattern → List (ℕ × List Bool)
kept_of patterns = map (λ (pattern : Pattern). (pattern.number, sorts_of pattern)) patterns

kinds_count : (rule : Rule) → length (sorts_of (pattern_of rule)) ≡ length rule.tags + 2 * rule.groups
kinds_count rule =
    let tags = length-map rule.tags (λ (tag : Tag). tag.many) in
    let groups = length-group_ends rule.groups in
    let all = length-append (map (λ (tag : Tag). tag.many) rule.tags) (group_ends rule.groups) in
    omega arith

-- no rule has more than all together and two
widest-le : (rules : List Rule) → widest (kept_of (patterns_of rules)) ≤ tags_of rules + 2
widest-le [] = omega arith
widest-le (rule ∷ rules) =
    let one = kinds_count rule in
    let rest : widest (kept_of (patterns_of rules)) ≤ tags_of rules + 2 = widest-le rules in
    omega arith

pub widest_bound : (rules : List Rule) → tags_of rules ≤ 128
    → widest (map (λ (pattern : Pattern). (pattern.number, sorts_of pattern)) (patterns_of rules)) ≤ 130
widest_bound rules few =
    let bound : widest (kept_of (patterns_of rules)) ≤ tags_of rules + 2 = widest-le rules in omega arith

-- a rule that is found by its number
none_found : (number : ℕ) (patterns : List Pattern) (pattern : Pattern) → NoneIsNumbered number (kept_of patterns) → IsMember patterns pattern
    → pattern.number ≢ number
none_found number [] pattern none member = absurd member
none_found number (first ∷ patterns) pattern none (inl e) = λ same. none.0 (ap (λ (p : Pattern). p.number) e ∙ same)
none_found number (first ∷ patterns) pattern none (inr m) = none_found number patterns pattern none.1 m

kinds_found : (patterns : List Pattern) (pattern : Pattern) → HaveApartNumbers (kept_of patterns) → IsMember patterns pattern
    → kinds_for (kept_of patterns) pattern.number ≡ Some (sorts_of pattern)
kinds_found [] pattern apart member = absurd member
kinds_found (first ∷ patterns) pattern apart (inl e) =
    subst
    (λ (p : Pattern). (if nat_eq first.number p.number then Some (sorts_of first) else kinds_for (kept_of patterns) p.number) ≡ Some (sorts_of p)) e
    (ap (λ b. if b then Some (sorts_of first) else kinds_for (kept_of patterns) first.number) (eq-eqb first.number first.number refl))
kinds_found (first ∷ patterns) pattern apart (inr m) =
    ap (λ b. if b then Some (sorts_of first) else kinds_for (kept_of patterns) pattern.number)
    (other (nat_eq first.number pattern.number) refl (none_found first.number patterns pattern apart.0 m))
    ∙ kinds_found patterns pattern apart.1 m
  where
    other : (b : Bool) → nat_eq first.number pattern.number ≡ b → pattern.number ≢ first.number → nat_eq first.number pattern.number ≡ false
    other true e ne = absurd (ne (sym (eqb-true first.number pattern.number e)))
    other false e ne = e

pub with_terms-member : (patterns : List Pattern) (pattern : Pattern) → IsMember (with_terms patterns) pattern → IsMember patterns pattern
with_terms-member [] pattern member = member
with_terms-member (first ∷ patterns) pattern member = at (is_end first.kind) member (λ m. with_terms-member patterns pattern m)
  where
    at : (b : Bool) → IsMember (if b then with_terms patterns else first ∷ with_terms patterns) pattern
        → (IsMember (with_terms patterns) pattern → IsMember patterns pattern) → IsMember (first ∷ patterns) pattern
    at true m later = inr (later m)
    at false (inl e) later = inl e
    at false (inr m) later = inr (later m)

pub contains_member : {A : Type 0} (xs : List A) (x : A) → Contains xs x → IsMember xs x
contains_member {A} xs x c = at xs c.0 c.1 c.2
  where
    at : (xs : List A) (k : ℕ) → k < length xs → get_or xs k x ≡ x → IsMember xs x
    at [] k lt e = absurd (omega arith)
    at (y ∷ xs) zero lt e = inl e
    at (y ∷ xs) (suc k) lt e = inr (at xs k (omega arith) e)

-- the kinds of the tags of a rule are those of its pattern
pub kinds_kept : (patterns : List Pattern) (rules : List (ℕ × List Bool)) (pattern : Pattern)
    → rules ≡ map (λ (pattern : Pattern). (pattern.number, sorts_of pattern)) patterns → HaveApartNumbers rules
    → Contains (with_terms patterns) pattern → unwrap_or (kinds_for rules pattern.number) [] ≡ sorts_of pattern
kinds_kept patterns rules pattern are apart has =
    ap (λ l. unwrap_or (kinds_for l pattern.number) []) are
    ∙ ap (λ o. unwrap_or o [])
    (kinds_found patterns pattern (subst HaveApartNumbers are apart)
    (with_terms-member patterns pattern (contains_member (with_terms patterns) pattern has)))
