-- A rule's own part stands at its number.
use Rattle.std.specs.Prelude.{◌≡◌, ℕ, zero, suc, ◌+◌, ◌-◌, List, [], ◌∷◌, ◌++◌, length, Some, Bool, true, false, map, slice_get, if◌then◌else◌, refl}
use Rattle.std.proofs.Common.{ap, ◌∙◌, subst, arith}
use Rattle.lx_regex.specs.Term.{Term, empty, class, any_unit, cat, alt, repeat, tag, group, parts}
use Rattle.lx_regex.specs.Parts.{Part, Sort, parts_in, parts_of_rules, parts_of}
use Rattle.lx_regex.specs.Pattern.{Pattern, is_end, with_terms, terms_of}
use Rattle.lx_regex.specs.Cut.{rule_part}
use Rattle.lx_regex.proofs.KernelCuts.Cuts.{rule_positive}
use Rattle.lx_regex.proofs.PartTables.PartCount.{part_count}

get_behind : {A : Type 0} → (a b : List A) (i : ℕ) → slice_get (a ++ b) (length a + i) ≡ slice_get b i
get_behind [] b i = let e : 0 + i ≡ i = omega arith in ap (λ n. slice_get b n) e
get_behind (x ∷ a) b i =
    let e : suc (length a) + i ≡ suc (length a + i) = omega arith in
    ap (λ n. slice_get (x ∷ (a ++ b)) n) e ∙ get_behind a b i

-- the first part of a term is its own
own_first : (rule up child part : ℕ) (e : Term) (more : List Part)
    → (sort : Sort)
    × (slice_get (parts_in rule up child part e ++ more) 0 ≡ Some (record { rule = rule; up = up; child = child; sort = sort }))
own_first rule up child part empty more = (_, refl)
own_first rule up child part (class ranges) more = (_, refl)
own_first rule up child part any_unit more = (_, refl)
own_first rule up child part (cat members) more = (_, refl)
own_first rule up child part (alt members) more = (_, refl)
own_first rule up child part (repeat body low high) more = (_, refl)
own_first rule up child part (tag number) more = (_, refl)
own_first rule up child part (group opening closing body) more = (_, refl)

-- this part is the rule's own
abbrev pub IsOwn : List Part → (place : ℕ) → Pattern → Type 0
IsOwn ps place pattern = (part : Part) × (slice_get ps place ≡ Some part) × (part.rule ≡ pattern.number) × (part.up ≡ 0)

own_in : (patterns : List Pattern) (child part place n : ℕ) (pattern : Pattern)
    → slice_get (with_terms patterns) place ≡ Some pattern → suc n ≡ rule_part (terms_of patterns) place
    → IsOwn (parts_of_rules child part patterns) n pattern
own_in [] child part place n pattern at e = cc
own_in (first ∷ patterns) child part place n pattern at e =
    by_kind (is_end first.kind) place n at e
    (λ place n at e. own_in patterns (suc child) part place n pattern at e)
    (λ place n at e. own_in patterns (suc child) (part + parts first.term) place n pattern at e)
  where
    by_kind :
        (b : Bool) (place n : ℕ) → slice_get (if b then with_terms patterns else first ∷ with_terms patterns) place ≡ Some pattern
        → suc n ≡ rule_part
        (map (λ (x : Pattern). x.term) (if b then with_terms patterns else first ∷ with_terms patterns)) place
        → ((place n : ℕ) → slice_get (with_terms patterns) place ≡ Some pattern
        → suc n ≡ rule_part (terms_of patterns) place → IsOwn (parts_of_rules (suc child) part patterns) n pattern)
        → ((place n : ℕ) → slice_get (with_terms patterns) place ≡ Some pattern
        → suc n ≡ rule_part (terms_of patterns) place
        → IsOwn (parts_of_rules (suc child) (part + parts first.term) patterns) n pattern)
        → IsOwn (if b then parts_of_rules (suc child) part patterns else parts_in first.number 0 child part first.term ++ parts_of_rules (suc child) (part + parts first.term) patterns) n pattern
    by_kind true place n at e without others = without place n at e
    by_kind false zero n at e without others =
        let same : first ≡ pattern = cc in
        let own =
        own_first first.number 0 child part first.term (parts_of_rules (suc child) (part + parts first.term) patterns) in
        let z : n ≡ 0 = omega arith in (
          _,
          ap (λ k. slice_get (parts_in first.number 0 child part first.term ++ parts_of_rules (suc child) (part + parts first.term) patterns) k) z
              ∙ own.1,
          ap (λ (x : Pattern). x.number) same,
          refl,
        )
    by_kind false (suc place) n at e without others =
        let ps = parts_in first.number 0 child part first.term in
        let rest = parts_of_rules (suc child) (part + parts first.term) patterns in
        let positive = rule_positive (terms_of patterns) place in
        let r = others place (n - parts first.term) at (omega arith) in
        let z : n ≡ length ps + (n - parts first.term) = omega (arith, part_count first.number 0 child part first.term) in
        (r.0, ap (λ k. slice_get (ps ++ rest) k) z ∙ get_behind ps rest (n - parts first.term) ∙ r.1, r.2, r.3)

pub own_part :
    (patterns : List Pattern) (place : ℕ) (pattern : Pattern) → slice_get (with_terms patterns) place ≡ Some pattern
    → IsOwn (parts_of patterns) (rule_part (terms_of patterns) place) pattern
own_part patterns place pattern at =
    let positive = rule_positive (terms_of patterns) place in
    let n : suc (rule_part (terms_of patterns) place - 1) ≡ rule_part (terms_of patterns) place = omega arith in
    let r = own_in patterns 0 1 place (rule_part (terms_of patterns) place - 1) pattern at n in
    subst (λ k. IsOwn (parts_of patterns) k pattern) n r
