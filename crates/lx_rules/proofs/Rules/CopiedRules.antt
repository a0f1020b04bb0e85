-- The rules of a scanner as copies of those that are kept.
use Rattle.std.proofs.Common.{◌≡◌, ℕ, zero, suc, ◌+◌, ◌*◌, ◌<◌, Bool, List, [], ◌∷◌, ◌++◌, map, length, take, get_or, None, refl, sym, ap, ap₂, ◌∙◌, subst, arith}
use Rattle.std.specs.Borrow.{Bor}
use Rattle.std.specs.List.{AllByRecursion, AllZip}
use Rattle.std.proofs.lemmas.List.{map_more}
use Rattle.std.proofs.lemmas.Slice.Zip.{all_zipped_more}
use Rattle.lx_exprs.specs.Meanings.{moved, shifted, shifted_all}
use Rattle.lx_regex.specs.Term.{Term, Terms, empty, class, any_unit, cat, alt, repeat, tag, group, nil, cons}
use Rattle.lx_regex.specs.declared.rules.Rule.{Rule}
use Rattle.lx_rules.specs.declared.kept.KeptRule.{KeptRule}
use Rattle.lx_rules.specs.Finishing.{IsBuilt, IsCopyOf, kept_targets_fault}

-- a copy behind no tags and no groups has the same term
mutual
  pub shifted-nothing : (term : Term) → shifted 0 0 term ≡ term
  shifted-nothing empty = refl
  shifted-nothing (class ranges) = refl
  shifted-nothing any_unit = refl
  shifted-nothing (cat members) = ap cat (shifted_all-nothing members)
  shifted-nothing (alt members) = ap alt (shifted_all-nothing members)
  shifted-nothing (repeat body low high) = ap (λ t. repeat t low high) (shifted-nothing body)
  shifted-nothing (tag number) = let same : number + 0 ≡ number = omega arith in ap tag same
  shifted-nothing (group opening closing body) =
      let one : opening + 2 * 0 ≡ opening = omega arith in
      let other : closing + 2 * 0 ≡ closing = omega arith in
      ap₂ (λ a b. group a b (shifted 0 0 body)) one other ∙ ap (group opening closing) (shifted-nothing body)

  shifted_all-nothing : (members : Terms) → shifted_all 0 0 members ≡ members
  shifted_all-nothing nil = refl
  shifted_all-nothing (cons member members) = ap₂ cons (shifted-nothing member) (shifted_all-nothing members)

-- and the same tags
pub moved-nothing : (kinds : List (ℕ × Bool)) → moved 0 kinds ≡ kinds
moved-nothing [] = refl
moved-nothing (one ∷ kinds) =
    let same : one.0 + 0 ≡ one.0 = omega arith in
    ap₂ (λ (number : ℕ) (others : List (ℕ × Bool)). (number, one.1) ∷ others) same (moved-nothing kinds)

-- each of the rules can be copied
pub built_at : (held : List (Bor KeptRule)) (place : ℕ) (one : Bor KeptRule) → place < length held → one ≡ get_or held place one
    → AllByRecursion IsBuilt (map (λ rule. rule.now) held) → IsBuilt one.now
built_at [] place one lt is all = absurd (omega (arith, lt))
built_at (first ∷ held) zero one lt is all = subst (λ (rule : Bor KeptRule). IsBuilt rule.now) (sym is) all.0
built_at (first ∷ held) (suc place) one lt is all = built_at held place one (omega (arith, lt)) is all.1

-- one copy more
pub copies_more : (held : List (Bor KeptRule)) (place : ℕ) (one : Bor KeptRule) (rules : List Rule) (rule : Rule) → place < length held
    → one ≡ get_or held place one → AllZip IsCopyOf (map (λ one. one.now) (take place held)) rules → IsCopyOf one.now rule
    → AllZip IsCopyOf (map (λ one. one.now) (take (place + 1) held)) (rules ++ rule ∷ [])
copies_more held place one rules rule lt is all so =
    let next = map_more (λ (one : Bor KeptRule). one.now) held place one lt
    ∙ ap (λ (o : Bor KeptRule). map (λ one. one.now) (take place held) ++ o.now ∷ []) (sym is) in
    subst (λ l. AllZip IsCopyOf l (rules ++ rule ∷ [])) (sym next)
    (all_zipped_more IsCopyOf (map (λ one. one.now) (take place held)) rules one.now rule all so)

-- rules without actions have no targets
pub no_targets : (names : List (List ℕ)) (held : List KeptRule) → kept_targets_fault names held [] ≡ None
no_targets names [] = refl
no_targets names (one ∷ held) = refl
