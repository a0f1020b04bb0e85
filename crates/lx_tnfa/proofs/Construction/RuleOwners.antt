-- The parts of rules that are added one by one.
use Rattle.std.proofs.Common.{◌≡◌, ℕ, zero, suc, ◌<◌, ◌≤◌, arith, Bool, true, false, List, [], ◌∷◌, ◌++◌, map, length, get_or, Option, Some, None, refl, sym, ap, ap₂, ◌∙◌, subst, length-append}
use Rattle.std.proofs.lemmas.Bool.Decides.{nat_tests}
use Rattle.std.proofs.lemmas.List.{length-map, map-append}
use Rattle.std.proofs.Math.ListN.{get_or-append}
use Rattle.std.proofs.Math.Seq.{get_or-append_seam}
use Rattle.std.specs.Borrow.{Bor}
use Rattle.std.specs.Prelude.{IfSome, MatchOption, is_some, nat_lt, replicate, slice_index}
use Rattle.lx_regex.specs.Pattern.{pattern_of, sorts_of}
use Rattle.lx_regex.specs.declared.rules.Rule.{Rule}
use Rattle.lx_tnfa.specs.Making.{number_at, seen_owners, seen_tags}
use Rattle.lx_tnfa.specs.RuleNumbers.{HaveApartNumbers}
use Rattle.lx_tnfa.specs.Tnfa.{kinds_for}
use Rattle.lx_tnfa.specs.declared.making.Making.{Making}
use Rattle.lx_tnfa.specs.declared.tnfa.RuleTags.{RuleTags}
use Rattle.lx_tnfa.proofs.Construction.ApartNumbers.{kinds_for-own}

-- the index is that of one of so many rules, if it is one
abbrev pub IsWithin : (count : ℕ) → Option ℕ → Type 0
IsWithin count None = Unit {0}
IsWithin count (Some index) = index < count

abbrev pub AreWithin : (count : ℕ) → List (Option ℕ) → Type 0
AreWithin count [] = Unit {0}
AreWithin count (owner ∷ owners) = IsWithin count owner × AreWithin count owners

pub within_more : {count more : ℕ} (owners : List (Option ℕ)) → count ≤ more → AreWithin count owners → AreWithin more owners
within_more [] le within = tt
within_more {count} {more} (owner ∷ owners) le within = (one owner within.0, within_more owners le within.1)
  where
    one : (owner : Option ℕ) → IsWithin count owner → IsWithin more owner
    one None h = tt
    one (Some index) h = omega arith

pub within-append : (count : ℕ) (owners others : List (Option ℕ)) → AreWithin count owners → AreWithin count others → AreWithin count (owners ++ others)
within-append count [] others first second = second
within-append count (owner ∷ owners) others first second = (first.0, within-append count owners others first.1 second)

pub within-replicate : {count index : ℕ} (size : ℕ) → index < count → AreWithin count (replicate size (Some index))
within-replicate zero lt = tt
within-replicate (suc size) lt = (lt, within-replicate size lt)

-- one rule more
pub rules_count : (old new : Making) (rule : Rule) → seen_tags new.rules.items ≡ seen_tags old.rules.items ++ (rule.number, sorts_of (pattern_of rule)) ∷ []
    → length new.rules.items ≡ suc (length old.rules.items)
rules_count old new rule more =
    let f : RuleTags → ℕ × List Bool = λ (r : RuleTags). (r.number, r.many.items) in
    let all = ap length more ∙ length-append (seen_tags old.rules.items) ((rule.number, sorts_of (pattern_of rule)) ∷ []) in
    omega (arith, all, length-map new.rules.items f, length-map old.rules.items f)

module _ (rules : List (ℕ × List Bool)) (rule : ℕ × List Bool) where
  abbrev number : ℕ × List Bool → ℕ
  number r = r.0

  -- the rules that were there keep their numbers
  number-before : (owner : Option ℕ) → IsWithin (length rules) owner → number_at (rules ++ rule ∷ []) owner ≡ number_at rules owner
  number-before None lt = refl
  number-before (Some index) lt =
      let inside : index < length (map number rules) = omega (arith, length-map rules number) in
      ap (λ l. slice_index l index) (map-append number rules (rule ∷ [])) ∙ get_or-append (map number rules) (rule.0 ∷ []) 0 index inside

  number-last : number_at (rules ++ rule ∷ []) (Some (length rules)) ≡ rule.0
  number-last =
      ap₂ (λ l n. slice_index l n) (map-append number rules (rule ∷ [])) (sym (length-map rules number)) ∙ get_or-append_seam (map number rules) rule.0 [] 0

  seen_owners-before : (owners : List (Option ℕ)) → AreWithin (length rules) owners → seen_owners (rules ++ rule ∷ []) owners ≡ seen_owners rules owners
  seen_owners-before [] within = refl
  seen_owners-before (owner ∷ owners) within = ap₂ (λ n l. n ∷ l) (number-before owner within.0) (seen_owners-before owners within.1)

  seen_owners-last : (size : ℕ) → seen_owners (rules ++ rule ∷ []) (replicate size (Some (length rules))) ≡ replicate size rule.0
  seen_owners-last zero = refl
  seen_owners-last (suc size) = ap₂ (λ n l. n ∷ l) number-last (seen_owners-last size)

  seen_owners-append : (owners : List (Option ℕ)) (size : ℕ) → AreWithin (length rules) owners
      → seen_owners (rules ++ rule ∷ []) (owners ++ replicate size (Some (length rules))) ≡ seen_owners rules owners ++ replicate size rule.0
  seen_owners-append owners size within =
      map-append (number_at (rules ++ rule ∷ [])) owners (replicate size (Some (length rules)))
      ∙ ap₂ (λ a b. a ++ b) (seen_owners-before owners within) (seen_owners-last size)

-- the parts of a rule that is added have its number, and the others keep theirs
pub owners_more : (old new : Making) (rule : Rule) (size : ℕ)
    → seen_tags new.rules.items ≡ seen_tags old.rules.items ++ (rule.number, sorts_of (pattern_of rule)) ∷ []
    → new.owners.items ≡ old.owners.items ++ replicate size (Some (length old.rules.items)) → AreWithin (length old.rules.items) old.owners.items
    → seen_owners (seen_tags new.rules.items) new.owners.items ≡ seen_owners (seen_tags old.rules.items) old.owners.items ++ replicate size rule.number
owners_more old new rule size more owners within =
    let f : RuleTags → ℕ × List Bool = λ (r : RuleTags). (r.number, r.many.items) in
    let count : length old.rules.items ≡ length (seen_tags old.rules.items) = sym (length-map old.rules.items f) in
    ap₂ seen_owners more (owners ∙ ap (λ n. old.owners.items ++ replicate size (Some n)) count)
    ∙ seen_owners-append (seen_tags old.rules.items) (rule.number, sorts_of (pattern_of rule)) old.owners.items size
    (subst (λ n. AreWithin n old.owners.items) count within)

-- the number of a part's rule is that at the index that is kept of it
pub owner_number : (rules : List (ℕ × List Bool)) (owners : List (Option ℕ)) (part : ℕ) (owner : Option ℕ) → part < length owners
    → owner ≡ get_or owners part owner → slice_index (seen_owners rules owners) part ≡ number_at rules owner
owner_number rules [] part owner lt is = absurd (omega arith)
owner_number rules (first ∷ owners) zero owner lt is = ap (number_at rules) (sym is)
owner_number rules (first ∷ owners) (suc part) owner lt is = owner_number rules owners part owner (omega arith) is

-- the rule at an index has the number there, and behind the last rule stands none
rule_number : (rules : List RuleTags) (index : ℕ) (rule : RuleTags) → index < length rules → rule ≡ get_or rules index rule
    → number_at (seen_tags rules) (Some index) ≡ rule.number
rule_number [] index rule lt is = absurd (omega arith)
rule_number (first ∷ rules) zero rule lt is = ap (λ (r : RuleTags). r.number) (sym is)
rule_number (first ∷ rules) (suc index) rule lt is = rule_number rules index rule (omega arith) is

no_number : (rules : List RuleTags) (index : ℕ) → length rules ≤ index → number_at (seen_tags rules) (Some index) ≡ 0
no_number [] index past = refl
no_number (first ∷ rules) zero past = absurd (omega arith)
no_number (first ∷ rules) (suc index) past = no_number rules index (omega arith)

-- what a look-up among the rules finds
pub record LooksUp (rules : List RuleTags) (index : ℕ) (found : Option (Bor RuleTags)) : Type 0 where
  pub there : is_some found ≡ nat_lt index (length rules)
  pub rule : IfSome found (λ rule. rule.now ≡ get_or rules index rule.now)

past : (index count : ℕ) → false ≡ nat_lt index count → count ≤ index
past index count is = grind (arith, nat_tests, is)

pub within : (index count : ℕ) → true ≡ nat_lt index count → index < count
within index count is = grind (arith, nat_tests, is)

pub found-number : (rules : List RuleTags) (index number : ℕ) (found : Option (Bor RuleTags)) → LooksUp rules index found
    → number ≡ number_at (seen_tags rules) (Some index) → MatchOption found (number ≡ 0) (λ rule. rule.now.number ≡ number)
found-number rules index number None looks is = is ∙ no_number rules index (past index (length rules) looks.there)
found-number rules index number (Some rule) looks is = sym (is ∙ rule_number rules index rule.now (within index (length rules) looks.there) looks.rule)

pub found-tags : (rules : List RuleTags) (index : ℕ) (found : Option (Bor RuleTags)) → HaveApartNumbers (seen_tags rules) → LooksUp rules index found
    → IfSome found (λ rule. kinds_for (seen_tags rules) rule.now.number ≡ Some rule.now.many.items)
found-tags rules index None apart looks = tt
found-tags rules index (Some rule) apart looks = kinds_for-own rules index rule.now apart (within index (length rules) looks.there) looks.rule
