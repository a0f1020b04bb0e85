-- Rules that are added one by one.
use Rattle.std.proofs.Common.{◌≡◌, ℕ, suc, ◌-◌, ◌*◌, ◌<◌, arith, Bool, true, false, List, [], ◌∷◌, ◌++◌, length, sym, ap, ap₂, ◌∙◌, subst, append_assoc, append-nil, Some, ◌⊎◌, ⊎_elim}
use Rattle.std.proofs.lemmas.List.{map-append}
use Rattle.std.specs.Prelude.{replicate, if◌then◌else◌}
use Rattle.lx_regex.specs.Automaton.{table, final}
use Rattle.lx_regex.specs.Pattern.{is_end, pattern_of, sorts_of}
use Rattle.lx_regex.specs.Term.{parts}
use Rattle.lx_regex.specs.Values.{group_ends}
use Rattle.lx_regex.specs.declared.rules.Kind.{Kind}
use Rattle.lx_regex.specs.declared.rules.Kind.TheVariants.{Plain, Default}
use Rattle.lx_regex.specs.declared.rules.Rule.{Rule}
use Rattle.lx_tnfa.specs.Classes.{AreClasses}
use Rattle.lx_tnfa.specs.Making.{AddsRule, seen_tags}
use Rattle.lx_tnfa.specs.Rows.{Builds}
use Rattle.lx_tnfa.specs.declared.making.Making.{Making}
use Rattle.lx_tnfa.specs.declared.tnfa.RuleTags.{RuleTags}
use Rattle.lx_tnfa.proofs.Construction.BuiltStates.{builds_none}

-- an item more of some that are alike
pub replicate_next : {A : Type 0} (x : A) (now new all : List A) (count counter : ℕ) → counter < count → new ≡ now ++ x ∷ []
    → now ++ replicate (count - counter) x ≡ all → new ++ replicate (count - suc counter) x ≡ all
replicate_next {A} x now new all count counter lt pushed so =
    let next : suc (count - suc counter) ≡ count - counter = omega arith in
    ap (λ l. l ++ replicate (count - suc counter) x) pushed
    ∙ append_assoc now (x ∷ []) (replicate (count - suc counter) x)
    ∙ ap (λ n. now ++ replicate n x) next ∙ so

-- the ends of a group more
pub ends_next : (now mid new all : List Bool) (groups counter : ℕ) → counter < groups → mid ≡ now ++ false ∷ [] → new ≡ mid ++ false ∷ []
    → now ++ group_ends (groups - counter) ≡ all → new ++ group_ends (groups - suc counter) ≡ all
ends_next now mid new all groups counter lt first second so =
    let next : suc (groups - suc counter) ≡ groups - counter = omega arith in
    ap (λ l. l ++ group_ends (groups - suc counter)) (second ∙ ap (λ l. l ++ false ∷ []) first ∙ append_assoc now (false ∷ []) (false ∷ []))
    ∙ append_assoc now (false ∷ false ∷ []) (group_ends (groups - suc counter))
    ∙ ap (λ n. now ++ group_ends n) next ∙ so

-- one rule more with its tags
pub seen_push : (old new : List RuleTags) (rule : RuleTags) (number : ℕ) (sorts : List Bool) → new ≡ old ++ rule ∷ [] → rule.number ≡ number
    → rule.many.items ≡ sorts → seen_tags new ≡ seen_tags old ++ (number, sorts) ∷ []
seen_push old new rule number sorts is n s =
    ap seen_tags is ∙ map-append (λ (r : RuleTags). (r.number, r.many.items)) old (rule ∷ []) ∙ ap₂ (λ a b. seen_tags old ++ (a, b) ∷ []) n s

pub is_rule : (kind : Kind) → (kind ≡ Plain) ⊎ (kind ≡ Default) → is_end kind ≡ false
is_rule kind is = ⊎_elim (λ h. ap is_end h) (λ h. ap is_end h) is

-- the rule `$` adds no state and no part
pub adds_end : (old new : Making) (rule : Rule) → is_end rule.kind ≡ true → AreClasses old.building.classes.enc old.building.classes.list.items
    → seen_tags new.rules.items ≡ seen_tags old.rules.items ++ (rule.number, sorts_of (pattern_of rule)) ∷ [] → new.owners.items ≡ old.owners.items
    → new.begins.items ≡ old.begins.items → new.building ≡ old.building → AddsRule old new rule
adds_end old new rule ends are_classes rules owners begins same = record {
  rules = rules;
  owners =
      owners ∙ sym (append-nil old.owners.items)
      ∙ ap (λ b. old.owners.items ++ replicate (if b then 0 else parts (pattern_of rule).term) (Some (length old.rules.items))) (sym ends);
  begins =
      begins ∙ sym (append-nil old.begins.items)
      ∙ ap (λ b. old.begins.items ++ (if b then [] else 2 * length old.owners.items ∷ [])) (sym ends);
  states =
      subst (λ b. Builds old.building new.building (if b then [] else table (pattern_of rule).term (length old.owners.items) final)) (sym ends)
      (subst (λ b. Builds old.building b []) (sym same) (builds_none old.building are_classes));
}

-- another rule adds its states, and its number for each of its parts
pub adds_rule : (old new : Making) (rule : Rule) → is_end rule.kind ≡ false
    → seen_tags new.rules.items ≡ seen_tags old.rules.items ++ (rule.number, sorts_of (pattern_of rule)) ∷ []
    → new.owners.items ≡ old.owners.items ++ replicate (parts (pattern_of rule).term) (Some (length old.rules.items))
    → new.begins.items ≡ old.begins.items ++ 2 * length old.owners.items ∷ []
    → Builds old.building new.building (table (pattern_of rule).term (length old.owners.items) final) → AddsRule old new rule
adds_rule old new rule plain rules owners begins states = record {
  rules = rules;
  owners = owners ∙ ap (λ b. old.owners.items ++ replicate (if b then 0 else parts (pattern_of rule).term) (Some (length old.rules.items))) (sym plain);
  begins = begins ∙ ap (λ b. old.begins.items ++ (if b then [] else 2 * length old.owners.items ∷ [])) (sym plain);
  states = subst (λ b. Builds old.building new.building (if b then [] else table (pattern_of rule).term (length old.owners.items) final)) (sym plain) states;
}
