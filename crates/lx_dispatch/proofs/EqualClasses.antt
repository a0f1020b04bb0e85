-- Transition classes in a table: they are equal there where their edges are of one class.
use Rattle.std.specs.Prelude.{◌≡◌, ℕ, suc, ◌+◌, Bool, true, false, List, [], ◌∷◌, ◌++◌, Some, None, length, drop, position, if◌then◌else◌, not, cond, ◌||◌, refl, nat_lt, ◌<◌}
use Rattle.std.proofs.Common.{sym, subst, ap, ap₂, ◌∙◌, arith, eqb, get_or, ltb-false, ◌&&◌}
use Rattle.std.specs.List.{list_any, position_or_len}
use Rattle.std.proofs.lemmas.List.{map_push, drop_more}
use Rattle.std.proofs.lemmas.List.Sums.{prefix_len-le-length}
use Rattle.std.specs.Option.{unwrap_or}
use Rattle.indexmap.specs.IndexSet.{insert_key}
use Rattle.lx_auto.specs.declared.automaton.Edge.{Edge}
use Rattle.lx_dispatch.specs.TransitionClasses.{class_place, classes_onto, has_class, same_class}
use Rattle.lx_dispatch.specs.Views.{seen_classes}
use Rattle.lx_dispatch.specs.contracts.classes.TransitionClassPartialEq.TheImpl.{eq-value}
use Rattle.lx_dispatch.specs.declared.classes.TransitionClass.{TransitionClass}
use Rattle.lx_dispatch.proofs.ClassLists.{classes_onto-looked, same_class-itself, same_class-ops, same_class-to}
use Rattle.lx_dispatch.proofs.OpsAlike.{pointwise-same_ops}

same_class-turned : (edge other : Edge) → same_class edge other ≡ true → same_class other edge ≡ true
same_class-turned edge other same =
    ap₂ (λ to ops. same_class other (record edge { to = to; ops = ops })) (same_class-to edge other same) (same_class-ops edge other same) ∙ same_class-itself other

same_class-symm : (edge other : Edge) → same_class edge other ≡ same_class other edge
same_class-symm edge other = by (same_class edge other) (same_class other edge) (same_class-turned edge other) (same_class-turned other edge)
  where
    by : (a b : Bool) → (a ≡ true → b ≡ true) → (b ≡ true → a ≡ true) → a ≡ b
    by true b on back = sym (on refl)
    by false true on back = back refl
    by false false on back = refl

module _ (class : TransitionClass) where
  equal-same_class : (other : TransitionClass) → eq-value.it class other ≡ same_class other.edge.now class.edge.now
  equal-same_class other =
      ap (λ (t : Bool). eqb class.edge.now.to other.edge.now.to && t) (pointwise-same_ops class.edge.now.ops other.edge.now.ops)
      ∙ same_class-symm class.edge.now other.edge.now

  list_any-has_class : (classes : List TransitionClass) → list_any (eq-value.it class) classes ≡ has_class (seen_classes classes) class.edge.now
  list_any-has_class [] = refl
  list_any-has_class (other ∷ classes) = by _ _ (equal-same_class other) (list_any-has_class classes)
    where
      by : (a b : Bool) → a ≡ b → list_any (eq-value.it class) classes ≡ has_class (seen_classes classes) class.edge.now
          → a || list_any (eq-value.it class) classes ≡ (if b then true else has_class (seen_classes classes) class.edge.now)
      by true true e rest = refl
      by false false e rest = rest
      by true false e rest = cc
      by false true e rest = cc

  place-class_place : (classes : List TransitionClass) → position_or_len (eq-value.it class) classes ≡ class_place (seen_classes classes) class.edge.now
  place-class_place [] = refl
  place-class_place (other ∷ classes) = by _ _ (equal-same_class other) (place-class_place classes)
    where
      by : (a b : Bool) → a ≡ b → position_or_len (eq-value.it class) classes ≡ class_place (seen_classes classes) class.edge.now
          → cond (not a) (1 + position_or_len (eq-value.it class) classes) 0 ≡ (if b then 0 else suc (class_place (seen_classes classes) class.edge.now))
      by true true e rest = refl
      by false false e rest = omega (arith, rest)
      by true false e rest = cc
      by false true e rest = cc

  seen_classes-inserted : (classes : List TransitionClass)
      → seen_classes (insert_key eq-value.it classes class)
      ≡ (if has_class (seen_classes classes) class.edge.now then seen_classes classes else seen_classes classes ++ class.edge.now ∷ [])
  seen_classes-inserted classes =
      by (list_any (eq-value.it class) classes)
      ∙ ap (λ t. if t then seen_classes classes else seen_classes classes ++ class.edge.now ∷ []) (list_any-has_class classes)
    where
      by : (t : Bool) → seen_classes (if t then classes else classes ++ class ∷ []) ≡ (if t then seen_classes classes else seen_classes classes ++ class.edge.now ∷ [])
      by true = refl
      by false = map_push (λ (other : TransitionClass). other.edge.now) classes class

  -- the classes behind one more edge
  pub classes_onto-inserted : (edges : List Edge) (index : ℕ) → index < length edges → class.edge.now ≡ get_or edges index class.edge.now
      → (classes new : List TransitionClass) (whole : List Edge) → classes_onto (seen_classes classes) (drop index edges) ≡ whole
      → new ≡ insert_key eq-value.it classes class → classes_onto (seen_classes new) (drop (index + 1) edges) ≡ whole
  classes_onto-inserted edges index within is classes new whole before inserted =
      classes_onto-looked edges index class.edge.now within is (seen_classes classes) (seen_classes new) whole before
      (has_class (seen_classes classes) class.edge.now) refl (ap seen_classes inserted ∙ seen_classes-inserted classes)

  pub place_found : (classes : List TransitionClass) (place : ℕ) → Some place ≡ position (eq-value.it class) classes
      → place ≡ class_place (seen_classes classes) class.edge.now
  place_found classes place is = by _ is ∙ place-class_place classes
    where
      by : (t : Bool) → Some place ≡ cond t (Some (position_or_len (eq-value.it class) classes)) None → place ≡ position_or_len (eq-value.it class) classes
      by true is = ap (λ o. unwrap_or o 0) is
      by false is = cc

  pub place_none : (classes : List TransitionClass) → None ≡ position (eq-value.it class) classes
      → length classes ≡ class_place (seen_classes classes) class.edge.now
  place_none classes none = by _ refl none ∙ place-class_place classes
    where
      by : (t : Bool) → nat_lt (position_or_len (eq-value.it class) classes) (length classes) ≡ t
          → None ≡ cond t (Some (position_or_len (eq-value.it class) classes)) None → length classes ≡ position_or_len (eq-value.it class) classes
      by true is none = cc
      by false is none =
          let past = ltb-false (position_or_len (eq-value.it class) classes) (length classes) is in
          let most = prefix_len-le-length (λ other. not (eq-value.it class other)) classes in
          omega (arith, past, most)

  -- the place of a class, where so many have been passed
  pub place_next : (classes : List TransitionClass) (place : ℕ) (other : TransitionClass) → place < length classes → other ≡ get_or classes place other → (t : Bool)
      → t ≡ eq-value.it class other → (whole : ℕ) → place + class_place (seen_classes (drop place classes)) class.edge.now ≡ whole
      → (if t then place else (place + 1) + class_place (seen_classes (drop (place + 1) classes)) class.edge.now) ≡ whole
  place_next classes place other within is t equal whole before =
      by t (equal ∙ equal-same_class other)
      (ap (λ l. place + class_place (seen_classes l) class.edge.now) (sym (drop_more classes place other within ∙ ap (λ e. e ∷ drop (place + 1) classes) (sym is))) ∙ before)
    where
      by : (t : Bool) → t ≡ same_class other.edge.now class.edge.now
          → place + (if same_class other.edge.now class.edge.now then 0 else suc (class_place (seen_classes (drop (place + 1) classes)) class.edge.now)) ≡ whole
          → (if t then place else (place + 1) + class_place (seen_classes (drop (place + 1) classes)) class.edge.now) ≡ whole
      by true e put = omega (arith, subst (λ b. place + (if b then 0 else suc (class_place (seen_classes (drop (place + 1) classes)) class.edge.now)) ≡ whole) (sym e) put)
      by false e put = omega (arith, subst (λ b. place + (if b then 0 else suc (class_place (seen_classes (drop (place + 1) classes)) class.edge.now)) ≡ whole) (sym e) put)
