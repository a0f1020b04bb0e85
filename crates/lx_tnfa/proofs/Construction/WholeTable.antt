-- The whole automaton, rule by rule.
use Rattle.std.proofs.Common.{◌≡◌, ℕ, zero, suc, ◌+◌, ◌*◌, ◌^◌, ◌<◌, ◌≤◌, arith, Bool, true, false, List, [], ◌∷◌, ◌++◌, map, length, get_or, drop, refl, sym, ap, ap₂, ◌∙◌, subst, append_assoc, append-nil, length-append, Option, Some, None}
use Rattle.std.proofs.lemmas.List.{length-replicate, map-append}
use Rattle.std.proofs.Math.ListN.{drop_of_length-le}
use Rattle.std.specs.Bool.{OnFalse}
use Rattle.std.specs.Prelude.{replicate, slice_get, if◌then◌else◌}
use Rattle.lx_regex.specs.ClassLimits.{ClassesFit, AllClassesFit}
use Rattle.lx_base.specs.declared.settings.Enc.{Enc}
use Rattle.lx_regex.specs.Automaton as spec
use Rattle.lx_regex.specs.Automaton.{automaton, final, leaf, moves, rules_table, table, unit_leaf}
use Rattle.lx_regex.specs.Limits.{IsRegular, IsWithinLimits, sizes_of}
use Rattle.lx_regex.specs.Parts.{Part, parts_of, parts_of_rules}
use Rattle.lx_regex.specs.Pattern.{Pattern, is_end, pattern_of, patterns_of, sorts_of, terms_of, with_terms}
use Rattle.lx_regex.specs.Term.{parts}
use Rattle.lx_regex.specs.declared.rules.Rule.{Rule}
use Rattle.lx_regex.proofs.PartTables.RuleParts.{few_ends, few_rules, few_tags, length-numbers_from, next_rule, regular_at, rule_alike, rule_counted, rule_room, rules_part, sizes_next}
use Rattle.lx_regex.proofs.PartTables.Rows.{table_length}
use Rattle.lx_tnfa.specs.Classes.{AreClasses}
use Rattle.lx_tnfa.specs.Live.{AreLive}
use Rattle.lx_tnfa.specs.Making.{AddsRule, CanAdd, rule_beginning, rule_size, rule_states, seen_owners, seen_tags}
use Rattle.lx_tnfa.specs.Rows.{RepresentEach, Builds, Represents}
use Rattle.lx_tnfa.specs.Tnfa.{AreNumbered, IsNumbered, IsTnfaOf, beginnings_from}
use Rattle.lx_tnfa.specs.declared.classes.ClassGraph.{ClassGraph}
use Rattle.lx_tnfa.specs.declared.making.Making.{Making}
use Rattle.lx_tnfa.specs.declared.states.State.{State}
use Rattle.lx_tnfa.specs.declared.states.State.TheVariants as held
use Rattle.lx_tnfa.proofs.Construction.BuiltStates.{builds_none, builds_then}
use Rattle.lx_tnfa.proofs.Construction.RuleOwners.{AreWithin, owners_more, rules_count, within-append, within-replicate, within_more}
use Rattle.lx_tnfa.proofs.Construction.TagBounds.{ends_fit}

abbrev owner : Part → ℕ
owner part = part.rule

abbrev tags_pair : Pattern → ℕ × List Bool
tags_pair pattern = (pattern.number, sorts_of pattern)

same_items : (x : ℕ) (parts : List Part) → map (λ (part : Part). x) parts ≡ replicate (length parts) x
same_items x [] = refl
same_items x (part ∷ parts) = ap (λ l. x ∷ l) (same_items x parts)

-- the owners of a rule's parts are its number
own_owners : (child part : ℕ) (pattern : Pattern)
    → map owner (parts_of_rules child part (pattern ∷ [])) ≡ replicate (rule_size pattern) pattern.number
own_owners child part pattern =
    rule_alike owner (λ p. pattern.number) pattern.number (λ p e. e) child part pattern refl
    ∙ same_items pattern.number (parts_of_rules child part (pattern ∷ []))
    ∙ ap (λ n. replicate n pattern.number) (rule_counted child part pattern)

-- the states of the first rule and those of the others
rules_states : (pattern : Pattern) (patterns : List Pattern) (part : ℕ)
    → rules_table (terms_of (pattern ∷ patterns)) part ≡ rule_states pattern part ++ rules_table (terms_of patterns) (part + rule_size pattern)
rules_states pattern patterns part = at (is_end pattern.kind)
  where
    at : (b : Bool) → rules_table (map (λ (p : Pattern). p.term) (if b then with_terms patterns else pattern ∷ with_terms patterns)) part
        ≡ (if b then [] else table pattern.term part final) ++ rules_table (terms_of patterns) (part + (if b then 0 else parts pattern.term))
    at true = let e : part ≡ part + 0 = omega arith in ap (rules_table (terms_of patterns)) e
    at false = refl

-- the beginning of the first rule and those of the others
rules_beginnings : (pattern : Pattern) (patterns : List Pattern) (part : ℕ)
    → beginnings_from (terms_of (pattern ∷ patterns)) part ≡ rule_beginning pattern part ++ beginnings_from (terms_of patterns) (part + rule_size pattern)
rules_beginnings pattern patterns part = at (is_end pattern.kind)
  where
    at : (b : Bool) → beginnings_from (map (λ (p : Pattern). p.term) (if b then with_terms patterns else pattern ∷ with_terms patterns)) part
        ≡ (if b then [] else 2 * part ∷ []) ++ beginnings_from (terms_of patterns) (part + (if b then 0 else parts pattern.term))
    at true = let e : part ≡ part + 0 = omega arith in ap (beginnings_from (terms_of patterns)) e
    at false = refl

states_count : (pattern : Pattern) (part : ℕ) → length (rule_states pattern part) ≡ 2 * rule_size pattern
states_count pattern part = at (is_end pattern.kind)
  where
    at : (b : Bool) → length (if b then [] else table pattern.term part final) ≡ 2 * (if b then 0 else parts pattern.term)
    at true = refl
    at false = table_length pattern.term part final

pub held_length : (classes : List ClassGraph) (rows : List spec.State) (states : List State) → RepresentEach classes rows states → length states ≡ length rows
held_length classes [] [] h = refl
held_length classes [] (state ∷ states) h = absurd h
held_length classes (row ∷ rows) [] h = absurd h
held_length classes (row ∷ rows) (state ∷ states) h = let r : length states ≡ length rows = held_length classes rows states h.1 in omega (arith, r)

-- what a loop over rules has made
pub record RulesMade (rules : List Rule) (start now : Making) (place : ℕ) : Type 0 where
  pub done : List spec.State
  pub builds : Builds start.building now.building done
  pub left : done ++ rules_table (terms_of (patterns_of (drop place rules))) (length now.owners.items) ≡ rules_table (terms_of (patterns_of rules)) 1
  pub owners : seen_owners (seen_tags now.rules.items) now.owners.items ++ map owner (parts_of_rules place (length now.owners.items) (patterns_of (drop place rules)))
      ≡ map owner (parts_of (patterns_of rules))
  pub within : AreWithin (length now.rules.items) now.owners.items
  pub counted : length now.rules.items ≡ place
  pub tags : seen_tags now.rules.items ++ map tags_pair (patterns_of (drop place rules)) ≡ map tags_pair (patterns_of rules)
  pub begins : now.begins.items ++ beginnings_from (terms_of (patterns_of (drop place rules))) (length now.owners.items)
      ≡ beginnings_from (terms_of (patterns_of rules)) 1
  pub room : length now.owners.items + 132 * sizes_of (drop place rules) ≤ 1 + 132 * 4096
  pub count : length now.building.states.items ≡ 2 * length now.owners.items
  pub classes : length now.building.classes.list.items ≤ length now.owners.items

pub made_begin : (rules : List Rule) (start : Making) → IsWithinLimits rules → start.building.classes.list.items ≡ [] → start.owners.items ≡ None ∷ []
    → start.rules.items ≡ [] → start.begins.items ≡ [] → start.building.states.items ≡ held.Moves [] ∷ held.Moves [] ∷ [] → RulesMade rules start start 0
made_begin rules start limits classes owners none nowhere states = record {
  count = omega (arith, ap length owners, ap length states);
  done = [];
  builds = builds_none start.building (subst (AreClasses start.building.classes.enc) (sym classes) tt);
  left = ap (λ l. rules_table (terms_of (patterns_of rules)) (length l)) owners;
  owners = ap (λ l. seen_owners (seen_tags start.rules.items) l ++ map owner (parts_of_rules 0 (length l) (patterns_of rules))) owners;
  within = subst (AreWithin (length start.rules.items)) (sym owners) (tt, tt);
  counted = ap length none;
  tags = ap (λ l. seen_tags l ++ map tags_pair (patterns_of rules)) none;
  begins = ap₂ (λ b l. b ++ beginnings_from (terms_of (patterns_of rules)) (length l)) nowhere owners;
  room = omega (arith, ap length owners, limits.size);
  classes = omega (arith, ap length classes);
}

pub made_more : (rules : List Rule) (start now new : Making) (place : ℕ) (rule : Rule) → place < length rules → rule ≡ get_or rules place rule
    → IsWithinLimits rules → RulesMade rules start now place → AddsRule now new rule → RulesMade rules start new (suc place)
made_more rules start now new place rule lt is limits made adds =
    let pattern = pattern_of rule in
    let rest = patterns_of (drop (suc place) rules) in
    let part = length now.owners.items in
    let size = rule_size pattern in
    let index : Option ℕ = Some (length now.rules.items) in
    let next : patterns_of (drop place rules) ≡ pattern ∷ rest = ap patterns_of (next_rule rules place rule lt is) in
    let count : length new.owners.items ≡ part + size =
    ap length adds.owners ∙ length-append now.owners.items (replicate size index) ∙ ap (λ n. part + n) (length-replicate size index) in
    let seen = seen_owners (seen_tags now.rules.items) now.owners.items in
    let own = rule_states pattern part in
    let fits = rule_room (is_end rule.kind) rules place rule refl lt is limits in record {
      done = made.done ++ own;
      builds = builds_then start.building now.building new.building made.done own made.builds adds.states;
      left =
          append_assoc made.done own (rules_table (terms_of rest) (length new.owners.items))
          ∙ ap (λ n. made.done ++ (own ++ rules_table (terms_of rest) n)) count
          ∙ ap (λ l. made.done ++ l) (sym (rules_states pattern rest part) ∙ ap (λ l. rules_table (terms_of l) part) (sym next))
          ∙ made.left;
      owners =
          ap₂ (λ a n. a ++ map owner (parts_of_rules (suc place) n rest)) (owners_more now new rule size adds.rules adds.owners made.within) count
          ∙ append_assoc seen (replicate size rule.number) (map owner (parts_of_rules (suc place) (part + size) rest))
          ∙ ap (λ l. seen ++ (l ++ map owner (parts_of_rules (suc place) (part + size) rest))) (sym (own_owners place part pattern))
          ∙ ap (λ l. seen ++ l) (sym (map-append owner (parts_of_rules place part (pattern ∷ [])) (parts_of_rules (suc place) (part + size) rest)))
          ∙ ap (λ l. seen ++ map owner l) (sym (rules_part place part pattern rest) ∙ ap (parts_of_rules place part) (sym next))
          ∙ made.owners;
      within =
          subst (AreWithin (length new.rules.items)) (sym adds.owners)
          (within-append (length new.rules.items) now.owners.items (replicate size index)
          (within_more now.owners.items (omega (arith, rules_count now new rule adds.rules)) made.within)
          (within-replicate size (omega (arith, rules_count now new rule adds.rules))));
      counted = omega (arith, rules_count now new rule adds.rules, made.counted);
      tags =
          ap (λ l. l ++ map tags_pair rest) adds.rules
          ∙ append_assoc (seen_tags now.rules.items) (tags_pair pattern ∷ []) (map tags_pair rest)
          ∙ ap (λ l. seen_tags now.rules.items ++ map tags_pair l) (sym next) ∙ made.tags;
      begins =
          ap₂ (λ a n. a ++ beginnings_from (terms_of rest) n) adds.begins count
          ∙ append_assoc now.begins.items (rule_beginning pattern part) (beginnings_from (terms_of rest) (part + size))
          ∙ ap (λ l. now.begins.items ++ l)
          (sym (rules_beginnings pattern rest part) ∙ ap (λ l. beginnings_from (terms_of l) part) (sym next))
          ∙ made.begins;
      room = omega (arith, count, fits, sizes_next rules place rule lt is, made.room);
      count =
          omega (
            arith,
            count,
            made.count,
            ap length adds.states.states,
            length-append now.building.states.items adds.states.more,
            held_length new.building.classes.list.items (rule_states pattern part) adds.states.more adds.states.held,
            states_count pattern part,
          );
      classes =
          omega (
            arith,
            count,
            made.classes,
            ap length adds.states.classes,
            length-append now.building.classes.list.items adds.states.later,
            adds.states.few,
            states_count pattern part,
          );
    }

classes_at : (enc : Enc) (rules : List Rule) (place : ℕ) (rule : Rule) → place < length rules → rule ≡ get_or rules place rule → is_end rule.kind ≡ false
    → AllClassesFit enc (terms_of (patterns_of rules)) → ClassesFit enc (pattern_of rule).term
classes_at enc [] place rule lt is plain fit = absurd (omega arith)
classes_at enc (first ∷ rules) zero rule lt is plain fit =
    let same : rule ≡ first = is in
    let no : is_end first.kind ≡ false = ap (λ (r : Rule). is_end r.kind) (sym same) ∙ plain in
    let all = subst (λ b. AllClassesFit enc (map (λ (p : Pattern). p.term) (if b then with_terms (patterns_of rules) else pattern_of first ∷ with_terms (patterns_of rules)))) no fit in
    subst (λ (r : Rule). ClassesFit enc (pattern_of r).term) (sym same) all.0
classes_at enc (first ∷ rules) (suc place) rule lt is plain fit =
    classes_at enc rules place rule (omega arith) is plain (others (is_end first.kind) fit)
  where
    others : (b : Bool) → AllClassesFit enc (map (λ (p : Pattern). p.term) (if b then with_terms (patterns_of rules) else pattern_of first ∷ with_terms (patterns_of rules)))
        → AllClassesFit enc (terms_of (patterns_of rules))
    others true all = all
    others false all = all.1

pub made_can : (enc : Enc) (rules : List Rule) (start now : Making) (place : ℕ) (rule : Rule) → place < length rules → rule ≡ get_or rules place rule
    → IsWithinLimits rules → AllClassesFit enc (terms_of (patterns_of rules)) → start.building.classes.enc ≡ enc → RulesMade rules start now place
    → OnFalse (is_end rule.kind) (CanAdd now rule)
made_can enc rules start now place rule lt is limits fit encoding made = at (is_end rule.kind) refl
  where
    at : (b : Bool) → is_end rule.kind ≡ b → OnFalse b (CanAdd now rule)
    at true e = tt
    at false e =
        let pattern = pattern_of rule in
        let regular = subst (λ b. OnFalse b (IsRegular pattern)) e (regular_at rules place rule lt is limits.regular) in
        let fits = rule_room false rules place rule e lt is limits in
        let count : rule_size pattern ≡ parts pattern.term = ap (λ b. if b then 0 else parts pattern.term) e in
        let few = few_tags rules place rule lt is in
        let ends = few_ends rules place rule lt is limits.tags regular in
        let all = ap length regular.tags ∙ length-numbers_from 0 (length (sorts_of pattern)) in
        record {
          tags = omega (arith, few, limits.tags);
          rules = omega (arith, made.counted, few_rules rules limits);
          room = record {
            parts = omega (arith, fits, count, sizes_next rules place rule lt is, made.room);
            classes = made.classes;
            are_classes = made.builds.are_classes;
          };
          term = (
            ends_fit pattern.term (length (sorts_of pattern)) regular.tags (omega (arith, all, ends)),
            subst (λ n. ClassesFit n pattern.term) (sym (made.builds.enc ∙ encoding)) (classes_at enc rules place rule lt is e fit),
          );
        }

get_within : {A : Type 0} (xs : List A) (i : ℕ) (x : A) → slice_get xs i ≡ Some x → i < length xs
get_within [] i x e = cc
get_within (y ∷ xs) zero x e = omega arith
get_within (y ∷ xs) (suc i) x e = let lt : i < length xs = get_within xs i x e in omega arith

-- states that are held name classes that are there
pub held_numbered : (classes : List ClassGraph) (rows : List spec.State) (states : List State) → RepresentEach classes rows states
    → AreNumbered (length classes) states
held_numbered classes [] [] h = tt
held_numbered classes [] (state ∷ states) h = absurd h
held_numbered classes (row ∷ rows) [] h = absurd h
held_numbered classes (row ∷ rows) (state ∷ states) h = (one row state h.0, held_numbered classes rows states h.1)
  where
    one : (row : spec.State) (state : State) → Represents classes row state → IsNumbered (length classes) state
    one row (held.Moves ways) h = tt
    one row held.AnyUnit h = tt
    one (moves ways) (held.Class number) h = absurd h
    one (leaf ranges) (held.Class number) h = get_within classes number h.0 h.1
    one unit_leaf (held.Class number) h = absurd h

-- all rules are made, and so the automaton of the list
pub made_end : (enc : Enc) (rules : List Rule) (start now : Making) (place : ℕ) (live : List Bool) → length rules ≤ place
    → start.building.states.items ≡ held.Moves [] ∷ held.Moves [] ∷ [] → start.building.classes.enc ≡ enc → RulesMade rules start now place
    → length live ≡ length now.building.states.items → AreLive now.building.classes.list.items now.building.states.items live → IsTnfaOf enc (patterns_of rules) (record {
      enc = enc;
      states = now.building.states.items;
      classes = now.building.classes.list.items;
      owners = seen_owners (seen_tags now.rules.items) now.owners.items;
      rules = seen_tags now.rules.items;
      begins = now.begins.items;
      live = live;
    })
made_end enc rules start now place live le states encoding made marks marked =
    let none : patterns_of (drop place rules) ≡ [] = ap patterns_of (drop_of_length-le rules le) in
    let whole : made.done ≡ rules_table (terms_of (patterns_of rules)) 1 =
    sym (append-nil made.done) ∙ ap (λ l. made.done ++ rules_table (terms_of l) (length now.owners.items)) (sym none) ∙ made.left in
    let all : now.building.states.items ≡ held.Moves [] ∷ held.Moves [] ∷ made.builds.more =
    made.builds.states ∙ ap (λ l. l ++ made.builds.more) states in record {
      enc = refl;
      states =
          subst (RepresentEach now.building.classes.list.items (automaton (terms_of (patterns_of rules)))) (sym all)
          (refl, (refl, subst (λ l. RepresentEach now.building.classes.list.items l made.builds.more) whole made.builds.held));
      classes = subst (λ n. AreClasses n now.building.classes.list.items) (made.builds.enc ∙ encoding) made.builds.are_classes;
      owners =
          sym (append-nil (seen_owners (seen_tags now.rules.items) now.owners.items))
          ∙ ap (λ l. seen_owners (seen_tags now.rules.items) now.owners.items ++ map owner (parts_of_rules place (length now.owners.items) l)) (sym none) ∙ made.owners;
      rules = sym (append-nil (seen_tags now.rules.items)) ∙ ap (λ l. seen_tags now.rules.items ++ map tags_pair l) (sym none) ∙ made.tags;
      begins =
          sym (append-nil now.begins.items)
          ∙ ap (λ l. now.begins.items ++ beginnings_from (terms_of l) (length now.owners.items)) (sym none) ∙ made.begins;
      marks = marks;
      live = marked;
    }

-- there is a state
pub made_some : (rules : List Rule) (start now : Making) (place : ℕ) → start.building.states.items ≡ held.Moves [] ∷ held.Moves [] ∷ []
    → RulesMade rules start now place → 0 < length now.building.states.items
made_some rules start now place states made =
    let all : length now.building.states.items ≡ length (held.Moves [] ∷ held.Moves [] ∷ made.builds.more) =
    ap length (made.builds.states ∙ ap (λ l. l ++ made.builds.more) states) in
    omega (arith, all)

-- the numbers of the states have 32 bits
pub made_few : (rules : List Rule) (start now : Making) (place : ℕ) → RulesMade rules start now place → length now.building.states.items < 2 ^ 32
made_few rules start now place made = omega (arith, made.count, made.room)
