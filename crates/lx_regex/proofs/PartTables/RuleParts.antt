-- The parts of a rule list, rule by rule.
use Rattle.std.proofs.Common.{◌≡◌, ◌≢◌, ℕ, zero, suc, ◌+◌, ◌-◌, ◌*◌, ◌<◌, ◌≤◌, arith, Bool, true, false, List, [], ◌∷◌, ◌++◌, map, length, get_or, drop, refl, sym, ap, ap₂, ◌∙◌, subst, append_assoc, append-nil, length-append, eq-eqb}
use Rattle.std.proofs.lemmas.Bool.{eqb-true}
use Rattle.std.proofs.lemmas.List.{map-append, length-map}
use Rattle.std.proofs.Math.Seq.{drop-cons}
use Rattle.std.specs.Bool.{OnFalse}
use Rattle.std.specs.Prelude.{nat_eq, ◌^◌, if◌then◌else◌}
use Rattle.lx_regex.specs.Term.{Term, empty, class, any_unit, cat, alt, repeat, tag, group, Terms, nil, cons, copies, parts}
use Rattle.lx_regex.specs.Script.{tags_in}
use Rattle.lx_regex.specs.Parts.{Part, copied_parts, parts_in, parts_among, parts_of_rules}
use Rattle.lx_regex.specs.PartList.{shown, shown_parts, tags_of_rule}
use Rattle.lx_regex.specs.Pattern.{Pattern, is_end, pattern_of, patterns_of, sorts_of}
use Rattle.lx_regex.specs.Values.{group_ends}
use Rattle.lx_regex.specs.Limits.{IsWithinLimits, IsRegular, AreRegular, HaveDifferentNumbers, NoneHasNumber, numbers_from, sizes_of, tags_of, end_count}
use Rattle.lx_regex.specs.Expr.{size_of, term_of}
use Rattle.lx_regex.specs.declared.rules.Rule.{Rule}
use Rattle.lx_regex.specs.declared.rules.Tag.{Tag}
use Rattle.lx_regex.specs.declared.parts.Part as program
use Rattle.lx_regex.proofs.PartTables.PartCount.{part_count}
use Rattle.lx_regex.proofs.PartTables.PartLists.{length-shown}
use Rattle.lx_regex.proofs.PartTables.PartSizes.{measured}

-- two functions that agree on the parts of one rule agree on all lists of such parts
module _ {A : Type 0} (f g : Part → A) (rule : ℕ) (same : (part : Part) → part.rule ≡ rule → f part ≡ g part) where
  copied_alike : (body : ℕ → ℕ → List Part) (size left number part : ℕ)
      → ((number part : ℕ) → map f (body number part) ≡ map g (body number part))
      → map f (copied_parts body size left number part) ≡ map g (copied_parts body size left number part)
  copied_alike body size zero number part each = refl
  copied_alike body size (suc left) number part each =
      map-append f (body number part) (copied_parts body size left (suc number) (part + size))
      ∙ ap₂ (λ a b. a ++ b) (each number part) (copied_alike body size left (suc number) (part + size) each)
      ∙ sym (map-append g (body number part) (copied_parts body size left (suc number) (part + size)))

  mutual
    pub parts_alike : (up child part : ℕ) (e : Term) → map f (parts_in rule up child part e) ≡ map g (parts_in rule up child part e)
    parts_alike up child part empty = ap (λ a. a ∷ []) (same _ refl)
    parts_alike up child part (class ranges) = ap (λ a. a ∷ []) (same _ refl)
    parts_alike up child part any_unit = ap (λ a. a ∷ []) (same _ refl)
    parts_alike up child part (cat members) = ap₂ (λ a b. a ∷ b) (same _ refl) (among_alike part 0 (part + 1) members)
    parts_alike up child part (alt members) = ap₂ (λ a b. a ∷ b) (same _ refl) (among_alike part 0 (part + 1) members)
    parts_alike up child part (repeat body low high) =
        ap₂ (λ a b. a ∷ b) (same _ refl)
        (copied_alike (λ number copy. parts_in rule part number copy body) (parts body) (copies low high) 0 (part + 1)
        (λ number copy. parts_alike part number copy body))
    parts_alike up child part (tag number) = ap (λ a. a ∷ []) (same _ refl)
    parts_alike up child part (group opening closing body) = ap₂ (λ a b. a ∷ b) (same _ refl) (parts_alike part 0 (part + 1) body)

    among_alike : (up child part : ℕ) (members : Terms)
        → map f (parts_among rule up child part members) ≡ map g (parts_among rule up child part members)
    among_alike up child part nil = refl
    among_alike up child part (cons member members) =
        map-append f (parts_in rule up child part member) (parts_among rule up (suc child) (part + parts member) members)
        ∙ ap₂ (λ a b. a ++ b) (parts_alike up child part member) (among_alike up (suc child) (part + parts member) members)
        ∙ sym (map-append g (parts_in rule up child part member) (parts_among rule up (suc child) (part + parts member) members))

  -- and so on the parts of one rule in its list
  pub rule_alike : (child part : ℕ) (pattern : Pattern) → pattern.number ≡ rule
      → map f (parts_of_rules child part (pattern ∷ [])) ≡ map g (parts_of_rules child part (pattern ∷ []))
  rule_alike child part pattern is = at (is_end pattern.kind)
    where
      at : (b : Bool) → map f (if b then [] else parts_in pattern.number 0 child part pattern.term ++ [])
          ≡ map g (if b then [] else parts_in pattern.number 0 child part pattern.term ++ [])
      at true = refl
      at false =
          subst
          (λ n. map f (parts_in n 0 child part pattern.term ++ []) ≡ map g (parts_in n 0 child part pattern.term ++ [])) (sym is)
          (subst (λ l. map f l ≡ map g l) (sym (append-nil (parts_in rule 0 child part pattern.term))) (parts_alike 0 child part pattern.term))

-- how many parts a rule has
abbrev pub rule_count : Pattern → ℕ
rule_count pattern = if is_end pattern.kind then 0 else parts pattern.term

pub rule_counted : (child part : ℕ) (pattern : Pattern) → length (parts_of_rules child part (pattern ∷ [])) ≡ rule_count pattern
rule_counted child part pattern = at (is_end pattern.kind)
  where
    at : (b : Bool) → length (if b then [] else parts_in pattern.number 0 child part pattern.term ++ []) ≡ (if b then 0 else parts pattern.term)
    at true = refl
    at false = ap length (append-nil (parts_in pattern.number 0 child part pattern.term)) ∙ part_count pattern.number 0 child part pattern.term

pub rules_part : (child part : ℕ) (pattern : Pattern) (patterns : List Pattern)
    → parts_of_rules child part (pattern ∷ patterns)
    ≡ parts_of_rules child part (pattern ∷ []) ++ parts_of_rules (suc child) (part + rule_count pattern) patterns
rules_part child part pattern patterns = at (is_end pattern.kind)
  where
    at : (b : Bool)
        → (if b then parts_of_rules (suc child) part patterns
        else parts_in pattern.number 0 child part pattern.term ++ parts_of_rules (suc child) (part + parts pattern.term) patterns)
        ≡ (if b then [] else parts_in pattern.number 0 child part pattern.term ++ [])
        ++ parts_of_rules (suc child) (part + (if b then 0 else parts pattern.term)) patterns
    at true = let e : part ≡ part + 0 = omega arith in ap (λ n. parts_of_rules (suc child) n patterns) e
    at false = ap (λ l. l ++ parts_of_rules (suc child) (part + parts pattern.term) patterns) (sym (append-nil (parts_in pattern.number 0 child part pattern.term)))

-- the rule at a place
pub next_rule : (rules : List Rule) (place : ℕ) (rule : Rule) → place < length rules → rule ≡ get_or rules place rule
    → drop place rules ≡ rule ∷ drop (suc place) rules
next_rule rules place rule lt is = drop-cons rules place rule lt ∙ ap (λ y. y ∷ drop (suc place) rules) (sym is)

none_at : (rules : List Rule) (place number : ℕ) (rule : Rule) → place < length rules → rule ≡ get_or rules place rule
    → NoneHasNumber number rules → rule.number ≢ number
none_at [] place number rule lt is none = absurd (omega arith)
none_at (first ∷ rules) zero number rule lt is none = λ e. none.0 (ap (λ (r : Rule). r.number) (sym is) ∙ e)
none_at (first ∷ rules) (suc place) number rule lt is none = none_at rules place number rule (omega arith) is none.1

tags_at : (rules : List Rule) (place : ℕ) (rule : Rule) → place < length rules → rule ≡ get_or rules place rule
    → HaveDifferentNumbers rules → tags_of_rule (patterns_of rules) rule.number ≡ length rule.tags
tags_at [] place rule lt is differ = absurd (omega arith)
tags_at (first ∷ rules) zero rule lt is differ =
    let same : first ≡ rule = sym is in
    subst (λ y. tags_of_rule (patterns_of (y ∷ rules)) rule.number ≡ length rule.tags) is
    (ap (λ b. if b then length (pattern_of rule).many else tags_of_rule (patterns_of rules) rule.number) (eq-eqb rule.number rule.number refl)
    ∙ length-map rule.tags (λ (tag : Tag). tag.many))
tags_at (first ∷ rules) (suc place) rule lt is differ =
    let apart = none_at rules place first.number rule (omega arith) is differ.0 in
    ap (λ b. if b then length (pattern_of first).many else tags_of_rule (patterns_of rules) rule.number)
    (other (nat_eq first.number rule.number) refl apart)
    ∙ tags_at rules place rule (omega arith) is differ.1
  where
    other : (b : Bool) → nat_eq first.number rule.number ≡ b → rule.number ≢ first.number → nat_eq first.number rule.number ≡ false
    other true e apart = absurd (apart (sym (eqb-true first.number rule.number e)))
    other false e apart = e

pub regular_at : (rules : List Rule) (place : ℕ) (rule : Rule) → place < length rules → rule ≡ get_or rules place rule
    → AreRegular rules → OnFalse (is_end rule.kind) (IsRegular (pattern_of rule))
regular_at [] place rule lt is regular = absurd (omega arith)
regular_at (first ∷ rules) zero rule lt is regular =
    subst (λ (y : Rule). OnFalse (is_end y.kind) (IsRegular (pattern_of y))) (sym is) regular.0
regular_at (first ∷ rules) (suc place) rule lt is regular = regular_at rules place rule (omega arith) is regular.1

pub few_tags : (rules : List Rule) (place : ℕ) (rule : Rule) → place < length rules → rule ≡ get_or rules place rule
    → length rule.tags + 2 * (rule.groups - 1) ≤ tags_of rules
few_tags [] place rule lt is = absurd (omega arith)
few_tags (first ∷ rules) zero rule lt is =
    subst (λ (y : Rule). length y.tags + 2 * (y.groups - 1) ≤ tags_of (first ∷ rules)) (sym is) (omega arith)
few_tags (first ∷ rules) (suc place) rule lt is =
    let few : length rule.tags + 2 * (rule.groups - 1) ≤ tags_of rules = few_tags rules place rule (omega arith) is in omega arith

pub length-group_ends : (groups : ℕ) → length (group_ends groups) ≡ 2 * groups
length-group_ends zero = refl
length-group_ends (suc groups) = let e = length-group_ends groups in omega (arith, e)

pub length-numbers_from : (number count : ℕ) → length (numbers_from number count) ≡ count
length-numbers_from number zero = refl
length-numbers_from number (suc count) = ap suc (length-numbers_from (suc number) count)

-- a regular rule has at most 130 tags and group ends in its term
pub few_ends : (rules : List Rule) (place : ℕ) (rule : Rule) → place < length rules → rule ≡ get_or rules place rule → tags_of rules ≤ 128
    → IsRegular (pattern_of rule) → length (tags_in (pattern_of rule).term) ≤ 130
few_ends rules place rule lt is few regular =
    let count = ap length regular.tags ∙ length-numbers_from 0 (length (sorts_of (pattern_of rule))) in
    let both = length-append (pattern_of rule).many (group_ends rule.groups) in
    let first = length-map rule.tags (λ (tag : Tag). tag.many) in
    let ends = length-group_ends rule.groups in
    let within = few_tags rules place rule lt is in
    omega (arith, count, both, first, ends, within)

-- so it has few parts
pub few_parts : (rules : List Rule) (place : ℕ) (rule : Rule) → place < length rules → rule ≡ get_or rules place rule → tags_of rules ≤ 128
    → IsRegular (pattern_of rule) → parts (pattern_of rule).term + 1 ≤ 132 * size_of rule.expr
few_parts rules place rule lt is few regular =
    let bound = (measured rule.expr).bound (length rule.tags) regular.sequences in
    at (parts (pattern_of rule).term) (length (tags_in (pattern_of rule).term)) (size_of rule.expr) bound (few_ends rules place rule lt is few regular)
  where
    at : (p ends size : ℕ) → p + 1 ≤ (2 + ends) * size → ends ≤ 130 → p + 1 ≤ 132 * size
    at p ends size bound le = let more : (2 + ends) * size ≤ 132 * size = grind arith in omega arith

-- what a loop over rules still has to put to the end, and that there is room for it
pub record RulesLeft (rules : List Rule) (now : List program.Part) (place : ℕ) : Type 0 where
  pub left : now ++ map (λ (part : Part). shown (tags_of_rule (patterns_of rules) part.rule) part) (parts_of_rules place (length now) (patterns_of (drop place rules)))
      ≡ shown_parts (patterns_of rules)
  pub room : length now + 132 * sizes_of (drop place rules) ≤ 1 + 132 * 4096

-- the size of one rule
abbrev pub own_size : Rule → ℕ
own_size rule = if is_end rule.kind then 0 else size_of rule.expr

pub rule_room : (b : Bool) (rules : List Rule) (place : ℕ) (rule : Rule) → is_end rule.kind ≡ b → place < length rules → rule ≡ get_or rules place rule
    → IsWithinLimits rules → rule_count (pattern_of rule) ≤ 132 * own_size rule
rule_room true rules place rule e lt is limits =
    subst (λ b. (if b then 0 else parts (pattern_of rule).term) ≤ 132 * (if b then 0 else size_of rule.expr)) (sym e) (omega arith)
rule_room false rules place rule e lt is limits =
    let regular = subst (λ b. OnFalse b (IsRegular (pattern_of rule))) e (regular_at rules place rule lt is limits.regular) in
    let few = few_parts rules place rule lt is limits.tags regular in
    subst (λ b. (if b then 0 else parts (pattern_of rule).term) ≤ 132 * (if b then 0 else size_of rule.expr)) (sym e) (omega (arith, few))

pub sizes_next : (rules : List Rule) (place : ℕ) (rule : Rule) → place < length rules → rule ≡ get_or rules place rule
    → sizes_of (drop place rules) ≡ own_size rule + sizes_of (drop (suc place) rules)
sizes_next rules place rule lt is = ap sizes_of (next_rule rules place rule lt is)

pub rules_room : (rules : List Rule) (now : List program.Part) (place : ℕ) (rule : Rule) → place < length rules → rule ≡ get_or rules place rule
    → IsWithinLimits rules → RulesLeft rules now place
    → OnFalse (is_end rule.kind) ((tags : ℕ) → length now + parts (term_of tags rule.expr) < 2 ^ 32)
rules_room rules now place rule lt is limits left = at (is_end rule.kind) refl
  where
    at : (b : Bool) → is_end rule.kind ≡ b → OnFalse b ((tags : ℕ) → length now + parts (term_of tags rule.expr) < 2 ^ 32)
    at true e = tt
    at false e = λ tags.
        let fits = rule_room false rules place rule e lt is limits in
        let count : rule_count (pattern_of rule) ≡ parts (pattern_of rule).term = ap (λ b. if b then 0 else parts (pattern_of rule).term) e in
        let alike = (measured rule.expr).alike tags (length rule.tags) in
        omega (arith, fits, count, alike, sizes_next rules place rule lt is, left.room)

pub rules_more : (rules : List Rule) (now new : List program.Part) (place : ℕ) (rule : Rule) → place < length rules → rule ≡ get_or rules place rule
    → IsWithinLimits rules → RulesLeft rules now place
    → new ≡ now ++ map (shown (length rule.tags)) (parts_of_rules place (length now) (pattern_of rule ∷ []))
    → RulesLeft rules new (suc place)
rules_more rules now new place rule lt is limits left more =
    let pattern = pattern_of rule in
    let f : Part → program.Part = λ (part : Part). shown (tags_of_rule (patterns_of rules) part.rule) part in
    let own = parts_of_rules place (length now) (pattern ∷ []) in
    let rest = patterns_of (drop (suc place) rules) in
    let tags = tags_at rules place rule lt is limits.numbers in
    let same : map (shown (length rule.tags)) own ≡ map f own =
    rule_alike (shown (length rule.tags)) f rule.number
    (λ part e. ap (λ n. shown n part) (sym tags ∙ ap (tags_of_rule (patterns_of rules)) (sym e))) place (length now) pattern refl in
    let count : length new ≡ length now + rule_count pattern =
    ap length more ∙ length-shown (length rule.tags) now own (rule_count pattern) (rule_counted place (length now) pattern) in
    let fits = rule_room (is_end rule.kind) rules place rule refl lt is limits in record {
      left =
          ap₂ (λ a n. a ++ map f (parts_of_rules (suc place) n rest)) (more ∙ ap (λ l. now ++ l) same) count
          ∙ append_assoc now (map f own) (map f (parts_of_rules (suc place) (length now + rule_count pattern) rest))
          ∙ ap (λ l. now ++ l) (sym (map-append f own (parts_of_rules (suc place) (length now + rule_count pattern) rest)))
          ∙ ap (λ l. now ++ map f l) (sym (rules_part place (length now) pattern rest))
          ∙ ap (λ l. now ++ map f (parts_of_rules place (length now) (patterns_of l))) (sym (next_rule rules place rule lt is))
          ∙ left.left;
      room = omega (arith, count, fits, sizes_next rules place rule lt is, left.room);
    }

-- there are few rules
pub few_rules : (rules : List Rule) → IsWithinLimits rules → length rules ≤ 4097
few_rules rules limits = let few = at rules limits.regular in omega (arith, few, limits.size, limits.ends)
  where
    positive : (p ends size : ℕ) → p + 1 ≤ (2 + ends) * size → 1 ≤ size
    positive p ends zero bound = absurd (omega arith)
    positive p ends (suc size) bound = omega arith

    one : (b : Bool) (rule : Rule) → is_end rule.kind ≡ b → OnFalse b (IsRegular (pattern_of rule))
        → 1 ≤ (if b then 0 else size_of rule.expr) + (if b then 1 else 0)
    one true rule e regular = omega arith
    one false rule e regular =
        let some = positive (parts (pattern_of rule).term) (length (tags_in (pattern_of rule).term)) (size_of rule.expr) ((measured rule.expr).bound (length rule.tags) regular.sequences) in
        omega (arith, some)

    at : (rules : List Rule) → AreRegular rules → length rules ≤ sizes_of rules + end_count rules
    at [] regular = omega arith
    at (rule ∷ rules) regular = omega (arith, at rules regular.1, one (is_end rule.kind) rule refl regular.0)
