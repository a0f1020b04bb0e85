-- The states and parts of one rule: moves between them, and whose they are.
use Rattle.std.proofs.Common.{ap, ◌∙◌, subst, inl, inr, arith}
use Rattle.std.proofs.lemmas.Bool.{cases_order}
use Rattle.std.proofs.lemmas.List.{get_or_append_left, get_or-append_right, length-map, map-append}
use Rattle.std.specs.Prelude.{◌≡◌, ℕ, zero, suc, ◌+◌, ◌-◌, ◌*◌, ◌/◌, ◌<◌, ◌≤◌, ◌⊎◌, List, [], ◌∷◌, ◌++◌, map, length, get_or, Some, Bool, true, false, if◌then◌else◌, slice_get, slice_index, refl}
use Rattle.lx_base.specs.declared.settings.Enc.{Enc}
use Rattle.lx_regex.specs.Automaton.{Move, State, automaton, final, moves, rules_table, table, target}
use Rattle.lx_regex.specs.Cut.{rule_part}
use Rattle.lx_regex.specs.Parts.{Part, parts_in, parts_of, parts_of_rules}
use Rattle.lx_regex.specs.Pattern.{Pattern, is_end, terms_of, with_terms}
use Rattle.lx_regex.specs.Reading.{IsReading}
use Rattle.lx_regex.specs.Script.{Symbol}
use Rattle.lx_regex.specs.Term.{Term, parts}
use Rattle.lx_regex.specs.Walk.{IsAmong, first, next}
use Rattle.lx_regex.proofs.KernelCuts.Cuts.{code_even, paired_rules, rule_positive, rule_stands}
use Rattle.lx_regex.proofs.PartTables.PartCount.{part_count}
use Rattle.lx_regex.proofs.KernelCuts.RuleCuts.{AllTo, RowTo, row_stands, table_to}
use Rattle.lx_regex.proofs.PartTables.RuleParts.{parts_alike}
use Rattle.lx_regex.proofs.PartTables.Rows.{table_length}
use Rattle.lx_tdfa.proofs.Walks.NumbersApart.{rules_table-length}
use Rattle.lx_tdfa.proofs.Rules.WithinStates.{rules_parts}

module _ (rules : List Term) (index : ℕ) (e : Term) where
  -- the part is one of the rule with this index
  abbrev pub IsPartOf : ℕ → Type 0
  IsPartOf part = (rule_part rules index ≤ part) × (part < rule_part rules index + parts e)

  -- and so is the state
  abbrev pub IsStateOf : ℕ → Type 0
  IsStateOf state = (2 * rule_part rules index ≤ state) × (state < 2 * (rule_part rules index + parts e))

  -- or it is the last state of all
  abbrev pub IsWithin : ℕ → Type 0
  IsWithin state = (state ≡ 0) ⊎ IsStateOf state

  pub state_part : (state : ℕ) → IsStateOf state → IsPartOf (state / 2)
  state_part state is = let low = is.0 in let high = is.1 in (omega arith, omega arith)

  module _ (at : slice_get rules index ≡ Some e) where
    to_last : RowTo IsWithin (moves final)
    to_last m first = inl refl
    to_last m (next i) = elim i [ ]

    table_within : AllTo IsWithin (table e (rule_part rules index) final)
    table_within = table_to IsWithin e (rule_part rules index) final (λ x low high. inr (low, high)) to_last

    -- moves stay in the rule, or lead to the last state
    pub moves_within : (state : ℕ) (ways : List Move) (way : Move) → IsStateOf state → slice_get (automaton rules) state ≡ Some (moves ways)
        → IsAmong way ways → IsWithin (target way)
    moves_within state ways way is here among =
        let count : length (table e (rule_part rules index) final) ≡ 2 * parts e = table_length e (rule_part rules index) final in
        let low = is.0 in
        let high = is.1 in
        row_stands IsWithin (automaton rules) (2 * rule_part rules index) (table e (rule_part rules index) final) state (moves ways)
        (rule_stands rules index e at) table_within low (omega arith) here way among

    -- and so does the way through a leaf
    pub reading_within : (enc : Enc) (state : ℕ) (row : State) (choice : List Symbol) (read : List ℕ) → IsStateOf state
        → slice_get (automaton rules) state ≡ Some row → IsReading enc row choice read → IsStateOf (state + 1)
    reading_within enc state row choice read is here reading =
        let even = code_even enc (automaton rules) state row (paired_rules rules 1) here reading in
        let twice : state ≡ 2 * even.0 = even.1 in
        let low = is.0 in
        let high = is.1 in
        (omega arith, omega arith)

-- the rule of a part
pub record RuleOf (rules : List Term) (part : ℕ) : Type 0 where
  pub index : ℕ
  pub term : Term
  pub at : slice_get rules index ≡ Some term
  pub within : IsPartOf rules index term part

rule_of_part : (rules : List Term) (number : ℕ) → number < rules_parts rules → RuleOf rules (suc number)
rule_of_part [] number lt = absurd (omega arith)
rule_of_part (e ∷ rules) number lt =
    by (cases_order number (parts e)) (λ n less. rule_of_part rules n less)
  where
    later : (n : ℕ) → number ≡ parts e + n → RuleOf rules (suc n) → RuleOf (e ∷ rules) (suc number)
    later n is rule =
        let low : rule_part rules rule.index ≤ suc n = rule.within.0 in
        let high : suc n < rule_part rules rule.index + parts rule.term = rule.within.1 in
        record { index = suc rule.index; term = rule.term; at = rule.at; within = (omega arith, omega arith) }

    by : (number ≡ parts e) ⊎ ((number < parts e) ⊎ (parts e < number)) → ((n : ℕ) → n < rules_parts rules → RuleOf rules (suc n))
        → RuleOf (e ∷ rules) (suc number)
    by (inl same) more = later 0 (omega arith) (more 0 (omega arith))
    by (inr (inl less)) more = record { index = 0; term = e; at = refl; within = (omega arith, omega arith) }
    by (inr (inr over)) more = later (number - parts e) (omega arith) (more (number - parts e) (omega arith))

-- each state but those of part 0 is one of a rule
pub rule_of_state : (rules : List Term) (state : ℕ) → 2 ≤ state → state < length (automaton rules) → RuleOf rules (state / 2)
rule_of_state rules state some lt =
    let count = rules_table-length rules 1 in
    let part : suc (state / 2 - 1) ≡ state / 2 = omega arith in
    subst (RuleOf rules) part (rule_of_part rules (state / 2 - 1) (below (rules_table rules 1) (rules_parts rules) count lt))
  where
    below : (rows : List State) (n : ℕ) → length rows ≡ 2 * n → state < suc (suc (length rows)) → state / 2 - 1 < n
    below rows n e lt = omega arith

constant_at : {A : Type 0} (number : ℕ) (xs : List A) (k : ℕ) → k < length xs → get_or (map (λ (x : A). number) xs) k 0 ≡ number
constant_at number [] k lt = absurd (omega arith)
constant_at number (x ∷ xs) zero lt = refl
constant_at number (x ∷ xs) (suc k) lt = constant_at number xs k (omega arith)

-- the parts of a term are those of its rule
own_at : (rule up child part : ℕ) (e : Term) (k : ℕ) → k < parts e → get_or (map (λ (p : Part). p.rule) (parts_in rule up child part e)) k 0 ≡ rule
own_at rule up child part e k lt =
    let count = part_count rule up child part e in
    ap (λ l. get_or l k 0) (parts_alike (λ (p : Part). p.rule) (λ (p : Part). rule) rule (λ p is. is) up child part e)
    ∙ constant_at rule (parts_in rule up child part e) k (omega arith)

rules_own : (patterns : List Pattern) (child part index k : ℕ) (pattern : Pattern) → slice_get (with_terms patterns) index ≡ Some pattern
    → rule_part (terms_of patterns) index ≤ suc k → suc k < rule_part (terms_of patterns) index + parts pattern.term
    → get_or (map (λ (p : Part). p.rule) (parts_of_rules child part patterns)) k 0 ≡ pattern.number
rules_own [] child part index k pattern here low high = cc
rules_own (own ∷ patterns) child part index k pattern here low high =
    by (is_end own.kind) index k here low high
    (λ index k here low high. rules_own patterns (suc child) part index k pattern here low high)
    (λ index k here low high. rules_own patterns (suc child) (part + parts own.term) index k pattern here low high)
  where
    by : (b : Bool) (index k : ℕ) → slice_get (if b then with_terms patterns else own ∷ with_terms patterns) index ≡ Some pattern
        → rule_part (map (λ (x : Pattern). x.term) (if b then with_terms patterns else own ∷ with_terms patterns)) index ≤ suc k
        → suc k < rule_part (map (λ (x : Pattern). x.term) (if b then with_terms patterns else own ∷ with_terms patterns)) index + parts pattern.term
        → ((index k : ℕ) → slice_get (with_terms patterns) index ≡ Some pattern → rule_part (terms_of patterns) index ≤ suc k
        → suc k < rule_part (terms_of patterns) index + parts pattern.term
        → get_or (map (λ (p : Part). p.rule) (parts_of_rules (suc child) part patterns)) k 0 ≡ pattern.number)
        → ((index k : ℕ) → slice_get (with_terms patterns) index ≡ Some pattern → rule_part (terms_of patterns) index ≤ suc k
        → suc k < rule_part (terms_of patterns) index + parts pattern.term
        → get_or (map (λ (p : Part). p.rule) (parts_of_rules (suc child) (part + parts own.term) patterns)) k 0 ≡ pattern.number)
        → get_or (map (λ (p : Part). p.rule) (if b then parts_of_rules (suc child) part patterns
        else parts_in own.number 0 child part own.term ++ parts_of_rules (suc child) (part + parts own.term) patterns)) k 0 ≡ pattern.number
    by true index k here low high without others = without index k here low high
    by false zero k here low high without others =
        let same : own ≡ pattern = cc in
        let size : parts own.term ≡ parts pattern.term = ap (λ (x : Pattern). parts x.term) same in
        let count = part_count own.number 0 child part own.term in
        let all = length-map (parts_in own.number 0 child part own.term) (λ (p : Part). p.rule) in
        let less : k < length (map (λ (p : Part). p.rule) (parts_in own.number 0 child part own.term)) = omega arith in
        ap (λ l. get_or l k 0)
        (map-append (λ (p : Part). p.rule) (parts_in own.number 0 child part own.term) (parts_of_rules (suc child) (part + parts own.term) patterns))
        ∙ get_or_append_left (map (λ (p : Part). p.rule) (parts_in own.number 0 child part own.term))
        (map (λ (p : Part). p.rule) (parts_of_rules (suc child) (part + parts own.term) patterns)) 0 k less
        ∙ own_at own.number 0 child part own.term k (omega arith) ∙ ap (λ (x : Pattern). x.number) same
    by false (suc index) k here low high without others =
        let count = part_count own.number 0 child part own.term in
        let all = length-map (parts_in own.number 0 child part own.term) (λ (p : Part). p.rule) in
        let size : length (map (λ (p : Part). p.rule) (parts_in own.number 0 child part own.term)) ≡ parts own.term = omega arith in
        let positive : 0 < rule_part (terms_of patterns) index = rule_positive (terms_of patterns) index in
        ap (λ l. get_or l k 0)
        (map-append (λ (p : Part). p.rule) (parts_in own.number 0 child part own.term) (parts_of_rules (suc child) (part + parts own.term) patterns))
        ∙ get_or-append_right (map (λ (p : Part). p.rule) (parts_in own.number 0 child part own.term))
        (map (λ (p : Part). p.rule) (parts_of_rules (suc child) (part + parts own.term) patterns)) (parts own.term) k 0 size (omega arith)
        ∙ others index (k - parts own.term) here (omega arith) (omega arith)

-- the parts of a rule have its number
pub rule_owns : (patterns : List Pattern) (index part : ℕ) (pattern : Pattern) → slice_get (with_terms patterns) index ≡ Some pattern
    → IsPartOf (terms_of patterns) index pattern.term part
    → slice_index (map (λ (p : Part). p.rule) (parts_of patterns)) part ≡ pattern.number
rule_owns patterns index zero pattern here is =
    let positive = rule_positive (terms_of patterns) index in
    let low : rule_part (terms_of patterns) index ≤ 0 = is.0 in absurd (omega arith)
rule_owns patterns index (suc k) pattern here is = rules_own patterns 0 1 index k pattern here is.0 is.1

-- the pattern of a term
pub pattern_at : (patterns : List Pattern) (index : ℕ) (e : Term) → slice_get (map (λ (pattern : Pattern). pattern.term) patterns) index ≡ Some e
    → (pattern : Pattern) × (slice_get patterns index ≡ Some pattern) × (pattern.term ≡ e)
pattern_at [] index e here = cc
pattern_at (pattern ∷ patterns) zero e here = (pattern, refl, cc)
pattern_at (pattern ∷ patterns) (suc index) e here = pattern_at patterns index e here
