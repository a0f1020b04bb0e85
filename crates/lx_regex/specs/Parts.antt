-- The parts of a rule list, in preorder: each occurrence of a term is a part of its own.
use Rattle.std.specs.Prelude.{◌≡◌, ℕ, zero, suc, ◌+◌, List, [], ◌∷◌, ◌++◌, Option, if◌then◌else◌}
use Rattle.lx_regex.specs.Term.{Term, empty, class, any_unit, cat, alt, repeat, tag, group, Terms, nil, cons, copies, parts}
use Rattle.lx_regex.specs.Pattern.{Pattern, is_end}
use Rattle.lx_regex.specs.Automaton.{State, moves, leaf, unit_leaf}

-- what stands at a part
pub data Sort : Type 0 where
  rule_list : Sort
  empty_word : Sort
  code_points : (ranges : List (ℕ × ℕ)) → Sort
  code_unit : Sort
  sequence : Sort
  alternation : Sort
  repetition : (low : ℕ) (high : Option ℕ) → Sort
  tag_event : (number : ℕ) → Sort
  tag_group : (opening closing : ℕ) → Sort

-- a part: the number of its rule, the part directly around it, its place among the parts in that one, and what it is
pub record Part : Type 0 where
  pub rule : ℕ
  pub up : ℕ
  pub child : ℕ
  pub sort : Sort

-- so many copies of a body of this size, from one number on, of which the first is this part
abbrev pub copied_parts : (body : ℕ → ℕ → List Part) → (size left number part : ℕ) → List Part
copied_parts body size zero number part = []
copied_parts body size (suc left) number part = body number part ++ copied_parts body size left (suc number) (part + size)

-- the parts of a term that is this part, at its place in the part around it
abbrev mutual
  pub parts_in : (rule up child part : ℕ) → Term → List Part
  parts_in rule up child part empty = record { rule = rule; up = up; child = child; sort = empty_word } ∷ []
  parts_in rule up child part (class ranges) = record { rule = rule; up = up; child = child; sort = code_points ranges } ∷ []
  parts_in rule up child part any_unit = record { rule = rule; up = up; child = child; sort = code_unit } ∷ []
  parts_in rule up child part (cat members) =
      record { rule = rule; up = up; child = child; sort = sequence } ∷ parts_among rule part 0 (part + 1) members
  parts_in rule up child part (alt members) =
      record { rule = rule; up = up; child = child; sort = alternation } ∷ parts_among rule part 0 (part + 1) members
  parts_in rule up child part (repeat body low high) =
      record { rule = rule; up = up; child = child; sort = repetition low high }
      ∷ copied_parts (λ number copy. parts_in rule part number copy body) (parts body) (copies low high) 0 (part + 1)
  parts_in rule up child part (tag number) = record { rule = rule; up = up; child = child; sort = tag_event number } ∷ []
  parts_in rule up child part (group opening closing body) =
      record { rule = rule; up = up; child = child; sort = tag_group opening closing } ∷ parts_in rule part 0 (part + 1) body

  -- those of members, from one place on
  pub parts_among : (rule up child part : ℕ) → Terms → List Part
  parts_among rule up child part nil = []
  parts_among rule up child part (cons member members) =
      parts_in rule up child part member ++ parts_among rule up (suc child) (part + parts member) members

-- those of rules, from one place in the list on; the rule `$` has none
abbrev pub parts_of_rules : (child part : ℕ) → List Pattern → List Part
parts_of_rules child part [] = []
parts_of_rules child part (pattern ∷ patterns) =
    if is_end pattern.kind then parts_of_rules (suc child) part patterns
    else parts_in pattern.number 0 child part pattern.term ++ parts_of_rules (suc child) (part + parts pattern.term) patterns

-- the parts of a rule list, which is itself part 0
abbrev pub parts_of : List Pattern → List Part
parts_of patterns = record { rule = 0; up = 0; child = 0; sort = rule_list } ∷ parts_of_rules 0 1 patterns

-- what stands at the beginning of a part: a leaf of the same class, a leaf of any unit, or else moves
abbrev pub IsBeginning : Sort → State → Type 0
IsBeginning (code_points ranges) (leaf others) = ranges ≡ others
IsBeginning (code_points ranges) (moves ways) = ⊥
IsBeginning (code_points ranges) unit_leaf = ⊥
IsBeginning code_unit unit_leaf = Unit {0}
IsBeginning code_unit (moves ways) = ⊥
IsBeginning code_unit (leaf ranges) = ⊥
IsBeginning rule_list (moves ways) = Unit {0}
IsBeginning empty_word (moves ways) = Unit {0}
IsBeginning sequence (moves ways) = Unit {0}
IsBeginning alternation (moves ways) = Unit {0}
IsBeginning (repetition low high) (moves ways) = Unit {0}
IsBeginning (tag_event number) (moves ways) = Unit {0}
IsBeginning (tag_group opening closing) (moves ways) = Unit {0}
IsBeginning sort state = ⊥
