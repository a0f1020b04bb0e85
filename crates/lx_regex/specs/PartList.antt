-- The parts of a rule list as the program shows them.
use Rattle.std.specs.Prelude.{ℕ, ◌-◌, ◌/◌, List, [], ◌∷◌, map, length, nat_eq, if◌then◌else◌}
use Rattle.lx_class.specs.declared.ranges.Range.{Range}
use Rattle.lx_regex.specs.Parts as spec
use Rattle.lx_regex.specs.Parts.{Sort, rule_list, empty_word, code_points, code_unit, sequence, alternation, repetition, tag_event, tag_group, parts_of}
use Rattle.lx_regex.specs.Pattern.{Pattern}
use Rattle.lx_regex.specs.Term.{Term, empty, class, any_unit, cat, alt, repeat, tag, group}
use Rattle.lx_regex.specs.declared.parts.Part.{Part}
use Rattle.lx_regex.specs.declared.parts.PartSort.{PartSort}
use Rattle.lx_regex.specs.declared.parts.PartSort.TheVariants.{Rules, Empty, Class, AnyUnit, Cat, Alt, Rep, Tag, Group}

-- the set with these ranges
abbrev pub set_of : List (ℕ × ℕ) → List Range
set_of ranges = map (λ (range : ℕ × ℕ). record { lo = range.0; hi = range.1 }) ranges

-- what stands at a part of a rule that has so many tags; the number of a group follows from its opening tag
abbrev pub shown_sort : (tags : ℕ) → Sort → PartSort
shown_sort tags rule_list = Rules
shown_sort tags empty_word = Empty
shown_sort tags (code_points ranges) = Class (set_of ranges)
shown_sort tags code_unit = AnyUnit
shown_sort tags sequence = Cat
shown_sort tags alternation = Alt
shown_sort tags (repetition low high) = Rep low high
shown_sort tags (tag_event number) = Tag number
shown_sort tags (tag_group opening closing) = Group ((opening - tags) / 2)

-- a part of a rule that has so many tags
abbrev pub shown : (tags : ℕ) → spec.Part → Part
shown tags part = record { rule = part.rule; up = part.up; child = part.child; sort = shown_sort tags part.sort }

-- how many tags the rule with this number has
abbrev pub tags_of_rule : List Pattern → (number : ℕ) → ℕ
tags_of_rule [] number = 0
tags_of_rule (pattern ∷ patterns) number =
    if nat_eq pattern.number number then length pattern.many else tags_of_rule patterns number

-- the parts of a rule list
abbrev pub shown_parts : List Pattern → List Part
shown_parts patterns = map (λ (part : spec.Part). shown (tags_of_rule patterns part.rule) part) (parts_of patterns)

-- what a term itself is
abbrev pub own_sort : Term → Sort
own_sort empty = empty_word
own_sort (class ranges) = code_points ranges
own_sort any_unit = code_unit
own_sort (cat members) = sequence
own_sort (alt members) = alternation
own_sort (repeat body low high) = repetition low high
own_sort (tag number) = tag_event number
own_sort (group opening closing body) = tag_group opening closing
