-- Worked examples. Letters stand for their codes: "a" is 97, "b" 98, "x" 120 and "y" 121.
use Rattle.std.specs.Prelude.{◌≡◌, ℕ, List, [], ◌∷◌, Some, None, false, true}
use Rattle.lx_base.specs.declared.settings.Enc.TheVariants.{Utf8, Utf16}
use Rattle.lx_regex.specs.Term.{Term, empty, class, any_unit, cat, alt, repeat, tag, group, Terms, nil, cons}
use Rattle.lx_regex.specs.Tree.{Tree}
use Rattle.lx_regex.specs.Script.{begins, ends, reads, sets, unsets, picks, script, units, choices}
use Rattle.lx_regex.specs.Plain.{IsPlain}
use Rattle.lx_regex.specs.Order.{greedy, posix, TreePrecedes}
use Rattle.lx_regex.specs.Least.{IsLeast}
use Rattle.lx_regex.specs.Values.{single, history, values_of, group_ends, cursor_behind}
use Rattle.lx_regex.specs.Pattern.{Pattern, terms_of}
use Rattle.lx_regex.specs.Cut.{Cut, IsCut, Precedes}
use Rattle.lx_regex.specs.Kernel.{IsKernel}
use Rattle.lx_regex.specs.Parts.{rule_list, code_points, sequence, alternation, repetition, tag_event, parts_of}
use Rattle.lx_regex.specs.Match.{IsMatch, matched, unmatched}
use Rattle.lx_regex.specs.declared.rules.Kind.{Kind}
use Rattle.lx_regex.specs.declared.rules.Kind.TheVariants.{Plain, Default, Eof}
use Rattle.lx_regex.specs.Automaton.{move, moves, leaf, automaton}

-- the class of one code point
abbrev pub letter : ℕ → Term
letter number = class ((number, number) ∷ [])

-- members as a list of two, and of three
abbrev pub two : Term → Term → Terms
two first second = cons first (cons second nil)

abbrev pub three : Term → Term → Term → Terms
three first second third = cons first (two second third)

-- ("a" @t | "b")*
abbrev pub tagged_letters : Term
tagged_letters = repeat (alt (two (cat (two (letter 97) (tag 0))) (letter 98))) 0 None

-- After `ab` the tag is unset: the second iteration chose the other alternative. After `ba` it stands at 2, and with no
-- iteration it is unset.
pub record AlternativesUnsetTags (on_ab on_ba on_nothing : Tree tagged_letters) : Type 0 where
  pub ab_units : units (script Utf8 1 on_ab) ≡ 97 ∷ 98 ∷ []
  pub ab_script : script Utf8 1 on_ab ≡
      begins 1
      ∷ picks 0 ∷ begins 2 ∷ picks 0 ∷ begins 3 ∷ begins 4 ∷ reads 97 ∷ ends 4 ∷ begins 5 ∷ sets 0 ∷ ends 5 ∷ ends 3 ∷ ends 2
      ∷ picks 0 ∷ begins 2 ∷ picks 1 ∷ unsets 0 ∷ begins 6 ∷ reads 98 ∷ ends 6 ∷ ends 2
      ∷ picks 1 ∷ ends 1 ∷ []
  pub ab_choices : choices (script Utf8 1 on_ab) ≡ 0 ∷ 0 ∷ 0 ∷ 1 ∷ 1 ∷ []
  pub ab_value : values_of 0 (script Utf8 1 on_ab) 0 (false ∷ []) ≡ single None ∷ []
  pub ba_units : units (script Utf8 1 on_ba) ≡ 98 ∷ 97 ∷ []
  pub ba_choices : choices (script Utf8 1 on_ba) ≡ 0 ∷ 1 ∷ 0 ∷ 0 ∷ 1 ∷ []
  pub ba_value : values_of 0 (script Utf8 1 on_ba) 0 (false ∷ []) ≡ single (Some 2) ∷ []
  pub nothing_script : script Utf8 1 on_nothing ≡ begins 1 ∷ picks 1 ∷ unsets 0 ∷ ends 1 ∷ []
  pub nothing_value : values_of 0 (script Utf8 1 on_nothing) 0 (false ∷ []) ≡ single None ∷ []

-- (#m "x" | "y")*
abbrev pub marked_letters : Term
marked_letters = repeat (alt (two (cat (two (tag 0) (letter 120))) (letter 121))) 0 None

-- on `xyx` from the offset 0 the m-tag has all three events
pub record HistoriesKeepAllEvents (on_xyx : Tree marked_letters) : Type 0 where
  pub xyx_units : units (script Utf8 1 on_xyx) ≡ 120 ∷ 121 ∷ 120 ∷ []
  pub xyx_value : values_of 0 (script Utf8 1 on_xyx) 0 (true ∷ []) ≡ history (Some 0 ∷ None ∷ Some 2 ∷ []) ∷ []

-- (("x"?)(""|"y"))* under captures: the whole is group 0, and group k has the numbers 2 k and 2 k + 1
abbrev pub grouped_letters : Term
grouped_letters =
    group 0 1 (repeat (group 2 3 (cat (two
    (group 4 5 (repeat (letter 120) 0 (Some 1)))
    (group 6 7 (alt (two empty (letter 121))))))) 0 None)

-- On `xy` one iteration takes both letters. The empty alternative first, and `y` in an iteration of its own, would be lesser
-- choices, and so would an empty iteration at the end; but neither tree is plain.
pub record EmptyIterationsAreNotPlain (on_xy in_two with_empty : Tree grouped_letters) : Type 0 where
  pub least : IsLeast greedy Utf8 1 grouped_letters (120 ∷ 121 ∷ []) on_xy
  pub xy_choices : choices (script Utf8 1 on_xy) ≡ 0 ∷ 0 ∷ 1 ∷ 1 ∷ []
  pub xy_groups : values_of 0 (script Utf8 1 on_xy) 0 (group_ends 4) ≡
      single (Some 0) ∷ single (Some 2) ∷ single (Some 0) ∷ single (Some 2)
      ∷ single (Some 0) ∷ single (Some 1) ∷ single (Some 1) ∷ single (Some 2) ∷ []
  pub two_units : units (script Utf8 1 in_two) ≡ 120 ∷ 121 ∷ []
  pub two_choices : choices (script Utf8 1 in_two) ≡ 0 ∷ 0 ∷ 0 ∷ 0 ∷ 1 ∷ 1 ∷ 1 ∷ []
  pub two_not_plain : IsPlain (script Utf8 1 in_two) → ⊥
  pub empty_units : units (script Utf8 1 with_empty) ≡ 120 ∷ 121 ∷ []
  pub empty_choices : choices (script Utf8 1 with_empty) ≡ 0 ∷ 0 ∷ 1 ∷ 0 ∷ 1 ∷ 0 ∷ 1 ∷ []
  pub empty_not_plain : IsPlain (script Utf8 1 with_empty) → ⊥

-- "a" / "b"+, whose trailing context begins at the tag 0
abbrev pub letter_in_context : Term
letter_in_context = cat (three (letter 97) (tag 0) (repeat (letter 98) 1 None))

-- on `abbb` from the offset 5 the word is all four letters long, and the cursor stands behind the first
pub record ContextsPutTheCursorBack (on_abbb : Tree letter_in_context) : Type 0 where
  pub abbb_units : units (script Utf8 1 on_abbb) ≡ 97 ∷ 98 ∷ 98 ∷ 98 ∷ []
  pub cursor : cursor_behind 5 (97 ∷ 98 ∷ 98 ∷ 98 ∷ []) (script Utf8 1 on_abbb) (Some 0) ≡ Some 6
  pub without_context : cursor_behind 5 (97 ∷ 98 ∷ 98 ∷ 98 ∷ []) (script Utf8 1 on_abbb) None ≡ Some 9

-- [^\x00] @t [^\x00]? in UTF-16, where a surrogate is a code point like others
abbrev pub one_or_two_points : Term
one_or_two_points = cat (three (class ((1, 0x10FFFF) ∷ [])) (tag 0) (repeat (class ((1, 0x10FFFF) ∷ [])) 0 (Some 1)))

-- the units 0xD800 and 0xDC00 are one code point, 0x10000, before they are two
pub record PairsComeBeforeSurrogates (as_pair as_two : Tree one_or_two_points) : Type 0 where
  pub pair_units : units (script Utf16 1 as_pair) ≡ 0xD800 ∷ 0xDC00 ∷ []
  pub two_units : units (script Utf16 1 as_two) ≡ 0xD800 ∷ 0xDC00 ∷ []
  pub pair_choices : choices (script Utf16 1 as_pair) ≡ 0 ∷ 1 ∷ []
  pub two_choices : choices (script Utf16 1 as_two) ≡ 1 ∷ 0 ∷ 1 ∷ []
  pub pair_first : TreePrecedes greedy Utf16 1 as_pair as_two
  pub pair_value : values_of 0 (script Utf16 1 as_pair) 0 (false ∷ []) ≡ single (Some 2) ∷ []

-- ("a" | "ab" | "b")*
abbrev pub overlapping_letters : Term
overlapping_letters = repeat (alt (three (letter 97) (cat (two (letter 97) (letter 98))) (letter 98))) 0 None

-- on `ab` leftmost greedy means two iterations, and the POSIX order one, since its first iteration is longer
pub record PoliciesDiffer (in_one in_two : Tree overlapping_letters) : Type 0 where
  pub one_units : units (script Utf8 1 in_one) ≡ 97 ∷ 98 ∷ []
  pub two_units : units (script Utf8 1 in_two) ≡ 97 ∷ 98 ∷ []
  pub leftmost : TreePrecedes greedy Utf8 1 in_two in_one
  pub longest : TreePrecedes posix Utf8 1 in_one in_two

-- a rule without tags
abbrev pub plain_rule : (number : ℕ) → Kind → Term → Pattern
plain_rule number kind term = record { number = number; kind = kind; term = term; many = []; slash = None; groups = 0 }

-- the parts and the states of ("a" @t | "b")*, and the states of "a"{2,3}, whose three copies are parts of their own
pub record TablesAre : Type 0 where
  pub tagged_parts : parts_of (plain_rule 1 Plain tagged_letters ∷ []) ≡
      record { rule = 0; up = 0; child = 0; sort = rule_list }
      ∷ record { rule = 1; up = 0; child = 0; sort = repetition 0 None }
      ∷ record { rule = 1; up = 1; child = 0; sort = alternation }
      ∷ record { rule = 1; up = 2; child = 0; sort = sequence }
      ∷ record { rule = 1; up = 3; child = 0; sort = code_points ((97, 97) ∷ []) }
      ∷ record { rule = 1; up = 3; child = 1; sort = tag_event 0 }
      ∷ record { rule = 1; up = 2; child = 1; sort = code_points ((98, 98) ∷ []) }
      ∷ []
  pub tagged : automaton (tagged_letters ∷ []) ≡
      moves [] ∷ moves []
      ∷ moves (move (Some 0) [] [] 4 ∷ move (Some 1) [] (0 ∷ []) 3 ∷ []) ∷ moves (move None [] [] 0 ∷ [])
      ∷ moves (move (Some 0) [] [] 6 ∷ move (Some 1) [] (0 ∷ []) 12 ∷ [])
      ∷ moves (move (Some 0) [] [] 4 ∷ move (Some 1) [] [] 3 ∷ [])
      ∷ moves (move None [] [] 8 ∷ []) ∷ moves (move None [] [] 5 ∷ [])
      ∷ leaf ((97, 97) ∷ []) ∷ moves (move None [] [] 10 ∷ [])
      ∷ moves (move None (0 ∷ []) [] 11 ∷ []) ∷ moves (move None [] [] 7 ∷ [])
      ∷ leaf ((98, 98) ∷ []) ∷ moves (move None [] [] 5 ∷ [])
      ∷ []
  pub copied : automaton (repeat (letter 97) 2 (Some 3) ∷ []) ≡
      moves [] ∷ moves []
      ∷ moves (move None [] [] 4 ∷ []) ∷ moves (move None [] [] 0 ∷ [])
      ∷ leaf ((97, 97) ∷ []) ∷ moves (move None [] [] 6 ∷ [])
      ∷ leaf ((97, 97) ∷ []) ∷ moves (move (Some 0) [] [] 8 ∷ move (Some 1) [] [] 3 ∷ [])
      ∷ leaf ((97, 97) ∷ []) ∷ moves (move None [] [] 3 ∷ [])
      ∷ []

-- "a", "a", `*` and `$`
abbrev pub single_letters : List Pattern
single_letters =
    plain_rule 1 Plain (letter 97) ∷ plain_rule 2 Plain (letter 97) ∷ plain_rule 3 Default any_unit ∷ plain_rule 4 Eof empty ∷ []

-- "a" and "ab"
abbrev pub short_and_long : List Pattern
short_and_long = plain_rule 1 Plain (letter 97) ∷ plain_rule 2 Plain (cat (two (letter 97) (letter 98))) ∷ []

-- "ab" alone
abbrev pub only_long : List Pattern
only_long = plain_rule 1 Plain (cat (two (letter 97) (letter 98))) ∷ []

-- Of several rules that take one letter the first is taken, and at the end `$`; a longer word goes before an earlier rule; and
-- where no rule takes a word, the cursor stands behind what begins a match, which on `ac` is `a`.
pub record MatchesAre : Type 0 where
  pub first_rule : IsMatch greedy Utf8 single_letters (97 ∷ 97 ∷ []) 0 (matched 1 1 [])
  pub at_end : IsMatch greedy Utf8 single_letters (97 ∷ 97 ∷ []) 2 (matched 4 2 [])
  pub longest_word : IsMatch greedy Utf8 short_and_long (97 ∷ 98 ∷ []) 0 (matched 2 2 [])
  pub no_rule : IsMatch greedy Utf8 only_long (97 ∷ 99 ∷ []) 0 (unmatched 1)

-- Of the rule "ab" the kernel of `a` has one place, behind the "a" in part 2; at `b` there is no cut.
pub record KernelsAre : Type 0 where
  pub after_a : IsKernel Precedes Utf8 (terms_of only_long) (97 ∷ []) (record { rule = 0; front = begins 1 ∷ begins 2 ∷ reads 97 ∷ [] } ∷ [])
  pub not_b : (cut : Cut) → IsCut Utf8 (terms_of only_long) (98 ∷ []) cut → ⊥
