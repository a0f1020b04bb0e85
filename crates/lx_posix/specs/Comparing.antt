-- Which of two walks over a unit comes first, and the number of the two, by what a kernel keeps: places and numbers.
use Rattle.std.specs.Prelude.{ℕ, zero, suc, ◌-◌, min, List, [], ◌∷◌, Bool, true, false, not, nat_le, nat_lt, if◌then◌else◌}
use Rattle.lx_regex.specs.Script.{Symbol}
use Rattle.lx_posix.specs.Parting.{Event, digit, down, events, keep, up}
use Rattle.lx_posix.specs.Walks.{lowest}

-- what is kept of a place: its rule, the number of the place, how many parts are open there, and the number that it has with the
-- place before it where that is one of its rule
pub record Ranked : Type 0 where
  pub rule : ℕ
  pub place : ℕ
  pub depth : ℕ
  pub number : ℕ

-- whether the first of two comes first, and their number
pub record Comparison : Type 0 where
  pub is_first : Bool
  pub number : ℕ

-- the same of the two the other way round
abbrev pub turned : Comparison → Comparison
turned comparison = record { is_first = not comparison.is_first; number = comparison.number }

-- one of three, by which of two numbers is less
abbrev pub by_order : {A : Type 0} → (number other : ℕ) → (before same behind : A) → A
by_order number other before same behind =
    if nat_lt number other then before else if nat_lt other number then behind else same

-- Two with this number go on over a unit, and keep so much of the positions that are open: the first stays first unless it keeps
-- less than both the number and what the other keeps.
abbrev pub weighed : (number kept other : ℕ) → Comparison
weighed number kept other = record { is_first = nat_le (min number other) kept; number = min number (min kept other) }

-- two walks over a unit from one place, at which so many parts are open: they are weighed where they part, the one with the lesser
-- digit as the first
abbrev pub forked : (depth : ℕ) → (walk way : List Event) → Comparison
forked depth (down ∷ walk) (down ∷ way) = forked (suc depth) walk way
forked depth (up ∷ walk) (up ∷ way) = forked (depth - 1) walk way
forked depth (digit choice ∷ walk) (digit other ∷ way) =
    by_order choice other
    (weighed depth (keep 1 depth depth walk) (keep 1 depth depth way))
    (forked depth walk way)
    (turned (weighed depth (keep 1 depth depth way) (keep 1 depth depth walk)))
forked depth walk way = record { is_first = true; number = depth }

-- the least of the numbers of the first places of a list, of which so many follow the first
abbrev pub least_number : List Ranked → (others : ℕ) → ℕ
least_number [] others = 0
least_number (ranked ∷ ranks) zero = ranked.number
least_number (ranked ∷ ranks) (suc others) = min ranked.number (least_number ranks others)

-- the number of the places with these indices: the least of those behind the first up to the other
abbrev pub number_between : List Ranked → (index other : ℕ) → ℕ
number_between [] index other = 0
number_between (ranked ∷ ranks) index zero = 0
number_between (ranked ∷ ranks) zero (suc other) = least_number ranks other
number_between (ranked ∷ ranks) (suc index) (suc other) = number_between ranks index other

abbrev pub ranked_at : List Ranked → (index : ℕ) → Ranked
ranked_at [] index = record { rule = 0; place = 0; depth = 0; number = 0 }
ranked_at (ranked ∷ ranks) zero = ranked
ranked_at (ranked ∷ ranks) (suc index) = ranked_at ranks index

-- two walks over a unit from places of one rule with these indices
abbrev pub compared_in_rule : List Ranked → (from : ℕ) → (walk : List Symbol) → (other : ℕ) → (way : List Symbol) → Comparison
compared_in_rule ranks from walk other way =
    by_order from other
    (weighed (number_between ranks from other)
    (lowest (ranked_at ranks from).depth (ranked_at ranks from).depth walk)
    (lowest (ranked_at ranks other).depth (ranked_at ranks other).depth way))
    (forked (ranked_at ranks from).depth (events walk) (events way))
    (turned (weighed (number_between ranks other from)
    (lowest (ranked_at ranks other).depth (ranked_at ranks other).depth way)
    (lowest (ranked_at ranks from).depth (ranked_at ranks from).depth walk)))

-- the same of places of any rules; those of different rules have no number
abbrev pub compared : List Ranked → (from : ℕ) → (walk : List Symbol) → (other : ℕ) → (way : List Symbol) → Comparison
compared ranks from walk other way =
    by_order (ranked_at ranks from).rule (ranked_at ranks other).rule
    (record { is_first = true; number = 0 })
    (compared_in_rule ranks from walk other way)
    (record { is_first = false; number = 0 })
