-- The values of tags and groups, and the cursor behind a match.
use Rattle.std.specs.Prelude.{ℕ, zero, suc, ◌+◌, List, [], ◌∷◌, length, Option, Some, None, Bool, true, false, ◌==◌, if◌then◌else◌}
use Rattle.lx_regex.specs.Script.{Symbol, begins, ends, reads, sets, unsets, picks}

-- The last event of a tag in a script that begins at the offset `here`: where it stands, or none where it is negative. Before
-- any event it is `last`.
abbrev pub last_event : (number here : ℕ) → (last : Option ℕ) → List Symbol → Option ℕ
last_event number here last [] = last
last_event number here last (reads code ∷ rest) = last_event number (suc here) last rest
last_event number here last (sets other ∷ rest) = last_event number here (if other == number then Some here else last) rest
last_event number here last (unsets other ∷ rest) = last_event number here (if other == number then None else last) rest
last_event number here last (begins part ∷ rest) = last_event number here last rest
last_event number here last (ends part ∷ rest) = last_event number here last rest
last_event number here last (picks choice ∷ rest) = last_event number here last rest

-- all events of a tag, in order: where each stands, or none where it is negative
abbrev pub all_events : (number here : ℕ) → List Symbol → List (Option ℕ)
all_events number here [] = []
all_events number here (reads code ∷ rest) = all_events number (suc here) rest
all_events number here (sets other ∷ rest) =
    if other == number then Some here ∷ all_events number here rest else all_events number here rest
all_events number here (unsets other ∷ rest) =
    if other == number then None ∷ all_events number here rest else all_events number here rest
all_events number here (begins part ∷ rest) = all_events number here rest
all_events number here (ends part ∷ rest) = all_events number here rest
all_events number here (picks choice ∷ rest) = all_events number here rest

-- the value of an s-tag or of a group's end, and that of an m-tag
pub data Value : Type 0 where
  single : (offset : Option ℕ) → Value
  history : (offsets : List (Option ℕ)) → Value

-- the value of a tag in a script from an offset on
abbrev pub value_of : (start : ℕ) → List Symbol → (number : ℕ) → (many : Bool) → Value
value_of start script number true = history (all_events number start script)
value_of start script number false = single (last_event number start None script)

-- the values of tags that are numbered from one number on, of each of which it is told whether it is an m-tag
abbrev pub values_of : (start : ℕ) → List Symbol → (number : ℕ) → (sorts : List Bool) → List Value
values_of start script number [] = []
values_of start script number (many ∷ sorts) = value_of start script number many ∷ values_of start script (suc number) sorts

-- the two ends of each group, which have single values
abbrev pub group_ends : (groups : ℕ) → List Bool
group_ends zero = []
group_ends (suc groups) = false ∷ false ∷ group_ends groups

-- where the cursor stands: behind the word, or with a trailing context at the value of its tag
abbrev pub cursor_behind : (start : ℕ) → (word : List ℕ) → List Symbol → (slash : Option ℕ) → Option ℕ
cursor_behind start word script None = Some (start + length word)
cursor_behind start word script (Some number) = last_event number start None script
