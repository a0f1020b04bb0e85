-- The conditions of a block as the code keeps them: how far the rules of each go, and their places.
use Rattle.std.specs.Prelude.{◌≡◌, ℕ, ◌+◌, ◌-◌, ◌<◌, ◌⊎◌, ◌==◌, Bool, false, List, [], ◌∷◌, ◌++◌, length, map, max, nat_lt, ◌||◌, slice_get, slice_index_or, Option, Some, None, if◌then◌else◌}
use Rattle.std.specs.Option.{option_map_or, option_or}
use Rattle.std.specs.List.{AllByRecursion}
use Rattle.std.specs.Map.{lookup}
use Rattle.std.specs.Str.{bytes_eq}
use Rattle.lx_base.specs.Letters.{IsIdentifier}
use Rattle.lx_base.specs.declared.limits.TheConstants.{NESTING_LIMIT, SIZE_LIMIT, TAG_LIMIT}
use Rattle.lx_parse.specs.declared.items.Item.{Item}
use Rattle.lx_parse.specs.declared.items.Item.TheVariants.{Define, Configure, Rule, Text}
use Rattle.lx_forms.specs.Lexemes.{Lexeme}
use Rattle.lx_exprs.specs.declared.values.Room.{Room}
use Rattle.lx_exprs.specs.Checks.{is_among}
use Rattle.lx_exprs.specs.Defined.{kept}
use Rattle.lx_rules.specs.Blocks.{every}
use Rattle.lx_rules.specs.Lists.{listed_words}
use Rattle.lx_rules.specs.declared.conditions.Conditions.{Conditions}
use Rattle.lx_rules.specs.declared.conditions.Conds.{Conds}
use Rattle.lx_rules.specs.declared.conditions.Conds.TheVariants.{Every, Listed}
use Rattle.lx_rules.specs.declared.conditions.FirstRule.{FirstRule}
use Rattle.lx_rules.specs.declared.conditions.KeptCondition.{KeptCondition}
use Rattle.lx_rules.specs.declared.conditions.Running.{Running}
use Rattle.lx_rules.specs.declared.conditions.Standing.{Standing}

-- so far no rules go
abbrev pub nothing_runs : Running
nothing_runs = record { size = 0; nesting = 0; tags = 0 }

-- so far some rules go with others
abbrev pub running_with : (running more : Running) → Running
running_with running more =
    record { size = kept (running.size + more.size); nesting = max running.nesting more.nesting; tags = kept (running.tags + more.tags) }

-- of two rules the one with the less number
abbrev pub earlier : (one other : Option FirstRule) → Option FirstRule
earlier None other = other
earlier (Some one) None = Some one
earlier (Some one) (Some other) = if nat_lt other.number one.number then Some other else Some one

-- no rules stand under a condition
abbrev pub nothing_stands : Standing
nothing_stands = record { running = nothing_runs; first_default = None; first_end = None }

-- rules stand under a condition with others behind them
abbrev pub standing_with : (standing more : Standing) → Standing
standing_with standing more = record {
  running = running_with standing.running more.running;
  first_default = option_or standing.first_default more.first_default;
  first_end = option_or standing.first_end more.first_end;
}

-- what a rule may have behind others: nothing behind a nesting or a number of tags that is past the limit
abbrev pub room_behind : Running → Room
room_behind running = record {
  size = if nat_lt NESTING_LIMIT running.nesting || nat_lt TAG_LIMIT running.tags then 0 else SIZE_LIMIT - running.size;
  tags = TAG_LIMIT - running.tags;
}

-- the greater room
abbrev pub wider : (room other : Room) → Room
wider room other = record { size = max room.size other.size; tags = max room.tags other.tags }

-- the names of the conditions, in the order in which they first appear
abbrev pub cond_names : Conditions → List (List ℕ)
cond_names conditions = map (λ entry. entry.0.items) conditions.named.entries

-- how the rules of a condition stand, and their places
abbrev pub condition_view : KeptCondition → Standing × List ℕ
condition_view kept = (kept.standing, kept.places.items)

-- no rules are kept
abbrev pub nothing_kept : Standing × List ℕ
nothing_kept = (nothing_stands, [])

-- what is kept of a condition
abbrev pub kept_of : Conditions → (cond : List ℕ) → Standing × List ℕ
kept_of conditions cond =
    if bytes_eq cond every then condition_view conditions.shared
    else option_map_or condition_view (lookup (λ key. bytes_eq cond key.items) conditions.named.entries) nothing_kept

-- the last of some places is this one
abbrev pub is_last : (place : ℕ) → List ℕ → Bool
is_last place places = option_map_or (λ last. last == place) (slice_get places (length places - 1)) false

-- the rule at a place, which stands so, is taken up behind others, if it is not the last of them
abbrev pub taken : (place : ℕ) → (rule : Standing) → Standing × List ℕ → Standing × List ℕ
taken place rule kept = if is_last place kept.1 then kept else (standing_with kept.0 rule, kept.1 ++ place ∷ [])

-- so the rules of a condition stand
abbrev pub standing_of : Conditions → (cond : List ℕ) → Standing
standing_of conditions cond = (kept_of conditions cond).0

-- and these are their places
abbrev pub places_of : Conditions → (cond : List ℕ) → List ℕ
places_of conditions cond = (kept_of conditions cond).1

-- so far they go
abbrev pub running_of : Conditions → (cond : List ℕ) → Running
running_of conditions cond = (standing_of conditions cond).running

-- the earliest of a rule and those that conditions have
abbrev pub earliest : (of_cond : List ℕ → Option FirstRule) → (rule : Option FirstRule) → (conds : List (List ℕ)) → Option FirstRule
earliest of_cond rule [] = rule
earliest of_cond rule (cond ∷ conds) = earliest of_cond (earlier rule (of_cond cond)) conds

-- the first rules `*` and `$` of conditions
abbrev pub earliest_default : Conditions → (conds : List (List ℕ)) → Option FirstRule
earliest_default conditions conds = earliest (λ cond. (standing_of conditions cond).first_default) None conds

abbrev pub earliest_end : Conditions → (conds : List (List ℕ)) → Option FirstRule
earliest_end conditions conds = earliest (λ cond. (standing_of conditions cond).first_end) None conds

-- the greatest room that conditions have for a rule
abbrev pub room_under : Conditions → (conds : List (List ℕ)) → Room
room_under conditions [] = record { size = 0; tags = 0 }
room_under conditions (cond ∷ conds) = wider (room_behind (running_of conditions cond)) (room_under conditions conds)

-- the conditions of a rule, of which these are the names
abbrev pub conds_seen : (names : List (List ℕ)) → Conds → List (List ℕ)
conds_seen names Every = every ∷ []
conds_seen names (Listed numbers) = map (λ number. slice_index_or names number []) numbers.items

-- each number is one of so many names
abbrev pub AreNumbers : (count : ℕ) → Conds → Type 0
AreNumbers count Every = Unit {0}
AreNumbers count (Listed numbers) = AllByRecursion (λ number. number < count) numbers.items

-- the conditions of a rule: that of `<*>` alone, or others
abbrev pub AreConds : List (List ℕ) → Type 0
AreConds conds = (conds ≡ every ∷ []) ⊎ (is_among every conds ≡ false)

-- the words of a list: that of `<*>` alone, or identifiers
abbrev pub AreListed : List (List ℕ) → Type 0
AreListed conds = (conds ≡ every ∷ []) ⊎ AllByRecursion IsIdentifier conds

-- a rule that begins at a place, and its head at another, has no list, or one of such words
abbrev pub IsListed : List Lexeme → (first head : ℕ) → Type 0
IsListed lexemes first head = (first ≡ head) ⊎ AreListed (listed_words lexemes first head)

abbrev pub HasConds : List Lexeme → Item → Type 0
HasConds lexemes (Define name from until) = Unit {0}
HasConds lexemes (Configure name value) = Unit {0}
HasConds lexemes (Rule first head slash until goes code) = IsListed lexemes first head
HasConds lexemes (Text value) = Unit {0}

abbrev pub EachHasConds : List Lexeme → List Item → Type 0
EachHasConds lexemes items = AllByRecursion (HasConds lexemes) items
