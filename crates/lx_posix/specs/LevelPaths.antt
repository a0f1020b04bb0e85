-- Paths of a search over the states of an ordered graph and levels.
use Rattle.std.specs.Prelude.{◌≡◌, ℕ, zero, suc, ◌-◌, ◌*◌, ◌%◌, ◌<◌, ◌≤◌, ◌⊎◌, min, List, [], ◌∷◌, get_or, nat_lt, if◌then◌else◌}
use Rattle.lx_regex.specs.Automaton.{State}
use Rattle.lx_regex.specs.Term.{Term, Terms, alt, any_unit, cat, class, cons, empty, group, nil, parts, repeat, tag}
use Rattle.lx_regex.specs.Walk.{mark}
use Rattle.lx_tnfa.specs.DepthFirst.{IsIn, successors}
use Rattle.lx_tnfa.specs.LeafReadings.{IsNth}
use Rattle.lx_tdfa.specs.Graph.{graph_of}
use Rattle.lx_posix.specs.Levels.{raised}
use Rattle.lx_posix.specs.Walks.{depth}

-- the state and level is one of these
abbrev pub IsPassed : List (ℕ × ℕ) → (state level : ℕ) → Type 0
IsPassed [] state level = ⊥
IsPassed (node ∷ nodes) state level = ((node.0 ≡ state) × (node.1 ≡ level)) ⊎ IsPassed nodes state level

-- `graph` has the moves in order, and `deep` the depth of each state: how many parts are open where its moves begin.
module _ (graph : List (List ℕ)) (deep : ℕ → ℕ) where
  -- a path by moves with these indices that visits no state twice, and none to be avoided
  abbrev pub PlainPath : (avoided : List ℕ) → (state : ℕ) → (way : List ℕ) → (to : ℕ) → Type 0
  PlainPath avoided state [] to = (IsIn avoided state → ⊥) × (state ≡ to)
  PlainPath avoided state (index ∷ way) to =
      (IsIn avoided state → ⊥)
      × ((next : ℕ) × IsNth (successors graph state) index next × PlainPath (state ∷ avoided) next way to)

  -- A path of the search. It is at no state and level twice, nor at one that is to be avoided. By its first choice, 0, the level is
  -- raised by one, up to the depth of the state; by the others it goes on by a move to a state that is no less deep than the level.
  abbrev pub LevelPath : (avoided : List (ℕ × ℕ)) → (state level : ℕ) → (choices : List ℕ) → (to last : ℕ) → Type 0
  LevelPath avoided state level [] to last = (IsPassed avoided state level → ⊥) × (state ≡ to) × (level ≡ last)
  LevelPath avoided state level (zero ∷ choices) to last =
      (IsPassed avoided state level → ⊥) × (level < deep state)
      × LevelPath ((state, level) ∷ avoided) state (suc level) choices to last
  LevelPath avoided state level (suc index ∷ choices) to last =
      (IsPassed avoided state level → ⊥)
      × ((next : ℕ) × IsNth (successors graph state) index next × (level ≤ deep next)
      × LevelPath ((state, level) ∷ avoided) next level choices to last)

  abbrev pub next_state : (state index : ℕ) → ℕ
  next_state state index = get_or (successors graph state) index 0

  -- the lowest depth on a path
  abbrev pub lowest_on : (state : ℕ) → (way : List ℕ) → ℕ
  lowest_on state [] = deep state
  lowest_on state (index ∷ way) = min (deep state) (lowest_on (next_state state index) way)

  -- the choices of the search on a path, which it goes at the level of the rest of it, up to the depth of its last state
  abbrev pub level_choices : (state level : ℕ) → (way : List ℕ) → List ℕ
  level_choices state level [] = raised (deep state - level) []
  level_choices state level (index ∷ way) =
      raised (lowest_on state (index ∷ way) - level)
      (suc index ∷ level_choices (next_state state index) (lowest_on state (index ∷ way)) way)

-- The depths of the states of an automaton: how many parts are open behind the beginning or the end at which a state stands.
abbrev pub AreDepths : List State → (deep : ℕ → ℕ) → Type 0
AreDepths states deep =
    (state index next : ℕ) → IsNth (successors (graph_of states) state) index next → deep next ≡ depth (deep state) (mark next ∷ [])

-- Depths of states: those of a term, of whose states the one with this number is meant, where so many parts are open behind its end.
abbrev mutual
  pub depth_in : Term → (outer : ℕ) → (state : ℕ) → ℕ
  depth_in e outer zero = suc outer
  depth_in e outer (suc zero) = outer
  depth_in empty outer (suc (suc state)) = 0
  depth_in (class ranges) outer (suc (suc state)) = 0
  depth_in any_unit outer (suc (suc state)) = 0
  depth_in (cat members) outer (suc (suc state)) = depth_among members (suc outer) state
  depth_in (alt members) outer (suc (suc state)) = depth_among members (suc outer) state
  depth_in (repeat body low high) outer (suc (suc state)) = depth_in body (suc outer) (state % (2 * parts body))
  depth_in (tag number) outer (suc (suc state)) = 0
  depth_in (group opening closing body) outer (suc (suc state)) = depth_in body (suc outer) state

  pub depth_among : Terms → (outer : ℕ) → (state : ℕ) → ℕ
  depth_among nil outer state = 0
  depth_among (cons member members) outer state =
      if nat_lt state (2 * parts member) then depth_in member outer state else depth_among members outer (state - 2 * parts member)

-- those of rules
abbrev pub depth_of_rules : List Term → (state : ℕ) → ℕ
depth_of_rules [] state = 0
depth_of_rules (e ∷ rules) state =
    if nat_lt state (2 * parts e) then depth_in e 0 state else depth_of_rules rules (state - 2 * parts e)

-- those of the automaton of a rule list
abbrev pub state_depth : List Term → (state : ℕ) → ℕ
state_depth rules zero = 1
state_depth rules (suc zero) = 0
state_depth rules (suc (suc state)) = depth_of_rules rules state
